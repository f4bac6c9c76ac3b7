-- The head of a value: what is read is spelled so, what is spelled so is read, and why none is read.
use Rattle.std.proofs.Common.{◌≡◌, ℕ, suc, ◌+◌, ◌*◌, ◌-◌, ◌<◌, ◌≤◌, true, false, ltb, eqb, List, [], ◌∷◌, ◌++◌, length, replicate, take, drop, Result, Ok, Err, refl, sym, ap, ◌∙◌, subst, append_assoc, inl, inr, ◌⊎◌, ℤ, pos, ◌-ℤ◌, arith}
use Rattle.std.specs.Prelude.{nat_lt, if◌then◌else◌}
use Rattle.std.proofs.lemmas.Bool.{cond_both, ltb-true, ltb-false, eqb-true, eqb-false, lt-ltb, le-ltb}
use Rattle.std.proofs.lemmas.List.{append-nil, take_at, drop_at, take-append-drop, length-append, length-replicate, length-take}
use Rattle.byteorder.specs.Endian.{big_number, twos_complement}
use Rattle.mx_msgpack.specs.declared.bad.Bad.{Bad}
use Rattle.mx_msgpack.specs.declared.bad.Bad.TheVariants.{Unused, Short}
use Rattle.mx_msgpack.specs.declared.head.Head.{Head}
use Rattle.mx_msgpack.specs.declared.head.Head.TheVariants.{Nil, Bool as Boolean, Int, Str, Bin, Array, Map, Fixed, Extension}
use Rattle.mx_msgpack.specs.Grammar.{SpellsNumber, SpellsUnsigned, SpellsSigned, SpellsInt, SpellsFew, StrHead, BinHead, ArrayHead, MapHead}
use Rattle.mx_msgpack.specs.Faults.{SpellsFixed, FixedHead, ExtensionHead, IsAnyHead, EndInHead, IsUnused}
use Rattle.mx_msgpack.specs.Reading.{head_at, low_head, number_head, sized_head}
use Rattle.mx_msgpack.proofs.Results.{ok_is}

-- the bytes, all of them, spell the head
abbrev pub SpellsHead : Head → List ℕ → Type 0
SpellsHead Nil front = front ≡ 0xc0 ∷ []
SpellsHead (Boolean truth) front = front ≡ (if truth then 0xc3 else 0xc2) ∷ []
SpellsHead (Int number) front = SpellsInt number front
SpellsHead (Str size) front = StrHead size front
SpellsHead (Bin size) front = BinHead size front
SpellsHead (Array count) front = ArrayHead count front
SpellsHead (Map count) front = MapHead count front
SpellsHead (Fixed size) front = FixedHead size front
SpellsHead (Extension size) front = ExtensionHead size front

-- a head with the number in this many bytes, and the bytes after it
abbrev digits_at : (ℕ → Head) → ℕ → List ℕ → Result (Head × List ℕ) Bad
digits_at head width rest = if nat_lt (length rest) width then Err Short else Ok (head (big_number width (take width rest)), drop width rest)

abbrev unsigned : ℕ → Head
unsigned number = Int (pos number)

abbrev signed : ℕ → ℕ → Head
signed width number = Int (twos_complement width number)

-- a head by what it is of
any_head : (head : Head) (front : List ℕ) → SpellsHead head front → IsAnyHead front
any_head Nil front s = inl s
any_head (Boolean truth) front s = inr (inl (truth, s))
any_head (Int number) front s = inr (inr (inl (number, s)))
any_head (Str size) front s = inr (inr (inr (inl (size, size, inl (inl s, refl)))))
any_head (Bin size) front s = inr (inr (inr (inl (size, size, inl (inr (inl s), refl)))))
any_head (Array count) front s = inr (inr (inr (inr (count, count, inl (s, refl)))))
any_head (Map count) front s = inr (inr (inr (inr (count, 2 * count, inr (s, refl)))))
any_head (Fixed size) front s = inr (inr (inr (inl (size, size, inl (inr (inr s), refl)))))
any_head (Extension size) front s = inr (inr (inr (inl (size, suc size, inr (s, refl)))))

some_head : (front : List ℕ) → IsAnyHead front → (head : Head) × SpellsHead head front
some_head front s =
    elim s [
      | inl s ↦ (Nil, s)
      | inr (inl (truth, s)) ↦ (Boolean truth, s)
      | inr (inr (inl (number, s))) ↦ (Int number, s)
      | inr (inr (inr (inl (size, follow, inl (inl s, e))))) ↦ (Str size, s)
      | inr (inr (inr (inl (size, follow, inl (inr (inl s), e))))) ↦ (Bin size, s)
      | inr (inr (inr (inl (size, follow, inl (inr (inr s), e))))) ↦ (Fixed size, s)
      | inr (inr (inr (inl (size, follow, inr (s, e))))) ↦ (Extension size, s)
      | inr (inr (inr (inr (count, follow, inl (s, e))))) ↦ (Array count, s)
      | inr (inr (inr (inr (count, follow, inr (s, e))))) ↦ (Map count, s)
    ]

-- ---- what is read is spelled

-- no head stands first, for one of these reasons
abbrev pub HeadFault : ℕ → List ℕ → Bad → Type 0
HeadFault at bytes bad =
    ((leading : ℕ) × (rest : List ℕ) × (bytes ≡ leading ∷ rest) × IsUnused leading × (bad ≡ Unused at)) ⊎ (EndInHead bytes × (bad ≡ Short))

-- what was read from the bytes at this place is a head at their start, or else why there is none
abbrev IsRead : ℕ → List ℕ → Result (Head × List ℕ) Bad → Type 0
IsRead at bytes (Ok found) = (front : List ℕ) × (bytes ≡ front ++ found.1) × SpellsHead found.0 front
IsRead at bytes (Err bad) = HeadFault at bytes bad

byte_read : (at leading : ℕ) (rest : List ℕ) (head : Head) → SpellsHead head (leading ∷ []) → IsRead at (leading ∷ rest) (Ok (head, rest))
byte_read at leading rest head s = (leading ∷ [], refl, s)

-- the same where the leading byte is known
led_read : (at leading known : ℕ) (rest : List ℕ) (head : Head) → eqb leading known ≡ true → SpellsHead head (known ∷ []) → IsRead at (leading ∷ rest) (Ok (head, rest))
led_read at leading known rest head t s = rw (eqb-true _ _ t) (byte_read at known rest head s)

-- the bytes end inside the number
number_ends : (leading width : ℕ) (rest : List ℕ) (head : ℕ → Head) → ((number : ℕ) (front : List ℕ) → SpellsNumber leading width number front → SpellsHead (head number) front)
    → length rest < width → EndInHead (leading ∷ rest)
number_ends leading width rest head row short =
    let missing = replicate (width - length rest) 0 in
    let l : length missing ≡ width - length rest = length-replicate (width - length rest) 0 in
    let digits : length (rest ++ missing) ≡ width = omega (arith, length-append rest missing) in
    let number = big_number width (rest ++ missing) in
    (missing, omega arith, any_head (head number) (leading ∷ (rest ++ missing)) (row number (leading ∷ (rest ++ missing)) (rest ++ missing, digits, refl, refl)))

number_read : (at leading width : ℕ) (rest : List ℕ) (head : ℕ → Head) → ((number : ℕ) (front : List ℕ) → SpellsNumber leading width number front → SpellsHead (head number) front)
    → IsRead at (leading ∷ rest) (digits_at head width rest)
number_read at leading width rest head row =
    cond_both (ltb (length rest) width) _ _ (λ (r : Result (Head × List ℕ) Bad). IsRead at (leading ∷ rest) r)
    (λ t. inr (number_ends leading width rest head row (ltb-true _ _ t), refl))
    (λ f.
    let long : width ≤ length rest = ltb-false _ _ f in
    let digits : length (take width rest) ≡ width = omega (arith, length-take width rest) in (
      leading ∷ take width rest,
      ap (λ (bytes : List ℕ). leading ∷ bytes) (sym (take-append-drop width rest)),
      row (big_number width (take width rest)) (leading ∷ take width rest) (take width rest, digits, refl, refl),
    ))

row_read : (at leading known width : ℕ) (rest : List ℕ) (head : ℕ → Head) → leading ≡ known
    → ((number : ℕ) (front : List ℕ) → SpellsNumber known width number front → SpellsHead (head number) front) → IsRead at (leading ∷ rest) (digits_at head width rest)
row_read at leading known width rest head e row = rw e (number_read at known width rest head row)

-- the leading bytes from c0 to c9
low_read : (at leading : ℕ) (rest : List ℕ) → 0xc0 ≤ leading → leading < 0xca → IsRead at (leading ∷ rest) (low_head at leading rest)
low_read at leading rest low high =
    let P = λ (r : Result (Head × List ℕ) Bad). IsRead at (leading ∷ rest) r in
    cond_both (eqb leading 0xc0) _ _ P (λ t. led_read at leading 0xc0 rest Nil t refl) (λ f1.
    cond_both (eqb leading 0xc2) _ _ P (λ t. led_read at leading 0xc2 rest (Boolean false) t refl) (λ f2.
    cond_both (eqb leading 0xc3) _ _ P (λ t. led_read at leading 0xc3 rest (Boolean true) t refl) (λ f3.
    cond_both (eqb leading 0xc4) _ _ P (λ t. row_read at leading 0xc4 1 rest (λ n. Bin n) (eqb-true _ _ t) (λ number front s. inl s)) (λ f4.
    cond_both (eqb leading 0xc5) _ _ P (λ t. row_read at leading 0xc5 2 rest (λ n. Bin n) (eqb-true _ _ t) (λ number front s. inr (inl s))) (λ f5.
    cond_both (eqb leading 0xc6) _ _ P (λ t. row_read at leading 0xc6 4 rest (λ n. Bin n) (eqb-true _ _ t) (λ number front s. inr (inr s))) (λ f6.
    cond_both (eqb leading 0xc7) _ _ P (λ t. row_read at leading 0xc7 1 rest (λ n. Extension n) (eqb-true _ _ t) (λ number front s. inl s)) (λ f7.
    cond_both (eqb leading 0xc8) _ _ P (λ t. row_read at leading 0xc8 2 rest (λ n. Extension n) (eqb-true _ _ t) (λ number front s. inr (inl s))) (λ f8.
    cond_both (eqb leading 0xc9) _ _ P (λ t. row_read at leading 0xc9 4 rest (λ n. Extension n) (eqb-true _ _ t) (λ number front s. inr (inr s))) (λ f9.
    let last : leading ≡ 0xc1 =
    omega (
      arith,
      eqb-false _ _ f1,
      eqb-false _ _ f2,
      eqb-false _ _ f3,
      eqb-false _ _ f4,
      eqb-false _ _ f5,
      eqb-false _ _ f6,
      eqb-false _ _ f7,
      eqb-false _ _ f8,
      eqb-false _ _ f9,
    ) in
    inl (leading, rest, refl, inl last, refl))))))))))

-- those from ca to d8
number_row : (at leading : ℕ) (rest : List ℕ) → 0xca ≤ leading → leading < 0xd9 → IsRead at (leading ∷ rest) (number_head leading rest)
number_row at leading rest low high =
    let P = λ (r : Result (Head × List ℕ) Bad). IsRead at (leading ∷ rest) r in
    cond_both (eqb leading 0xca) _ _ P (λ t. led_read at leading 0xca rest (Fixed 4) t (inl (refl, refl))) (λ f1.
    cond_both (eqb leading 0xcb) _ _ P (λ t. led_read at leading 0xcb rest (Fixed 8) t (inr (inl (refl, refl)))) (λ f2.
    cond_both (eqb leading 0xcc) _ _ P (λ t. row_read at leading 0xcc 1 rest unsigned (eqb-true _ _ t) (λ number front s. inl (number, refl, inr (inl s)))) (λ f3.
    cond_both (eqb leading 0xcd) _ _ P (λ t. row_read at leading 0xcd 2 rest unsigned (eqb-true _ _ t) (λ number front s. inl (number, refl, inr (inr (inl s))))) (λ f4.
    cond_both (eqb leading 0xce) _ _ P (λ t. row_read at leading 0xce 4 rest unsigned (eqb-true _ _ t) (λ number front s. inl (number, refl, inr (inr (inr (inl s)))))) (λ f5.
    cond_both (eqb leading 0xcf) _ _ P (λ t. row_read at leading 0xcf 8 rest unsigned (eqb-true _ _ t) (λ number front s. inl (number, refl, inr (inr (inr (inr s)))))) (λ f6.
    cond_both (eqb leading 0xd0) _ _ P (λ t. row_read at leading 0xd0 1 rest (signed 1) (eqb-true _ _ t) (λ number front s. inr (inr (inl (number, s, refl))))) (λ f7.
    cond_both (eqb leading 0xd1) _ _ P (λ t. row_read at leading 0xd1 2 rest (signed 2) (eqb-true _ _ t) (λ number front s. inr (inr (inr (inl (number, s, refl)))))) (λ f8.
    cond_both (eqb leading 0xd2) _ _ P (λ t. row_read at leading 0xd2 4 rest (signed 4) (eqb-true _ _ t) (λ number front s. inr (inr (inr (inr (inl (number, s, refl))))))) (λ f9.
    cond_both (eqb leading 0xd3) _ _ P (λ t. row_read at leading 0xd3 8 rest (signed 8) (eqb-true _ _ t) (λ number front s. inr (inr (inr (inr (inr (number, s, refl))))))) (λ f10.
    cond_both (eqb leading 0xd4) _ _ P (λ t. led_read at leading 0xd4 rest (Fixed 2) t (inr (inr (inl (refl, refl))))) (λ f11.
    cond_both (eqb leading 0xd5) _ _ P (λ t. led_read at leading 0xd5 rest (Fixed 3) t (inr (inr (inr (inl (refl, refl)))))) (λ f12.
    cond_both (eqb leading 0xd6) _ _ P (λ t. led_read at leading 0xd6 rest (Fixed 5) t (inr (inr (inr (inr (inl (refl, refl))))))) (λ f13.
    cond_both (eqb leading 0xd7) _ _ P (λ t. led_read at leading 0xd7 rest (Fixed 9) t (inr (inr (inr (inr (inr (inl (refl, refl)))))))) (λ f14.
    let last : leading ≡ 0xd8 =
    omega (
      arith,
      eqb-false _ _ f1,
      eqb-false _ _ f2,
      eqb-false _ _ f3,
      eqb-false _ _ f4,
      eqb-false _ _ f5,
      eqb-false _ _ f6,
      eqb-false _ _ f7,
      eqb-false _ _ f8,
      eqb-false _ _ f9,
      eqb-false _ _ f10,
      eqb-false _ _ f11,
      eqb-false _ _ f12,
      eqb-false _ _ f13,
      eqb-false _ _ f14,
    ) in
    rw last (byte_read at 0xd8 rest (Fixed 17) (inr (inr (inr (inr (inr (inr (refl, refl))))))))))))))))))))))

-- those from d9 to df
sized_row : (at leading : ℕ) (rest : List ℕ) → 0xd9 ≤ leading → leading < 0xe0 → IsRead at (leading ∷ rest) (sized_head leading rest)
sized_row at leading rest low high =
    let P = λ (r : Result (Head × List ℕ) Bad). IsRead at (leading ∷ rest) r in
    cond_both (eqb leading 0xd9) _ _ P (λ t. row_read at leading 0xd9 1 rest (λ n. Str n) (eqb-true _ _ t) (λ number front s. inr (inl s))) (λ f1.
    cond_both (eqb leading 0xda) _ _ P (λ t. row_read at leading 0xda 2 rest (λ n. Str n) (eqb-true _ _ t) (λ number front s. inr (inr (inl s)))) (λ f2.
    cond_both (eqb leading 0xdb) _ _ P (λ t. row_read at leading 0xdb 4 rest (λ n. Str n) (eqb-true _ _ t) (λ number front s. inr (inr (inr s)))) (λ f3.
    cond_both (eqb leading 0xdc) _ _ P (λ t. row_read at leading 0xdc 2 rest (λ n. Array n) (eqb-true _ _ t) (λ number front s. inr (inl s))) (λ f4.
    cond_both (eqb leading 0xdd) _ _ P (λ t. row_read at leading 0xdd 4 rest (λ n. Array n) (eqb-true _ _ t) (λ number front s. inr (inr s))) (λ f5.
    cond_both (eqb leading 0xde) _ _ P (λ t. row_read at leading 0xde 2 rest (λ n. Map n) (eqb-true _ _ t) (λ number front s. inr (inl s))) (λ f6.
    let last : leading ≡ 0xdf = omega (arith, eqb-false _ _ f1, eqb-false _ _ f2, eqb-false _ _ f3, eqb-false _ _ f4, eqb-false _ _ f5, eqb-false _ _ f6) in
    row_read at leading 0xdf 4 rest (λ n. Map n) last (λ number front s. inr (inr s))))))))

head_read : (at : ℕ) (bytes : List ℕ) → IsRead at bytes (head_at at bytes)
unfolding head_at
head_read at [] = inr ((0xc0 ∷ [], omega arith, inl refl), refl)
head_read at (leading ∷ rest) =
    let P = λ (r : Result (Head × List ℕ) Bad). IsRead at (leading ∷ rest) r in
    cond_both (ltb leading 0x80) _ _ P (λ t. byte_read at leading rest (Int (pos leading)) (inl (leading, refl, inl (ltb-true _ _ t, refl)))) (λ f1.
    cond_both (ltb leading 0x90) _ _ P
    (λ t. byte_read at leading rest (Map (leading - 0x80)) (inl (omega (arith, ltb-true _ _ t, ltb-false _ _ f1), ap (λ (k : ℕ). k ∷ []) (omega (arith, ltb-false _ _ f1))))) (λ f2.
    cond_both (ltb leading 0xa0) _ _ P
    (λ t. byte_read at leading rest (Array (leading - 0x90)) (inl (omega (arith, ltb-true _ _ t, ltb-false _ _ f2), ap (λ (k : ℕ). k ∷ []) (omega (arith, ltb-false _ _ f2))))) (λ f3.
    cond_both (ltb leading 0xc0) _ _ P
    (λ t. byte_read at leading rest (Str (leading - 0xa0)) (inl (omega (arith, ltb-true _ _ t, ltb-false _ _ f3), ap (λ (k : ℕ). k ∷ []) (omega (arith, ltb-false _ _ f3))))) (λ f4.
    cond_both (ltb leading 0xca) _ _ P (λ t. low_read at leading rest (ltb-false _ _ f4) (ltb-true _ _ t)) (λ f5.
    cond_both (ltb leading 0xd9) _ _ P (λ t. number_row at leading rest (ltb-false _ _ f5) (ltb-true _ _ t)) (λ f6.
    cond_both (ltb leading 0xe0) _ _ P (λ t. sized_row at leading rest (ltb-false _ _ f6) (ltb-true _ _ t)) (λ f7.
    cond_both (ltb leading 0x100) _ _ P
    (λ t. byte_read at leading rest (Int (pos leading -ℤ pos 0x100)) (inr (inl (leading, ltb-false _ _ f7, ltb-true _ _ t, refl, refl)))) (λ f8.
    inl (leading, rest, refl, inr (ltb-false _ _ f8), refl)))))))))

pub head_spelled : (at : ℕ) (bytes : List ℕ) (head : Head) (rest : List ℕ) → head_at at bytes ≡ Ok (head, rest)
    → (front : List ℕ) × (bytes ≡ front ++ rest) × SpellsHead head front
head_spelled at bytes head rest e = subst (λ (r : Result (Head × List ℕ) Bad). IsRead at bytes r) e (head_read at bytes)

pub headless : (at : ℕ) (bytes : List ℕ) (bad : Bad) → head_at at bytes ≡ Err bad → HeadFault at bytes bad
headless at bytes bad e = subst (λ (r : Result (Head × List ℕ) Bad). IsRead at bytes r) e (head_read at bytes)

-- ---- what is spelled is read

number_again : (width number : ℕ) (digits rest : List ℕ) (head : ℕ → Head) → length digits ≡ width → number ≡ big_number width digits
    → digits_at head width (digits ++ rest) ≡ Ok (head number, rest)
number_again width number digits rest head len e =
    let long : ltb (length (digits ++ rest)) width ≡ false = le-ltb _ _ (omega (arith, length-append digits rest)) in
    rw (long, take_at digits rest width len, drop_at digits rest width len, e) refl

-- where a leading byte is followed by a number
row_again : (at leading width number : ℕ) (front rest : List ℕ) (head : ℕ → Head) → ((digits : List ℕ) → head_at at (leading ∷ digits) ≡ digits_at head width digits)
    → SpellsNumber leading width number front → head_at at (front ++ rest) ≡ Ok (head number, rest)
row_again at leading width number front rest head row (digits, len, n, e) =
    rw (e, row (digits ++ rest)) (number_again width number digits rest head len n)

-- where the leading byte gives the length too
few_again : (at leading limit size : ℕ) (front rest : List ℕ) (head : Head) → ((leading + size) < leading + limit → head_at at ((leading + size) ∷ rest) ≡ Ok (head, rest))
    → SpellsFew leading limit size front → head_at at (front ++ rest) ≡ Ok (head, rest)
few_again at leading limit size front rest head row (lt, e) = rw e (row (omega arith))

-- where it gives all
byte_again : (at leading : ℕ) (front rest : List ℕ) (head : Head) → head_at at (leading ∷ rest) ≡ Ok (head, rest) → front ≡ leading ∷ [] → head_at at (front ++ rest) ≡ Ok (head, rest)
byte_again at leading front rest head row e = rw e row

unsigned_again : (at number : ℕ) (front rest : List ℕ) → SpellsUnsigned number front → head_at at (front ++ rest) ≡ Ok (Int (pos number), rest)
unfolding head_at
unsigned_again at number front rest s =
    elim s [
      | inl (lt, e) ↦ let small : ltb number 0x80 ≡ true = lt-ltb _ _ lt in rw (e, small) refl
      | inr (inl s) ↦ row_again at 0xcc 1 number front rest unsigned (λ _. refl) s
      | inr (inr (inl s)) ↦ row_again at 0xcd 2 number front rest unsigned (λ _. refl) s
      | inr (inr (inr (inl s))) ↦ row_again at 0xce 4 number front rest unsigned (λ _. refl) s
      | inr (inr (inr (inr s))) ↦ row_again at 0xcf 8 number front rest unsigned (λ _. refl) s
    ]

-- the byte itself for a number below 0
negative_again : (at byte : ℕ) (rest : List ℕ) → 0xe0 ≤ byte → byte < 0x100 → head_at at (byte ∷ rest) ≡ Ok (Int (pos byte -ℤ pos 0x100), rest)
unfolding head_at
negative_again at byte rest low high =
    let f1 : ltb byte 0x80 ≡ false = le-ltb _ _ (omega arith) in
    let f2 : ltb byte 0x90 ≡ false = le-ltb _ _ (omega arith) in
    let f3 : ltb byte 0xa0 ≡ false = le-ltb _ _ (omega arith) in
    let f4 : ltb byte 0xc0 ≡ false = le-ltb _ _ (omega arith) in
    let f5 : ltb byte 0xca ≡ false = le-ltb _ _ (omega arith) in
    let f6 : ltb byte 0xd9 ≡ false = le-ltb _ _ (omega arith) in
    let f7 : ltb byte 0xe0 ≡ false = le-ltb _ _ low in
    let t : ltb byte 0x100 ≡ true = lt-ltb _ _ high in
    rw (f1, f2, f3, f4, f5, f6, f7, t) refl

signed_again : (at leading width : ℕ) (number : ℤ) (front rest : List ℕ) → ((digits : List ℕ) → head_at at (leading ∷ digits) ≡ digits_at (signed width) width digits)
    → SpellsSigned leading width number front → head_at at (front ++ rest) ≡ Ok (Int number, rest)
signed_again at leading width number front rest row (n, s, e) = rw e (row_again at leading width n front rest (signed width) row s)

int_again : (at : ℕ) (number : ℤ) (front rest : List ℕ) → SpellsInt number front → head_at at (front ++ rest) ≡ Ok (Int number, rest)
unfolding head_at
int_again at number front rest s =
    elim s [
      | inl (n, e, s) ↦ rw e (unsigned_again at n front rest s)
      | inr (inl (byte, low, high, n, e)) ↦ rw (n, e) (negative_again at byte rest low high)
      | inr (inr (inl s)) ↦ signed_again at 0xd0 1 number front rest (λ _. refl) s
      | inr (inr (inr (inl s))) ↦ signed_again at 0xd1 2 number front rest (λ _. refl) s
      | inr (inr (inr (inr (inl s)))) ↦ signed_again at 0xd2 4 number front rest (λ _. refl) s
      | inr (inr (inr (inr (inr s)))) ↦ signed_again at 0xd3 8 number front rest (λ _. refl) s
    ]

str_again : (at size : ℕ) (front rest : List ℕ) → StrHead size front → head_at at (front ++ rest) ≡ Ok (Str size, rest)
unfolding head_at
str_again at size front rest s =
    elim s [
      | inl s ↦
          few_again at 0xa0 0x20 size front rest (Str size) (λ lt.
          let f1 : ltb (0xa0 + size) 0x80 ≡ false = le-ltb _ _ (omega arith) in
          let f2 : ltb (0xa0 + size) 0x90 ≡ false = le-ltb _ _ (omega arith) in
          let f3 : ltb (0xa0 + size) 0xa0 ≡ false = le-ltb _ _ (omega arith) in
          let t : ltb (0xa0 + size) 0xc0 ≡ true = lt-ltb _ _ (omega arith) in
          let n : (0xa0 + size) - 0xa0 ≡ size = omega arith in
          rw (f1, f2, f3, t, n) refl) s
      | inr (inl s) ↦ row_again at 0xd9 1 size front rest (λ n. Str n) (λ _. refl) s
      | inr (inr (inl s)) ↦ row_again at 0xda 2 size front rest (λ n. Str n) (λ _. refl) s
      | inr (inr (inr s)) ↦ row_again at 0xdb 4 size front rest (λ n. Str n) (λ _. refl) s
    ]

bin_again : (at size : ℕ) (front rest : List ℕ) → BinHead size front → head_at at (front ++ rest) ≡ Ok (Bin size, rest)
unfolding head_at
bin_again at size front rest s =
    elim s [
      | inl s ↦ row_again at 0xc4 1 size front rest (λ n. Bin n) (λ _. refl) s
      | inr (inl s) ↦ row_again at 0xc5 2 size front rest (λ n. Bin n) (λ _. refl) s
      | inr (inr s) ↦ row_again at 0xc6 4 size front rest (λ n. Bin n) (λ _. refl) s
    ]

array_again : (at count : ℕ) (front rest : List ℕ) → ArrayHead count front → head_at at (front ++ rest) ≡ Ok (Array count, rest)
unfolding head_at
array_again at count front rest s =
    elim s [
      | inl s ↦
          few_again at 0x90 0x10 count front rest (Array count) (λ lt.
          let f1 : ltb (0x90 + count) 0x80 ≡ false = le-ltb _ _ (omega arith) in
          let f2 : ltb (0x90 + count) 0x90 ≡ false = le-ltb _ _ (omega arith) in
          let t : ltb (0x90 + count) 0xa0 ≡ true = lt-ltb _ _ (omega arith) in
          let n : (0x90 + count) - 0x90 ≡ count = omega arith in
          rw (f1, f2, t, n) refl) s
      | inr (inl s) ↦ row_again at 0xdc 2 count front rest (λ n. Array n) (λ _. refl) s
      | inr (inr s) ↦ row_again at 0xdd 4 count front rest (λ n. Array n) (λ _. refl) s
    ]

map_again : (at count : ℕ) (front rest : List ℕ) → MapHead count front → head_at at (front ++ rest) ≡ Ok (Map count, rest)
unfolding head_at
map_again at count front rest s =
    elim s [
      | inl s ↦
          few_again at 0x80 0x10 count front rest (Map count) (λ lt.
          let f1 : ltb (0x80 + count) 0x80 ≡ false = le-ltb _ _ (omega arith) in
          let t : ltb (0x80 + count) 0x90 ≡ true = lt-ltb _ _ (omega arith) in
          let n : (0x80 + count) - 0x80 ≡ count = omega arith in
          rw (f1, t, n) refl) s
      | inr (inl s) ↦ row_again at 0xde 2 count front rest (λ n. Map n) (λ _. refl) s
      | inr (inr s) ↦ row_again at 0xdf 4 count front rest (λ n. Map n) (λ _. refl) s
    ]

fixed_again : (at leading wanted size : ℕ) (front rest : List ℕ) → head_at at (leading ∷ rest) ≡ Ok (Fixed wanted, rest) → SpellsFixed leading wanted size front
    → head_at at (front ++ rest) ≡ Ok (Fixed size, rest)
fixed_again at leading wanted size front rest row (n, e) = rw n (byte_again at leading front rest (Fixed wanted) row e)

float_again : (at size : ℕ) (front rest : List ℕ) → FixedHead size front → head_at at (front ++ rest) ≡ Ok (Fixed size, rest)
unfolding head_at
float_again at size front rest s =
    elim s [
      | inl s ↦ fixed_again at 0xca 4 size front rest refl s
      | inr (inl s) ↦ fixed_again at 0xcb 8 size front rest refl s
      | inr (inr (inl s)) ↦ fixed_again at 0xd4 2 size front rest refl s
      | inr (inr (inr (inl s))) ↦ fixed_again at 0xd5 3 size front rest refl s
      | inr (inr (inr (inr (inl s)))) ↦ fixed_again at 0xd6 5 size front rest refl s
      | inr (inr (inr (inr (inr (inl s))))) ↦ fixed_again at 0xd7 9 size front rest refl s
      | inr (inr (inr (inr (inr (inr s))))) ↦ fixed_again at 0xd8 17 size front rest refl s
    ]

extension_again : (at size : ℕ) (front rest : List ℕ) → ExtensionHead size front → head_at at (front ++ rest) ≡ Ok (Extension size, rest)
unfolding head_at
extension_again at size front rest s =
    elim s [
      | inl s ↦ row_again at 0xc7 1 size front rest (λ n. Extension n) (λ _. refl) s
      | inr (inl s) ↦ row_again at 0xc8 2 size front rest (λ n. Extension n) (λ _. refl) s
      | inr (inr s) ↦ row_again at 0xc9 4 size front rest (λ n. Extension n) (λ _. refl) s
    ]

pub head_again : (at : ℕ) (head : Head) (front rest : List ℕ) → SpellsHead head front → head_at at (front ++ rest) ≡ Ok (head, rest)
unfolding head_at
head_again at Nil front rest s = byte_again at 0xc0 front rest Nil refl s
head_again at (Boolean true) front rest s = byte_again at 0xc3 front rest (Boolean true) refl s
head_again at (Boolean false) front rest s = byte_again at 0xc2 front rest (Boolean false) refl s
head_again at (Int number) front rest s = int_again at number front rest s
head_again at (Str size) front rest s = str_again at size front rest s
head_again at (Bin size) front rest s = bin_again at size front rest s
head_again at (Array count) front rest s = array_again at count front rest s
head_again at (Map count) front rest s = map_again at count front rest s
head_again at (Fixed size) front rest s = float_again at size front rest s
head_again at (Extension size) front rest s = extension_again at size front rest s

-- ---- where no head stands first, none is read

pub unused_read : (at leading : ℕ) (rest : List ℕ) → IsUnused leading → head_at at (leading ∷ rest) ≡ Err (Unused at)
unfolding head_at
unused_read at leading rest (inl e) = rw e refl
unused_read at leading rest (inr high) =
    let f1 : ltb leading 0x80 ≡ false = le-ltb _ _ (omega arith) in
    let f2 : ltb leading 0x90 ≡ false = le-ltb _ _ (omega arith) in
    let f3 : ltb leading 0xa0 ≡ false = le-ltb _ _ (omega arith) in
    let f4 : ltb leading 0xc0 ≡ false = le-ltb _ _ (omega arith) in
    let f5 : ltb leading 0xca ≡ false = le-ltb _ _ (omega arith) in
    let f6 : ltb leading 0xd9 ≡ false = le-ltb _ _ (omega arith) in
    let f7 : ltb leading 0xe0 ≡ false = le-ltb _ _ (omega arith) in
    let f8 : ltb leading 0x100 ≡ false = le-ltb _ _ high in
    rw (f1, f2, f3, f4, f5, f6, f7, f8) refl

-- a head doesn't end within another one
ends_before : (at : ℕ) (bytes missing : List ℕ) (found : Head × List ℕ) → 1 ≤ length missing → IsAnyHead (bytes ++ missing) → head_at at bytes ≡ Ok found → ⊥
ends_before at bytes missing found some s e =
    let w = head_spelled at bytes found.0 found.1 e in
    let h = some_head (bytes ++ missing) s in
    let whole : bytes ++ missing ≡ w.0 ++ (found.1 ++ missing) = ap (λ (l : List ℕ). l ++ missing) w.1 ∙ append_assoc w.0 found.1 missing in
    let one = ap (head_at at) whole ∙ head_again at found.0 w.0 (found.1 ++ missing) w.2 in
    let two = ap (head_at at) (sym (append-nil (bytes ++ missing))) ∙ head_again at h.0 (bytes ++ missing) [] h.1 in
    let same = ok_is (found.0, found.1 ++ missing) (h.0, []) (sym one ∙ two) in
    omega (arith, some, length-append found.1 missing, ap (λ (x : Head × List ℕ). length x.1) same)

-- a head doesn't begin with a byte that begins none
begins_some : (at leading : ℕ) (bytes rest missing : List ℕ) → bytes ≡ leading ∷ rest → IsUnused leading → IsAnyHead (bytes ++ missing) → ⊥
begins_some at leading bytes rest missing parts unused s =
    let h = some_head (bytes ++ missing) s in
    let one = ap (head_at at) (ap (λ (l : List ℕ). l ++ missing) parts) ∙ unused_read at leading (rest ++ missing) unused in
    let two = ap (head_at at) (sym (append-nil (bytes ++ missing))) ∙ head_again at h.0 (bytes ++ missing) [] h.1 in
    let none : ◌≡◌ {A = Result (Head × List ℕ) Bad} (Err (Unused at)) (Ok (h.0, [])) = sym one ∙ two in
    absurd cc

pub ends_read : (at : ℕ) (bytes : List ℕ) → EndInHead bytes → head_at at bytes ≡ Err Short
ends_read at bytes (missing, some, s) = by_read (head_at at bytes) refl
  where
    by_read : (read : Result (Head × List ℕ) Bad) → head_at at bytes ≡ read → head_at at bytes ≡ Err Short
    by_read (Ok found) is = absurd (ends_before at bytes missing found some s is)
    by_read (Err bad) is =
        elim (headless at bytes bad is) [
          | inl (leading, rest, parts, unused, e) ↦ absurd (begins_some at leading bytes rest missing parts unused s)
          | inr (cut, e) ↦ is ∙ ap Err e
        ]
