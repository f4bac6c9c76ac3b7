-- Numbers as the grammar spells them, and the size that is read of them.
use Rattle.std.proofs.Common.{◌≡◌, ℕ, zero, suc, ◌<◌, ◌≤◌, false, ltb, eqb, List, [], ◌∷◌, ◌++◌, length, take, drop, Option, Some, None, refl, sym, ap, ◌∙◌, inl, inr, ◌⊎◌, arith}
use Rattle.std.specs.Prelude.{replicate}
use Rattle.std.proofs.lemmas.Bool.{cond_both, ltb-true, eqb-true, lt-ltb, le-ltb}
use Rattle.std.proofs.lemmas.List.{take_at, drop_at, length-append, length-replicate, nil_from_length}
use Rattle.byteorder.specs.Endian.{big_number}
use Rattle.mx_msgpack.specs.Grammar.{SpellsUnsigned}
use Rattle.mx_frame.specs.Packets.{Part, Wrong, max_packet_size, width_behind, size_in_limit, size_at}
use Rattle.mx_frame.specs.Spelled.{StartsNoUnsigned}

-- a number begins with this byte, and so many bytes of it follow
abbrev pub Leads : ℕ → ℕ → Type 0
Leads leading width =
    ((leading < 0x80) × (width ≡ 0))
    ⊎ ((leading ≡ 0xcc) × (width ≡ 1))
    ⊎ ((leading ≡ 0xcd) × (width ≡ 2))
    ⊎ ((leading ≡ 0xce) × (width ≡ 4))
    ⊎ ((leading ≡ 0xcf) × (width ≡ 8))

abbrev some : ℕ → Option ℕ
some width = Some width

pub leads : (leading width : ℕ) → width_behind leading ≡ Some width → Leads leading width
leads leading width =
    let P = λ (o : Option ℕ). o ≡ some width → Leads leading width in
    cond_both (ltb leading 0x80) _ _ P (λ t e. inl (ltb-true _ _ t, (cc))) (λ _.
    cond_both (eqb leading 0xcc) _ _ P (λ t e. inr (inl (eqb-true _ _ t, (cc)))) (λ _.
    cond_both (eqb leading 0xcd) _ _ P (λ t e. inr (inr (inl (eqb-true _ _ t, (cc))))) (λ _.
    cond_both (eqb leading 0xce) _ _ P (λ t e. inr (inr (inr (inl (eqb-true _ _ t, (cc)))))) (λ _.
    cond_both (eqb leading 0xcf) _ _ P (λ t e. inr (inr (inr (inr (eqb-true _ _ t, (cc)))))) (λ _ e. absurd cc)))))

pub width_is : (leading width : ℕ) → Leads leading width → width_behind leading ≡ Some width
width_is leading width (inl (lt, w)) = rw (lt-ltb leading 0x80 lt, w) refl
width_is leading width (inr (inl (l, w))) = rw (l, w) refl
width_is leading width (inr (inr (inl (l, w)))) = rw (l, w) refl
width_is leading width (inr (inr (inr (inl (l, w))))) = rw (l, w) refl
width_is leading width (inr (inr (inr (inr (l, w))))) = rw (l, w) refl

-- the number of a leading byte and the bytes after it
abbrev pub number_of : (leading width : ℕ) → List ℕ → ℕ
number_of leading zero digits = leading
number_of leading (suc width) digits = big_number (suc width) digits

pub digits_spell : (leading width : ℕ) (digits : List ℕ) → Leads leading width → length digits ≡ width
    → SpellsUnsigned (number_of leading width digits) (leading ∷ digits)
digits_spell leading width digits (inl (lt, w)) long =
    rw w (inl (lt, ap (λ (l : List ℕ). leading ∷ l) (nil_from_length digits (long ∙ w))))
digits_spell leading width digits (inr (inl (l, w))) long = rw (l, w) (inr (inl (digits, long ∙ w, refl, refl)))
digits_spell leading width digits (inr (inr (inl (l, w)))) long = rw (l, w) (inr (inr (inl (digits, long ∙ w, refl, refl))))
digits_spell leading width digits (inr (inr (inr (inl (l, w))))) long = rw (l, w) (inr (inr (inr (inl (digits, long ∙ w, refl, refl)))))
digits_spell leading width digits (inr (inr (inr (inr (l, w))))) long = rw (l, w) (inr (inr (inr (inr (digits, long ∙ w, refl, refl)))))

-- a number's spelling in its parts
pub record Spelling (number : ℕ) (bytes : List ℕ) : Type 0 where
  pub leading : ℕ
  pub width : ℕ
  pub digits : List ℕ
  pub leads : Leads leading width
  pub long : length digits ≡ width
  pub same : number ≡ number_of leading width digits
  pub parts : bytes ≡ leading ∷ digits

pub spelling : (number : ℕ) (bytes : List ℕ) → SpellsUnsigned number bytes → Spelling number bytes
spelling number bytes (inl (lt, e)) =
    record { leading = number; width = 0; digits = []; leads = inl (lt, refl); long = refl; same = refl; parts = e }
spelling number bytes (inr (inl (digits, long, same, e))) =
    record { leading = 0xcc; width = 1; digits = digits; leads = inr (inl (refl, refl)); long = long; same = same; parts = e }
spelling number bytes (inr (inr (inl (digits, long, same, e)))) =
    record { leading = 0xcd; width = 2; digits = digits; leads = inr (inr (inl (refl, refl))); long = long; same = same; parts = e }
spelling number bytes (inr (inr (inr (inl (digits, long, same, e))))) =
    record { leading = 0xce; width = 4; digits = digits; leads = inr (inr (inr (inl (refl, refl)))); long = long; same = same; parts = e }
spelling number bytes (inr (inr (inr (inr (digits, long, same, e))))) =
    record { leading = 0xcf; width = 8; digits = digits; leads = inr (inr (inr (inr (refl, refl)))); long = long; same = same; parts = e }

-- ---- what is read

low_leading : (leading : ℕ) → Leads leading 0 → leading < 0x80
low_leading leading (inl (lt, w)) = lt
low_leading leading (inr (inl (l, w))) = absurd (omega arith)
low_leading leading (inr (inr (inl (l, w)))) = absurd (omega arith)
low_leading leading (inr (inr (inr (inl (l, w))))) = absurd (omega arith)
low_leading leading (inr (inr (inr (inr (l, w))))) = absurd (omega arith)

-- all bytes of a number are there
pub enough_read : (leading width : ℕ) (rest : List ℕ) → Leads leading width → width ≤ length rest
    → size_at (leading ∷ rest) ≡ size_in_limit (number_of leading width (take width rest)) (drop width rest)
unfolding size_at
enough_read leading zero rest l enough =
    let low = low_leading leading l in
    let few : ltb max_packet_size leading ≡ false = le-ltb _ _ (omega arith) in
    rw (width_is leading 0 l, few) refl
enough_read leading (suc width) rest l enough = rw (width_is leading (suc width) l, le-ltb (length rest) (suc width) enough) refl

-- some are missing
pub few_read : (leading width : ℕ) (rest : List ℕ) → Leads leading width → length rest < width → size_at (leading ∷ rest) ≡ Part
unfolding size_at
few_read leading zero rest l few = absurd (omega arith)
few_read leading (suc width) rest l few = rw (width_is leading (suc width) l, lt-ltb (length rest) (suc width) few) refl

pub none_read : (leading : ℕ) (rest : List ℕ) → width_behind leading ≡ None → size_at (leading ∷ rest) ≡ Wrong
unfolding size_at
none_read leading rest e = rw e refl

-- a spelled number as a prefix
pub number_read : (number : ℕ) (front rest : List ℕ) → SpellsUnsigned number front → size_at (front ++ rest) ≡ size_in_limit number rest
number_read number front rest spelled =
    let s = spelling number front spelled in
    let l = length-append s.digits rest in
    let long = s.long in
    let enough : s.width ≤ length (s.digits ++ rest) = omega arith in
    ap (λ (bytes : List ℕ). size_at (bytes ++ rest)) s.parts
    ∙ enough_read s.leading s.width (s.digits ++ rest) s.leads enough
    ∙ ap (λ (digits : List ℕ). size_in_limit (number_of s.leading s.width digits) (drop s.width (s.digits ++ rest))) (take_at s.digits rest s.width long)
    ∙ ap (λ (n : ℕ). size_in_limit n (drop s.width (s.digits ++ rest))) (sym s.same)
    ∙ ap (size_in_limit number) (drop_at s.digits rest s.width long)

-- a proper prefix of a number's spelling
pub front_read : (number : ℕ) (bytes missing : List ℕ) → 0 < length missing → SpellsUnsigned number (bytes ++ missing) → size_at bytes ≡ Part
unfolding size_at
front_read number [] missing some spelled = refl
front_read number (first ∷ rest) missing some spelled =
    let s = spelling number (first ∷ rest ++ missing) spelled in
    let parts = s.parts in
    let first_is : s.leading ≡ first = cc in
    let rest_is : s.digits ≡ rest ++ missing = cc in
    let l = ap length rest_is ∙ length-append rest missing in
    let long = s.long in
    let few : length rest < s.width = omega arith in
    ap (λ (byte : ℕ). size_at (byte ∷ rest)) (sym first_is) ∙ few_read s.leading s.width rest s.leads few

-- a byte that begins no number
pub no_width : (leading : ℕ) → StartsNoUnsigned leading → width_behind leading ≡ None
no_width leading none = by_width (width_behind leading) refl
  where
    by_width : (o : Option ℕ) → width_behind leading ≡ o → o ≡ None
    by_width None e = refl
    by_width (Some width) e =
        let digits = replicate width 0 in
        absurd (none (number_of leading width digits) digits (digits_spell leading width digits (leads leading width e) (length-replicate width 0)))

pub no_number : (leading : ℕ) → width_behind leading ≡ None → StartsNoUnsigned leading
no_number leading e number others spelled =
    let s = spelling number (leading ∷ others) spelled in
    let parts = s.parts in
    let same : s.leading ≡ leading = cc in
    let there : width_behind leading ≡ some s.width = ap width_behind (sym same) ∙ width_is s.leading s.width s.leads in
    absurd cc
