-- What bytes say as the head of an Array, a Str or a Map that they may end inside, by the leading byte.
use Rattle.std.proofs.Common.{◌≡◌, ◌⊎◌, inl, inr, ℕ, suc, ◌+◌, ◌-◌, ◌<◌, ◌≤◌, List, [], ◌∷◌, ◌++◌, length, take, Option, Some, None, refl, sym, ap, ◌∙◌, subst, arith}
use Rattle.std.specs.Prelude.{⊤, nat_lt, ◌==◌}
use Rattle.std.proofs.lemmas.Bool.{cond_both, ltb-true, ltb-false, lt-ltb, le-ltb, eqb-true, eqb-false}
use Rattle.std.proofs.lemmas.List.{length-append, length-take-le, nil_from_length}
use Rattle.std.proofs.Math.Nat.{add-zero, zero-add}
use Rattle.byteorder.specs.Endian.{big_number}
use Rattle.byteorder.specs.Numbers.{big_from-take}
use Rattle.mx_msgpack.specs.Grammar.{SpellsNumber}
use Rattle.mx_msgpack.specs.Spelling.{AreBytes}
use Rattle.mx_msgpack.proofs.Options.{same_some}
use Rattle.mx_msgpack.proofs.ShortestLaws.{front-bytes}
use Rattle.mx_completion.specs.declared.leading.Kind.{Kind}
use Rattle.mx_completion.specs.declared.leading.Kind.TheVariants.{Int, Text, Array, Map, Extension, Other}
use Rattle.mx_completion.specs.declared.leading.Leading.{Leading}
use Rattle.mx_completion.specs.HeadForms.{HasHead, IsCountHead, IsFullHead, IsCutHead, Announces}
use Rattle.mx_completion.specs.LeadingBytes.{leading_of, low_leading, number_leading, sized_leading}
use Rattle.mx_completion.specs.NumberForms.{filled}
use Rattle.mx_completion.proofs.DigitLaws.{filled_within, filled_between, filled_apart, filled_high}
use Rattle.mx_completion.proofs.LengthLaws.{number_padded}
use Rattle.mx_completion.proofs.ByteLaws.{ends_within, ends_beyond, one_byte}

abbrev leads : (kind : Kind) (width size : ℕ) → Leading
leads kind width size = record { kind = kind; width = width; length = size }

-- the count that a leading byte and the digits behind it announce
abbrev pub count_in : Leading → (digits : List ℕ) → ℕ
count_in leading digits = leading.length + big_number leading.width digits

-- ---- a head is a leading byte and its digits

record HeadParts (kind : Kind) (count : ℕ) (head : List ℕ) : Type 0 where
  byte : ℕ
  leading : Leading
  digits : List ℕ
  behind : leading_of byte ≡ Some leading
  same : leading.kind ≡ kind
  size : length digits ≡ leading.width
  is : count ≡ count_in leading digits
  parts : head ≡ byte ∷ digits

wide_parts : (kind : Kind) (byte width count : ℕ) (head : List ℕ) → leading_of byte ≡ Some (leads kind width 0) → SpellsNumber byte width count head → HeadParts kind count head
wide_parts kind byte width count head behind (digits, size, is, parts) =
    record { byte = byte; leading = leads kind width 0; digits = digits; behind = behind; same = refl; size = size; is = is ∙ sym (zero-add (big_number width digits)); parts = parts }

few_parts : (kind : Kind) (byte size count : ℕ) (head : List ℕ) → leading_of byte ≡ Some (leads kind 0 size) → count ≡ size → head ≡ byte ∷ [] → HeadParts kind count head
few_parts kind byte size count head behind is parts =
    record { byte = byte; leading = leads kind 0 size; digits = []; behind = behind; same = refl; size = refl; is = is ∙ sym (add-zero size); parts = parts }

head_parts : (kind : Kind) (count : ℕ) (head : List ℕ) → IsCountHead kind count head → HeadParts kind count head
unfolding leading_of
head_parts Map count head (inl (few, parts)) =
    let one = le-ltb (0x80 + count) 0x80 (omega arith) in
    let two = lt-ltb (0x80 + count) 0x90 (omega arith) in
    few_parts Map (0x80 + count) (0x80 + count - 0x80) count head (rw (one, two) refl) (omega arith) parts
head_parts Map count head (inr (inl s)) = wide_parts Map 0xde 2 count head refl s
head_parts Map count head (inr (inr s)) = wide_parts Map 0xdf 4 count head refl s
head_parts Array count head (inl (few, parts)) =
    let one = le-ltb (0x90 + count) 0x80 (omega arith) in
    let two = le-ltb (0x90 + count) 0x90 (omega arith) in
    let three = lt-ltb (0x90 + count) 0xa0 (omega arith) in
    few_parts Array (0x90 + count) (0x90 + count - 0x90) count head (rw (one, two, three) refl) (omega arith) parts
head_parts Array count head (inr (inl s)) = wide_parts Array 0xdc 2 count head refl s
head_parts Array count head (inr (inr s)) = wide_parts Array 0xdd 4 count head refl s
head_parts Text count head (inl (few, parts)) =
    let one = le-ltb (0xa0 + count) 0x80 (omega arith) in
    let two = le-ltb (0xa0 + count) 0x90 (omega arith) in
    let three = le-ltb (0xa0 + count) 0xa0 (omega arith) in
    let four = lt-ltb (0xa0 + count) 0xc0 (omega arith) in
    few_parts Text (0xa0 + count) (0xa0 + count - 0xa0) count head (rw (one, two, three, four) refl) (omega arith) parts
head_parts Text count head (inr (inl s)) = wide_parts Text 0xd9 1 count head refl s
head_parts Text count head (inr (inr (inl s))) = wide_parts Text 0xda 2 count head refl s
head_parts Text count head (inr (inr (inr s))) = wide_parts Text 0xdb 4 count head refl s
head_parts Int count head h = absurd h
head_parts Extension count head h = absurd h
head_parts Other count head h = absurd h

-- and the other way round
record IsLed (byte : ℕ) (leading : Leading) : Type 0 where
  spelled : (digits : List ℕ) → length digits ≡ leading.width → IsCountHead leading.kind (count_in leading digits) (byte ∷ digits)
  narrow : leading.width ≤ 4
  base : (leading.width ≡ 0) ⊎ (leading.length ≡ 0)

abbrev Led : (byte : ℕ) → Option Leading → Type 0
Led byte None = ⊤
Led byte (Some leading) = HasHead leading.kind → IsLed byte leading

module _ (byte : ℕ) where
  wide_led : (kind : Kind) (width : ℕ) → width ≤ 4 → ((digits : List ℕ) → SpellsNumber byte width (big_number width digits) (byte ∷ digits) → IsCountHead kind (big_number width digits) (byte ∷ digits))
      → IsLed byte (leads kind width 0)
  wide_led kind width narrow head =
      record { spelled = λ digits size. rw (zero-add (big_number width digits)) (head digits (digits, size, refl, refl)); narrow = narrow; base = inr refl }

  few_led : (kind : Kind) (size : ℕ) → IsCountHead kind size (byte ∷ []) → IsLed byte (leads kind 0 size)
  few_led kind size head =
      record { spelled = λ digits none. rw (nil_from_length digits none, add-zero size) head; narrow = omega arith; base = inl refl }

  low_led : Led byte (low_leading byte)
  low_led =
      cond_both (byte == 0xc0) _ _ (Led byte) (λ _ h. absurd h) (λ _.
      cond_both (byte == 0xc2) _ _ (Led byte) (λ _ h. absurd h) (λ _.
      cond_both (byte == 0xc3) _ _ (Led byte) (λ _ h. absurd h) (λ _.
      cond_both (byte == 0xc4) _ _ (Led byte) (λ _ h. absurd h) (λ _.
      cond_both (byte == 0xc5) _ _ (Led byte) (λ _ h. absurd h) (λ _.
      cond_both (byte == 0xc6) _ _ (Led byte) (λ _ h. absurd h) (λ _.
      cond_both (byte == 0xc7) _ _ (Led byte) (λ _ h. absurd h) (λ _.
      cond_both (byte == 0xc8) _ _ (Led byte) (λ _ h. absurd h) (λ _.
      cond_both (byte == 0xc9) _ _ (Led byte) (λ _ h. absurd h) (λ _. tt)))))))))

  number_led : Led byte (number_leading byte)
  number_led =
      cond_both (byte == 0xca) _ _ (Led byte) (λ _ h. absurd h) (λ _.
      cond_both (byte == 0xcb) _ _ (Led byte) (λ _ h. absurd h) (λ _.
      cond_both (byte == 0xcc) _ _ (Led byte) (λ _ h. absurd h) (λ _.
      cond_both (byte == 0xcd) _ _ (Led byte) (λ _ h. absurd h) (λ _.
      cond_both (byte == 0xce) _ _ (Led byte) (λ _ h. absurd h) (λ _.
      cond_both (byte == 0xcf) _ _ (Led byte) (λ _ h. absurd h) (λ _.
      cond_both (byte == 0xd0) _ _ (Led byte) (λ _ h. absurd h) (λ _.
      cond_both (byte == 0xd1) _ _ (Led byte) (λ _ h. absurd h) (λ _.
      cond_both (byte == 0xd2) _ _ (Led byte) (λ _ h. absurd h) (λ _.
      cond_both (byte == 0xd3) _ _ (Led byte) (λ _ h. absurd h) (λ _.
      cond_both (byte == 0xd4) _ _ (Led byte) (λ _ h. absurd h) (λ _.
      cond_both (byte == 0xd5) _ _ (Led byte) (λ _ h. absurd h) (λ _.
      cond_both (byte == 0xd6) _ _ (Led byte) (λ _ h. absurd h) (λ _.
      cond_both (byte == 0xd7) _ _ (Led byte) (λ _ h. absurd h) (λ _ h. absurd h))))))))))))))

  sized_led : 0xd9 ≤ byte → byte < 0xe0 → Led byte (sized_leading byte)
  sized_led low high =
      cond_both (byte == 0xd9) _ _ (Led byte) (λ t _. wide_led Text 1 (omega arith) (λ digits s. inr (inl (rw (← eqb-true byte 0xd9 t) s)))) (λ f1.
      cond_both (byte == 0xda) _ _ (Led byte) (λ t _. wide_led Text 2 (omega arith) (λ digits s. inr (inr (inl (rw (← eqb-true byte 0xda t) s))))) (λ f2.
      cond_both (byte == 0xdb) _ _ (Led byte) (λ t _. wide_led Text 4 (omega arith) (λ digits s. inr (inr (inr (rw (← eqb-true byte 0xdb t) s))))) (λ f3.
      cond_both (byte == 0xdc) _ _ (Led byte) (λ t _. wide_led Array 2 (omega arith) (λ digits s. inr (inl (rw (← eqb-true byte 0xdc t) s)))) (λ f4.
      cond_both (byte == 0xdd) _ _ (Led byte) (λ t _. wide_led Array 4 (omega arith) (λ digits s. inr (inr (rw (← eqb-true byte 0xdd t) s)))) (λ f5.
      cond_both (byte == 0xde) _ _ (Led byte) (λ t _. wide_led Map 2 (omega arith) (λ digits s. inr (inl (rw (← eqb-true byte 0xde t) s)))) (λ f6 _.
      let last : byte ≡ 0xdf = omega (arith, eqb-false byte 0xd9 f1, eqb-false byte 0xda f2, eqb-false byte 0xdb f3, eqb-false byte 0xdc f4, eqb-false byte 0xdd f5, eqb-false byte 0xde f6) in
      wide_led Map 4 (omega arith) (λ digits s. inr (inr (rw (← last) s)))))))))

  led : Led byte (leading_of byte)
  unfolding leading_of
  led =
      cond_both (nat_lt byte 0x80) _ _ (Led byte) (λ _ h. absurd h) (λ f1.
      cond_both (nat_lt byte 0x90) _ _ (Led byte) (λ t _.
      let low = ltb-false byte 0x80 f1 in
      let high = ltb-true byte 0x90 t in
      let is : byte ≡ 0x80 + (byte - 0x80) = omega arith in
      few_led Map (byte - 0x80) (inl (omega arith, ap (λ (k : ℕ). k ∷ []) is))) (λ f2.
      cond_both (nat_lt byte 0xa0) _ _ (Led byte) (λ t _.
      let low = ltb-false byte 0x90 f2 in
      let high = ltb-true byte 0xa0 t in
      let is : byte ≡ 0x90 + (byte - 0x90) = omega arith in
      few_led Array (byte - 0x90) (inl (omega arith, ap (λ (k : ℕ). k ∷ []) is))) (λ f3.
      cond_both (nat_lt byte 0xc0) _ _ (Led byte) (λ t _.
      let low = ltb-false byte 0xa0 f3 in
      let high = ltb-true byte 0xc0 t in
      let is : byte ≡ 0xa0 + (byte - 0xa0) = omega arith in
      few_led Text (byte - 0xa0) (inl (omega arith, ap (λ (k : ℕ). k ∷ []) is))) (λ _.
      cond_both (nat_lt byte 0xca) _ _ (Led byte) (λ _. low_led) (λ _.
      cond_both (nat_lt byte 0xd9) _ _ (Led byte) (λ _. number_led) (λ f6.
      cond_both (nat_lt byte 0xe0) _ _ (Led byte) (λ t. sized_led (ltb-false byte 0xd9 f6) (ltb-true byte 0xe0 t)) (λ _.
      cond_both (nat_lt byte 0x100) _ _ (Led byte) (λ _ h. absurd h) (λ _. tt))))))))

-- ---- behind a leading byte

same_leading : (kind : Kind) (byte count : ℕ) (digits missing spelling rest : List ℕ) (head : HeadParts kind count spelling) → byte ∷ (digits ++ missing) ≡ spelling ++ rest
    → (head.byte ≡ byte) × (digits ++ missing ≡ head.digits ++ rest)
same_leading kind byte count digits missing spelling rest head parts =
    let whole : byte ∷ (digits ++ missing) ≡ head.byte ∷ (head.digits ++ rest) = parts ∙ ap (λ (l : List ℕ). l ++ rest) head.parts in
    (cc, cc)

-- no head of the type begins with this byte
pub no_head : (kind : Kind) (byte : ℕ) (digits : List ℕ) → ((leading : Leading) → leading_of byte ≡ Some leading → leading.kind ≡ kind → ⊥) → Announces kind (byte ∷ digits) None
no_head kind byte digits none missing spelling rest count parts s =
    let head = head_parts kind count spelling s in
    let (first, others) = same_leading kind byte count digits missing spelling rest head parts in
    none head.leading (ap leading_of (sym first) ∙ head.behind) head.same

module _ (byte : ℕ) (leading : Leading) (digits : List ℕ) (behind : leading_of byte ≡ Some leading) (headed : HasHead leading.kind) where
  is_led : IsLed byte leading
  is_led = subst (Led byte) behind (led byte) headed

  same_form : (count : ℕ) (spelling : List ℕ) (head : HeadParts leading.kind count spelling) → head.byte ≡ byte → head.leading ≡ leading
  same_form count spelling head same = same_some head.leading leading (sym head.behind ∙ ap leading_of same ∙ behind)

  pub head_full : leading.width ≤ length digits → IsFullHead leading.kind (byte ∷ digits) (count_in leading digits) (suc leading.width)
  head_full long =
      let size = length-take-le leading.width digits long in
      record { within = omega arith; spelled = rw (← count_is) (is_led.spelled (take leading.width digits) size); only = only }
    where
      count_is : count_in leading (take leading.width digits) ≡ count_in leading digits
      count_is = ap (λ (n : ℕ). leading.length + n) (big_from-take 0 leading.width leading.width digits (omega arith))

      only : (missing spelling rest : List ℕ) (other : ℕ) → byte ∷ (digits ++ missing) ≡ spelling ++ rest → IsCountHead leading.kind other spelling
          → (spelling ≡ byte ∷ take leading.width digits) × (other ≡ count_in leading digits)
      only missing spelling rest other parts s =
          let head = head_parts leading.kind other spelling s in
          let (first, others) = same_leading leading.kind byte other digits missing spelling rest head parts in
          let form_is = same_form other spelling head first in
          let size : length head.digits ≡ leading.width = head.size ∙ ap (λ (f : Leading). f.width) form_is in
          let front : head.digits ≡ take leading.width digits =
          ends_within digits missing head.digits rest others (omega arith) ∙ ap (λ (n : ℕ). take n digits) size in
          (head.parts ∙ (λ i. first i ∷ front i), head.is ∙ (λ i. count_in (form_is i) (front i)) ∙ count_is)

  pub head_cut : length digits < leading.width → IsCutHead leading.kind (byte ∷ digits) (count_in leading digits) (leading.width - length digits)
  head_cut short = subst (λ (count : ℕ). IsCutHead leading.kind (byte ∷ digits) count (leading.width - length digits)) (sym count_filled)
      (record { some = omega arith; reaches = reaches; only = only; high = filled_high leading.width digits (leading.width - length digits) (omega arith) few (omega arith) })
    where
      few : leading.width ≤ 8
      few = let four = is_led.narrow in omega arith

      count_is : (others : List ℕ) → count_in leading others ≡ big_number leading.width others
      count_is others = elim is_led.base [ inl none ↦ absurd (omega arith) | inr none ↦ omega arith ]

      least : ℕ
      least = filled 0x00 leading.width digits

      count_filled : count_in leading digits ≡ least
      count_filled = count_is digits ∙ sym (number_padded 0 leading.width digits (8 - length digits))

      reaches : (more : ℕ) → more < 16 → (missing : List ℕ) × AreBytes missing × (length missing ≡ leading.width - length digits)
          × IsCountHead leading.kind (filled 0x00 leading.width digits + more) (byte ∷ (digits ++ missing))
      reaches more low =
          let n = leading.width - length digits in
          let apart = filled_apart leading.width digits n (omega arith) few (omega arith) in
          let f = filled_between leading.width digits n (omega arith) few (filled 0x00 leading.width digits + more) (omega arith) (omega arith) in
          let size = length-append digits f.0 in
          let filled_size = f.2 in
          let head = is_led.spelled (digits ++ f.0) (omega arith) in
          (f.0, f.1, f.2, subst (λ (k : ℕ). IsCountHead leading.kind k (byte ∷ (digits ++ f.0))) (count_is (digits ++ f.0) ∙ sym f.3) head)

      only : (others spelling rest : List ℕ) (other : ℕ) → AreBytes others → byte ∷ (digits ++ others) ≡ spelling ++ rest → IsCountHead leading.kind other spelling
          → (more : List ℕ) × (spelling ≡ byte ∷ (digits ++ more)) × (suc (length digits) + (leading.width - length digits) ≤ length spelling) × (filled 0x00 leading.width digits ≤ other)
      only others spelling rest other each parts s =
          let head = head_parts leading.kind other spelling s in
          let (first, behind_first) = same_leading leading.kind byte other digits others spelling rest head parts in
          let form_is = same_form other spelling head first in
          let size : length head.digits ≡ leading.width = head.size ∙ ap (λ (f : Leading). f.width) form_is in
          let (more, front, left) = ends_beyond digits others head.digits rest behind_first (omega arith) in
          let longer = ap length front ∙ length-append digits more in
          let within = filled_within leading.width digits (length more) (omega arith) few more refl (front-bytes more rest (subst AreBytes left each)) in
          let is : other ≡ big_number leading.width (digits ++ more) = head.is ∙ (λ i. count_in (form_is i) (front i)) ∙ count_is (digits ++ more) in
          let whole = ap length head.parts in
          let at_least = within.0 in
          (more, head.parts ∙ (λ i. first i ∷ front i), omega arith, omega arith)

-- ---- no bytes

short_head : (kind : Kind) → HasHead kind → (count : ℕ) → count < 16 → (digits : List ℕ) × AreBytes digits × (length digits ≡ 1) × IsCountHead kind (0 + count) digits
short_head Array h count low = ((0x90 + count) ∷ [], one_byte (0x90 + count) (omega arith), refl, rw (zero-add count) (inl (low, refl)))
short_head Text h count low = ((0xa0 + count) ∷ [], one_byte (0xa0 + count) (omega arith), refl, rw (zero-add count) (inl (omega arith, refl)))
short_head Map h count low = ((0x80 + count) ∷ [], one_byte (0x80 + count) (omega arith), refl, rw (zero-add count) (inl (low, refl)))
short_head Int h count low = absurd h
short_head Extension h count low = absurd h
short_head Other h count low = absurd h

-- a head takes a byte at least
pub head_some : (kind : Kind) (count : ℕ) (head : List ℕ) → IsCountHead kind count head → 1 ≤ length head
head_some kind count head h = let parts = head_parts kind count head h in let size = ap length parts.parts in omega arith

pub nothing : (kind : Kind) → HasHead kind → IsCutHead kind [] 0 1
nothing kind headed = record {
  some = omega arith;
  reaches = short_head kind headed;
  only = λ others spelling rest other each parts s. let some = head_some kind other spelling s in (spelling, refl, omega arith, omega arith);
  high = inl refl;
}
