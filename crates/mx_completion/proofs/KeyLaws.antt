-- Numbers below 80: bytes that can become one can become each of them, and something else too.
use Rattle.std.proofs.Common.{◌≡◌, ◌⊎◌, ℕ, ◌-◌, ◌^◌, ◌<◌, ◌≤◌, List, [], ◌∷◌, ◌++◌, length, Option, Some, refl, sym, ap, ◌∙◌, subst, inl, inr, arith}
use Rattle.std.specs.Prelude.{ℤ, pos, ◌==◌}
use Rattle.std.specs.Option.{option_map}
use Rattle.std.proofs.lemmas.Bool.{cond_both, eqb-true}
use Rattle.std.proofs.lemmas.Int.{ints}
use Rattle.std.proofs.lemmas.List.{append-nil, nil_from_length}
use Rattle.byteorder.specs.Endian.{twos_complement}
use Rattle.mx_msgpack.specs.Grammar as grammar
use Rattle.mx_msgpack.specs.Grammar.{Value, Spells, SpellsInt}
use Rattle.mx_msgpack.specs.Reading.{after_first}
use Rattle.mx_msgpack.specs.Readers.{unsigned_at, unsigned_in}
use Rattle.mx_msgpack.specs.Spelling.{AreBytes}
use Rattle.mx_msgpack.proofs.GrammarLaws.{value_again}
use Rattle.mx_msgpack.proofs.Measured.{front_is}
use Rattle.mx_msgpack.proofs.Options.{mapped_some}
use Rattle.mx_msgpack.proofs.PrefixLaws.{one_value}
use Rattle.mx_msgpack.proofs.Results.{ok_is}
use Rattle.mx_msgpack.proofs.UnsignedLaws.{int_read, unsigned_spelled}
use Rattle.mx_completion.specs.Numbers.{CanBecome}
use Rattle.mx_completion.specs.declared.number.Digits.{Digits}
use Rattle.mx_completion.specs.NumberForms.{digits_behind, filled}
use Rattle.mx_completion.proofs.ByteLaws.{one_byte}
use Rattle.mx_completion.proofs.DigitLaws.{filled_apart, filled_high}
use Rattle.mx_completion.proofs.RangeLaws.{Fills, becoming, filled_become, filling, range_of_none, within}

-- ---- a value is a number, by its bytes

-- the value that stands first is the number that is read
pub number_is : (value : Value) (front more : List ℕ) (number : ℕ) → Spells 63 value front → unsigned_in (front ++ more) ≡ Some number
    → value ≡ grammar.Int (pos number)
number_is value front more number s e =
    let read = mapped_some (λ (found : ℕ × List ℕ). found.0) (unsigned_at (front ++ more)) number e in
    let u = unsigned_spelled (front ++ more) read.0 read.1 in
    let first = value_again 0 63 value front more s in
    let second = value_again 0 63 (grammar.Int (pos read.0.0)) u.0 read.0.1 u.2 in
    let rest : more ≡ read.0.1 = ok_is more read.0.1 (sym first ∙ ap (after_first 0 63) u.1 ∙ second) in
    let size = length (front ++ more) - length more in
    let same : front ≡ u.0 = sym (front_is (front ++ more) front more size refl refl) ∙ front_is (front ++ more) u.0 read.0.1 size u.1 (ap (λ (l : List ℕ). length (front ++ more) - length l) (sym rest)) in
    one_value 63 value (grammar.Int (pos read.0.0)) front s (subst (λ (l : List ℕ). Spells 63 (grammar.Int (pos read.0.0)) l) (sym same) u.2) ∙ ap (λ (n : ℕ). grammar.Int (pos n)) read.2

pub number_read : (number : ℕ) (front more : List ℕ) → SpellsInt (pos number) front → unsigned_in (front ++ more) ≡ Some number
number_read number front more s = ap (option_map (λ (found : ℕ × List ℕ). found.0)) (int_read number front more s)

-- a value that stands alone
pub alone_is : (value : Value) (bytes : List ℕ) (number : ℕ) → Spells 63 value bytes → unsigned_in bytes ≡ Some number → value ≡ grammar.Int (pos number)
alone_is value bytes number s e = number_is value bytes [] number s (ap unsigned_in (append-nil bytes) ∙ e)

pub alone_spelled : (value : Value) (bytes : List ℕ) (number : ℕ) → Spells 63 value bytes → unsigned_in bytes ≡ Some number → SpellsInt (pos number) bytes
alone_spelled value bytes number s e = subst (λ (v : Value). Spells 63 v bytes) (alone_is value bytes number s e) s

pub alone_read : (number : ℕ) (bytes : List ℕ) → SpellsInt (pos number) bytes → unsigned_in bytes ≡ Some number
alone_read number bytes s = ap unsigned_in (sym (append-nil bytes)) ∙ number_read number bytes [] s

-- ---- keys other than a field's

-- no number below 80
abbrev pub NoKey : List ℕ → Type 0
NoKey bytes = (number : ℕ) → unsigned_in bytes ≡ Some number → 0x80 ≤ number

-- a number that isn't below 80
other_key : (bytes : List ℕ) (z : ℤ) → SpellsInt z bytes → ((number : ℕ) → z ≡ pos number → 0x80 ≤ number) → NoKey bytes
other_key bytes z s high number e = high number (same_int z (pos number) (alone_is (grammar.Int z) bytes number s e))
  where
    same_int : (a b : ℤ) → grammar.Int a ≡ grammar.Int b → a ≡ b
    same_int a b e = cc

no_nil : NoKey (0xc0 ∷ [])
no_nil number e = absurd (not_int (alone_is grammar.Nil (0xc0 ∷ []) number refl e))
  where
    not_int : grammar.Nil ≡ grammar.Int (pos number) → ⊥
    not_int e = cc

-- bytes that can become a value that is no number below 80
abbrev pub OtherKey : List ℕ → Type 0
OtherKey bytes = (missing : List ℕ) × AreBytes missing × (1 ≤ length missing) × ((value : Value) × Spells 63 value (bytes ++ missing)) × NoKey (bytes ++ missing)

-- ---- bytes that can become a number below 80

-- one digit more makes 80 too, or a number below 0
record IsKeyForm (leading : ℕ) (form : Digits) : Type 0 where
  few : form.width ≤ 8
  keys : 0x7f ≤ form.most
  other : (0x80 ≤ form.most) ⊎ ((leading ≡ 0xd0) × (form.width ≡ 1))

key_form : (leading : ℕ) (form : Digits) → digits_behind leading ≡ Some form → IsKeyForm leading form
key_form leading form behind =
    let P = λ (o : Option Digits). o ≡ Some form → IsKeyForm leading form in
    cond_both (leading == 0xcc) _ _ P (λ _. wide 1 (2 ^ 8 - 1) (omega arith) (omega arith)) (λ _.
    cond_both (leading == 0xcd) _ _ P (λ _. wide 2 (2 ^ 16 - 1) (omega arith) (omega arith)) (λ _.
    cond_both (leading == 0xce) _ _ P (λ _. wide 4 (2 ^ 32 - 1) (omega arith) (omega arith)) (λ _.
    cond_both (leading == 0xcf) _ _ P (λ _. wide 8 (2 ^ 64 - 1) (omega arith) (omega arith)) (λ _.
    cond_both (leading == 0xd0) _ _ P (λ t e. let w : form.width ≡ 1 = cc in let m : form.most ≡ 2 ^ 7 - 1 = cc in record { few = omega arith; keys = omega arith; other = inr (eqb-true _ _ t, w) }) (λ _.
    cond_both (leading == 0xd1) _ _ P (λ _. wide 2 (2 ^ 15 - 1) (omega arith) (omega arith)) (λ _.
    cond_both (leading == 0xd2) _ _ P (λ _. wide 4 (2 ^ 31 - 1) (omega arith) (omega arith)) (λ _.
    cond_both (leading == 0xd3) _ _ P (λ _. wide 8 (2 ^ 63 - 1) (omega arith) (omega arith)) (λ _ e. absurd cc)))))))) behind
  where
    wide : (width most : ℕ) → width ≤ 8 → 0x80 ≤ most → Some (record { width = width; most = most }) ≡ Some form → IsKeyForm leading form
    wide width most few high e =
        let w : form.width ≡ width = cc in
        let m : form.most ≡ most = cc in
        record { few = omega arith; keys = omega arith; other = inl (omega arith) }

module _ (leading : ℕ) (digits : List ℕ) (each : AreBytes (leading ∷ digits)) (number : ℕ) (small : number < 0x80) (can : CanBecome (leading ∷ digits) number) where
  -- the digits are zeros, so that a whole byte of numbers can follow
  low_range : (other : ℕ) → other < 256 → (form : Digits) → digits_behind leading ≡ Some form → Fills form digits number → other ≤ form.most → CanBecome (leading ∷ digits) other
  low_range other low form behind fills fits =
      let few = (key_form leading form behind).few in
      let some = fills.some in
      let all = fills.all in
      let n = length fills.missing in
      let bounds = within form digits few number fills in
      let apart = filled_apart form.width digits n all few some in
      let none : filled 0x00 form.width digits ≡ 0 = elim (filled_high form.width digits n all few some) [ inl none ↦ none | inr high ↦ absurd (omega arith) ] in
      filled_become leading digits each form behind other (filling form digits few other (omega arith) (omega arith, omega arith, fits))

  any_behind : ((other : ℕ) → other < 0x80 → CanBecome (leading ∷ digits) other) × OtherKey (leading ∷ digits)
  any_behind =
      let (form, behind, fills) = becoming leading digits each number can in
      let key = key_form leading form behind in
      let keys = key.keys in (
        λ other low. low_range other (omega arith) form behind fills (omega arith),
        elim key.other [
          | inl high ↦
              let (missing, bytes, some, s) = low_range 0x80 (omega arith) form behind fills high in
              (missing, bytes, some, (grammar.Int (pos 0x80), s), other_key (leading ∷ (digits ++ missing)) (pos 0x80) s (λ m e. omega (arith, ints, e)))
          | inr signed ↦
              let some = fills.some in
              let all = fills.all in
              let one = signed.1 in
              negative signed.0 (nil_from_length digits (omega arith))
        ],
      )
    where
      negative : leading ≡ 0xd0 → digits ≡ [] → OtherKey (leading ∷ digits)
      negative first none =
          let z = twos_complement 1 0x80 in
          let s : SpellsInt z (0xd0 ∷ 0x80 ∷ []) = inr (inr (inl (0x80, (0x80 ∷ [], refl, refl, refl), refl))) in
          rw (first, none)
          (0x80 ∷ [], one_byte 0x80 (omega arith), omega arith, (grammar.Int z, s), other_key (0xd0 ∷ 0x80 ∷ []) z s (λ m e. absurd (omega (arith, ints, e))))

-- bytes that can become one number below 80 can become each of them, and something else too
pub any_key : (bytes : List ℕ) (number : ℕ) → AreBytes bytes → number < 0x80 → CanBecome bytes number
    → ((other : ℕ) → other < 0x80 → CanBecome bytes other) × OtherKey bytes
any_key [] number each small can =
    (λ other low. (range_of_none.1 other).1 (omega arith, omega arith), (0xc0 ∷ [], one_byte 0xc0 (omega arith), omega arith, (grammar.Nil, refl), no_nil))
any_key (leading ∷ digits) number each small can = any_behind leading digits each number small can
