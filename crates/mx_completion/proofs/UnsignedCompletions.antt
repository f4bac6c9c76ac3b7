-- What bytes can become as a number from a least one on.
use Rattle.std.proofs.Common.{◌≡◌, ◌⊎◌, inl, inr, ℕ, suc, ◌+◌, ◌-◌, ◌<◌, ◌≤◌, List, [], ◌∷◌, ◌++◌, length, take, Some, None, refl, sym, ap, ◌∙◌, subst, arith}
use Rattle.std.specs.Prelude.{pos}
use Rattle.std.proofs.lemmas.Bool.{cases_lt}
use Rattle.std.proofs.lemmas.List.{length-append, take-append-le, take_at}
use Rattle.mx_msgpack.specs.Grammar.{SpellsInt}
use Rattle.mx_msgpack.specs.Spelling.{AreBytes}
use Rattle.mx_msgpack.specs.Readers.{unsigned_at}
use Rattle.mx_msgpack.proofs.Options.{same_some}
use Rattle.mx_msgpack.proofs.ShortestLaws.{front-bytes}
use Rattle.mx_msgpack.proofs.UnsignedLaws.{unsigned_spelled, int_read, unsigned_at-IsStable}
use Rattle.mx_completion.specs.declared.number.NumberRange.{NumberRange}
use Rattle.mx_completion.specs.declared.completion.Completion.TheVariants.{Whole, Missing, Impossible}
use Rattle.mx_completion.specs.Completions.{IsUnsignedSpelling, Completes}
use Rattle.mx_completion.specs.NumberForms.{digits_behind, spelling_size, size_of_form}
use Rattle.mx_completion.specs.Numbers.{CanBecome, IsRange}
use Rattle.mx_completion.proofs.ByteLaws.{bytes-append, ends_beyond, one_byte}
use Rattle.mx_completion.proofs.NumberSpellings.{IsWide, wide_or_small}

-- ---- a number stands first

module _ (bytes : List ℕ) (found : ℕ × List ℕ) (read : unsigned_at bytes ≡ Some found) where
  -- a spelling that stands first once others follow
  same_first : (missing spelling rest : List ℕ) (number : ℕ) → bytes ++ missing ≡ spelling ++ rest → SpellsInt (pos number) spelling
      → (number ≡ found.0) × (spelling ≡ take (length bytes - length found.1) bytes)
  same_first missing spelling rest number parts s =
      let t = unsigned_spelled bytes found read in
      let other = unsigned_at-IsStable bytes missing found read in
      let same = same_some (number, rest) (found.0, found.1 ++ missing) (sym (int_read number spelling rest s) ∙ ap unsigned_at (sym parts) ∙ other) in
      let behind : rest ≡ found.1 ++ missing = ap (λ (x : ℕ × List ℕ). x.1) same in
      let one = length-append bytes missing in
      let two = length-append spelling rest in
      let three = length-append found.1 missing in
      let four = ap length t.1 ∙ length-append t.0 found.1 in
      let lengths = ap length parts in
      let left = ap length behind in
      let size : length spelling ≡ length bytes - length found.1 = omega arith in (
        ap (λ (x : ℕ × List ℕ). x.0) same,
        sym (take_at spelling rest (length bytes - length found.1) size) ∙ ap (take (length bytes - length found.1)) (sym parts)
            ∙ take-append-le (length bytes - length found.1) bytes missing (omega arith),
      )

  pub stands_within : length found.1 ≤ length bytes
  stands_within = let t = unsigned_spelled bytes found read in let l = ap length t.1 ∙ length-append t.0 found.1 in omega arith

  pub stands_whole : (least : ℕ) → least ≤ found.0 → Completes (IsUnsignedSpelling least) bytes (Whole (length bytes - length found.1))
  stands_whole least enough =
      let t = unsigned_spelled bytes found read in
      let four = ap length t.1 ∙ length-append t.0 found.1 in
      let front : take (length bytes - length found.1) bytes ≡ t.0 =
      ap (take (length bytes - length found.1)) t.1 ∙ take_at t.0 found.1 (length bytes - length found.1) (omega arith) in
      record {
        stands = (omega arith, (found.0, enough, rw front t.2));
        allows = λ missing spelling rest _ parts is. (same_first missing spelling rest is.0 parts is.2).1;
      }

  pub stands_too_low : (least : ℕ) → found.0 < least → Completes (IsUnsignedSpelling least) bytes Impossible
  stands_too_low least low = record {
    stands = tt;
    allows = λ missing spelling rest _ parts is.
        let same = (same_first missing spelling rest is.0 parts is.2).0 in
        let enough = is.1 in
        omega arith;
  }

-- ---- none stands first

-- how many bytes a number takes that begins with these
size_is : (bytes missing : List ℕ) (number : ℕ) → AreBytes (bytes ++ missing) → 1 ≤ length missing → SpellsInt (pos number) (bytes ++ missing)
    → (1 ≤ length bytes → length (bytes ++ missing) ≡ spelling_size bytes) × (spelling_size bytes ≤ length (bytes ++ missing))
size_is [] missing number each some s = ((λ one. absurd (omega arith)), some)
size_is (leading ∷ digits) missing number each some s =
    let size = by_form (wide_or_small number (leading ∷ (digits ++ missing)) each s) in
    ((λ _. size), omega arith)
  where
    by_form : (leading ∷ (digits ++ missing) ≡ number ∷ []) ⊎ IsWide number (leading ∷ (digits ++ missing)) → length (leading ∷ (digits ++ missing)) ≡ size_of_form (digits_behind leading)
    by_form (inl small) = let l = ap length small in let both = length-append digits missing in absurd (omega arith)
    by_form (inr wide) =
        let first : wide.leading ≡ leading = let e = wide.parts in cc in
        let behind = ap digits_behind (sym first) ∙ wide.behind in
        ap length wide.parts ∙ ap suc wide.filled ∙ sym (ap size_of_form behind)

module _ (bytes : List ℕ) (each : AreBytes bytes) (read : unsigned_at bytes ≡ None) where
  -- a spelling that stands first once others follow takes more than the bytes
  goes_beyond : (missing spelling rest : List ℕ) (number : ℕ) → AreBytes missing → bytes ++ missing ≡ spelling ++ rest → SpellsInt (pos number) spelling
      → (more : List ℕ) × (spelling ≡ bytes ++ more) × AreBytes more × (1 ≤ length more)
  goes_beyond missing spelling rest number others parts s = elim (cases_lt (length bytes) (length spelling)) [
    | inl longer ↦
        let (more, whole, behind) = ends_beyond bytes missing spelling rest parts (omega arith) in
        let both = ap length whole ∙ length-append bytes more in
        (more, whole, front-bytes more rest (subst AreBytes behind others), omega arith)
    | inr shorter ↦
        let (more, whole, behind) = ends_beyond spelling rest bytes missing (sym parts) shorter in
        let found = sym (int_read number spelling more s) ∙ ap unsigned_at (sym whole) ∙ read in
        absurd cc
  ]

  can_become : (missing spelling rest : List ℕ) (number : ℕ) → AreBytes missing → bytes ++ missing ≡ spelling ++ rest → SpellsInt (pos number) spelling → CanBecome bytes number
  can_become missing spelling rest number others parts s =
      let (more, whole, are, some) = goes_beyond missing spelling rest number others parts s in
      (more, are, some, subst (SpellsInt (pos number)) whole s)

  pub becomes_none : (least : ℕ) → IsRange bytes None → Completes (IsUnsignedSpelling least) bytes Impossible
  becomes_none least none = record {
    stands = tt;
    allows = λ missing spelling rest others parts is. none is.0 (can_become missing spelling rest is.0 others parts is.2);
  }

  module _ (least : ℕ) (range : NumberRange) (all : IsRange bytes (Some range)) where
    pub becomes_too_low : range.most < least → Completes (IsUnsignedSpelling least) bytes Impossible
    becomes_too_low low = record {
      stands = tt;
      allows = λ missing spelling rest others parts is.
          let within = (all.1 is.0).0 (can_become missing spelling rest is.0 others parts is.2) in
          let enough = is.1 in
          omega (arith, within.1);
    }

    -- the least number, where there are no bytes, and the greatest else
    made : least < 0x80 → least ≤ range.most → (bytes' : List ℕ) → bytes' ≡ bytes
        → (missing : List ℕ) × AreBytes missing × (1 ≤ length missing) × (length bytes + length missing ≡ spelling_size bytes) × IsUnsignedSpelling least (bytes ++ missing)
    made low enough [] e =
        let each : AreBytes (least ∷ []) = one_byte least (omega arith) in
        rw (← e) (least ∷ [], each, omega arith, refl, (least, omega arith, inl (least, refl, inl (low, refl))))
    made low enough (byte ∷ others) e =
        let (missing, are, some, s) = (all.1 range.most).1 (all.0, omega arith) in
        let l = ap length e in
        let size = (size_is bytes missing range.most (bytes-append bytes missing each are) some s).0 (omega arith) in
        (missing, are, some, sym (length-append bytes missing) ∙ size, (range.most, enough, s))

    pub becomes_longer : least < 0x80 → least ≤ range.most → length bytes ≤ spelling_size bytes
    becomes_longer low enough = let (missing, are, some, size, is) = made low enough bytes refl in omega arith

    pub becomes_more : least < 0x80 → least ≤ range.most → Completes (IsUnsignedSpelling least) bytes (Missing (spelling_size bytes - length bytes))
    becomes_more low enough =
        let (missing, are, some, size, is) = made low enough bytes refl in
        record {
          stands = (omega arith, missing, are, omega arith, is);
          allows = λ missing spelling rest others parts is.
              let (more, whole, are, some) = goes_beyond missing spelling rest is.0 others parts is.2 in
              let size : spelling_size bytes ≤ length (bytes ++ more) =
              (size_is bytes more is.0 (bytes-append bytes more each are) some (subst (SpellsInt (pos is.0)) whole is.2)).1 in
              let l : length spelling ≡ length (bytes ++ more) = ap length whole in
              let longer = length-append bytes more in
              omega arith;
        }
