-- Bytes begin with one header only.
use Rattle.std.proofs.Common.{◌≡◌, ℕ, ◌<◌, ◌≤◌, Bool, true, false, if◌then◌else◌, ◌==◌, List, [], ◌∷◌, ◌++◌, length, refl, sym, ap, ◌∙◌, arith, inl, inr}
use mathlib.Core.Logic.{◌⊎◌}
use Rattle.std.specs.Prelude.{codes, decimal}
use Rattle.std.proofs.lemmas.Bool.{cases_lt, eqb-true}
use Rattle.std.proofs.lemmas.List.{append-nil, append_cancel_left}
use Rattle.std.proofs.lemmas.Fmt.{decimal_injective}
use Rattle.uuid.specs.Text.{hyphenated_text, lower}
use Rattle.mx_vclock.specs.Text.{vclock_text}
use Rattle.mx_vclock.proofs.OneClock.{text_tells}
use Rattle.mx_xlog.specs.declared.head.Head.{Head}
use Rattle.mx_xlog.specs.Headers.{lines_text, header_of, header_lines, IsHeader}
use Rattle.mx_xlog.specs.HeaderParts.{file_type}
use Rattle.mx_xlog.proofs.HeaderLaws.{header_are, front_lines, no_longer, same_behind_four}

-- where one header's lines are no fewer, they are the same
no_fewer : (bytes : List ℕ) (one other : Head) (size more : ℕ) → IsHeader bytes one size → IsHeader bytes other more
    → length (header_lines other) ≤ length (header_lines one) → header_lines one ≡ header_lines other
no_fewer bytes one other size more first second fewer =
    let found = front_lines (header_lines other) (header_lines one) second.begins.0 first.begins.0
    (header_are other second.fits) (header_are one first.fits) fewer (sym second.begins.1 ∙ first.begins.1) in
    found.1 ∙ ap (λ lines. header_lines other ++ lines) (no_longer one other found.0 found.1) ∙ append-nil (header_lines other)

same_lines : (bytes : List ℕ) (one other : Head) (size more : ℕ) → IsHeader bytes one size → IsHeader bytes other more
    → header_lines one ≡ header_lines other
same_lines bytes one other size more first second = by_order (cases_lt (length (header_lines one)) (length (header_lines other)))
  where
    by_order : (length (header_lines one) < length (header_lines other)) ⊎ (length (header_lines other) ≤ length (header_lines one))
        → header_lines one ≡ header_lines other
    by_order (inl fewer) = sym (no_fewer bytes other one more size second first (omega arith))
    by_order (inr enough) = no_fewer bytes one other size more first second enough

first_byte : (byte other : ℕ) (bytes more : List ℕ) → byte ∷ bytes ≡ other ∷ more → byte ≡ other
first_byte byte other bytes more is = cc

same_kind : (one other : Bool) → file_type one ≡ file_type other → one ≡ other
same_kind true true is = refl
same_kind true false is = absurd (omega (arith, first_byte 83 88 _ _ is))
same_kind false true is = absurd (omega (arith, first_byte 88 83 _ _ is))
same_kind false false is = refl

same_four : (a b c d e f g h : List ℕ) (lines more : List (List ℕ)) → a ∷ b ∷ c ∷ d ∷ lines ≡ e ∷ f ∷ g ∷ h ∷ more → (a ≡ e) × (c ≡ g) × (d ≡ h)
same_four a b c d e f g h lines more is = (cc, cc, cc)

same_behind : (first other : Bool) (mine its clock its_clock : List ℕ)
    → (if first then [] else mine ∷ []) ++ clock ∷ [] ∷ [] ≡ (if other then [] else its ∷ []) ++ its_clock ∷ [] ∷ []
    → (clock ≡ its_clock) × (((first ≡ true) × (other ≡ true)) ⊎ (mine ≡ its))
same_behind true true mine its clock its_clock is = (cc, inl (refl, refl))
same_behind true false mine its clock its_clock is = absurd cc
same_behind false true mine its clock its_clock is = absurd cc
same_behind false false mine its clock its_clock is = (cc, inr cc)

same_replica : (one other : ℕ) → one < 32 → other < 32
    → (((one == 1) ≡ true) × ((other == 1) ≡ true)) ⊎ (codes "Replica: " ++ decimal one ≡ codes "Replica: " ++ decimal other) → one ≡ other
same_replica one other small few (inl first) = eqb-true one 1 first.0 ∙ sym (eqb-true other 1 first.1)
same_replica one other small few (inr told) =
    decimal_injective one other (omega arith) (omega arith) (append_cancel_left (codes "Replica: ") (decimal one) (decimal other) told)

-- bytes begin with one header only; its identifiers are known by their texts
pub one_header : (bytes : List ℕ) (one other : Head) (size more : ℕ) → IsHeader bytes one size → IsHeader bytes other more
    → (size ≡ more) × (one.snapshot ≡ other.snapshot) × (one.clock ≡ other.clock) × (one.replica ≡ other.replica)
    × (hyphenated_text lower one.instance ≡ hyphenated_text lower other.instance) × (hyphenated_text lower one.set ≡ hyphenated_text lower other.set)
one_header bytes one other size more first second =
    let lines = same_lines bytes one other size more first second in
    let four = same_four _ _ _ _ _ _ _ _ _ _ lines in
    let behind = same_behind (one.replica == 1) (other.replica == 1) (codes "Replica: " ++ decimal one.replica) (codes "Replica: " ++ decimal other.replica)
    (codes "VClock: " ++ vclock_text one.clock) (codes "VClock: " ++ vclock_text other.clock) (same_behind_four _ _ _ _ _ _ _ _ _ _ lines) in (
      first.sized ∙ ap length (same_text one other lines) ∙ sym second.sized,
      same_kind one.snapshot other.snapshot four.0,
      text_tells one.clock other.clock first.fits.sound second.fits.sound (append_cancel_left (codes "VClock: ") _ _ behind.0),
      same_replica one.replica other.replica first.fits.replica second.fits.replica behind.1,
      append_cancel_left (codes "Instance: ") _ _ four.1,
      append_cancel_left (codes "ReplicaSet: ") _ _ four.2,
    )
  where
    same_text : (a b : Head) → header_lines a ≡ header_lines b → header_of a ≡ header_of b
    same_text a b is = ap lines_text is
