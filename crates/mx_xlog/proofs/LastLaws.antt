-- The lines after the first four: at which one bytes stop to be a header, and what a whole one says.
use Rattle.std.proofs.Common.{◌≡◌, ℕ, ◌+◌, ◌-◌, ◌<◌, Bool, true, false, if◌then◌else◌, ◌==◌, List, [], ◌∷◌, ◌++◌, length, refl, sym, ap, ◌∙◌}
use Rattle.std.proofs.Common.{append_assoc, arith, length-append, inl, inr}
use mathlib.Core.Logic.{◌⊎◌}
use Rattle.std.specs.Prelude.{codes, decimal}
use Rattle.std.proofs.lemmas.Bool.{eqb-true, eqb-false}
use Rattle.mx_vclock.specs.Text.{vclock_text}
use Rattle.mx_xlog.specs.declared.head.Head.{Head}
use Rattle.mx_xlog.specs.Headers.{lines_text, header_of, header_lines, replica_lines, IsHead, IsHeader, IsFaultLine}
use Rattle.mx_xlog.specs.Lines.{IsLine, TellsReplica, TellsClock}
use Rattle.mx_xlog.specs.HeaderParts.{opening_lines, BeginsWith, BeginsNone}
use Rattle.mx_xlog.proofs.HeaderLaws.{fault_behind, lines_behind, one_line_more}
use Rattle.mx_xlog.proofs.PlaceLaws.{head_told, some_head, some_fits}

-- what may stand after a replica's line, or after the first four lines where there is none
after_replica : (first known : Bool) (mine other clock line : List ℕ) (more : List (List ℕ)) → ¬ (clock ≡ other)
    → (if first then [] else mine ∷ []) ++ clock ∷ [] ∷ [] ≡ (if known then [] else other ∷ []) ++ line ∷ more
    → ((known ≡ true) × (first ≡ false) × (line ≡ mine)) ⊎ (line ≡ clock)
after_replica true true mine other clock line more apart is = inr cc
after_replica true false mine other clock line more apart is = absurd (apart cc)
after_replica false true mine other clock line more apart is = inl (refl, refl, cc)
after_replica false false mine other clock line more apart is = inr cc

-- what stands after a vclock's line
after_clock : (first known : Bool) (mine other clock told line : List ℕ) (more : List (List ℕ)) → ¬ (clock ≡ other) → ¬ (told ≡ mine)
    → (if first then [] else mine ∷ []) ++ clock ∷ [] ∷ [] ≡ (if known then [] else other ∷ []) ++ told ∷ line ∷ more → line ≡ []
after_clock true true mine other clock told line more apart too is = cc
after_clock true false mine other clock told line more apart too is = absurd (apart cc)
after_clock false true mine other clock told line more apart too is = absurd (too cc)
after_clock false false mine other clock told line more apart too is = cc

first_byte : (byte other : ℕ) (bytes more : List ℕ) → byte ∷ bytes ≡ other ∷ more → byte ≡ other
first_byte byte other bytes more is = cc

-- a line has a vclock or a replica id
apart : (clock : List ℕ) (id : ℕ) → ¬ (codes "VClock: " ++ vclock_text clock ≡ codes "Replica: " ++ decimal id)
apart clock id is = omega (arith, first_byte 86 82 _ _ is)

same_last : (a b c d e f g h : List ℕ) (lines more : List (List ℕ)) → a ∷ b ∷ c ∷ d ∷ lines ≡ e ∷ f ∷ g ∷ h ∷ more → lines ≡ more
same_last a b c d e f g h lines more is = cc

-- the bytes begin with the first four lines and the replica's, and this is the rest
module _ (snapshot : Bool) (instance set : List ℕ) (replica : ℕ) (a b bytes : List ℕ) (small : replica < 32)
    (opening : bytes ≡ lines_text (opening_lines snapshot instance set) ++ a) (behind : a ≡ lines_text (replica_lines replica) ++ b) where
  abbrev replica_known : List (List ℕ)
  replica_known = opening_lines snapshot instance set ++ replica_lines replica

  replica_told : bytes ≡ lines_text replica_known ++ b
  replica_told = lines_behind (opening_lines snapshot instance set) (replica_lines replica) a b bytes opening behind

  -- what stands there is neither a vclock nor a replica id that could stand there
  pub no_clock : (line : ℕ) → (replica ≡ 1 → BeginsNone TellsReplica b) → BeginsNone TellsClock b → line ≡ 5 + length (replica_lines replica)
      → IsFaultLine bytes line
  no_clock line other none place =
      fault_behind replica_known _ _ (some_head snapshot instance set replica) b bytes line (some_fits snapshot instance set replica small) refl
      replica_told
      (λ head next more tail fits are is_line is.
      by_case head next tail fits is_line is
      (after_replica (head.replica == 1) (replica == 1) _ _ _ next more (apart head.clock replica) (same_last _ _ _ _ _ _ _ _ _ _ are)))
      (omega arith)
    where
      by_case : (head : Head) (next tail : List ℕ) → IsHead head → IsLine next → b ≡ next ++ 10 ∷ tail
          → (((replica == 1) ≡ true) × ((head.replica == 1) ≡ false) × (next ≡ codes "Replica: " ++ decimal head.replica))
          ⊎ (next ≡ codes "VClock: " ++ vclock_text head.clock) → ⊥
      by_case head next tail fits is_line is (inl told) =
          let tells : TellsReplica head.replica next = record { below = fits.replica; other = eqb-false head.replica 1 told.1; is = told.2 } in
          other (eqb-true replica 1 told.0) head.replica next tail is_line tells is
      by_case head next tail fits is_line is (inr told) =
          none head.clock next tail is_line (record { sound = fits.sound; nothing = fits.nothing; is = told }) is

  -- then comes the vclock, and this is the rest
  module _ (clock c : List ℕ) (told : BeginsWith TellsClock clock c b) where
    abbrev head : Head
    head = head_told snapshot instance set replica clock

    head_fits : IsHead head
    head_fits = record { replica = small; sound = told.1.sound; nothing = told.1.nothing }

    abbrev clock_text : List ℕ
    clock_text = codes "VClock: " ++ vclock_text clock

    abbrev clock_known : List (List ℕ)
    clock_known = replica_known ++ clock_text ∷ []

    clock_told : bytes ≡ lines_text clock_known ++ c
    clock_told = one_line_more replica_known told.0 clock_text b c bytes replica_told told.1.is told.2

    lines_told : header_lines head ≡ clock_known ++ [] ∷ []
    lines_told = ap (λ lines. opening_lines snapshot instance set ++ lines) (sym (append_assoc (replica_lines replica) (clock_text ∷ []) ([] ∷ [])))

    -- what stands after the vclock isn't the empty line
    pub no_end : (line : ℕ) → ((rest : List ℕ) → ¬ (c ≡ 10 ∷ rest)) → line ≡ 6 + length (replica_lines replica) → IsFaultLine bytes line
    no_end line none place =
        fault_behind clock_known _ _ head c bytes line head_fits lines_told clock_told
        (λ other next more tail fits are is_line is.
        let last = same_last _ _ _ _ _ _ _ _ _ _ are ∙ append_assoc (replica_lines replica) (clock_text ∷ []) (next ∷ more) in
        let empty = after_clock (other.replica == 1) (replica == 1) _ _ _ clock_text next more
        (apart other.clock replica) (apart clock other.replica) last in
        none tail (is ∙ ap (λ l. l ++ 10 ∷ tail) empty))
        (omega (arith, length-append (replica_lines replica) (clock_text ∷ [])))

    -- a whole header
    pub header_told : (d : List ℕ) → c ≡ 10 ∷ d → IsHeader bytes head (length bytes - length d)
    header_told d end =
        let whole = one_line_more clock_known [] [] c d bytes clock_told refl end in
        let is : bytes ≡ header_of head ++ d = whole ∙ ap (λ lines. lines_text lines ++ d) (sym lines_told) in
        let counts : length bytes ≡ length (header_of head) + length d = ap length is ∙ length-append (header_of head) d in
        record { fits = head_fits; sized = omega arith; begins = (d, is) }
