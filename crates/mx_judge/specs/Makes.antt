-- What the code returns of a write: what it makes, or why it is refused.
use Rattle.std.specs.Prelude.{◌≡◌, ℕ, List, [], ◌∷◌, Option, Some, None, Result, Ok, MatchOption, MatchResult}
use Rattle.mx_base.specs.declared.refusal.Refusal.{Refusal}
use Rattle.mx_key.specs.Comparable.{comparable_of}
use Rattle.mx_key.specs.Keys.{Key, AreFit}
use Rattle.mx_schema.specs.declared.schema.Schema.{Schema}
use Rattle.mx_schema.specs.Catalogues.{schema_of}
use Rattle.mx_schema.specs.State.{State}
use Rattle.mx_judge.specs.declared.made.Effect.{Effect}
use Rattle.mx_judge.specs.declared.made.Effect.TheVariants.{Put, Removed}
use Rattle.mx_judge.specs.declared.made.Made as code
use Rattle.mx_write.specs.Judged.{Judged}
use Rattle.mx_write.specs.Made.{Made, nothing, row_with}
use Rattle.mx_write.specs.Writes.{Write}
use Rattle.mx_write.specs.Stages.{shown_if, HasKey, IsRefusedBy}

abbrev pub tuples_shown : Effect → List (List ℕ)
tuples_shown (Put tuple is_shown) = shown_if is_shown tuple
tuples_shown (Removed tuple) = tuple ∷ []

abbrev pub tuple_after : Effect → Option (List ℕ)
tuple_after (Put tuple is_shown) = Some tuple
tuple_after (Removed tuple) = None

-- The code has what a write makes: the bytes of the primary key, the array of it that the row has, and the tuple.
pub record MakesWrite (before : State) (space : ℕ) (write : Write) (found : code.Made) (made : Made) : Type 0 where
  pub schema : Schema
  pub key : Key
  pub described : schema_of before space ≡ Some schema
  pub fit : AreFit key
  pub bytes : found.key ≡ comparable_of key
  pub has : HasKey schema key (tuple_after found.effect)
  pub row : made.row ≡ Some (row_with space write found.row_key)
  pub change : made.change ≡ Some (record { space = space; key = key; tuple = tuple_after found.effect })
  pub shown : made.shown ≡ tuples_shown found.effect

abbrev pub MakesOf : State → (space : ℕ) → Write → code.Made → Judged Made → Type 0
MakesOf before space write found judged = (made : Made) × (judged.outcome ≡ Ok made) × MakesWrite before space write found made

-- what a write makes that always finds its tuple, or why it is refused
abbrev pub JudgesMade : State → (space : ℕ) → Write → Result code.Made Refusal → Judged Made → Type 0
JudgesMade before space write result judged =
    MatchResult result (λ found. MakesOf before space write found judged) (λ refusal. IsRefusedBy refusal judged)

-- the same of a write that may find none
abbrev pub JudgesFound : State → (space : ℕ) → Write → Result (Option code.Made) Refusal → Judged Made → Type 0
JudgesFound before space write result judged =
    MatchResult result
    (λ found. MatchOption found (judged.outcome ≡ Ok nothing) (λ one. MakesOf before space write one judged))
    (λ refusal. IsRefusedBy refusal judged)
