-- What the code makes of a write that no stage before refused.
use Rattle.std.proofs.Common.{◌≡◌, inl, ℕ, ◌<◌, ◌≤◌, Bool, true, false, List, length, Some, Result, Ok, Err, sym, ap, ◌∙◌, subst}
use Rattle.std.specs.Prelude.{MatchResult, nat_lt, if◌then◌else◌}
use Rattle.std.proofs.lemmas.Bool.{le-ltb, lt-ltb}
use Rattle.mx_base.specs.declared.refusal.Refusal.{Refusal}
use Rattle.mx_base.specs.declared.refusal.Refusal.TheVariants.{TransactionTooLong}
use Rattle.mx_key.specs.Arrays.{key_array}
use Rattle.mx_key.specs.Comparable.{comparable_of}
use Rattle.mx_key.specs.Keys.{Key, AreFit}
use Rattle.mx_row.specs.declared.row.Row.{Row}
use Rattle.mx_row.specs.Rows.{max_body_size, row_body_text}
use Rattle.mx_schema.specs.declared.schema.Schema.{Schema}
use Rattle.mx_schema.specs.Catalogues.{schema_of}
use Rattle.mx_schema.specs.State.{State}
use Rattle.mx_judge.specs.declared.made.Effect.{Effect}
use Rattle.mx_judge.specs.declared.made.Made as code
use Rattle.mx_write.specs.Judged.{Judged, found, stopped}
use Rattle.mx_write.specs.Made.{Made, made, row_with}
use Rattle.mx_write.specs.Stages.{HasKey}
use Rattle.mx_judge.specs.Makes.{JudgesMade, MakesWrite, tuple_after, tuples_shown}
use Rattle.mx_write.specs.Writes.{Write}

module _ (before : State) (space : ℕ) (write : Write) (schema : Schema) (own : Key) (key row_key : List ℕ) (effect : Effect)
    (described : schema_of before space ≡ Some schema) (fit : AreFit own) (bytes : key ≡ comparable_of own) (has : HasKey schema own (tuple_after effect))
    (same_row : row_with space write row_key ≡ row_with space write (key_array own)) where
  abbrev row : Row
  row = row_with space write (key_array own)

  abbrev the_made : Made
  the_made = record { row = Some row; change = Some (record { space = space; key = own; tuple = tuple_after effect }); shown = tuples_shown effect }

  abbrev by_size : Bool → Judged Made
  by_size long = if long then stopped TransactionTooLong else found the_made

  abbrev whole : Judged Made
  whole = made space write own (tuple_after effect) (tuples_shown effect)

  sizes : length (row_body_text (row_with space write row_key)) ≡ length (row_body_text row)
  sizes = ap (λ r. length (row_body_text r)) same_row

  makes : (one : code.Made) → one ≡ record { key = key; row_key = row_key; effect = effect } → MakesWrite before space write one the_made
  makes one is = record {
    schema = schema;
    key = own;
    described = described;
    fit = fit;
    bytes = ap (λ (m : code.Made). m.key) is ∙ bytes;
    has = subst (λ (m : code.Made). HasKey schema own (tuple_after m.effect)) (sym is) has;
    row = ap Some (sym same_row) ∙ ap (λ (m : code.Made). Some (row_with space write m.row_key)) (sym is);
    change = ap (λ (m : code.Made). Some (record { space = space; key = own; tuple = tuple_after m.effect })) (sym is);
    shown = ap (λ (m : code.Made). tuples_shown m.effect) (sym is);
  }

  pub judged_made : (result : Result code.Made Refusal)
      → MatchResult result
      (λ one. (one ≡ record { key = key; row_key = row_key; effect = effect }) × (length (row_body_text (row_with space write row_key)) ≤ max_body_size))
      (λ why. (why ≡ TransactionTooLong) × (max_body_size < length (row_body_text (row_with space write row_key))))
      → JudgesMade before space write result whole
  judged_made (Ok one) (is, short) =
      let fits : nat_lt max_body_size (length (row_body_text row)) ≡ false = le-ltb max_body_size _ (subst (λ n. n ≤ max_body_size) sizes short) in
      (the_made, ap (λ b. (by_size b).outcome) fits, makes one is)
  judged_made (Err why) (is, long) =
      let passes : nat_lt max_body_size (length (row_body_text row)) ≡ true = lt-ltb max_body_size _ (subst (λ n. max_body_size < n) sizes long) in
      inl (ap (λ b. (by_size b).outcome) passes ∙ ap (λ w. Err w) (sym is))
