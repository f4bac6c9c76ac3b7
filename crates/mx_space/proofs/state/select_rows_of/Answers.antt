use Rattle.std.proofs.Common.{ℕ, List, sym, ap, ◌∙◌, subst, true≢false}
use Rattle.std.specs.FinMap.{empty}
use Rattle.std.specs.Option.{option_copied}
use Rattle.mx_key.specs.Keys.{key_cmp}
use Rattle.mx_schema.specs.Catalogues.{schema_of}
use Rattle.mx_schema.specs.State.{Tuples, tuples_in}
use Rattle.mx_schema.specs.Stored.{StoresNone, StoresTuples}
use Rattle.mx_schema.proofs.StoredLaws.{stores_none}
use Rattle.mx_space.specs.Kept.{StoresIndexed}
use Rattle.mx_space.specs.Stored.{HoldsSpace}
use Rattle.mx_space.proofs.state.select_rows_of.Goals as goal
use Rattle.mx_space.proofs.state.select_rows_of.Goals.{in-Some, in-None}

pub returns : goal.returns
returns c = λ base holds.
    let source = c.args.source.0 in
    let held = holds.spaces source in
    let keeps : StoresTuples c.match-space.tuples.now.entries (tuples_in base source) = elim c.match-space.branch [
      | in-Some w ↦
          let stores : StoresIndexed (schema_of base source) w.in-Some.space.now (tuples_in base source) =
          subst (λ o. HoldsSpace (schema_of base source) o (tuples_in base source)) (sym c.space.ensures ∙ ap option_copied w.in-Some.is) held in
          subst (λ kept. StoresTuples kept (tuples_in base source)) (sym (ap (λ t. t.now.entries) w.tuples-is ∙ ap (λ t. t.entries) w.tuples-tuples.ensures)) stores.holds.keeps
      | in-None w ↦
          let absent : StoresNone (schema_of base source) (tuples_in base source) =
          subst (λ o. HoldsSpace (schema_of base source) o (tuples_in base source)) (sym c.space.ensures ∙ ap option_copied w.in-None.is) held in
          subst (λ (t : Tuples). StoresTuples c.match-space.tuples.now.entries t) (sym absent.no_tuples)
          (subst (λ kept. StoresTuples kept (empty {X = List ℕ} {R = key_cmp})) (sym (ap (λ t. t.now.entries) w.tuples-is)) (stores_none c.new-none.result.entries c.new-none.ensures.empty))
    ] in
    c.select_from.ensures (tuples_in base source) keeps (λ yes first. absurd (true≢false (sym yes)))
