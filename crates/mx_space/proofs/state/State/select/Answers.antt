use Rattle.std.proofs.Common.{◌≡◌, ℕ, ◌∙◌, sym, subst}
use Rattle.std.specs.FinMap.{entries}
use Rattle.std.proofs.lemmas.Bool.{eqb-true}
use Rattle.mx_schema.specs.Catalogues.{schema_of}
use Rattle.mx_schema.specs.Picks.{tuples_by_index}
use Rattle.mx_schema.specs.State.{source_of, tuples_in}
use Rattle.mx_entries.specs.Scans.{SelectsByKey}
use Rattle.mx_space.proofs.SpaceLaws.{are_long, have_keys, have_unique}
use Rattle.mx_space.proofs.state.State.select.Goals as goal

pub returns-then-eq : goal.returns-then-eq
returns-then-eq c = λ state holds stores there.
    let own = c.args.id.0 in
    let def = c.args.def.now in
    let space = c.args.space.now in
    let same : own ≡ source_of own = sym (eqb-true c.source_of-source.result.0 own (sym c.eq.ensures ∙ c.if-eq.true)) ∙ c.source_of-source.ensures in
    let (long, whole) = are_long state holds.sound own space stores in
    let read = c.select_stored.ensures (schema_of state own) (tuples_in state own) long stores whole there
    (have_keys state holds.sound own space stores def there) (have_unique state holds.sound own space stores def there) in
    subst (λ (s : ℕ). SelectsByKey (entries (tuples_by_index def (tuples_in state s))) def c.args.wanted.now c.select_stored.new.found c.select_stored.result) same read

pub returns : goal.returns
returns c = λ state holds stores there.
    subst (λ (s : ℕ). SelectsByKey (entries (tuples_by_index c.args.def.now (tuples_in state s))) c.args.def.now c.args.wanted.now c.select_rows_of.new.found c.select_rows_of.result)
    c.source_of-source.ensures (c.select_rows_of.ensures state holds)
