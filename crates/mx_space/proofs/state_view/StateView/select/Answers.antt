use Rattle.std.proofs.Common.{◌≡◌, inr, sym, ap, ◌∙◌, subst, eqb-true, nat_eq}
use Rattle.std.specs.FinMap.{entries}
use Rattle.mx_schema.specs.Catalogues.{schema_of}
use Rattle.mx_schema.specs.Picks.{tuples_by_index}
use Rattle.mx_schema.specs.State.{Tuples, source_of, tuples_in}
use Rattle.mx_entries.specs.Scans.{SelectsByKey}
use Rattle.mx_space.proofs.StateViewLaws.{have_shown, long_both, one_each_stored, source_kept, unique_shown}
use Rattle.mx_space.proofs.state_view.StateView.select.Goals as goal

pub returns-then-eq : goal.returns-then-eq
returns-then-eq c = λ seen holds shows there.
    let id = c.args.id.0 in
    let def = c.args.def.now in
    let view = c.args.space in
    let schema = schema_of seen id in
    let tuples = tuples_in seen id in
    let same : id ≡ source_of id = sym (eqb-true c.source_of-source.result.0 id (sym c.eq.ensures ∙ c.if-eq.true)) ∙ c.source_of-source.ensures in
    let (long, stored, shown) = long_both schema view tuples shows in
    let read = c.select.ensures schema shows.all shows.written long shows.sees stored shown there (have_shown schema view tuples shows def there) (unique_shown schema view tuples shows def there)
    (λ unique. one_each_stored schema view tuples shows def there (inr unique)) in
    subst (λ (t : Tuples). SelectsByKey (entries (tuples_by_index def t)) def c.args.wanted.now c.select.new.found c.select.result)
    (sym shows.is ∙ ap (tuples_in seen) same) read

pub returns : goal.returns
returns c = λ seen holds shows there.
    let id = c.args.id.0 in
    let def = c.args.def.now in
    let apart = ap (λ n. nat_eq n id) (sym c.source_of-source.ensures) ∙ sym c.eq.ensures ∙ c.if-eq.false in
    let read = c.select_rows_of.ensures holds.base holds.holds in
    subst (λ (t : Tuples). SelectsByKey (entries (tuples_by_index def t)) def c.args.wanted.now c.select_rows_of.new.found c.select_rows_of.result)
    (ap (tuples_in holds.base) c.source_of-source.ensures ∙ sym (source_kept c.args.self seen holds id apart)) read
