use Rattle.std.proofs.Common.{◌≡◌, sym, ◌∙◌, subst}
use Rattle.std.specs.Prelude.{IfOk}
use Rattle.std.specs.FinMap.{empty, entries}
use Rattle.mx_schema.specs.Picks.{indexed_with}
use Rattle.mx_schema.specs.State.{tuples_in}
use Rattle.mx_schema.specs.Stored.{StoresTuples, stored_list}
use Rattle.mx_slow_state.proofs.SlowSiteLaws.{held_by}
use Rattle.mx_slow_state.proofs.slow_state.site.holder.Goals as goal

pub returns : goal.returns
returns c = λ before wanted is other fit bytes.
    let site = c.args.site.now in
    let def = c.args.def.now in
    let all = tuples_in before site.space.0 in
    let kept = subst (λ kept. StoresTuples (stored_list kept) (indexed_with def empty (entries all))) (sym c.as_slice.ensures.value) (c.in_ok-indexed.ensures all is.stored.keeps) in
    subst (λ held. IfOk c.copy_tuple.result (λ found. found ≡ held))
    (c.find.ensures.tuple ∙ held_by before site.space.0 site.primary.now def wanted c.as_slice.result.now c.args.key.now other kept fit bytes) c.copy_tuple.ensures
