use Rattle.std.proofs.lemmas.Result.{err_from_is_err_and}
use Rattle.mx_entries.proofs.BuildLaws.{all_built, none_yet, one_more, row_refused}
use Rattle.mx_space.proofs.build.build.Goals as goal

pub loop-primary-init : goal.loop-primary-init
loop-primary-init c = λ all long stores whole other.
    none_yet c.args.def.now long all c.new-index.result c.args.tuples.now.entries c.into_iter-primary-iterator.result c.new-index.ensures
    c.into_iter-primary-iterator.ensures.into_iter_gives.0 stores whole

pub loop-primary-preserved : goal.loop-primary-preserved
loop-primary-preserved c = λ all long stores whole other.
    let part = c.loop-primary.invariant all long stores whole other in
    one_more c.args.def.now long all c.loop-primary.index c.loop-primary.primary-iterator c.next.new.self c.in-Some.primary.now c.in-Some.tuple.now c.in-Some.ensures.steps part c.add_row.new.index
    (λ own built absent is_long fit is. c.in_ok-add_row.ensures part.so_far long own built other absent is_long fit is)

pub returns-in_err-add_row : goal.returns-in_err-add_row
returns-in_err-add_row c = λ all long stores whole other.
    let part = c.loop-primary.invariant all long stores whole other in
    let p = err_from_is_err_and c.from_residual.result c.from_residual.ensures.1 in
    rw (p.1, p.2) (row_refused c.args.def.now long all c.loop-primary.index c.loop-primary.primary-iterator c.next.new.self c.in-Some.primary.now c.in-Some.tuple.now c.in-Some.ensures.steps part
    c.in_err-add_row.field-0.0 (λ own built absent is_long fit is. c.in_err-add_row.ensures part.so_far long own built other absent is_long fit is))

pub returns : goal.returns
returns c = λ all long stores whole other.
    all_built c.args.def.now long all c.loop-primary.index c.loop-primary.primary-iterator c.in-None.ensures.steps.0 (c.loop-primary.invariant all long stores whole other)
