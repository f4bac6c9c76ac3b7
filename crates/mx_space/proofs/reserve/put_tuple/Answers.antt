use Rattle.std.proofs.Common.{refl, sym, ◌∙◌, subst}
use Rattle.std.specs.Prelude.{IsSome}
use Rattle.mx_space.proofs.ChangeLaws.{insertion_undone, replacement_undone}
use Rattle.mx_space.proofs.reserve.put_tuple.Goals as goal

pub returns-in-Some-2-clause-undo : goal.returns-in-Some-2-clause-undo
returns-in-Some-2-clause-undo c =
    let put = c.in_ok-old.ensures in
    replacement_undone c.args.tuples.now.entries c.insert.new.self.entries c.args.key.now c.in_ok-clone.field-0 c.in-Some.tuple put.entries c.in_ok-clone.ensures.cases c.in-Some-2.old
    (put.keys_stay (subst IsSome (sym c.in-Some-2.is) refl)) (sym put.old ∙ c.in-Some-2.is)

pub returns-in-None-clause-undo : goal.returns-in-None-clause-undo
returns-in-None-clause-undo c =
    let put = c.in_ok-old.ensures in
    insertion_undone c.args.tuples.now.entries c.insert.new.self.entries c.args.key.now c.in_ok-clone.field-0 c.in-Some.tuple put.entries c.in_ok-clone.ensures.cases (sym put.old ∙ c.in-None.is)
