use Rattle.std.proofs.Common.{sym, ap, ◌∙◌}
use Rattle.std.specs.Option.{option_copied}
use Rattle.mx_schema.specs.State.{tuples_in}
use Rattle.mx_write.specs.Lookup.{primary_key_with}
use Rattle.mx_judge.proofs.EntryStageLaws.{entry_is}
use Rattle.mx_judge.proofs.entry.find_entry.Goals as goal

pub returns : goal.returns
returns c = λ before wanted target there unique fit is.
    let t = c.args.target.now in
    let space = t.scope.space.0 in
    entry_is before t target c.in-Some.key c.in-Some-tuple.tuple.now (primary_key_with before space t.primary.now c.args.def.now wanted)
    (rw c.in-Some.is at (c.in_ok-key.ensures before wanted target there unique fit is))
    (λ key fits same. ap option_copied (sym c.in-Some-tuple.is) ∙ c.tuple.ensures.shown _ (tuples_in before space) key target.stored fits same)
