use Rattle.std.proofs.Common.{Some, refl, ap}
use Rattle.std.specs.Option.{option_copied}
use Rattle.mx_write.proofs.UniqueLaws.{another_is}
use Rattle.mx_judge.proofs.unique.is_another.Goals as goal

pub returns : goal.returns
returns c = λ key replaced.
    let primary = c.args.target.now.primary.now in
    another_is primary (Some c.args.holder.now) c.args.holder.now (option_copied c.args.replaced) c.in-Some.replaced.now c.in_ok-own.own key c.ne.result
    refl (ap option_copied c.in-Some.is) replaced c.in_ok-own.ensures.0 c.in_ok-own.ensures.1 c.ne.ensures
