use Rattle.std.proofs.Common.{◌∙◌}
use Rattle.mx_entries.specs.OwnWrites.{IsHolder}
use Rattle.mx_space.proofs.view.unique_holder.Goals as goal

pub returns-in_default : goal.returns-in_default
returns-in_default c = λ schema all long wanted stores whole there each apart fit is.
    rw c.in_default.is at (c.in_ok-primary.ensures schema all long wanted stores whole there each apart fit is)

pub returns : goal.returns
returns c = λ schema all long wanted stores whole there each apart fit is.
    let holder : IsHolder c.args.def.now all wanted c.in-Some.primary = rw c.in-Some.is at (c.in_ok-primary.ensures schema all long wanted stores whole there each apart fit is) in
    c.tuple.ensures all holder.own stores.holds.keeps holder.fit holder.is ∙ holder.holds
