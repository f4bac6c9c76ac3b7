use Rattle.std.proofs.Common.{sym, ap, ◌∙◌}
use Rattle.std.specs.List.{concat}
use Rattle.mx_bytes.proofs.CutLaws.{pieces-concat}
use Rattle.mx_bytes.proofs.tuples.Tuples.bytes.Goals as goal

pub returns : goal.returns
returns c =
    let parts = c.self.inside in
    c.as_slice.ensures.value ∙ sym (pieces-concat parts.sizes.items parts.bytes.items c.self.invariant) ∙ ap concat c.self.view_is
