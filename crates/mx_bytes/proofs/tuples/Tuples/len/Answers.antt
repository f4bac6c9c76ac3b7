use Rattle.std.proofs.Common.{length, sym, ap, ◌∙◌}
use Rattle.mx_bytes.proofs.CutLaws.{pieces-length}
use Rattle.mx_bytes.proofs.tuples.Tuples.len.Goals as goal

pub returns : goal.returns
returns c =
    let parts = c.self.inside in
    ap length c.as_slice.ensures.value ∙ sym (pieces-length parts.sizes.items parts.bytes.items) ∙ ap length c.self.view_is
