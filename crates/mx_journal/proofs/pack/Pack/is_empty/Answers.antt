use Rattle.std.proofs.Common.{ap, sym, ◌∙◌}
use Rattle.mx_journal.specs.Groups.{whole_text}
use Rattle.mx_journal.proofs.PackLaws.{no_bytes, nothing_packed}
use Rattle.mx_journal.proofs.pack.Pack.is_empty.Goals as goal

pub returns : goal.returns
returns c =
    let parts = c.self.inside in
    let seen = ap whole_text c.self.view_is in (
      λ empty. sym seen ∙ nothing_packed parts.last parts.bytes (c.is_empty.ensures.0 empty),
      λ nothing. c.is_empty.ensures.1 (no_bytes parts.last parts.bytes c.self.invariant (seen ∙ nothing)),
    )
