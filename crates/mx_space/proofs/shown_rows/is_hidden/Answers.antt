use Rattle.std.proofs.Common.{sym, ap, ◌∙◌}
use Rattle.std.specs.Prelude.{if◌then◌else◌}
use Rattle.mx_space.specs.Overlays.{hides}
use Rattle.mx_space.proofs.shown_rows.is_hidden.Goals as goal

pub returns-then-is_first : goal.returns-then-is_first
returns-then-is_first c =
    c.hides.ensures ∙ ap (λ b. hides c.args.over.now (if b then c.args.key.now else c.args.value.now)) (sym c.if-is_first.true)

pub returns : goal.returns
returns c =
    c.hides-2.ensures ∙ ap (hides c.args.over.now) c.in_ok-primary.ensures
    ∙ ap (λ b. hides c.args.over.now (if b then c.args.key.now else c.args.value.now)) (sym c.if-is_first.false)
