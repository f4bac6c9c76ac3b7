use Rattle.std.proofs.Common.{rules, sym, ◌∙◌, ◌≡◌, ap}
use Rattle.std.specs.Prelude.{codes, slice_index}
use Rattle.std.proofs.lemmas.List.{append_cancel_left}
use Rattle.mx_vclock.specs.Text.{vclock_text}
use Rattle.mx_vclock.proofs.OneClock.{text_tells}
use Rattle.mx_xlog.proofs.ValueLaws.{faulty}
use Rattle.mx_xlog.proofs.lines.clock_in.Goals as goal

pub returns-in_default : goal.returns-in_default
returns-in_default c = λ clock told.
    faulty c.in_ok-text.text.now c.in_default.field-0.at c.in_default.ensures
    (clock, told.sound, append_cancel_left (codes "VClock: ") _ _ (sym c.in_ok-text.ensures ∙ told.is))

pub returns-then-get-ne0 : goal.returns-then-get-ne0
returns-then-get-ne0 c = λ clock told.
    let text : c.in_ok-text.text.now ≡ vclock_text clock = append_cancel_left (codes "VClock: ") _ _ (sym c.in_ok-text.ensures ∙ told.is) in
    let same = text_tells c.in-Ok.clock clock (search rules) told.sound (sym c.in-Ok.ensures ∙ text) in
    c.if-get-ne0.true (c.get.ensures ∙ ap (λ lsns. slice_index lsns 0) same ∙ told.nothing)
