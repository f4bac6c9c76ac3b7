use Rattle.std.proofs.Common.{◌∙◌, sym, arith}
use Rattle.mx_update.proofs.NumberLaws.{number_kept, int_shown}
use Rattle.mx_update.proofs.field.number_in.Goals as goal

pub returns-in-Ok-Int-default : goal.returns-in-Ok-Int-default
returns-in-Ok-Int-default c =
    let s = rw c.in-Ok-Int-default.field-0-0-is at c.in-Ok-Int-default.ensures.spelled in
    let shown = rw c.in-Ok-Int-default.field-0-0-is at c.in-Ok-Int-default.ensures.exact in
    c.new.ensures
    ∙ number_kept c.args.spelling.now c.in-Ok-Int-default.field-0-1 s.1 c.in-Ok-Int-default.number (λ i. omega (arith, c.type_inv.spelling i)) s.2 s.3
    ∙ sym (int_shown c.args.spelling.now c.in-Ok-Int-default.number c.in-Ok-Int-default.field-0-1 shown)
