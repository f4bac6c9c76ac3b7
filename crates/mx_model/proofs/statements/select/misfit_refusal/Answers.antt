use Rattle.std.proofs.Common.{rules, ◌<◌, ◌^◌, Err, length, sym, ap, ◌∙◌, arith}
use Rattle.mx_base.specs.declared.refusal.Refusal.TheVariants.{KeyPartCount}
use Rattle.mx_write.specs.Lookup.{misfit_refusal}
use Rattle.mx_entries.proofs.PickLaws.{has_more_parts}
use Rattle.mx_model.proofs.statements.select.misfit_refusal.Goals as goal

pub returns-in-TooLong : goal.returns-in-TooLong
returns-in-TooLong c = λ key e.
    let def = c.args.def.now in
    let parts = c.in-TooLong.parts in
    let small : c.in-TooLong.parts < 2 ^ 32 = search rules in
    let less = has_more_parts def.key key parts (e ∙ ap (λ misfit. Err misfit) c.in-TooLong.is) in
    let few : length def.key < 2 ^ 32 = omega arith in
    ap (λ n. KeyPartCount parts n) (c.part_count.ensures few) ∙ ap (misfit_refusal (length def.key)) (sym c.in-TooLong.is)
