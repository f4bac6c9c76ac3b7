use Rattle.std.proofs.Common.{◌∙◌, ap, sym}
use Rattle.std.specs.Option.{option_map}
use Rattle.mx_row.proofs.FitLaws.{behind_decided, part_none, whole_behind, whole_header}
use Rattle.mx_row.proofs.completion.can_fit.Goals as goal

pub body_can_fit-requires-clause-part : goal.body_can_fit-requires-clause-part
body_can_fit-requires-clause-part c = part_none c.in-Some.rest.now (sym c.is_part.ensures ∙ c.if-is_part.true)

pub header_can_fit-requires-clause-part : goal.header_can_fit-requires-clause-part
header_can_fit-requires-clause-part c = part_none c.args.bytes.now (sym c.is_part-in-None.ensures ∙ c.if-is_part-2.true)

pub returns-then-is_part : goal.returns-then-is_part
returns-then-is_part c =
    behind_decided c.args.rows.now c.args.bytes.now c.in-Some.rest.now c.in-Some.header
    (sym c.header_at.ensures ∙ ap (option_map (λ x. (x.0, x.1.now))) c.in-Some.is) c.body_can_fit.result c.body_can_fit.ensures

pub returns-else-is_part : goal.returns-else-is_part
returns-else-is_part c =
    rw c.if-is_part.false (whole_behind c.args.rows.now c.args.bytes.now c.in-Some.rest.now c.in-Some.header
    (sym c.header_at.ensures ∙ ap (option_map (λ x. (x.0, x.1.now))) c.in-Some.is) c.requires.none (sym c.is_part.ensures ∙ c.if-is_part.false))

pub returns-else-is_part-2 : goal.returns-else-is_part-2
returns-else-is_part-2 c =
    rw c.if-is_part-2.false (whole_header c.args.rows.now c.args.bytes.now
    (sym c.header_at.ensures ∙ ap (option_map (λ x. (x.0, x.1.now))) c.in-None.is) (sym c.is_part-in-None.ensures ∙ c.if-is_part-2.false))
