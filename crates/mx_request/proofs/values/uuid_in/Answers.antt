use Rattle.std.proofs.Common.{◌∙◌}
use Rattle.mx_request.proofs.ValueLaws.{uuid_parsed}
use Rattle.mx_request.proofs.values.uuid_in.Goals as goal

pub returns-in-Ok-Str-default : goal.returns-in-Ok-Str-default
returns-in-Ok-Str-default c =
    c.ok.ensures.value ∙ uuid_parsed c.args.value.now c.in-Ok-Str-default.text.now c.in-Ok-Str-default.field-0-1 c.try_parse_ascii.result
    (rw c.in-Ok-Str-default.field-0-0-is at c.in-Ok-Str-default.ensures.exact) c.if-text-eq-UUID_TEXT.true c.try_parse_ascii.ensures.ok c.try_parse_ascii.ensures.bytes
