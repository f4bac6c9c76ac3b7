use Rattle.std.proofs.Common.{◌∙◌}
use Rattle.mx_request.proofs.PacketLaws.{body_whole}
use Rattle.mx_request.proofs.bodies.body_values.Goals as goal

pub returns-in-Some-clause-whole : goal.returns-in-Some-clause-whole
returns-in-Some-clause-whole c = c.is_empty.ensures ∙ body_whole c.args.body.now c.in-Some.rest.now c.in-Some.ensures.rest
