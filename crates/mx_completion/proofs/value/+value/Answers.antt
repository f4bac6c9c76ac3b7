use Rattle.std.proofs.Common.{rules, ◌≡◌, ◌∷◌, Some, None, ap, ◌∙◌}
use Rattle.mx_completion.specs.Sequences.{longer}
use Rattle.mx_completion.proofs.ValueLaws.{completed_empty, completed_behind}
use Rattle.mx_completion.proofs.value.+value.Goals as goal

pub completed-returns-in_default-clause-exact : goal.completed-returns-in_default-clause-exact
completed-returns-in_default-clause-exact t c = completed_empty c.args.room c.args.bytes.now c.in_default.ensures.cases

pub completed-returns-in-Some-leading_of-clause-exact : goal.completed-returns-in-Some-leading_of-clause-exact
completed-returns-in-Some-leading_of-clause-exact t c =
    let parts : c.args.bytes.now ≡ c.in-Some.byte.now ∷ c.in-Some.rest.now = search rules in
    c.longer.ensures ∙ ap (λ l. longer 1 l) c.led_completion.ensures.exact
    ∙ completed_behind c.args.room c.in-Some.byte.now c.in-Some.rest.now c.args.bytes.now (Some c.in-Some-leading_of.leading) parts c.in-Some-leading_of.ensures.exact

pub completed-returns-in-None-clause-exact : goal.completed-returns-in-None-clause-exact
completed-returns-in-None-clause-exact t c =
    let parts : c.args.bytes.now ≡ c.in-Some.byte.now ∷ c.in-Some.rest.now = search rules in
    completed_behind c.args.room c.in-Some.byte.now c.in-Some.rest.now c.args.bytes.now None parts c.in-None.ensures.exact
