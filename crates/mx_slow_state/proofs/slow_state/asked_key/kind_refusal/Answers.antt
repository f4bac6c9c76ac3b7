use Rattle.std.proofs.Common.{rules, ◌≡◌, true, sym, ◌∙◌}
use Rattle.mx_model.specs.statements.Select.{takes_iterator}
use Rattle.mx_model.proofs.AnswerLaws.{hash_refuses}
use Rattle.mx_slow_state.proofs.slow_state.asked_key.kind_refusal.Goals as goal

pub returns-in_ok-part_count_refusal-in-Hash : goal.returns-in_ok-part_count_refusal-in-Hash
returns-in_ok-part_count_refusal-in-Hash c = λ key same.
    let def = c.args.def.now in
    let taken : takes_iterator def.kind c.args.iterator c.args.parts ≡ true = search rules in
    hash_refuses def c.args.iterator key c.args.parts _ c.in-Hash.is same taken c.if-parts-eq0.false (λ many. c.if-parts-len.false (many ∙ sym c.len.ensures))
    c.in_ok-part_count_refusal-in-Hash.ensures
