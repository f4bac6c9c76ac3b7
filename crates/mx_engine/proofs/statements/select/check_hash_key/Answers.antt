use Rattle.std.proofs.Common.{rules, ◌≡◌, inl, true, sym, ◌∙◌}
use Rattle.mx_model.specs.statements.Select.{takes_iterator}
use Rattle.mx_model.proofs.AnswerLaws.{hash_refuses}
use Rattle.mx_engine.proofs.statements.select.check_hash_key.Goals as goal

pub returns : goal.returns
returns c = λ key hash same.
    let def = c.args.def.now in
    let taken : takes_iterator def.kind c.args.iterator c.args.parts ≡ true = search rules in
    inl (hash_refuses def c.args.iterator key c.args.parts _ hash same taken c.if-parts-eq0.false (λ many. c.if-parts-len.false (many ∙ sym c.len.ensures))
    c.in_ok-part_count_refusal.ensures)
