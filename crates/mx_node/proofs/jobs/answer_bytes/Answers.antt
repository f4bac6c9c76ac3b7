use Rattle.std.proofs.Common.{◌≡◌, [], ◌++◌, sym, ◌∙◌}
use Rattle.mx_engine.specs.Standing.{EngineStandsFor}
use Rattle.mx_link.proofs.LinkLaws.{answers_none, link_feeds}
use Rattle.mx_node.proofs.CameLaws.{fed_answers, over_link}
use Rattle.mx_node.proofs.jobs.answer_bytes.Goals as goal

pub returns-then-has_ended-clause-answers : goal.returns-then-has_ended-clause-answers
returns-then-has_ended-clause-answers c = λ base history answers greeting came gone stands link.
    let session = c.args.session.now in
    let over = sym c.has_ended.ensures ∙ c.if-has_ended.true in
    answers_none (λ b h mine. EngineStandsFor c.args.engine.now b h) (λ others. others ≡ []) base history [] answers greeting (came ++ c.args.bytes.now) gone session stands
    (over_link base history answers greeting came gone session c.args.bytes.now over link)

pub returns-clause-answers : goal.returns-clause-answers
returns-clause-answers c = λ base history answers greeting came gone stands link.
    let session = c.args.session.now in
    let fed = c.feed.new.self in
    let bytes = c.args.bytes.now in
    let feeds = c.in_ok-feed.ensures in
    fed_answers base history answers greeting (came ++ bytes) gone c.answer_all.new.asker session fed c.answer_all.new.session bytes feeds
    (c.in_ok-answer_all.ensures.answers base history [] answers greeting (came ++ bytes) gone stands
    (link_feeds base history answers greeting came gone session link bytes fed feeds))
