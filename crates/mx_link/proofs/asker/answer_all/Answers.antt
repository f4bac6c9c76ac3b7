use Rattle.std.proofs.Common.{[], ◌∷◌, ◌++◌, map, refl}
use Rattle.mx_link.specs.Answers.{step_place}
use Rattle.mx_link.proofs.LinkLaws.{answers_more, answers_none, answers_same, answers_stopped}
use Rattle.mx_link.proofs.SessionLaws.{fewer_after, passed_with, session_with_reply}
use Rattle.mx_link.proofs.ReplyLaws.{on_err}
use Rattle.mx_link.proofs.asker.answer_all.Goals as goal

pub jobs-init : goal.jobs-init
jobs-init g c = record {
  fits = c.requires;
  answers = λ base history mine answers greeting came gone come link.
      answers_none (g.A.Asker.at c.args.with.now c.args.asker.now) g.A.Asker.between base history mine answers greeting came gone c.args.session.now come
      link;
}

pub jobs-smaller : goal.jobs-smaller
jobs-smaller g c =
    let passed = c.pass.new.self in
    let (job, rest, seen, answered) = rw c.in-Some.is at c.in_ok-given.ensures.answers in
    fewer_after c.jobs.session passed c.push_reply_bytes.new.self job rest c.in-Some.given.ends
    (passed.waiting ++ record { front = _; reply = c.as_slice.result.now } ∷ []) seen (c.pass.ensures job rest seen) c.in_ok-push_reply_bytes.ensures

pub jobs-preserved : goal.jobs-preserved
jobs-preserved g c =
    let given = c.in-Some.given in
    let now = c.jobs.session in
    let after = c.push_reply_bytes.new.self in
    let packet = c.answer_next.new.buffers.packet in
    let (job, rest, seen, answered) = rw c.in-Some.is at c.in_ok-given.ensures.answers in
    let pushed = session_with_reply now c.pass.new.self after rest given.ends given.front c.as_slice.result.now packet (c.pass.ensures job rest seen)
    c.in_ok-push_reply_bytes.ensures c.as_slice.ensures in
    record {
      fits = c.answer_next.ensures.fits;
      answers = λ base history mine answers greeting came gone come link.
          let so_far = c.jobs.invariant.answers base history mine answers greeting came gone come link in
          answers_more (g.A.Asker.at c.args.with.now c.jobs.asker) (g.A.Asker.at c.args.with.now c.answer_next.new.self) g.A.Asker.between base history mine
          answers greeting came gone c.args.session.now now so_far job rest given.ends given.front packet after seen
          (answered base (so_far.more ++ history) (mine ++ map step_place so_far.made) so_far.at) pushed;
    }

pub returns-in_default-clause-answers : goal.returns-in_default-clause-answers
returns-in_default-clause-answers g c = λ base history mine answers greeting came gone come link.
    let (none, same) = rw c.in_default.is at c.in_ok-given.ensures.answers in
    let so_far = c.jobs.invariant.answers base history mine answers greeting came gone come link in
    answers_same (g.A.Asker.at c.args.with.now c.jobs.asker) (g.A.Asker.at c.args.with.now c.answer_next.new.self) g.A.Asker.between base history mine
    answers greeting came gone c.args.session.now c.jobs.session so_far (same base (so_far.more ++ history) (mine ++ map step_place so_far.made) so_far.at)

pub returns-in_err-given-clause-stops : goal.returns-in_err-given-clause-stops
returns-in_err-given-clause-stops g c = λ base history mine answers greeting came gone come link.
    let so_far = c.jobs.invariant.answers base history mine answers greeting came gone come link in
    on_err c.from_residual.result
    (answers_stopped (g.A.Asker.at c.args.with.now c.jobs.asker) (g.A.Asker.at c.args.with.now c.answer_next.new.self) g.A.Asker.between base history mine
    answers greeting came gone c.args.session.now c.jobs.session so_far
    (c.in_err-given.ensures.stops base (so_far.more ++ history) (mine ++ map step_place so_far.made) so_far.at))

pub returns-in_err-push_reply_bytes-clause-stops : goal.returns-in_err-push_reply_bytes-clause-stops
returns-in_err-push_reply_bytes-clause-stops g c = λ base history mine answers greeting came gone come link.
    let given = c.in-Some.given in
    let now = c.jobs.session in
    let packet = c.answer_next.new.buffers.packet in
    let (job, rest, seen, answered) = rw c.in-Some.is at c.in_ok-given.ensures.answers in
    let so_far = c.jobs.invariant.answers base history mine answers greeting came gone come link in
    let other = passed_with now rest given.ends (now.waiting ++ record { front = given.front; reply = packet } ∷ []) in
    on_err c.from_residual-in_err-push_reply_bytes.result (
      other,
      answers_more (g.A.Asker.at c.args.with.now c.jobs.asker) (g.A.Asker.at c.args.with.now c.answer_next.new.self) g.A.Asker.between base history mine
          answers greeting came gone c.args.session.now now so_far job rest given.ends given.front packet other seen
          (answered base (so_far.more ++ history) (mine ++ map step_place so_far.made) so_far.at) refl,
    )
