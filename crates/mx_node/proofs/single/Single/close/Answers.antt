use Rattle.std.proofs.Common.{None, true, false, refl, sym, ◌∙◌}
use Rattle.mx_node.proofs.LinkedLaws.{serves_closed, serves_forgotten}
use Rattle.mx_node.proofs.ServerLaws.{ready_left, took_close}
use Rattle.mx_node.proofs.TableLaws.{one_place}
use Rattle.mx_node.proofs.single.Single.close.Goals as goal

pub returns-then-not-drop_session-clause-took : goal.returns-then-not-drop_session-clause-took
returns-then-not-drop_session-clause-took c = λ start units history states serves.
    let old = c.args.self.now in
    let on = c.args.connection.0 in
    let places = c.as_mut_slice.result.now in
    took_close start old _ units history on states true places c.new-out.result serves c.requires.connection c.as_mut_slice.ensures.value
    (sym c.drop_session.ensures.open ∙ c.if-not-drop_session.true) serves.ready refl
    (one_place old.sessions places c.drop_session.new.sessions on None c.as_mut_slice.ensures.value c.drop_session.ensures.place) c.new-out.ensures

pub returns-clause-took : goal.returns-clause-took
returns-clause-took c = λ start units history states serves.
    let old = c.args.self.now in
    let on = c.args.connection.0 in
    let places = c.as_mut_slice.result.now in
    took_close start old _ units history on states false places c.new-out.result serves c.requires.connection c.as_mut_slice.ensures.value
    (sym c.drop_session.ensures.open ∙ c.if-not-drop_session.false)
    (ready_left start.base history old.engine c.leave.new.engine old.journal states on serves.ready
    (c.in_ok-leave.ensures start.base history serves.ready.behind.stands)) refl
    (one_place old.sessions places c.drop_session.new.sessions on None c.as_mut_slice.ensures.value c.drop_session.ensures.place) c.new-out.ensures

pub returns-clause-serves : goal.returns-clause-serves
returns-clause-serves c = λ states serves.
    let old = c.args.self.now in
    let on = c.args.connection.0 in
    serves_closed old _ states on c.requires.connection (λ base history stands. c.in_ok-leave.ensures base history stands) refl
    (one_place old.sessions c.as_mut_slice.result.now c.drop_session.new.sessions on None c.as_mut_slice.ensures.value c.drop_session.ensures.place) serves

pub returns-then-not-drop_session-clause-serves : goal.returns-then-not-drop_session-clause-serves
returns-then-not-drop_session-clause-serves c = λ states serves.
    let old = c.args.self.now in
    let on = c.args.connection.0 in
    serves_forgotten old _ states on c.requires.connection refl refl
    (one_place old.sessions c.as_mut_slice.result.now c.drop_session.new.sessions on None c.as_mut_slice.ensures.value c.drop_session.ensures.place) serves
