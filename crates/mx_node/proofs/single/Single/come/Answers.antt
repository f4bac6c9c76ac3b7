use Rattle.std.proofs.Common.{None, Some, refl, ap, ◌∙◌}
use Rattle.std.specs.Prelude.{unwrap_or}
use Rattle.mx_node.specs.Tables.{opened, session_at}
use Rattle.mx_node.proofs.BytesLaws.{takes_found}
use Rattle.mx_node.proofs.LinkedLaws.{serves_taken}
use Rattle.mx_node.proofs.TableLaws.{one_place_twice}
use Rattle.mx_node.proofs.single.Single.come.Goals as goal

pub returns-clause-takes : goal.returns-clause-takes
returns-clause-takes c =
    let old = c.args.self.now in
    let on = c.args.conn.0 in
    takes_found old _ on c.args.bytes.now c.in_ok-arrival.arrival c.in_ok-session.session c.answer_bytes.new.session
    (c.in_ok-session.ensures.session ∙ ap (λ l. unwrap_or (session_at l on) (opened on old.greeting)) c.as_mut_slice.ensures.value)
    (record {
      sessions = one_place_twice old.sessions c.as_mut_slice.result.now c.take_session.new.sessions c.as_mut_slice-2.result.now c.keep_session.new.sessions on None
          (Some c.answer_bytes.new.session) c.as_mut_slice.ensures.value c.in_ok-session.ensures.place c.as_mut_slice-2.ensures.value c.keep_session.ensures;
      journal = refl;
      greeting = refl;
    })
    c.in_ok-arrival.ensures.answers c.in_ok-arrival.ensures.all c.in_ok-arrival.ensures.after_end c.in_ok-arrival.ensures.arrives

pub returns-clause-serves : goal.returns-clause-serves
returns-clause-serves c = λ states serves.
    serves_taken c.args.self.now _ states c.args.conn.0 c.args.bytes.now c.in_ok-arrival.arrival c.requires.connection (returns-clause-takes c) serves
