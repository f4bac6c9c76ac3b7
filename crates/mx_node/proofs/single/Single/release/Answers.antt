use Rattle.std.proofs.Common.{◌≡◌, None, length, set, refl, sym, ap, ◌∙◌, arith}
use Rattle.std.proofs.lemmas.List.{set-get_or}
use Rattle.mx_node.specs.Tables.{session_at}
use Rattle.mx_node.proofs.LinkedLaws.{serves_released}
use Rattle.mx_node.proofs.TableLaws.{one_place, place_there}
use Rattle.mx_node.proofs.single.Single.release.Goals as goal

pub returns-clause-serves : goal.returns-clause-serves
returns-clause-serves c = λ states serves.
    let old = c.args.self.now in
    let on = c.args.conn.0 in
    let places = c.as_mut_slice.result.now in
    let found : c.index-as_mut_slice-conn.result ≡ session_at old.sessions.items on =
    place_there places on c.index-as_mut_slice-conn.result None (omega (arith, ap length c.as_mut_slice.ensures.value, c.requires.table, c.requires.connection))
    c.index-as_mut_slice-conn.is
    ∙ ap (λ l. session_at l on) c.as_mut_slice.ensures.value in
    serves_released old _ states on c.durable-durable.result c.release_session.new.place c.requires.connection c.durable-durable.ensures refl refl
    (one_place old.sessions places _ on c.release_session.new.place c.as_mut_slice.ensures.value refl)
    (λ session there. (c.in_ok-release_session.ensures.sent session (sym c.index-as_mut_slice-conn.is ∙ found ∙ there)).1)
    (λ none. (c.in_ok-release_session.ensures.none (sym c.index-as_mut_slice-conn.is ∙ found ∙ none)).1)
    serves

pub returns-clause-none : goal.returns-clause-none
returns-clause-none c = λ none.
    let sessions = c.args.self.now.sessions in
    let places = c.as_mut_slice.result.now in
    let on = c.args.conn.0 in
    let place = c.release_session.new.place in
    let found : session_at places on ≡ None = ap (λ l. session_at l on) c.as_mut_slice.ensures.value ∙ none in
    let empty = c.in_ok-release_session.ensures.none
    (sym c.index-as_mut_slice-conn.is
    ∙ place_there places on c.index-as_mut_slice-conn.result None (omega (arith, ap length c.as_mut_slice.ensures.value, c.requires.table, c.requires.connection))
    c.index-as_mut_slice-conn.is ∙ found) in (
      empty.0,
      refl,
      record {
        sessions = one_place sessions places _ on place c.as_mut_slice.ensures.value refl ∙ ap (set sessions.items on) (empty.1 ∙ sym none) ∙ set-get_or sessions.items on None;
        journal = refl;
        greeting = refl;
      },
    )
