use Rattle.std.proofs.Common.{[], ◌∷◌, ◌++◌, sym, ap, ◌∙◌, subst}
use Rattle.std.specs.Prelude.{⊤}
use Rattle.mx_model.specs.Histories.{Confirmed, Took, ledger_of}
use Rattle.mx_engine.specs.Standing.{EngineStandsFor}
use Rattle.mx_images.proofs.MomentLaws.{no_moments}
use Rattle.mx_images.specs.Changes.{KeepsOthers}
use Rattle.mx_node.specs.Answering.{Releases}
use Rattle.mx_node.specs.Inputs.{Bytes}
use Rattle.mx_node.specs.Tables.{session_at}
use Rattle.mx_node.proofs.BreakLaws.{unit_untouched}
use Rattle.mx_node.proofs.BytesLaws.{alone_quiet, alone_turned, behind_now, broken_release, broken_turn, came_all, stands_taken, there_now, there_taken}
use Rattle.mx_node.proofs.LastingLaws.{where_err}
use Rattle.mx_node.proofs.single.Single.answer.Goals as goal
use Rattle.mx_node.proofs.single.Single.answer.Goals.{then-arrival+in_ok-turn, else-arrival}

pub returns-in_err-arrival-clause-breaks : goal.returns-in_err-arrival-clause-breaks
returns-in_err-arrival-clause-breaks g c = λ start units history serves.
    where_err c.from_residual.result
    (unit_untouched start c.args.self.now units history (Bytes c.args.connection.0 c.args.bytes.now) (g.D.Dir.states c.args.dir.now) serves)

pub returns-in_err-turn-clause-breaks : goal.returns-in_err-turn-clause-breaks
returns-in_err-turn-clause-breaks g c = λ start units history serves.
    let old = c.args.self.now in
    let taken = c.come.new.self in
    let on = c.args.connection.0 in
    let bytes = c.args.bytes.now in
    let before = g.D.Dir.states c.args.dir.now in
    let takes = c.in_ok-arrival.ensures.takes in
    let arrival = c.in_ok-arrival.arrival in
    let all = came_all start old taken units history on bytes arrival before serves c.requires.connection c.requires.some takes c.if-arrival.true in
    let behind = behind_now start old taken units history on bytes arrival before serves c.requires.connection c.requires.some takes c.if-arrival.true in
    where_err c.from_residual-in_err-turn.result
    (broken_turn start old taken units history on bytes arrival before serves c.requires.connection c.requires.some takes c.if-arrival.true
    (g.D.Dir.states c.turn.new.dir) (c.turn.ensures.lasts start.base (all.more ++ history) behind))

pub returns-in_err-release-clause-breaks : goal.returns-in_err-release-clause-breaks
returns-in_err-release-clause-breaks g c = λ start units history serves.
    let old = c.args.self.now in
    let taken = c.come.new.self in
    let on = c.args.connection.0 in
    let bytes = c.args.bytes.now in
    let before = g.D.Dir.states c.args.dir.now in
    let takes = c.in_ok-arrival.ensures.takes in
    let arrival = c.in_ok-arrival.arrival in
    where_err c.from_residual-in_err-release.result
    (elim c.if-arrival.branch [
      | then-arrival+in_ok-turn w ↦
          let all = came_all start old taken units history on bytes arrival before serves c.requires.connection c.requires.some takes w.if-arrival.true in
          let behind = behind_now start old taken units history on bytes arrival before serves c.requires.connection c.requires.some takes w.if-arrival.true in
          let (txs, upto, ready) = w.in_ok-turn.ensures.ready start.base (all.more ++ history) behind in
          rw w.dir-is
          (broken_release start old taken units history on bytes arrival before serves c.requires.connection c.requires.some takes w.if-arrival.true
          w.turn.new.self (g.D.Dir.states w.turn.new.dir) txs upto ready (w.turn.ensures.lasts start.base (all.more ++ history) behind)
          w.in_ok-turn.ensures.sessions.0 w.in_ok-turn.ensures.sessions.1)
      | else-arrival w ↦ rw w.dir-is (unit_untouched start old units history (Bytes on bytes) before serves)
    ])

pub returns-clause-alone : goal.returns-clause-alone
returns-clause-alone g c = λ start units history serves.
    let old = c.args.self.now in
    let taken = c.come.new.self in
    let on = c.args.connection.0 in
    let bytes = c.args.bytes.now in
    let before = g.D.Dir.states c.args.dir.now in
    let takes = c.in_ok-arrival.ensures.takes in
    let arrival = c.in_ok-arrival.arrival in
    let known = c.requires.connection in
    let some = c.requires.some in
    elim c.if-arrival.branch [
      | then-arrival+in_ok-turn w ↦
          let waits = w.if-arrival.true in
          let after = g.D.Dir.states w.turn.new.dir in
          let turned = w.turn.new.self in
          let all = came_all start old taken units history on bytes arrival before serves known some takes waits in
          let behind = behind_now start old taken units history on bytes arrival before serves known some takes waits in
          let (txs, upto, ready) = w.in_ok-turn.ensures.ready start.base (all.more ++ history) behind in
          let lasts = w.turn.ensures.lasts start.base (all.more ++ history) behind in
          let (same, greeting) = w.in_ok-turn.ensures.sessions in
          let whole = Confirmed upto ∷ Took txs upto ∷ (all.more ++ history) in
          let there = there_now start old taken units history on bytes arrival before serves known some takes waits turned after txs upto ready lasts same greeting in
          let released = c.in_ok-release.ensures.sent start.base whole takes.session
          (subst (λ s. EngineStandsFor s.engine start.base whole) (sym w.self-is) ready.behind.stands)
          (ap (λ s. session_at s.sessions.items on) w.self-is ∙ there) in
          rw w.dir-is
          (alone_turned start old taken units history on bytes arrival before serves known some takes waits turned after txs upto ready lasts same greeting
          c.release.new.self c.release.new.out
          (subst (λ s. Releases (ledger_of start.base whole).durable on takes.session s c.release.new.self [] c.release.new.out) w.self-is
          (subst (λ l. Releases (ledger_of start.base whole).durable on takes.session c.if-arrival.self c.release.new.self l c.release.new.out) c.requires.none released)))
      | else-arrival w ↦
          let (now, stands) = stands_taken start old taken units history on bytes arrival before serves known some takes in
          let durable = (ledger_of start.base now).durable in
          let released = c.in_ok-release.ensures.sent start.base now takes.session
          (subst (λ s. EngineStandsFor s.engine start.base now) (sym w.self-is) stands)
          (ap (λ s. session_at s.sessions.items on) w.self-is
          ∙ there_taken start old taken units history on bytes arrival before serves known some takes) in
          rw w.dir-is
          (alone_quiet start old taken units history on bytes arrival before serves known some takes w.if-arrival.false c.release.new.self durable c.release.new.out
          (subst (λ s. Releases durable on takes.session s c.release.new.self [] c.release.new.out) w.self-is
          (subst (λ l. Releases durable on takes.session c.if-arrival.self c.release.new.self l c.release.new.out) c.requires.none released)))
    ]

pub returns-in_err-release-clause-others : goal.returns-in_err-release-clause-others
returns-in_err-release-clause-others g c =
    elim c.if-arrival.branch [
      | then-arrival+in_ok-turn w ↦ rw w.dir-is w.turn.ensures.others
      | else-arrival w ↦ rw w.dir-is (no_moments (λ _ _. ⊤) KeepsOthers (g.D.Dir.states c.args.dir.now))
    ]

pub returns-clause-others : goal.returns-clause-others
returns-clause-others g c =
    elim c.if-arrival.branch [
      | then-arrival+in_ok-turn w ↦ rw w.dir-is w.turn.ensures.others
      | else-arrival w ↦ rw w.dir-is (no_moments (λ _ _. ⊤) KeepsOthers (g.D.Dir.states c.args.dir.now))
    ]
