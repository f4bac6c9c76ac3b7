use Rattle.std.proofs.Common.{sym}
use Rattle.mx_request.specs.InPlace.{request_view}
use Rattle.mx_model.specs.Histories.{ledger_of}
use Rattle.mx_engine.specs.StatementViews.{statement_view}
use Rattle.mx_engine.specs.Views.{reply_of}
use Rattle.mx_engine.proofs.StandingLaws.{all_have_streams, all_stand, answers_statement, asked_bytes, counted, counted_has, counts_step, stands_asked}
use Rattle.mx_engine.proofs.engine.Engine.request_in_place.Goals as goal

pub returns-in-Some : goal.returns-in-Some
returns-in-Some c = λ base history stands.
    let streams = (ledger_of base history).streams in
    let old = c.args.self.now in
    let asked = request_view c.args.request.now in
    let statement = statement_view c.in-Some.statement in
    let is = sym c.in-Some.ensures.value in
    let reply = reply_of c.statement.result c.statement.new.found in
    stands_asked old c.statement.new.self base history c.args.name asked reply stands (c.requires.askable, c.in-Some.ensures.bytes) c.statement.ensures.keeps
    (answers_statement (counted old) c.statement.new.self streams c.args.name asked statement reply is
    (c.statement.ensures.answers streams (counted_has old streams stands.matches.has) (all_stand base history stands.legal) (all_have_streams base history)
    (counts_step old streams stands.matches.has c.requires.room) (asked_bytes asked c.in-Some.ensures.bytes statement is)))

pub returns-in-None : goal.returns-in-None
returns-in-None c = λ base history stands.
    let streams = (ledger_of base history).streams in
    let old = c.args.self.now in
    let asked = request_view c.args.request.now in
    let reply = reply_of c.other.result c.args.found.now in
    stands_asked old c.other.new.self base history c.args.name asked reply stands (c.requires.askable, c.in-None.ensures.bytes) c.other.ensures.keeps
    (c.other.ensures.answers streams asked c.args.found.now (counted_has old streams stands.matches.has) (all_stand base history stands.legal)
    (counts_step old streams stands.matches.has c.requires.room) c.kind.ensures (sym c.in-None.ensures.value))
