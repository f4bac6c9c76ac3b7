use Rattle.std.proofs.Common.{Bool, List, subst, ap, ◌∙◌}
use Rattle.std.specs.Prelude.{Some}
use Rattle.std.proofs.lemmas.Result.{err_from_is_err_and}
use Rattle.mx_transactions.specs.Open.{newest_state}
use Rattle.mx_tracker.specs.Marks.{is_marked}
use Rattle.mx_transactions.specs.OpenSteps.{ViewsAreKept}
use Rattle.mx_engine.proofs.CommitWorkLaws.{prepared}
use Rattle.mx_engine.proofs.OutcomeLaws.{keeps_same, only_opened}
use Rattle.mx_engine.proofs.engine.Engine.ready_others.Goals as goal

pub returns-in_err-prepare-clause-readies : goal.returns-in_err-prepare-clause-readies
returns-in_err-prepare-clause-readies c = λ streams name one stand is.
    let old = c.args.self.now in
    let has = is.is_open.has in
    let p = err_from_is_err_and c.from_residual-in_err-prepare.result c.from_residual-in_err-prepare.ensures.1 in
    let found = c.in_err-prepare.ensures in
    rw p.1 (keeps_same old _ streams has (only_opened old c.prepare.new.self)
    (prepared streams old.state old.commits old.open c.prepare.new.self has.holds has.commits found.same (found.new (newest_state streams) has.holds) found.others has.transactions))

pub returns-clause-readies : goal.returns-clause-readies
returns-clause-readies c = λ streams name one stand is.
    let old = c.args.self.now in
    let has = is.is_open.has in
    let found = c.in_ok-prepare.ensures in
    let (keys, spells, are) = c.in_ok-marks.ensures streams name one stand is in
    record {
      transactions = prepared streams old.state old.commits old.open c.prepare.new.self has.holds has.commits found.same (found.new (newest_state streams) has.holds) found.others has.transactions;
      marks = (
        keys,
        spells,
        λ slot within. ap (λ (marks : List Bool). is_marked marks slot) c.in_ok-marks-2.ensures.ok ∙ are slot within,
        subst (λ (marks : List Bool). ViewsAreKept c.prepare.new.self marks old.commits (Some c.args.slot)) c.deref.ensures found.ready,
      );
    }
