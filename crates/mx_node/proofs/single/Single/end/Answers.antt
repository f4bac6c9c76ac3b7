use Rattle.std.proofs.Common.{subst}
use Rattle.mx_model.specs.Histories.{IsLegal}
use Rattle.mx_serial.proofs.CommitLaws.{commits_follow}
use Rattle.mx_directory.specs.Survival.{Lasts}
use Rattle.mx_images.proofs.ToldLaws.{told_weaker}
use Rattle.mx_journal.proofs.BlockLaws.{none_waits}
use Rattle.mx_store.specs.Stores.{taken_of}
use Rattle.mx_node.specs.Serving.{left_from}
use Rattle.mx_node.proofs.BreakLaws.{end_broken}
use Rattle.mx_node.proofs.EndLaws.{closed, end_keeps}
use Rattle.mx_store.proofs.StoreLaws.{end_lasts, lasts_none}
use Rattle.mx_node.proofs.LastingLaws.{where_err}
use Rattle.mx_node.proofs.single.Single.end.Goals as goal

pub end-requires-clause-written : goal.end-requires-clause-written
end-requires-clause-written g c =
    let serves = c.requires in
    told_weaker (g.D.Dir.states c.args.dir.now) (λ disk past was. (taken_of serves.base serves.history, was.0)) serves.behind.has.written

pub end-requires-clause-none : goal.end-requires-clause-none
end-requires-clause-none g c = none_waits c.args.self.journal c.requires.behind.has.waits

pub returns-in_err-leave_all-clause-breaks : goal.returns-in_err-leave_all-clause-breaks
returns-in_err-leave_all-clause-breaks g c = λ start units history serves.
    let states = g.D.Dir.states c.args.dir.now in
    where_err c.from_residual.result (end_broken start c.args.self units history states states serves (lasts_none start.base history states))

pub returns-in_err-end-clause-breaks : goal.returns-in_err-end-clause-breaks
returns-in_err-end-clause-breaks g c = λ start units history serves.
    let old = g.D.Dir.states c.args.dir.now in
    let new = g.D.Dir.states c.end.new.dir in
    let lasts : Lasts start.base history old new =
    end_lasts start.base history c.args.self.journal old new serves.ready.behind.stands.legal serves.ready.behind.has serves.ready.taken c.end.ensures.told c.end.ensures.moments c.end.ensures.reads in
    where_err c.from_residual-in_err-end.result (end_broken start c.args.self units history old new serves lasts)

pub returns-clause-closed : goal.returns-clause-closed
returns-clause-closed g c = λ start units history serves.
    let old = g.D.Dir.states c.args.dir.now in
    let new = g.D.Dir.states c.end.new.dir in
    let stands = serves.ready.behind.stands in
    let left = c.in_ok-leave_all.ensures start.base history stands in
    let lasts : Lasts start.base history old new =
    end_lasts start.base history c.args.self.journal old new serves.ready.behind.stands.legal serves.ready.behind.has serves.ready.taken c.end.ensures.told c.end.ensures.moments c.end.ensures.reads in
    closed start c.args.self units history old new serves
    (subst (λ l. IsLegal start.base (left_from 0 l history)) c.deref.ensures.value left.legal) lasts
    (end_keeps start.base history c.args.self.engine c.args.self.journal old new (commits_follow start.base history stands.legal) serves.ready
    c.in_ok-end.ensures.told c.in_ok-end.ensures.ended)
