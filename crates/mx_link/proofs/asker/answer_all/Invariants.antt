use Rattle.std.proofs.Common.{ℕ, List, length}
use Rattle.mx_model.specs.Bases.{Base}
use Rattle.mx_model.specs.Histories.{History}
use Rattle.mx_link.specs.Answers.{AnswersMore}
use Rattle.mx_link.specs.Links.{Answer, HasLink, jobs_left}
use Rattle.mx_link.proofs.asker.answer_all.Given as goal

-- the jobs so far were answered
abbrev pub invariant-jobs : goal.invariant-jobs
invariant-jobs g l = record {
  fits : g.A.Asker.fits l.with l.asker;
  answers : (base : Base) (history : History) (mine : List ℕ) (answers : List Answer) (greeting came gone : List ℕ)
      → g.A.Asker.at l.with l.fn.asker base history mine → HasLink base history answers greeting came gone l.fn.session
      → AnswersMore (g.A.Asker.at l.with l.asker) g.A.Asker.between base history mine answers greeting came gone l.fn.session l.session;
}

abbrev pub decreases-jobs : goal.decreases-jobs
decreases-jobs g l = length (jobs_left l.session)
