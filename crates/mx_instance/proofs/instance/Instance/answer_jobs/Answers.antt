use Rattle.std.proofs.Common.{ap}
use Rattle.mx_instance.specs.Passes.{seen_by}
use Rattle.mx_instance.proofs.RoundLaws.{goes_asked}
use Rattle.mx_instance.proofs.instance.Instance.answer_jobs.Goals as goal

pub returns-clause-answers : goal.returns-clause-answers
returns-clause-answers g c = λ outset link_came link_gone goes.
    goes_asked outset (seen_by c.args.pass.now) c.args.session.now link_came link_gone goes (seen_by c.of.result.value) (seen_by c.answer_all.new.asker)
    c.answer_all.new.session c.answer_all.result (ap seen_by c.of.ensures) c.requires.1.0 c.answer_all.ensures.answers c.answer_all.ensures.stops
