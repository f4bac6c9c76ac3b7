use Rattle.mx_instance.specs.Passes.{seen_by}
use Rattle.mx_instance.proofs.RoundLaws.{goes_looked}
use Rattle.mx_instance.proofs.instance.Instance.release.Goals as goal

pub returns-then-is_some-clause-releases : goal.returns-then-is_some-clause-releases
returns-then-is_some-clause-releases g c = λ outset link_came link_gone goes.
    goes_looked outset (seen_by c.args.pass.now) c.args.session.now link_came link_gone goes (seen_by c.look.new.pass) c.release.new.self c.look.result
    c.look.ensures.looked c.look.ensures.durable c.release.ensures
