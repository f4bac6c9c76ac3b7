use Rattle.std.proofs.Common.{refl}
use Rattle.mx_instance.specs.Passes.{seen_by}
use Rattle.mx_instance.proofs.RoundLaws.{goes_first}
use Rattle.mx_instance.proofs.instance.Instance.serve_link.Goals as goal

pub rounds-init : goal.rounds-init
rounds-init g c = record {
  can_call = c.requires;
  goes = λ outset is.
      goes_first outset (seen_by c.args.pass.now) c.args.session.now (g.L.Link.came c.args.link.now) (g.L.Link.gone c.args.link.now) c.requires.1.0 is;
  none = λ none. none;
  reads = refl;
  writes = refl;
  faults = refl;
}
