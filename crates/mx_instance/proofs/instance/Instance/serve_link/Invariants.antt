use Rattle.std.proofs.Common.{◌≡◌}
use Rattle.mx_session.specs.Sessions.{next_of}
use Rattle.mx_link.specs.Links.{IsNoJob}
use Rattle.mx_instance.specs.Passes.{CanCall, seen_by}
use Rattle.mx_instance.specs.Rounds.{LinkGoesOn, IsOutset, Outset}
use Rattle.mx_instance.proofs.instance.Instance.serve_link.Given as goal

-- the connection went on, and the link didn't have to wait
abbrev pub invariant-rounds : goal.invariant-rounds
invariant-rounds g l = record {
  can_call : CanCall l.self l.pass;
  goes : (outset : Outset) → IsOutset outset (seen_by l.fn.pass) l.fn.session (g.L.Link.came l.fn.link) (g.L.Link.gone l.fn.link)
      → LinkGoesOn outset (seen_by l.pass) l.session (g.L.Link.came l.link) (g.L.Link.gone l.link);
  none : IsNoJob (next_of l.fn.session) → IsNoJob (next_of l.session);
  reads : g.L.Link.read_waits l.link ≡ g.L.Link.read_waits l.fn.link;
  writes : g.L.Link.write_waits l.link ≡ g.L.Link.write_waits l.fn.link;
  faults : g.L.Link.faults l.link ≡ g.L.Link.faults l.fn.link;
}
