use Rattle.std.proofs.Common.{◌≡◌, length}
use Rattle.mx_instance.specs.Passes.{Seen}
use Rattle.mx_instance.specs.Rounds.{LinkGoesOn, Outset}
use Rattle.mx_instance.proofs.rounds.send_all.Given as goal

-- bytes were sent, and nothing else was done
abbrev pub invariant-bytes : goal.invariant-bytes
invariant-bytes g l = record {
  sends : (outset : Outset) (seen : Seen) → LinkGoesOn outset seen l.fn.session (g.L.Link.came l.fn.link) (g.L.Link.gone l.fn.link)
      → LinkGoesOn outset seen l.session (g.L.Link.came l.link) (g.L.Link.gone l.link);
  same : l.session ≡ record l.fn.session { out = l.session.out };
  reads : (g.L.Link.read_waits l.link ≡ g.L.Link.read_waits l.fn.link) × (g.L.Link.left l.link ≡ g.L.Link.left l.fn.link);
  writes : g.L.Link.write_waits l.link ≡ g.L.Link.write_waits l.fn.link;
  faults : g.L.Link.faults l.link ≡ g.L.Link.faults l.fn.link;
}

abbrev pub decreases-bytes : goal.decreases-bytes
decreases-bytes g l = length l.session.out
