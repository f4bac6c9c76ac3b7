use Rattle.std.proofs.Common.{ℕ, List, take, sym, ◌∙◌, subst, Option}
use Rattle.std.specs.Io.KnownBytes.{Appends}
use Rattle.mx_instance.specs.Rounds.{LinkGoesOn}
use Rattle.mx_instance.proofs.RoundLaws.{goes_kept, goes_sent, keeps_same, out_alone}
use Rattle.mx_instance.proofs.rounds.send_all.Goals as goal

pub bytes-preserved : goal.bytes-preserved
bytes-preserved g c =
    let before = c.bytes.invariant in
    let old = c.bytes.session in
    let gone = g.L.Link.gone c.bytes.link in
    let now = g.L.Link.gone c.write.new.self in
    let writes = subst (λ (bytes : List ℕ). Appends gone now (take c.in-Ok.count bytes)) c.out-in-bytes.ensures c.in-Ok.ensures.gone in
    record {
      sends = λ outset seen goes.
          subst (λ (known : Option (List ℕ)). LinkGoesOn outset seen c.sent.new.self known now) (sym c.write.ensures.came)
          (goes_sent outset seen old (g.L.Link.came c.bytes.link) gone (before.sends outset seen goes) c.in-Ok.count c.sent.new.self now c.sent.ensures writes);
      same = out_alone c.args.session.now old c.sent.new.self _ before.same c.sent.ensures;
      reads = (c.write.ensures.read_waits ∙ before.reads.0, c.write.ensures.left ∙ before.reads.1);
      writes = c.in-Ok.ensures.write_waits.done ∙ before.writes;
      faults = c.in-Ok.ensures.cause.done ∙ before.faults;
    }

pub returns-in-Err-NotReady-clause-sends : goal.returns-in-Err-NotReady-clause-sends
returns-in-Err-NotReady-clause-sends g c = λ outset seen goes.
    goes_kept outset seen c.bytes.session (g.L.Link.came c.bytes.link) (g.L.Link.gone c.bytes.link) (c.bytes.invariant.sends outset seen goes)
    (g.L.Link.came c.write.new.self) (g.L.Link.gone c.write.new.self)
    (keeps_same (g.L.Link.came c.bytes.link) (g.L.Link.came c.write.new.self) c.write.ensures.came) c.in-Err-NotReady.ensures.gone

pub returns-in-Err-Failed-clause-sends : goal.returns-in-Err-Failed-clause-sends
returns-in-Err-Failed-clause-sends g c = λ outset seen goes.
    goes_kept outset seen c.bytes.session (g.L.Link.came c.bytes.link) (g.L.Link.gone c.bytes.link) (c.bytes.invariant.sends outset seen goes)
    (g.L.Link.came c.write.new.self) (g.L.Link.gone c.write.new.self)
    (keeps_same (g.L.Link.came c.bytes.link) (g.L.Link.came c.write.new.self) c.write.ensures.came) c.in-Err-Failed.ensures.gone
