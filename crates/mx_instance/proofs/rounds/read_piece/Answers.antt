use Rattle.std.proofs.Common.{ℕ, List, ◌++◌, ◌≤◌, length, take, sym, subst, arith, refl, Option}
use Rattle.std.specs.Prelude.{if◌then◌else◌}
use Rattle.std.proofs.lemmas.List.{length-take}
use Rattle.mx_session.specs.Sessions.{SessionState, unsent_length}
use Rattle.mx_instance.specs.Rounds.{LinkGoesOn, max_piece, max_unsent}
use Rattle.mx_instance.proofs.RoundLaws.{goes_read}
use Rattle.mx_instance.proofs.rounds.read_piece.Goals as goal

pub returns-in_default-clause-reads : goal.returns-in_default-clause-reads
returns-in_default-clause-reads g c = λ outset seen goes none.
    let old = c.args.session.now in
    let piece = take c.in-Ok.count c.read.new.into in
    let fed : SessionState = record old { rest = if old.ended then old.rest else old.rest ++ piece } in
    let fits : length piece ≤ max_piece = omega (arith, c.requires.1, c.in-Ok.ensures.bound, length-take c.in-Ok.count c.read.new.into) in
    let room : unsent_length old.out old.waiting ≤ max_unsent = omega (arith, c.unsent.ensures, c.if-unsent-gt-MAX_UNSENT.false) in (
      fed,
      subst (λ (known : Option (List ℕ)). LinkGoesOn outset seen fed (g.L.Link.came c.read.new.self) known) (sym c.in-Ok.ensures.gone)
          (goes_read outset seen old (g.L.Link.came c.args.link.now) (g.L.Link.gone c.args.link.now) goes piece fed (g.L.Link.came c.read.new.self) none refl
          c.in-Ok.ensures.came fits room),
    )

pub returns-clause-reads : goal.returns-clause-reads
returns-clause-reads g c = λ outset seen goes none.
    let old = c.args.session.now in
    let piece = take c.in-Ok.count c.read.new.into in
    let fits : length piece ≤ max_piece = omega (arith, c.requires.1, c.in-Ok.ensures.bound, length-take c.in-Ok.count c.read.new.into) in
    let room : unsent_length old.out old.waiting ≤ max_unsent = omega (arith, c.unsent.ensures, c.if-unsent-gt-MAX_UNSENT.false) in
    subst (λ (known : Option (List ℕ)). LinkGoesOn outset seen c.feed.new.self (g.L.Link.came c.read.new.self) known) (sym c.in-Ok.ensures.gone)
    (goes_read outset seen old (g.L.Link.came c.args.link.now) (g.L.Link.gone c.args.link.now) goes piece c.feed.new.self (g.L.Link.came c.read.new.self) none
    c.in-Ok-feed.ensures c.in-Ok.ensures.came fits room)
