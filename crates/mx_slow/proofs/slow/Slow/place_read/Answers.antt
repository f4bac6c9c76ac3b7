use Rattle.std.proofs.Common.{arith, rules, ◌≡◌, ap, ◌∙◌, length}
use Rattle.mx_model.specs.Overlaps.{place_by}
use Rattle.mx_slow.proofs.SlowStandingLaws.{one_less, same_length}
use Rattle.mx_slow.proofs.slow.Slow.place_read.Goals as goal

pub returns-in-Some : goal.returns-in-Some
returns-in-Some c = λ streams one is keeps.
    let (same, within) = c.in-Some.ensures.found streams one is keeps in
    (one_less c.in-Some.number ∙ ap (place_by (length streams.journal)) same, omega (arith, within))

pub returns-in-None : goal.returns-in-None
returns-in-None c = λ streams one is keeps.
    let (same, none) = c.in-None.ensures.found streams one is keeps in
    let many = same_length streams.base.state c.args.self.now.commits.items streams.journal is.commits in
    let counted : c.len.result ≡ length c.args.self.now.commits.items = search rules in
    (counted ∙ many ∙ ap (place_by (length streams.journal)) same, omega (arith, counted, many))
