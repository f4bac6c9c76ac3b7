use Rattle.std.proofs.Common.{arith, ◌≡◌, ◌-◌, suc, Some, length, sym, ap, subst}
use Rattle.std.specs.Prelude.{slice_get}
use Rattle.mx_model.specs.Overlaps.{state_after_first}
use Rattle.mx_slow_state.specs.SlowState.{IsSlowState}
use Rattle.mx_slow.proofs.SlowStandingLaws.{commit_at, found_there, same_length}
use Rattle.mx_slow.proofs.slow.Slow.state_at.Goals as goal

pub returns-in-Some : goal.returns-in-Some
returns-in-Some c = λ streams is within.
    let place = c.args.place in
    let commit = c.in-Some.commit.now in
    let there : slice_get c.args.self.now.commits.items (place - 1) ≡ Some commit
    = found_there c.args.self.now.commits.items c.deref.result.now (place - 1) commit c.deref.ensures.value c.in-Some.ensures.lookup.3.0 c.in-Some.ensures.lookup.1 in
    let at = commit_at streams.base.state c.args.self.now.commits.items streams.journal (place - 1) commit is.commits there in
    let next : suc (place - 1) ≡ place = omega (arith, c.if-place-eq0.false) in
    subst (λ n. IsSlowState commit.state (state_after_first streams.base.state streams.journal n)) next (subst (IsSlowState commit.state) (sym at.after) at.keeps.state)

pub returns-in-None : goal.returns-in-None
returns-in-None c = λ streams is within.
    let past = c.in-None.ensures.lookup.3 in
    let same = ap length c.deref.ensures.value in
    let many = same_length streams.base.state c.args.self.now.commits.items streams.journal is.commits in
    absurd (omega (arith, past, same, many, within, c.if-place-eq0.false))
