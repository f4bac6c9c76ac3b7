use Rattle.std.proofs.Common.{arith, ◌≡◌, ◌+◌, suc, false, true, drop, length, Some, sym, ap, ◌∙◌, subst}
use Rattle.std.specs.Prelude.{slice_get}
use Rattle.mx_model.specs.Overlaps.{first_overlap, overlap_of, state_after_first}
use Rattle.mx_slow.proofs.SlowStandingLaws.{commit_at, found_there, met_by_steps, overlap_here, overlap_next, overlap_none, same_length}
use Rattle.mx_slow.proofs.slow.Slow.overlap.Goals as goal

pub loop-commit-init : goal.loop-commit-init
unfolding overlap_of
loop-commit-init c = λ streams one is keeps.
    ap (λ n. first_overlap (state_after_first streams.base.state streams.journal n) n (drop n streams.journal) one.steps) (sym keeps.begun)

pub loop-commit-preserved : goal.loop-commit-preserved
loop-commit-preserved c = λ streams one is keeps.
    let base = streams.base.state in
    let number = c.loop-commit.number in
    let commit = c.in-Some.commit.now in
    let there : slice_get c.args.self.now.commits.items number ≡ Some commit
    = found_there c.args.self.now.commits.items c.deref.result.now number commit c.deref.ensures.value c.in-Some.ensures.lookup.3.0 c.in-Some.ensures.lookup.1 in
    let at = commit_at base c.args.self.now.commits.items streams.journal number commit is.commits there in
    let next : suc number ≡ number + 1 = omega arith in
    let misses = met_by_steps base streams.journal commit number c.args.transaction.now.steps.items c.as_slice-steps.result.now one.steps at c.as_slice-steps.ensures.value keeps.steps false
    (sym c.meets.ensures ∙ c.if-meets.false) in
    c.loop-commit.invariant streams one is keeps
    ∙ subst (λ n. first_overlap (state_after_first base streams.journal number) number (drop number streams.journal) one.steps
    ≡ first_overlap (state_after_first base streams.journal n) n (drop n streams.journal) one.steps) next (overlap_next base streams.journal one.steps commit number at misses)

pub returns-then-meets-clause-found : goal.returns-then-meets-clause-found
returns-then-meets-clause-found c = λ streams one is keeps.
    let base = streams.base.state in
    let number = c.loop-commit.number in
    let commit = c.in-Some.commit.now in
    let there : slice_get c.args.self.now.commits.items number ≡ Some commit
    = found_there c.args.self.now.commits.items c.deref.result.now number commit c.deref.ensures.value c.in-Some.ensures.lookup.3.0 c.in-Some.ensures.lookup.1 in
    let at = commit_at base c.args.self.now.commits.items streams.journal number commit is.commits there in
    let next : suc number ≡ number + 1 = omega arith in
    let meets = met_by_steps base streams.journal commit number c.args.transaction.now.steps.items c.as_slice-steps.result.now one.steps at c.as_slice-steps.ensures.value keeps.steps true
    (sym c.meets.ensures ∙ c.if-meets.true) in
    let within = at.within in
    (sym (c.loop-commit.invariant streams one is keeps ∙ overlap_here base streams.journal one.steps commit number at meets ∙ ap Some next), omega (arith, within))

pub returns-clause-found : goal.returns-clause-found
returns-clause-found c = λ streams one is keeps.
    let past = c.in_default.ensures.lookup.3 in
    let same = ap length c.deref.ensures.value in
    let many = same_length streams.base.state c.args.self.now.commits.items streams.journal is.commits in
    (sym (c.loop-commit.invariant streams one is keeps ∙ overlap_none streams.base.state streams.journal one.steps c.loop-commit.number (omega (arith, past, same, many))), tt)
