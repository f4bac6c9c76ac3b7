use Rattle.std.proofs.Common.{rules, ◌≡◌, ◌+◌, ◌||◌, List, Option, Result, Ok, Err, sym, subst}
use Rattle.std.specs.Prelude.{MatchResult, OnOk}
use Rattle.mx_write.specs.Change.{Change}
use Rattle.mx_write.specs.Reads.{Read}
use Rattle.mx_write.specs.Touches.{are_met, touched_by_change}
use Rattle.mx_slow.specs.declared.slow.run.SlowRun.{SlowRun}
use Rattle.mx_row.specs.Limits.{saturated}
use Rattle.mx_slow.specs.SlowReads.{reads_view}
use Rattle.mx_slow_state.specs.SlowState.{IsSlowMade}
use Rattle.mx_slow.specs.SlowTouches.{AreFitReads, meet}
use Rattle.mx_slow.proofs.SlowRunLaws.{change_is, one_taken}
use Rattle.mx_slow.proofs.slow.run.SlowRun.take.Goals as goal

where_ok : {X E P R : Type 0} (Q : Type 0) (result : Result X E) → MatchResult result (λ _. P) (λ _. Q) → (P → R) → OnOk result R
where_ok Q (Ok x) told follows = follows told
where_ok Q (Err e) told follows = tt

pub returns : goal.returns
returns c = λ before run after change stands made rows state.
    let write = c.args.write in
    let new : SlowRun = record { state = c.make.new.self; rows = c.push.new.self; size = c.saturating_add-self.result; touched = c.touch.new.out } in
    let (one, is) = change_is run.state write.space.0 write.row write.made change made in
    let added : c.saturating_add-self.result ≡ saturated (c.args.self.now.size + c.size_of.result) = search rules in
    let met : (reads : List Read) → AreFitReads reads → meet c.touch.new.out (reads_view reads) ≡ (meet c.args.self.now.touched (reads_view reads) || are_met run.state (touched_by_change run.state change) reads)
    = subst (λ (ch : Option Change). (reads : List Read) → AreFitReads reads → meet c.touch.new.out (reads_view reads) ≡ (meet c.args.self.now.touched (reads_view reads) || are_met run.state (touched_by_change run.state ch) reads)) (sym is)
    (c.in_ok-touch.ensures run.state write.row one stands.state (subst (IsSlowMade run.state write.space.0 write.row write.made) is made)) in
    where_ok _ c.make.result (c.make.ensures run.state write.row change stands.state made)
    (λ keeps. one_taken c.args.self.now new before run after write.space.0 write.row write.made change c.size_of.result stands made rows state keeps c.in_ok-push.ensures.ok c.size_of.ensures added met)
