use Rattle.std.proofs.Common.{rules, ◌≡◌, ◌∷◌, [], length, refl, subst}
use Rattle.mx_write.specs.Change.{state_after_changed}
use Rattle.mx_model.specs.RunAlone.{Run, run_alone}
use Rattle.mx_slow.specs.Slow.{RunStands}
use Rattle.mx_model.specs.Transactions.{state_after}
use Rattle.mx_slow.proofs.SlowStreamLaws.{all_within, newest_there, nothing_ran}
use Rattle.mx_slow.proofs.slow.Slow.commit_write.Goals as goal

pub returns : goal.returns
returns c = λ streams change is made me last_is.
    let old = c.args.self.now in
    let ids = streams.base.ids in
    let newest = state_after streams.base.state streams.journal in
    let write = c.args.write in
    let counted : c.len.result ≡ length old.commits.items = search rules in
    let ran = c.in_ok-run.ensures streams [] is (all_within old streams c.len.result is counted) tt in
    let stands = nothing_ran c.in_ok-run.run' ids newest (subst (λ s. RunStands c.in_ok-run.run' s (run_alone ids s [])) (newest_there old streams c.len.result is counted) ran) in
    let after : Run = record { answers = []; rows = write.row ∷ []; state = state_after_changed newest change } in
    let taken = c.in_ok-take.ensures newest (record { answers = []; rows = []; state = newest }) after change stands made refl refl in
    c.install.ensures streams after write.row [] is taken refl me last_is
