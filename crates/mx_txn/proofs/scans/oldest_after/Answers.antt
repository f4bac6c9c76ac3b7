use Rattle.std.proofs.Common.{◌≡◌, ◌≢◌, ℕ, Some, is_some, ap, ◌∙◌}
use Rattle.mx_txn.specs.Views.{view_in}
use Rattle.mx_txn.proofs.LeastLaws.{oldest_changed, same_numbers}
use Rattle.mx_txn.proofs.scans.oldest_after.Goals as goal
use Rattle.mx_txn.proofs.scans.oldest_after.Goals.{else-is_some-via-then-is_some+else-eq, else-is_some-via-else-is_some}

pub returns : goal.returns
returns c = λ txns slot was now old.
    let apart : (at : ℕ) → view_in c.args.before ≡ Some at → c.args.oldest ≢ Some at = λ at has same.
    let ended = c.view_in-ended.ensures ∙ has in
    elim c.else-is_some.branch [
      | else-is_some-via-then-is_some+else-eq w ↦
          let equal = w.eq.ensures ∙ same_numbers _ _ at ended same in
          absurd (cc)
      | else-is_some-via-else-is_some w ↦
          let some = c.is_some.ensures ∙ ap is_some ended in
          absurd (cc)
    ]
    in
    rw (c.lesser_of.ensures, c.view_in.ensures) (oldest_changed txns _ slot c.args.before c.args.after c.args.oldest was now apart old)
