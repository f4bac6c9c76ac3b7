use Rattle.std.proofs.Common.{◌≡◌, false, not, is_some, sym, ap, ◌∙◌}
use Rattle.std.specs.BTreeMap.{is_at}
use Rattle.std.specs.Cmp.Lexicographic.{slice_cmp}
use Rattle.std.specs.Map.{lookup}
use Rattle.std.specs.Ordering.{nat_cmp}
use Rattle.mx_space.proofs.OwnCommitLaws.{removal_added}
use Rattle.mx_space.proofs.own_changes.add_removals.Goals as goal

pub loop-key-preserved : goal.loop-key-preserved
loop-key-preserved c =
    let over = c.args.over.now in
    let key = c.in-Some.key.now in
    let none : is_some (lookup (is_at (slice_cmp nat_cmp key)) over.own.tuples.entries) ≡ false =
    ap (λ t. is_some (lookup (is_at (slice_cmp nat_cmp key)) t.entries)) (sym (c.tuples.ensures ∙ ap (λ s. s.tuples) c.own.ensures)) ∙ sym c.contains_key.ensures ∙ c.if-contains_key.false in
    record {
      together = removal_added c.args.space.0 over c.loop-key.changes c.push.new.self _ key c.in_ok-clone.field-0 c.loop-key.key-iterator c.next.new.self
          c.loop-key.invariant.together c.in-Some.ensures.steps (ap not none) c.in_ok-clone.ensures.cases c.in_ok-push.ensures.ok;
      ordered = c.loop-key.invariant.ordered;
    }
