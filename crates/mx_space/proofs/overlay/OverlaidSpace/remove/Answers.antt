use Rattle.std.proofs.Common.{◌≡◌, true, false, Some, sym, ap, ◌∙◌, subst}
use Rattle.std.specs.BTreeSet.{contains}
use Rattle.std.specs.Cmp.Lexicographic.{slice_cmp}
use Rattle.std.specs.FinMap.{empty}
use Rattle.std.specs.Ordering.{nat_cmp}
use Rattle.mx_space.specs.declared.overlay.OverlaidSpace.{OverlaidSpace}
use Rattle.mx_entries.specs.OwnWrites.{under}
use Rattle.mx_entries.proofs.UnderLaws.{IsSetTo, not_held}
use Rattle.mx_space.proofs.OverlayLaws.{own_index, stores_again, stores_removed, stores_still}
use Rattle.mx_space.proofs.overlay.OverlaidSpace.remove.Goals as goal

pub returns-then-is_new-clause-err : goal.returns-then-is_new-clause-err
returns-then-is_new-clause-err c = λ schema written stores.
    let before = c.args.self.now in
    let after : OverlaidSpace = record { own = c.remove.new.self; removed = c.remove-then-is_new.new.self } in
    let copied : c.in_ok-copy.copy ≡ c.args.key.now = c.in_ok-copy.ensures ∙ c.as_slice.ensures in
    let new : contains (slice_cmp nat_cmp) before.removed c.in_ok-copy.copy ≡ false = not_held _ (sym c.if-is_new.true ∙ c.in_ok-is_new.ensures.added) in
    stores_again schema before after c.insert.new.self written c.args.key.now stores (c.in-Err.ensures.err schema (under written empty) stores.own)
    (ap (contains (slice_cmp nat_cmp) before.removed) (sym copied) ∙ new)
    (subst (λ bytes. IsSetTo before.removed c.insert.new.self bytes true) copied c.in_ok-is_new.ensures.updates.0)
    c.remove-then-is_new.ensures.updates.0

pub returns-clause-ok : goal.returns-clause-ok
returns-clause-ok c = λ schema written primary wanted stores there fit is.
    let first = own_index schema c.args.self.now written 0 primary stores there in
    let after : OverlaidSpace = record { own = c.remove.new.self; removed = c.insert.new.self } in
    stores_removed (Some schema) c.args.self.now after written wanted stores fit c.in_ok-copy.copy (c.in_ok-copy.ensures ∙ c.as_slice.ensures ∙ is)
    (c.in_default.ensures.ok (Some schema) (under written empty) primary wanted stores.own first fit is) c.in_ok-is_new.ensures.updates.0

pub returns-else-is_new-clause-err : goal.returns-else-is_new-clause-err
returns-else-is_new-clause-err c = λ schema written stores.
    let before = c.args.self.now in
    let after : OverlaidSpace = record { own = c.remove.new.self; removed = c.insert.new.self } in
    let same : after.removed.keys ≡ before.removed.keys = rw c.if-is_new.false at c.in_ok-is_new.ensures.unchanged in
    stores_still schema before after written stores (λ i. record { keys = same i }) (c.in-Err.ensures.err schema (under written empty) stores.own)
