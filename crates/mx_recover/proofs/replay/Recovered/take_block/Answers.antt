use Rattle.std.proofs.Common.{sym, ap, ◌∙◌}
use Rattle.mx_directory.specs.Directories.{after_block}
use Rattle.mx_directory.proofs.DirectoryLaws.{after_block-nil, after_block-step, after_block-refused, after_block-unread}
use Rattle.mx_row.proofs.BehindLaws.{transaction_at-Advances}
use Rattle.mx_row.specs.Views.{tx_view}
use Rattle.mx_recover.proofs.ReplayLaws.{was_taken, was_refused, none_taken, one_taken, some_left, none_left}
use Rattle.mx_recover.proofs.replay.Recovered.take_block.Goals as goal

pub returns-in_default : goal.returns-in_default
returns-in_default c = λ before stands.
    let now = c.loop-rest.invariant before stands in
    let read = rw c.in_default.is at c.in_ok-tx.ensures.tx in
    none_taken _ _ (now.2 ∙ after_block-unread c.loop-rest.rest.now now.0 (sym read)
    (some_left c.loop-rest.rest.now c.is_empty.result c.is_empty.ensures c.loop-rest-test.true))

pub returns-then-not-branch : goal.returns-then-not-branch
returns-then-not-branch c = λ before stands.
    let now = c.loop-rest.invariant before stands in
    let read = rw c.in-Some.is at c.in_ok-tx.ensures.tx in
    let refused = was_refused _ _ c.in_ok-take_tx.field-0 c.if-not-branch.true (c.in_ok-take_tx.ensures now.0 now.1) in
    none_taken _ _ (now.2 ∙ after_block-refused c.loop-rest.rest.now c.in-Some.others.now (tx_view c.in-Some.tx) now.0 (sym read) refused)

-- the same where the transaction has one row, which frees nothing, and where it has several
pub loop-rest-smaller : goal.loop-rest-smaller
loop-rest-smaller c =
    let read = rw c.in-Some.is at c.in_ok-tx.ensures.tx in
    transaction_at-Advances c.loop-rest.rest.now (tx_view c.in-Some.tx, c.in-Some.others.now) (sym read)

pub loop-rest-smaller-else-not-branch : goal.loop-rest-smaller-else-not-branch
loop-rest-smaller-else-not-branch c =
    let read = rw c.in-Some.is at c.in_ok-tx.ensures.tx in
    transaction_at-Advances c.loop-rest.rest.now (tx_view c.in-Some.tx, c.in-Some.others.now) (sym read)

pub loop-rest-preserved : goal.loop-rest-preserved
loop-rest-preserved c = λ before stands.
    let now = c.loop-rest.invariant before stands in
    let read = rw c.in-Some.is at c.in_ok-tx.ensures.tx in
    let taken = was_taken _ _ c.in_ok-take_tx.field-0 c.if-not-branch.false (c.in_ok-take_tx.ensures now.0 now.1) in
    let step = after_block-step c.loop-rest.rest.now c.in-Some.others.now (tx_view c.in-Some.tx) now.0 (sym read) taken.0 taken.1 in
    (taken.0, taken.2, now.2 ∙ step)

pub loop-rest-preserved-else-not-branch : goal.loop-rest-preserved-else-not-branch
loop-rest-preserved-else-not-branch c = λ before stands.
    let now = c.loop-rest.invariant before stands in
    let read = rw c.in-Some.is at c.in_ok-tx.ensures.tx in
    let taken = was_taken _ _ c.in_ok-take_tx.field-0 c.if-not-branch.false (c.in_ok-take_tx.ensures now.0 now.1) in
    let step = after_block-step c.loop-rest.rest.now c.in-Some.others.now (tx_view c.in-Some.tx) now.0 (sym read) taken.0 taken.1 in
    (taken.0, taken.2, now.2 ∙ step)

pub returns : goal.returns
returns c = λ before stands.
    let now = c.loop-rest.invariant before stands in
    let none = none_left c.loop-rest.rest.now c.is_empty.result c.is_empty.ensures c.loop-rest-test.false in
    one_taken _ _ now.0 (now.2 ∙ ap (λ rows. after_block rows now.0) none ∙ after_block-nil now.0) now.1
