use Rattle.std.proofs.Common.{◌∙◌, sym, ap, arith}
use Rattle.std.specs.Ordering.{nat_cmp, ordering_then}
use Rattle.mx_bytes.specs.Short.{max_short}
use Rattle.mx_bytes.proofs.OrderLaws.{padded_order, unequal_decide, where_numbers_differ, where_numbers_are_same}
use Rattle.mx_bytes.proofs.short_bytes.compare_padded.Goals as goal

pub returns-then-one-two : goal.returns-then-one-two
returns-then-one-two c =
    let order = padded_order max_short c.args.left.now c.args.right.now c.args.left_len c.args.right_len c.told-left c.told-right c.requires.left.0 c.requires.right.0 c.requires.left.1 c.requires.right.1 in
    let differ = where_numbers_differ 0 8 c.args.left.now c.args.right.now c.word_at-one.result c.word_at-two.result (omega (arith, c.told-left)) (omega (arith, c.told-right)) c.fits-left c.fits-right
    c.word_at-one.ensures c.word_at-two.ensures c.if-one-two.true in
    let decides = unequal_decide c.word_at-one.result c.word_at-two.result (nat_cmp c.args.left_len c.args.right_len) c.if-one-two.true in
    c.order_of_unequal.ensures ∙ sym (order ∙ ap (λ o. ordering_then o (nat_cmp c.args.left_len c.args.right_len)) differ ∙ decides)

pub returns-then-one-two-2 : goal.returns-then-one-two-2
returns-then-one-two-2 c =
    let order = padded_order max_short c.args.left.now c.args.right.now c.args.left_len c.args.right_len c.told-left c.told-right c.requires.left.0 c.requires.right.0 c.requires.left.1 c.requires.right.1 in
    let same-1 = where_numbers_are_same 0 8 c.args.left.now c.args.right.now c.word_at-one.result c.word_at-two.result (omega (arith, c.told-left)) (omega (arith, c.told-right)) c.fits-left c.fits-right
    c.word_at-one.ensures c.word_at-two.ensures c.if-one-two.false in
    let differ = where_numbers_differ 8 8 c.args.left.now c.args.right.now c.word_at-one-2.result c.word_at-two-2.result (omega (arith, c.told-left)) (omega (arith, c.told-right)) c.fits-left c.fits-right
    c.word_at-one-2.ensures c.word_at-two-2.ensures c.if-one-two-2.true in
    let decides = unequal_decide c.word_at-one-2.result c.word_at-two-2.result (nat_cmp c.args.left_len c.args.right_len) c.if-one-two-2.true in
    c.order_of_unequal-then-one-two-2.ensures ∙ sym (order ∙ ap (λ o. ordering_then o (nat_cmp c.args.left_len c.args.right_len)) (same-1 ∙ differ) ∙ decides)

pub returns : goal.returns
returns c =
    let order = padded_order max_short c.args.left.now c.args.right.now c.args.left_len c.args.right_len c.told-left c.told-right c.requires.left.0 c.requires.right.0 c.requires.left.1 c.requires.right.1 in
    let same-1 = where_numbers_are_same 0 8 c.args.left.now c.args.right.now c.word_at-one.result c.word_at-two.result (omega (arith, c.told-left)) (omega (arith, c.told-right)) c.fits-left c.fits-right
    c.word_at-one.ensures c.word_at-two.ensures c.if-one-two.false in
    let same-2 = where_numbers_are_same 8 8 c.args.left.now c.args.right.now c.word_at-one-2.result c.word_at-two-2.result (omega (arith, c.told-left)) (omega (arith, c.told-right)) c.fits-left c.fits-right
    c.word_at-one-2.ensures c.word_at-two-2.ensures c.if-one-two-2.false in
    c.then.ensures ∙ (λ i. ordering_then ((c.compare_ends.ensures ∙ sym (same-1 ∙ same-2)) i) (c.cmp.ensures i)) ∙ sym order
