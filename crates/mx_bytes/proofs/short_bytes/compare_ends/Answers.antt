use Rattle.std.proofs.Common.{◌∙◌, drop, sym, arith}
use Rattle.byteorder.specs.Numbers.{big_from-take}
use Rattle.mx_bytes.proofs.OrderLaws.{where_numbers_differ, where_numbers_are_same, where_nothing_follows}
use Rattle.mx_bytes.proofs.short_bytes.compare_ends.Goals as goal

pub returns-then-one-two : goal.returns-then-one-two
returns-then-one-two c =
    c.order_of_unequal.ensures ∙ sym (where_numbers_differ 16 8 c.args.left.now c.args.right.now c.word_at-one.result c.word_at-two.result (omega (arith, c.told-left)) (omega (arith, c.told-right)) c.fits-left c.fits-right
    c.word_at-one.ensures c.word_at-two.ensures c.if-one-two.true)

pub returns : goal.returns
returns c =
    let same = where_numbers_are_same 16 8 c.args.left.now c.args.right.now c.word_at-one.result c.word_at-two.result (omega (arith, c.told-left)) (omega (arith, c.told-right)) c.fits-left c.fits-right
    c.word_at-one.ensures c.word_at-two.ensures c.if-one-two.false in
    let end = where_nothing_follows 24 6 c.args.left.now c.args.right.now c.read_u48.result c.read_u48-2.result (omega (arith, c.told-left)) (omega (arith, c.told-right)) c.fits-left c.fits-right
    (c.read_u48.ensures ∙ big_from-take 0 6 6 (drop 24 c.args.left.now) (omega arith)) (c.read_u48-2.ensures ∙ big_from-take 0 6 6 (drop 24 c.args.right.now) (omega arith)) c.told-left c.told-right in
    c.cmp.ensures ∙ sym (same ∙ end)
