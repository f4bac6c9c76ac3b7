use Rattle.std.proofs.Common.{rules, arith}
use Rattle.std.proofs.lemmas.Result.{on_ok_weaker}
use Rattle.mx_msgpack.specs.Spelling.{shortest_unsigned}
use Rattle.mx_request.specs.Spelling.{unless_default}
use Rattle.mx_request.proofs.WriterLaws.{select_written}
use Rattle.mx_request.proofs.encode.write_select.Goals as goal

pub returns : goal.returns
returns c =
    let index = rw c.from-index.ensures at c.pairs_unless.ensures.count 0x11 in
    let limit = rw c.from-limit.ensures at c.pairs_unless-2.ensures.count 0x12 in
    let offset = rw c.from-offset.ensures at c.pairs_unless-3.ensures.count 0x13 in
    let iterator = rw c.from-iterator.ensures at c.pairs_unless-4.ensures.count 0x14 in
    on_ok_weaker c.write_array.result
    (λ e. select_written (0x10, shortest_unsigned c.args.space.0) (0x20, c.args.key.now)
    (unless_default 0x11 0 c.args.index.0) (unless_default 0x12 0xffff_ffff c.args.limit) (unless_default 0x13 0 c.args.offset) (unless_default 0x14 0 c.args.iterator)
    c.args.out.now c.write_map_head.new.out c.write_number.new.out c.write_unless.new.out c.write_unless-2.new.out c.write_unless-3.new.out c.write_unless-4.new.out c.write_array.new.out
    _ c.in_ok-write_map_head.ensures (omega arith) (search rules) (search rules) (search rules) (search rules) (search rules) e)
    c.write_array.ensures
