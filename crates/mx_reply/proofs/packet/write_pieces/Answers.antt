use Rattle.std.proofs.Common.{◌≡◌, ◌+◌, ◌++◌, length, ap, ◌∙◌, arith}
use Rattle.mx_reply.proofs.ReplyLaws.{packet_written}
use Rattle.mx_reply.proofs.packet.write_pieces.Goals as goal

pub returns-clause-written : goal.returns-clause-written
returns-clause-written c =
    let out = c.args.out.now in
    let front = c.args.prefix.now in
    let rest = c.args.rest.now in
    let head = c.packet_head-head.result in
    let begun : c.extend_from_slice.new.self ≡ out ++ head
    = c.in_ok-extend_from_slice.ensures ∙ ap (λ l. l ++ head) c.reserve.ensures in
    let fronted : c.extend_from_slice-2.new.self ≡ (out ++ head) ++ front
    = c.in_ok-extend_from_slice-2.ensures ∙ ap (λ l. l ++ front) begun in
    let whole : c.extend_from_slice-3.new.self ≡ ((out ++ head) ++ front) ++ rest
    = c.in_ok-extend_from_slice-3.ensures ∙ ap (λ l. l ++ rest) fronted in
    let sized : c.in-Ok.size ≡ length front + length rest + 23 = omega (arith, c.in-Ok.ensures, c.saturating_add.ensures, c.saturating_add-body_size.ensures) in
    whole ∙ packet_written c.args.header.schema c.args.header.sync.0 c.args.header.kind c.in-Ok.size out head front rest c.packet_head-head.ensures sized
