use Rattle.std.proofs.Common.{◌≡◌, ℕ, List, ◌∷◌, ◌++◌, length, ap, ◌∙◌, subst}
use Rattle.std.specs.Prelude.{MatchResult}
use Rattle.byteorder.specs.Endian.{big_bytes}
use Rattle.mx_reply.specs.declared.body.ReplyBody.TheVariants.{Tuples}
use Rattle.mx_reply.specs.Replies.{reply_body_text, reply_packet}
use Rattle.mx_reply.proofs.replies.write_tuples.Goals as goal

pub returns-clause-written : goal.returns-clause-written
returns-clause-written c =
    let out = c.args.out.now in
    let tuples = c.args.tuples.now in
    let count : c.in-Ok.count ≡ length tuples = c.in-Ok.ensures.1 ∙ c.len.ensures in
    let text : c.tuples_head.result ++ c.bytes.result.now ≡ reply_body_text (Tuples tuples) =
    ap (λ (front : List ℕ). front ++ c.bytes.result.now) c.tuples_head.ensures
    ∙ ap (λ (n : ℕ). (0x81 ∷ 0x30 ∷ 0xdd ∷ big_bytes 4 n) ++ c.bytes.result.now) count
    ∙ ap (λ (rest : List ℕ). (0x81 ∷ 0x30 ∷ 0xdd ∷ big_bytes 4 (length tuples)) ++ rest) c.bytes.ensures in
    subst (λ (t : List ℕ). MatchResult c.write_packet.result
    (λ _. c.write_packet.new.out ≡ out ++ reply_packet c.args.schema c.args.sync.0 0 t) (λ _. c.write_packet.new.out ≡ out))
    text c.write_packet.ensures.written
