-- A reply is what is written of it: its size and header, and then its body.
use Rattle.std.proofs.Common.{◌≡◌, ℕ, ◌+◌, ◌^◌, ◌<◌, List, [], ◌∷◌, ◌++◌, length, take, drop, length-append, refl, ap, ◌∙◌, append_assoc, arith}
use Rattle.byteorder.specs.Endian.{big_bytes, big_number}
use Rattle.byteorder.specs.Numbers.{big_number-reads_back}
use Rattle.mx_reply.specs.Replies.{reply_header, reply_packet}

header-length : (schema sync kind : ℕ) → length (reply_header schema sync kind) ≡ 23
header-length schema sync kind = refl

-- what is written of a packet, after what was written before
pub packet_written : (schema sync kind size : ℕ) (out head front rest : List ℕ)
    → head ≡ (0xce ∷ big_bytes 4 size) ++ reply_header schema sync kind → size ≡ length front + length rest + 23
    → ((out ++ head) ++ front) ++ rest ≡ out ++ reply_packet schema sync kind (front ++ rest)
packet_written schema sync kind size out head front rest is sized =
    let header = reply_header schema sync kind in
    let body = front ++ rest in
    let whole : size ≡ length (header ++ body) = omega (arith, length-append header body, length-append front rest, header-length schema sync kind) in
    append_assoc (out ++ head) front rest
    ∙ append_assoc out head body
    ∙ ap (λ (l : List ℕ). out ++ (l ++ body)) is
    ∙ ap (λ (l : List ℕ). out ++ l) (append_assoc (0xce ∷ big_bytes 4 size) header body)
    ∙ ap (λ (n : ℕ). out ++ ((0xce ∷ big_bytes 4 n) ++ (header ++ body))) whole

-- a packet begins with the size of what follows that size
pub packet_sized : (schema sync kind : ℕ) (body : List ℕ) → length (reply_header schema sync kind ++ body) < 2 ^ 32
    → (take 1 (reply_packet schema sync kind body) ≡ 0xce ∷ [])
    × (big_number 4 (take 4 (drop 1 (reply_packet schema sync kind body))) ≡ length (drop 5 (reply_packet schema sync kind body)))
packet_sized schema sync kind body small = by_content (reply_header schema sync kind ++ body) small
  where
    by_content : (content : List ℕ) → length content < 2 ^ 32
        → (take 1 ((0xce ∷ big_bytes 4 (length content)) ++ content) ≡ 0xce ∷ [])
        × (big_number 4 (take 4 (drop 1 ((0xce ∷ big_bytes 4 (length content)) ++ content))) ≡ length (drop 5 ((0xce ∷ big_bytes 4 (length content)) ++ content)))
    by_content content few = (refl, big_number-reads_back 4 (length content) [] few)
