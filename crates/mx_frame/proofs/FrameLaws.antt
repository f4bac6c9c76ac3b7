-- Packets advance and stand whatever follows, so those of a stream in pieces are those of the whole.
use Rattle.std.proofs.Common.{◌≡◌, ℕ, ◌<◌, true, List, [], ◌++◌, length, Some, refl, ap, ◌∙◌, append_assoc, inl, inr, arith}
use Rattle.std.proofs.lemmas.List.{append-nil, length-append}
use Rattle.mx_msgpack.specs.Readers.{Advances, IsStable, all_from}
use Rattle.mx_msgpack.proofs.ReaderLaws.{and_then, all_from_none, all_from-append}
use Rattle.mx_frame.specs.Packets.{First, Packet, NeedMore, Broken, first_frame, packet_found, packet_at, packets_of, rest_of, is_broken, breaks_off}
use Rattle.mx_frame.specs.Spelled.{BeginsWithNoPacket}
use Rattle.mx_frame.proofs.SizeLaws.{spelling}
use Rattle.mx_frame.proofs.SpelledLaws.{packet_spelled, none_spelled}

-- ---- what stands first

-- a packet stands first whatever follows
pub packet_stays : (bytes more packet rest : List ℕ) → first_frame bytes ≡ Packet packet rest → first_frame (bytes ++ more) ≡ Packet packet (rest ++ more)
packet_stays bytes more packet rest e =
    let b = (packet_spelled bytes packet rest).0 e in
    let parts : bytes ++ more ≡ b.size ++ (packet ++ (rest ++ more)) =
    ap (λ (l : List ℕ). l ++ more) b.parts ∙ simp append_assoc in
    (packet_spelled (bytes ++ more) packet (rest ++ more)).1 (record { size = b.size; spelled = b.spelled; short = b.short; parts = parts })

-- and so does what is no packet
pub none_stays : (bytes more : List ℕ) → first_frame bytes ≡ Broken → first_frame (bytes ++ more) ≡ Broken
none_stays bytes more e = (none_spelled (bytes ++ more)).1 (stays ((none_spelled bytes).0 e))
  where
    stays : BeginsWithNoPacket bytes → BeginsWithNoPacket (bytes ++ more)
    stays (inl b) =
        inl (record { leading = b.leading; others = b.others ++ more; parts = ap (λ (l : List ℕ). l ++ more) b.parts; none = b.none })
    stays (inr b) =
        let parts = ap (λ (l : List ℕ). l ++ more) b.parts ∙ append_assoc b.size b.rest more in
        inr (record { number = b.number; size = b.size; rest = b.rest ++ more; spelled = b.spelled; long = b.long; parts = parts })

-- a packet takes its size at least
pub packet_shorter : (bytes packet rest : List ℕ) → first_frame bytes ≡ Packet packet rest → length rest < length bytes
packet_shorter bytes packet rest e =
    let b = (packet_spelled bytes packet rest).0 e in
    let s = spelling (length packet) b.size b.spelled in
    let size = ap length s.parts in
    let all = ap length b.parts ∙ length-append b.size (packet ++ rest) in
    omega (arith, length-append packet rest)

-- ---- packets one after the other

-- the packet that a read found
pub first_found : (first : First) (found : List ℕ × List ℕ) → packet_found first ≡ Some found → first ≡ Packet found.0 found.1
first_found (Packet content rest) found e = cc
first_found NeedMore found e = absurd cc
first_found Broken found e = absurd cc

pub packet_advances : Advances packet_at
packet_advances bytes found e = packet_shorter bytes found.0 found.1 (first_found (first_frame bytes) found e)

pub packet_stable : IsStable packet_at
packet_stable bytes more found e = ap packet_found (packet_stays bytes more found.0 found.1 (first_found (first_frame bytes) found e))

-- the packets of bytes and more bytes: those of the bytes, and then those of their rest and the bytes after them
pub all_packets-append : (bytes more : List ℕ) → all_from packet_at (bytes ++ more) ≡ and_then packet_at (all_from packet_at bytes) more
all_packets-append = all_from-append packet_at packet_advances packet_stable

pub packets_of-append : (bytes more : List ℕ) → packets_of (bytes ++ more) ≡ packets_of bytes ++ packets_of (rest_of bytes ++ more)
packets_of-append bytes more = ap (λ (x : List (List ℕ) × List ℕ). x.0) (all_packets-append bytes more)

pub rest_of-append : (bytes more : List ℕ) → rest_of (bytes ++ more) ≡ rest_of (rest_of bytes ++ more)
rest_of-append bytes more = ap (λ (x : List (List ℕ) × List ℕ). x.1) (all_packets-append bytes more)

-- ---- where no packet follows

is_none : (first : First) → is_broken first ≡ true → first ≡ Broken
is_none (Packet content rest) e = absurd cc
is_none NeedMore e = absurd cc
is_none Broken e = refl

-- no packet follows whatever comes
module _ (bytes more : List ℕ) (breaks : breaks_off bytes ≡ true) where
  rest_stays : first_frame (rest_of bytes ++ more) ≡ Broken
  rest_stays = none_stays (rest_of bytes) more (is_none (first_frame (rest_of bytes)) breaks)

  none_more : all_from packet_at (rest_of bytes ++ more) ≡ ([], rest_of bytes ++ more)
  none_more = all_from_none packet_at packet_advances (rest_of bytes ++ more) (ap packet_found rest_stays)

  pub packets_of-broken : packets_of (bytes ++ more) ≡ packets_of bytes
  packets_of-broken =
      packets_of-append bytes more
      ∙ ap (λ (x : List (List ℕ) × List ℕ). packets_of bytes ++ x.0) none_more
      ∙ append-nil (packets_of bytes)

  pub rest_of-broken : rest_of (bytes ++ more) ≡ rest_of bytes ++ more
  rest_of-broken = rest_of-append bytes more ∙ ap (λ (x : List (List ℕ) × List ℕ). x.1) none_more

  pub broken_stays : (breaks_off (bytes ++ more) ≡ true) × (packets_of (bytes ++ more) ≡ packets_of bytes)
  broken_stays = (ap (λ (l : List ℕ). is_broken (first_frame l)) rest_of-broken ∙ ap is_broken rest_stays, packets_of-broken)
