-- The packets of a connection (IPROTO, "Packet structure"): a size as an unsigned of MessagePack, and that many bytes.
use Rattle.std.specs.Prelude.{ℕ, zero, suc, Bool, true, false, List, [], ◌∷◌, length, take, drop, Option, Some, None, nat_lt, ◌==◌, if◌then◌else◌}
use Rattle.byteorder.specs.Endian.{big_number}
use Rattle.mx_msgpack.specs.Readers.{Reader, all_from}

-- the maximum size of a packet in bytes, without its size field
abbrev pub max_packet_size : ℕ
max_packet_size = 2097152

-- how many bytes of a number follow the leading byte of an unsigned: none where the byte is the number itself
abbrev pub width_behind : ℕ → Option ℕ
width_behind leading =
    if nat_lt leading 0x80 then Some 0
    else if leading == 0xcc then Some 1
    else if leading == 0xcd then Some 2
    else if leading == 0xce then Some 4
    else if leading == 0xcf then Some 8
    else None

-- what the bytes begin with, where a packet's size is expected: a size and the bytes after it, a prefix of one, or none
-- that a packet may have
pub data Size : Type 0 where
  Whole : (size : ℕ) (rest : List ℕ) → Size
  Part : Size
  Wrong : Size

-- a number above the limit is no size
abbrev pub size_in_limit : ℕ → List ℕ → Size
size_in_limit size rest = if nat_lt max_packet_size size then Wrong else Whole size rest

-- the size after its leading byte, where this many bytes follow it
abbrev pub size_behind : (leading : ℕ) → Option ℕ → List ℕ → Size
size_behind leading None rest = Wrong
size_behind leading (Some zero) rest = Whole leading rest
size_behind leading (Some (suc width)) rest =
    if nat_lt (length rest) (suc width) then Part else size_in_limit (big_number (suc width) (take (suc width) rest)) (drop (suc width) rest)

-- the size that the bytes begin with
unfoldable pub size_at : List ℕ → Size
size_at [] = Part
size_at (leading ∷ rest) = size_behind leading (width_behind leading) rest

-- what the bytes begin with: a packet and the bytes after it, a prefix of one, or no packet's size
pub data First : Type 0 where
  Packet : (content rest : List ℕ) → First
  NeedMore : First
  Broken : First

-- the packet after its size
abbrev pub first_behind : Size → First
first_behind (Whole size rest) = if nat_lt (length rest) size then NeedMore else Packet (take size rest) (drop size rest)
first_behind Part = NeedMore
first_behind Wrong = Broken

-- what the bytes begin with, where a packet is expected
unfoldable pub first_frame : List ℕ → First
first_frame bytes = first_behind (size_at bytes)

-- the packet and the bytes after it, where there is one
abbrev pub packet_found : First → Option (List ℕ × List ℕ)
packet_found (Packet content rest) = Some (content, rest)
packet_found _ = None

-- the first packet, without its size, and the bytes after it
abbrev pub packet_at : Reader (List ℕ)
packet_at bytes = packet_found (first_frame bytes)

-- the whole packets that begin the bytes
abbrev pub packets_of : List ℕ → List (List ℕ)
packets_of bytes = (all_from packet_at bytes).0

-- the bytes after them
abbrev pub rest_of : List ℕ → List ℕ
rest_of bytes = (all_from packet_at bytes).1

-- no packet's size was found
abbrev pub is_broken : First → Bool
is_broken Broken = true
is_broken _ = false

-- no packet's size follows them
abbrev pub breaks_off : List ℕ → Bool
breaks_off bytes = is_broken (first_frame (rest_of bytes))
