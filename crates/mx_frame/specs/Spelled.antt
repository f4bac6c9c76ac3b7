-- What bytes begin with, by the grammar of MessagePack.
use Rattle.std.specs.Prelude.{◌≡◌, ◌⊎◌, ℕ, ◌<◌, ◌≤◌, List, ◌∷◌, ◌++◌, length}
use Rattle.mx_msgpack.specs.Grammar.{SpellsUnsigned}
use Rattle.mx_frame.specs.Packets.{max_packet_size}

-- the bytes begin with a packet: its size in any spelling, and its content
pub record BeginsWithPacket (bytes packet rest : List ℕ) : Type 0 where
  pub size : List ℕ
  pub spelled : SpellsUnsigned (length packet) size
  pub short : length packet ≤ max_packet_size
  pub parts : bytes ≡ size ++ (packet ++ rest)

-- no unsigned number begins with this byte
abbrev pub StartsNoUnsigned : ℕ → Type 0
StartsNoUnsigned leading = (number : ℕ) (others : List ℕ) → ¬ SpellsUnsigned number (leading ∷ others)

-- the first byte begins no unsigned number
pub record BeginsWithNoNumber (bytes : List ℕ) : Type 0 where
  pub leading : ℕ
  pub others : List ℕ
  pub parts : bytes ≡ leading ∷ others
  pub none : StartsNoUnsigned leading

-- the bytes begin with a number above a packet's maximum size
pub record BeginsWithLongSize (bytes : List ℕ) : Type 0 where
  pub number : ℕ
  pub size : List ℕ
  pub rest : List ℕ
  pub spelled : SpellsUnsigned number size
  pub long : max_packet_size < number
  pub parts : bytes ≡ size ++ rest

-- the bytes begin with no packet, whatever follows
abbrev pub BeginsWithNoPacket : List ℕ → Type 0
BeginsWithNoPacket bytes = BeginsWithNoNumber bytes ⊎ BeginsWithLongSize bytes

-- the size isn't whole: the bytes are fewer than those of some number's spelling, and begin it
pub record EndsInSize (bytes : List ℕ) : Type 0 where
  pub number : ℕ
  pub missing : List ℕ
  pub some : 0 < length missing
  pub spelled : SpellsUnsigned number (bytes ++ missing)

-- fewer bytes follow the size than it says
pub record EndsInPacket (bytes : List ℕ) : Type 0 where
  pub number : ℕ
  pub size : List ℕ
  pub rest : List ℕ
  pub spelled : SpellsUnsigned number size
  pub short : number ≤ max_packet_size
  pub fewer : length rest < number
  pub parts : bytes ≡ size ++ rest

-- a prefix of a packet
abbrev pub EndsTooSoon : List ℕ → Type 0
EndsTooSoon bytes = EndsInSize bytes ⊎ EndsInPacket bytes
