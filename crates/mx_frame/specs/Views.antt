-- What a framer's results mean.
use Rattle.std.specs.Prelude.{◌≡◌, ◌≤◌, ℕ, List, length, drop}
use Rattle.mx_frame.specs.declared.size.Size as code
use Rattle.mx_frame.specs.declared.size.Size.TheVariants as told
use Rattle.mx_frame.specs.declared.framer.Framed.{Framed}
use Rattle.mx_frame.specs.declared.framer.Framed.TheVariants as framed
use Rattle.mx_frame.specs.Packets.{Size, Whole, Part, Wrong, Packet, NeedMore, Broken, max_packet_size, first_frame}
use Rattle.mx_frame.specs.Streams.{Stream}

-- this result of reading a size is what the bytes begin with
abbrev pub IsSize : code.Size → List ℕ → Size → Type 0
IsSize (told.Whole head size) bytes found = (1 ≤ head) × (head ≤ length bytes) × (size ≤ max_packet_size) × (found ≡ Whole size (drop head bytes))
IsSize told.Part bytes found = found ≡ Part
IsSize told.Wrong bytes found = found ≡ Wrong

-- this is what the rest of the stream begins with, and `at` how many bytes were passed before what is no packet
abbrev pub IsFramed : Framed → Stream → Type 0
IsFramed (framed.Packet content) stream = (rest : List ℕ) × (first_frame stream.rest ≡ Packet content.now rest)
IsFramed framed.NeedMore stream = first_frame stream.rest ≡ NeedMore
IsFramed (framed.Broken at) stream = (first_frame stream.rest ≡ Broken) × (at ≡ stream.passed)
