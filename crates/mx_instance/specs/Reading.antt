-- Only private functions and proofs need these: what one read and the writes of a round came to.
use Rattle.std.specs.Prelude.{◌≡◌, ⊤, ℕ, ◌<◌, Bool, true, false, List, [], length, Option}
use Rattle.std.specs.Io.KnownBytes.{IsAtEnd}
use Rattle.mx_outside.specs.Causes.{Rose}
use Rattle.mx_session.specs.declared.link_turn.LinkTurn.{LinkTurn}
use Rattle.mx_session.specs.declared.link_turn.LinkTurn.TheVariants as turn
use Rattle.mx_instance.specs.declared.rounds.Reading.{Reading}
use Rattle.mx_instance.specs.declared.rounds.Reading.TheVariants as reading

-- why a read gave no piece
abbrev pub IsReading : (reads reads_now : ℕ) → (left : Option (List ℕ)) → Reading → Type 0
IsReading reads reads_now left reading.End = (reads_now ≡ reads) × IsAtEnd left
IsReading reads reads_now left reading.NotReady = Rose reads reads_now
IsReading reads reads_now left _ = reads_now ≡ reads

-- the link failed, or there was no memory
abbrev pub IsPieceStop : LinkTurn → Type 0
IsPieceStop turn.LinkFault = ⊤
IsPieceStop turn.NoMemory = ⊤
IsPieceStop _ = ⊥

-- all was sent, or the link had to wait
abbrev pub IsSent : (writes writes_now : ℕ) → (out : List ℕ) → (all : Bool) → Type 0
IsSent writes writes_now out true = (out ≡ []) × (writes_now ≡ writes)
IsSent writes writes_now out false = Rose writes writes_now × (0 < length out)
