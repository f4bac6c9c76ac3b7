-- The durability gate: a reply is sent once every commit among the steps so far is durable.
use Rattle.std.specs.Prelude.{⊤, ℕ, suc, ◌-◌, ◌≤◌, [], ◌∷◌, length, drop}
use Rattle.mx_model.specs.Bases.{Base}
use Rattle.mx_model.specs.Histories.{Asked, History, ledger_of}

-- each request of the history is among its first so many steps
abbrev pub AskedWithin : ℕ → History → Type 0
AskedWithin count [] = ⊤
AskedWithin count (Asked name ask reply ∷ earlier) = (suc (length earlier) ≤ count) × AskedWithin count earlier
AskedWithin count (_ ∷ earlier) = AskedWithin count earlier

-- every reply of the history may be sent: its step is among the confirmed ones
abbrev pub RepliesMayLeave : Base → History → Type 0
RepliesMayLeave base history = AskedWithin (ledger_of base history).durable history

-- the steps of the history among which all commits are confirmed to be durable
abbrev pub confirmed_part : Base → History → History
confirmed_part base history = drop (length history - (ledger_of base history).durable) history
