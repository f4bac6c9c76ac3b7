-- The replies of a history, each with its connection and the schema's version after it.
use Rattle.std.specs.Prelude.{ℕ, Bool, true, false, List, [], ◌∷◌, ◌++◌, ◌==◌, if◌then◌else◌}
use Rattle.mx_base.specs.declared.ids.TxnName.{TxnName}
use Rattle.mx_model.specs.declared.reply.Reply.{Reply}
use Rattle.mx_model.specs.Transactions.{schema_version}
use Rattle.mx_model.specs.Bases.{Base}
use Rattle.mx_model.specs.Histories.{Entry, Asked, Left, History, journal_of}

-- a reply to a request under this name, and the schema's version after it
pub record Told : Type 0 where
  pub name : TxnName
  pub version : ℕ
  pub reply : Reply

-- the reply of an entry, after the ones before it
abbrev pub told_by : Base → Entry → (earlier : History) → List Told
told_by base (Asked name ask reply) earlier = record {
  name = name;
  version = schema_version (journal_of base (Asked name ask reply ∷ earlier));
  reply = reply;
} ∷ []
told_by base _ earlier = []

-- the replies of a history, the first of them first
abbrev pub told_in : Base → History → List Told
told_in base [] = []
told_in base (entry ∷ earlier) = told_in base earlier ++ told_by base entry earlier

-- the newest step of a connection is its departure
abbrev pub has_left : (connection : ℕ) → History → Bool
has_left connection [] = false
has_left connection (Asked name ask reply ∷ earlier) = if name.conn.0 == connection then false else has_left connection earlier
has_left connection (Left other ∷ earlier) = if other == connection then true else has_left connection earlier
has_left connection (_ ∷ earlier) = has_left connection earlier

-- the replies to a connection since it was opened, the first of them first; where it has left, those until then
abbrev pub told_on : Base → (connection : ℕ) → History → List Told
told_on base connection [] = []
told_on base connection (Asked name ask reply ∷ earlier) =
    if name.conn.0 == connection then (if has_left connection earlier then [] else told_on base connection earlier) ++ told_by base (Asked name ask reply) earlier
    else told_on base connection earlier
told_on base connection (_ ∷ earlier) = told_on base connection earlier

-- the replies to a connection since it was opened; none where it has left
abbrev pub told_now : Base → (connection : ℕ) → History → List Told
told_now base connection history = if has_left connection history then [] else told_on base connection history
