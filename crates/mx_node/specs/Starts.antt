-- What a node begins with: its salt, and the database that it opens.
use Rattle.std.specs.Prelude.{◌≡◌, List, ℕ, Option}
use Rattle.mx_outside.specs.Disks.{Disk}
use Rattle.mx_model.specs.declared.ids.Ids.{Ids}
use Rattle.mx_model.specs.Bases.{Base}
use Rattle.mx_reply.specs.Greeting.{greeting_of}
use Rattle.mx_store.specs.Stores.{IsBaseOf}

pub record Start : Type 0 where
  pub salt : List ℕ
  pub base : Base

-- a node with these identifiers and this salt begins so: with what its directory recovers to, where it tells its files
pub record IsStart (start : Start) (ids : Ids) (salt : List ℕ) (states : Option (List Disk)) : Type 0 where
  pub salted : start.salt ≡ salt
  pub based : IsBaseOf ids start.base states

-- the greeting of a node: the instance of its database, and its salt
abbrev pub start_greeting : Start → List ℕ
start_greeting start = greeting_of start.base.ids.instance start.salt
