-- What a run begins with: its seed, and the database that it opens.
use Rattle.std.specs.Prelude.{List, ℕ, take, drop, Option}
use Rattle.uuid.specs.declared.Variant.TheVariants.{RFC4122}
use Rattle.uuid.specs.declared.Version.TheVariants.{Random}
use Rattle.uuid.specs.Parts.{with_variant, with_version}
use Rattle.mx_outside.specs.Disks.{Disk}
use Rattle.mx_model.specs.declared.ids.Ids.{Ids}
use Rattle.mx_node.specs.Starts.{Start, IsStart}

-- sixteen bytes, made a version 4 UUID
abbrev pub made_random : List ℕ → List ℕ
made_random bytes = with_version (with_variant bytes RFC4122) Random

-- the identifiers of a node whose directory has no files: it is the first of its replica set, and the seed gives the rest
abbrev pub first_ids : List ℕ → Ids
first_ids seed = record { me = 1; instance = made_random (take 16 seed); set = made_random (drop 16 seed) }

-- a run with this seed begins so: the seed is the salt, and gives the identifiers of a node whose directory has no files
abbrev pub Begins : Start → (seed : List ℕ) → Option (List Disk) → Type 0
Begins start seed states = IsStart start (first_ids seed) seed states
