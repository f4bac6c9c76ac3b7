-- What can't be written so, whatever else is wrong with a tuple or a key.
use Rattle.std.specs.Prelude.{ℕ, Bool, false, not, ◌&&◌, ◌||◌, List, ◌∷◌, Option, Some, None, Result, Ok, Err, nat_lt, ◌==◌, if◌then◌else◌}
use Rattle.mx_msgpack.specs.Items.{items_of}
use Rattle.mx_msgpack.specs.Readers.{unsigned_in}
use Rattle.mx_base.specs.declared.kinds.Unsupported.TheVariants.{SchemaInPlace, SystemSpaceWrite}
use Rattle.mx_base.specs.declared.refusal.Refusal.{Refusal}
use Rattle.mx_base.specs.declared.refusal.Refusal.TheVariants.{Unsupported}
use Rattle.mx_row.specs.Rows.{delete_type, insert_type, replace_type, upsert_type}
use Rattle.mx_schema.specs.Bootstrap.{settings, cluster}
use Rattle.mx_schema.specs.Members.{is_member}
use Rattle.mx_schema.specs.SchemaChecks.{first_user_space}
use Rattle.mx_schema.specs.Settings.{is_leader}
use Rattle.mx_schema.specs.State.{space_rows, shown_space_rows, index_rows, shown_index_rows}
use Rattle.mx_write.specs.declared.writable.Writer.{Writer}
use Rattle.mx_write.specs.declared.writable.Writer.TheVariants.{Client, Journal}

-- the spaces whose rows describe spaces and indexes, which are added and dropped and never replaced
abbrev pub describes_schema : (space : ℕ) → Bool
describes_schema space = (space == space_rows) || (space == index_rows)

-- the spaces that nobody writes
abbrev pub is_read_only : (space : ℕ) → Bool
is_read_only space = (space == shown_space_rows) || (space == shown_index_rows)

-- the number of one of the database's own spaces stands first
abbrev pub is_system_number : Option ℕ → Bool
is_system_number None = false
is_system_number (Some number) = nat_lt number first_user_space

abbrev pub begins_with_system_number : Option (List (List ℕ)) → Bool
begins_with_system_number (Some (field ∷ others)) = is_system_number (unsigned_in field)
begins_with_system_number _ = false

-- the array by which a row is named: its tuple or its primary key; none where it is named by another index
abbrev pub names_leader : Option (List ℕ) → Bool
names_leader None = false
names_leader (Some array) = is_leader array

-- the rows that describe the database's own spaces stay; one that is dropped by another index is known once it is found
abbrev pub own_row_refusal : (named : Option (List ℕ)) → Option Refusal
own_row_refusal None = None
own_row_refusal (Some array) = if begins_with_system_number (items_of array) then Some (Unsupported SystemSpaceWrite) else None

-- a row that describes a space or an index is added and taken out, and never replaced
abbrev pub schema_refusal : (type : ℕ) → (named : Option (List ℕ)) → Option Refusal
schema_refusal type named =
    if (type == insert_type) || (type == delete_type) then own_row_refusal named else Some (Unsupported SchemaInPlace)

-- the leader's setting isn't written by clients
abbrev pub leader_refusal : Writer → (named : Option (List ℕ)) → Option Refusal
leader_refusal Client named = if names_leader named then Some (Unsupported SystemSpaceWrite) else None
leader_refusal Journal named = None

-- a write of this type names a row by its tuple, and not by its key
abbrev pub names_by_tuple : (type : ℕ) → Bool
names_by_tuple type = (type == insert_type) || (type == replace_type) || (type == upsert_type)

-- a tuple that is no row of a node of the replica set
abbrev pub unless_member : (type : ℕ) → (named : Option (List ℕ)) → Option Refusal
unless_member type None = None
unless_member type (Some tuple) = if names_by_tuple type && not (is_member tuple) then Some (Unsupported SystemSpaceWrite) else None

-- the nodes of a replica set aren't written by clients, and a journal's are rows of such nodes
abbrev pub cluster_refusal : Writer → (type : ℕ) → (named : Option (List ℕ)) → Option Refusal
cluster_refusal Client type named = Some (Unsupported SystemSpaceWrite)
cluster_refusal Journal type named = unless_member type named

-- a tuple that an update of a journal made in a space, unless it should be the row of a node and isn't
abbrev pub tuple_of_journal : (space : ℕ) → Result (List ℕ) Refusal → Result (List ℕ) Refusal
tuple_of_journal space (Err why) = Err why
tuple_of_journal space (Ok tuple) = if (space == cluster) && not (is_member tuple) then Err (Unsupported SystemSpaceWrite) else Ok tuple

-- a tuple that an update made, where it may stand in the space
abbrev pub tuple_in_space : Writer → (space : ℕ) → Result (List ℕ) Refusal → Result (List ℕ) Refusal
tuple_in_space Client space made = made
tuple_in_space Journal space made = tuple_of_journal space made

-- why a write of this type can't be made in a space, of the row that is named so
abbrev pub write_refusal : Writer → (space type : ℕ) → (named : Option (List ℕ)) → Option Refusal
write_refusal writer space type named =
    if describes_schema space then schema_refusal type named
    else if is_read_only space then Some (Unsupported SystemSpaceWrite)
    else if space == cluster then cluster_refusal writer type named
    else if space == settings then leader_refusal writer named
    else None

-- the key by which a row is named, where it is a primary key
abbrev pub primary_name : (index : ℕ) → (key : List ℕ) → Option (List ℕ)
primary_name index key = if index == 0 then Some key else None
