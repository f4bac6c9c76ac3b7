-- The number and the text of each refusal.
use Rattle.std.specs.Prelude.{ℕ, ◌+◌, ◌/◌, ◌%◌, List, [], ◌∷◌, ◌++◌, codes, decimal, nat_lt, if◌then◌else◌}
use Rattle.mx_vclock.specs.Text as vclock
use Rattle.mx_base.specs.declared.kinds.TypeName.{TypeName}
use Rattle.mx_base.specs.declared.kinds.TypeName.TheVariants.{Unsigned, Integer, String, Boolean, Varbinary, Scalar, Array, Map}
use Rattle.mx_base.specs.declared.kinds.Unsupported.{Unsupported}
use Rattle.mx_base.specs.declared.kinds.Unsupported.TheVariants as what
use Rattle.mx_base.specs.declared.refusal.Reach.{Reach}
use Rattle.mx_base.specs.declared.refusal.Refusal.{Refusal}
use Rattle.mx_base.specs.declared.refusal.Refusal.TheVariants as refusal

abbrev pub code_of : Refusal → ℕ
code_of (refusal.IllegalValue key) = 1
code_of refusal.OutOfMemory = 2
code_of (refusal.DuplicateKey index space) = 3
code_of (refusal.Unsupported what) = 5
code_of (refusal.ReadOnly writable) = 7
code_of refusal.BadSpaceRow = 9
code_of (refusal.SpaceExists space) = 10
code_of (refusal.SpaceHasIndexes space) = 11
code_of refusal.BadIndexRow = 14
code_of (refusal.PrimaryIndexLast space) = 17
code_of (refusal.KeyPartType part expected) = 18
code_of (refusal.KeyPartCount parts index) = 19
code_of refusal.NotMessagePack = 20
code_of (refusal.FieldType field expected) = 23
code_of refusal.UnknownOperator = 28
code_of (refusal.BadArgument operation) = 29
code_of (refusal.IndexMissing index space) = 35
code_of (refusal.SpaceMissing space) = 36
code_of (refusal.FieldCount fields expected) = 38
code_of (refusal.FieldMissing field) = 39
code_of (refusal.IndexNotUnique index space) = 41
code_of (refusal.UnknownRequestType kind) = 48
code_of (refusal.MissingKey key) = 69
code_of refusal.TransactionOpen = 79
code_of (refusal.PrimaryKeyChanged space) = 94
code_of (refusal.IntegerOverflow operation) = 95
code_of refusal.Conflict = 97
code_of refusal.AllTransactionsOpen = 201
code_of refusal.TransactionTooLong = 202
code_of (refusal.TupleTooLong bytes) = 203
code_of refusal.AllOfConnectionOpen = 204
code_of (refusal.OutsideJournal reached) = 205
code_of (refusal.Overtaken lsn) = 206
code_of refusal.ResultTooLong = 207
code_of refusal.LsnsUsedUp = 208
code_of refusal.ReplicaIdsUsedUp = 209
code_of refusal.AllViewsUsed = 210

-- the type's name
abbrev pub type_text : TypeName → List ℕ
type_text Unsigned = codes "unsigned"
type_text Integer = codes "integer"
type_text String = codes "string"
type_text Boolean = codes "boolean"
type_text Varbinary = codes "varbinary"
type_text Scalar = codes "scalar"
type_text Array = codes "array"
type_text Map = codes "map"

abbrev pub unsupported_text : Unsupported → List ℕ
unsupported_text what.Authentication = codes "authentication"
unsupported_text what.SchemaInTransaction = codes "schema statement in a transaction"
unsupported_text what.SchemaInPlace = codes "change of a schema row in place"
unsupported_text what.SystemSpaceWrite = codes "write to a system space"
unsupported_text what.HashIterator = codes "iterator of a hash index"

-- a digit of sixteen, as a lower-case letter from ten on
abbrev pub hex_digit : ℕ → ℕ
hex_digit digit = if nat_lt digit 10 then 48 + digit else 87 + digit

-- a key as its two hexadecimal digits
abbrev pub key_text : ℕ → List ℕ
key_text key = codes "0x" ++ hex_digit (key / 16) ∷ hex_digit (key % 16) ∷ []

-- a name in quotation marks
abbrev pub quoted : List ℕ → List ℕ
quoted name = codes "\"" ++ name ++ codes "\""

-- which vclock isn't between which
abbrev pub outside_text : Reach → List ℕ
outside_text reached =
    codes "Vclock " ++ vclock.vclock_text reached.asked ++ codes " is not between " ++ vclock.vclock_text reached.first ++ codes " and " ++ vclock.vclock_text reached.last

abbrev pub text_of : Refusal → List ℕ
text_of (refusal.IllegalValue key) = codes "Illegal value of key " ++ key_text key
text_of refusal.OutOfMemory = codes "Out of memory"
text_of (refusal.DuplicateKey index space) = codes "Duplicate key in unique index " ++ quoted index ++ codes " of space " ++ quoted space
text_of (refusal.Unsupported what) = codes "Unsupported: " ++ unsupported_text what
text_of (refusal.ReadOnly writable) = codes "Node is read-only, the writable node is " ++ decimal writable.0
text_of refusal.BadSpaceRow = codes "Bad space row"
text_of (refusal.SpaceExists space) = codes "Space " ++ quoted space ++ codes " exists"
text_of (refusal.SpaceHasIndexes space) = codes "Space " ++ quoted space ++ codes " still has indexes"
text_of refusal.BadIndexRow = codes "Bad index row"
text_of (refusal.PrimaryIndexLast space) = codes "Primary index of space " ++ quoted space ++ codes " has to be dropped last"
text_of (refusal.KeyPartType part expected) = codes "Key part " ++ decimal part ++ codes ": " ++ type_text expected ++ codes " expected"
text_of (refusal.KeyPartCount parts index) = codes "Key of " ++ decimal parts ++ codes " parts, index of " ++ decimal index
text_of refusal.NotMessagePack = codes "Packet is not MessagePack"
text_of (refusal.FieldType field expected) = codes "Field " ++ decimal field ++ codes ": " ++ type_text expected ++ codes " expected"
text_of refusal.UnknownOperator = codes "Unknown update operator"
text_of (refusal.BadArgument operation) = codes "Update operation " ++ decimal operation ++ codes ": bad argument"
text_of (refusal.IndexMissing index space) = codes "No index " ++ decimal index.0 ++ codes " in space " ++ quoted space
text_of (refusal.SpaceMissing space) = codes "Space " ++ decimal space.0 ++ codes " does not exist"
text_of (refusal.FieldCount fields expected) = codes "Tuple of " ++ decimal fields ++ codes " fields, " ++ decimal expected ++ codes " expected"
text_of (refusal.FieldMissing field) = codes "Field " ++ decimal field ++ codes " is missing"
text_of (refusal.IndexNotUnique index space) = codes "Index " ++ quoted index ++ codes " of space " ++ quoted space ++ codes " is not unique"
text_of (refusal.UnknownRequestType kind) = codes "Unknown request type " ++ decimal kind
text_of (refusal.MissingKey key) = codes "Missing key " ++ key_text key
text_of refusal.TransactionOpen = codes "Transaction is open in this stream"
text_of (refusal.PrimaryKeyChanged space) = codes "Primary key of space " ++ quoted space ++ codes " is changed"
text_of (refusal.IntegerOverflow operation) = codes "Update operation " ++ decimal operation ++ codes ": integer overflow"
text_of refusal.Conflict = codes "Transaction has been aborted by conflict"
text_of refusal.AllTransactionsOpen = codes "All 1024 transactions are open"
text_of refusal.TransactionTooLong = codes "Transaction is too long"
text_of (refusal.TupleTooLong bytes) = codes "Tuple of " ++ decimal bytes ++ codes " bytes, 1048576 allowed"
text_of refusal.AllOfConnectionOpen = codes "All 64 transactions of the connection are open"
text_of (refusal.OutsideJournal reached) = outside_text reached.value
text_of (refusal.Overtaken lsn) = codes "Overtaken by schema commit at lsn " ++ decimal lsn.0
text_of refusal.ResultTooLong = codes "Result is longer than 16777216 bytes"
text_of refusal.LsnsUsedUp = codes "Log sequence numbers are used up"
text_of refusal.ReplicaIdsUsedUp = codes "All 31 replica ids are used"
text_of refusal.AllViewsUsed = codes "All 8 snapshot views are used"
