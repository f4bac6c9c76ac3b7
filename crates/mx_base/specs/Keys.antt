-- The keys of header and body maps (IPROTO, "Keys").
use Rattle.std.specs.Prelude.{ℕ}

-- the type of a request, a reply or a row, in a header (`IPROTO_REQUEST_TYPE`)
abbrev pub type_key : ℕ
type_key = 0x00

-- the number by which the client knows the reply, in a header (`IPROTO_SYNC`)
abbrev pub sync_key : ℕ
sync_key = 0x01

-- the id of the replica that wrote a row, in a header (`IPROTO_REPLICA_ID`)
abbrev pub replica_key : ℕ
replica_key = 0x02

-- the log sequence number of a row, in a header (`IPROTO_LSN`)
abbrev pub lsn_key : ℕ
lsn_key = 0x03

-- the number of a row in its transaction, 0 for the first, in a header (`IPROTO_TSN`)
abbrev pub row_number_key : ℕ
row_number_key = 0x08

-- 1 in the last row of a transaction, in a header (`IPROTO_FLAGS`)
abbrev pub is_last_key : ℕ
is_last_key = 0x09

-- the stream, in a header (`IPROTO_STREAM_ID`)
abbrev pub stream_key : ℕ
stream_key = 0x0a

-- the number of a space (`IPROTO_SPACE_ID`)
abbrev pub space_key : ℕ
space_key = 0x10

-- the number of an index (`IPROTO_INDEX_ID`)
abbrev pub index_key : ℕ
index_key = 0x11

-- how many tuples are wanted at most (`IPROTO_LIMIT`)
abbrev pub limit_key : ℕ
limit_key = 0x12

-- how many tuples are skipped (`IPROTO_OFFSET`)
abbrev pub offset_key : ℕ
offset_key = 0x13

-- the iterator of a SELECT (`IPROTO_ITERATOR`)
abbrev pub iterator_key : ℕ
iterator_key = 0x14

-- the number of a tuple's first field, 0 or 1 (`IPROTO_INDEX_BASE`)
abbrev pub base_key : ℕ
base_key = 0x15

-- the parts of an index key (`IPROTO_KEY`)
abbrev pub parts_key : ℕ
parts_key = 0x20

-- a tuple; in an UPDATE its operations (`IPROTO_TUPLE`)
abbrev pub tuple_key : ℕ
tuple_key = 0x21

-- the UUID of a replica (`IPROTO_INSTANCE_UUID`)
abbrev pub instance_key : ℕ
instance_key = 0x24

-- the UUID of a replica set (`IPROTO_REPLICASET_UUID`)
abbrev pub replica_set_key : ℕ
replica_set_key = 0x25

-- a vclock (`IPROTO_VCLOCK`)
abbrev pub clock_key : ℕ
clock_key = 0x26

-- the operations of an UPSERT (`IPROTO_OPS`)
abbrev pub operations_key : ℕ
operations_key = 0x28

-- the isolation level of a transaction (`IPROTO_TXN_ISOLATION`)
abbrev pub isolation_key : ℕ
isolation_key = 0x59
