-- An engine may go to another thread with all that it owns, and so may an instance, a pass, and what a connection takes along.
-- A struct or an enum that is a field of another has a row of its own there, so a lemma X_field stands beside X_send or in its place.
use denote.RattleType.{RattleType}
use denote.Struct.Declared.{shape}
use denote.Param.Send.{IsSend, IsSync, sendable, struct_send, recorded_send as by_fields}
use denote.Param.SendFields.{declared_send, declared_sync}
use Rattle.std.proofs.Crossing.{send, sync, Box-send, Vec-send, Deque-send}
use Rattle.std.proofs.MapsCrossing.{BTreeMap-send, HashMap-send}
use Rattle.std.specs.contracts.option.Option as Option
use Rattle.std.specs.contracts.hash.BuildHasherDefault as Hasher
use Rattle.std.specs.contracts.hash.FoldHasher as Fold
use Rattle.mx_bytes.specs.contracts.short_bytes.ShortBytes as ShortBytes
use Rattle.mx_bytes.specs.contracts.storage.Storage as Storage
use Rattle.mx_bytes.specs.contracts.bytes.Bytes as Bytes
use Rattle.mx_bytes.specs.contracts.tuples.Tuples as Tuples
use Rattle.mx_base.specs.contracts.name.Name as Name
use Rattle.mx_key.specs.contracts.part.Part as Part
use Rattle.mx_key.specs.contracts.key_def.KeyDef as KeyDef
use Rattle.mx_key.specs.contracts.edge.Edge as Edge
use Rattle.mx_tuple.specs.contracts.formats.FormatEntry as FormatEntry
use Rattle.mx_tuple.specs.contracts.formats.FormatEntries as FormatEntries
use Rattle.mx_tuple.specs.contracts.formats.Format as Format
use Rattle.mx_schema.specs.contracts.space_def.SpaceDef as SpaceDef
use Rattle.mx_schema.specs.contracts.index_def.IndexDef as IndexDef
use Rattle.mx_schema.specs.contracts.index_def.IndexDefs as IndexDefs
use Rattle.mx_schema.specs.contracts.schema.Schema as Schema
use Rattle.mx_space.specs.contracts.hash_tuples.HashTuples as HashTuples
use Rattle.mx_space.specs.contracts.kept_tuples.KeptTuples as KeptTuples
use Rattle.mx_space.specs.contracts.tuple_map.TupleMap as TupleMap
use Rattle.mx_space.specs.contracts.tree_index.TreeIndex as TreeIndex
use Rattle.mx_space.specs.contracts.held_entry.HeldEntry as HeldEntry
use Rattle.mx_space.specs.contracts.hash_index.HashIndex as HashIndex
use Rattle.mx_space.specs.contracts.kept_entries.KeptEntries as KeptEntries
use Rattle.mx_space.specs.contracts.space_index.SpaceIndex as SpaceIndex
use Rattle.mx_space.specs.contracts.space.Space as Space
use Rattle.mx_space.specs.contracts.spaces.SpaceEntry as SpaceEntry
use Rattle.mx_space.specs.contracts.spaces.Spaces as Spaces
use Rattle.mx_space.specs.contracts.state.State as State
use Rattle.mx_space.specs.contracts.overlay.OverlaidSpace as OverlaidSpace
use Rattle.mx_space.specs.contracts.own_changes.Overlay as Overlay
use Rattle.mx_space.specs.contracts.kept_states.KeptStates as KeptStates
use Rattle.mx_tracker.specs.contracts.read.Read as Read
use Rattle.mx_tracker.specs.contracts.read.Reads as Reads
use Rattle.mx_tracker.specs.contracts.touched.Touched as Touched
use Rattle.mx_tracker.specs.contracts.touched.TouchedKeys as TouchedKeys
use Rattle.mx_tracker.specs.contracts.tracker.Tracker as Tracker
use Rattle.mx_txn.specs.contracts.state.TxnState as TxnState
use Rattle.mx_txn.specs.contracts.slots.Slots as Slots
use Rattle.mx_row.specs.contracts.row.Row as Row
use Rattle.mx_row.specs.contracts.rows.Rows as Rows
use Rattle.mx_row.specs.contracts.tx.Tx as Tx
use Rattle.mx_transactions.specs.contracts.names.Named as Named
use Rattle.mx_transactions.specs.contracts.names.OpenNames as OpenNames
use Rattle.mx_transactions.specs.contracts.work.ChangedKey as ChangedKey
use Rattle.mx_transactions.specs.contracts.work.Work as Work
use Rattle.mx_transactions.specs.contracts.open.OpenTransactions as OpenTransactions
use Rattle.mx_engine.specs.contracts.txs.Txs as Txs
use Rattle.mx_vclock.specs.contracts.vclock.Vclock as Vclock
use Rattle.mx_model.specs.contracts.ids.Ids as Ids
use Rattle.mx_engine.specs.contracts.engine.Engine as Engine
use Rattle.mx_instance.specs.contracts.recorded.Recorded as Recorded
use Rattle.mx_base.specs.contracts.refusal.Reach as Reach
use Rattle.mx_base.specs.contracts.refusal.Refusal as Refusal
use Rattle.mx_model.specs.contracts.reply.Reply as Reply
use Rattle.mx_instance.specs.contracts.outcome.Outcome as Outcome
use Rattle.mx_frame.specs.contracts.framer.Framer as Framer
use Rattle.mx_session.specs.contracts.outbox.Held as Held
use Rattle.mx_session.specs.contracts.outbox.Outbox as Outbox
use Rattle.mx_session.specs.contracts.session.Session as Session
use Rattle.mx_link.specs.contracts.buffers.Buffers as Buffers
use Rattle.mx_turn.specs.contracts.view.View as View
use Rattle.mx_turn.proofs.Crossing.{turn_sync, turn_send, seat_send}
use Rattle.mx_instance.specs.contracts.recorded.Step as Step
use Rattle.mx_instance.specs.contracts.recorded.Note as Note
use Rattle.mx_instance.specs.contracts.recorded.RecordedLogged.TheImpl.{ghosts}
use Rattle.mx_instance.specs.contracts.instance.Instance as Instance
use Rattle.mx_instance.specs.contracts.instance.Pass as Pass

ruleset owning = (sendable, Box-send, Vec-send, Deque-send, BTreeMap-send, HashMap-send)

hasher_send : IsSend (Hasher.the_row Fold.the_row)
hasher_send = search sendable depth 20

option_send : (T : RattleType) → IsSend T → IsSend (Option.the_row T)
option_send T s = search sendable depth 20

option_field : (T : RattleType) → IsSend T → IsSend (Option.the_field T).row
option_field T s = search sendable depth 20

short_bytes_send : IsSend ShortBytes.the_row
short_bytes_send = search owning depth 20

storage_field : IsSend (Storage.the_field).row
storage_field = search (owning, short_bytes_send) depth 20

pub bytes_send : IsSend Bytes.the_row
bytes_send = search (owning, storage_field) depth 20

pub tuples_send : IsSend Tuples.the_row
tuples_send = search owning depth 20

pub name_send : IsSend Name.the_row
name_send = search owning depth 20

part_send : IsSend Part.the_row
part_send = search owning depth 20

key_def_send : IsSend KeyDef.the_row
key_def_send = search (owning, part_send) depth 20

edge_field : IsSend (Edge.the_field).row
edge_field = search (owning, bytes_send) depth 20

format_entry_send : IsSend FormatEntry.the_row
format_entry_send = search (owning, bytes_send) depth 20

format_entries_send : IsSend FormatEntries.the_row
format_entries_send = search (owning, format_entry_send) depth 20

format_field : IsSend (Format.the_field).row
format_field = search (owning, format_entries_send) depth 20

space_def_field : IsSend (SpaceDef.the_field).row
space_def_field = search (owning, name_send, format_field) depth 20

index_def_send : IsSend IndexDef.the_row
index_def_send = search (owning, name_send, key_def_send) depth 20

index_defs_send : IsSend IndexDefs.the_row
index_defs_send = search (owning, index_def_send) depth 20

schema_field : IsSend (Schema.the_field).row
schema_field = search (owning, space_def_field, index_defs_send) depth 20

hash_tuples_send : IsSend HashTuples.the_row
hash_tuples_send = search (owning, bytes_send, hasher_send) depth 20

kept_tuples_field : IsSend (KeptTuples.the_field).row
kept_tuples_field = search (owning, bytes_send, hash_tuples_send) depth 20

tuple_map_send : IsSend TupleMap.the_row
tuple_map_send = search (owning, kept_tuples_field) depth 20

tree_index_send : IsSend TreeIndex.the_row
tree_index_send = search (owning, bytes_send) depth 20

held_entry_send : IsSend HeldEntry.the_row
held_entry_send = search (owning, bytes_send) depth 20

hash_index_send : IsSend HashIndex.the_row
hash_index_send = search (owning, held_entry_send, tree_index_send, hasher_send) depth 20

kept_entries_field : IsSend (KeptEntries.the_field).row
kept_entries_field = search (owning, tree_index_send, hash_index_send) depth 20

space_index_send : IsSend SpaceIndex.the_row
space_index_send = search (owning, kept_entries_field) depth 20

space_field : IsSend (Space.the_field).row
space_field = search (owning, schema_field, tuple_map_send, space_index_send) depth 20

space_entry_send : IsSend SpaceEntry.the_row
space_entry_send = search (owning, space_field) depth 20

spaces_field : IsSend (Spaces.the_field).row
spaces_field = search (owning, space_entry_send) depth 20

state_field : IsSend (State.the_field).row
state_field = search (owning, spaces_field) depth 20

state_send : IsSend State.the_row
state_send = search (owning, spaces_field) depth 20

overlaid_space_send : IsSend OverlaidSpace.the_row
overlaid_space_send = search (owning, space_field, bytes_send) depth 20

overlay_field : IsSend (Overlay.the_field).row
overlay_field = search (owning, overlaid_space_send) depth 20

kept_states_field : IsSend (KeptStates.the_field).row
kept_states_field = search (owning, state_send) depth 20

read_send : IsSend Read.the_row
read_send = search (owning, edge_field) depth 20

reads_send : IsSend Reads.the_row
reads_send = search (owning, read_send) depth 20

touched_send : IsSend Touched.the_row
touched_send = search (owning, bytes_send) depth 20

touched_keys_send : IsSend TouchedKeys.the_row
touched_keys_send = search (owning, touched_send) depth 20

tracker_send : IsSend Tracker.the_row
tracker_send = search (owning, reads_send) depth 20

txn_state_send : IsSend TxnState.the_row
txn_state_send = search owning depth 20

slots_send : IsSend Slots.the_row
slots_send = search (owning, option_send, option_field, txn_state_send) depth 20

row_send : IsSend Row.the_row
row_send = search (owning, bytes_send) depth 20

rows_send : IsSend Rows.the_row
rows_send = search (owning, row_send) depth 20

tx_send : IsSend Tx.the_row
tx_send = search (owning, rows_send) depth 20

named_send : IsSend Named.the_row
named_send = search owning depth 20

open_names_send : IsSend OpenNames.the_row
open_names_send = search (owning, named_send) depth 20

changed_key_send : IsSend ChangedKey.the_row
changed_key_send = search (owning, bytes_send) depth 20

work_send : IsSend Work.the_row
work_send = search (owning, overlay_field, rows_send, touched_keys_send, changed_key_send) depth 20

open_transactions_send : IsSend OpenTransactions.the_row
open_transactions_send = search (owning, open_names_send, slots_send, tracker_send, work_send, kept_states_field) depth 20

pub txs_send : IsSend Txs.the_row
txs_send = search (owning, tx_send) depth 20

vclock_send : IsSend Vclock.the_row
vclock_send = search owning depth 20

ids_field : IsSend (Ids.the_field).row
ids_field = search owning depth 20

pub engine_send : IsSend Engine.the_row
engine_send = search (owning, state_field, vclock_send, ids_field, open_transactions_send, txs_send) depth 20

pub recorded_send : IsSend Recorded.the_row
recorded_send = search (owning, engine_send) depth 20

abbrev Begun : RattleType
Begun = Option.the_row Recorded.the_row

pub instance_send : IsSend Instance.the_row
instance_send = declared_send Instance.the_type (search (sendable, send), (turn_send Recorded.the_row Begun Step.the_row Note.the_row ghosts recorded_send, tt))

pub instance_sync : IsSync Instance.the_row
instance_sync = declared_sync Instance.the_type (search (sendable, sync), (turn_sync Recorded.the_row Begun Step.the_row Note.the_row ghosts recorded_send, tt))

pub pass_field : IsSend (Pass.the_field).row
pass_field = struct_send (shape Pass.the_type) (seat_send Recorded.the_row Note.the_row (View.the_row Begun Step.the_row) recorded_send, tt)

pub pass_send : IsSend Pass.the_row
pass_send = by_fields _ _ _ Pass.the_type.to_one pass_field

reach_send : IsSend Reach.the_row
reach_send = search (owning, vclock_send) depth 20

refusal_field : IsSend (Refusal.the_field).row
refusal_field = search (owning, name_send, reach_send) depth 100 fits 20000

pub refusal_send : IsSend Refusal.the_row
refusal_send = by_fields _ _ _ Refusal.the_type.to_one refusal_field

reply_field : IsSend (Reply.the_field).row
reply_field = search (owning, tuples_send, refusal_field) depth 20

pub outcome_send : IsSend Outcome.the_row
outcome_send = search (owning, reply_field) depth 20

framer_send : IsSend Framer.the_row
framer_send = search owning depth 20

held_send : IsSend Held.the_row
held_send = search owning depth 20

outbox_send : IsSend Outbox.the_row
outbox_send = search (owning, held_send) depth 20

pub session_send : IsSend Session.the_row
session_send = search (owning, framer_send, outbox_send) depth 20

pub buffers_send : IsSend Buffers.the_row
buffers_send = search (owning, tuples_send, bytes_send) depth 20

pub buffers_field : IsSend (Buffers.the_field).row
buffers_field = search (owning, tuples_send, bytes_send) depth 20
