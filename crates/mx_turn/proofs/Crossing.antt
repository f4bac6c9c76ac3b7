-- A turn may be shared by threads, and a seat may go to another, where the value may.
use mathlib.Core.List.{List, [], ◌∷◌}
use denote.RattleType.{RattleType}
use Prim.Native.Nat.{ℕ}
use denote.Param.{param}
use denote.Struct.Tuple.{TupleAt}
use denote.Struct.Declared.{shape}
use denote.Struct.Struct.{Struct}
use Rattle.std.specs.contracts.alloc.Global as Heap
use Rattle.std.specs.contracts.impls.GlobalAllocator.TheImpl.{ghosts}
use denote.Param.Send.{IsSend, IsSync, sendable, recorded_send, recorded_sync, struct_sync, struct_send}
use Rattle.std.specs.contracts.option.Option as Option
use Rattle.std.specs.contracts.snapshot.Snapshot as Snapshot
use Rattle.atomic_table.specs.declared.shared.TableRule.{Ghosts}
use Rattle.atomic_table.specs.contracts.shared.Shared as Shared
use Rattle.atomic_table.specs.contracts.shared.Seat as Seat
use Rattle.atomic_table.specs.contracts.owned.Table as Table
use Rattle.atomic_table.proofs.shared.Shared.TheSendSync as shared
use Rattle.atomic_table.proofs.shared.Seat.TheSendSync as seat
use Rattle.atomic_table.proofs.send_lease.SendLease.TheSendSync as lease
use Rattle.std.proofs.Crossing as crossing
use Rattle.std.proofs.sync.atomic.AtomicU64.TheSendSync as atomic
use Rattle.mx_turn.specs.declared.logged.Logged.{Ghosts as Meanings}
use Rattle.mx_turn.specs.contracts.rule.SlotValue as SlotValue
use Rattle.mx_turn.specs.contracts.rule.Beginning as Beginning
use Rattle.mx_turn.specs.contracts.rule.OneHistory as OneHistory
use Rattle.mx_turn.specs.contracts.rule.OneHistoryTableRuleOptionSlotValueNoteViewBaseEntryBeginning.TheImpl as rule
use Rattle.mx_turn.specs.contracts.view.View as View
use Rattle.mx_turn.specs.contracts.board.Turn as Turn
use Rattle.mx_turn.specs.contracts.counter.Counter as Counter
use Rattle.mx_turn.specs.contracts.counter.Added as Added
use Rattle.mx_turn.specs.contracts.counter.Share as Share
use Rattle.mx_turn.specs.contracts.counter.CounterLogged.TheImpl as CounterLogged
use denote.Struct.Field.{shr_ref_field, u64-field}
use denote.Ref.{NamedLft}

pub counter_send : IsSend Counter.the_row
counter_send = search sendable depth 20

snapshot_send : (T : RattleType) → IsSend (Snapshot.the_row T)
snapshot_send T = record { owned = λ d vs. ((λ vss. (tt, ((λ uss. (tt, tt)), tt))), tt); leaving = λ k f vs. tt }

pub slot_send : (T N : RattleType) → IsSend T → IsSend (Option.the_row (SlotValue.the_row T N))
slot_send T N s = search (sendable, snapshot_send) depth 30

pub seat_send : (T N V : RattleType) → IsSend T → IsSend (Seat.the_row (Option.the_row (SlotValue.the_row T N)) V)
seat_send T N V s = seat.the_send _ _ (slot_send T N s)

pub shared_sync : (T N V K P : RattleType) (g : Ghosts P.Denot (Option.the_row (SlotValue.the_row T N)).Denot V.Denot K.Denot) → IsSend T → IsSync (Shared.the_row (Option.the_row (SlotValue.the_row T N)) V K P g)
shared_sync T N V K P g s = shared.the_sync (Option.the_row (SlotValue.the_row T N)) V K P g (slot_send T N s)

table_sync : (S V K P : RattleType) (g : Ghosts P.Denot S.Denot V.Denot K.Denot) → IsSend S → IsSync (Struct (shape (Table.the_type S V K P Heap.the_row g ghosts)))
table_sync S V K P g s = struct_sync (shape (Table.the_type S V K P Heap.the_row g ghosts)) (shared.the_sync S V K P g s, (search sendable, (search sendable, (lease.the_sync _ Heap.the_row ghosts crossing.send crossing.frees, (lease.the_sync S Heap.the_row ghosts crossing.send crossing.frees, (crossing.sync, tt))))))

pub turn_sync : (T B E N : RattleType) (g : Meanings T.Denot B.Denot E.Denot N.Denot) → IsSend T → IsSync (Turn.the_row T B E N g)
turn_sync T B E N g s = recorded_sync _ _ _ (Turn.the_type T B E N g).to_one (struct_sync (shape (Turn.the_type T B E N g)) (table_sync (Option.the_row (SlotValue.the_row T N)) (View.the_row B E) (Beginning.the_row T) (OneHistory.the_row T) (rule.ghosts T B E N g rule.no_dict rule.no_dict) (slot_send T N s), (atomic.the_sync, tt)))

table_send : (S V K P : RattleType) (g : Ghosts P.Denot S.Denot V.Denot K.Denot) → IsSend S → IsSend (Struct (shape (Table.the_type S V K P Heap.the_row g ghosts)))
table_send S V K P g s = struct_send (shape (Table.the_type S V K P Heap.the_row g ghosts)) (shared.the_send S V K P g s, (search sendable, (search sendable, (lease.the_send _ Heap.the_row ghosts crossing.send crossing.frees, (lease.the_send S Heap.the_row ghosts crossing.send crossing.frees, (crossing.send, tt))))))

pub turn_send : (T B E N : RattleType) (g : Meanings T.Denot B.Denot E.Denot N.Denot) → IsSend T → IsSend (Turn.the_row T B E N g)
turn_send T B E N g s = recorded_send _ _ _ (Turn.the_type T B E N g).to_one (struct_send (shape (Turn.the_type T B E N g)) (table_send (Option.the_row (SlotValue.the_row T N)) (View.the_row B E) (Beginning.the_row T) (OneHistory.the_row T) (rule.ghosts T B E N g rule.no_dict rule.no_dict) (slot_send T N s), (atomic.the_send, tt)))

pub counter_turn_sync : IsSync (Turn.the_row Counter.the_row u64-field.row Added.the_row Added.the_row CounterLogged.ghosts)
counter_turn_sync = turn_sync Counter.the_row u64-field.row Added.the_row Added.the_row CounterLogged.ghosts counter_send

pub counter_seat_send : IsSend (Seat.the_row (Option.the_row (SlotValue.the_row Counter.the_row Added.the_row)) (View.the_row u64-field.row Added.the_row))
counter_seat_send = seat_send Counter.the_row Added.the_row (View.the_row u64-field.row Added.the_row) counter_send

pub share_send : IsSend Share.the_row
share_send = search sendable depth 20

-- what a thread that adds a share takes along
pub captures_send : (a b : NamedLft) (R : RattleType) (name : List ℕ) → IsSync R → IsSend (TupleAt name ((shr_ref_field a (param 0 R) tt).row ∷ (shr_ref_field b (Turn.the_row Counter.the_row u64-field.row Added.the_row Added.the_row CounterLogged.ghosts) tt).row ∷ Seat.the_row (Option.the_row (SlotValue.the_row Counter.the_row Added.the_row)) (View.the_row u64-field.row Added.the_row) ∷ Share.the_row ∷ []))
captures_send a b R name s = search (sendable, counter_turn_sync, counter_seat_send, share_send) depth 30
