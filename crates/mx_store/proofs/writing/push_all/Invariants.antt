use Rattle.std.proofs.Common.{◌≡◌, ◌++◌, List, take, drop}
use Rattle.mx_outside.specs.Disks.{Disk}
use Rattle.mx_row.specs.declared.tx.Tx.{Tx}
use Rattle.mx_journal.specs.Written.{IsWritten, Waits}
use Rattle.mx_store.specs.Stores.{AllComeNext}
use Rattle.mx_store.proofs.writing.push_all.Given as goal

-- those so far wait after the ones that waited before
abbrev pub invariant-loop-tx : goal.invariant-loop-tx
invariant-loop-tx l = record {
  rest : AllComeNext l.journal.next (drop l.tx-index l.txs);
  waits : (waits : List Tx) → Waits l.fn.journal waits → Waits l.journal (waits ++ take l.tx-index l.txs);
  written : (disk : Disk) (done : List Tx) → IsWritten l.fn.journal disk done → IsWritten l.journal disk done;
  head : l.journal.head ≡ l.fn.journal.head;
  clock : l.journal.clock ≡ l.fn.journal.clock;
}
