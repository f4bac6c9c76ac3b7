-- What a clause sees of rows and transactions in place.
use Rattle.std.specs.Prelude.{List, map}
use Rattle.mx_row.specs.declared.row.Row.{Row}
use Rattle.mx_row.specs.declared.tx.Tx.{Tx}
use Rattle.mx_row.specs.declared.row_ref.RowRef.{RowRef}
use Rattle.mx_row.specs.declared.tx_ref.TxRef.{TxRef}

abbrev pub row_value : RowRef → Row
row_value row = record { kind = row.kind; space = row.space; index_base = row.index_base; tuple = row.tuple.now; key = row.key.now; ops = row.ops.now }

abbrev pub row_values : List RowRef → List Row
row_values rows = map row_value rows

abbrev pub tx_view : TxRef → Tx
tx_view transaction = record { replica = transaction.replica; first = transaction.first; rows = row_values transaction.rows }
