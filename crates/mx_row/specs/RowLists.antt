-- The rows that a list of rows in place has, which only its type needs.
use Rattle.std.specs.Prelude.{List, [], ◌∷◌}
use Rattle.mx_row.specs.declared.row_ref.RowRef.{RowRef}
use Rattle.mx_row.specs.declared.row_list.RowList.{RowList}
use Rattle.mx_row.specs.declared.row_list.RowList.TheVariants.{One, Several}

abbrev pub rows_listed : RowList → List RowRef
rows_listed (One row) = row ∷ []
rows_listed (Several rows) = rows.items
