-- The size of rows, and of one more.
use Rattle.std.proofs.Common.{◌≡◌, ℕ, ◌+◌, List, [], ◌∷◌, ◌++◌, map, refl, ap, ◌∙◌}
use Rattle.std.specs.List.{sum}
use Rattle.std.proofs.lemmas.List.Sums.{fold-append}
use Rattle.mx_row.specs.declared.row.Row.{Row}
use Rattle.mx_row.specs.Limits.{row_size, rows_size}

sum_more : (sizes : List ℕ) (size : ℕ) → sum (sizes ++ size ∷ []) ≡ sum sizes + size
sum_more sizes size = fold-append (λ a x. a + x) 0 sizes (size ∷ [])

map_more : (rows : List Row) (row : Row) → map row_size (rows ++ row ∷ []) ≡ map row_size rows ++ row_size row ∷ []
map_more [] row = refl
map_more (first ∷ rows) row = ap (λ l. row_size first ∷ l) (map_more rows row)

pub size_more : (rows : List Row) (row : Row) → rows_size (rows ++ row ∷ []) ≡ rows_size rows + row_size row
size_more rows row = ap sum (map_more rows row) ∙ sum_more (map row_size rows) (row_size row)
