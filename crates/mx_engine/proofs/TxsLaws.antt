-- The last of some transactions.
use Rattle.std.proofs.Common.{◌≡◌, ℕ, ◌-◌, ◌+◌, List, [], ◌∷◌, ◌++◌, length, ap, ◌∙◌, arith}
use Rattle.std.specs.Prelude.{slice_set}
use Rattle.std.proofs.lemmas.List.{length-append}
use Rattle.std.proofs.Math.ListN.{get_or}
use Rattle.std.proofs.Math.Seq.{get_or-append_seam, set-append_seam}
use Rattle.mx_row.specs.declared.row.Row.{Row}
use Rattle.mx_row.specs.declared.tx.Tx.{Tx}

module _ (items prefix : List Tx) (last : Tx) (is : items ≡ prefix ++ last ∷ []) (count : ℕ) (counts : count ≡ length items) where
  at_last : count - 1 ≡ length prefix
  at_last = let all : count ≡ length prefix + 1 = counts ∙ ap length is ∙ length-append prefix (last ∷ []) in omega (arith, all)

  last_item : (other : Tx) → get_or items (count - 1) other ≡ last
  last_item other = (λ i. get_or (is i) (at_last i) other) ∙ get_or-append_seam prefix last [] other

  -- it is given other rows
  pub last_given : (held : Tx) (rows : List Row) → held ≡ get_or items (count - 1) held → slice_set items (count - 1) (record held { rows = rows }) ≡ prefix ++ record last { rows = rows } ∷ []
  last_given held rows item =
      (λ i. slice_set (is i) (at_last i) (record ((item ∙ last_item held) i) { rows = rows })) ∙ set-append_seam prefix last [] (record last { rows = rows })
