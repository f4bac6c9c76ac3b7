-- A part of bytes that others follow: what stands first in all of them stands in the part, or goes beyond it.
use Rattle.std.proofs.Common.{◌≡◌, ℕ, ◌≤◌, List, ◌++◌, length, take, drop, Some, refl, sym, ap, ◌∙◌, append_assoc}
use Rattle.std.proofs.lemmas.List.{take_at, drop_at, take-append-drop, take-append-le, drop-append-le}
use Rattle.mx_msgpack.specs.Maps.{map_at, pairs_in}
use Rattle.mx_msgpack.specs.Readers.{IsStable}
use Rattle.mx_msgpack.proofs.MapLaws.{map_alone}
use Rattle.mx_row.specs.Rows.{header_in, row_in, whole_row_at}
use Rattle.mx_row.proofs.EntryLaws.{map_found, map_is_spelled}
use Rattle.mx_row.proofs.ReadLaws.{whole_row_parts, whole_row_from}

module _ (bytes more front rest : List ℕ) (both : bytes ++ more ≡ front ++ rest) where
  pub ends_within : length front ≤ length bytes → (others : List ℕ) × (bytes ≡ front ++ others) × (rest ≡ others ++ more)
  ends_within few =
      let size = length front in
      let start : take size bytes ≡ front = sym (take-append-le size bytes more few) ∙ ap (take size) both ∙ take_at front rest size refl in (
        drop size bytes,
        sym (take-append-drop size bytes) ∙ ap (λ (l : List ℕ). l ++ drop size bytes) start,
        sym (drop_at front rest size refl) ∙ ap (drop size) (sym both) ∙ drop-append-le size bytes more few,
      )

  -- what is missing is the first part of what follows
  pub ends_beyond : length bytes ≤ length front → (missing : List ℕ) × (front ≡ bytes ++ missing) × (more ≡ missing ++ rest)
  ends_beyond many =
      let size = length bytes in
      let start : take size front ≡ bytes = sym (take-append-le size front rest many) ∙ ap (take size) (sym both) ∙ take_at bytes more size refl in (
        drop size front,
        sym (take-append-drop size front) ∙ ap (λ (l : List ℕ). l ++ drop size front) start,
        sym (drop_at bytes more size refl) ∙ ap (drop size) both ∙ drop-append-le size front rest many,
      )

-- ---- a map and a row stand whatever follows

pub map_stands : IsStable map_at
map_stands bytes more found e =
    let s = map_is_spelled bytes found e in
    ap map_at (ap (λ (l : List ℕ). l ++ more) s.0 ∙ append_assoc found.0 found.1 more) ∙ (map_found s.1 found.0 (found.1 ++ more) s.2).0

-- and so do its pairs
pub pairs_stand : (bytes more : List ℕ) (found : List ℕ × List ℕ) → map_at bytes ≡ Some found → pairs_in (bytes ++ more) ≡ pairs_in bytes
pairs_stand bytes more found e =
    sym (map_alone (bytes ++ more) found.0 (found.1 ++ more) (map_stands bytes more found e)) ∙ map_alone bytes found.0 found.1 e

pub row_stands : IsStable whole_row_at
row_stands bytes more found e =
    let p = whole_row_parts bytes found e in
    whole_row_from (bytes ++ more) (found.0, found.1 ++ more) (record {
      header_map = (p.header_map.0, p.header_map.1 ++ more);
      body_map = (p.body_map.0, p.body_map.1 ++ more);
      header_first = map_stands bytes more p.header_map p.header_first;
      header_is = ap header_in (pairs_stand bytes more p.header_map p.header_first) ∙ p.header_is;
      body_first = map_stands p.header_map.1 more p.body_map p.body_first;
      row_is = ap (row_in found.0.0.kind) (pairs_stand p.header_map.1 more p.body_map p.body_first) ∙ p.row_is;
      rest = ap (λ (l : List ℕ). l ++ more) p.rest;
    })
