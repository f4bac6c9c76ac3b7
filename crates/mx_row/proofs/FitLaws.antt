-- Whether bytes in which no whole row stands first can become one that may follow the rows: by the part that they end in.
use Rattle.std.proofs.Common.{◌≡◌, ◌⊎◌, ℕ, Bool, true, false, List, ◌++◌, length, Option, Some, None, refl, sym, ap, ◌∙◌, subst, inl, inr, arith}
use Rattle.std.specs.Prelude.{is_some, nat_le}
use Rattle.std.proofs.lemmas.Bool.{eqb-true, leb-true, leb-false}
use Rattle.std.proofs.lemmas.List.{length-append}
use Rattle.mx_msgpack.specs.declared.bad.Bad.{Bad}
use Rattle.mx_msgpack.specs.declared.bad.Bad.TheVariants.{Short}
use Rattle.mx_msgpack.specs.Faults.{IsFault}
use Rattle.mx_msgpack.specs.Grammar as grammar
use Rattle.mx_msgpack.specs.Grammar.{Spells, max_nesting}
use Rattle.mx_msgpack.specs.Maps.{map_at, pairs_in}
use Rattle.mx_msgpack.specs.Reading.{first_fault}
use Rattle.mx_msgpack.proofs.FaultLaws.{fault_is, never_both}
use Rattle.mx_msgpack.proofs.Options.{bind_some, same_some}
use Rattle.mx_msgpack.proofs.ShortLaws.{prefix_short}
use Rattle.mx_row.specs.declared.header.Header.{Header}
use Rattle.mx_row.specs.declared.header.Place.{Place}
use Rattle.mx_row.specs.declared.header.Place.TheVariants.{Alone, Numbered}
use Rattle.mx_row.specs.declared.progress.Progress.{Progress}
use Rattle.mx_row.specs.declared.row.Row.{Row}
use Rattle.mx_row.specs.Bodies.{insert_type, replace_type, update_type, delete_type, upsert_type}
use Rattle.mx_row.specs.Cuts.{MayFollow, has_room_behind, may_follow}
use Rattle.mx_row.specs.Grammar.{pairs_of}
use Rattle.mx_row.specs.Rows.{header_at, header_in, row_at, row_in, row_number, whole_row_at}
use Rattle.mx_row.specs.Stops.{BodyFits, CanFit, Decides, HeaderFits, IsKind, IsNumbered, IsNumberedBy, KindFits}
use Rattle.mx_row.proofs.BehindLaws.{next_is}
use Rattle.mx_row.proofs.CompletionLaws.{decides_as, decides_false, header_found, header_kind, may_be_next, whole_found}
use Rattle.mx_row.proofs.EntryLaws.{map_found, map_is_spelled, map_spelled}
use Rattle.mx_row.proofs.PartLaws.{ends_beyond, ends_within, map_stands, pairs_stand}
use Rattle.mx_row.proofs.ReadLaws.{header_first_parts, row_first_parts, whole_row_is, whole_row_parts}

-- ---- whole values

no_fault : (bytes : List ℕ) (found : List ℕ × List ℕ) → map_at bytes ≡ Some found → (fault : Option Bad) → first_fault bytes ≡ fault → is_some fault ≡ false
no_fault bytes found e None is = refl
no_fault bytes found e (Some bad) is =
    let s = map_is_spelled bytes found e in
    absurd (never_both (grammar.Map (pairs_of s.1)) found.0 found.1 bad (map_spelled s.1 found.0 s.2)
    (subst (λ (l : List ℕ). IsFault max_nesting 0 l bad) s.0 ((fault_is bytes bad).0 is)))

-- a map that stands first is no fault
pub part_none : (bytes : List ℕ) → is_some (first_fault bytes) ≡ true → map_at bytes ≡ None
part_none bytes fault = by_map (map_at bytes) refl
  where
    by_map : (found : Option (List ℕ × List ℕ)) → map_at bytes ≡ found → found ≡ None
    by_map None e = refl
    by_map (Some found) e = let none = no_fault bytes found e (first_fault bytes) refl in absurd cc

-- where a value stands first, a map that stands there once others follow stands there already
pub whole_stands : (bytes more : List ℕ) (found : List ℕ × List ℕ) → is_some (first_fault bytes) ≡ false → map_at (bytes ++ more) ≡ Some found
    → (rest : List ℕ) × (map_at bytes ≡ Some (found.0, rest)) × (found.1 ≡ rest ++ more)
whole_stands bytes more found whole e = by_length (nat_le (length found.0) (length bytes)) refl
  where
    by_length : (within : Bool) → nat_le (length found.0) (length bytes) ≡ within → (rest : List ℕ) × (map_at bytes ≡ Some (found.0, rest)) × (found.1 ≡ rest ++ more)
    by_length true is =
        let s = map_is_spelled (bytes ++ more) found e in
        let w = ends_within bytes more found.0 found.1 s.0 (leb-true (length found.0) (length bytes) is) in
        (w.0, ap map_at w.1 ∙ (map_found s.1 found.0 w.0 s.2).0, w.2)
    by_length false is =
        let s = map_is_spelled (bytes ++ more) found e in
        let beyond = leb-false (length found.0) (length bytes) is in
        let b = ends_beyond bytes more found.0 found.1 s.0 (omega (arith, beyond)) in
        let long = ap length b.1 ∙ length-append bytes b.0 in
        let spelled = subst (λ (l : List ℕ). Spells max_nesting (grammar.Map (pairs_of s.1)) l) b.1 (map_spelled s.1 found.0 s.2) in
        let short = (fault_is bytes Short).1 (prefix_short (grammar.Map (pairs_of s.1)) bytes b.0 spelled (omega (arith, beyond, long))) in
        let fault : is_some (first_fault bytes) ≡ true = ap is_some short in
        absurd cc

-- ---- a row by its header

header_stands : (bytes more rest : List ℕ) (header : Header) → header_at bytes ≡ Some (header, rest) → header_at (bytes ++ more) ≡ Some (header, rest ++ more)
header_stands bytes more rest header e =
    let (map, whole, is, same) = header_first_parts bytes (header, rest) e in
    header_found (bytes ++ more) (rest ++ more) map.0 header (map_stands bytes more map whole ∙ ap (λ (l : List ℕ). Some (map.0, l ++ more)) same)
    (ap header_in (pairs_stand bytes more map whole) ∙ is)

row_behind : (all rest : List ℕ) (header : Header) (found : (Header × Row) × List ℕ) → header_at all ≡ Some (header, rest) → whole_row_at all ≡ Some found
    → (found.0.0 ≡ header) × (row_at header.kind rest ≡ Some (found.0.1, found.1))
unfolding whole_row_at
row_behind all rest header found e whole =
    let h = bind_some (header_at all) _ found whole in
    let r = bind_some (row_at h.0.0.kind h.0.1) _ found h.2 in
    let same = same_some (header, rest) h.0 (sym e ∙ h.1) in
    let is = same_some ((h.0.0, r.0.0), r.0.1) found r.2 in (
      sym (ap (λ (x : Header × List ℕ). x.0) same ∙ ap (λ (f : (Header × Row) × List ℕ). f.0.0) is),
      ap (λ (x : Header × List ℕ). row_at x.0.kind x.1) same ∙ r.1 ∙ ap (λ (f : (Header × Row) × List ℕ). Some (f.0.1, f.1)) is,
    )

row_here : (kind : ℕ) (all map end : List ℕ) (row : Row) → map_at all ≡ Some (map, end) → row_in kind (pairs_in all) ≡ Some row → row_at kind all ≡ Some (row, end)
unfolding row_at
row_here kind all map end row whole is = rw (whole, is) refl

module _ (rows : Progress) (bytes rest : List ℕ) (header : Header) (is : header_at bytes ≡ Some (header, rest)) where
  -- the header is whole, and the body is to come
  pub behind_decided : (answer : Bool) → Decides (BodyFits rows header rest) answer → Decides (CanFit rows bytes) answer
  behind_decided answer =
      decides_as answer
      (λ (more, each, row, end, e, may).
      (more, each, (header, row, end, whole_found (bytes ++ more) (rest ++ more) end header row (header_stands bytes more rest header is) e, may)))
      (λ (more, each, (found, row, end, e, may)).
      let (same, read) = row_behind (bytes ++ more) (rest ++ more) header ((found, row), end) (header_stands bytes more rest header is) e in
      (more, each, row, end, read, subst (λ (h : Header). MayFollow rows h row) same may))

  -- a whole value stands where the body has to stand, and isn't one
  pub whole_behind : whole_row_at bytes ≡ None → is_some (first_fault rest) ≡ false → Decides (CanFit rows bytes) false
  whole_behind none whole = decides_false (λ (more, each, (found, row, end, e, may)).
      let (same, read) = row_behind (bytes ++ more) (rest ++ more) header ((found, row), end) (header_stands bytes more rest header is) e in
      let p = row_first_parts header.kind (rest ++ more) (row, end) read in
      let w = whole_stands rest more p.0 whole p.1 in
      let stands = whole_found bytes rest w.0 header row is (row_here header.kind rest p.0.0 w.0 row w.1 (ap (row_in header.kind) (sym (pairs_stand rest more (p.0.0, w.0) w.1)) ∙ p.2)) in
      absurd cc)

-- a whole value stands where the header has to stand, and isn't one
pub whole_header : (rows : Progress) (bytes : List ℕ) → header_at bytes ≡ None → is_some (first_fault bytes) ≡ false → Decides (CanFit rows bytes) false
whole_header rows bytes none whole = decides_false (λ (more, each, (header, row, end, e, may)).
    let p = whole_row_parts (bytes ++ more) ((header, row), end) e in
    let w = whole_stands bytes more p.header_map whole p.header_first in
    let stands = header_found bytes w.0 p.header_map.0 header w.1 (ap header_in (sym (pairs_stand bytes more (p.header_map.0, w.0) w.1)) ∙ p.header_is) in
    absurd cc)

-- ---- a row by its type and place

-- the places of the row of a number
places : (place : Place) (count : ℕ) → row_number place ≡ count → (place ≡ Numbered count true) ⊎ (place ≡ Numbered count false) ⊎ ((place ≡ Alone) × (count ≡ 0))
places Alone count e = inr (inr (refl, sym e))
places (Numbered number true) count e = inl (ap (λ (n : ℕ). Numbered n true) e)
places (Numbered number false) count e = inr (inl (ap (λ (n : ℕ). Numbered n false) e))

pub number_is : (count : ℕ) (last : Option Header) (header : Header) → IsNumberedBy count last → may_follow last header ≡ true → row_number header.place ≡ count
number_is count None header numbered on = eqb-true (row_number header.place) 0 on ∙ sym numbered
number_is count (Some last) header numbered on = (next_is last header on).2 ∙ sym numbered.0

module _ (rows : Progress) (room : has_room_behind rows ≡ true) (numbered : IsNumbered rows) (kind : ℕ) (bytes : List ℕ) where
  -- a row of a type is the last one, or another one with a number, or alone
  abbrev pub InPlaces : Type 0
  InPlaces = HeaderFits rows kind (Numbered rows.count true) bytes ⊎ HeaderFits rows kind (Numbered rows.count false) bytes
      ⊎ ((rows.count ≡ 0) × HeaderFits rows kind Alone bytes)

  pub places_fit : InPlaces → KindFits rows kind bytes
  places_fit (inl (more, each, header, row, end, e, may, k, p)) = (more, each, header, row, end, e, may, k)
  places_fit (inr (inl (more, each, header, row, end, e, may, k, p))) = (more, each, header, row, end, e, may, k)
  places_fit (inr (inr (first, (more, each, header, row, end, e, may, k, p)))) = (more, each, header, row, end, e, may, k)

  pub fits_places : KindFits rows kind bytes → InPlaces
  fits_places (more, each, header, row, end, e, may, k) = by_place (places header.place rows.count (number_is rows.count rows.last header numbered follows))
    where
      follows : may_follow rows.last header ≡ true
      follows = may_be_next rows room header row (whole_row_is (bytes ++ more) ((header, row), end) e).row_is may

      by_place : (header.place ≡ Numbered rows.count true) ⊎ (header.place ≡ Numbered rows.count false) ⊎ ((header.place ≡ Alone) × (rows.count ≡ 0)) → InPlaces
      by_place (inl p) = inl (more, each, header, row, end, e, may, k, p)
      by_place (inr (inl p)) = inr (inl (more, each, header, row, end, e, may, k, p))
      by_place (inr (inr (p, first))) = inr (inr (first, (more, each, header, row, end, e, may, k, p)))

module _ (rows : Progress) (bytes : List ℕ) where
  abbrev pub InKinds : Type 0
  InKinds = KindFits rows insert_type bytes ⊎ KindFits rows replace_type bytes ⊎ KindFits rows update_type bytes ⊎ KindFits rows delete_type bytes ⊎ KindFits rows upsert_type bytes

  kind_can : (kind : ℕ) → KindFits rows kind bytes → CanFit rows bytes
  kind_can kind (more, each, header, row, end, e, may, k) = (more, each, (header, row, end, e, may))

  pub kinds_fit : InKinds → CanFit rows bytes
  kinds_fit (inl fits) = kind_can insert_type fits
  kinds_fit (inr (inl fits)) = kind_can replace_type fits
  kinds_fit (inr (inr (inl fits))) = kind_can update_type fits
  kinds_fit (inr (inr (inr (inl fits)))) = kind_can delete_type fits
  kinds_fit (inr (inr (inr (inr fits)))) = kind_can upsert_type fits

  pub fits_kinds : CanFit rows bytes → InKinds
  fits_kinds (more, each, (header, row, end, e, may)) = by_kind (header_kind (bytes ++ more) ((header, row), end) e)
    where
      by_kind : IsKind header.kind → InKinds
      by_kind (inl k) = inl (more, each, header, row, end, e, may, k)
      by_kind (inr (inl k)) = inr (inl (more, each, header, row, end, e, may, k))
      by_kind (inr (inr (inl k))) = inr (inr (inl (more, each, header, row, end, e, may, k)))
      by_kind (inr (inr (inr (inl k)))) = inr (inr (inr (inl (more, each, header, row, end, e, may, k))))
      by_kind (inr (inr (inr (inr k)))) = inr (inr (inr (inr (more, each, header, row, end, e, may, k))))

module _ (rows : Progress) (room : has_room_behind rows ≡ true) (numbered : IsNumbered rows) (kind : ℕ) (bytes : List ℕ) where
  -- where no row with a number can fit, one alone may
  pub alone_decided : (answer : Bool) → ¬ HeaderFits rows kind (Numbered rows.count true) bytes → ¬ HeaderFits rows kind (Numbered rows.count false) bytes → rows.count ≡ 0
      → Decides (HeaderFits rows kind Alone bytes) answer → Decides (KindFits rows kind bytes) answer
  alone_decided answer no_last no_other first =
      decides_as answer (λ fits. places_fit rows room numbered kind bytes (inr (inr (first, fits)))) (λ fits. by_place (fits_places rows room numbered kind bytes fits))
    where
      by_place : InPlaces rows room numbered kind bytes → HeaderFits rows kind Alone bytes
      by_place (inl fits) = absurd (no_last fits)
      by_place (inr (inl fits)) = absurd (no_other fits)
      by_place (inr (inr (first, fits))) = fits

module _ (rows : Progress) (bytes : List ℕ) where
  -- where no row of another type can fit, one of the last type may
  pub upsert_can_decide : (answer : Bool) → ¬ KindFits rows insert_type bytes → ¬ KindFits rows replace_type bytes → ¬ KindFits rows update_type bytes
      → ¬ KindFits rows delete_type bytes → Decides (KindFits rows upsert_type bytes) answer → Decides (CanFit rows bytes) answer
  upsert_can_decide answer no_insert no_replace no_update no_delete =
      decides_as answer (λ fits. kinds_fit rows bytes (inr (inr (inr (inr fits))))) (λ fits. by_kind (fits_kinds rows bytes fits))
    where
      by_kind : InKinds rows bytes → KindFits rows upsert_type bytes
      by_kind (inl fits) = absurd (no_insert fits)
      by_kind (inr (inl fits)) = absurd (no_replace fits)
      by_kind (inr (inr (inl fits))) = absurd (no_update fits)
      by_kind (inr (inr (inr (inl fits)))) = absurd (no_delete fits)
      by_kind (inr (inr (inr (inr fits)))) = fits
