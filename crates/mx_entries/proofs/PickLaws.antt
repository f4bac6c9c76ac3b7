-- What a SELECT picks of an index is what a range of its kept entries has.
use Rattle.std.proofs.Common.{◌≡◌, ◌≢◌, ℕ, zero, suc, ◌<◌, Bool, true, false, cond, not, ◌&&◌, List, [], ◌∷◌, map, take, drop, length, filter, Option, Some, ◌==◌, if◌then◌else◌, refl, sym, ap, ◌∙◌, subst, arith, ◌⊎◌, inl, inr, Ok, Err, Result}
use Rattle.std.specs.declared.cmp.Ordering.{Ordering}
use Rattle.std.specs.declared.cmp.Ordering.TheVariants.{Less, Equal, Greater}
use Rattle.std.specs.Ordering.{nat_cmp, is_lt, is_gt, is_le, ordering_reverse}
use Rattle.std.specs.Cmp.Lexicographic.{slice_cmp}
use Rattle.std.specs.List.{take-map, drop-map, AllByRecursion}
use Rattle.std.specs.BTreeMap.Range.{is_from_start, is_past_end, range_contains, entries_between}
use Rattle.std.proofs.lemmas.Bool.Decides.{nat_tests}
use Rattle.std.proofs.lemmas.List.{length-map}
use Rattle.std.proofs.lemmas.Cmp.{nat_list_cmp_total}
use Rattle.std.specs.Prelude.{IfSome, None, nat_lt}
use Rattle.std.specs.Option.{ok_or}
use Rattle.std.proofs.lemmas.Bool.{ltb-true}
use Rattle.mx_key.specs.declared.edge.Edge.{Edge}
use Rattle.mx_key.specs.declared.edge.KeyRange.{KeyRange}
use Rattle.mx_key.specs.declared.iterator.IterKind.{IterKind}
use Rattle.mx_key.specs.declared.iterator.IterKind.TheVariants.{Eq, Req, All, Lt, Le, Ge, Gt}
use Rattle.mx_key.specs.Keys.{Key, AreFit, KeyPart}
use Rattle.mx_key.specs.Ranges.{Range, AreFitEnds, lies_in, range_of, descends, range_until}
use Rattle.mx_key.specs.Comparable.{comparable_of, edges_of, holds, bound_of, is_within_low, is_within_high}
use Rattle.mx_schema.specs.Stored.{StoredTuple, stored_tuple}
use Rattle.mx_schema.specs.Picks.{Indexed, directed, window, picked, last_key, up_to_last, range_read, pick, total_bytes, max_result_size}
use Rattle.mx_entries.specs.Windows.{AreFitEntries, last_key_or, last_key_of, found_in, IsStopped, as_fault, stop_fault_of}
use Rattle.mx_entries.proofs.WindowLaws.{map-directed}
use mathlib.Core.List.{reverse_aux}
use Rattle.mx_msgpack.specs.Items.{items_of}
use Rattle.mx_key.specs.declared.fault.Misfit.{Misfit}
use Rattle.mx_key.specs.declared.fault.Misfit.TheVariants.{TooLong, WrongPart}
use Rattle.mx_key.specs.Parts.{◌>>=◌, key_of_array, key_of_items, parts_of_items, part_in}
use Rattle.mx_entries.specs.declared.pick.SelectFault.{SelectFault}
use Rattle.mx_entries.specs.declared.pick.SelectStop.{SelectStop}
use Rattle.mx_key.specs.declared.part.Part.{Part}
use Rattle.mx_schema.specs.declared.index_def.IndexDef.{IndexDef}
use Rattle.mx_entries.specs.declared.pick.Pick.{Pick}
use Rattle.mx_entries.specs.Scans.{Selects, SelectsByKey, picked_of}
use Rattle.mx_key.proofs.RangeLaws.{range_holds}
use Rattle.mx_key.specs.declared.edge.Edge.TheVariants as edge
use Rattle.mx_entries.specs.declared.pick.SelectFault.TheVariants as faults
use Rattle.mx_entries.specs.declared.pick.SelectStop.TheVariants as stops

-- ---- what a SELECT picks of an index is what a range of its kept entries has

-- the bytes of a range hold those of exactly the keys that lie in it
abbrev pub HoldsItsKeys : Range → Type 0
HoldsItsKeys range = (sought : Key) → AreFit sought → holds (edges_of range) (comparable_of sought) ≡ lies_in range sought

none_less : ¬ (0 < 0)
none_less = omega arith

not_zero : (n : ℕ) → ¬ (0 ≡ suc n)
not_zero n same = omega arith

eqb-same : (a b : ℕ) → a ≡ b → (a == b) ≡ true
eqb-same a b same = grind (arith, nat_tests)

eqb-apart : (a b : ℕ) → a ≢ b → (a == b) ≡ false
eqb-apart a b apart = grind (arith, nat_tests)

-- ---- the entries between the bounds of a range

le_turns : (o : Ordering) → is_le o ≡ not (is_lt (ordering_reverse o))
le_turns Less = refl
le_turns Equal = refl
le_turns Greater = refl

lt_turns : (o : Ordering) → is_lt o ≡ is_gt (ordering_reverse o)
lt_turns Less = refl
lt_turns Equal = refl
lt_turns Greater = refl

not_le_turns : (o : Ordering) → not (is_le o) ≡ is_lt (ordering_reverse o)
not_le_turns Less = refl
not_le_turns Equal = refl
not_le_turns Greater = refl

between_from : (edge : Edge) (bytes : List ℕ) → is_from_start (slice_cmp nat_cmp) (bound_of edge) bytes ≡ is_within_low edge bytes
between_from (edge.Inclusive end) bytes =
    le_turns (slice_cmp nat_cmp end bytes) ∙ ap (λ o. not (is_lt o)) (sym (nat_list_cmp_total.antisymm bytes end))
between_from (edge.Exclusive end) bytes =
    lt_turns (slice_cmp nat_cmp end bytes) ∙ ap is_gt (sym (nat_list_cmp_total.antisymm bytes end))
between_from edge.Open bytes = refl

between_up_to : (edge : Edge) (bytes : List ℕ) → not (is_past_end (slice_cmp nat_cmp) (bound_of edge) bytes) ≡ is_within_high edge bytes
between_up_to (edge.Inclusive end) bytes =
    ap not (lt_turns (slice_cmp nat_cmp end bytes)) ∙ ap (λ o. not (is_gt o)) (sym (nat_list_cmp_total.antisymm bytes end))
between_up_to (edge.Exclusive end) bytes =
    not_le_turns (slice_cmp nat_cmp end bytes) ∙ ap is_lt (sym (nat_list_cmp_total.antisymm bytes end))
between_up_to edge.Open bytes = refl

between_is_held : (range : KeyRange) (bytes : List ℕ)
    → range_contains (slice_cmp nat_cmp) (bound_of range.low) (bound_of range.high) bytes ≡ holds range bytes
between_is_held range bytes = λ i. between_from range.low bytes i && between_up_to range.high bytes i

pub entries_held : {X : Type 0} (range : KeyRange) (entries : List (List ℕ × X))
    → entries_between (slice_cmp nat_cmp) (bound_of range.low) (bound_of range.high) entries ≡ filter (λ entry. holds range entry.0) entries
entries_held range entries = λ i. filter (λ entry. between_is_held range entry.0 i) entries

pub kept_in_range : (range : Range) → HoldsItsKeys range → (all : List Indexed) → AreFitEntries all
    → filter (λ entry. holds (edges_of range) entry.0) (map stored_tuple all) ≡ map stored_tuple (filter (λ entry. lies_in range entry.0) all)
kept_in_range range law [] fit = refl
kept_in_range range law (entry ∷ all) fit =
    ap (λ b. cond b (stored_tuple entry ∷ filter held (map stored_tuple all)) (filter held (map stored_tuple all))) (law entry.0 fit.0)
    ∙ by_test (lies_in range entry.0) (kept_in_range range law all fit.1)
  where
    held : StoredTuple → Bool
    held one = holds (edges_of range) one.0

    lying : Indexed → Bool
    lying one = lies_in range one.0

    by_test : (b : Bool) → filter held (map stored_tuple all) ≡ map stored_tuple (filter lying all)
        → cond b (stored_tuple entry ∷ filter held (map stored_tuple all)) (filter held (map stored_tuple all)) ≡ map stored_tuple (cond b (entry ∷ filter lying all) (filter lying all))
    by_test true others = ap (λ l. stored_tuple entry ∷ l) others
    by_test false others = others

tuples_of_kept : (all : List Indexed) → map (λ (entry : StoredTuple). entry.1) (map stored_tuple all) ≡ map (λ (entry : Indexed). entry.1) all
tuples_of_kept [] = refl
tuples_of_kept (entry ∷ all) = ap (λ l. entry.1 ∷ l) (tuples_of_kept all)

last_from_kept : (key : Key) (entries : List Indexed) → last_key_or (comparable_of key) (map stored_tuple entries) ≡ comparable_of (last_key key entries)
last_from_kept key [] = refl
last_from_kept key (entry ∷ others) = last_from_kept entry.0 others

last_of_kept : (entry : Indexed) (others : List Indexed) → last_key_of (map stored_tuple (entry ∷ others)) ≡ Some (comparable_of (last_key entry.0 others))
last_of_kept entry others = ap Some (last_from_kept entry.0 others)

-- What was found ends with this key, and the range is read up to it.
pub record ReadsTo (found : List StoredTuple) (down : Bool) (range : Range) (read : Option Range) : Type 0 where
  pub last : Key
  pub is : last_key_of found ≡ Some (comparable_of last)
  pub read_is : read ≡ Some (range_until down last range)

-- of entries that were picked, as many as the limit
full_reads : (iterator : IterKind) (key : Key) (found : List Indexed) (limit : ℕ) → 0 < limit → length found ≡ limit
    → ReadsTo (map stored_tuple found) (descends iterator) (range_of iterator key) (range_read iterator key limit found)
full_reads iterator key [] zero more full = absurd (none_less more)
full_reads iterator key (entry ∷ others) zero more full = absurd (none_less more)
full_reads iterator key [] (suc n) more full = absurd (not_zero n full)
full_reads iterator key (entry ∷ others) (suc n) more full =
    let to_last = range_until (descends iterator) (last_key entry.0 others) (range_of iterator key) in
    let all : (suc (length others) == suc n) ≡ true = eqb-same (suc (length others)) (suc n) full in
    record {
      last = last_key entry.0 others;
      is = last_of_kept entry others;
      read_is = ap (λ b. Some (if b then to_last else range_of iterator key)) all;
    }

-- of fewer entries than the limit
short_reads : (iterator : IterKind) (key : Key) (found : List Indexed) (limit : ℕ) → 0 < limit → (length found == limit) ≡ false
    → range_read iterator key limit found ≡ Some (range_of iterator key)
short_reads iterator key found zero more short = absurd (none_less more)
short_reads iterator key found (suc n) more short =
    ap (λ b. Some (if b then up_to_last (descends iterator) found (range_of iterator key) else range_of iterator key)) short

module _ (iterator : IterKind) (key : Key) (law : HoldsItsKeys (range_of iterator key)) (all : List Indexed) (fit : AreFitEntries all) (kept : List StoredTuple) (same : map stored_tuple all ≡ kept) (offset limit : ℕ) where
  -- what is found of what is kept
  abbrev pub found_by_key : List StoredTuple
  found_by_key = found_in kept (edges_of (range_of iterator key)) iterator offset limit

  -- it is what the iterator picks
  pub found_is_picked : found_by_key ≡ map stored_tuple (picked iterator key offset limit all)
  found_is_picked =
      let lying = filter (λ (entry : Indexed). lies_in (range_of iterator key) entry.0) all in
      ap (λ l. window offset limit (directed (descends iterator) (filter (λ entry. holds (edges_of (range_of iterator key)) entry.0) l))) (sym same)
      ∙ ap (λ l. window offset limit (directed (descends iterator) l)) (kept_in_range (range_of iterator key) law all fit)
      ∙ ap (window offset limit) (map-directed stored_tuple (descends iterator) lying)
      ∙ ap (take limit) (drop-map stored_tuple offset (directed (descends iterator) lying))
      ∙ take-map stored_tuple limit (drop offset (directed (descends iterator) lying))

  pub tuples_are_picked : map (λ entry. entry.1) found_by_key ≡ (pick all iterator key offset limit).tuples
  tuples_are_picked = ap (map (λ (entry : StoredTuple). entry.1)) found_is_picked ∙ tuples_of_kept (picked iterator key offset limit all)

  length_of_tuples : length (pick all iterator key offset limit).tuples ≡ length (picked iterator key offset limit all)
  length_of_tuples = length-map (picked iterator key offset limit all) (λ (entry : Indexed). entry.1)

  -- the range is read up to the last one where the limit was reached
  pub reads_to_last : 0 < limit → length (pick all iterator key offset limit).tuples ≡ limit
      → ReadsTo found_by_key (descends iterator) (range_of iterator key) (pick all iterator key offset limit).read
  reads_to_last more full =
      subst (λ found. ReadsTo found (descends iterator) (range_of iterator key) (pick all iterator key offset limit).read)
      (sym found_is_picked)
      (full_reads iterator key (picked iterator key offset limit all) limit more (sym length_of_tuples ∙ full))

  -- and else to its end
  pub reads_to_end : 0 < limit → length (pick all iterator key offset limit).tuples ≢ limit
      → (pick all iterator key offset limit).read ≡ Some (range_of iterator key)
  reads_to_end more short =
      short_reads iterator key (picked iterator key offset limit all) limit more (eqb-apart (length (picked iterator key offset limit all)) limit (λ full. short (length_of_tuples ∙ full)))

-- ---- the range of a key

-- a fit key makes fit ends
pub fit_ends : (iterator : IterKind) (key : Key) → AreFit key → AreFitEnds (range_of iterator key)
fit_ends iterator [] fit = (tt, tt)
fit_ends Eq (part ∷ parts) fit = (fit, fit)
fit_ends Req (part ∷ parts) fit = (fit, fit)
fit_ends All (part ∷ parts) fit = (fit, tt)
fit_ends Ge (part ∷ parts) fit = (fit, tt)
fit_ends Gt (part ∷ parts) fit = (fit, tt)
fit_ends Le (part ∷ parts) fit = (tt, fit)
fit_ends Lt (part ∷ parts) fit = (tt, fit)

-- ---- that the numbers in the ends of the range that a pick reads have 64 bits

module _ {X : Type 0} (P : X → Type 0) where
  each_filtered : (t : X → Bool) (all : List X) → AllByRecursion P all → AllByRecursion P (filter t all)
  each_filtered t [] each = tt
  each_filtered t (x ∷ all) (one, each) = by_test (t x) (each_filtered t all each)
    where
      by_test : (b : Bool) → AllByRecursion P (filter t all) → AllByRecursion P (if b then x ∷ filter t all else filter t all)
      by_test true others = (one, others)
      by_test false others = others

  each_dropped : (n : ℕ) (all : List X) → AllByRecursion P all → AllByRecursion P (drop n all)
  each_dropped zero all each = each
  each_dropped (suc n) [] each = tt
  each_dropped (suc n) (x ∷ all) (one, each) = each_dropped n all each

  each_taken : (n : ℕ) (all : List X) → AllByRecursion P all → AllByRecursion P (take n all)
  each_taken zero all each = tt
  each_taken (suc n) [] each = tt
  each_taken (suc n) (x ∷ all) (one, each) = (one, each_taken n all each)

last_fit : (key : Key) (all : List Indexed) → AreFit key → AreFitEntries all → AreFit (last_key key all)
last_fit key [] fit all = fit
last_fit key (entry ∷ others) fit (first, all) = last_fit entry.0 others first all

until_fit : (down : Bool) (last : Key) (range : Range) → AreFit last → AreFitEnds range → AreFitEnds (range_until down last range)
until_fit true last range fit ends = (fit, ends.1)
until_fit false last range fit ends = (ends.0, fit)

up_to_fit : (down : Bool) (found : List Indexed) (range : Range) → AreFitEntries found → AreFitEnds range → AreFitEnds (up_to_last down found range)
up_to_fit down [] range all ends = ends
up_to_fit down (entry ∷ others) range (first, all) ends = until_fit down (last_key entry.0 others) range (last_fit entry.0 others first all) ends

-- by entries that were picked
found_fit : (iterator : IterKind) (key : Key) (limit : ℕ) (found : List Indexed) → AreFit key → AreFitEntries found → IfSome (range_read iterator key limit found) AreFitEnds
found_fit iterator key zero found fit all = tt
found_fit iterator key (suc more) found fit all = by_test (length found == suc more)
  where
    by_test : (b : Bool) → AreFitEnds (if b then up_to_last (descends iterator) found (range_of iterator key) else range_of iterator key)
    by_test true = up_to_fit (descends iterator) found (range_of iterator key) all (fit_ends iterator key fit)
    by_test false = fit_ends iterator key fit

-- what is picked has the keys of the entries
picked_fit : (iterator : IterKind) (key : Key) (offset limit : ℕ) (all : List Indexed) → AreFitEntries all → AreFitEntries (picked iterator key offset limit all)
picked_fit iterator key offset limit all fit =
    each_taken _ limit _ (each_dropped _ offset _ (by_direction (descends iterator) (filter (λ entry. lies_in (range_of iterator key) entry.0) all) (each_filtered _ _ all fit)))
  where
    each_reversed : (xs behind : List Indexed) → AreFitEntries xs → AreFitEntries behind → AreFitEntries (reverse_aux xs behind)
    each_reversed [] behind each others = others
    each_reversed (x ∷ xs) behind (one, each) others = each_reversed xs (x ∷ behind) each (one, others)

    by_direction : (down : Bool) (xs : List Indexed) → AreFitEntries xs → AreFitEntries (directed down xs)
    by_direction true xs each = each_reversed xs [] each tt
    by_direction false xs each = each

-- by entries whose keys are fit
pub read_fit : (iterator : IterKind) (key : Key) (offset limit : ℕ) (all : List Indexed) → AreFit key → AreFitEntries all
    → IfSome (range_read iterator key limit (picked iterator key offset limit all)) AreFitEnds
read_fit iterator key offset limit all fit entries = found_fit iterator key limit (picked iterator key offset limit all) fit (picked_fit iterator key offset limit all entries)

-- ---- why a scan gives nothing

-- why a scan by a key that fits returns nothing, as the call returns it
pub stop_told : (def : List Part) (stop : SelectStop) (fault : SelectFault) (key : List ℕ) (pick_of : Key → List (List ℕ)) (fitting : Key)
    → key_of_array def key ≡ Ok fitting → AreFit fitting → fault ≡ stop_fault_of stop
    → ((stop ≡ stops.TooLong) × (max_result_size < total_bytes (pick_of fitting))) ⊎ (stop ≡ stops.NoMemory)
    → ((misfit : Misfit) × (fault ≡ faults.Misfit misfit) × (key_of_array def key ≡ Err misfit))
    ⊎ ((fault ≡ faults.TooLong) × (found : Key) × (key_of_array def key ≡ Ok found) × AreFit found × (max_result_size < total_bytes (pick_of found)))
    ⊎ (fault ≡ faults.NoMemory)
stop_told def stop fault key pick_of fitting fits fit told (inl (long, beyond)) = inr (inl (told ∙ ap stop_fault_of long, fitting, fits, fit, beyond))
stop_told def stop fault key pick_of fitting fits fit told (inr none) = inr (inr (told ∙ ap stop_fault_of none))

-- what a scan by a key that fits gives, as the call returns it
pub selects_told : (all : List Indexed) (def : IndexDef) (wanted : Pick) (tuples : List (List ℕ)) (key : Key) → key_of_array def.key wanted.key.now ≡ Ok key → AreFit key
    → (read : Result (Option KeyRange) SelectStop) (told : Result (Option KeyRange) SelectFault) → told ≡ as_fault read → Selects all wanted key tuples read
    → SelectsByKey all def wanted tuples told
selects_told all def wanted tuples key fits fit (Ok read) told is (picked, short, edges, ends) =
    subst (SelectsByKey all def wanted tuples) (sym is) (key, fits, fit, picked, short, edges, ends)
selects_told all def wanted tuples key fits fit (Err why) told is stopped =
    subst (SelectsByKey all def wanted tuples) (sym is) (stop_told def.key why (stop_fault_of why) wanted.key.now (λ found. (picked_of all wanted found).tuples) key fits fit refl stopped)

-- why what is found isn't collected, as the scan tells it
pub stopped_told : (all : List Indexed) (wanted : Pick) (key : Key) → AreFitEntries all → AreFit key → (range : KeyRange) → range ≡ edges_of (range_of wanted.iterator key)
    → (found : List StoredTuple) → found ≡ found_in (map stored_tuple all) range wanted.iterator wanted.offset wanted.limit → (stop : SelectStop) → IsStopped stop found
    → ((stop ≡ stops.TooLong) × (max_result_size < total_bytes (picked_of all wanted key).tuples)) ⊎ (stop ≡ stops.NoMemory)
stopped_told all wanted key fits fit range edges found is stop stopped =
    let law : HoldsItsKeys (range_of wanted.iterator key) = λ sought f. range_holds (range_of wanted.iterator key) sought (fit_ends wanted.iterator key fit) f in
    let same : map (λ (entry : StoredTuple). entry.1) found ≡ (picked_of all wanted key).tuples =
    ap (map (λ (entry : StoredTuple). entry.1)) (is ∙ ap (λ r. found_in (map stored_tuple all) r wanted.iterator wanted.offset wanted.limit) edges)
    ∙ tuples_are_picked wanted.iterator key law all fits (map stored_tuple all) refl wanted.offset wanted.limit in
    subst (λ l. ((stop ≡ stops.TooLong) × (max_result_size < total_bytes l)) ⊎ (stop ≡ stops.NoMemory)) same stopped

-- ---- a key that is too long

never_too_long : (place : ℕ) (def : List Part) (items : List (List ℕ)) (given : ℕ) → parts_of_items place def items ≡ Err (TooLong given) → ⊥
never_too_long place def [] given e = absurd cc
never_too_long place [] (item ∷ items) given e = absurd cc
never_too_long place (part ∷ parts) (item ∷ items) given e = by_part (part_in part.kind item) (parts_of_items (suc place) parts items) (never_too_long (suc place) parts items given) e
  where
    by_part : (first : Option KeyPart) (others : Result Key Misfit) → (others ≡ Err (TooLong given) → ⊥)
        → (ok_or first (WrongPart place part.kind) >>= λ f. (others >>= λ o. Ok (f ∷ o))) ≡ Err (TooLong given) → ⊥
    by_part None others never e = absurd cc
    by_part (Some f) (Ok o) never e = absurd cc
    by_part (Some f) (Err why) never e = never e

-- has more parts than the index
pub has_more_parts : (def : List Part) (bytes : List ℕ) (given : ℕ) → key_of_array def bytes ≡ Err (TooLong given) → length def < given
has_more_parts def bytes given e = by_items (items_of bytes) e
  where
    by_items : (items : Option (List (List ℕ))) → key_of_items def items ≡ Err (TooLong given) → length def < given
    by_items None e = absurd cc
    by_items (Some items) e = by_test (nat_lt (length def) (length items)) refl e
      where
        by_test : (more : Bool) → nat_lt (length def) (length items) ≡ more
            → (if more then Err (TooLong (length items)) else parts_of_items 0 def items) ≡ Err (TooLong given) → length def < given
        by_test true test e =
            let many : length items ≡ given = cc in
            let less = ltb-true (length def) (length items) test in
            omega arith
        by_test false test e = absurd (never_too_long 0 def items given e)
