-- The changes that a commit of own writes makes are those of the writes.
use Rattle.std.proofs.Common.{◌≡◌, ◌≢◌, ℕ, Bool, true, false, cond, not, List, [], ◌∷◌, ◌++◌, map, Option, Some, None, refl, sym, ap, ◌∙◌, subst, true≢false, eqb-true, eq-eqb, nat_cmp}
use Rattle.std.specs.Prelude.{◌==◌, ◌||◌, if◌then◌else◌, is_some}
use Rattle.std.specs.declared.cmp.Ordering.TheVariants.{Less, Equal}
use Rattle.std.specs.BTreeMap.{is_at}
use Rattle.std.specs.BTreeSet.{contains}
use Rattle.std.specs.Cmp.Lexicographic.{slice_cmp}
use Rattle.std.specs.FinMap.{empty, get, get-empty, nat_cmp-IsAntisymmetric, slice_cmp-IsAntisymmetric}
use Rattle.std.specs.List.{AllByRecursion, AllZip, filter, flat_map, list_any}
use Rattle.std.specs.List.Sorted.{IsStrictlySortedBy}
use Rattle.std.specs.Map.{keys_of, lookup}
use Rattle.std.specs.Option.{option_map, option_or, unwrap_or}
use Rattle.std.specs.Ordering.{is_eq}
use Rattle.std.proofs.lemmas.Bool.{ne_eqb}
use Rattle.std.proofs.lemmas.Cmp.{nat_cmp_total, tied_itself}
use Rattle.std.proofs.lemmas.List.{append_assoc}
use Rattle.mx_key.specs.Keys.{Key, AreFit, key_cmp}
use Rattle.mx_key.specs.Comparable.{comparable_of}
use Rattle.mx_key.proofs.EncodingLaws.{bytes_order}
use Rattle.mx_schema.specs.declared.schema.Schema.{Schema}
use Rattle.mx_schema.specs.Stored.{StoredTuple}
use Rattle.mx_schema.proofs.TakenLaws.{stored_get}
use Rattle.mx_space.specs.declared.overlay.OverlaidSpace.{OverlaidSpace}
use Rattle.mx_space.specs.declared.tuple_changes.TupleChange.{TupleChange}
use Rattle.mx_entries.specs.OwnWrites.{OwnWrites, under}
use Rattle.mx_space.specs.Overlays.{StoresWritten, hides}
use Rattle.mx_entries.specs.OwnStates.{written_by}
use Rattle.mx_space.specs.OwnCommit.{changes_in, is_gone, put_change, puts_in, removal, removals_in}
use Rattle.mx_entries.specs.PlainChanges.{PlainChange}
use Rattle.mx_space.specs.Reserves.{SpellsChange}
use Rattle.mx_entries.proofs.UnderLaws.{eq_is, get-under}
use Rattle.mx_entries.proofs.OwnStateLaws.{turned}
use Rattle.mx_space.proofs.OwnHeldLaws.{at_number}
use Rattle.mx_entries.proofs.OwnOrderLaws.{get-written, written_at, writes_there}

-- ---- one change after the other

-- a key that was taken out and has no tuple
pub removal_added : (space : ℕ) (over : OverlaidSpace) (changes after whole : List TupleChange) (key copy : List ℕ) (left rest : List (List ℕ))
    → changes ++ map (removal space) (filter (is_gone over) left) ≡ whole → left ≡ key ∷ rest → is_gone over key ≡ true → copy ≡ key
    → after ≡ changes ++ removal space copy ∷ [] → after ++ map (removal space) (filter (is_gone over) rest) ≡ whole
removal_added space over changes after whole key copy left rest together next gone same added =
    ap (λ l. l ++ map (removal space) (filter (is_gone over) rest)) (added ∙ ap (λ k. changes ++ removal space k ∷ []) same)
    ∙ append_assoc changes (removal space key ∷ []) (map (removal space) (filter (is_gone over) rest))
    ∙ ap (λ b. changes ++ map (removal space) (cond b (key ∷ filter (is_gone over) rest) (filter (is_gone over) rest))) (sym gone)
    ∙ ap (λ l. changes ++ map (removal space) (filter (is_gone over) l)) (sym next)
    ∙ together

-- ---- lists

pub all_both : {X : Type 0} (P : X → Type 0) (xs ys : List X) → AllByRecursion P xs → AllByRecursion P ys → AllByRecursion P (xs ++ ys)
all_both P [] ys here there = there
all_both P (x ∷ xs) ys here there = (here.0, all_both P xs ys here.1 there)

pub all_weaker : {X : Type 0} (P Q : X → Type 0) → ((x : X) → P x → Q x) → (xs : List X) → AllByRecursion P xs → AllByRecursion Q xs
all_weaker P Q weaker [] have = tt
all_weaker P Q weaker (x ∷ xs) have = (weaker x have.0, all_weaker P Q weaker xs have.1)

pub all_mapped : {X Y : Type 0} (P : Y → Type 0) (f : X → Y) (xs : List X) → AllByRecursion (λ x. P (f x)) xs → AllByRecursion P (map f xs)
all_mapped P f [] have = tt
all_mapped P f (x ∷ xs) have = (have.0, all_mapped P f xs have.1)

pub all_filtered : {X : Type 0} (P : X → Type 0) (test : X → Bool) (xs : List X) → AllByRecursion P xs → AllByRecursion P (filter test xs)
all_filtered P test [] have = tt
all_filtered P test (x ∷ xs) have = by_test (test x) (all_filtered P test xs have.1)
  where
    by_test : (b : Bool) → AllByRecursion P (filter test xs) → AllByRecursion P (cond b (x ∷ filter test xs) (filter test xs))
    by_test true others = (have.0, others)
    by_test false others = others

pub all_pass : {X : Type 0} (test : X → Bool) (xs : List X) → AllByRecursion (λ x. test x ≡ true) (filter test xs)
all_pass test [] = tt
all_pass test (x ∷ xs) = by_test (test x) refl (all_pass test xs)
  where
    by_test : (b : Bool) → test x ≡ b → AllByRecursion (λ x. test x ≡ true) (filter test xs) → AllByRecursion (λ x. test x ≡ true) (cond b (x ∷ filter test xs) (filter test xs))
    by_test true e others = (e, others)
    by_test false e others = others

either_none : {X : Type 0} (one : Option X) → option_or one None ≡ one
either_none None = refl
either_none (Some x) = refl

-- ---- what changes as bytes do under a key

abbrev told_at : (space : ℕ) → (bytes : List ℕ) → TupleChange → Option (Option (List ℕ))
told_at space bytes change = if change.space.0 == space then cond (is_at (slice_cmp nat_cmp bytes) change.key) (Some change.tuple) None else None

abbrev pub told : (space : ℕ) → (bytes : List ℕ) → List TupleChange → Option (Option (List ℕ))
told space bytes [] = None
told space bytes (change ∷ others) = option_or (told_at space bytes change) (told space bytes others)

-- plain changes write what these spell
module _ (space : ℕ) (key : Key) where
  told_plainly : (coded : TupleChange) (plain : PlainChange) → SpellsChange coded plain → AreFit key → written_at space key plain ≡ told_at space (comparable_of key) coded
  told_plainly coded plain spells fit =
      (λ i. if sym spells.space i == space then cond (sym (ap is_eq (bytes_order key plain.key fit spells.fit)) i) (Some plain.tuple) None else None)
      ∙ (λ i. if coded.space.0 == space then cond (is_at (slice_cmp nat_cmp (comparable_of key)) (sym spells.key i)) (Some (sym spells.tuple i)) None else None)

  pub spelled_is : (coded : List TupleChange) (plain : List PlainChange) → AllZip SpellsChange coded plain → AreFit key → get (written_by space plain) key ≡ told space (comparable_of key) coded
  spelled_is [] [] spell fit = get-empty key_cmp key
  spelled_is [] (one ∷ plain) spell fit = absurd spell
  spelled_is (change ∷ coded) [] spell fit = absurd spell
  spelled_is (change ∷ coded) (one ∷ plain) spell fit =
      get-written space key one plain
      ∙ ap (λ o. option_or o (get (written_by space plain) key)) (told_plainly change one spell.0 fit)
      ∙ ap (option_or (told_at space (comparable_of key) change)) (spelled_is coded plain spell.1 fit)

  pub spelled_fit : (coded : List TupleChange) (plain : List PlainChange) → AllZip SpellsChange coded plain → is_some (get (written_by space plain) key) ≡ true → AreFit key
  spelled_fit [] [] spell some = absurd (true≢false (sym some ∙ ap is_some (get-empty key_cmp key)))
  spelled_fit [] (one ∷ plain) spell some = absurd spell
  spelled_fit (change ∷ coded) [] spell some = absurd spell
  spelled_fit (change ∷ coded) (one ∷ plain) spell some =
      by_written (written_at space key one) refl (sym (ap is_some (get-written space key one plain)) ∙ some) (spelled_fit coded plain spell.1)
    where
      by_written : (o : Option (Option (List ℕ))) → written_at space key one ≡ o → is_some (option_or o (get (written_by space plain) key)) ≡ true
          → (is_some (get (written_by space plain) key) ≡ true → AreFit key) → AreFit key
      by_written None is some later = later some
      by_written (Some tuple) is some later = subst AreFit (sym (writes_there space key one tuple is).1) spell.0.fit

-- ---- of one space

module _ (space : ℕ) (bytes : List ℕ) where
  told_both : (one other : List TupleChange) → told space bytes (one ++ other) ≡ option_or (told space bytes one) (told space bytes other)
  told_both [] other = refl
  told_both (change ∷ one) other = by_told (told_at space bytes change) (told_both one other)
    where
      by_told : (o : Option (Option (List ℕ))) → told space bytes (one ++ other) ≡ option_or (told space bytes one) (told space bytes other)
          → option_or o (told space bytes (one ++ other)) ≡ option_or (option_or o (told space bytes one)) (told space bytes other)
      by_told None later = later
      by_told (Some x) later = refl

  told_none : (changes : List TupleChange) → AllByRecursion (λ (change : TupleChange). (change.space.0 == space) ≡ false) changes → told space bytes changes ≡ None
  told_none [] others = refl
  told_none (change ∷ changes) others =
      ap (λ b. option_or (if b then cond (is_at (slice_cmp nat_cmp bytes) change.key) (Some change.tuple) None else None) (told space bytes changes)) others.0
      ∙ told_none changes others.1

  told_puts : (kept : List StoredTuple) → told space bytes (map (put_change space) kept) ≡ option_map (λ tuple. Some tuple) (lookup (is_at (slice_cmp nat_cmp bytes)) kept)
  told_puts [] = refl
  told_puts (entry ∷ kept) =
      ap (λ b. option_or (if b then cond (is_at (slice_cmp nat_cmp bytes) entry.0) (Some (Some entry.1)) None else None) (told space bytes (map (put_change space) kept))) (eq-eqb space space refl)
      ∙ by_test (is_at (slice_cmp nat_cmp bytes) entry.0) (told_puts kept)
    where
      by_test : (b : Bool) → told space bytes (map (put_change space) kept) ≡ option_map (λ tuple. Some tuple) (lookup (is_at (slice_cmp nat_cmp bytes)) kept)
          → option_or (cond b (Some (Some entry.1)) None) (told space bytes (map (put_change space) kept))
          ≡ option_map (λ tuple. Some tuple) (cond b (Some entry.1) (lookup (is_at (slice_cmp nat_cmp bytes)) kept))
      by_test true later = refl
      by_test false later = later

  told_removals : (over : OverlaidSpace) → is_gone over bytes ≡ true → (keys : List (List ℕ))
      → told space bytes (map (removal space) (filter (is_gone over) keys)) ≡ cond (list_any (is_at (slice_cmp nat_cmp bytes)) keys) (Some None) None
  told_removals over gone [] = refl
  told_removals over gone (key ∷ keys) = by_gone (is_gone over key) refl (told_removals over gone keys)
    where
      tells : Option (Option (List ℕ))
      tells = told space bytes (map (removal space) (filter (is_gone over) keys))

      by_test : (b : Bool) → tells ≡ cond (list_any (is_at (slice_cmp nat_cmp bytes)) keys) (Some None) None
          → option_or (cond b (Some None) None) tells ≡ cond (b || list_any (is_at (slice_cmp nat_cmp bytes)) keys) (Some None) None
      by_test true later = refl
      by_test false later = later

      apart : (b : Bool) → is_at (slice_cmp nat_cmp bytes) key ≡ b → is_gone over key ≡ false → b ≡ false
      apart true tied not_gone =
          let same : bytes ≡ key = slice_cmp-IsAntisymmetric nat_cmp-IsAntisymmetric bytes key (eq_is (slice_cmp nat_cmp bytes key) tied) in
          absurd (true≢false (sym gone ∙ ap (is_gone over) same ∙ not_gone))
      apart false tied not_gone = refl

      by_gone : (b : Bool) → is_gone over key ≡ b → tells ≡ cond (list_any (is_at (slice_cmp nat_cmp bytes)) keys) (Some None) None
          → told space bytes (map (removal space) (cond b (key ∷ filter (is_gone over) keys) (filter (is_gone over) keys)))
          ≡ cond (is_at (slice_cmp nat_cmp bytes) key || list_any (is_at (slice_cmp nat_cmp bytes)) keys) (Some None) None
      by_gone true e later =
          ap (λ b. option_or (if b then cond (is_at (slice_cmp nat_cmp bytes) key) (Some None) None else None) tells) (eq-eqb space space refl)
          ∙ by_test (is_at (slice_cmp nat_cmp bytes) key) later
      by_gone false e later =
          later ∙ ap (λ b. cond (b || list_any (is_at (slice_cmp nat_cmp bytes)) keys) (Some None) None) (sym (apart (is_at (slice_cmp nat_cmp bytes) key) refl e))

-- the changes of a space are its writes
pub written_told : (schema : Option Schema) (space : ℕ) (over : OverlaidSpace) (written : OwnWrites) (key : Key) → StoresWritten schema over written → AreFit key
    → told space (comparable_of key) (changes_in (space, over)) ≡ get written key
written_told schema space over written key stores fit =
    told_both space bytes (puts_in space over) (removals_in space over)
    ∙ ap (λ o. option_or o (told space bytes (removals_in space over))) (told_puts space bytes over.own.tuples.entries)
    ∙ by_parts own refl (get written key) refl held (stores.keys key fit)
  where
    bytes : List ℕ
    bytes = comparable_of key

    own : Option (List ℕ)
    own = lookup (is_at (slice_cmp nat_cmp bytes)) over.own.tuples.entries

    held : own ≡ unwrap_or (get written key) None
    held =
        stored_get over.own.tuples.entries (under written empty) key bytes stores.own.holds.keeps fit refl
        ∙ get-under written empty key ∙ ap (unwrap_or (get written key)) (get-empty key_cmp key)

    by_removed : (b : Bool) (w : Option (Option (List ℕ))) → None ≡ unwrap_or w None → b ≡ is_some w → ◌≡◌ {A = Option (Option (List ℕ))} (cond b (Some None) None) w
    by_removed true None is same = absurd (true≢false same)
    by_removed true (Some w) is same = ap (λ o. Some o) is
    by_removed false None is same = refl
    by_removed false (Some w) is same = absurd (true≢false (sym same))

    put_is : (tuple : List ℕ) (w : Option (Option (List ℕ))) → Some tuple ≡ unwrap_or w None → Some (Some tuple) ≡ w
    put_is tuple None is = absurd cc
    put_is tuple (Some w) is = ap (λ o. Some o) is

    by_parts : (o : Option (List ℕ)) → own ≡ o → (w : Option (Option (List ℕ))) → get written key ≡ w → own ≡ unwrap_or (get written key) None
        → hides over bytes ≡ is_some (get written key)
        → option_or (option_map (λ tuple. Some tuple) o) (told space bytes (removals_in space over)) ≡ get written key
    by_parts None none w is held hidden =
        told_removals space bytes over (ap (λ o. not (is_some o)) none) over.removed.keys
        ∙ by_removed (contains (slice_cmp nat_cmp) over.removed bytes) (get written key) (sym none ∙ held) (ap (λ o. is_some o || contains (slice_cmp nat_cmp) over.removed bytes) (sym none) ∙ hidden)
    by_parts (Some tuple) there w is held hidden = put_is tuple (get written key) (sym there ∙ held)

-- ---- of all spaces

abbrev pub OwnEntry : Type 0
OwnEntry = ℕ × OverlaidSpace

always : {X : Type 0} (P : X → Type 0) → ((x : X) → P x) → (xs : List X) → AllByRecursion P xs
always P holds [] = tt
always P holds (x ∷ xs) = (holds x, always P holds xs)

-- the changes of a space are of its number
pub of_space : (P : ℕ → Type 0) (space : ℕ) (over : OverlaidSpace) → P space → AllByRecursion (λ (change : TupleChange). P change.space.0) (changes_in (space, over))
of_space P space over holds =
    all_both (λ (change : TupleChange). P change.space.0) (puts_in space over) (removals_in space over)
    (all_mapped (λ (change : TupleChange). P change.space.0) (put_change space) over.own.tuples.entries (always (λ _. P space) (λ _. holds) over.own.tuples.entries))
    (all_mapped (λ (change : TupleChange). P change.space.0) (removal space) (filter (is_gone over) over.removed.keys) (always (λ _. P space) (λ _. holds) (filter (is_gone over) over.removed.keys)))

pub of_spaces : (P : ℕ → Type 0) (all : List OwnEntry) → AllByRecursion P (keys_of all) → AllByRecursion (λ (change : TupleChange). P change.space.0) (flat_map changes_in all)
of_spaces P [] holds = tt
of_spaces P (entry ∷ all) holds =
    all_both (λ (change : TupleChange). P change.space.0) (changes_in entry) (flat_map changes_in all) (of_space P entry.0 entry.1 holds.0) (of_spaces P all holds.1)

pub below_apart : (a b : ℕ) → nat_cmp a b ≡ Less → a ≢ b
below_apart a b below same = not_less (sym below ∙ ap (nat_cmp a) (sym same) ∙ tied_itself nat_cmp_total a)
  where
    not_less : Less ≡ Equal → ⊥
    not_less e = absurd cc

pub other_number : (a b : ℕ) → nat_cmp a b ≡ Less → (b == a) ≡ false
other_number a b below = ne_eqb b a (λ same. below_apart a b below (sym same))

-- what the space of a number tells
abbrev pub told_of : (space : ℕ) → (bytes : List ℕ) → Option OverlaidSpace → Option (Option (List ℕ))
told_of space bytes None = None
told_of space bytes (Some over) = told space bytes (changes_in (space, over))

pub told_whole : (space : ℕ) (bytes : List ℕ) (all : List OwnEntry) → IsStrictlySortedBy nat_cmp (keys_of all)
    → told space bytes (flat_map changes_in all) ≡ told_of space bytes (lookup (is_at (nat_cmp space)) all)
unfolding IsStrictlySortedBy
told_whole space bytes [] rises = refl
told_whole space bytes (entry ∷ all) rises =
    told_both space bytes (changes_in entry) (flat_map changes_in all)
    ∙ by_test (space == entry.0) refl (told_whole space bytes all rises.1)
    ∙ ap (λ b. told_of space bytes (cond b (Some entry.1) (lookup (is_at (nat_cmp space)) all))) (sym (at_number space entry.0))
  where
    by_test : (b : Bool) → (space == entry.0) ≡ b → told space bytes (flat_map changes_in all) ≡ told_of space bytes (lookup (is_at (nat_cmp space)) all)
        → option_or (told space bytes (changes_in entry)) (told space bytes (flat_map changes_in all)) ≡ told_of space bytes (cond b (Some entry.1) (lookup (is_at (nat_cmp space)) all))
    by_test true is later =
        let same : space ≡ entry.0 = eqb-true space entry.0 is in
        let nowhere : told space bytes (flat_map changes_in all) ≡ None =
        told_none space bytes (flat_map changes_in all)
        (of_spaces (λ n. (n == space) ≡ false) all (all_weaker (λ n. nat_cmp entry.0 n ≡ Less) (λ n. (n == space) ≡ false) (λ n below. subst (λ s. (n == s) ≡ false) (sym same) (other_number entry.0 n below)) (keys_of all) rises.0)) in
        ap (option_or (told space bytes (changes_in entry))) nowhere ∙ either_none (told space bytes (changes_in entry)) ∙ ap (λ n. told space bytes (changes_in (n, entry.1))) (sym same)
    by_test false apart later =
        ap (λ o. option_or o (told space bytes (flat_map changes_in all)))
        (told_none space bytes (changes_in entry) (of_space (λ n. (n == space) ≡ false) entry.0 entry.1 (turned entry.0 space ∙ apart)))
        ∙ later
