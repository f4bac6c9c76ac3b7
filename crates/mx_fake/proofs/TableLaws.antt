-- What a step makes of the tables of a directory in memory.
use Rattle.std.proofs.Common.{◌≡◌, ◌≢◌, ℕ, Bool, true, false, cond, List, [], ◌∷◌, Option, None, Some, is_some, refl, sym, ap, ◌∙◌, subst}
use Rattle.std.specs.BTreeMap as tree
use Rattle.std.specs.FinMap as map
use Rattle.std.specs.Option.{option_map}
use Rattle.std.specs.FinMap.{entries_sorted, get-empty, get-entries, get-from_entries, get-insert, get-remove}
use Rattle.std.specs.Cmp.Lexicographic.{slice_cmp, nat_list_cmp_total}
use Rattle.std.specs.Ordering.{nat_cmp, eq_by_cmp}
use Rattle.std.specs.String.{string_cmp}
use Rattle.std.proofs.lemmas.Map.Text.{text_cmp}
use Rattle.mx_outside.specs.Disks.{File, Files, Disk, or_none, outcomes, unsynced, change_now, moved}
use Rattle.mx_fake.specs.FileMaps.{by_bytes, map_of}
use Rattle.mx_fake.specs.MemoryCrashes.{oldest_file, changed_names}
use Rattle.mx_fake.specs.Tables.{IsTablesOf}
use Rattle.mx_fake.specs.declared.tables.Tables.{Tables}
use Rattle.mx_fake.proofs.FileLaws.{same_key, same_files, inserted, rising, find_changed, rising_changed, same_entries}

-- whether a name is this one
abbrev pub is_name : List ℕ → List ℕ → Bool
is_name q name = eq_by_cmp (slice_cmp nat_cmp) q name

pub nothing_there : {X : Type 0} (o : Option X) → is_some o ≡ false → o ≡ None
nothing_there None none = refl
nothing_there (Some x) none = absurd cc

-- one state more of a name
some_after : (disk : Disk) (name : List ℕ) → ((q : List ℕ) → map.get disk.older q ≢ Some []) → (q : List ℕ) → map.get (unsynced name disk).older q ≢ Some []
some_after disk name some q is = by_test (is_name q name) (sym (get-insert nat_list_cmp_total disk.older name (outcomes name disk) q) ∙ is)
  where
    by_test : (t : Bool) → cond t (Some (outcomes name disk)) (map.get disk.older q) ≡ Some [] → ⊥
    by_test true is = absurd cc
    by_test false is = some q is

-- what a name is before its first change is saved
pub saved_first : (disk : Disk) (before after : Tables) (name : List ℕ) (file : Option File) → IsTablesOf disk before → after.files ≡ before.files
    → map.get (map_of before.before.entries) name ≡ None → file ≡ map.get before.files name
    → tree.UpdatesBy string_cmp (text_cmp name) before.before after.before (Some file) → tree.IsOrdered string_cmp after.before → IsTablesOf (unsynced name disk) after
saved_first disk before after name file is files none same updates ordered = record {
  now = files ∙ is.now;
  before = λ q.
      ap (λ m. map.get m q) (inserted before.before after.before name file updates)
      ∙ get-insert nat_list_cmp_total (map_of before.before.entries) name file q
      ∙ by_test q (is_name q name)
      ∙ ap (option_map (oldest_file None)) (sym (get-insert nat_list_cmp_total disk.older name (outcomes name disk) q));
  ordered = ordered;
  some = some_after disk name is.some;
}
  where
    by_older : (older : Option (List (Option File))) → option_map (oldest_file None) older ≡ None → map.get disk.now name ≡ oldest_file (map.get disk.now name) (or_none older)
    by_older None absent = refl
    by_older (Some older) absent = absurd cc

    by_test : (q : List ℕ) (t : Bool) → cond t (Some file) (map.get (map_of before.before.entries) q)
        ≡ option_map (oldest_file None) (cond t (Some (outcomes name disk)) (map.get disk.older q))
    by_test q true = ap Some (same ∙ ap (λ files. map.get files name) is.now ∙ by_older (map.get disk.older name) (sym (is.before name) ∙ none))
    by_test q false = is.before q

-- a name that was saved already
pub saved_already : (disk : Disk) (before : Tables) (name : List ℕ) → IsTablesOf disk before → map.get (map_of before.before.entries) name ≢ None
    → IsTablesOf (unsynced name disk) before
saved_already disk before name is there = record {
  now = is.now;
  before = λ q.
      is.before q ∙ by_test q (is_name q name) refl
      ∙ ap (option_map (oldest_file None)) (sym (get-insert nat_list_cmp_total disk.older name (outcomes name disk) q));
  ordered = is.ordered;
  some = some_after disk name is.some;
}
  where
    by_older : (older : Option (List (Option File))) → older ≢ Some [] → option_map (oldest_file None) older ≢ None
        → option_map (oldest_file None) older ≡ Some (oldest_file (map.get disk.now name) (or_none older))
    by_older None some there = absurd (there refl)
    by_older (Some []) some there = absurd (some refl)
    by_older (Some (was ∷ older)) some there = refl

    by_test : (q : List ℕ) (t : Bool) → is_name q name ≡ t
        → option_map (oldest_file None) (map.get disk.older q) ≡ option_map (oldest_file None) (cond t (Some (outcomes name disk)) (map.get disk.older q))
    by_test q true tied =
        ap (λ k. option_map (oldest_file None) (map.get disk.older k)) (sym (same_key name q tied))
        ∙ by_older (map.get disk.older name) (is.some name) (λ none. there (is.before name ∙ none))
    by_test q false differs = refl

-- the files change, and what was saved stays
pub changed : (change : Files → Files) (disk : Disk) (before after : Tables) → IsTablesOf disk before
    → after.files ≡ change before.files → after.before ≡ before.before → IsTablesOf (change_now change disk) after
changed change disk before after is files same = record {
  now = files ∙ ap change is.now;
  before = λ q. ap (λ tree. map.get (map_of tree.entries) q) same ∙ is.before q;
  ordered = subst (tree.IsOrdered string_cmp) (sym same) is.ordered;
  some = is.some;
}

-- nothing is saved, where all names are synced
pub nothing_saved : (files : Files) (after : Tables) → after.files ≡ files → after.before.entries ≡ [] → tree.IsOrdered string_cmp after.before
    → IsTablesOf (record { now = files; older = map.empty }) after
nothing_saved files after same none ordered = record {
  now = same;
  before = λ q.
      ap (λ entries. map.get (map_of entries) q) none ∙ get-empty (slice_cmp nat_cmp) q
      ∙ sym (ap (option_map (oldest_file None)) (get-empty (slice_cmp nat_cmp) q));
  ordered = ordered;
  some = λ q is. absurd (no_some (sym (get-empty (slice_cmp nat_cmp) q) ∙ is));
}
  where
    no_some : {X : Type 0} {x : X} → None ≡ Some x → ⊥
    no_some is = absurd cc

-- a file under another name
pub moved_there : (from to : List ℕ) (files : Files) (file : File) → map.get files from ≡ Some file → moved from to files ≡ map.insert (map.remove files from) to file
moved_there from to files file is = rw is refl

pub moved_none : (from to : List ℕ) (files : Files) → map.get files from ≡ None → moved from to files ≡ map.remove files from
moved_none from to files is =
    let removed : map.remove files from ≡ files = same_files _ _ (λ q. get-remove nat_list_cmp_total files from q ∙ by_test q (is_name q from) refl) in
    let stays : moved from to files ≡ files = rw is refl in
    stays ∙ sym removed
  where
    by_test : (q : List ℕ) (t : Bool) → is_name q from ≡ t → cond t None (map.get files q) ≡ map.get files q
    by_test q true tied = sym is ∙ ap (map.get files) (same_key from q tied)
    by_test q false differs = refl

-- what was saved, in order
pub saved_names : (disk : Disk) (tables : Tables) → IsTablesOf disk tables → by_bytes tables.before.entries ≡ changed_names disk
saved_names disk tables is =
    same_entries (by_bytes tables.before.entries) (changed_names disk) (rising tables.before.entries is.ordered)
    (rising_changed was (map.entries disk.older) (entries_sorted disk.older)) (λ q.
    sym (get-from_entries nat_list_cmp_total (by_bytes tables.before.entries) q) ∙ is.before q ∙ by_older q (map.get disk.older q) (is.some q)
    ∙ ap (option_map (was q)) (get-entries disk.older q) ∙ sym (find_changed was (map.entries disk.older) q))
  where
    was : List ℕ → List (Option File) → Option File
    was name = oldest_file (map.get disk.now name)

    by_older : (q : List ℕ) (older : Option (List (Option File))) → older ≢ Some [] → option_map (oldest_file None) older ≡ option_map (was q) older
    by_older q None some = refl
    by_older q (Some []) some = absurd (some refl)
    by_older q (Some (first ∷ older)) some = refl
