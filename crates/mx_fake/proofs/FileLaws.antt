-- What a change of one name makes of the files, and of their list.
use Rattle.std.proofs.Common.{◌≡◌, ℕ, suc, ◌/◌, ◌%◌, ◌^◌, nat_eq, Bool, true, false, cond, List, [], ◌∷◌, map, Option, Some, None, String, BTreeMap, string_bytes, sym, refl, ap, ◌∙◌, T, ◌&&◌, IsSome, is_some, ◌<◌, length, arith}
use mathlib.Core.Bool.{true≢false}
use Rattle.std.specs.BTreeMap as tree
use Rattle.std.specs.FinMap as map
use Rattle.std.specs.FinMap.{FinMap, find, get-from_entries, get-from_sorted, entries-from_sorted, entries_sorted, get-entries, get-insert, get-remove, get-empty, same_map, slice_cmp-IsAntisymmetric, nat_cmp-IsAntisymmetric}
use Rattle.std.specs.FinMap.Entries.{is_sorted, below_all}
use Rattle.std.specs.Cmp.Lexicographic.{slice_cmp, bytes_decides, nat_list_cmp_total, nat_list_eq_equiv}
use Rattle.std.specs.Ordering.{nat_cmp, eq_by_cmp, is_lt}
use Rattle.std.specs.declared.cmp.Ordering.{Ordering}
use Rattle.std.specs.declared.cmp.Ordering.TheVariants.{Less, Equal, Greater}
use Rattle.std.specs.Map.{lookup, keys_of, update}
use Rattle.std.specs.List.{AllByRecursion}
use Rattle.std.specs.List.Sorted.{IsStrictlySortedBy}
use Rattle.std.specs.Option.{option_map, option_or}
use Rattle.std.specs.Str.{bytes_eq}
use Rattle.std.specs.String.{string_cmp}
use Rattle.std.proofs.lemmas.Map.Text.{btree_map_updates_text, is_eq-slice_cmp, text_cmp}
use Rattle.mx_outside.specs.Disks.{File, Files, change_file}
use Rattle.mx_fake.specs.FileMaps.{by_bytes, map_of}
use Rattle.mx_fake.specs.MemoryCrashes.{set_file, put_back}

-- a changed file
pub change_there : (f : File → File) (name : List ℕ) (files : Files) (file : File) → map.get files name ≡ Some file → change_file f name files ≡ map.insert files name (f file)
change_there f name files file is = rw is refl

pub change_none : (f : File → File) (name : List ℕ) (files : Files) → map.get files name ≡ None → change_file f name files ≡ files
change_none f name files is = rw is refl

-- two directories with the same file at each name are the same
pub same_files : {X : Type 0} (m n : FinMap (slice_cmp nat_cmp) X) → ((q : List ℕ) → map.get m q ≡ map.get n q) → m ≡ n
same_files = same_map nat_list_cmp_total (slice_cmp-IsAntisymmetric nat_cmp-IsAntisymmetric)

same_test : (bs q : List ℕ) → bytes_eq bs q ≡ eq_by_cmp (slice_cmp nat_cmp) q bs
same_test bs q = nat_list_eq_equiv.symm bs q ∙ sym (is_eq-slice_cmp q bs)

both : (a b : Bool) → T a → T b → T (a && b)
both true b p q = q
both false b p q = absurd p

pub same_key : (name q : List ℕ) → eq_by_cmp (slice_cmp nat_cmp) q name ≡ true → name ≡ q
same_key name q tied = (bytes_decides name q).0 (same_test name q ∙ tied)

module _ {Y X : Type 0} where
  find_by_bytes : (es : List (String Y × X)) (q : List ℕ) → find (slice_cmp nat_cmp) q (by_bytes es) ≡ lookup (tree.is_at (text_cmp q)) es
  find_by_bytes [] q = refl
  find_by_bytes (e ∷ es) q = ap (cond (eq_by_cmp (slice_cmp nat_cmp) q (string_bytes e.0)) (Some e.1)) (find_by_bytes es q)

  -- the file of a name
  pub found : (m : BTreeMap (String Y) X) (q : List ℕ) → map.get (map_of m.entries) q ≡ tree.get_by_text m q
  found m q = get-from_entries nat_list_cmp_total (by_bytes m.entries) q ∙ find_by_bytes m.entries q

  found_after : (m n : BTreeMap (String Y) X) (bs : List ℕ) (w : Option X) → tree.UpdatesBy string_cmp (text_cmp bs) m n w
      → (q : List ℕ) → map.get (map_of n.entries) q ≡ cond (eq_by_cmp (slice_cmp nat_cmp) q bs) w (map.get (map_of m.entries) q)
  found_after m n bs w updates q =
      found n q ∙ btree_map_updates_text bs m n w updates q
      ∙ ap (λ b. cond b w (tree.get_by_text m q)) (same_test bs q)
      ∙ ap (cond (eq_by_cmp (slice_cmp nat_cmp) q bs) w) (sym (found m q))

  -- a file set at a name
  pub inserted : (m n : BTreeMap (String Y) X) (bs : List ℕ) (file : X) → tree.UpdatesBy string_cmp (text_cmp bs) m n (Some file)
      → map_of n.entries ≡ map.insert (map_of m.entries) bs file
  inserted m n bs file updates = same_files _ _ (λ q. found_after m n bs (Some file) updates q ∙ sym (get-insert nat_list_cmp_total (map_of m.entries) bs file q))

  -- a name taken away
  pub taken : (m n : BTreeMap (String Y) X) (bs : List ℕ) → tree.UpdatesBy string_cmp (text_cmp bs) m n None
      → map_of n.entries ≡ map.remove (map_of m.entries) bs
  taken m n bs updates = same_files _ _ (λ q. found_after m n bs None updates q ∙ sym (get-remove nat_list_cmp_total (map_of m.entries) bs q))

  below_by_bytes : (e : String Y × X) (es : List (String Y × X)) → AllByRecursion (λ k. string_cmp e.0 k ≡ Less) (keys_of es)
      → T (below_all (slice_cmp nat_cmp) (string_bytes e.0) (by_bytes es))
  below_by_bytes e [] all = tt
  below_by_bytes e (x ∷ es) all = rw all.0 (below_by_bytes e es all.1)

  pub rising : (es : List (String Y × X)) → IsStrictlySortedBy string_cmp (keys_of es) → T (is_sorted (slice_cmp nat_cmp) (by_bytes es))
  unfolding IsStrictlySortedBy
  rising [] sorted = tt
  rising (e ∷ es) sorted = both _ _ (below_by_bytes e es sorted.0) (rising es sorted.1)

  same_keys : (es : List (String Y × X)) → map (λ e. e.0) (by_bytes es) ≡ map string_bytes (keys_of es)
  same_keys [] = refl
  same_keys (e ∷ es) = ap (λ ks. string_bytes e.0 ∷ ks) (same_keys es)

  -- the names of a tree are those of its files, in order
  pub names_in_order : (m : BTreeMap (String Y) X) → tree.IsOrdered string_cmp m → map.keys (map_of m.entries) ≡ map string_bytes (tree.keys m)
  names_in_order m ordered =
      let sorted = rising m.entries ordered in
      let same : map_of m.entries ≡ map.from_sorted (by_bytes m.entries) = same_files _ _ (λ q.
      get-from_entries nat_list_cmp_total (by_bytes m.entries) q ∙ sym (get-from_sorted (slice_cmp nat_cmp) (by_bytes m.entries) q sorted)) in
      ap map.keys same ∙ ap (map (λ e. e.0)) (entries-from_sorted (slice_cmp nat_cmp) (by_bytes m.entries) sorted) ∙ same_keys m.entries

module _ {Y : Type 0} where
  -- a file changed in its place
  pub changed_there : (f : File → File) (m n : BTreeMap (String Y) File) (bs : List ℕ) (files : Files) (old new : File)
      → map_of m.entries ≡ files → tree.get_by_text m bs ≡ Some old → new ≡ f old
      → (IsSome (tree.get_by_text m bs) → tree.UpdatesBy string_cmp (text_cmp bs) m n (Some new)) → map_of n.entries ≡ change_file f bs files
  changed_there f m n bs files old new same there changed updates =
      inserted m n bs new (updates (ap is_some there))
      ∙ ap (λ files. map.insert files bs new) same ∙ ap (map.insert files bs) changed
      ∙ sym (change_there f bs files old (ap (λ files. map.get files bs) (sym same) ∙ found m bs ∙ there))

  -- and one that isn't there
  pub changed_none : (f : File → File) (m n : BTreeMap (String Y) File) (bs : List ℕ) (files : Files)
      → map_of m.entries ≡ files → tree.get_by_text m bs ≡ None → n ≡ m → map_of n.entries ≡ change_file f bs files
  changed_none f m n bs files same none unchanged =
      ap (λ tree. map_of tree.entries) unchanged ∙ same
      ∙ sym (change_none f bs files (ap (λ files. map.get files bs) (sym same) ∙ found m bs ∙ none))

pub first : (a b : Bool) → T (a && b) → T a
first true b p = tt
first false b p = absurd p

pub second : (a b : Bool) → T (a && b) → T b
second true b p = p
second false b p = absurd p

less : (o : Ordering) → T (is_lt o) → o ≡ Less
less Less p = refl
less Equal p = absurd p
less Greater p = absurd p

below_each : (name : List ℕ) (es : List (List ℕ × File)) → T (below_all (slice_cmp nat_cmp) name es)
    → AllByRecursion (λ other. slice_cmp nat_cmp name other ≡ Less) (map (λ e. e.0) es)
below_each name [] below = tt
below_each name (e ∷ es) below = (less _ (first _ _ below), below_each name es (second (is_lt (slice_cmp nat_cmp name e.0)) _ below))

keys_ascend : (es : List (List ℕ × File)) → T (is_sorted (slice_cmp nat_cmp) es) → IsStrictlySortedBy (slice_cmp nat_cmp) (map (λ e. e.0) es)
unfolding IsStrictlySortedBy
keys_ascend [] sorted = tt
keys_ascend (e ∷ es) sorted =
    (below_each e.0 es (first _ _ sorted), keys_ascend es (second (below_all (slice_cmp nat_cmp) e.0 es) _ sorted))

-- the names of files, in ascending order
pub names_ascend : (files : Files) → IsStrictlySortedBy (slice_cmp nat_cmp) (map.keys files)
names_ascend files = keys_ascend (map.entries files) (entries_sorted files)

-- entries whose values change
module _ {X Z : Type 0} (f : List ℕ → X → Z) where
  pub find_changed : (es : List (List ℕ × X)) (q : List ℕ) → find (slice_cmp nat_cmp) q (map (λ e. (e.0, f e.0 e.1)) es) ≡ option_map (f q) (find (slice_cmp nat_cmp) q es)
  find_changed [] q = refl
  find_changed (e ∷ es) q = by_test (find_changed es q) (eq_by_cmp (slice_cmp nat_cmp) q e.0) refl
    where
      by_test : find (slice_cmp nat_cmp) q (map (λ e. (e.0, f e.0 e.1)) es) ≡ option_map (f q) (find (slice_cmp nat_cmp) q es)
          → (b : Bool) → eq_by_cmp (slice_cmp nat_cmp) q e.0 ≡ b
          → cond b (Some (f e.0 e.1)) (find (slice_cmp nat_cmp) q (map (λ e. (e.0, f e.0 e.1)) es)) ≡ option_map (f q) (cond b (Some e.1) (find (slice_cmp nat_cmp) q es))
      by_test others true tied = ap (λ name. Some (f name e.1)) (same_key e.0 q tied)
      by_test others false differs = others

  below_changed : (name : List ℕ) (es : List (List ℕ × X)) → T (below_all (slice_cmp nat_cmp) name es) → T (below_all (slice_cmp nat_cmp) name (map (λ e. (e.0, f e.0 e.1)) es))
  below_changed name [] below = tt
  below_changed name (e ∷ es) below =
      let test = is_lt (slice_cmp nat_cmp name e.0) in
      both test _ (first test _ below) (below_changed name es (second test _ below))

  pub rising_changed : (es : List (List ℕ × X)) → T (is_sorted (slice_cmp nat_cmp) es) → T (is_sorted (slice_cmp nat_cmp) (map (λ e. (e.0, f e.0 e.1)) es))
  rising_changed [] sorted = tt
  rising_changed (e ∷ es) sorted =
      let test = below_all (slice_cmp nat_cmp) e.0 es in
      both _ _ (below_changed e.0 es (first test _ sorted)) (rising_changed es (second test _ sorted))

-- two lists of entries in order, in which each name is found alike, are the same
pub same_entries : {X : Type 0} (es fs : List (List ℕ × X)) → T (is_sorted (slice_cmp nat_cmp) es) → T (is_sorted (slice_cmp nat_cmp) fs)
    → ((q : List ℕ) → find (slice_cmp nat_cmp) q es ≡ find (slice_cmp nat_cmp) q fs) → es ≡ fs
same_entries es fs sorted sorted' alike =
    sym (entries-from_sorted (slice_cmp nat_cmp) es sorted)
    ∙ ap map.entries (same_files (map.from_sorted es) (map.from_sorted fs) (λ q.
    get-from_sorted (slice_cmp nat_cmp) es q sorted ∙ alike q ∙ sym (get-from_sorted (slice_cmp nat_cmp) fs q sorted')))
    ∙ entries-from_sorted (slice_cmp nat_cmp) fs sorted'

-- the file of a name after a crash
pub get_changed : (f : File → File) (files : Files) (q : List ℕ)
    → map.get (map.from_entries {R = slice_cmp nat_cmp} (map (λ e. (e.0, f e.1)) (map.entries files))) q ≡ option_map f (map.get files q)
get_changed f files q =
    get-from_entries nat_list_cmp_total (map (λ e. (e.0, f e.1)) (map.entries files)) q
    ∙ find_changed (λ _. f) (map.entries files) q ∙ ap (option_map f) (sym (get-entries files q))

or_nothing : {X : Type 0} (o : Option X) → option_or o None ≡ o
or_nothing None = refl
or_nothing (Some x) = refl

-- the files that are still to come, or else those that came over already
abbrev pub either : {Y : Type 0} (f : File → File) (left : BTreeMap (String Y) File) (over : Files) → List ℕ → Option File
either f left over q = option_or (option_map f (tree.get_by_text left q)) (map.get over q)

module _ {Y : Type 0} (f : File → File) where
  pub none_over : (m : BTreeMap (String Y) File) (q : List ℕ) → either f m map.empty q ≡ option_map f (map.get (map_of m.entries) q)
  none_over m q =
      ap (option_or (option_map f (tree.get_by_text m q))) (get-empty (slice_cmp nat_cmp) q) ∙ or_nothing _
      ∙ ap (option_map f) (sym (found m q))

  pub one_over : (m n : BTreeMap (String Y) File) (over : Files) (name : String Y) (file : File)
      → tree.get string_cmp m name ≡ Some file → tree.Updates string_cmp m n name None
      → (q : List ℕ) → either f n (map.insert over (string_bytes name) (f file)) q ≡ either f m over q
  one_over m n over name file first updates q =
      ap (λ o. option_or (option_map f o) (map.get (map.insert over (string_bytes name) (f file)) q)) (btree_map_updates_text (string_bytes name) m n None updates q)
      ∙ ap (option_or (option_map f (update bytes_eq (tree.get_by_text m) (string_bytes name) None q))) (get-insert nat_list_cmp_total over (string_bytes name) (f file) q
      ∙ ap (λ b. cond b (Some (f file)) (map.get over q)) (sym (same_test (string_bytes name) q)))
      ∙ by_test (bytes_eq (string_bytes name) q) refl
    where
      by_test : (b : Bool) → bytes_eq (string_bytes name) q ≡ b
          → option_or (option_map f (cond b None (tree.get_by_text m q))) (cond b (Some (f file)) (map.get over q)) ≡ either f m over q
      by_test true same = ap (λ o. option_or (option_map f o) (map.get over q)) (sym first ∙ ap (tree.get_by_text m) ((bytes_decides (string_bytes name) q).0 same))
      by_test false differs = refl

  pub all_over : (m : BTreeMap (String Y) File) (over : Files) (q : List ℕ) → m.entries ≡ [] → either f m over q ≡ map.get over q
  all_over m over q empty = rw empty refl

pub nothing_left : {A : Type 0} (es : List A) → (0 < length es → false ≡ true) → es ≡ []
nothing_left [] none = refl
nothing_left (x ∷ es) some = absurd (true≢false (sym (some (omega arith))))

-- names are put back one by one
module _ {Y : Type 0} (choice number : ℕ) where
  pub one_back : (bit : ℕ) (es rest : List (String Y × Option File)) (name : String Y) (file : Option File) (files after : Files)
      → es ≡ (name, file) ∷ rest → number % 8 ≡ bit → after ≡ cond (nat_eq (choice / 2 ^ bit % 2) 1) (set_file (string_bytes name) file files) files
      → put_back choice (suc number) (by_bytes rest) after ≡ put_back choice number (by_bytes es) files
  one_back bit es rest name file files after first counted is =
      ap (put_back choice (suc number) (by_bytes rest))
      (is ∙ ap (λ bit. cond (nat_eq (choice / 2 ^ bit % 2) 1) (set_file (string_bytes name) file files) files) (sym counted))
      ∙ ap (λ es. put_back choice number (by_bytes es) files) (sym first)

  pub none_back : (es : List (String Y × Option File)) (files : Files) → es ≡ [] → put_back choice number (by_bytes es) files ≡ files
  none_back es files none = ap (λ es. put_back choice number (by_bytes es) files) none
