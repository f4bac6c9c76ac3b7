-- What a pass over names, none of which stands twice, makes of each file.
use Rattle.std.proofs.Common.{◌≡◌, ℕ, Bool, true, false, cond, ◌&&◌, ◌||◌, T, List, [], ◌∷◌, refl, sym, ap, ◌∙◌}
use Rattle.std.specs.Prelude.{Option, Some, None, is_some, ⊤}
use Rattle.std.specs.List.{list_any}
use Rattle.std.specs.Ordering.{eq_by_cmp, is_lt, is_eq, nat_cmp}
use Rattle.std.specs.declared.cmp.Ordering.{Ordering}
use Rattle.std.specs.declared.cmp.Ordering.TheVariants.{Less, Equal, Greater}
use Rattle.std.specs.Cmp.Lexicographic.{slice_cmp, bytes_decides, nat_list_cmp_total}
use Rattle.std.proofs.lemmas.Map.Text.{is_eq-slice_cmp}
use Rattle.std.specs.FinMap as finite
use Rattle.std.specs.FinMap.{get-insert, get-remove, entries_sorted, contains_key-keys}
use Rattle.std.specs.FinMap.Entries.{is_sorted, below_all}
use Rattle.mx_outside.specs.Disks.{File, Files, Disk, synced_file, file_synced, removed}
use Rattle.mx_files.specs.Names.{same_bytes}
use Rattle.mx_images.proofs.ContentLaws.{whole}
use Rattle.mx_directory.proofs.DirectoryLaws.{by_name, names_in, same_itself}
use Rattle.mx_recover.specs.Turns.{after_turn, after_turns, AreThere}

-- whether a name stands among these
abbrev pub among : List ℕ → List (List ℕ) → Bool
among name names = list_any (same_bytes name) names

abbrev pub IsApart : List (List ℕ) → Type 0
IsApart [] = ⊤
IsApart (name ∷ names) = (among name names ≡ false) × IsApart names

same_name : (q name : List ℕ) → same_bytes q name ≡ true → q ≡ name
same_name q name same = (bytes_decides q name).0 same

among_tied : (q : List ℕ) (names : List (List ℕ)) → list_any (eq_by_cmp by_name q) names ≡ among q names
among_tied q [] = refl
among_tied q (name ∷ names) = λ i. is_eq-slice_cmp q name i || among_tied q names i

-- the names of a directory are those of its files
pub among_keys : (files : Files) (q : List ℕ) → is_some (finite.get files q) ≡ among q (finite.keys files)
among_keys files q = contains_key-keys files q ∙ among_tied q (finite.keys files)

first : (a b : Bool) → T (a && b) → T a
first true b p = tt
first false b p = p

second : (a b : Bool) → T (a && b) → T b
second true b p = p
second false b p = absurd p

less_differs : (o : Ordering) → T (is_lt o) → is_eq o ≡ false
less_differs Less p = refl
less_differs Equal p = absurd p
less_differs Greater p = absurd p

neither : (a b : Bool) → a ≡ false → b ≡ false → (a || b) ≡ false
neither a b p q = rw (p, q) refl

absent : (name : List ℕ) (es : List (List ℕ × File)) → T (below_all by_name name es) → among name (names_in es) ≡ false
absent name [] below = refl
absent name (e ∷ es) below =
    neither _ _ (sym (is_eq-slice_cmp name e.0) ∙ less_differs (slice_cmp nat_cmp name e.0) (first _ _ below)) (absent name es (second _ _ below))

sorted_apart : (es : List (List ℕ × File)) → T (is_sorted by_name es) → IsApart (names_in es)
sorted_apart [] sorted = tt
sorted_apart (e ∷ es) sorted = (absent e.0 es (first _ _ sorted), sorted_apart es (second _ _ sorted))

-- no name of a directory stands twice
pub keys_apart : (files : Files) → IsApart (finite.keys files)
keys_apart files = sorted_apart (finite.entries files) (entries_sorted files)

and_false : (b : Bool) → (b && false) ≡ false
and_false true = refl
and_false false = refl

or_true : (a b : Bool) → b ≡ true → (a || b) ≡ true
or_true true b p = refl
or_true false b p = p

module _ (kind : List ℕ → Bool) (change : List ℕ → Disk → Disk) (made : Option File → Option File)
    (changes : (name q : List ℕ) (disk : Disk)
    → finite.get (change name disk).now q ≡ cond (same_bytes q name) (made (finite.get disk.now q)) (finite.get disk.now q)) where
  at_turn : (name q : List ℕ) (disk : Disk) → finite.get (after_turn kind change name disk).now q
      ≡ cond (kind name && same_bytes q name) (made (finite.get disk.now q)) (finite.get disk.now q)
  at_turn name q disk = by_kind (kind name)
    where
      by_kind : (b : Bool) → finite.get (cond b (change name disk) disk).now q
          ≡ cond (b && same_bytes q name) (made (finite.get disk.now q)) (finite.get disk.now q)
      by_kind true = changes name q disk
      by_kind false = refl

  -- a turn doesn't change the other files
  other_turn : (name q : List ℕ) (disk : Disk) → same_bytes q name ≡ false → finite.get (after_turn kind change name disk).now q ≡ finite.get disk.now q
  other_turn name q disk other =
      at_turn name q disk
      ∙ ap (λ b. cond (kind name && b) (made (finite.get disk.now q)) (finite.get disk.now q)) other
      ∙ ap (λ b. cond b (made (finite.get disk.now q)) (finite.get disk.now q)) (and_false (kind name))

  differs : (q name : List ℕ) (names : List (List ℕ)) → among name names ≡ false → among q names ≡ true → same_bytes q name ≡ false
  differs q name names none is = by_test (same_bytes q name) refl
    where
      by_test : (b : Bool) → same_bytes q name ≡ b → b ≡ false
      by_test true same =
          let there : among name names ≡ true = ap (λ n. among n names) (sym (same_name q name same)) ∙ is in
          absurd cc
      by_test false other = refl

  -- files that are all there are there when their turns come
  pub are_there : (names : List (List ℕ)) (disk : Disk) → IsApart names
      → ((q : List ℕ) → among q names ≡ true → is_some (finite.get disk.now q) ≡ true) → AreThere kind change names disk
  are_there [] disk apart there = tt
  are_there (name ∷ names) disk apart there = (
    there name (ap (λ b. b || among name names) (same_itself name)),
    are_there names (after_turn kind change name disk) apart.1
        (λ q is.
        ap is_some (other_turn name q disk (differs q name names apart.0 is))
        ∙ there q (or_true (same_bytes q name) (among q names) is)),
  )

  joined : (mine its same others : Bool) (file : Option File) → ((file : Option File) → made (made file) ≡ made file) → (same ≡ true → mine ≡ its)
      → cond (mine && others) (made (cond (its && same) (made file) file)) (cond (its && same) (made file) file)
      ≡ cond (mine && (same || others)) (made file) file
  joined true true true true file again alike = again file
  joined true true true false file again alike = refl
  joined false false true others file again alike = refl
  joined true false true others file again alike = let e = alike refl in absurd cc
  joined false true true others file again alike = let e = alike refl in absurd cc
  joined mine true false others file again alike = refl
  joined mine false false others file again alike = refl

  -- each file of the kind that is named is changed, and no other
  pub at_turns : ((file : Option File) → made (made file) ≡ made file) → (names : List (List ℕ)) (q : List ℕ) (disk : Disk)
      → finite.get (after_turns kind change names disk).now q ≡ cond (kind q && among q names) (made (finite.get disk.now q)) (finite.get disk.now q)
  at_turns again [] q disk = ap (λ b. cond b (made (finite.get disk.now q)) (finite.get disk.now q)) (sym (and_false (kind q)))
  at_turns again (name ∷ names) q disk =
      at_turns again names q (after_turn kind change name disk)
      ∙ ap (λ file. cond (kind q && among q names) (made file) file) (at_turn name q disk)
      ∙ joined (kind q) (kind name) (same_bytes q name) (among q names) (finite.get disk.now q) again (λ same. ap kind (same_name q name same))

pub whole_again : (file : Option File) → whole (whole file) ≡ whole file
whole_again None = refl
whole_again (Some file) = refl

there_synced : (b : Bool) (file : Option File) (its : File) → (b ≡ true → file ≡ Some its) → cond b (Some (synced_file its.bytes)) file ≡ cond b (whole file) file
there_synced true file its is = ap whole (sym (is refl))
there_synced false file its is = refl

none_synced : (b : Bool) (file : Option File) → (b ≡ true → file ≡ None) → file ≡ cond b (whole file) file
none_synced true file is = rw (is refl) refl
none_synced false file is = refl

pub at_synced : (name q : List ℕ) (disk : Disk)
    → finite.get (file_synced name disk).now q ≡ cond (same_bytes q name) (whole (finite.get disk.now q)) (finite.get disk.now q)
at_synced name q disk = by_file (finite.get disk.now name) refl
  where
    same_file : same_bytes q name ≡ true → finite.get disk.now q ≡ finite.get disk.now name
    same_file same = ap (finite.get disk.now) (same_name q name same)

    by_file : (file : Option File) → finite.get disk.now name ≡ file
        → finite.get (file_synced name disk).now q ≡ cond (same_bytes q name) (whole (finite.get disk.now q)) (finite.get disk.now q)
    by_file None is = rw is (none_synced (same_bytes q name) (finite.get disk.now q) (λ same. same_file same ∙ is))
    by_file (Some file) is =
        rw is (get-insert nat_list_cmp_total disk.now name (synced_file file.bytes) q
        ∙ ap (λ b. cond b (Some (synced_file file.bytes)) (finite.get disk.now q)) (is_eq-slice_cmp q name)
        ∙ there_synced (same_bytes q name) (finite.get disk.now q) file (λ same. same_file same ∙ is))

-- no file
abbrev pub gone : Option File → Option File
gone file = None

pub at_removed : (name q : List ℕ) (disk : Disk)
    → finite.get (removed name disk).now q ≡ cond (same_bytes q name) (gone (finite.get disk.now q)) (finite.get disk.now q)
at_removed name q disk =
    get-remove nat_list_cmp_total disk.now name q ∙ ap (λ b. cond b None (finite.get disk.now q)) (is_eq-slice_cmp q name)
