-- What a change of one name makes of the files of a directory.
use Rattle.std.proofs.Common.{◌≡◌, ℕ, zero, suc, Bool, true, false, cond, List, [], ◌∷◌, ◌++◌, Any, Option, Some, None, IsSome, refl, sym, ap, ◌∙◌, subst, arith}
use Rattle.std.specs.FinMap as finite
use Rattle.std.specs.FinMap.{get-insert, get-remove}
use Rattle.std.specs.Cmp.Lexicographic.{bytes_decides, nat_list_cmp_total}
use Rattle.std.proofs.lemmas.Map.Text.{is_eq-slice_cmp}
use Rattle.mx_outside.specs.Disks.{File, Files, Disk, change_file, longer_by, synced_file, appended, created, moved}
use Rattle.mx_files.specs.Names.{same_bytes}
use Rattle.mx_images.specs.Changes.{with_draft, with_appended, renamed_durably}

pub same_self : (name : List ℕ) → same_bytes name name ≡ true
same_self name = (bytes_decides name name).1 refl

pub same_name : (other name : List ℕ) → same_bytes other name ≡ true → other ≡ name
same_name other name = (bytes_decides other name).0

pub get_inserted : (files : Files) (name : List ℕ) (file : File) (other : List ℕ)
    → finite.get (finite.insert files name file) other ≡ cond (same_bytes other name) (Some file) (finite.get files other)
get_inserted files name file other =
    get-insert nat_list_cmp_total files name file other ∙ ap (λ same. cond same (Some file) (finite.get files other)) (is_eq-slice_cmp other name)

pub get_removed : (files : Files) (name other : List ℕ) → finite.get (finite.remove files name) other ≡ cond (same_bytes other name) None (finite.get files other)
get_removed files name other =
    get-remove nat_list_cmp_total files name other ∙ ap (λ same. cond same None (finite.get files other)) (is_eq-slice_cmp other name)

pub get_changed : (change : File → File) (name : List ℕ) (files : Files) (file : File) (other : List ℕ) → finite.get files name ≡ Some file
    → finite.get (change_file change name files) other ≡ cond (same_bytes other name) (Some (change file)) (finite.get files other)
get_changed change name files file other is = rw is (get_inserted files name (change file) other)

pub get_other : (files : Files) (name : List ℕ) (file : File) (other : List ℕ) → same_bytes other name ≡ false
    → finite.get (finite.insert files name file) other ≡ finite.get files other
get_other files name file other differs =
    get_inserted files name file other ∙ ap (λ same. cond same (Some file) (finite.get files other)) differs

pub get_change_other : (change : File → File) (name : List ℕ) (files : Files) (other : List ℕ) → same_bytes other name ≡ false
    → finite.get (change_file change name files) other ≡ finite.get files other
get_change_other change name files other differs = by_file (finite.get files name) refl
  where
    by_file : (found : Option File) → finite.get files name ≡ found → finite.get (change_file change name files) other ≡ finite.get files other
    by_file None is = rw is refl
    by_file (Some file) is = rw is (get_other files name (change file) other differs)

cond_twice : {A : Type 0} (test : Bool) (a b c : A) → cond test a (cond test b c) ≡ cond test a c
cond_twice true a b c = refl
cond_twice false a b c = refl

pub at_itself : (name : List ℕ) (file rest : Option File) → cond (same_bytes name name) file rest ≡ file
at_itself name file rest = ap (λ same. cond same file rest) (same_self name)

-- a file that was made longer, and synced
pub get_extended : (name more : List ℕ) (disk : Disk) (file : File) (other : List ℕ) → finite.get disk.now name ≡ Some file
    → finite.get (with_appended name more disk).now other ≡ cond (same_bytes other name) (Some (synced_file (file.bytes ++ more))) (finite.get disk.now other)
get_extended name more disk file other is =
    let longer = longer_by more file in
    let there : finite.get (appended name more disk).now name ≡ Some longer =
    get_changed (longer_by more) name disk.now file name is ∙ at_itself name (Some longer) (finite.get disk.now name) in
    get_changed (λ f. synced_file f.bytes) name (appended name more disk).now longer other there
    ∙ ap (cond (same_bytes other name) (Some (synced_file (file.bytes ++ more)))) (get_changed (longer_by more) name disk.now file other is)
    ∙ cond_twice (same_bytes other name) (Some (synced_file (file.bytes ++ more))) (Some longer) (finite.get disk.now other)

-- a file that was made
pub get_drafted : (name bytes : List ℕ) (disk : Disk) (other : List ℕ)
    → finite.get (with_draft name bytes disk).now other ≡ cond (same_bytes other name) (Some (synced_file bytes)) (finite.get disk.now other)
get_drafted name bytes disk other =
    let there : finite.get (created name disk).now name ≡ Some (synced_file []) =
    get_inserted disk.now name (synced_file []) name ∙ at_itself name (Some (synced_file [])) (finite.get disk.now name) in
    get_extended name bytes (created name disk) (synced_file []) other there
    ∙ ap (cond (same_bytes other name) (Some (synced_file bytes))) (get_inserted disk.now name (synced_file []) other)
    ∙ cond_twice (same_bytes other name) (Some (synced_file bytes)) (Some (synced_file [])) (finite.get disk.now other)

-- a file under its other name
pub get_moved : (from to : List ℕ) (files : Files) (file : File) (other : List ℕ) → finite.get files from ≡ Some file
    → finite.get (moved from to files) other ≡ cond (same_bytes other to) (Some file) (cond (same_bytes other from) None (finite.get files other))
get_moved from to files file other is =
    rw is (get_inserted (finite.remove files from) to file other ∙ ap (cond (same_bytes other to) (Some file)) (get_removed files from other))

-- a file that was made under a draft's name, and then got its own
pub get_made : (draft name bytes : List ℕ) (disk : Disk) (other : List ℕ)
    → finite.get (renamed_durably draft name (with_draft draft bytes disk)).now other
    ≡ cond (same_bytes other name) (Some (synced_file bytes)) (cond (same_bytes other draft) None (finite.get disk.now other))
get_made draft name bytes disk other =
    let there : finite.get (with_draft draft bytes disk).now draft ≡ Some (synced_file bytes) =
    get_drafted draft bytes disk draft ∙ at_itself draft (Some (synced_file bytes)) (finite.get disk.now draft) in
    get_moved draft name (with_draft draft bytes disk).now (synced_file bytes) other there
    ∙ ap (λ file. cond (same_bytes other name) (Some (synced_file bytes)) (cond (same_bytes other draft) None file)) (get_drafted draft bytes disk other)
    ∙ ap (cond (same_bytes other name) (Some (synced_file bytes)))
    (cond_twice (same_bytes other draft) None (Some (synced_file bytes)) (finite.get disk.now other))

-- ---- that a file is there

abbrev pub has : List ℕ → Disk → Type 0
has name disk = IsSome (finite.get disk.now name)

some_there : (found : Option File) → IsSome found → (file : File) × (found ≡ Some file)
some_there None there = absurd cc
some_there (Some file) there = (file, refl)

there_changed : (change : File → File) (name : List ℕ) (files : Files) → IsSome (finite.get files name) → IsSome (finite.get (change_file change name files) name)
there_changed change name files there =
    let (file, is) = some_there (finite.get files name) there in
    rw (get_changed change name files file name is ∙ at_itself name (Some (change file)) (finite.get files name)) refl

pub there_appended : (name more : List ℕ) (disk : Disk) → IsSome (finite.get disk.now name) → IsSome (finite.get (appended name more disk).now name)
there_appended name more disk = there_changed (longer_by more) name disk.now

pub there_extended : (name more : List ℕ) (disk : Disk) → IsSome (finite.get disk.now name) → IsSome (finite.get (with_appended name more disk).now name)
there_extended name more disk there = there_changed (λ f. synced_file f.bytes) name (appended name more disk).now (there_appended name more disk there)

pub there_created : (name : List ℕ) (disk : Disk) → Unit {0} → IsSome (finite.get (created name disk).now name)
there_created name disk none = rw (get_inserted disk.now name (synced_file []) name ∙ at_itself name (Some (synced_file [])) (finite.get disk.now name)) refl

-- ---- all that a name may be

-- the only one there is
pub only_one : {X : Type 0} (P : X → Type 0) (only : X) → Any P (only ∷ []) → P only
only_one P only (zero, found, inside, is, shown) = subst P (sym is) shown
only_one P only (suc place, found, inside, is, shown) = absurd (omega (arith, inside))

pub first_one : {X : Type 0} (P : X → Type 0) (first : X) (others : List X) → P first → Any P (first ∷ others)
first_one P first others shown = (0, first, omega arith, refl, shown)
