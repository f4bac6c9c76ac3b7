-- What a directory in memory is after a crash is a crash image.
use Rattle.std.proofs.Common.{◌≡◌, ℕ, ◌+◌, Bool, true, false, cond, List, [], ◌∷◌, ◌++◌, length, take, drop, min, Option, None, Some, refl, sym, ap, ◌∙◌, arith, ◌/◌, subst, suc, zero, T, ◌⊎◌, inl, inr}
use Rattle.std.specs.List.{Any}
use Rattle.std.specs.Option.{option_map}
use Rattle.std.specs.FinMap as map
use Rattle.std.specs.FinMap.{entries_sorted, get-entries, get-insert, get-remove}
use Rattle.std.specs.FinMap.Entries.{is_sorted, below_all}
use Rattle.std.specs.Cmp.Lexicographic.{slice_cmp, nat_list_cmp_total}
use Rattle.std.specs.Ordering.{nat_cmp, is_eq, is_lt}
use Rattle.std.specs.declared.cmp.Ordering.{Ordering}
use Rattle.std.specs.declared.cmp.Ordering.TheVariants.{Less, Equal, Greater}
use Rattle.std.proofs.lemmas.List.{take_min}
use Rattle.mx_outside.specs.Disks.{File, Files, Disk, AnyEnd, IsImage, Leaves, synced_file, or_none, outcomes}
use Rattle.mx_fake.specs.MemoryCrashes.{crash_file, crash_files, crash_disk, oldest_file, set_file, changed_names, has_bit, put_back}
use Rattle.mx_fake.proofs.FileLaws.{first, second, same_key, get_changed, find_changed, rising_changed}
use Rattle.mx_fake.proofs.TableLaws.{is_name}

take_two : (m n : ℕ) (l : List ℕ) → take (m + n) l ≡ take m l ++ take n (drop m l)
take_two zero n l = let same : zero + n ≡ n = omega arith in ap (λ k. take k l) same
take_two (suc m) n [] = let same : suc m + n ≡ suc (m + n) = omega arith in ap (λ k. take k []) same ∙ nothing n
  where
    nothing : (n : ℕ) → ◌≡◌ {A = List ℕ} [] (take n [])
    nothing zero = refl
    nothing (suc n) = refl
take_two (suc m) n (x ∷ l) =
    let same : suc m + n ≡ suc (m + n) = omega arith in
    ap (λ k. take k (x ∷ l)) same ∙ ap (λ bytes. x ∷ bytes) (take_two m n l)

-- the synced bytes, and then some of the others
kept_bytes : (synced more : ℕ) (bytes : List ℕ) → (end : List ℕ) × (take (min synced (length bytes) + more) bytes ≡ take synced bytes ++ end)
kept_bytes synced more bytes =
    let front = min synced (length bytes) in
    (take more (drop front bytes), take_two front more bytes ∙ ap (λ b. b ++ take more (drop front bytes)) (take_min synced bytes))

leaves_kept : (more : ℕ) (was : Option File) → Leaves AnyEnd was (option_map (crash_file more) was)
leaves_kept more None = refl
leaves_kept more (Some file) =
    let ends = kept_bytes file.synced more file.bytes in
    (ends.0, tt, ap (λ bytes. Some (synced_file bytes)) ends.1)

module _ (P : Option File → Type 0) where
  here : (was : Option File) (older : List (Option File)) → P was → Any P (was ∷ older)
  here was older holds = (0, was, omega arith, refl, holds)

  there : (was : Option File) (older : List (Option File)) → Any P older → Any P (was ∷ older)
  there was older found = (suc found.0, found.1, omega (arith, found.2), found.3, found.4)

  last_holds : (was : Option File) (older : List (Option File)) → P (oldest_file was older) → Any P (was ∷ older)
  last_holds was [] holds = here was [] holds
  last_holds was (first ∷ older) holds = there was (first ∷ older) (last_holds first older holds)

-- a name after `set_file`
get_set : (name : List ℕ) (file : Option File) (files : Files) (q : List ℕ) → map.get (set_file name file files) q ≡ cond (is_name q name) file (map.get files q)
get_set name None files q = get-remove nat_list_cmp_total files name q
get_set name (Some file) files q = get-insert nat_list_cmp_total files name file q

get_set_if : (chosen : Bool) (name : List ℕ) (file : Option File) (files : Files) (q : List ℕ)
    → map.get (cond chosen (set_file name file files) files) q ≡ cond (is_name q name) (cond chosen file (map.get files q)) (map.get files q)
get_set_if true name file files q = get_set name file files q
get_set_if false name file files q = by_test (is_name q name)
  where
    by_test : (t : Bool) → map.get files q ≡ cond t (map.get files q) (map.get files q)
    by_test true = refl
    by_test false = refl

-- names above this one are put back without it
untouched : (choice number : ℕ) (name : List ℕ) (es : List (List ℕ × Option File)) (files : Files) → T (below_all (slice_cmp nat_cmp) name es)
    → map.get (put_back choice number es files) name ≡ map.get files name
untouched choice number name [] files below = refl
untouched choice number name (e ∷ es) files below =
    let test = is_lt (slice_cmp nat_cmp name e.0) in
    untouched choice (suc number) name es _ (second test _ below)
    ∙ get_set_if (has_bit choice number) e.0 e.1 files name
    ∙ ap (λ t. cond t (cond (has_bit choice number) e.1 (map.get files name)) (map.get files name)) (apart (slice_cmp nat_cmp name e.0) (first test _ below))
  where
    apart : (o : Ordering) → T (is_lt o) → is_eq o ≡ false
    apart Less below = refl
    apart Equal below = absurd below
    apart Greater below = absurd below

-- a name is as it is now, or as it is put back
either : (choice number : ℕ) (es : List (List ℕ × Option File)) (files : Files) (q : List ℕ) → T (is_sorted (slice_cmp nat_cmp) es)
    → (map.get (put_back choice number es files) q ≡ map.get files q) ⊎ (map.find (slice_cmp nat_cmp) q es ≡ Some (map.get (put_back choice number es files) q))
either choice number [] files q sorted = inl refl
either choice number (e ∷ es) files q sorted =
    let after = cond (has_bit choice number) (set_file e.0 e.1 files) files in
    let test = below_all (slice_cmp nat_cmp) e.0 es in
    by_test after (get_set_if (has_bit choice number) e.0 e.1 files q) (untouched choice (suc number) e.0 es after (first test _ sorted))
    (either choice (suc number) es after q (second test _ sorted)) (is_name q e.0) refl
  where
    by_choice : (chosen : Bool) (now : Option File) → now ≡ cond chosen e.1 (map.get files q) → (now ≡ map.get files q) ⊎ (Some e.1 ≡ Some now)
    by_choice true now is = inr (ap Some (sym is))
    by_choice false now is = inl is

    by_rest : (after : Files) → map.get after q ≡ map.get files q
        → (map.get (put_back choice (suc number) es after) q ≡ map.get after q)
        ⊎ (map.find (slice_cmp nat_cmp) q es ≡ Some (map.get (put_back choice (suc number) es after) q))
        → (map.get (put_back choice (suc number) es after) q ≡ map.get files q)
        ⊎ (map.find (slice_cmp nat_cmp) q es ≡ Some (map.get (put_back choice (suc number) es after) q))
    by_rest after same (inl stays) = inl (stays ∙ same)
    by_rest after same (inr found) = inr found

    by_test : (after : Files) → map.get after q ≡ cond (is_name q e.0) (cond (has_bit choice number) e.1 (map.get files q)) (map.get files q)
        → map.get (put_back choice (suc number) es after) e.0 ≡ map.get after e.0
        → (map.get (put_back choice (suc number) es after) q ≡ map.get after q)
        ⊎ (map.find (slice_cmp nat_cmp) q es ≡ Some (map.get (put_back choice (suc number) es after) q))
        → (t : Bool) → is_name q e.0 ≡ t
        → (map.get (put_back choice (suc number) es after) q ≡ map.get files q)
        ⊎ (cond t (Some e.1) (map.find (slice_cmp nat_cmp) q es) ≡ Some (map.get (put_back choice (suc number) es after) q))
    by_test after set stays rest true tied = by_choice (has_bit choice number) _
        (ap (map.get (put_back choice (suc number) es after)) (sym (same_key e.0 q tied)) ∙ stays ∙ ap (map.get after) (same_key e.0 q tied)
        ∙ set ∙ ap (λ t. cond t (cond (has_bit choice number) e.1 (map.get files q)) (map.get files q)) tied)
    by_test after set stays rest false differs =
        by_rest after (set ∙ ap (λ t. cond t (cond (has_bit choice number) e.1 (map.get files q)) (map.get files q)) differs) rest

-- the disk after a crash is a crash image
pub crash_is_image : (choice : ℕ) (disk : Disk) → IsImage AnyEnd disk (crash_disk choice disk)
crash_is_image choice disk = record { durable = refl; each = λ name. by_name name (either choice 0 (changed_names disk) disk.now name sorted) }
  where
    was : List ℕ → List (Option File) → Option File
    was name = oldest_file (map.get disk.now name)

    sorted : T (is_sorted (slice_cmp nat_cmp) (changed_names disk))
    sorted = rising_changed was (map.entries disk.older) (entries_sorted disk.older)

    files : Files
    files = put_back choice 0 (changed_names disk) disk.now

    Left : List ℕ → Option File → Type 0
    Left name was = Leaves AnyEnd was (map.get (crash_files (choice / 256) files) name)

    left : (name : List ℕ) → Left name (map.get files name)
    left name = subst (Leaves AnyEnd (map.get files name)) (sym (get_changed (crash_file (choice / 256)) files name)) (leaves_kept (choice / 256) (map.get files name))

    by_older : (name : List ℕ) (older : Option (List (Option File))) → option_map (was name) older ≡ Some (map.get files name)
        → Any (Left name) (map.get disk.now name ∷ or_none older)
    by_older name None found = absurd cc
    by_older name (Some older) found =
        let same : was name older ≡ map.get files name = cc in
        last_holds (Left name) (map.get disk.now name) older (subst (Left name) (sym same) (left name))

    by_name : (name : List ℕ) → (map.get files name ≡ map.get disk.now name) ⊎ (map.find (slice_cmp nat_cmp) name (changed_names disk) ≡ Some (map.get files name))
        → Any (Left name) (outcomes name disk)
    by_name name (inl stays) = here (Left name) (map.get disk.now name) (or_none (map.get disk.older name)) (subst (Left name) stays (left name))
    by_name name (inr found) =
        by_older name (map.get disk.older name)
        (ap (option_map (was name)) (get-entries disk.older name) ∙ sym (find_changed was (map.entries disk.older) name) ∙ found)
