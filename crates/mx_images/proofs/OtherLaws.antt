-- Which calls on a directory don't change the files that aren't ours.
use Rattle.std.proofs.Common.{◌≡◌, ℕ, Bool, true, false, cond, ◌||◌, List, [], ◌∷◌, ◌++◌, take, Option, Some, None, Result, Ok, Err, MatchResult, refl, sym, ap, ◌∙◌, ◌⊎◌, inl, inr, subst}
use Rattle.std.proofs.lemmas.List.{append-nil}
use Rattle.std.specs.Prelude.{⊤}
use mathlib.Core.Bool.{true≢false}
use Rattle.std.specs.FinMap as finite
use Rattle.mx_outside.specs.Disks.{Disk, File, IfKnown, Became, Stayed, change_file, change_now, longer_by, synced_file, created, appended, file_synced, removed, renamed, names_synced}
use Rattle.mx_outside.specs.Moments.{Moments}
use Rattle.mx_files.specs.Names.{same_bytes, counts, is_draft, is_ours}
use Rattle.mx_xlog.specs.declared.head.Head.{Head}
use Rattle.mx_xlog.specs.Headers.{header_of}
use Rattle.mx_images.specs.Changes.{KeepsOthers, StaysOrBegins, with_appended, renamed_durably}
use Rattle.mx_images.proofs.DiskLaws.{same_name, get_other, get_change_other, get_changed, get_removed, get_moved}
use Rattle.mx_images.proofs.MomentLaws.{Steps, moments_may, moments_two, while_appended}
use Rattle.mx_images.proofs.ToldLaws.{told_both, told_weaker}

-- ---- names

-- a name that is none of a kind differs from one that is
pub differs_by_kind : (kind : List ℕ → Bool) (other name : List ℕ) → kind other ≡ false → kind name ≡ true → same_bytes other name ≡ false
differs_by_kind kind other name not is = by_same (same_bytes other name) refl
  where
    by_same : (same : Bool) → same_bytes other name ≡ same → same ≡ false
    by_same true same = absurd (true≢false (sym is ∙ ap kind (sym (same_name other name same)) ∙ not))
    by_same false differs = refl

-- a name that counts differs from one that doesn't
pub differs_by_count : (other name : List ℕ) → counts other ≡ true → counts name ≡ false → same_bytes other name ≡ false
differs_by_count other name counting not = by_same (same_bytes other name) refl
  where
    by_same : (same : Bool) → same_bytes other name ≡ same → same ≡ false
    by_same true is = absurd (true≢false (sym counting ∙ ap counts (same_name other name is) ∙ not))
    by_same false is = refl

pub counts_ours : (name : List ℕ) → counts name ≡ true → is_ours name ≡ true
counts_ours name is = ap (λ b. b || is_draft name) is

pub draft_ours : (name : List ℕ) → is_draft name ≡ true → is_ours name ≡ true
draft_ours name is = ap (λ b. counts name || b) is ∙ either_way (counts name)
  where
    either_way : (b : Bool) → (b || true) ≡ true
    either_way true = refl
    either_way false = refl

-- ---- what each call makes

stays : (file : File) (found : Option File) → found ≡ Some file → StaysOrBegins file found
stays file found is = subst (StaysOrBegins file) (sym is) (inl ([], sym (append-nil file.bytes)))

grows : (file now : File) (more : List ℕ) (found : Option File) → found ≡ Some now → now.bytes ≡ file.bytes ++ more → StaysOrBegins file found
grows file now more found is longer = subst (StaysOrBegins file) (sym is) (inl (more, longer))

pub created_others : (name : List ℕ) (disk : Disk) → is_ours name ≡ true → counts name ≡ false → KeepsOthers disk (created name disk)
created_others name disk ours none = record {
  foreign = λ other not. get_other disk.now name (synced_file []) other (differs_by_kind is_ours other name not ours);
  ours = λ other file counting there.
      stays file _ (get_other disk.now name (synced_file []) other (differs_by_count other name counting none) ∙ there);
}

-- a change that leaves a file its bytes, with more behind them
changed_others : (change : File → File) (more : List ℕ) → ((file : File) → (change file).bytes ≡ file.bytes ++ more) → (name : List ℕ) (disk : Disk)
    → is_ours name ≡ true → KeepsOthers disk (change_now (change_file change name) disk)
changed_others change more longer name disk ours = record {
  foreign = λ other not. get_change_other change name disk.now other (differs_by_kind is_ours other name not ours);
  ours = λ other file counting there. by_name other file there (same_bytes other name) refl;
}
  where
    by_name : (other : List ℕ) (file : File) → finite.get disk.now other ≡ Some file → (same : Bool) → same_bytes other name ≡ same
        → StaysOrBegins file (finite.get (change_file change name disk.now) other)
    by_name other file there true is =
        let its : finite.get disk.now name ≡ Some file = ap (finite.get disk.now) (sym (same_name other name is)) ∙ there in
        grows file (change file) more _
        (get_changed change name disk.now file other its ∙ ap (λ same. cond same (Some (change file)) (finite.get disk.now other)) is) (longer file)
    by_name other file there false differs = stays file _ (get_change_other change name disk.now other differs ∙ there)

pub appended_others : (name more : List ℕ) (disk : Disk) → is_ours name ≡ true → KeepsOthers disk (appended name more disk)
appended_others name more = changed_others (longer_by more) more (λ file. refl) name

pub synced_others : (name : List ℕ) (disk : Disk) → is_ours name ≡ true → KeepsOthers disk (file_synced name disk)
synced_others name = changed_others (λ file. synced_file file.bytes) [] (λ file. sym (append-nil file.bytes)) name

pub removed_others : (name : List ℕ) (disk : Disk) → is_ours name ≡ true → counts name ≡ false → KeepsOthers disk (removed name disk)
removed_others name disk ours none = record {
  foreign = λ other not. same other (differs_by_kind is_ours other name not ours);
  ours = λ other file counting there. stays file _ (same other (differs_by_count other name counting none) ∙ there);
}
  where
    same : (other : List ℕ) → same_bytes other name ≡ false → finite.get (removed name disk).now other ≡ finite.get disk.now other
    same other differs = get_removed disk.now name other ∙ ap (λ same. cond same None (finite.get disk.now other)) differs

-- a file of a header alone gets its other name
pub renamed_others : (from to : List ℕ) (disk : Disk) → is_ours from ≡ true → is_ours to ≡ true → counts from ≡ false → (head : Head)
    → finite.get disk.now from ≡ Some (synced_file (header_of head)) → KeepsOthers disk (renamed from to disk)
renamed_others from to disk ours its none head is = record {
  foreign = λ other not.
      moved_other other (differs_by_kind is_ours other to not its) (differs_by_kind is_ours other from not ours);
  ours = λ other file counting there. by_name other file counting there (same_bytes other to) refl;
}
  where
    begun : File
    begun = synced_file (header_of head)

    moved_other : (other : List ℕ) → same_bytes other to ≡ false → same_bytes other from ≡ false
        → finite.get (renamed from to disk).now other ≡ finite.get disk.now other
    moved_other other differs unlike =
        get_moved from to disk.now begun other is
        ∙ ap (λ same. cond same (Some begun) (cond (same_bytes other from) None (finite.get disk.now other))) differs
        ∙ ap (λ same. cond same None (finite.get disk.now other)) unlike

    by_name : (other : List ℕ) (file : File) → counts other ≡ true → finite.get disk.now other ≡ Some file → (same : Bool) → same_bytes other to ≡ same
        → StaysOrBegins file (finite.get (renamed from to disk).now other)
    by_name other file counting there true same =
        subst (StaysOrBegins file)
        (sym (get_moved from to disk.now begun other is
        ∙ ap (λ same. cond same (Some begun) (cond (same_bytes other from) None (finite.get disk.now other))) same))
        (inr (head, refl))
    by_name other file counting there false differs = stays file _ (moved_other other differs (differs_by_count other from counting none) ∙ there)

pub names_others : (disk : Disk) → KeepsOthers disk (names_synced disk)
names_others disk = record { foreign = λ other not. refl; ours = λ other file counting there. stays file _ there }

-- ---- the states of calls

-- all bytes were put at the end of a file, and synced, or a prefix of them at an error
pub append_others : {T E : Type 0} (name more : List ℕ) (old new : Option (List Disk)) (result : Result T E) → is_ours name ≡ true
    → IfKnown old (λ disk past. MatchResult result
    (λ value. new ≡ Some (with_appended name more disk ∷ appended name more disk ∷ disk ∷ past))
    (λ error. Stayed new disk past ⊎ ((count : ℕ) × Became new (appended name (take count more) disk) disk past)))
    → Steps KeepsOthers old new
append_others name more old new result ours = told_weaker old (λ disk past.
    while_appended (λ state. ⊤) KeepsOthers name more disk (λ count. (tt, appended_others name (take count more) disk ours))
    (tt, synced_others name (appended name more disk) ours) new past result)

-- a file of a header alone got its other name, and the names were synced, or it may have the name at an error
pub rename_others : {T E : Type 0} (from to : List ℕ) (old new : Option (List Disk)) (result : Result T E) → is_ours from ≡ true → is_ours to ≡ true
    → counts from ≡ false → (head : Head) → IfKnown old (λ disk past. finite.get disk.now from ≡ Some (synced_file (header_of head)))
    → IfKnown old (λ disk past. MatchResult result
    (λ value. new ≡ Some (renamed_durably from to disk ∷ renamed from to disk ∷ disk ∷ past))
    (λ error. Stayed new disk past ⊎ Became new (renamed from to disk) disk past))
    → Steps KeepsOthers old new
rename_others {T} {E} from to old new result ours its none head = told_both old (λ disk past. by_result disk past result)
  where
    by_result : (disk : Disk) (past : List Disk) (r : Result T E) → finite.get disk.now from ≡ Some (synced_file (header_of head)) → MatchResult r
        (λ value. new ≡ Some (renamed_durably from to disk ∷ renamed from to disk ∷ disk ∷ past))
        (λ error. Stayed new disk past ⊎ Became new (renamed from to disk) disk past)
        → Moments (λ state. ⊤) KeepsOthers new disk past
    by_result disk past (Ok value) there told =
        moments_two (λ state. ⊤) KeepsOthers (renamed from to disk) (renamed_durably from to disk) new disk past
        tt (renamed_others from to disk ours its none head there) tt (names_others (renamed from to disk)) told
    by_result disk past (Err error) there told =
        moments_may (λ state. ⊤) KeepsOthers (renamed from to disk) new disk past tt (renamed_others from to disk ours its none head there) told
