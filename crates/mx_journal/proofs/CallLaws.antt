-- What calls on a directory make of the names that count.
use Rattle.std.proofs.Common.{◌≡◌, ◌⊎◌, inl, inr, ℕ, false, cond, List, [], ◌∷◌, length, take, Option, Some, refl, sym, ap, ◌∙◌, arith}
use Rattle.std.proofs.lemmas.List.{take_all}
use Rattle.std.specs.FinMap as finite
use Rattle.std.specs.FinMap.{FinMap, get-insert}
use Rattle.std.specs.Cmp.Lexicographic.{slice_cmp, nat_list_cmp_total}
use Rattle.std.specs.Ordering.{nat_cmp}
use Rattle.std.proofs.lemmas.Map.Text.{is_eq-slice_cmp}
use Rattle.mx_outside.specs.Disks.{Disk, File, IfKnown, Became, Stayed, longer_by, synced_file, outcomes, or_none, appended, created, file_synced}
use Rattle.mx_outside.specs.Moments.{Moments}
use Rattle.mx_files.specs.Names.{same_bytes, counts}
use Rattle.mx_journal.specs.Making.{CountsSame}
use Rattle.mx_images.specs.Changes.{with_appended}
use Rattle.mx_images.proofs.DiskLaws.{same_self, get_other, get_change_other}
use Rattle.mx_images.proofs.OtherLaws.{differs_by_count}
use Rattle.mx_images.proofs.ToldLaws.{told_weaker}
use Rattle.mx_images.proofs.MomentLaws.{moments_may, moments_none, moments_one, moments_two, joined_from}

-- ---- bytes that were put after the others, and not synced

pub not_synced : (name more : List ℕ) (before middle after : Option (List Disk)) → IfKnown before (λ disk past. Became middle (appended name more disk) disk past)
    → IfKnown middle (λ disk past. Stayed after disk past)
    → IfKnown before (λ disk past. Stayed after disk past ⊎ ((count : ℕ) × Became after (appended name (take count more) disk) disk past))
not_synced name more before middle after became stayed = told_weaker before all became
  where
    all : (disk : Disk) (past : List Disk) → Became middle (appended name more disk) disk past
        → Stayed after disk past ⊎ ((count : ℕ) × Became after (appended name (take count more) disk) disk past)
    all disk past is =
        let same : Stayed after (appended name more disk) (disk ∷ past) = rw is at stayed in
        inr (length more, same ∙ ap (λ bytes. Some (appended name bytes disk ∷ disk ∷ past)) (sym (take_all (length more) more (omega arith))))

-- ---- a name that doesn't count

-- what else a name may be
pub get_older : (older : FinMap (slice_cmp nat_cmp) (List (Option File))) (name : List ℕ) (files : List (Option File)) (other : List ℕ)
    → same_bytes other name ≡ false → finite.get (finite.insert older name files) other ≡ finite.get older other
get_older older name files other differs =
    get-insert nat_list_cmp_total older name files other
    ∙ ap (λ same. cond same (Some files) (finite.get older other)) (is_eq-slice_cmp other name ∙ differs)

pub get_older_itself : (older : FinMap (slice_cmp nat_cmp) (List (Option File))) (name : List ℕ) (files : List (Option File))
    → finite.get (finite.insert older name files) name ≡ Some files
get_older_itself older name files =
    get-insert nat_list_cmp_total older name files name
    ∙ ap (λ same. cond same (Some files) (finite.get older name)) (is_eq-slice_cmp name name ∙ same_self name)

-- a name that is now, and was, the same, may be the same
pub same_outcomes : (other : List ℕ) (older newer : Disk) → finite.get newer.now other ≡ finite.get older.now other
    → finite.get newer.older other ≡ finite.get older.older other → outcomes other newer ≡ outcomes other older
same_outcomes other older newer now was =
    ap (λ file. file ∷ or_none (finite.get newer.older other)) now ∙ ap (λ files. finite.get older.now other ∷ or_none files) was

created_same : (name : List ℕ) (disk : Disk) → counts name ≡ false → CountsSame disk (created name disk)
created_same name disk not other counting =
    let differs = differs_by_count other name counting not in
    same_outcomes other disk (created name disk) (get_other disk.now name (synced_file []) other differs) (get_older disk.older name (outcomes name disk) other differs)

appended_same : (name more : List ℕ) (disk : Disk) → counts name ≡ false → CountsSame disk (appended name more disk)
appended_same name more disk not other counting =
    same_outcomes other disk (appended name more disk) (get_change_other (longer_by more) name disk.now other (differs_by_count other name counting not)) refl

synced_same : (name : List ℕ) (disk : Disk) → counts name ≡ false → CountsSame disk (file_synced name disk)
synced_same name disk not other counting =
    same_outcomes other disk (file_synced name disk)
    (get_change_other (λ file. synced_file file.bytes) name disk.now other (differs_by_count other name counting not)) refl

itself_same : (disk : Disk) → CountsSame disk disk
itself_same disk other counting = refl

chain_same : (first second third : Disk) → CountsSame first second → CountsSame second third → CountsSame first third
chain_same first second third one two other counting = two other counting ∙ one other counting

-- ---- a draft

abbrev pub KeepsCounting : (before after : Option (List Disk)) → Type 0
KeepsCounting before after = IfKnown before (λ disk past. Moments (CountsSame disk) CountsSame after disk past)

pub drafting_begun : (name : List ℕ) (before after : Option (List Disk)) → counts name ≡ false
    → IfKnown before (λ disk past. Stayed after disk past ⊎ Became after (created name disk) disk past) → KeepsCounting before after
drafting_begun name before after not = told_weaker before (λ disk past.
    moments_may (CountsSame disk) CountsSame (created name disk) after disk past (created_same name disk not) (created_same name disk not))

drafting_made : (name : List ℕ) (before after : Option (List Disk)) → counts name ≡ false
    → IfKnown before (λ disk past. Became after (created name disk) disk past) → KeepsCounting before after
drafting_made name before after not = told_weaker before (λ disk past.
    moments_one (CountsSame disk) CountsSame (created name disk) after disk past (created_same name disk not) (created_same name disk not))

drafting_then : (before middle after : Option (List Disk)) → KeepsCounting before middle → KeepsCounting middle after → KeepsCounting before after
drafting_then before middle after = joined_from CountsSame itself_same chain_same before middle after

-- bytes were put there, and synced
pub drafting_done : (name more : List ℕ) (before middle after : Option (List Disk)) → counts name ≡ false
    → IfKnown before (λ disk past. Became middle (created name disk) disk past)
    → IfKnown middle (λ disk past. after ≡ Some (with_appended name more disk ∷ appended name more disk ∷ disk ∷ past)) → KeepsCounting before after
drafting_done name more before middle after not made all =
    drafting_then before middle after (drafting_made name before middle not made) (told_weaker middle then all)
  where
    then : (disk : Disk) (past : List Disk) → after ≡ Some (with_appended name more disk ∷ appended name more disk ∷ disk ∷ past)
        → Moments (CountsSame disk) CountsSame after disk past
    then disk past =
        let first = appended_same name more disk not in
        let second = synced_same name (appended name more disk) not in
        moments_two (CountsSame disk) CountsSame (appended name more disk) (with_appended name more disk) after disk past first first
        (chain_same disk (appended name more disk) (with_appended name more disk) first second) second

-- a prefix of the bytes at most was put there
pub drafting_failed : (name more : List ℕ) (before middle after : Option (List Disk)) → counts name ≡ false
    → IfKnown before (λ disk past. Became middle (created name disk) disk past)
    → IfKnown middle (λ disk past. Stayed after disk past ⊎ ((count : ℕ) × Became after (appended name (take count more) disk) disk past))
    → KeepsCounting before after
drafting_failed name more before middle after not made some =
    drafting_then before middle after (drafting_made name before middle not made) (told_weaker middle then some)
  where
    then : (disk : Disk) (past : List Disk) → Stayed after disk past ⊎ ((count : ℕ) × Became after (appended name (take count more) disk) disk past)
        → Moments (CountsSame disk) CountsSame after disk past
    then disk past (inl stayed) = moments_none (CountsSame disk) CountsSame after disk past stayed
    then disk past (inr (count, became)) =
        let same = appended_same name (take count more) disk not in
        moments_one (CountsSame disk) CountsSame (appended name (take count more) disk) after disk past same same became
