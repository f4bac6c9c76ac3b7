-- Which changes of a directory add no crash image.
use Rattle.std.proofs.Common.{◌≡◌, ℕ, zero, suc, Bool, true, false, cond, ◌||◌, List, ◌∷◌, ◌++◌, length, take, drop, Any, Option, Some, None, refl, sym, ap, subst, ◌∙◌, append_assoc, arith}
use Rattle.std.proofs.lemmas.List.{take_all, take-append-drop}
use Rattle.std.specs.Prelude.{⊤}
use Rattle.std.specs.Ordering.{nat_cmp}
use Rattle.std.specs.Cmp.Lexicographic.{slice_cmp, bytes_decides, nat_list_cmp_total}
use Rattle.std.proofs.lemmas.Map.Text.{is_eq-slice_cmp}
use Rattle.std.specs.Option.{option_map}
use Rattle.std.specs.FinMap as finite
use Rattle.std.specs.FinMap.{get-empty, get-insert}
use Rattle.mx_outside.specs.Disks.{Disk, File, IfKnown, Leaves, outcomes, or_none, synced_file, file_synced, removed, names_synced}
use Rattle.mx_outside.specs.Moments.{Moments}
use Rattle.mx_xlog.specs.Reading.{blocks_of}
use Rattle.mx_files.specs.Names.{is_journal, is_snapshot, is_draft, same_bytes, counts}
use Rattle.mx_files.proofs.NameLaws.{draft_is_no_journal, draft_is_no_snapshot}
use Rattle.mx_images.specs.Changes.{KeepsOthers, SameContents}
use Rattle.mx_images.specs.Fair.{IsFairEnd, LeavesNoOther}
use Rattle.mx_images.proofs.ContentLaws.{contents_itself, whole, whole_contents}
use Rattle.mx_images.proofs.DiskLaws.{only_one, first_one}
use Rattle.mx_images.proofs.MomentLaws.{Steps, no_moments, seen_from, weaker}
use Rattle.mx_images.proofs.OtherLaws.{counts_ours, differs_by_count, draft_ours, names_others, removed_others, synced_others}
use Rattle.mx_images.proofs.ToldLaws.{told_weaker}
use Rattle.mx_recover.specs.Turns.{OnlyCleans}
use Rattle.mx_recover.proofs.TurnLaws.{at_synced, at_removed}

pub leaves_itself : (disk : Disk) → LeavesNoOther disk disk
leaves_itself disk image fair = fair

pub leaves_then : (first second third : Disk) → LeavesNoOther first second → LeavesNoOther second third → LeavesNoOther first third
leaves_then first second third one other image fair = one image (other image fair)

-- ---- a file that is synced

-- a crash image of the file when it is synced was one before
still_left : (was image : Option File) → Leaves IsFairEnd (whole was) image → Leaves IsFairEnd was image
still_left None image none = none
still_left (Some file) image (end, fair, is) = (
  drop file.synced file.bytes ++ end,
  λ head size header.
      let (count, blocks) = fair head size header in
      (count, ap (λ bytes. blocks_of (drop size bytes)) (same_bytes_left file.synced file.bytes end) ∙ blocks),
  is ∙ ap (λ bytes. Some (synced_file bytes)) (sym (same_bytes_left file.synced file.bytes end)),
)
  where
    same_bytes_left : (synced : ℕ) (bytes end : List ℕ) → take synced bytes ++ (drop synced bytes ++ end) ≡ take (length bytes) bytes ++ end
    same_bytes_left synced bytes end =
        sym (append_assoc (take synced bytes) (drop synced bytes) end)
        ∙ ap (λ all. all ++ end) (take-append-drop synced bytes ∙ sym (take_all (length bytes) bytes (omega arith)))

any_first : {X : Type 0} (P : X → Type 0) (x y : X) (xs : List X) → (P y → P x) → Any P (y ∷ xs) → Any P (x ∷ xs)
any_first P x y xs weaker (zero, z, below, is, shown) = (zero, x, omega arith, refl, weaker (subst P (sym is) shown))
any_first P x y xs weaker (suc k, z, below, is, shown) = (suc k, z, below, is, shown)

pub synced_leaves : (name : List ℕ) (disk : Disk) → LeavesNoOther disk (file_synced name disk)
synced_leaves name disk image fair q counted =
    any_first (λ was. Leaves IsFairEnd was (finite.get image q)) (finite.get disk.now q) (finite.get (file_synced name disk).now q)
    (or_none (finite.get disk.older q))
    (λ left. by_test (same_bytes q name)
    (subst (λ was. Leaves IsFairEnd was (finite.get image q)) (at_synced name q disk) left))
    (fair q counted)
  where
    by_test : (b : Bool) → Leaves IsFairEnd (cond b (whole (finite.get disk.now q)) (finite.get disk.now q)) (finite.get image q)
        → Leaves IsFairEnd (finite.get disk.now q) (finite.get image q)
    by_test true left = still_left (finite.get disk.now q) (finite.get image q) left
    by_test false left = left

-- ---- names that are synced, and a draft that is removed

pub names_leave : (disk : Disk) → LeavesNoOther disk (names_synced disk)
names_leave disk image fair q counted =
    let left = λ (was : Option File). Leaves IsFairEnd was (finite.get image q) in
    first_one left (finite.get disk.now q) (or_none (finite.get disk.older q))
    (only_one left (finite.get disk.now q)
    (subst (λ files. Any left (finite.get disk.now q ∷ or_none files)) (get-empty (slice_cmp nat_cmp) q) (fair q counted)))

draft_counts_not : (name : List ℕ) → is_draft name ≡ true → counts name ≡ false
draft_counts_not name draft = ap (λ b. b || is_snapshot name) (draft_is_no_journal name draft) ∙ draft_is_no_snapshot name draft

pub removed_leaves : (name : List ℕ) (disk : Disk) → is_draft name ≡ true → LeavesNoOther disk (removed name disk)
removed_leaves name disk draft image fair q counted =
    subst (Any (λ was. Leaves IsFairEnd was (finite.get image q))) (same (same_bytes q name) refl) (fair q counted)
  where
    same : (b : Bool) → same_bytes q name ≡ b → outcomes q (removed name disk) ≡ outcomes q disk
    same true is =
        let other : counts q ≡ false = ap counts ((bytes_decides q name).0 is) ∙ draft_counts_not name draft in
        absurd cc
    same false differs =
        let now : finite.get (removed name disk).now q ≡ finite.get disk.now q =
        at_removed name q disk ∙ ap (λ b. cond b None (finite.get disk.now q)) differs in
        let older : finite.get (removed name disk).older q ≡ finite.get disk.older q =
        get-insert nat_list_cmp_total disk.older name (outcomes name disk) q
        ∙ ap (λ b. cond b (Some (outcomes name disk)) (finite.get disk.older q)) (is_eq-slice_cmp q name ∙ differs) in
        ap (λ file. file ∷ or_none (finite.get (removed name disk).older q)) now
        ∙ ap (λ files. finite.get disk.now q ∷ or_none files) older

-- ---- what each call makes

synced_contents : (name : List ℕ) (disk : Disk) → SameContents disk.now (file_synced name disk).now
synced_contents name disk q counted =
    ap (option_map (λ (f : File). f.bytes)) (at_synced name q disk) ∙ by_test (same_bytes q name) (finite.get disk.now q)
  where
    by_test : (b : Bool) (file : Option File) → option_map (λ (f : File). f.bytes) (cond b (whole file) file) ≡ option_map (λ (f : File). f.bytes) file
    by_test true file = whole_contents file
    by_test false file = refl

removed_contents : (name : List ℕ) (disk : Disk) → is_draft name ≡ true → SameContents disk.now (removed name disk).now
removed_contents name disk draft q counted =
    let differs = differs_by_count q name counted (draft_counts_not name draft) in
    ap (option_map (λ (f : File). f.bytes)) (at_removed name q disk ∙ ap (λ b. cond b None (finite.get disk.now q)) differs)

pub synced_cleans : (name : List ℕ) (disk : Disk) → is_journal name ≡ true → OnlyCleans disk (file_synced name disk)
synced_cleans name disk is = record {
  leaves = synced_leaves name disk;
  reads = synced_contents name disk;
  others = synced_others name disk (counts_ours name (ap (λ b. b || is_snapshot name) is));
}

pub removed_cleans : (name : List ℕ) (disk : Disk) → is_draft name ≡ true → OnlyCleans disk (removed name disk)
removed_cleans name disk is = record {
  leaves = removed_leaves name disk is;
  reads = removed_contents name disk is;
  others = removed_others name disk (draft_ours name is) (draft_counts_not name is);
}

pub names_clean : (disk : Disk) → OnlyCleans disk (names_synced disk)
names_clean disk = record { leaves = names_leave disk; reads = contents_itself disk.now; others = names_others disk }

-- ---- calls

-- any crash image since was one before
abbrev pub LeaveNoOther : (old new : Option (List Disk)) → Type 0
LeaveNoOther old new = IfKnown old (λ disk past. Moments (LeavesNoOther disk) LeavesNoOther new disk past)

-- a call that changed nothing
pub same_leaves : (old new : Option (List Disk)) → new ≡ old → LeaveNoOther old new
same_leaves old new is = subst (λ states. LeaveNoOther old states) (sym is) (no_moments LeavesNoOther LeavesNoOther old)

pub clean_leaves : (old new : Option (List Disk)) → Steps OnlyCleans old new → LeaveNoOther old new
clean_leaves old new = told_weaker old (λ disk past cleans.
    seen_from LeavesNoOther leaves_itself leaves_then (λ state. ⊤) new disk past
    (weaker (λ state here. here) (λ older newer here step. step.leaves) new disk past cleans))

pub clean_others : (old new : Option (List Disk)) → Steps OnlyCleans old new → Steps KeepsOthers old new
clean_others old new = told_weaker old (λ disk past. weaker (λ state here. here) (λ older newer here step. step.others) new disk past)

pub clean_reads : (old new : Option (List Disk)) → Steps OnlyCleans old new → Steps (λ older newer. SameContents older.now newer.now) old new
clean_reads old new = told_weaker old (λ disk past. weaker (λ state here. here) (λ older newer here step. step.reads) new disk past)
