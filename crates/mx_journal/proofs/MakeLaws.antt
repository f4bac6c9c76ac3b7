-- Crash images where a draft gets a file's name.
use Rattle.std.proofs.Common.{◌≡◌, true, ◌||◌, sum, ap, ◌⊎◌, inl, inr, ℕ, zero, suc, ◌+◌, Bool, false, ◌&&◌, cond, List, [], ◌∷◌, ◌++◌, length, take, drop, Option, Some, None, Any, codes, refl, sym, ◌∙◌, arith}
use Rattle.std.proofs.lemmas.List.{length-append, append-nil, drop_all}
use Rattle.std.proofs.lemmas.Bool.{eqb-true}
use Rattle.std.proofs.Math.Seq.{take-length, drop-append-add}
use Rattle.std.specs.FinMap.{get-empty}
use Rattle.std.specs.Cmp.Lexicographic.{slice_cmp}
use Rattle.std.specs.Ordering.{nat_cmp}
use Rattle.mx_xlog.specs.declared.head.Head.{Head}
use Rattle.mx_files.specs.Names.{is_snapshot, counts, is_ours, draft_ending, is_numbered, same_bytes}
use Rattle.mx_files.proofs.NameLaws.{draft-is_draft, journal_name-is_journal}
use Rattle.mx_images.proofs.OtherLaws.{counts_ours, draft_ours, differs_by_count}
use Rattle.mx_journal.specs.Written.{name_of, draft_name_of}
use mathlib.Core.Bool.{true≢false}
use mathlib.Core.Path.{subst}
use Rattle.mx_outside.specs.Disks.{Disk, File, Files, IfKnown, KnownAlike, Became, Stayed, Leaves, synced_file, outcomes, or_none, names_synced, renamed, unsynced}
use Rattle.mx_outside.specs.Moments.{Moments}
use Rattle.mx_images.specs.Fair.{IsFair, IsFairEnd}
use Rattle.mx_images.specs.Changes.{SameBut, Changed, with_draft, renamed_durably, IsNow}
use Rattle.mx_journal.specs.Making.{CountsSame, HasMade, MayMakeFile}
use Rattle.mx_journal.proofs.CallLaws.{KeepsCounting, get_older, get_older_itself, same_outcomes}
use Rattle.mx_images.proofs.DiskLaws.{same_name, get_inserted, get_removed, get_drafted, get_moved, get_made, at_itself, only_one, first_one}
use Rattle.mx_images.proofs.FairLaws.{fair_nothing}
use Rattle.mx_images.proofs.MomentLaws.{moments_may, moments_two, joined_from, weaker}
use Rattle.mx_images.proofs.ToldLaws.{told_weaker, told_both, told_after, told_nothing, now_changed}
use Rattle.mx_xlog.specs.Headers.{IsHead, header_of}
use Rattle.mx_xlog.specs.Reading.{blocks_of}
use Rattle.mx_xlog.proofs.ReadingLaws.{blocks_of_nothing}
use Rattle.mx_xlog.specs.Files.{ReadsAs}
use Rattle.mx_journal.specs.Crashes.{HasBegun, MayBegin, read_of}
use Rattle.std.specs.FinMap as finite

-- ---- the name of a journal counts, and it and its draft's are ours

-- a journal's name counts
pub name_counts : (head : Head) → counts (name_of head) ≡ true
name_counts head = ap (λ test. test || is_snapshot (name_of head)) (journal_name-is_journal (sum head.clock))

pub name_ours : (head : Head) → is_ours (name_of head) ≡ true
name_ours head = counts_ours (name_of head) (name_counts head)

pub draft_name_ours : (head : Head) → is_ours (draft_name_of head) ≡ true
draft_name_ours head = draft_ours (draft_name_of head) (draft-is_draft (sum head.clock))

-- ---- a draft's name never counts

both : (a b : Bool) → (a && b) ≡ true → (a ≡ true) × (b ≡ true)
both true true is = (refl, refl)
both true false is = absurd cc
both false b is = absurd cc

draft_ends : (ending name : List ℕ) → length ending ≡ 5 → same_bytes (drop 6 draft_ending) ending ≡ false → is_numbered ending (name ++ draft_ending) ≡ false
draft_ends ending name five other = by_test (is_numbered ending (name ++ draft_ending)) refl
  where
    by_test : (test : Bool) → is_numbered ending (name ++ draft_ending) ≡ test → test ≡ false
    by_test false is = refl
    by_test true is =
        let parts = both _ (same_bytes (drop 20 (name ++ draft_ending)) ending) is in
        let long : length (name ++ draft_ending) ≡ 20 + length ending = eqb-true _ _ (both _ _ parts.0).0 in
        let place : 20 ≡ length name + 6 = omega (arith, long, length-append name draft_ending, five) in
        let behind : drop 20 (name ++ draft_ending) ≡ drop 6 draft_ending =
        ap (λ n. drop n (name ++ draft_ending)) place ∙ drop-append-add name draft_ending 6 in
        absurd (true≢false (sym parts.1 ∙ ap (λ bytes. same_bytes bytes ending) behind ∙ other))

pub draft_counts : (name : List ℕ) → counts (name ++ draft_ending) ≡ false
draft_counts name =
    ap (λ test. test || is_snapshot (name ++ draft_ending)) (draft_ends (codes ".xlog") name refl refl) ∙ draft_ends (codes ".snap") name refl refl

-- ---- a name in a crash image

abbrev Fair : Files → List ℕ → Option File → Type 0
Fair image name was = Leaves IsFairEnd was (finite.get image name)

first_or_later : (P : Option File → Type 0) (first : Option File) (others : List (Option File)) → Any P (first ∷ others) → P first ⊎ Any P others
first_or_later P first others (zero, file, inside, is, here) = inl (subst P (sym is) here)
first_or_later P first others (suc place, file, inside, is, here) = inr (place, file, omega (arith, inside), is, here)

-- where all names are durable, a name may be only what it is
alone : (name : List ℕ) (disk : Disk) → outcomes name (names_synced disk) ≡ finite.get disk.now name ∷ []
alone name disk = ap (λ older. finite.get disk.now name ∷ or_none older) (get-empty (slice_cmp nat_cmp) name)

-- the files with the least that a crash image has at this name, where it was this
abbrev least : List ℕ → Option File → Files → Files
least name None files = finite.remove files name
least name (Some file) files = finite.insert files name (synced_file (take file.synced file.bytes ++ []))

least_fair : (name : List ℕ) (was : Option File) (files : Files) → Fair (least name was files) name was
least_fair name None files = get_removed files name name ∙ at_itself name None (finite.get files name)
least_fair name (Some file) files =
    let left = synced_file (take file.synced file.bytes ++ []) in
    ([], fair_nothing file, get_inserted files name left name ∙ at_itself name (Some left) (finite.get files name))

least_other : (name : List ℕ) (was : Option File) (files : Files) (other : List ℕ) → same_bytes other name ≡ false
    → finite.get (least name was files) other ≡ finite.get files other
least_other name None files other differs =
    get_removed files name other ∙ ap (λ same. cond same None (finite.get files other)) differs
least_other name (Some file) files other differs =
    let left = synced_file (take file.synced file.bytes ++ []) in
    get_inserted files name left other ∙ ap (λ same. cond same (Some left) (finite.get files other)) differs

-- where all names but one are as in a crash image, and that one has the new file
made_from : (name bytes : List ℕ) (older : Disk) (image : Files)
    → ((other : List ℕ) → counts other ≡ true → same_bytes other name ≡ false → Any (Fair image other) (outcomes other older))
    → Fair image name (Some (synced_file bytes)) → HasMade name bytes older image
made_from name bytes older image others (end, fair, is) =
    let found = finite.get older.now name in
    let was = least name found image in (
      was,
      λ other counting. by_name other counting (same_bytes other name) refl,
      λ other counting differs. sym (least_other name found image other differs),
      end,
      fair,
      is ∙ ap (λ front. Some (synced_file (front ++ end))) (take-length bytes),
    )
  where
    itself : Any (Fair (least name (finite.get older.now name) image) name) (outcomes name older)
    itself = first_one _ (finite.get older.now name) (or_none (finite.get older.older name)) (least_fair name (finite.get older.now name) image)

    by_name : (other : List ℕ) → counts other ≡ true → (same : Bool) → same_bytes other name ≡ same
        → Any (Fair (least name (finite.get older.now name) image) other) (outcomes other older)
    by_name other counting true same =
        subst (λ q. Any (Fair (least name (finite.get older.now name) image) q) (outcomes q older)) (sym (same_name other name same)) itself
    by_name other counting false differs =
        subst (λ file. Any (λ was. Leaves IsFairEnd was file) (outcomes other older))
        (sym (least_other name (finite.get older.now name) image other differs)) (others other counting differs)

-- ---- what each call may make

itself_may : (name bytes : List ℕ) (disk : Disk) → MayMakeFile name bytes disk disk
itself_may name bytes disk image fair = inl fair

chain_may : (name bytes : List ℕ) (first second third : Disk) → MayMakeFile name bytes first second → MayMakeFile name bytes second third
    → MayMakeFile name bytes first third
chain_may name bytes first second third one two image fair = by_second (two image fair)
  where
    by_first : (was : Files) → IsFair first was ⊎ HasMade name bytes first was → SameBut name was image
        → (end : List ℕ) → IsFairEnd (synced_file bytes) end → finite.get image name ≡ Some (synced_file (bytes ++ end))
        → IsFair first image ⊎ HasMade name bytes first image
    by_first was (inl fair) same end ends is = inr (was, fair, same, end, ends, is)
    by_first was (inr (before, fair, earlier, left, lefts, had)) same end ends is =
        inr (before, fair, λ other counting differs. same other counting differs ∙ earlier other counting differs, end, ends, is)

    by_second : IsFair second image ⊎ HasMade name bytes second image → IsFair first image ⊎ HasMade name bytes first image
    by_second (inl fair) = one image fair
    by_second (inr (was, fair, same, end, ends, is)) = by_first was (one was fair) same end ends is

same_may : (name bytes : List ℕ) (older newer : Disk) → CountsSame older newer → MayMakeFile name bytes older newer
same_may name bytes older newer same image fair = inl (λ other counting. subst (Any (Fair image other)) (same other counting) (fair other counting))

synced_may : (name bytes : List ℕ) (disk : Disk) → MayMakeFile name bytes disk (names_synced disk)
synced_may name bytes disk image fair =
    inl (λ other counting. first_one (Fair image other) (finite.get disk.now other) (or_none (finite.get disk.older other))
    (only_one (Fair image other) (finite.get disk.now other) (subst (Any (Fair image other)) (alone other disk) (fair other counting))))

renamed_other : (from to : List ℕ) (disk : Disk) (file : File) (other : List ℕ) → finite.get disk.now from ≡ Some file
    → same_bytes other to ≡ false → same_bytes other from ≡ false → outcomes other (renamed from to disk) ≡ outcomes other disk
renamed_other from to disk file other is apart away =
    same_outcomes other disk (renamed from to disk)
    (get_moved from to disk.now file other is
    ∙ ap (λ same. cond same (Some file) (cond (same_bytes other from) None (finite.get disk.now other))) apart
    ∙ ap (λ same. cond same None (finite.get disk.now other)) away)
    (get_older (unsynced from disk).older to (outcomes to (unsynced from disk)) other apart
    ∙ get_older disk.older from (outcomes from disk) other away)

renamed_itself : (from to : List ℕ) (disk : Disk) (file : File) → finite.get disk.now from ≡ Some file → same_bytes to from ≡ false
    → outcomes to (renamed from to disk) ≡ Some file ∷ outcomes to disk
renamed_itself from to disk file is away =
    let now : finite.get (renamed from to disk).now to ≡ Some file =
    get_moved from to disk.now file to is ∙ at_itself to (Some file) (cond (same_bytes to from) None (finite.get disk.now to)) in
    let before : outcomes to (unsynced from disk) ≡ outcomes to disk =
    same_outcomes to disk (unsynced from disk) refl (get_older disk.older from (outcomes from disk) to away) in
    let was : finite.get (renamed from to disk).older to ≡ Some (outcomes to (unsynced from disk)) =
    get_older_itself (unsynced from disk).older to (outcomes to (unsynced from disk)) in
    ap (λ found. found ∷ or_none (finite.get (renamed from to disk).older to)) now
    ∙ ap (λ files. Some file ∷ or_none files) was ∙ ap (λ files. Some file ∷ files) before

-- a draft that is durable gets the name
renamed_may : (draft name bytes : List ℕ) (disk : Disk) → counts draft ≡ false → finite.get disk.now draft ≡ Some (synced_file bytes)
    → MayMakeFile name bytes disk (renamed draft name disk)
renamed_may draft name bytes disk not is image fair = by_count (counts name) refl
  where
    others : (other : List ℕ) → counts other ≡ true → same_bytes other name ≡ false → Any (Fair image other) (outcomes other disk)
    others other counting differs =
        subst (Any (Fair image other)) (renamed_other draft name disk (synced_file bytes) other is differs (differs_by_count other draft counting not))
        (fair other counting)

    by_name : Any (Fair image name) (outcomes name disk) → (other : List ℕ) → counts other ≡ true → (same : Bool) → same_bytes other name ≡ same
        → Any (Fair image other) (outcomes other disk)
    by_name before other counting true same = subst (λ q. Any (Fair image q) (outcomes q disk)) (sym (same_name other name same)) before
    by_name before other counting false differs = others other counting differs

    by_first : Fair image name (Some (synced_file bytes)) ⊎ Any (Fair image name) (outcomes name disk) → IsFair disk image ⊎ HasMade name bytes disk image
    by_first (inl made) = inr (made_from name bytes disk image others made)
    by_first (inr before) = inl (λ other counting. by_name before other counting (same_bytes other name) refl)

    by_count : (counting : Bool) → counts name ≡ counting → IsFair disk image ⊎ HasMade name bytes disk image
    by_count false none = inl (λ other counting. others other counting (differs_by_count other name counting none))
    by_count true counting =
        by_first (first_or_later (Fair image name) (Some (synced_file bytes)) (outcomes name disk)
        (subst (Any (Fair image name)) (renamed_itself draft name disk (synced_file bytes) is (differs_by_count name draft counting not)) (fair name counting)))

-- the file is there after any crash
made_there : (draft name bytes : List ℕ) (disk : Disk) → counts draft ≡ false → counts name ≡ true → (image : Files)
    → IsFair (renamed_durably draft name (with_draft draft bytes disk)) image → HasMade name bytes disk image
made_there draft name bytes disk not counting image fair =
    made_from name bytes disk image others
    (subst (Fair image name) (get_made draft name bytes disk name ∙ at_itself name (Some (synced_file bytes)) _) (now name counting))
  where
    now : (other : List ℕ) → counts other ≡ true → Fair image other (finite.get (renamed_durably draft name (with_draft draft bytes disk)).now other)
    now other counting =
        only_one (Fair image other) (finite.get (renamed_durably draft name (with_draft draft bytes disk)).now other)
        (subst (Any (Fair image other)) (alone other (renamed draft name (with_draft draft bytes disk))) (fair other counting))

    others : (other : List ℕ) → counts other ≡ true → same_bytes other name ≡ false → Any (Fair image other) (outcomes other disk)
    others other counting differs =
        let same : finite.get (renamed_durably draft name (with_draft draft bytes disk)).now other ≡ finite.get disk.now other =
        get_made draft name bytes disk other
        ∙ ap (λ same. cond same (Some (synced_file bytes)) (cond (same_bytes other draft) None (finite.get disk.now other))) differs
        ∙ ap (λ same. cond same None (finite.get disk.now other)) (differs_by_count other draft counting not) in
        first_one (Fair image other) (finite.get disk.now other) (or_none (finite.get disk.older other))
        (subst (Fair image other) same (now other counting))

-- ---- the states of a directory

abbrev pub MakesFile : (name bytes : List ℕ) → (before after : Option (List Disk)) → Type 0
MakesFile name bytes before after = IfKnown before (λ disk past. Moments (MayMakeFile name bytes disk) (MayMakeFile name bytes) after disk past)

-- while the draft is written
pub drafts_may : (name bytes : List ℕ) (before after : Option (List Disk)) → KeepsCounting before after → MakesFile name bytes before after
drafts_may name bytes before after =
    told_weaker before (λ disk past. weaker (same_may name bytes disk) (λ older newer here. same_may name bytes older newer) after disk past)

draft_there : (draft bytes : List ℕ) (before middle : Option (List Disk)) → KnownAlike before middle → Changed (with_draft draft bytes) before middle
    → IfKnown middle (λ disk past. finite.get disk.now draft ≡ Some (synced_file bytes))
draft_there draft bytes before middle alike made =
    told_after (with_draft draft bytes) before middle (λ disk. Unit {0}) (λ disk. finite.get disk.now draft ≡ Some (synced_file bytes)) alike made (told_nothing before)
    (λ disk none. get_drafted draft bytes disk draft ∙ at_itself draft (Some (synced_file bytes)) (finite.get disk.now draft))

-- while it gets its name, and that is synced
names_may : (draft name bytes : List ℕ) (middle after : Option (List Disk)) → counts draft ≡ false
    → IfKnown middle (λ disk past. finite.get disk.now draft ≡ Some (synced_file bytes))
    → IfKnown middle (λ disk past. after ≡ Some (renamed_durably draft name disk ∷ renamed draft name disk ∷ disk ∷ past)) → MakesFile name bytes middle after
names_may draft name bytes middle after not = told_both middle (λ disk past is.
    let first = renamed_may draft name bytes disk not is in
    let second = synced_may name bytes (renamed draft name disk) in
    moments_two (MayMakeFile name bytes disk) (MayMakeFile name bytes) (renamed draft name disk) (renamed_durably draft name disk) after disk past first first
    (chain_may name bytes disk (renamed draft name disk) (renamed_durably draft name disk) first second) second)

names_failed : (draft name bytes : List ℕ) (middle after : Option (List Disk)) → counts draft ≡ false
    → IfKnown middle (λ disk past. finite.get disk.now draft ≡ Some (synced_file bytes))
    → IfKnown middle (λ disk past. Stayed after disk past ⊎ Became after (renamed draft name disk) disk past) → MakesFile name bytes middle after
names_failed draft name bytes middle after not = told_both middle (λ disk past is.
    let first = renamed_may draft name bytes disk not is in
    moments_may (MayMakeFile name bytes disk) (MayMakeFile name bytes) (renamed draft name disk) after disk past first first)

-- both, where the draft's name is this
pub made_moments : (draft again name bytes : List ℕ) (before middle after : Option (List Disk)) → draft ≡ name ++ draft_ending → again ≡ name ++ draft_ending
    → KnownAlike before middle → Changed (with_draft draft bytes) before middle → KeepsCounting before middle
    → IfKnown middle (λ disk past. after ≡ Some (renamed_durably again name disk ∷ renamed again name disk ∷ disk ∷ past)) → MakesFile name bytes before after
made_moments draft again name bytes before middle after one two alike made keeps put =
    joined_from (MayMakeFile name bytes) (itself_may name bytes) (chain_may name bytes) before middle after (drafts_may name bytes before middle keeps)
    (names_may again name bytes middle after (ap counts two ∙ draft_counts name)
    (draft_there again bytes before middle alike (subst (λ d. Changed (with_draft d bytes) before middle) (one ∙ sym two) made)) put)

pub failed_moments : (draft again name bytes : List ℕ) (before middle after : Option (List Disk)) → draft ≡ name ++ draft_ending → again ≡ name ++ draft_ending
    → KnownAlike before middle → Changed (with_draft draft bytes) before middle → KeepsCounting before middle
    → IfKnown middle (λ disk past. Stayed after disk past ⊎ Became after (renamed again name disk) disk past) → MakesFile name bytes before after
failed_moments draft again name bytes before middle after one two alike made keeps put =
    joined_from (MayMakeFile name bytes) (itself_may name bytes) (chain_may name bytes) before middle after (drafts_may name bytes before middle keeps)
    (names_failed again name bytes middle after (ap counts two ∙ draft_counts name)
    (draft_there again bytes before middle alike (subst (λ d. Changed (with_draft d bytes) before middle) (one ∙ sym two) made)) put)

-- a draft has the header that was put into it
pub drafted_header : (draft again bytes : List ℕ) (before middle : Option (List Disk)) (head : Head) → bytes ≡ header_of head → draft ≡ again
    → KnownAlike before middle → Changed (with_draft draft bytes) before middle
    → IfKnown middle (λ disk past. finite.get disk.now again ≡ Some (synced_file (header_of head)))
drafted_header draft again bytes before middle head is same alike made =
    told_weaker middle (λ disk past there. there ∙ ap (λ b. Some (synced_file b)) is)
    (draft_there again bytes before middle alike (subst (λ d. Changed (with_draft d bytes) before middle) same made))

-- at the end
pub there_now : (name bytes : List ℕ) (before after : Option (List Disk)) → counts name ≡ true
    → Changed (λ disk. renamed_durably (name ++ draft_ending) name (with_draft (name ++ draft_ending) bytes disk)) before after
    → IfKnown before (λ disk past. IsNow after (λ now. (image : Files) → IsFair now image → HasMade name bytes disk image))
there_now name bytes before after counting = told_weaker before (λ disk past step.
    now_changed (renamed_durably (name ++ draft_ending) name (with_draft (name ++ draft_ending) bytes disk)) after step
    (made_there (name ++ draft_ending) name bytes disk (draft_counts name) counting))

-- ---- crash images while a journal is begun

take_none : (count : ℕ) → ◌≡◌ {A = List (List ℕ)} (take count []) []
take_none zero = refl
take_none (suc count) = refl

-- after a header a crash image has no block
header_alone : (head : Head) (end : List ℕ) → IsHead head → IsFairEnd (synced_file (header_of head)) end
    → ReadsAs (header_of head ++ end) (Some (read_of head []))
header_alone head end fits fair =
    let header = header_of head in
    let left = fair head (length header) record { fits = fits; sized = refl; begins = ([], sym (append-nil header)) } in
    let none : take left.0 (blocks_of (drop (length header) header)) ≡ [] =
    ap (λ bytes. take left.0 (blocks_of bytes)) (drop_all (length header) header (omega arith)) ∙ ap (take left.0) blocks_of_nothing ∙ take_none left.0 in (
      record { fits = fits; sized = refl; begins = (end, refl) },
      sym (ap (λ front. blocks_of (drop (length header) (front ++ end))) (sym (take-length header)) ∙ left.1 ∙ none),
    )

has_begun : (head : Head) (disk : Disk) (image : Files) → IsHead head → HasMade (name_of head) (header_of head) disk image → HasBegun head disk image
has_begun head disk image fits (was, fair, same, end, ends, is) =
    (was, fair, same, ([], record { together = refl; fit = tt }, synced_file (header_of head ++ end), is, header_alone head end fits ends))

may_begin : (head : Head) (older newer : Disk) → IsHead head → MayMakeFile (name_of head) (header_of head) older newer → MayBegin head older newer
may_begin head older newer fits may image fair = by_file (may image fair)
  where
    by_file : IsFair older image ⊎ HasMade (name_of head) (header_of head) older image → IsFair older image ⊎ HasBegun head older image
    by_file (inl before) = inl before
    by_file (inr made) = inr (has_begun head older image fits made)

-- ---- the states of a directory

pub begins_moments : (head : Head) (name bytes : List ℕ) (before after : Option (List Disk)) → IsHead head → name ≡ name_of head → bytes ≡ header_of head
    → MakesFile name bytes before after → IfKnown before (λ disk past. Moments (MayBegin head disk) (MayBegin head) after disk past)
begins_moments head name bytes before after fits named same makes =
    told_weaker before (λ disk past. weaker (λ newer. may_begin head disk newer fits) (λ older newer here. may_begin head older newer fits) after disk past)
    (subst (λ n. MakesFile n (header_of head) before after) named (subst (λ b. MakesFile name b before after) same makes))

pub begun_there : (head : Head) (name bytes : List ℕ) (before after : Option (List Disk)) → IsHead head → name ≡ name_of head → bytes ≡ header_of head
    → IfKnown before (λ disk past. IsNow after (λ now. (image : Files) → IsFair now image → HasMade name bytes disk image))
    → IfKnown before (λ disk past. IsNow after (λ now. (image : Files) → IsFair now image → HasBegun head disk image))
begun_there head name bytes before after fits named same = told_weaker before begun
  where
    begun : (disk : Disk) (past : List Disk) → IsNow after (λ now. (image : Files) → IsFair now image → HasMade name bytes disk image)
        → IsNow after (λ now. (image : Files) → IsFair now image → HasBegun head disk image)
    begun disk past (now, others, told, made) = (
      now,
      others,
      told,
      λ image fair. has_begun head disk image fits
          (subst (λ n. HasMade n (header_of head) disk image) named (subst (λ b. HasMade name b disk image) same (made image fair))),
    )
