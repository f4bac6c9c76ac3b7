-- What a change more, or a call that fails, makes of the states of a directory in memory.
use Rattle.std.proofs.Common.{◌≡◌, ℕ, List, [], ◌∷◌, ◌++◌, Option, None, Some, Result, Ok, Err, refl, sym, ap, ◌∙◌, length, take, ◌<◌, ◌+◌, get_or, IfSome, IsSome, Bor, drop, min, ◌-◌, ◌≤◌, inr, arith, MatchResult, OnOk, OnErr, ◌⊎◌, inl, subst}
use Rattle.std.proofs.lemmas.List.{take_more, length-drop}
use Rattle.std.proofs.lemmas.Bool.{cases_lt}
use Rattle.std.specs.Option.{option_copied}
use mathlib.Core.Bool.{true≢false}
use Rattle.mx_outside.specs.Disks.{File, ReadsAt, Disk, AnyEnd, IsImage, Became, Stayed, IfKnown, IsKnown, KnownAlike, Makes, Appends, appended}
use Rattle.mx_fake.specs.Changes.{step, replay, states_from, states_after, no_files, MayLeave, MakesOrLeaves}
use Rattle.mx_fake.specs.declared.change.Change.{Change}

known_from : (disk : Disk) (past : List Disk) (changes : List Change) → IsKnown (Some (states_from disk past changes))
known_from disk past [] = (disk, past, refl)
known_from disk past (change ∷ changes) = known_from (step change disk) (disk ∷ past) changes

-- the states are always known
pub known_alike : (before now : List Change) → KnownAlike (Some (states_after before)) (Some (states_after now))
known_alike before now = (λ _. known_from no_files [] now, λ _. known_from no_files [] before)

more_from : (start : Disk) (earlier : List Disk) (changes : List Change) (change : Change) (disk : Disk) (past : List Disk)
    → states_from start earlier changes ≡ disk ∷ past → states_from start earlier (changes ++ change ∷ []) ≡ step change disk ∷ disk ∷ past
more_from start earlier [] change disk past is = ap (λ states. newest states ∷ states) is
  where
    newest : List Disk → Disk
    newest [] = step change disk
    newest (d ∷ _) = step change d
more_from start earlier (first ∷ changes) change disk past is = more_from (step first start) (start ∷ earlier) changes change disk past is

same_some : {A : Type 0} {x y : A} → Some x ≡ Some y → x ≡ y
same_some is = cc

-- a change more is a state more
pub one_more : (changes : List Change) (change : Change) (disk : Disk) (past : List Disk)
    → Some (states_after changes) ≡ Some (disk ∷ past) → Some (states_after (changes ++ change ∷ [])) ≡ Some (step change disk ∷ disk ∷ past)
one_more changes change disk past is = ap Some (more_from no_files [] changes change disk past (same_some is))

-- what is to be shown of the newest state
pub where_known : (states : Option (List Disk)) (P : Disk → List Disk → Type 0) → ((disk : Disk) (past : List Disk) → states ≡ Some (disk ∷ past) → P disk past) → IfKnown states P
where_known None P shown = tt
where_known (Some []) P shown = tt
where_known (Some (disk ∷ past)) P shown = shown disk past refl

pub known_weaker : (states : Option (List Disk)) {P Q : Disk → List Disk → Type 0} → ((disk : Disk) (past : List Disk) → P disk past → Q disk past) → IfKnown states P → IfKnown states Q
known_weaker None weaker shown = tt
known_weaker (Some []) weaker shown = tt
known_weaker (Some (disk ∷ past)) weaker shown = weaker disk past shown

-- a call that was noted made its change
pub made_ok : (changes now : List Change) (change : Change) (f : Disk → Disk) → step change ≡ f → now ≡ changes ++ change ∷ []
    → IfKnown (Some (states_after changes)) (λ disk past. Became (Some (states_after now)) (f disk) disk past)
made_ok changes now change f is pushed = where_known _ _ (λ disk past told.
    ap (λ cs. Some (states_after cs)) pushed ∙ one_more changes change disk past told ∙ ap (λ g. Some (g disk ∷ disk ∷ past)) is)

pub made_none : (changes now : List Change) → now ≡ changes
    → IfKnown (Some (states_after changes)) (λ disk past. Stayed (Some (states_after now)) disk past)
made_none changes now same = where_known _ _ (λ disk past told. ap (λ cs. Some (states_after cs)) same ∙ told)

-- what a call that failed may have left
pub left_none : (changes now : List Change) (f : Disk → Disk) → now ≡ changes → MayLeave f (Some (states_after changes)) (Some (states_after now))
left_none changes now f same = known_weaker (Some (states_after changes)) (λ disk past stayed. inl stayed) (made_none changes now same)

pub left_some : {T E : Type 0} (result : Result T E) (changes now : List Change) (change : Change) (f : Disk → Disk) → step change ≡ f
    → OnOk result (now ≡ changes ++ change ∷ []) → OnErr result (now ≡ changes) → MayLeave f (Some (states_after changes)) (Some (states_after now))
left_some (Ok x) changes now change f is pushed none =
    known_weaker (Some (states_after changes)) (λ disk past became. inr became) (made_ok changes now change f is pushed)
left_some (Err e) changes now change f is pushed none = left_none changes now f none

module _ {T E : Type 0} (before now : Option (List Disk)) (result : Result T E) where
  pub makes_whole : (f g : Disk → Disk) → Makes f before now result → MakesOrLeaves f g before now result
  makes_whole f g = known_weaker before (λ disk past. by_result disk past result)
    where
      by_result : (disk : Disk) (past : List Disk) (result : Result T E)
          → MatchResult result (λ _. Became now (f disk) disk past) (λ _. Stayed now disk past)
          → MatchResult result (λ _. Became now (f disk) disk past) (λ _. Stayed now disk past ⊎ Became now (g disk) disk past)
      by_result disk past (Ok x) made = made
      by_result disk past (Err e) stayed = inl stayed

  pub appends : (name more : List ℕ) (count : ℕ) → MakesOrLeaves (appended name more) (appended name (take count more)) before now result
      → Appends name more before now result
  appends name more count = known_weaker before (λ disk past. by_result disk past result)
    where
      by_result : (disk : Disk) (past : List Disk) (result : Result T E)
          → MatchResult result (λ _. Became now (appended name more disk) disk past)
          (λ _. Stayed now disk past ⊎ Became now (appended name (take count more) disk) disk past)
          → MatchResult result (λ _. Became now (appended name more disk) disk past)
          (λ _. Stayed now disk past ⊎ ((count : ℕ) × Became now (appended name (take count more) disk) disk past))
      by_result disk past (Ok x) made = made
      by_result disk past (Err e) (inl stayed) = inl stayed
      by_result disk past (Err e) (inr became) = inr (count, became)

  pub crashes : (f : Disk → Disk) → ((disk : Disk) → IsImage AnyEnd disk (f disk)) → Makes f before now result
      → IfKnown before (λ disk past. MatchResult result (λ _. (image : Disk) × IsImage AnyEnd disk image × Became now image disk past) (λ _. Stayed now disk past))
  crashes f left = known_weaker before (λ disk past. by_result disk past result)
    where
      by_result : (disk : Disk) (past : List Disk) (result : Result T E)
          → MatchResult result (λ _. Became now (f disk) disk past) (λ _. Stayed now disk past)
          → MatchResult result (λ _. (image : Disk) × IsImage AnyEnd disk image × Became now image disk past) (λ _. Stayed now disk past)
      by_result disk past (Ok x) made = (f disk, left disk, made)
      by_result disk past (Err e) stayed = stayed

states_end : (disk : Disk) (past : List Disk) (changes : List Change) → (earlier : List Disk) × (states_from disk past changes ≡ replay disk changes ∷ earlier)
states_end disk past [] = (past, refl)
states_end disk past (change ∷ changes) = states_end (step change disk) (disk ∷ past) changes

-- the newest state is the one after all changes
pub newest_after : (changes : List Change) (disk : Disk) (past : List Disk) → Some (states_after changes) ≡ Some (disk ∷ past) → replay no_files changes ≡ disk
newest_after changes disk past is =
    let ended = states_end no_files [] changes in
    first (sym ended.1 ∙ same_some is)
  where
    first : {x y : Disk} {xs ys : List Disk} → x ∷ xs ≡ y ∷ ys → x ≡ y
    first same = cc

-- one change more
pub after_push : (disk : Disk) (changes : List Change) (change : Change) → replay disk (changes ++ change ∷ []) ≡ step change (replay disk changes)
after_push disk [] change = refl
after_push disk (first ∷ changes) change = after_push (step first disk) changes change

pub step_taken : (all : List Change) (i : ℕ) (change : Change) → i < length all → change ≡ get_or all i change
    → replay no_files (take (i + 1) all) ≡ step change (replay no_files (take i all))
step_taken all i change inside is =
    ap (replay no_files) (take_more all i change inside) ∙ after_push no_files (take i all) (get_or all i change)
    ∙ ap (λ c. step c (replay no_files (take i all))) (sym is)

-- how long a file is
pub sized : (found : Option File) (bytes : List ℕ) → IfSome found (λ file. bytes ≡ file.bytes) → IfSome found (λ file. length bytes ≡ length file.bytes)
sized None bytes same = tt
sized (Some file) bytes same = ap length same

reads : (file : File) (bytes rest before new : List ℕ) (at count : ℕ) → bytes ≡ file.bytes → rest ≡ drop at bytes
    → count ≡ min (length rest) (length before) → new ≡ take count rest → ReadsAt file at before (new ++ drop count before) count
reads file bytes rest before new at count same behind least copied =
    let is : rest ≡ drop at file.bytes = behind ∙ ap (drop at) same in
    let left : length rest ≡ length file.bytes - at = ap length is ∙ length-drop at file.bytes in
    record {
      room = omega (arith, least);
      there = omega (arith, least, left);
      bytes = ap (λ front. front ++ drop count before) (copied ∙ ap (take count) is);
      some = λ none. by_room none left (cases_lt 0 (length before));
    }
  where
    by_room : count ≡ 0 → length rest ≡ length file.bytes - at → (0 < length before) ⊎ (length before ≤ 0) → (length before ≡ 0) ⊎ (length file.bytes ≤ at)
    by_room none left (inl some) = inr (omega (arith, least, none, left, some))
    by_room none left (inr full) = inl (omega (arith, full))

-- what is read of a file
pub reads_there : (found : Option File) (bytes rest before new : List ℕ) (at count : ℕ) → IfSome found (λ file. bytes ≡ file.bytes)
    → rest ≡ drop at bytes → count ≡ min (length rest) (length before) → new ≡ take count rest
    → IfSome found (λ file. ReadsAt file at before (new ++ drop count before) count)
reads_there None bytes rest before new at count same behind least copied = tt
reads_there (Some file) bytes rest before new at count same behind least copied = reads file bytes rest before new at count same behind least copied

pub seen_there : (seen : Option (Bor File)) (found : Option File) → IsSome seen → option_copied seen ≡ found → IsSome found
seen_there None found there is = absurd (true≢false (sym there))
seen_there (Some x) found there is = rw (sym is) refl

pub there_seen : (seen : Option (Bor File)) (found : Option File) → IsSome found → option_copied seen ≡ found → IsSome seen
there_seen None found there is = absurd (true≢false (sym (rw (sym is) at there)))
there_seen (Some x) found there is = refl

-- what holds of the newest state
pub of_newest : (changes : List Change) (P : Disk → List Disk → Type 0) (Q : Type 0)
    → ((disk : Disk) (past : List Disk) → Some (states_after changes) ≡ Some (disk ∷ past) → P disk past → Q) → IfKnown (Some (states_after changes)) P → Q
of_newest changes P Q shown holds =
    let ended = states_end no_files [] changes in
    let told = ap Some ended.1 in
    shown (replay no_files changes) ended.0 told (subst (λ states. IfKnown states P) told holds)
