-- What one file more makes of what a directory's journals recover to.
use Rattle.std.proofs.Common.{◌≡◌, ℕ, Bool, true, false, cond, List, [], ◌∷◌, ◌++◌, Option, Some, None, is_some, IsSome, Result, Ok, Err, refl, sym, ap, ◌∙◌, subst, inl, inr}
use Rattle.std.specs.Prelude.{IfSome, OnOk}
use Rattle.std.specs.List.{filter, last_or, AllByRecursion}
use Rattle.std.specs.Ordering.{eq_by_cmp}
use Rattle.std.specs.Cmp.Lexicographic.{bytes_decides}
use Rattle.std.specs.FinMap as finite
use Rattle.std.specs.FinMap.{get-entries}
use Rattle.std.specs.FinMap.Entries.{find}
use Rattle.std.proofs.lemmas.List.{append-nil, append_assoc}
use Rattle.std.proofs.lemmas.List.Elements.{filter-append}
use Rattle.std.proofs.lemmas.Result.{on_ok_weaker}
use Rattle.std.proofs.lemmas.Map.Text.{is_eq-slice_cmp}
use Rattle.mx_outside.specs.Disks.{Disk, File, Files, IfKnown, IsThere, OfFile}
use Rattle.mx_directory.specs.declared.damage.Damage.{Damage}
use Rattle.mx_directory.specs.Directories.{Named, Reached, ReadAll, IsDirectoryState, nothing_yet, and_then, after_file, after_files, directory_state}
use Rattle.mx_xlog.specs.Files.{FileRead, ReadsAs}
use Rattle.mx_files.specs.Names.{is_journal, is_snapshot}
use Rattle.mx_directory.proofs.DirectoryLaws.{by_name, names_in, names_of, after_files-append, append_all, map-append}
use Rattle.mx_directory.proofs.OnceLaws.{IsListed, all_there, each_read}
use Rattle.mx_images.proofs.ToldLaws.{where_told, told_weaker, told_both}
use Rattle.mx_recover.specs.Replay.{Passes, IsUnderway}

-- Each name of a directory has a file.

found_there : (es : List (List ℕ × File)) (name : List ℕ) (passed others : List (List ℕ)) → passed ++ name ∷ others ≡ names_in es
    → is_some (find by_name name es) ≡ true
found_there [] name [] others is = absurd cc
found_there [] name (first ∷ passed) others is = absurd cc
found_there (e ∷ es) name [] others is =
    let same : name ≡ e.0 = cc in
    ap (λ b. is_some (cond b (Some e.1) (find by_name name es))) (is_eq-slice_cmp name e.0 ∙ (bytes_decides name e.0).1 same)
found_there (e ∷ es) name (first ∷ passed) others is = by_test (found_there es name passed others cc) (eq_by_cmp by_name name e.0)
  where
    by_test : is_some (find by_name name es) ≡ true → (b : Bool) → is_some (cond b (Some e.1) (find by_name name es)) ≡ true
    by_test behind true = refl
    by_test behind false = behind

pub there : (found : Files) (name : List ℕ) (passed others : List (List ℕ)) → passed ++ name ∷ others ≡ finite.keys found → IsSome (finite.get found name)
there found name passed others is = ap is_some (get-entries found name) ∙ found_there (finite.entries found) name passed others is

-- A name more.

filter-other : (name : List ℕ) (passed : List (List ℕ)) → is_journal name ≡ false → filter is_journal (passed ++ name ∷ []) ≡ filter is_journal passed
filter-other name passed other =
    filter-append is_journal passed (name ∷ [])
    ∙ ap (λ b. filter is_journal passed ++ cond b (name ∷ []) []) other
    ∙ append-nil (filter is_journal passed)

filter-more : (name : List ℕ) (passed : List (List ℕ)) → is_journal name ≡ true → filter is_journal (passed ++ name ∷ []) ≡ filter is_journal passed ++ name ∷ []
filter-more name passed journal =
    filter-append is_journal passed (name ∷ [])
    ∙ ap (λ b. filter is_journal passed ++ cond b (name ∷ []) []) journal

moved_on : (name : List ℕ) (passed others keys : List (List ℕ)) → passed ++ name ∷ others ≡ keys → (passed ++ name ∷ []) ++ others ≡ keys
moved_on name passed others keys is = append_assoc passed (name ∷ []) others ∙ is

then_last : (outcome : Result Reached Damage) → and_then (after_files []) outcome ≡ outcome
then_last (Ok reached) = refl
then_last (Err damage) = refl

-- one file more after those read
one_more : (journals : List Named) (file : Named) (before : Reached) (outcome : Result Reached Damage) → after_files journals nothing_yet ≡ Ok before
    → after_file file before ≡ outcome → after_files (journals ++ file ∷ []) nothing_yet ≡ outcome
one_more journals file before outcome so_far is =
    after_files-append journals (file ∷ []) nothing_yet
    ∙ ap (and_then (after_files (file ∷ []))) so_far
    ∙ then_last (after_file file before)
    ∙ is

pub at_first : (found : Files) (names : List (List ℕ)) → names ≡ finite.keys found → IsUnderway found names nothing_yet
at_first found names all = record { passed = []; journals = []; split = all; names = refl; each = tt; after = refl }

pub one_passed : (found : Files) (name : List ℕ) (others : List (List ℕ)) (before after : Reached) → IsUnderway found (name ∷ others) before
    → Passes found name before (Ok after) → IsUnderway found others after
one_passed found name others before after way (inl other) = record {
  passed = way.passed ++ name ∷ [];
  journals = way.journals;
  split = moved_on name way.passed others (finite.keys found) way.split;
  names = way.names ∙ sym (filter-other name way.passed other.0);
  each = way.each;
  after = way.after ∙ sym other.1;
}
one_passed found name others before after way (inr (journal, read, reads, is)) = record {
  passed = way.passed ++ name ∷ [];
  journals = way.journals ++ (name, read) ∷ [];
  split = moved_on name way.passed others (finite.keys found) way.split;
  names = map-append way.journals ((name, read) ∷ []) ∙ ap (λ names. names ++ name ∷ []) way.names ∙ sym (filter-more name way.passed journal);
  each = append_all (λ (file : Named). IfSome (finite.get found file.0) (λ (f : File). ReadsAs f.bytes file.1)) way.journals (name, read) way.each reads;
  after = one_more way.journals (name, read) before (Ok after) way.after is;
}

-- The outcome.

last_there : (name : List ℕ) (names : List (List ℕ)) → (last : List ℕ) × (last_or (Some name) names ≡ Some last)
last_there name [] = (name, refl)
last_there name (next ∷ names) = last_there next names

-- without a last name there is none
pub none_last : (names : List (List ℕ)) → None ≡ last_or None names → names ≡ []
none_last [] is = refl
none_last (name ∷ names) is = let last = (last_there name names).1 in absurd cc

no_snapshot : (snapshots : List (List ℕ)) (journals : List Named) (outcome : Result Reached Damage) → snapshots ≡ [] → after_files journals nothing_yet ≡ outcome
    → outcome ≡ directory_state snapshots journals
no_snapshot snapshots journals outcome none is = sym is ∙ ap (λ names. directory_state names journals) (sym none)

pub all_passed : (found : Files) (reached : Reached) → filter is_snapshot (finite.keys found) ≡ [] → IsUnderway found [] reached
    → IsDirectoryState found (Ok reached)
all_passed found reached none way = record {
  journals = way.journals;
  names = way.names ∙ ap (filter is_journal) (sym (append-nil way.passed) ∙ way.split);
  each = way.each;
  is = no_snapshot (filter is_snapshot (finite.keys found)) way.journals (Ok reached) none way.after;
}

-- after a damage nothing counts
damaged_already : (journals more : List Named) (damage : Damage) → after_files journals nothing_yet ≡ Err damage
    → after_files (journals ++ more) nothing_yet ≡ Err damage
damaged_already journals more damage is = after_files-append journals more nothing_yet ∙ ap (and_then (after_files more)) is

both_read : (found : Files) (journals more : List Named) → ReadAll found journals → ReadAll found more → ReadAll found (journals ++ more)
both_read found [] more reads others = others
both_read found (file ∷ journals) more reads others = (reads.0, both_read found journals more reads.1 others)

-- what holds of each of these names holds of the last ones
all_last : (P : List ℕ → Type 0) (names more : List (List ℕ)) → AllByRecursion P (names ++ more) → AllByRecursion P more
all_last P [] more all = all
all_last P (name ∷ names) more all = all_last P names more all.1

pub one_damaged : (found : Files) (name : List ℕ) (others : List (List ℕ)) (before : Reached) (damage : Damage)
    → filter is_snapshot (finite.keys found) ≡ [] → IsUnderway found (name ∷ others) before
    → Passes found name before (Err damage) → IsDirectoryState found (Err damage)
one_damaged found name others before damage none way (inl other) = absurd cc
one_damaged found name others before damage none way (inr (journal, read, reads, is)) =
    let split : filter is_journal (way.passed ++ name ∷ []) ++ filter is_journal others ≡ filter is_journal (finite.keys found) =
    sym (filter-append is_journal (way.passed ++ name ∷ []) others)
    ∙ ap (filter is_journal) (moved_on name way.passed others (finite.keys found) way.split) in
    let there = all_last (IsListed found) (filter is_journal (way.passed ++ name ∷ [])) (filter is_journal others)
    (subst (AllByRecursion (IsListed found)) (sym split) (all_there found is_journal)) in
    let more = each_read found (filter is_journal others) there in
    let journals = way.journals ++ (name, read) ∷ [] in record {
      journals = journals ++ more.0;
      names = map-append journals more.0
          ∙ ap (λ names. names ++ names_of more.0)
          (map-append way.journals ((name, read) ∷ []) ∙ ap (λ names. names ++ name ∷ []) way.names ∙ sym (filter-more name way.passed journal))
          ∙ ap (λ names. filter is_journal (way.passed ++ name ∷ []) ++ names) more.1
          ∙ split;
      each = both_read found journals more.0
          (append_all (λ (file : Named). IfSome (finite.get found file.0) (λ (f : File). ReadsAs f.bytes file.1)) way.journals (name, read) way.each reads)
          more.2;
      is = no_snapshot (filter is_snapshot (finite.keys found)) (journals ++ more.0) (Err damage) none
          (damaged_already journals more.0 damage (one_more way.journals (name, read) before (Err damage) way.after is));
    }

-- a snapshot is damage enough
pub snapshot_damaged : (found : Files) (damage : Damage)
    → ((journals : List Named) → directory_state (filter is_snapshot (finite.keys found)) journals ≡ Err damage) → IsDirectoryState found (Err damage)
snapshot_damaged found damage is =
    let all = each_read found (filter is_journal (finite.keys found)) (all_there found is_journal) in
    record { journals = all.0; names = all.1; each = all.2; is = sym (is all.0) }

-- The same where the directory's files are known.

pub passed_by : (states : Option (List Disk)) (name : List ℕ) (before : Reached) → is_journal name ≡ false
    → IfKnown states (λ disk past. Passes disk.now name before (Ok before))
passed_by states name before other = where_told states (λ disk past. Passes disk.now name before (Ok before)) (λ disk past told. inl (other, refl))

same_read : (found : Option File) (bytes : List ℕ) (read : Option FileRead) → IfSome found (λ (file : File). bytes ≡ file.bytes) → ReadsAs bytes read
    → IfSome found (λ (file : File). ReadsAs file.bytes read)
same_read None bytes read same reads = tt
same_read (Some file) bytes read same reads = subst (λ b. ReadsAs b read) same reads

pub file_passes : (states : Option (List Disk)) (name bytes : List ℕ) (read : Option FileRead) (before : Reached) (outcome : Result Reached Damage)
    → is_journal name ≡ true → OfFile states name (λ file. bytes ≡ file.bytes) → ReadsAs bytes read → after_file (name, read) before ≡ outcome
    → IfKnown states (λ disk past. Passes disk.now name before outcome)
file_passes states name bytes read before outcome journal same reads is =
    told_weaker states (λ disk past found. inr (journal, read, same_read (finite.get disk.now name) bytes read found reads, is)) same

pub took : {E : Type 0} (states : Option (List Disk)) (name bytes given : List ℕ) (before : Reached) (Now : Reached → Type 0) (result : Result (Unit {0}) E)
    → is_journal name ≡ true → OfFile states name (λ file. bytes ≡ file.bytes) → given ≡ bytes
    → OnOk result ((read : FileRead) × ReadsAs given (Some read) × ((after : Reached) × (after_file (name, Some read) before ≡ Ok after) × Now after))
    → OnOk result ((after : Reached) × Now after × IfKnown states (λ disk past. Passes disk.now name before (Ok after)))
took states name bytes given before Now result journal same given_is taken = on_ok_weaker result
    (λ t. (t.2.0, t.2.2, file_passes states name bytes (Some t.0) before (Ok t.2.0) journal same (subst (λ b. ReadsAs b (Some t.0)) given_is t.1) t.2.1)) taken

pub begins : (states : Option (List Disk)) (names : List (List ℕ)) → IfKnown states (λ disk past. names ≡ finite.keys disk.now)
    → IfKnown states (λ disk past. IsUnderway disk.now names nothing_yet)
begins states names all = told_weaker states (λ disk past is. at_first disk.now names is) all

-- the names yet to come, whose first one is known
module _ (states now : Option (List Disk)) (rest others : List (List ℕ)) (name called : List ℕ) (next : rest ≡ name ∷ others) (same : called ≡ name)
    (alike : now ≡ states) (before : Reached) (way : IfKnown states (λ disk past. IsUnderway disk.now rest before)) where
  way_called : IfKnown states (λ disk past. IsUnderway disk.now (called ∷ others) before)
  way_called = subst (λ left. IfKnown states (λ disk past. IsUnderway disk.now left before)) (next ∙ ap (λ n. n ∷ others) (sym same)) way

  pub is_there : IsThere now called
  is_there = subst (λ s. IsThere s called) (sym alike)
      (told_weaker states (λ disk past w. there disk.now called w.passed others w.split) way_called)

  pub goes_on : (after : Reached) → IfKnown now (λ disk past. Passes disk.now called before (Ok after))
      → IfKnown states (λ disk past. IsUnderway disk.now others after)
  goes_on after passes = told_both states (λ disk past w p. one_passed disk.now called others before after w p) way_called
      (subst (λ s. IfKnown s (λ disk past. Passes disk.now called before (Ok after))) alike passes)

  pub breaks : (names : List (List ℕ)) → IfKnown states (λ disk past. names ≡ finite.keys disk.now) → filter is_snapshot names ≡ []
      → (damage : Damage) → IfKnown now (λ disk past. Passes disk.now called before (Err damage))
      → IfKnown states (λ disk past. IsDirectoryState disk.now (Err damage))
  breaks names all none damage passes = told_both states
      {P = λ disk past. IsUnderway disk.now (called ∷ others) before × (names ≡ finite.keys disk.now)}
      (λ disk past wn p. one_damaged disk.now called others before damage (ap (filter is_snapshot) (sym wn.1) ∙ none) wn.0 p)
      (told_both states (λ disk past w is. (w, is)) way_called all)
      (subst (λ s. IfKnown s (λ disk past. Passes disk.now called before (Err damage))) alike passes)

pub ends : (states : Option (List Disk)) (names rest : List (List ℕ)) (reached : Reached) → IfKnown states (λ disk past. names ≡ finite.keys disk.now)
    → filter is_snapshot names ≡ [] → rest ≡ [] → IfKnown states (λ disk past. IsUnderway disk.now rest reached)
    → IfKnown states (λ disk past. IsDirectoryState disk.now (Ok reached))
ends states names rest reached all none done way = told_both states
    (λ disk past is w. all_passed disk.now reached (ap (filter is_snapshot) (sym is) ∙ none) (subst (λ left. IsUnderway disk.now left reached) done w))
    all way

pub snapshot_breaks : (states : Option (List Disk)) (names : List (List ℕ)) (damage : Damage) → IfKnown states (λ disk past. names ≡ finite.keys disk.now)
    → ((journals : List Named) → directory_state (filter is_snapshot names) journals ≡ Err damage)
    → IfKnown states (λ disk past. IsDirectoryState disk.now (Err damage))
snapshot_breaks states names damage all damaged = told_weaker states
    (λ disk past is. snapshot_damaged disk.now damage
    (λ journals. ap (λ found. directory_state (filter is_snapshot found) journals) (sym is) ∙ damaged journals)) all

pub read_given : {given bytes : List ℕ} → given ≡ bytes → (read : Option FileRead) → ReadsAs given read → ReadsAs bytes read
read_given same read reads = subst (λ b. ReadsAs b read) same reads
