-- The way through the journals of a directory: each begins at the vclock reached before it, so its name is no later
-- than the vclock reached in the end. Those of that very name come last, and change nothing but identifiers that were missing.
use Rattle.std.proofs.Common.{◌≡◌, ℕ, zero, suc, ◌≤◌, Bool, true, false, cond, not, ◌&&◌, List, [], ◌∷◌, sum, replicate, refl, sym, ap, ◌∙◌, subst, ◌⊎◌, inl, inr, arith}
use Rattle.std.specs.Prelude.{All, Option, Some, None, Result, Ok, Err, if◌then◌else◌}
use Rattle.std.specs.List.{filter, AllByRecursion}
use Rattle.std.specs.Cmp.Lexicographic.{bytes_decides}
use Rattle.std.proofs.lemmas.List.Elements.{All-cons, All-nil}
use Rattle.mx_vclock.specs.Vclocks.{IsVclock, max_lsn}
use Rattle.mx_model.specs.declared.ids.Ids.{Ids}
use Rattle.mx_directory.specs.declared.damage.Damage.{Damage}
use Rattle.mx_directory.specs.Directories.{Named, Reached, ids_in, ids_or, nothing_yet, after_head, after_files, and_then}
use Rattle.mx_xlog.specs.Files.{FileRead}
use Rattle.mx_files.specs.Names.{journal_name, same_bytes}
use Rattle.mx_files.proofs.NameLaws.{same_signature, signature_fits}
use Rattle.mx_directory.proofs.DirectoryLaws.{begun}
use Rattle.mx_directory.proofs.GrowthLaws.{Grows, same_ok, after_blocks-grows}

fits_is : (fits same : Bool) (damage gap : Damage) (last : Result Reached Damage) (after : Reached)
    → (if not fits then Err damage else if not same then Err gap else last) ≡ Ok after → (fits ≡ true) × (same ≡ true) × (last ≡ Ok after)
fits_is true true damage gap last after is = (refl, refl, is)
fits_is true false damage gap last after is = absurd cc
fits_is false same damage gap last after is = absurd cc

three_are : (a b c : Bool) → ((not a && b) && c) ≡ true → (a ≡ false) × (b ≡ true) × (c ≡ true)
three_are false true c is = (refl, refl, is)
three_are false false c is = absurd cc
three_are true b c is = absurd cc

-- a file that was read after others
pub record Took (name : List ℕ) (file : FileRead) (before after : Reached) : Type 0 where
  pub named : name ≡ journal_name (sum before.clock)
  pub grows : Grows (begun file.head before) after

pub after_head-took : (name : List ℕ) (file : FileRead) (before after : Reached) → IsVclock before.clock → after_head name file before ≡ Ok after
    → Took name file before after
after_head-took name file before after sound is =
    let fits = fits_is _ _ _ _ _ _ is in
    let parts = three_are _ _ _ fits.0 in
    let clock : before.clock ≡ file.head.clock = (bytes_decides before.clock file.head.clock).0 fits.1 in
    record {
      named = (bytes_decides name (journal_name (sum file.head.clock))).0 parts.1 ∙ ap (λ c. journal_name (sum c)) (sym clock);
      grows = after_blocks-grows name file.size file.blocks (begun file.head before) after sound fits.2;
    }

-- a name on the way
pub record Passed (end : Reached) (name : List ℕ) : Type 0 where
  pub signature : ℕ
  pub named : name ≡ journal_name signature
  pub at_most : signature ≤ sum end.clock

-- what all files on the way have
pub record Way (files : List Named) (before end : Reached) : Type 0 where
  pub sound : IsVclock end.clock
  pub at_least : sum before.clock ≤ sum end.clock
  pub names : AllByRecursion (λ file. Passed end file.0) files

pub way : (files : List Named) (before end : Reached) → IsVclock before.clock → after_files files before ≡ Ok end → Way files before end
way [] before end sound is =
    let same = same_ok before end is in
    record {
      sound = subst (λ (r : Reached). IsVclock r.clock) same sound;
      at_least = subst (λ (r : Reached). sum before.clock ≤ sum r.clock) same (omega arith);
      names = tt;
    }
way ((name, None) ∷ files) before end sound is = absurd cc
way ((name, Some file) ∷ files) before end sound is = by_file (way files) (after_head name file before) refl is
  where
    by_file : ((next end : Reached) → IsVclock next.clock → after_files files next ≡ Ok end → Way files next end) → (o : Result Reached Damage)
        → after_head name file before ≡ o → and_then (after_files files) o ≡ Ok end → Way ((name, Some file) ∷ files) before end
    by_file others (Err damage) step is = absurd cc
    by_file others (Ok next) step is =
        let took = after_head-took name file before next sound step in
        let rest = others next end took.grows.sound is in
        let least : sum before.clock ≤ sum end.clock = omega (arith, took.grows.at_least, rest.at_least) in
        record {
          sound = rest.sound;
          at_least = least;
          names = (record { signature = sum before.clock; named = took.named; at_most = least }, rest.names);
        }

-- the files but those of this name
abbrev pub without : List ℕ → List Named → List Named
without name files = filter (λ file. not (same_bytes file.0 name)) files

-- the same but for the identifiers, which may be missing
pub record Alike (other before : Reached) : Type 0 where
  pub state : other.state ≡ before.state
  pub clock : other.clock ≡ before.clock
  pub made : other.transactions ≡ before.transactions
  pub ids : (other.ids ≡ None) ⊎ (other.ids ≡ before.ids)

pub alike_itself : (reached : Reached) → Alike reached reached
alike_itself reached = record { state = refl; clock = refl; made = refl; ids = inr refl }

-- the files reach nearly the same
pub record Nearly (files : List Named) (before end : Reached) : Type 0 where
  pub reached : Reached
  pub reaches : after_files files before ≡ Ok reached
  pub alike : Alike reached end

-- identifiers never change once they are there
ids_stay : (ids : Ids) (before now end : Option Ids) → now ≡ Some (ids_or ids before) → (now ≡ None) ⊎ (now ≡ end)
    → (before ≡ None) ⊎ (before ≡ end)
ids_stay ids None now end is kept = inl refl
ids_stay ids (Some found) now end is (inl none) = absurd cc
ids_stay ids (Some found) now end is (inr same) = inr (sym is ∙ same)

-- files of the newest name alone
pub record Stays (files : List Named) (before end : Reached) : Type 0 where
  pub none : without (journal_name (sum end.clock)) files ≡ []
  pub alike : Alike before end

-- files that reach no greater vclock have the newest name
pub stays : (files : List Named) (before end : Reached) → IsVclock before.clock → after_files files before ≡ Ok end
    → sum end.clock ≤ sum before.clock → Stays files before end
stays [] before end sound is below = record { none = refl; alike = subst (Alike before) (same_ok before end is) (alike_itself before) }
stays ((name, None) ∷ files) before end sound is below = absurd cc
stays ((name, Some file) ∷ files) before end sound is below = by_file (stays files) (after_head name file before) refl is
  where
    newest : List ℕ
    newest = journal_name (sum end.clock)

    by_file : ((next end : Reached) → IsVclock next.clock → after_files files next ≡ Ok end → sum end.clock ≤ sum next.clock → Stays files next end)
        → (o : Result Reached Damage) → after_head name file before ≡ o → and_then (after_files files) o ≡ Ok end
        → Stays ((name, Some file) ∷ files) before end
    by_file others (Err damage) step is = absurd cc
    by_file others (Ok next) step is =
        let took = after_head-took name file before next sound step in
        let least = took.grows.at_least in
        let on_way = (way files next end took.grows.sound is).at_least in
        let nothing : next ≡ begun file.head before = took.grows.same (omega arith) in
        let rest = others next end took.grows.sound is (omega arith) in
        let same : sum before.clock ≡ sum end.clock = omega arith in
        let named : same_bytes name newest ≡ true = (bytes_decides name newest).1 (took.named ∙ ap journal_name same) in
        record {
          none = ap (λ b. cond (not b) ((name, Some file) ∷ without newest files) (without newest files)) named ∙ rest.none;
          alike = record {
            state = sym (ap (λ (r : Reached). r.state) nothing) ∙ rest.alike.state;
            clock = sym (ap (λ (r : Reached). r.clock) nothing) ∙ rest.alike.clock;
            made = sym (ap (λ (r : Reached). r.transactions) nothing) ∙ rest.alike.made;
            ids = ids_stay (ids_in file.head) before.ids next.ids end.ids (ap (λ (r : Reached). r.ids) nothing) rest.alike.ids;
          };
        }

-- without the journals of the newest name nearly the same is reached
pub without_newest : (files : List Named) (before end : Reached) → IsVclock before.clock → after_files files before ≡ Ok end
    → Nearly (without (journal_name (sum end.clock)) files) before end
without_newest [] before end sound is =
    record { reached = before; reaches = refl; alike = subst (Alike before) (same_ok before end is) (alike_itself before) }
without_newest ((name, None) ∷ files) before end sound is = absurd cc
without_newest ((name, Some file) ∷ files) before end sound is = by_file (without_newest files) (after_head name file before) refl is
  where
    newest : List ℕ
    newest = journal_name (sum end.clock)

    Others : Type 0
    Others = (next end : Reached) → IsVclock next.clock → after_files files next ≡ Ok end → Nearly (without (journal_name (sum end.clock)) files) next end

    all_newest : (next : Reached) → Took name file before next → Way files next end → same_bytes name newest ≡ true
        → Stays ((name, Some file) ∷ files) before end
    all_newest next took on_way same =
        let fits = signature_fits before.clock sound in
        let fits_end = signature_fits end.clock on_way.sound in
        let equal = same_signature (sum before.clock) (sum end.clock) fits fits_end (sym took.named ∙ (bytes_decides name newest).0 same) in
        stays ((name, Some file) ∷ files) before end sound is (omega arith)

    by_name : (next : Reached) → Others → Took name file before next → after_head name file before ≡ Ok next → after_files files next ≡ Ok end
        → (b : Bool) → same_bytes name newest ≡ b
        → Nearly (cond (not b) ((name, Some file) ∷ without newest files) (without newest files)) before end
    by_name next others took step rest true same =
        let all = all_newest next took (way files next end took.grows.sound rest) same in
        let none : without newest files ≡ [] =
        sym (ap (λ b. cond (not b) ((name, Some file) ∷ without newest files) (without newest files)) same) ∙ all.none in
        record { reached = before; reaches = ap (λ left. after_files left before) none; alike = all.alike }
    by_name next others took step rest false differs =
        let nearly = others next end took.grows.sound rest in
        record {
          reached = nearly.reached;
          reaches = ap (and_then (after_files (without newest files))) step ∙ nearly.reaches;
          alike = nearly.alike;
        }

    by_file : Others → (o : Result Reached Damage) → after_head name file before ≡ o → and_then (after_files files) o ≡ Ok end
        → Nearly (without newest ((name, Some file) ∷ files)) before end
    by_file others (Err damage) step is = absurd cc
    by_file others (Ok next) step is =
        by_name next others (after_head-took name file before next sound step) step is (same_bytes name newest) refl

-- what there is before the first file
pub nothing_is_sound : IsVclock nothing_yet.clock
nothing_is_sound = record { whole = refl; bounded = zeros 32 }
  where
    zeros : (count : ℕ) → All (λ lsn. lsn ≤ max_lsn) (replicate count 0)
    zeros zero = All-nil (λ lsn. lsn ≤ max_lsn)
    zeros (suc count) = All-cons (λ lsn. lsn ≤ max_lsn) 0 (replicate count 0) (omega arith) (zeros count)
