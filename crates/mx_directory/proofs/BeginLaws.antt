-- The journal that begins at the vclock which a directory has reached comes after all others, and they recover to what it continues.
use Rattle.std.proofs.Common.{◌≡◌, ℕ, ◌<◌, ◌≤◌, Bool, true, false, cond, not, ◌&&◌, List, [], ◌∷◌, ◌++◌, map, sum, take, refl, sym, ap, ◌∙◌, subst, ◌⊎◌, inl, inr, arith}
use Rattle.std.specs.Prelude.{Option, Some, None, is_some, Ok, IfSome, if◌then◌else◌}
use Rattle.std.specs.List.{filter, last_or, AllByRecursion}
use Rattle.std.specs.Ordering.{nat_cmp, eq_by_cmp, ordering_reverse}
use Rattle.std.specs.declared.cmp.Ordering.TheVariants.{Less, Greater}
use Rattle.std.specs.Cmp.Lexicographic.{slice_cmp, bytes_decides, nat_list_cmp_total}
use Rattle.std.specs.FinMap as finite
use Rattle.std.specs.FinMap.{entries_sorted, get-entries}
use Rattle.std.specs.FinMap.Entries.{find, put, where_key, is_sorted-where_key, is_sorted-put, find-put, by_order}
use Rattle.std.proofs.lemmas.Map.Text.{is_eq-slice_cmp}
use Rattle.std.proofs.lemmas.Bool.{cases_lt}
use Rattle.mx_vclock.specs.Vclocks.{IsVclock}
use Rattle.mx_outside.specs.Disks.{File, Files}
use Rattle.mx_model.specs.Bases.{Base}
use Rattle.mx_directory.specs.Directories.{Named, Reached, ReadAll, Continues, IsDirectoryState, nothing_yet, new_database, origin_by, origin_of, after_origin, after_files, directory_state}
use Rattle.mx_xlog.specs.Files.{ReadsAs}
use Rattle.mx_files.specs.Names.{is_journal, is_snapshot, journal_name, same_bytes}
use Rattle.mx_files.proofs.NameLaws.{journal_name-is_journal, snapshot_is_no_journal, name_order, front_order-at_most, signature_fits}
use Rattle.mx_directory.proofs.DirectoryLaws.{by_name, names_in, names_of, same_names, keys-where_key, find-where, names_same}
use Rattle.mx_directory.proofs.WalkLaws.{Passed, Way, way, without, Nearly, without_newest, nothing_is_sound}

-- A directory without damage, and its journals.

last_some : {X : Type 0} (x : X) (xs : List X) → (y : X) × (last_or (Some x) xs ≡ Some y)
last_some x [] = (x, refl)
last_some x (y ∷ xs) = last_some y xs

no_snapshots : (snapshots : List (List ℕ)) (journals : List Named) (reached : Reached) → Ok reached ≡ directory_state snapshots journals
    → (snapshots ≡ []) × (after_files journals nothing_yet ≡ Ok reached)
no_snapshots [] journals reached is = (refl, sym is)
no_snapshots (name ∷ snapshots) journals reached is =
    let last = last_some name snapshots in
    let refused = is ∙ ap (λ found. after_origin journals (origin_by found)) last.1 in
    absurd cc

-- a directory without damage has no snapshot, and its journals were read one after the other
pub record Sound (files : Files) (reached : Reached) : Type 0 where
  pub journals : List Named
  pub names : map (λ (journal : Named). journal.0) journals ≡ filter is_journal (finite.keys files)
  pub each : ReadAll files journals
  pub none : filter is_snapshot (finite.keys files) ≡ []
  pub after : after_files journals nothing_yet ≡ Ok reached
  pub on_way : Way journals nothing_yet reached

pub sound : (files : Files) (reached : Reached) → IsDirectoryState files (Ok reached) → Sound files reached
sound files reached state =
    let plain = no_snapshots (filter is_snapshot (finite.keys files)) state.journals reached state.is in
    record {
      journals = state.journals;
      names = state.names;
      each = state.each;
      none = plain.0;
      after = plain.1;
      on_way = way state.journals nothing_yet reached nothing_is_sound plain.1;
    }

-- what journals recover to has a vclock
pub reached_is_sound : (files : Files) (reached : Reached) → IsDirectoryState files (Ok reached) → IsVclock reached.clock
reached_is_sound files reached is = (sound files reached is).on_way.sound

-- No name is later than the vclock reached.

-- what holds of all names of a kind holds of one that is there
each_found : (p : List ℕ → Bool) (P : List ℕ → Type 0) (es : List (List ℕ × File)) (q : List ℕ)
    → AllByRecursion P (filter p (names_in es)) → p q ≡ true → is_some (find by_name q es) ≡ true → P q
each_found p P [] q all kind there = absurd cc
each_found p P (e ∷ es) q all kind there = by_first (each_found p P es q) (p e.0) (eq_by_cmp by_name q e.0) refl refl all there
  where
    by_first : (AllByRecursion P (filter p (names_in es)) → p q ≡ true → is_some (find by_name q es) ≡ true → P q)
        → (a b : Bool) → p e.0 ≡ a → eq_by_cmp by_name q e.0 ≡ b
        → AllByRecursion P (cond a (e.0 ∷ filter p (names_in es)) (filter p (names_in es)))
        → is_some (cond b (Some e.1) (find by_name q es)) ≡ true → P q
    by_first others true true passes tied all there = subst P (sym ((bytes_decides q e.0).0 (sym (is_eq-slice_cmp q e.0) ∙ tied))) all.0
    by_first others false true passes tied all there =
        let same : q ≡ e.0 = (bytes_decides q e.0).0 (sym (is_eq-slice_cmp q e.0) ∙ tied) in
        let fails : p q ≡ false = ap p same ∙ passes in
        absurd cc
    by_first others true false passes differs all there = others all.1 kind there
    by_first others false false passes differs all there = others all kind there

pub each_there : (p : List ℕ → Bool) (P : List ℕ → Type 0) (files : Files) (q : List ℕ)
    → AllByRecursion P (filter p (finite.keys files)) → p q ≡ true → is_some (finite.get files q) ≡ true → P q
each_there p P files q all kind there = each_found p P (finite.entries files) q all kind (ap is_some (sym (get-entries files q)) ∙ there)

-- what holds of the names of files holds of the list of them
all_names : (P : List ℕ → Type 0) (files : List Named) → AllByRecursion (λ (file : Named). P file.0) files → AllByRecursion P (names_of files)
all_names P [] all = tt
all_names P (file ∷ files) all = (all.0, all_names P files all.1)

-- the newest journal or snapshot has no later signature than the vclock reached
pub newest_now : (files : Files) (reached : Reached) → IsDirectoryState files (Ok reached) → (other : List ℕ)
    → (is_journal other ≡ true) ⊎ (is_snapshot other ≡ true) → is_some (finite.get files other) ≡ true
    → ¬ (slice_cmp nat_cmp (take 20 other) (take 20 (journal_name (sum reached.clock))) ≡ Greater)
newest_now files reached is other kind there = by_kind kind
  where
    s : Sound files reached
    s = sound files reached is

    Late : List ℕ → Type 0
    Late = λ name. slice_cmp nat_cmp (take 20 name) (take 20 (journal_name (sum reached.clock))) ≡ Greater

    passed_no_later : (name : List ℕ) → Passed reached name → ¬ (Late name)
    passed_no_later name passed late =
        front_order-at_most passed.signature (sum reached.clock) passed.at_most (signature_fits reached.clock s.on_way.sound)
        (ap (λ n. slice_cmp nat_cmp (take 20 n) (take 20 (journal_name (sum reached.clock)))) (sym passed.named) ∙ late)

    by_kind : (is_journal other ≡ true) ⊎ (is_snapshot other ≡ true) → ¬ (Late other)
    by_kind (inl journal) =
        let all : AllByRecursion (Passed reached) (filter is_journal (finite.keys files)) =
        subst (AllByRecursion (Passed reached)) s.names (all_names (Passed reached) s.journals s.on_way.names) in
        passed_no_later other (each_there is_journal (Passed reached) files other all journal there)
    by_kind (inr snapshot) =
        absurd (each_there is_snapshot (λ name. ⊥) files other (subst (AllByRecursion (λ name. ⊥)) (sym s.none) tt) snapshot there)

-- The names with the new one.

filter_twice : (p q : List ℕ → Bool) (names : List (List ℕ)) → filter q (filter p names) ≡ filter (λ name. p name && q name) names
filter_twice p q [] = refl
filter_twice p q (name ∷ names) = by_test (filter_twice p q names) (p name)
  where
    both : List (List ℕ)
    both = filter (λ name. p name && q name) names

    by_test : filter q (filter p names) ≡ both → (b : Bool)
        → filter q (cond b (name ∷ filter p names) (filter p names)) ≡ cond (b && q name) (name ∷ both) both
    by_test others true = ap (λ rest. cond (q name) (name ∷ rest) rest) others
    by_test others false = others

names_without : (newest : List ℕ) (files : List Named)
    → names_of (without newest files) ≡ filter (λ name. not (same_bytes name newest)) (names_of files)
names_without newest [] = refl
names_without newest (file ∷ files) = by_test (names_without newest files) (not (same_bytes file.0 newest))
  where
    others : List (List ℕ)
    others = filter (λ name. not (same_bytes name newest)) (names_of files)

    by_test : names_of (without newest files) ≡ others → (b : Bool)
        → names_of (cond b (file ∷ without newest files) (without newest files)) ≡ cond b (file.0 ∷ others) others
    by_test rest true = ap (λ names. file.0 ∷ names) rest
    by_test rest false = rest

-- what holds of all files holds of the remaining ones, none of which has the name
all_without : (newest : List ℕ) (P : Named → Type 0) (files : List Named) → AllByRecursion P files
    → AllByRecursion (λ (file : Named). P file × (same_bytes file.0 newest ≡ false)) (without newest files)
all_without newest P [] all = tt
all_without newest P (file ∷ files) all = by_test (all_without newest P files all.1) (same_bytes file.0 newest) refl
  where
    Left : Named → Type 0
    Left = λ file. P file × (same_bytes file.0 newest ≡ false)

    by_test : AllByRecursion Left (without newest files) → (b : Bool) → same_bytes file.0 newest ≡ b
        → AllByRecursion Left (cond (not b) (file ∷ without newest files) (without newest files))
    by_test others true same = others
    by_test others false differs = ((all.0, differs), others)

-- a name after all others comes last
put_last : (name : List ℕ) (file : File) (es : List (List ℕ × File)) → AllByRecursion (λ other. slice_cmp nat_cmp other name ≡ Less) (names_in es)
    → put by_name name file es ≡ es ++ (name, file) ∷ []
put_last name file [] all = refl
put_last name file (e ∷ es) all =
    ap (λ o. by_order o ((name, file) ∷ e ∷ es) ((e.0, file) ∷ es) (e ∷ put by_name name file es))
    (nat_list_cmp_total.antisymm name e.0 ∙ ap ordering_reverse all.0)
    ∙ ap (λ rest. e ∷ rest) (put_last name file es all.1)

keys-append : (es : List (List ℕ × File)) (name : List ℕ) (file : File)
    → names_in (es ++ (name, file) ∷ []) ≡ names_in es ++ name ∷ []
keys-append [] name file = refl
keys-append (e ∷ es) name file = ap (λ names. e.0 ∷ names) (keys-append es name file)

found_alike : (q newest : List ℕ) (file : File) (old now : Option File) (journal same : Bool) → is_journal q ≡ journal
    → same_bytes q newest ≡ same → is_journal newest ≡ true
    → (journal ≡ true → now ≡ (if same then Some file else old))
    → cond journal now None ≡ cond same (Some file) (cond (journal && not same) old None)
found_alike q newest file old now true true journal same named is = is refl
found_alike q newest file old now true false journal same named is = is refl
found_alike q newest file old now false true other same named is =
    let journal : is_journal q ≡ true = ap is_journal ((bytes_decides q newest).0 same) ∙ named in
    absurd cc
found_alike q newest file old now false false journal same named is = refl

-- a journal of a new or the last name comes after those of other names
pub name_behind : (files now : Files) (newest : List ℕ) (file : File) → is_journal newest ≡ true
    → ((q : List ℕ) → is_journal q ≡ true → finite.get now q ≡ (if same_bytes q newest then Some file else finite.get files q))
    → AllByRecursion (λ other. slice_cmp nat_cmp other newest ≡ Less)
    (filter (λ name. is_journal name && not (same_bytes name newest)) (finite.keys files))
    → filter is_journal (finite.keys now) ≡ filter (λ name. is_journal name && not (same_bytes name newest)) (finite.keys files) ++ newest ∷ []
name_behind files now newest file journal is below =
    let entries = finite.entries files in
    let earlier = where_key by_name others entries in
    let keys : names_in earlier ≡ filter others (finite.keys files) = keys-where_key others entries in
    sym (keys-where_key is_journal (finite.entries now))
    ∙ same_names (where_key by_name is_journal (finite.entries now)) (put by_name newest file earlier)
    (is_sorted-where_key by_name is_journal (finite.entries now) (entries_sorted now))
    (is_sorted-put by_name nat_list_cmp_total newest file earlier (is_sorted-where_key by_name others entries (entries_sorted files)))
    (λ q. ap is_some (found q))
    ∙ ap names_in (put_last newest file earlier (subst (AllByRecursion (λ other. slice_cmp nat_cmp other newest ≡ Less)) (sym keys) below))
    ∙ keys-append earlier newest file
    ∙ ap (λ names. names ++ newest ∷ []) keys
  where
    others : List ℕ → Bool
    others = λ name. is_journal name && not (same_bytes name newest)

    found : (q : List ℕ) → find by_name q (where_key by_name is_journal (finite.entries now))
        ≡ find by_name q (put by_name newest file (where_key by_name others (finite.entries files)))
    found q =
        find-where is_journal q (finite.entries now)
        ∙ ap (λ o. cond (is_journal q) o None) (sym (get-entries now q))
        ∙ found_alike q newest file (finite.get files q) (finite.get now q) (is_journal q) (same_bytes q newest) refl refl journal (is q)
        ∙ ap (λ o. cond (same_bytes q newest) (Some file) (cond (others q) o None)) (get-entries files q)
        ∙ ap (cond (same_bytes q newest) (Some file)) (sym (find-where others q (finite.entries files)))
        ∙ ap (λ b. cond b (Some file) (find by_name q (where_key by_name others (finite.entries files)))) (sym (is_eq-slice_cmp q newest))
        ∙ sym (find-put by_name nat_list_cmp_total q newest file (where_key by_name others (finite.entries files)))

-- The journals before the new one.

-- a name on the way that isn't the newest one comes before it
passed_before : (end : Reached) (name : List ℕ) → IsVclock end.clock → Passed end name → same_bytes name (journal_name (sum end.clock)) ≡ false
    → slice_cmp nat_cmp name (journal_name (sum end.clock)) ≡ Less
passed_before end name whole passed differs = by_order (cases_lt passed.signature (sum end.clock))
  where
    newest : List ℕ
    newest = journal_name (sum end.clock)

    by_order : (passed.signature < sum end.clock) ⊎ (sum end.clock ≤ passed.signature) → slice_cmp nat_cmp name newest ≡ Less
    by_order (inl below) =
        ap (λ n. slice_cmp nat_cmp n newest) passed.named ∙ name_order passed.signature (sum end.clock) below (signature_fits end.clock whole)
    by_order (inr above) =
        let most = passed.at_most in
        let same : passed.signature ≡ sum end.clock = omega arith in
        let equal : same_bytes name newest ≡ true = (bytes_decides name newest).1 (passed.named ∙ ap journal_name same) in
        absurd cc

-- what is known of each remaining journal
record IsLeft (files : Files) (end : Reached) (file : Named) : Type 0 where
  pub read : IfSome (finite.get files file.0) (λ (f : File). ReadsAs f.bytes file.1)
  pub passed : Passed end file.0

all_left : (files : Files) (end : Reached) (journals : List Named) → ReadAll files journals
    → AllByRecursion (λ (file : Named). Passed end file.0) journals
    → AllByRecursion (IsLeft files end) journals
all_left files end [] reads passed = tt
all_left files end (file ∷ journals) reads passed = (record { read = reads.0; passed = passed.0 }, all_left files end journals reads.1 passed.1)

all_map : (P Q : Named → Type 0) → ((file : Named) → P file → Q file) → (files : List Named) → AllByRecursion P files → AllByRecursion Q files
all_map P Q each [] all = tt
all_map P Q each (file ∷ files) all = (each file all.0, all_map P Q each files all.1)

-- what a directory recovers to is what its next journal continues
pub begins_again : (files now : Files) (reached : Reached) (base : Base) (file : File) → IsDirectoryState files (Ok reached)
    → base.state ≡ reached.state → base.clock ≡ reached.clock → base.earlier ≡ reached.transactions → ((reached.ids ≡ None) ⊎ (reached.ids ≡ Some base.ids)) → IsVclock reached.clock
    → ((q : List ℕ) → ((is_journal q ≡ true) ⊎ (is_snapshot q ≡ true))
    → finite.get now q ≡ (if same_bytes q (journal_name (sum reached.clock)) then Some file else finite.get files q))
    → Continues base (journal_name (sum reached.clock)) now
begins_again files now reached base file is state clock made ids whole same = record {
  earlier = earlier;
  origin = new_database;
  reached = nearly.reached;
  begins = ap origin_of (names_same is_snapshot now files (λ q snapshot. ap is_some (snapshot_same q snapshot)) ∙ s.none);
  names = name_behind files now newest file (journal_name-is_journal (sum reached.clock)) (λ q journal. same q (inl journal))
      (subst (AllByRecursion IsEarlier) left_names
      (all_names IsEarlier earlier
      (all_map Left (λ (file : Named). IsEarlier file.0) (λ file l. passed_before reached file.0 whole l.0.passed l.1) earlier left)))
      ∙ ap (λ names. names ++ newest ∷ []) (sym left_names);
  others = all_map Left (λ (file : Named). same_bytes file.0 newest ≡ false) (λ file l. l.1) earlier left;
  reads = all_map Left (λ (file : Named). IfSome (finite.get now file.0) (λ (f : File). ReadsAs f.bytes file.1))
      (λ file l. subst (λ found. IfSome found (λ (f : File). ReadsAs f.bytes file.1)) (sym (journal_same file.0 l.0.passed l.1)) l.0.read)
      earlier left;
  reaches = nearly.reaches;
  ids = by_ids nearly.alike.ids ids;
  state = nearly.alike.state ∙ sym state;
  clock = nearly.alike.clock ∙ sym clock;
  transactions = nearly.alike.made ∙ sym made;
}
  where
    newest : List ℕ
    newest = journal_name (sum reached.clock)

    s : Sound files reached
    s = sound files reached is

    earlier : List Named
    earlier = without newest s.journals

    nearly : Nearly earlier nothing_yet reached
    nearly = without_newest s.journals nothing_yet reached nothing_is_sound s.after

    IsEarlier : List ℕ → Type 0
    IsEarlier = λ other. slice_cmp nat_cmp other newest ≡ Less

    Left : Named → Type 0
    Left = λ file. IsLeft files reached file × (same_bytes file.0 newest ≡ false)

    left : AllByRecursion Left earlier
    left = all_without newest (IsLeft files reached) s.journals (all_left files reached s.journals s.each s.on_way.names)

    left_names : names_of earlier ≡ filter (λ name. is_journal name && not (same_bytes name newest)) (finite.keys files)
    left_names = names_without newest s.journals ∙ ap (filter (λ name. not (same_bytes name newest))) s.names
        ∙ filter_twice is_journal (λ name. not (same_bytes name newest)) (finite.keys files)

    of_another : (q : List ℕ) → (is_journal q ≡ true) ⊎ (is_snapshot q ≡ true) → same_bytes q newest ≡ false → finite.get now q ≡ finite.get files q
    of_another q kind differs = same q kind ∙ ap (λ b. cond b (Some file) (finite.get files q)) differs

    journal_same : (q : List ℕ) → Passed reached q → same_bytes q newest ≡ false → finite.get now q ≡ finite.get files q
    journal_same q passed differs = of_another q (inl (ap is_journal passed.named ∙ journal_name-is_journal passed.signature)) differs

    snapshot_differs : (q : List ℕ) → is_snapshot q ≡ true → (b : Bool) → same_bytes q newest ≡ b → same_bytes q newest ≡ false
    snapshot_differs q snapshot true equal =
        let journal : is_journal q ≡ true = ap is_journal ((bytes_decides q newest).0 equal) ∙ journal_name-is_journal (sum reached.clock) in
        let other : is_journal q ≡ false = snapshot_is_no_journal q snapshot in
        absurd cc
    snapshot_differs q snapshot false differs = differs

    snapshot_same : (q : List ℕ) → is_snapshot q ≡ true → finite.get now q ≡ finite.get files q
    snapshot_same q snapshot = of_another q (inr snapshot) (snapshot_differs q snapshot (same_bytes q newest) refl)

    by_ids : (nearly.reached.ids ≡ None) ⊎ (nearly.reached.ids ≡ reached.ids) → (reached.ids ≡ None) ⊎ (reached.ids ≡ Some base.ids)
        → (nearly.reached.ids ≡ None) ⊎ (nearly.reached.ids ≡ Some base.ids)
    by_ids (inl none) was = inl none
    by_ids (inr equal) (inl none) = inl (equal ∙ none)
    by_ids (inr equal) (inr its) = inr (equal ∙ its)
