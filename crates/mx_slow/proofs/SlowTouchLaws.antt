-- That the keys which the plain slow program has of a write lie in a range that was read exactly where the definitions say so.
use Rattle.std.proofs.Common.{◌≡◌, ℕ, Bool, true, false, ◌&&◌, ◌||◌, List, [], ◌∷◌, ◌++◌, map, Option, Some, None, refl, sym, ap, ◌∙◌, subst}
use Rattle.std.specs.Prelude.{◌==◌}
use Rattle.std.specs.List.{AllByRecursion, list_any}
use Rattle.mx_key.specs.Comparable.{comparable_of, edges_of, holds}
use Rattle.mx_key.specs.Keys.{Key, AreFit}
use Rattle.mx_key.proofs.RangeLaws.{range_holds}
use Rattle.mx_schema.specs.declared.index_def.IndexDef.{IndexDef}
use Rattle.mx_schema.specs.declared.schema.Schema.{Schema}
use Rattle.mx_schema.specs.Catalogues.{index_with, schema_of}
use Rattle.mx_schema.specs.State.{State, tuples_in}
use Rattle.mx_write.specs.Change.{Change}
use Rattle.mx_write.specs.Reads.{Read}
use Rattle.mx_write.specs.Touches.{Touched, are_met, is_met, touched_at, touched_key}
use Rattle.mx_write.proofs.TouchLaws.{any_both, any_either, lies_by, lies_once, met_by_schema, or_assoc, or_false}
use Rattle.mx_slow.specs.declared.touched.TouchedKey.{TouchedKey}
use Rattle.mx_slow.specs.SlowReads.{read_view, reads_view}
use Rattle.mx_base.specs.declared.ids.IndexId.{IndexId}
use Rattle.mx_schema.specs.Sound.{AreKeyed, IsSound}
use Rattle.mx_slow.specs.SlowTouches.{AreFitReads, AreOwn, IsFitRead, meet, meet_in, meets_in, touches}

-- ---- tests of lists

never : {X : Type 0} (all : List X) → list_any (λ x. false) all ≡ false
never [] = refl
never (x ∷ all) = never all

-- tests that agree on each that is read
any_same : {p q : Read → Bool} (all : List Read) → AreFitReads all → ((read : Read) → IsFitRead read → p read ≡ q read) → list_any p all ≡ list_any q all
any_same [] fit same = refl
any_same {p} {q} (read ∷ all) (one, others) same = ap (λ t. t || list_any p all) (same read one) ∙ ap (λ t. q read || t) (any_same all others same)

any_mapped : {X Y : Type 0} (f : X → Y) (p : Y → Bool) (all : List X) → list_any p (map f all) ≡ list_any (λ x. p (f x)) all
any_mapped f p [] = refl
any_mapped f p (x ∷ all) = ap (λ t. p (f x) || t) (any_mapped f p all)

-- ---- keys more

meet_by_reads : (keys : List TouchedKey) (reads : List Read) → meet keys (reads_view reads) ≡ list_any (λ read. list_any (λ key. touches key (read_view read)) keys) reads
meet_by_reads keys reads = any_mapped read_view (λ range. list_any (λ key. touches key range) keys) reads

-- what more keys meet
pub meet_both : (a b : List TouchedKey) (reads : List Read) → meet (a ++ b) (reads_view reads) ≡ (meet a (reads_view reads) || meet b (reads_view reads))
meet_both a b reads =
    meet_by_reads (a ++ b) reads
    ∙ by_reads reads
    ∙ any_either (λ read. list_any (λ key. touches key (read_view read)) a) (λ read. list_any (λ key. touches key (read_view read)) b) reads
    ∙ ap (λ t. t || list_any (λ read. list_any (λ key. touches key (read_view read)) b) reads) (sym (meet_by_reads a reads))
    ∙ ap (λ t. meet a (reads_view reads) || t) (sym (meet_by_reads b reads))
  where
    by_reads : (all : List Read) → list_any (λ read. list_any (λ key. touches key (read_view read)) (a ++ b)) all
        ≡ list_any (λ read. list_any (λ key. touches key (read_view read)) a || list_any (λ key. touches key (read_view read)) b) all
    by_reads [] = refl
    by_reads (read ∷ all) =
        ap (λ t. t || list_any (λ read. list_any (λ key. touches key (read_view read)) (a ++ b)) all) (any_both (λ key. touches key (read_view read)) a b)
        ∙ ap (λ t. (list_any (λ key. touches key (read_view read)) a || list_any (λ key. touches key (read_view read)) b) || t) (by_reads all)

-- no key meets nothing
pub none_meet : (reads : List Read) → meet [] (reads_view reads) ≡ false
none_meet reads = meet_by_reads [] reads ∙ never reads

-- ---- the keys of a tuple in the indexes of its space

-- one more key
pub one_meets : (out : List TouchedKey) (key : TouchedKey) (touched : Touched) (def : IndexDef) (reads : List Read) → key.space.0 ≡ touched.space → key.index ≡ def.id
    → key.key ≡ comparable_of (touched_key def touched) → AreFit (touched_key def touched) → AreFitReads reads
    → meet (out ++ key ∷ []) (reads_view reads) ≡ (meet out (reads_view reads) || list_any (λ read. lies_by touched read def) reads)
one_meets out key touched def reads space_is index_is is fit fits =
    meet_both out (key ∷ []) reads
    ∙ ap (λ t. meet out (reads_view reads) || t) (meet_by_reads (key ∷ []) reads ∙ any_same reads fits by_read)
  where
    and_assoc : (a b c : Bool) → ((a && b) && c) ≡ (a && (b && c))
    and_assoc true b c = refl
    and_assoc false b c = refl

    by_read : (read : Read) → IsFitRead read → (touches key (read_view read) || false) ≡ lies_by touched read def
    by_read read fit_read =
        or_false (touches key (read_view read))
        ∙ and_assoc (key.space.0 == read.space) (key.index.0 == read.index) (holds (edges_of read.range) key.key)
        ∙ ap (λ (s : ℕ). (s == read.space) && ((key.index.0 == read.index) && holds (edges_of read.range) key.key)) space_is
        ∙ ap (λ (i : IndexId). (touched.space == read.space) && ((i.0 == read.index) && holds (edges_of read.range) key.key)) index_is
        ∙ ap (λ k. (touched.space == read.space) && ((def.id.0 == read.index) && holds (edges_of read.range) k)) is
        ∙ ap (λ t. (touched.space == read.space) && ((def.id.0 == read.index) && t)) (range_holds read.range (touched_key def touched) fit_read fit)

-- its keys in the first of the indexes were added
abbrev pub MeetBeside : (old out : List TouchedKey) → Touched → List IndexDef → Type 0
MeetBeside old out touched defs = (reads : List Read) → AreFitReads reads
    → meet out (reads_view reads) ≡ (meet old (reads_view reads) || list_any (λ read. list_any (lies_by touched read) defs) reads)

pub none_beside : (old : List TouchedKey) (touched : Touched) → MeetBeside old old touched []
none_beside old touched reads fits = sym (or_false (meet old (reads_view reads))) ∙ ap (λ t. meet old (reads_view reads) || t) (sym (never reads))

pub more_beside : (old out : List TouchedKey) (touched : Touched) (defs : List IndexDef) (def : IndexDef) (key : TouchedKey) → key.space.0 ≡ touched.space → key.index ≡ def.id
    → key.key ≡ comparable_of (touched_key def touched) → AreFit (touched_key def touched)
    → MeetBeside old out touched defs → MeetBeside old (out ++ key ∷ []) touched (defs ++ def ∷ [])
more_beside old out touched defs def key space_is index_is is fit beside reads fits =
    one_meets out key touched def reads space_is index_is is fit fits
    ∙ ap (λ t. t || list_any (λ read. lies_by touched read def) reads) (beside reads fits)
    ∙ or_assoc (meet old (reads_view reads)) (list_any (λ read. list_any (lies_by touched read) defs) reads) (list_any (λ read. lies_by touched read def) reads)
    ∙ ap (λ t. meet old (reads_view reads) || t) (sym (any_either (λ read. list_any (lies_by touched read) defs) (λ read. lies_by touched read def) reads) ∙ by_reads reads)
  where
    by_reads : (all : List Read) → list_any (λ read. list_any (lies_by touched read) defs || lies_by touched read def) all
        ≡ list_any (λ read. list_any (lies_by touched read) (defs ++ def ∷ [])) all
    by_reads [] = refl
    by_reads (read ∷ all) =
        ap (λ t. t || list_any (λ read. list_any (lies_by touched read) defs || lies_by touched read def) all)
        (ap (λ t. list_any (lies_by touched read) defs || t) (sym (or_false (lies_by touched read def))) ∙ sym (any_both (lies_by touched read) defs (def ∷ [])))
        ∙ ap (λ t. list_any (lies_by touched read) (defs ++ def ∷ []) || t) (by_reads all)

-- all keys of a tuple were added
pub all_meet : (old out : List TouchedKey) (touched : Touched) (all : List IndexDef) → AllByRecursion (λ def. index_with def.id.0 all ≡ Some def) all
    → MeetBeside old out touched all → (reads : List Read) → AreFitReads reads
    → meet out (reads_view reads) ≡ (meet old (reads_view reads) || meet_in all (touched ∷ []) reads)
all_meet old out touched all apart beside reads fits = beside reads fits ∙ ap (λ t. meet old (reads_view reads) || t) (by_reads reads)
  where
    by_reads : (each : List Read) → list_any (λ read. list_any (lies_by touched read) all) each ≡ meet_in all (touched ∷ []) each
    by_reads [] = refl
    by_reads (read ∷ each) =
        ap (λ t. t || list_any (λ read. list_any (lies_by touched read) all) each) (lies_once all touched read apart ∙ sym (or_false (meets_in all touched read)))
        ∙ ap (λ t. (meets_in all touched read || false) || t) (by_reads each)

-- no tuple touches nothing
pub none_touched : (old : List TouchedKey) (all : List IndexDef) (reads : List Read) → meet old (reads_view reads) ≡ (meet old (reads_view reads) || meet_in all [] reads)
none_touched old all reads = sym (or_false (meet old (reads_view reads))) ∙ ap (λ t. meet old (reads_view reads) || t) (sym (never reads))

-- ---- what a change touches

module _ (before : State) (schema : Schema) (space : ℕ) (described : schema_of before space ≡ Some schema) where
  abbrev AreHere : List Touched → Type 0
  AreHere all = AllByRecursion (λ (touched : Touched). touched.space ≡ space) all

  any_known : (all : List Touched) (read : Read) → AreHere all → list_any (is_met before read) all ≡ list_any (λ touched. meets_in schema.indexes touched read) all
  any_known [] read here = refl
  any_known (touched ∷ all) read (one, others) =
      ap (λ t. t || list_any (is_met before read) all) (met_by_schema before schema touched read (ap (schema_of before) one ∙ described)) ∙ ap (λ t. meets_in schema.indexes touched read || t) (any_known all read others)

  all_known : (all : List Touched) (reads : List Read) → AreHere all → are_met before all reads ≡ meet_in schema.indexes all reads
  all_known all [] here = refl
  all_known all (read ∷ reads) here =
      ap (λ t. t || are_met before all reads) (any_known all read here) ∙ ap (λ t. list_any (λ touched. meets_in schema.indexes touched read) all || t) (all_known all reads here)

  met_both : (a b : List Touched) (reads : List Read) → meet_in schema.indexes (a ++ b) reads ≡ (meet_in schema.indexes a reads || meet_in schema.indexes b reads)
  met_both a b reads =
      by_reads reads
      ∙ any_either (λ read. list_any (λ touched. meets_in schema.indexes touched read) a) (λ read. list_any (λ touched. meets_in schema.indexes touched read) b) reads
    where
      by_reads : (each : List Read) → meet_in schema.indexes (a ++ b) each
          ≡ list_any (λ read. list_any (λ touched. meets_in schema.indexes touched read) a || list_any (λ touched. meets_in schema.indexes touched read) b) each
      by_reads [] = refl
      by_reads (read ∷ each) =
          ap (λ t. t || meet_in schema.indexes (a ++ b) each) (any_both (λ touched. meets_in schema.indexes touched read) a b)
          ∙ ap (λ t. (list_any (λ touched. meets_in schema.indexes touched read) a || list_any (λ touched. meets_in schema.indexes touched read) b) || t) (by_reads each)

  here_at : (key : Key) (tuple : Option (List ℕ)) → AreHere (touched_at space key tuple)
  here_at key None = tt
  here_at key (Some tuple) = (refl, tt)

  here_both : (a b : List Touched) → AreHere a → AreHere b → AreHere (a ++ b)
  here_both [] b first second = second
  here_both (x ∷ a) b (one, first) second = (one, here_both a b first second)

  -- the keys of the tuple that goes, and of the one that comes
  pub change_meets : (old mid new : List TouchedKey) (key : Key) (was now : Option (List ℕ)) (reads : List Read)
      → meet mid (reads_view reads) ≡ (meet old (reads_view reads) || meet_in schema.indexes (touched_at space key was) reads)
      → meet new (reads_view reads) ≡ (meet mid (reads_view reads) || meet_in schema.indexes (touched_at space key now) reads)
      → meet new (reads_view reads) ≡ (meet old (reads_view reads) || are_met before (touched_at space key was ++ touched_at space key now) reads)
  change_meets old mid new key was now reads first second =
      let a = touched_at space key was in
      let b = touched_at space key now in
      second ∙ ap (λ t. t || meet_in schema.indexes b reads) first
      ∙ or_assoc (meet old (reads_view reads)) (meet_in schema.indexes a reads) (meet_in schema.indexes b reads)
      ∙ ap (λ t. meet old (reads_view reads) || t) (sym (met_both a b reads) ∙ sym (all_known (a ++ b) reads (here_both a b (here_at key was) (here_at key now))))

-- ---- a write of the program

-- the indexes of a sound state's space have numbers of their own
pub own_indexes : (before : State) (space : ℕ) (schema : Schema) → IsSound before → schema_of before space ≡ Some schema → AreOwn schema.indexes
own_indexes before space schema sound described =
    (subst (λ (s : Option Schema). AreKeyed s (tuples_in before space)) described (sound.keyed space)).2.apart

-- the change of a write that was made
pub same_change : (change : Change) (space : ℕ) (key : Key) (tuple : Option (List ℕ)) (made : Option Change) → Some change ≡ made → made ≡ Some (record { space = space; key = key; tuple = tuple })
    → record { space = space; key = key; tuple = tuple } ≡ change
same_change change space key tuple made is makes = same_some _ _ (sym makes ∙ sym is)
  where
    same_some : (a b : Change) → Some a ≡ Some b → a ≡ b
    same_some a b e = cc
