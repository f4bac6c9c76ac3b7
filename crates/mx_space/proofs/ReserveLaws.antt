-- Changes of a state that are made ready, and then made.
use Rattle.std.proofs.Common.{◌≡◌, ◌≢◌, ℕ, Bool, true, false, cond, List, [], ◌∷◌, ◌++◌, length, Option, Some, None, Result, Ok, Err, refl, sym, ap, ◌∙◌, subst, eqb-true, eq-eqb, append-nil}
use Rattle.std.specs.Prelude.{◌==◌, IfSome, IfOk, if◌then◌else◌, is_some, not}
use Rattle.std.specs.FinMap.{get, get-insert, get-remove, insert, remove}
use Rattle.std.specs.List.{AllByRecursion, AllZip}
use Rattle.std.specs.Option.{option_map}
use Rattle.std.proofs.lemmas.List.{append_assoc}
use Rattle.mx_key.specs.Keys.{Key, AreFit}
use Rattle.mx_key.specs.Comparable.{comparable_of}
use Rattle.mx_key.proofs.KeyLaws.{key_cmp_total}
use Rattle.mx_msgpack.proofs.Options.{same_some}
use Rattle.mx_schema.specs.declared.index_def.IndexDef.{IndexDef}
use Rattle.mx_schema.specs.declared.schema.Schema.{Schema}
use Rattle.mx_schema.specs.Catalogues.{index_with}
use Rattle.mx_schema.specs.State.{State, Tuples, tuples_in}
use Rattle.mx_schema.specs.Stored.{StoresTuples}
use Rattle.mx_schema.proofs.StateLaws.{tuples_set}
use Rattle.mx_space.specs.declared.prepared.Step.{Step}
use Rattle.mx_space.specs.declared.space.Space.{Space}
use Rattle.mx_space.specs.declared.spaces.SpaceEntry.{SpaceEntry}
use Rattle.mx_space.specs.declared.state.State as coded
use Rattle.mx_space.specs.declared.tuple_changes.TupleChange.{TupleChange}
use Rattle.mx_entries.specs.Entries.{IndexEntry}
use Rattle.mx_entries.specs.KeptEntries.{StoresByNumber, StoresIndex}
use Rattle.mx_entries.specs.PlainChanges.{Coming, AreApart, PlainChange, IsApart, MayStand, own_changes, state_with, state_with_all}
use Rattle.mx_space.specs.Reserved.{Content, EditsAll, HoldsReserved, IsFree, StoresComing, StoresComingByNumber, StoresReserved, IsStepOf, all_released, changed_at, coming_tuples, content_of, content_under, content_installed, content_readied, tuples_with}
use Rattle.mx_space.specs.Reserves.{AreReady, IsReadied, IsReserved, SpellsChange}
use Rattle.mx_space.specs.Spaces.{space_under}
use Rattle.mx_space.specs.Stored.{HoldsBy, HoldsSpace, SpacesHold}
use Rattle.mx_space.proofs.ReadiedLaws.{AreComingLong, coming_found, installed_stores, put_long, readied_stores}
use Rattle.mx_entries.proofs.KeyMapLaws.{untied}

-- ---- no change is ready

as_coming : (first : Bool) (def : IndexDef) (tuples : Tuples) (kept : List IndexEntry) → StoresByNumber first def tuples kept → StoresComingByNumber first def tuples [] kept
as_coming true def tuples kept stores = stores
as_coming false def tuples kept stores = stores

as_kept : (first : Bool) (def : IndexDef) (tuples : Tuples) (kept : List IndexEntry) → StoresComingByNumber first def tuples [] kept → StoresByNumber first def tuples kept
as_kept true def tuples kept stores = stores
as_kept false def tuples kept stores = stores

all_as_coming : (tuples : Tuples) (defs : List IndexDef) (kept : List (List IndexEntry)) → AllZip (StoresIndex tuples) defs kept → AllZip (StoresComing tuples []) defs kept
all_as_coming tuples [] [] each = tt
all_as_coming tuples [] (one ∷ kept) each = absurd each
all_as_coming tuples (def ∷ defs) [] each = absurd each
all_as_coming tuples (def ∷ defs) (one ∷ kept) each = (as_coming (def.id.0 == 0) def tuples one each.0, all_as_coming tuples defs kept each.1)

all_as_kept : (tuples : Tuples) (defs : List IndexDef) (kept : List (List IndexEntry)) → AllZip (StoresComing tuples []) defs kept → AllZip (StoresIndex tuples) defs kept
all_as_kept tuples [] [] each = tt
all_as_kept tuples [] (one ∷ kept) each = absurd each
all_as_kept tuples (def ∷ defs) [] each = absurd each
all_as_kept tuples (def ∷ defs) (one ∷ kept) each = (as_kept (def.id.0 == 0) def tuples one each.0, all_as_kept tuples defs kept each.1)

-- what memory has of a space, as lists
pub as_content : (schema : Option Schema) (space : Option Space) (tuples : Tuples) → HoldsSpace schema space tuples → HoldsReserved schema (option_map content_of space) tuples []
as_content schema None tuples holds = holds
as_content schema (Some space) tuples holds = record {
  is = holds.holds.is;
  keeps = holds.holds.keeps;
  stands = holds.holds.stands;
  indexes = all_as_coming tuples space.schema.indexes space.indexes.items holds.indexes;
}

pub as_space : (schema : Option Schema) (space : Option Space) (tuples : Tuples) → HoldsReserved schema (option_map content_of space) tuples [] → HoldsSpace schema space tuples
as_space schema None tuples holds = holds
as_space schema (Some space) tuples holds = record {
  holds = record {
    is = holds.is;
    keeps = holds.keeps;
    stands = holds.stands;
  };
  indexes = all_as_kept tuples space.schema.indexes space.indexes.items holds.indexes;
}

-- ---- the changes of one space

-- a change's key has no other change
own_free : (plain : PlainChange) (all : List PlainChange) → AllByRecursion (IsApart plain) all → IsFree plain.key (own_changes plain.space all)
own_free plain [] apart = tt
own_free plain (other ∷ all) apart = by_test (plain.space == other.space) refl (own_free plain all apart.1)
  where
    by_test : (b : Bool) → (plain.space == other.space) ≡ b → IsFree plain.key (own_changes plain.space all)
        → IsFree plain.key (if b then (other.key, other.tuple) ∷ own_changes plain.space all else own_changes plain.space all)
    by_test true e others = (apart.0 (eqb-true plain.space other.space e), others)
    by_test false e others = others

-- the keys of tuples that will be put have all parts
own_long : (schemas : ℕ → Option Schema) (id : ℕ) (schema : Schema) (primary : IndexDef) → schemas id ≡ Some schema → index_with 0 schema.indexes ≡ Some primary
    → (all : List PlainChange) → AllByRecursion (MayStand schemas) all → AreComingLong (length primary.key) (own_changes id all)
own_long schemas id schema primary is first [] may = tt
own_long schemas id schema primary is first (other ∷ all) may = by_test (id == other.space) refl (own_long schemas id schema primary is first all may.1)
  where
    by_test : (b : Bool) → (id == other.space) ≡ b → AreComingLong (length primary.key) (own_changes id all)
        → AreComingLong (length primary.key) (if b then (other.key, other.tuple) ∷ own_changes id all else own_changes id all)
    by_test true e others =
        let its = may.0 in
        let one : its.schema ≡ schema = same_some its.schema schema (sym its.is ∙ ap schemas (sym (eqb-true id other.space e)) ∙ is) in
        let same : its.primary ≡ primary = same_some its.primary primary (sym its.first ∙ ap (λ (s : Schema). index_with 0 s.indexes) one ∙ first) in
        (subst (λ (d : IndexDef). IfSome other.tuple (λ _. length other.key ≡ length d.key)) same (put_long its.primary other.key other.tuple its.keyed), others)
    by_test false e others = others

-- ---- a space that is there

content_there : (described : Option Schema) (schema : Schema) (found : Option Content) (tuples : Tuples) (coming : List Coming) → described ≡ Some schema
    → HoldsReserved described found tuples coming → (content : Content) × (found ≡ Some content) × StoresReserved described content tuples coming × (content.0 ≡ schema)
content_there described schema None tuples coming is holds =
    let gone : Some schema ≡ None = sym is ∙ holds.none in
    absurd cc
content_there described schema (Some content) tuples coming is holds = (content, refl, holds, same_some content.0 schema (sym holds.is ∙ is))

module _ (id : ℕ) (old new : List SpaceEntry) (change : Content → Content) (now : (q : ℕ) → content_under q new ≡ changed_at id change q (content_under q old)) where
  changed_here : (content : Content) → content_under id old ≡ Some content → content_under id new ≡ Some (change content)
  changed_here content there =
      now id ∙ ap (λ b. if b then option_map change (content_under id old) else content_under id old) (eq-eqb id id refl) ∙ ap (option_map change) there

  same_elsewhere : (q : ℕ) → (q == id) ≡ false → content_under q new ≡ content_under q old
  same_elsewhere q other = now q ∙ ap (λ b. if b then option_map change (content_under q old) else content_under q old) other

-- ---- a change more is ready

module _ (schemas : ℕ → Option Schema) (old new : List SpaceEntry) (state : State) (steps : List Step) (plain : PlainChange) (all : List PlainChange) (step : Step) where
  abbrev id : ℕ
  id = plain.space

  abbrev own : Tuples
  own = tuples_in state id

  abbrev coming : List Coming
  coming = own_changes id all

  pub ready_more : (change : TupleChange) → AreReady schemas old state steps all → SpellsChange change plain → IsStepOf change step → MayStand schemas plain → AllByRecursion (IsApart plain) all
      → ((q : ℕ) → content_under q new ≡ changed_at change.space.0 (content_readied change.tuple step) q (content_under q old))
      → ((space : Content) (tuples : Tuples) (key : Key) → content_under change.space.0 old ≡ Some space → StoresTuples space.1 tuples → AreFit key
      → change.key ≡ comparable_of key → EditsAll key change.tuple (get tuples key) space.0.indexes step.edits.items)
      → AreReady schemas new state (step ∷ steps) (plain ∷ all)
  ready_more change ready spells made may apart now edits =
      let step_key = made.key ∙ spells.key in
      let removes = made.removes ∙ ap (λ t. not (is_some t)) spells.tuple in
      let found = content_there (schemas id) may.schema (content_under id old) own coming may.is (ready.holds id) in
      let content = found.0 in
      let free = own_free plain all apart in
      let each : EditsAll plain.key plain.tuple (get own plain.key) content.0.indexes step.edits.items =
      subst (λ o. EditsAll plain.key plain.tuple o content.0.indexes step.edits.items) (coming_found own plain.key coming free)
      (subst (λ t. EditsAll plain.key t (get (coming_tuples own coming) plain.key) content.0.indexes step.edits.items) spells.tuple
      (edits content (coming_tuples own coming) plain.key (ap (λ s. content_under s old) spells.space ∙ found.1) found.2.keeps spells.fit spells.key)) in
      let stores = readied_stores (schemas id) content own coming may.primary (ap (λ (s : Schema). index_with 0 s.indexes) found.3 ∙ may.first) plain.key plain.tuple spells.fit free
      (own_long schemas id may.schema may.primary may.is may.first all ready.stand) may.keyed step step_key removes each found.2 in
      let changes : (q : ℕ) → content_under q new ≡ changed_at id (content_readied plain.tuple step) q (content_under q old) =
      λ q. now q ∙ ap (λ n. changed_at n (content_readied change.tuple step) q (content_under q old)) spells.space
      ∙ ap (λ t. changed_at id (content_readied t step) q (content_under q old)) spells.tuple in
      record {
        holds = λ q. holds_now ready changes content found.1 stores q (q == id) refl;
        ready = (
          record {
            space = made.space ∙ spells.space;
            key = step_key;
            fit = spells.fit;
            removes = removes;
            edits = λ schema is.
                subst (λ (s : Schema). EditsAll plain.key plain.tuple (get own plain.key) s.indexes step.edits.items)
                (found.3 ∙ same_some may.schema schema (sym may.is ∙ is)) each;
          },
          ready.ready,
        );
        stand = (may, ready.stand);
        apart = (apart, ready.apart);
      }
    where
      holds_now : AreReady schemas old state steps all → ((q : ℕ) → content_under q new ≡ changed_at id (content_readied plain.tuple step) q (content_under q old))
          → (content : Content) → content_under id old ≡ Some content → StoresReserved (schemas id) (content_readied plain.tuple step content) own ((plain.key, plain.tuple) ∷ coming)
          → (q : ℕ) (b : Bool) → (q == id) ≡ b
          → HoldsReserved (schemas q) (content_under q new) (tuples_in state q) (if b then (plain.key, plain.tuple) ∷ own_changes q all else own_changes q all)
      holds_now ready changes content there stores q true e =
          subst (λ n. HoldsReserved (schemas n) (content_under n new) (tuples_in state n) ((plain.key, plain.tuple) ∷ own_changes n all)) (sym (eqb-true q id e))
          (subst (λ o. HoldsReserved (schemas id) o own ((plain.key, plain.tuple) ∷ coming)) (sym (changed_here id old new (content_readied plain.tuple step) changes content there)) stores)
      holds_now ready changes content there stores q false e =
          subst (λ o. HoldsReserved (schemas q) o (tuples_in state q) (own_changes q all)) (sym (same_elsewhere id old new (content_readied plain.tuple step) changes q e)) (ready.holds q)

-- ---- a change is made

-- the tuples of a space after a change
tuples_then : (state : State) (space : ℕ) (key : Key) (tuple : Option (List ℕ)) (q : ℕ)
    → tuples_in (state_with state space key tuple) q ≡ (if q == space then tuples_with (tuples_in state space) (key, tuple) else tuples_in state q)
tuples_then state space key None q = tuples_set state space (remove (tuples_in state space) key) q
tuples_then state space key (Some tuple) q = tuples_set state space (insert (tuples_in state space) key tuple) q

-- another key has the tuple that it had
found_then : (tuples : Tuples) (key other : Key) (tuple : Option (List ℕ)) → key ≢ other → get (tuples_with tuples (key, tuple)) other ≡ get tuples other
found_then tuples key other None apart =
    get-remove key_cmp_total tuples key other ∙ ap (λ b. cond b None (get tuples other)) (untied other key (λ same. apart (sym same)))
found_then tuples key other (Some tuple) apart =
    get-insert key_cmp_total tuples key tuple other ∙ ap (λ b. cond b (Some tuple) (get tuples other)) (untied other key (λ same. apart (sym same)))

module _ (schemas : ℕ → Option Schema) (state : State) (plain : PlainChange) where
  abbrev after : State
  after = state_with state plain.space plain.key plain.tuple

  still_found : (other : PlainChange) → IsApart plain other → get (tuples_in after other.space) other.key ≡ get (tuples_in state other.space) other.key
  still_found other apart =
      ap (λ (t : Tuples). get t other.key) (tuples_then state plain.space plain.key plain.tuple other.space) ∙ by_test (other.space == plain.space) refl
    where
      by_test : (b : Bool) → (other.space == plain.space) ≡ b
          → get (if b then tuples_with (tuples_in state plain.space) (plain.key, plain.tuple) else tuples_in state other.space) other.key ≡ get (tuples_in state other.space) other.key
      by_test true e =
          let same : other.space ≡ plain.space = eqb-true other.space plain.space e in
          found_then (tuples_in state plain.space) plain.key other.key plain.tuple (apart (sym same)) ∙ ap (λ s. get (tuples_in state s) other.key) (sym same)
      by_test false e = refl

  -- the other changes are ready as they were
  still_ready : (steps : List Step) (all : List PlainChange) → AllByRecursion (IsApart plain) all → AllZip (IsReadied schemas state) steps all → AllZip (IsReadied schemas after) steps all
  still_ready [] [] apart ready = tt
  still_ready [] (other ∷ all) apart ready = absurd ready
  still_ready (step ∷ steps) [] apart ready = absurd ready
  still_ready (step ∷ steps) (other ∷ all) apart ready = (
    record {
      space = ready.0.space;
      key = ready.0.key;
      fit = ready.0.fit;
      removes = ready.0.removes;
      edits = λ schema is. subst (λ o. EditsAll other.key other.tuple o schema.indexes step.edits.items) (sym (still_found other apart.0)) (ready.0.edits schema is);
    },
    still_ready steps all apart.1 ready.1,
  )

  module _ (old new : List SpaceEntry) (steps : List Step) (all : List PlainChange) (step : Step) where
    abbrev its : Tuples
    its = tuples_in state plain.space

    abbrev change : Coming
    change = (plain.key, plain.tuple)

    pub ready_less : AreReady schemas old state (step ∷ steps) (plain ∷ all)
        → ((q : ℕ) → content_under q new ≡ changed_at step.space.0 (content_installed step) q (content_under q old)) → AreReady schemas new after steps all
    ready_less ready now =
        let space = plain.space in
        let may = ready.stand.0 in
        let readied = ready.ready.0 in
        let others = own_changes space all in
        let holds : HoldsReserved (schemas space) (content_under space old) its (change ∷ others) =
        subst (λ b. HoldsReserved (schemas space) (content_under space old) its (if b then change ∷ others else others)) (eq-eqb space space refl) (ready.holds space) in
        let found = content_there (schemas space) may.schema (content_under space old) its (change ∷ others) may.is holds in
        let content = found.0 in
        let each = subst (λ (s : Schema). EditsAll plain.key plain.tuple (get its plain.key) s.indexes step.edits.items) (sym found.3) (ready.ready.0.edits may.schema may.is) in
        let stores = installed_stores (schemas space) content its others may.primary (ap (λ (s : Schema). index_with 0 s.indexes) found.3 ∙ may.first) plain.key plain.tuple readied.fit
        (own_free plain all ready.apart.0) (own_long schemas space may.schema may.primary may.is may.first all ready.stand.1) may.keyed step readied.key readied.removes each found.2 in
        let changes : (q : ℕ) → content_under q new ≡ changed_at space (content_installed step) q (content_under q old) =
        λ q. now q ∙ ap (λ n. changed_at n (content_installed step) q (content_under q old)) readied.space in
        record {
          holds = λ q. holds_now ready changes content found.1 stores q (q == space) refl;
          ready = still_ready steps all ready.apart.0 ready.ready.1;
          stand = ready.stand.1;
          apart = ready.apart.1;
        }
      where
        holds_now : AreReady schemas old state (step ∷ steps) (plain ∷ all) → ((q : ℕ) → content_under q new ≡ changed_at plain.space (content_installed step) q (content_under q old))
            → (content : Content) → content_under plain.space old ≡ Some content
            → StoresReserved (schemas plain.space) (content_installed step content) (tuples_with its change) (own_changes plain.space all)
            → (q : ℕ) (b : Bool) → (q == plain.space) ≡ b → HoldsReserved (schemas q) (content_under q new) (tuples_in after q) (own_changes q all)
        holds_now ready changes content there stores q true e =
            subst (λ n. HoldsReserved (schemas n) (content_under n new) (tuples_in after n) (own_changes n all)) (sym (eqb-true q plain.space e))
            (subst (λ o. HoldsReserved (schemas plain.space) o (tuples_in after plain.space) (own_changes plain.space all))
            (sym (changed_here plain.space old new (content_installed step) changes content there))
            (subst (λ (t : Tuples). StoresReserved (schemas plain.space) (content_installed step content) t (own_changes plain.space all))
            (sym (tuples_then state plain.space plain.key plain.tuple plain.space
            ∙ ap (λ b. if b then tuples_with its change else tuples_in state plain.space) (eq-eqb plain.space plain.space refl))) stores))
        holds_now ready changes content there stores q false e =
            subst (λ o. HoldsReserved (schemas q) o (tuples_in after q) (own_changes q all)) (sym (same_elsewhere plain.space old new (content_installed step) changes q e))
            (subst (λ (t : Tuples). HoldsReserved (schemas q) (content_under q old) t (own_changes q all))
            (sym (tuples_then state plain.space plain.key plain.tuple q ∙ ap (λ b. if b then tuples_with its change else tuples_in state q) e))
            (subst (λ b. HoldsReserved (schemas q) (content_under q old) (tuples_in state q) (if b then change ∷ own_changes q all else own_changes q all)) e (ready.holds q)))

-- ---- all changes

-- the changes that are left make this state
abbrev pub LeftReady : (schemas : ℕ → Option Schema) → List SpaceEntry → List Step → (made : State) → Type 0
LeftReady schemas spaces steps made = (state : State) × (left : List PlainChange) × AreReady schemas spaces state steps left × (state_with_all state left ≡ made)

module _ (schemas : ℕ → Option Schema) (made : State) where
  -- one is made
  pub left_less : (old new : List SpaceEntry) (left steps : List Step) (step : Step) → left ≡ step ∷ steps
      → ((q : ℕ) → content_under q new ≡ changed_at step.space.0 (content_installed step) q (content_under q old)) → LeftReady schemas old left made → LeftReady schemas new steps made
  left_less old new left steps step is now (state, all, ready, same) = by_list all (subst (λ s. AreReady schemas old state s all) is ready) same
    where
      by_list : (all : List PlainChange) → AreReady schemas old state (step ∷ steps) all → state_with_all state all ≡ made → LeftReady schemas new steps made
      by_list [] ready same = absurd ready.ready
      by_list (plain ∷ all) ready same = (state_with state plain.space plain.key plain.tuple, all, ready_less schemas state plain old new steps all step ready now, same)

  -- and at last all are
  pub none_left : (spaces : List SpaceEntry) (steps : List Step) → steps ≡ [] → LeftReady schemas spaces steps made → SpacesHold schemas spaces made
  none_left spaces steps none (state, all, ready, same) = by_list all (subst (λ s. AreReady schemas spaces state s all) none ready) same
    where
      by_list : (all : List PlainChange) → AreReady schemas spaces state [] all → state_with_all state all ≡ made → SpacesHold schemas spaces made
      by_list [] ready same = subst (SpacesHold schemas spaces) same (λ q. as_space (schemas q) (space_under q spaces) (tuples_in state q) (ready.holds q))
      by_list (plain ∷ all) ready same = absurd ready.ready

-- the last changes are ready, and the first ones are left
abbrev pub PartReady : (schemas : ℕ → Option Schema) → List SpaceEntry → State → List Step → (left : List TupleChange) → List PlainChange → Type 0
PartReady schemas spaces state steps left all =
    (first : List PlainChange) × (last : List PlainChange) × (all ≡ first ++ last) × AllZip SpellsChange left first × AreReady schemas spaces state steps last

module _ {A B : Type 0} (R : A → B → Type 0) where
  -- what is made of a list with one more at its end
  zip_last : (xs : List A) (x : A) (ys : List B) → AllZip R (xs ++ x ∷ []) ys → (front : List B) × (y : B) × (ys ≡ front ++ y ∷ []) × AllZip R xs front × R x y
  zip_last [] x [] each = absurd each
  zip_last [] x (y ∷ []) each = ([], y, refl, tt, each.0)
  zip_last [] x (y ∷ z ∷ ys) each = absurd each.1
  zip_last (first ∷ xs) x [] each = absurd each
  zip_last (first ∷ xs) x (y ∷ ys) each =
      let last = zip_last xs x ys each.1 in
      (y ∷ last.0, last.1, ap (λ l. y ∷ l) last.2, (each.0, last.3), last.4)

all_behind : {A : Type 0} (P : A → Type 0) (front rest : List A) → AllByRecursion P (front ++ rest) → AllByRecursion P rest
all_behind P [] rest each = each
all_behind P (one ∷ front) rest each = all_behind P front rest each.1

apart_behind : (front rest : List PlainChange) → AreApart (front ++ rest) → AreApart rest
apart_behind [] rest apart = apart
apart_behind (one ∷ front) rest apart = apart_behind front rest apart.1

module _ (schemas : ℕ → Option Schema) (state : State) (all : List PlainChange) where
  -- none is ready
  pub part_none : (spaces : List SpaceEntry) (changes : List TupleChange) → SpacesHold schemas spaces state → AllZip SpellsChange changes all → PartReady schemas spaces state [] changes all
  part_none spaces changes holds spell = (
    all,
    [],
    sym (append-nil all),
    spell,
    record {
      holds = λ q. as_content (schemas q) (space_under q spaces) (tuples_in state q) (holds q);
      ready = tt;
      stand = tt;
      apart = tt;
    },
  )

  -- one more is
  pub part_more : (old new : List SpaceEntry) (steps now : List Step) (left rest : List TupleChange) (change : TupleChange) → left ≡ rest ++ change ∷ []
      → AllByRecursion (MayStand schemas) all → AreApart all
      → ((one : PlainChange) (last : List PlainChange) → AreReady schemas old state steps last → SpellsChange change one → MayStand schemas one → AllByRecursion (IsApart one) last
      → AreReady schemas new state now (one ∷ last))
      → PartReady schemas old state steps left all → PartReady schemas new state now rest all
  part_more old new steps now left rest change is stand apart more (first, last, same, spell, ready) =
      let cut = zip_last SpellsChange rest change first (subst (λ l. AllZip SpellsChange l first) is spell) in
      let front = cut.0 in
      let one = cut.1 in
      let joined : all ≡ front ++ one ∷ last = same ∙ ap (λ l. l ++ last) cut.2 ∙ append_assoc front (one ∷ []) last in
      let stands = all_behind (MayStand schemas) front (one ∷ last) (subst (AllByRecursion (MayStand schemas)) joined stand) in
      let free = apart_behind front (one ∷ last) (subst AreApart joined apart) in
      (front, one ∷ last, joined, cut.3, more one last ready cut.4 stands.0 free.0)

  -- and at last all are
  pub part_all : (spaces : List SpaceEntry) (steps : List Step) (left : List TupleChange) → left ≡ [] → PartReady schemas spaces state steps left all → AreReady schemas spaces state steps all
  part_all spaces steps left none (first, last, same, spell, ready) = by_list first (subst (λ l. AllZip SpellsChange l first) none spell) same
    where
      by_list : (first : List PlainChange) → AllZip SpellsChange [] first → all ≡ first ++ last → AreReady schemas spaces state steps all
      by_list [] spell same = subst (AreReady schemas spaces state steps) (sym same) ready
      by_list (one ∷ first) spell same = absurd spell

-- so all are, and the state is given back where they are taken out again
pub all_reserved : {E : Type 0} (schemas : ℕ → Option Schema) (before memory : coded.State) (state : State) (all : List PlainChange) (result : Result (List Step) E) → HoldsBy schemas before state
    → IfOk result (λ steps. AreReady schemas memory.spaces.entries.items state steps all)
    → IfOk result (λ steps. (q : ℕ) → all_released q steps (content_under q memory.spaces.entries.items) ≡ content_under q before.spaces.entries.items)
    → IfOk result (λ steps. IsReserved schemas memory state steps all)
all_reserved schemas before memory state all (Ok steps) holds ready undo = record {
  ready = ready;
  back = λ q.
      subst (λ o. HoldsReserved (schemas q) o (tuples_in state q) []) (sym (undo q))
      (as_content (schemas q) (space_under q before.spaces.entries.items) (tuples_in state q) (holds q));
}
all_reserved schemas before memory state all (Err why) holds ready undo = tt

-- the state is as it was where each space is
pub none_reserved : (schemas : ℕ → Option Schema) (before memory : coded.State) (state : State) → HoldsBy schemas before state
    → ((q : ℕ) → content_under q memory.spaces.entries.items ≡ content_under q before.spaces.entries.items) → HoldsBy schemas memory state
none_reserved schemas before memory state holds same q =
    as_space (schemas q) (space_under q memory.spaces.entries.items) (tuples_in state q)
    (subst (λ o. HoldsReserved (schemas q) o (tuples_in state q) []) (sym (same q)) (as_content (schemas q) (space_under q before.spaces.entries.items) (tuples_in state q) (holds q)))

-- and where all that was ready is taken back
pub given_back : (schemas : ℕ → Option Schema) (before memory : coded.State) (state : State) (steps : List Step) (all : List PlainChange) → IsReserved schemas before state steps all
    → ((q : ℕ) → content_under q memory.spaces.entries.items ≡ all_released q steps (content_under q before.spaces.entries.items)) → HoldsBy schemas memory state
given_back schemas before memory state steps all reserved back q =
    as_space (schemas q) (space_under q memory.spaces.entries.items) (tuples_in state q)
    (subst (λ o. HoldsReserved (schemas q) o (tuples_in state q) []) (sym (back q)) (reserved.back q))
