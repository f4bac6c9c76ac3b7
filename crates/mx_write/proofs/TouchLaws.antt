-- That the keys that are added for a write lie in a range that was read exactly where the definitions say so.
use Rattle.std.proofs.Common.{◌≡◌, ℕ, Bool, true, false, ◌&&◌, ◌||◌, List, [], ◌∷◌, ◌++◌, length, take, Option, Some, refl, sym, ap, ◌∙◌, eqb-true}
use Rattle.std.specs.Prelude.{◌==◌, if◌then◌else◌}
use Rattle.std.specs.List.{AllByRecursion, list_any}
use Rattle.std.proofs.lemmas.List.{append-nil, append_assoc}
use Rattle.mx_key.specs.declared.edge.KeyRange.{KeyRange}
use Rattle.mx_key.specs.Comparable.{comparable_of, edges_of, holds}
use Rattle.mx_key.specs.Keys.{AreFit}
use Rattle.mx_key.specs.Ranges.{lies_in}
use Rattle.mx_key.proofs.RangeLaws.{range_holds}
use Rattle.mx_msgpack.specs.Readers.{◌>>=◌}
use Rattle.mx_schema.specs.declared.index_def.IndexDef.{IndexDef}
use Rattle.mx_schema.specs.declared.schema.Schema.{Schema}
use Rattle.mx_schema.specs.Catalogues.{index_with, schema_of}
use Rattle.mx_schema.specs.Sound.{IsSound}
use Rattle.mx_schema.specs.State.{State}
use Rattle.mx_schema.proofs.DescribedLaws.{its_keyed}
use Rattle.mx_tracker.specs.declared.read.Read as noted
use Rattle.mx_tracker.specs.declared.touched.Touched as coded
use Rattle.mx_tracker.specs.Overlaps.{lies_in_read}
use Rattle.mx_write.specs.Notes.{SpellsRead, noted_range}
use Rattle.mx_write.specs.Reads.{Read}
use Rattle.mx_write.specs.Touches.{AddsTouched, Touched, index_by_state, is_met, lies_in_index, touched_key}

-- ---- tests of lists

pub or_assoc : (a b c : Bool) → ((a || b) || c) ≡ (a || (b || c))
or_assoc true b c = refl
or_assoc false b c = refl

pub or_false : (a : Bool) → (a || false) ≡ a
or_false true = refl
or_false false = refl

and_assoc : (a b c : Bool) → ((a && b) && c) ≡ (a && (b && c))
and_assoc true b c = refl
and_assoc false b c = refl

absorbs : (a b : Bool) → (a || (b && a)) ≡ a
absorbs true b = refl
absorbs false true = refl
absorbs false false = refl

pub any_both : {X : Type 0} (p : X → Bool) (a b : List X) → list_any p (a ++ b) ≡ (list_any p a || list_any p b)
any_both p [] b = refl
any_both p (x ∷ a) b = ap (λ t. p x || t) (any_both p a b) ∙ sym (or_assoc (p x) (list_any p a) (list_any p b))

exchanged : (a b c d : Bool) → ((a || b) || (c || d)) ≡ ((a || c) || (b || d))
exchanged true b c d = refl
exchanged false true true d = refl
exchanged false true false d = refl
exchanged false false c d = refl

-- some of them pass one of two tests
pub any_either : {X : Type 0} (p q : X → Bool) (all : List X) → list_any (λ x. p x || q x) all ≡ (list_any p all || list_any q all)
any_either p q [] = refl
any_either p q (x ∷ all) = ap (λ t. (p x || q x) || t) (any_either p q all) ∙ exchanged (p x) (q x) (list_any p all) (list_any q all)

-- a longer list begins with what a list begins with
pub begins_longer : {X : Type 0} (old mid more : List X) → take (length old) mid ≡ old → take (length old) (mid ++ more) ≡ old
begins_longer [] mid more first = refl
begins_longer (x ∷ old) [] more first = absurd cc
begins_longer (x ∷ old) (y ∷ mid) more first =
    let rest : take (length old) mid ≡ old = cc in
    let same : y ≡ x = cc in
    ap (λ w. w ∷ take (length old) (mid ++ more)) same ∙ ap (λ l. x ∷ l) (begins_longer old mid more rest)

-- ---- a key of a tuple

-- a tuple's key in an index lies in what was read of that index
abbrev pub lies_by : Touched → Read → IndexDef → Bool
lies_by touched read def = (touched.space == read.space) && ((def.id.0 == read.index) && lies_in read.range (touched_key def touched))

-- a key lies in a read where the tuple's key in its index does
key_lies : (touched : Touched) (def : IndexDef) (key : coded.Touched) (read : Read) (coded : noted.Read) → key.space ≡ touched.space → key.index ≡ def.id.0
    → key.key ≡ comparable_of (touched_key def touched) → AreFit (touched_key def touched) → SpellsRead coded read → lies_in_read coded key ≡ lies_by touched read def
key_lies touched def key read coded space_is index_is is fit spells =
    and_assoc (key.space == coded.space) (key.index == coded.index) (holds (noted_range coded) key.key)
    ∙ ap (λ (s : ℕ). (s == coded.space) && ((key.index == coded.index) && holds (noted_range coded) key.key)) space_is
    ∙ ap (λ (s : ℕ). (touched.space == s) && ((key.index == coded.index) && holds (noted_range coded) key.key)) spells.space
    ∙ ap (λ (i : ℕ). (touched.space == read.space) && ((i == coded.index) && holds (noted_range coded) key.key)) index_is
    ∙ ap (λ (i : ℕ). (touched.space == read.space) && ((def.id.0 == i) && holds (noted_range coded) key.key)) spells.index
    ∙ ap (λ (r : KeyRange). (touched.space == read.space) && ((def.id.0 == read.index) && holds r key.key)) spells.range
    ∙ ap (λ t. (touched.space == read.space) && ((def.id.0 == read.index) && t))
    (ap (λ k. holds (edges_of read.range) k) is ∙ range_holds read.range (touched_key def touched) spells.fit fit)

-- a tuple's keys in these indexes were added
abbrev pub AddsBeside : (old new : List coded.Touched) → Touched → List IndexDef → Type 0
AddsBeside old new touched defs = (more : List coded.Touched) × (new ≡ old ++ more)
    × ((read : Read) (coded : noted.Read) → SpellsRead coded read → list_any (lies_in_read coded) more ≡ list_any (lies_by touched read) defs)

pub more_beside : (old new : List coded.Touched) (touched : Touched) (defs : List IndexDef) (def : IndexDef) (key : coded.Touched) → key.space ≡ touched.space → key.index ≡ def.id.0
    → key.key ≡ comparable_of (touched_key def touched) → AreFit (touched_key def touched)
    → AddsBeside old new touched defs → AddsBeside old (new ++ key ∷ []) touched (defs ++ def ∷ [])
more_beside old new touched defs def key space_is index_is is fit (more, are, spell) = (
  more ++ key ∷ [],
  ap (λ l. l ++ key ∷ []) are ∙ append_assoc old more (key ∷ []),
  λ read coded spells.
      any_both (lies_in_read coded) more (key ∷ [])
      ∙ ap (λ t. t || (lies_in_read coded key || false)) (spell read coded spells)
      ∙ ap (λ t. list_any (lies_by touched read) defs || (t || false)) (key_lies touched def key read coded space_is index_is is fit spells)
      ∙ sym (any_both (lies_by touched read) defs (def ∷ [])),
)

-- one of the indexes is the one that was read
module _ (all : List IndexDef) (touched : Touched) (read : Read) where
  abbrev there : Bool
  there = lies_in_index (index_with read.index all) read.range touched

  abbrev has_read : List IndexDef → Bool
  has_read defs = list_any (λ def. def.id.0 == read.index) defs

  lies_there : (defs : List IndexDef) → AllByRecursion (λ def. index_with def.id.0 all ≡ Some def) defs
      → list_any (λ def. (def.id.0 == read.index) && lies_in read.range (touched_key def touched)) defs ≡ (has_read defs && there)
  lies_there [] apart = refl
  lies_there (def ∷ defs) (own, apart) = by_test (def.id.0 == read.index) refl (lies_there defs apart)
    where
      by_test : (b : Bool) → (def.id.0 == read.index) ≡ b
          → list_any (λ def. (def.id.0 == read.index) && lies_in read.range (touched_key def touched)) defs ≡ (has_read defs && there)
          → list_any (λ def. (def.id.0 == read.index) && lies_in read.range (touched_key def touched)) (def ∷ defs) ≡ (has_read (def ∷ defs) && there)
      by_test false is rest =
          ap (λ t. (t && lies_in read.range (touched_key def touched)) || list_any (λ def. (def.id.0 == read.index) && lies_in read.range (touched_key def touched)) defs) is
          ∙ rest
          ∙ ap (λ t. (t || has_read defs) && there) (sym is)
      by_test true is rest =
          let found : index_with read.index all ≡ Some def = ap (λ i. index_with i all) (sym (eqb-true def.id.0 read.index is)) ∙ own in
          let same : there ≡ lies_in read.range (touched_key def touched) = ap (λ o. lies_in_index o read.range touched) found in
          ap (λ t. (t && lies_in read.range (touched_key def touched)) || list_any (λ def. (def.id.0 == read.index) && lies_in read.range (touched_key def touched)) defs) is
          ∙ ap (λ t. lies_in read.range (touched_key def touched) || t) rest
          ∙ ap (λ t. t || (has_read defs && there)) (sym same)
          ∙ absorbs there (has_read defs)
          ∙ ap (λ t. (t || has_read defs) && there) (sym is)

  none_there : (defs : List IndexDef) → has_read defs ≡ false → lies_in_index (index_with read.index defs) read.range touched ≡ false
  none_there [] none = refl
  none_there (def ∷ defs) none = by_test (def.id.0 == read.index) none (none_there defs)
    where
      by_test : (b : Bool) → (b || has_read defs) ≡ false → (has_read defs ≡ false → lies_in_index (index_with read.index defs) read.range touched ≡ false)
          → lies_in_index (if b then Some def else index_with read.index defs) read.range touched ≡ false
      by_test true none rest = absurd cc
      by_test false none rest = rest none

  pub lies_once : AllByRecursion (λ def. index_with def.id.0 all ≡ Some def) all
      → list_any (lies_by touched read) all ≡ ((touched.space == read.space) && lies_in_index (index_with read.index all) read.range touched)
  lies_once apart = by_space (touched.space == read.space) refl
    where
      in_space : (defs : List IndexDef) → (touched.space == read.space) ≡ true
          → list_any (lies_by touched read) defs ≡ list_any (λ def. (def.id.0 == read.index) && lies_in read.range (touched_key def touched)) defs
      in_space [] here = refl
      in_space (def ∷ defs) here =
          ap (λ t. (t && ((def.id.0 == read.index) && lies_in read.range (touched_key def touched))) || list_any (lies_by touched read) defs) here
          ∙ ap (λ t. ((def.id.0 == read.index) && lies_in read.range (touched_key def touched)) || t) (in_space defs here)

      elsewhere : (defs : List IndexDef) → (touched.space == read.space) ≡ false → list_any (lies_by touched read) defs ≡ false
      elsewhere [] away = refl
      elsewhere (def ∷ defs) away =
          ap (λ t. (t && ((def.id.0 == read.index) && lies_in read.range (touched_key def touched))) || list_any (lies_by touched read) defs) away
          ∙ elsewhere defs away

      by_read : (b : Bool) → has_read all ≡ b → (b && there) ≡ there
      by_read true is = refl
      by_read false is = sym (none_there all is)

      by_space : (b : Bool) → (touched.space == read.space) ≡ b → list_any (lies_by touched read) all ≡ ((touched.space == read.space) && there)
      by_space false is = elsewhere all is ∙ ap (λ t. t && there) (sym is)
      by_space true is = in_space all is ∙ lies_there all apart ∙ by_read (has_read all) refl ∙ ap (λ t. t && there) (sym is)

-- ---- the keys of tuples

-- a tuple is met where its key in the index that was read lies in the range that was read
pub met_by_schema : (before : State) (schema : Schema) (touched : Touched) (read : Read) → schema_of before touched.space ≡ Some schema
    → is_met before read touched ≡ ((touched.space == read.space) && lies_in_index (index_with read.index schema.indexes) read.range touched)
met_by_schema before schema touched read described = by_space (touched.space == read.space) refl
  where
    by_space : (b : Bool) → (touched.space == read.space) ≡ b
        → (b && lies_in_index (index_by_state before read.space read.index) read.range touched) ≡ (b && lies_in_index (index_with read.index schema.indexes) read.range touched)
    by_space false is = refl
    by_space true is =
        let known : schema_of before read.space ≡ Some schema = ap (schema_of before) (sym (eqb-true touched.space read.space is)) ∙ described in
        let same : index_by_state before read.space read.index ≡ index_with read.index schema.indexes =
        ap (λ (o : Option Schema). o >>= (λ s. index_with read.index s.indexes)) known in
        ap (λ o. lies_in_index o read.range touched) same

-- all keys of a tuple were added
pub adds_tuple : (before : State) (schema : Schema) (touched : Touched) (old new : List coded.Touched) → IsSound before → schema_of before touched.space ≡ Some schema
    → AddsBeside old new touched schema.indexes → AddsTouched before (touched ∷ []) old new
adds_tuple before schema touched old new sound described (more, are, spell) = (
  more,
  are,
  λ read coded spells.
      spell read coded spells
      ∙ lies_once schema.indexes touched read (its_keyed before sound touched.space schema described).2.apart
      ∙ sym (met_by_schema before schema touched read described)
      ∙ sym (or_false (is_met before read touched)),
)

-- where no tuple is touched, no key is added
pub adds_no_keys : (before : State) (old : List coded.Touched) → AddsTouched before [] old old
adds_no_keys before old = ([], sym (append-nil old), λ read coded spells. refl)

-- the keys of some tuples, and then of others
pub adds_keys_of_both : (before : State) (a b : List Touched) (old mid new : List coded.Touched) → AddsTouched before a old mid → AddsTouched before b mid new
    → AddsTouched before (a ++ b) old new
adds_keys_of_both before a b old mid new (first, mid_is, spell_first) (second, new_is, spell_second) = (
  first ++ second,
  new_is ∙ ap (λ l. l ++ second) mid_is ∙ append_assoc old first second,
  λ read coded spells.
      any_both (lies_in_read coded) first second
      ∙ ap (λ t. t || list_any (lies_in_read coded) second) (spell_first read coded spells)
      ∙ ap (λ t. list_any (is_met before read) a || t) (spell_second read coded spells)
      ∙ sym (any_both (is_met before read) a b),
)
