-- What is seen under writes, and one write more.
use Rattle.std.proofs.Common.{◌≡◌, ◌≢◌, ℕ, List, length, Option, Some, None, refl, sym, ap, ◌∙◌, subst, Bool, true, false, cond, [], true≢false}
use Rattle.std.specs.Prelude.{is_some, ◌||◌}
use Rattle.std.specs.FinMap.{empty, get, entries, get-empty, get-insert, insert, remove, nat_cmp-IsAntisymmetric, slice_cmp-IsAntisymmetric}
use Rattle.std.proofs.lemmas.Bool.{ne_eqb}
use Rattle.std.specs.BTreeMap.{is_at}
use Rattle.std.specs.Cmp.Lexicographic.{slice_cmp}
use Rattle.std.specs.List.{list_any}
use Rattle.std.specs.Ordering.{eq_by_cmp, nat_cmp}
use Rattle.mx_msgpack.proofs.Options.{same_some}
use Rattle.mx_key.specs.Keys.{Key, AreFit, key_cmp}
use Rattle.mx_key.specs.Comparable.{comparable_of}
use Rattle.mx_schema.specs.declared.index_def.IndexDef.{IndexDef}
use Rattle.mx_schema.specs.declared.schema.Schema.{Schema}
use Rattle.mx_schema.specs.Catalogues.{index_with}
use Rattle.mx_schema.specs.State.{Tuples}
use Rattle.mx_space.specs.declared.overlay.OverlaidSpace.{OverlaidSpace}
use Rattle.mx_space.specs.declared.space.Space.{Space}
use Rattle.mx_entries.specs.Built.{AreLong}
use Rattle.mx_entries.specs.EntryChanges.{index_kept}
use Rattle.mx_entries.specs.Entries.{IndexEntry, LeadsTo}
use Rattle.mx_entries.specs.KeptEntries.{HoldsOneEach, StoresEntries, kept_entries}
use Rattle.mx_space.specs.Kept.{StoresIndexed}
use Rattle.mx_entries.specs.OwnWrites.{IsHolder, OwnWrites, under, IsOfKey, with_write}
use Rattle.mx_space.specs.Overlays.{StoresOver, StoresWritten, hides}
use Rattle.mx_space.proofs.HolderLaws.{index_found}
use Rattle.mx_entries.proofs.HolderKeyLaws.{one_has}
use Rattle.mx_entries.proofs.UnderLaws.{under_none, get-with_write, under_more, Removed, holds_key, IsSetTo, key_removed, eq_is, back_again}
use Rattle.mx_space.proofs.SpaceLaws.{space_long}
use Rattle.mx_entries.proofs.SeenLaws.{unique_of, unique}
use Rattle.mx_key.proofs.KeyLaws.{key_cmp_total}
use Rattle.mx_schema.proofs.TakenLaws.{stored_get}
use Rattle.mx_entries.proofs.EntriesLaws.{tied_is}

-- ---- the tuples that a view shows, and the one that has a key in a unique index

-- a key is hidden where it was written
pub hides_written : (schema : Option Schema) (over : OverlaidSpace) (written : OwnWrites) (key : Key) (bytes : List ℕ) → StoresWritten schema over written → AreFit key → bytes ≡ comparable_of key
    → hides over bytes ≡ is_some (get written key)
hides_written schema over written key bytes stores fit is = ap (hides over) is ∙ stores.keys key fit

-- what is written is of the same space
pub same_schema : (schema : Option Schema) (space : Space) (over : OverlaidSpace) (all : Tuples) (written : OwnWrites) → StoresIndexed schema space all → StoresWritten schema over written
    → space.schema ≡ over.own.schema
same_schema schema space over all written stores own = same_some space.schema over.own.schema (sym stores.holds.is ∙ own.own.holds.is)

-- so it has the same indexes, and its own tuples
pub index_of_own : (schema : Option Schema) (space : Space) (over : OverlaidSpace) (all : Tuples) (written : OwnWrites) (id : ℕ) (def : IndexDef) (own : Space)
    → StoresIndexed schema space all → StoresWritten schema over written → own ≡ over.own → index_with id space.schema.indexes ≡ Some def → index_with id own.schema.indexes ≡ Some def
index_of_own schema space over all written id def own stores writes same there =
    subst (λ (s : Schema). index_with id s.indexes ≡ Some def) (same_schema schema space over all written stores writes ∙ ap (λ (s : Space). s.schema) (sym same)) there

pub stores_own : (schema : Option Schema) (over : OverlaidSpace) (written : OwnWrites) (own : Space) → StoresWritten schema over written → own ≡ over.own
    → StoresIndexed schema own (under written empty)
stores_own schema over written own writes same = subst (λ s. StoresIndexed schema s (under written empty)) (sym same) writes.own

-- and its keys are as long
pub own_long : (schema : Option Schema) (space : Space) (over : OverlaidSpace) (all : Tuples) (written : OwnWrites) (primary : IndexDef) → StoresIndexed schema space all
    → StoresWritten schema over written → index_with 0 space.schema.indexes ≡ Some primary → AreLong (length primary.key) (under written empty)
own_long schema space over all written primary stores writes first =
    space_long schema over.own (under written empty) primary writes.own (index_of_own schema space over all written 0 primary over.own stores writes refl first)

-- the primary key that the first entry from a key leads to
pub holder_is : (schema : Option Schema) (space : Space) (all : Tuples) (def : IndexDef) (wanted : Key) → StoresIndexed schema space all
    → (long : ℕ) → AreLong long all → index_with def.id.0 space.schema.indexes ≡ Some def → HoldsOneEach def all → def.id.0 ≢ 0 → AreFit wanted
    → (kept : List IndexEntry) → Some kept ≡ index_kept def.id.0 space.schema.indexes space.indexes.items
    → (key own : List ℕ) → key ≡ comparable_of wanted → LeadsTo key kept (Some own) → IsHolder def all wanted own
holder_is schema space all def wanted stores long whole there each apart fit kept is key own key_is leads =
    let index = index_found schema space all def wanted stores long whole there each fit apart (Some kept) is in
    let keeps : StoresEntries kept (kept_entries def all) = subst (λ one. StoresEntries one (kept_entries def all)) (same_some index.0 kept (sym index.1)) index.2 in
    let unique = unique_of def all apart each in
    let found = one_has def unique.0 all unique.1 unique.2 wanted long whole (ne_eqb def.id.0 0 apart) fit kept keeps key key_is own leads in
    record { own = found.0; fit = found.1; is = found.2; holds = found.3 }

pub no_writes : (all : Tuples) (written : OwnWrites) (shown : Option OverlaidSpace) (schema : Option Schema) → StoresOver schema shown written → shown ≡ None → under written all ≡ all
no_writes all written shown schema over none =
    let nothing : written ≡ empty = subst (λ o. StoresOver schema o written) none over in
    ap (λ w. under w all) nothing ∙ under_none all

-- ---- what is seen under a key

-- own tuples and the keys that were taken out tell which keys were written
hides_by : (schema : Option Schema) (over : OverlaidSpace) (tuples : Tuples) (key : Key) → StoresIndexed schema over.own tuples → AreFit key
    → hides over (comparable_of key) ≡ (is_some (get tuples key) || holds_key over.removed (comparable_of key))
hides_by schema over tuples key stores fit =
    ap (λ o. is_some o || holds_key over.removed (comparable_of key)) (stored_get over.own.tuples.entries tuples key (comparable_of key) stores.holds.keeps fit refl)

-- no writes
pub stores_nothing : (schema : Option Schema) (over : OverlaidSpace) → StoresIndexed schema over.own empty → over.removed.keys ≡ [] → StoresWritten schema over empty
stores_nothing schema over own none = record {
  own = subst (StoresIndexed schema over.own) (sym (under_none empty)) own;
  keys = λ key fit.
      hides_by schema over empty key own fit
      ∙ (λ i. is_some (get-empty {X = List ℕ} key_cmp key i) || list_any (is_at (slice_cmp nat_cmp (comparable_of key))) (none i))
      ∙ ap is_some (sym (get-empty {X = Option (List ℕ)} key_cmp key));
  removed = λ bytes held. absurd (true≢false (sym held ∙ ap (list_any (is_at (slice_cmp nat_cmp bytes))) none));
  fit = λ key some. absurd (true≢false (sym some ∙ ap is_some (get-empty {X = Option (List ℕ)} key_cmp key)));
}

-- a tuple was put or taken out
module _ (schema : Option Schema) (before after : OverlaidSpace) (written : OwnWrites) (key : Key) (stores : StoresWritten schema before written) (key_fit : AreFit key) where
  stores_write : (write : Option (List ℕ)) → StoresIndexed schema after.own (with_write (under written empty) key write)
      → ((q : Key) → AreFit q → (is_some (cond (eq_by_cmp key_cmp q key) write (get (under written empty) q)) || holds_key after.removed (comparable_of q))
      ≡ cond (eq_by_cmp key_cmp q key) true (is_some (get (under written empty) q) || holds_key before.removed (comparable_of q)))
      → ((bytes : List ℕ) → holds_key after.removed bytes ≡ true → IsOfKey bytes)
      → StoresWritten schema after (insert written key write)
  stores_write write own tell removed = record {
    own = subst (StoresIndexed schema after.own) (sym (under_more written empty key write)) own;
    keys = λ q fits.
        hides_by schema after (with_write (under written empty) key write) q own fits
        ∙ ap (λ o. is_some o || holds_key after.removed (comparable_of q)) (get-with_write (under written empty) key write q)
        ∙ tell q fits
        ∙ ap (cond (eq_by_cmp key_cmp q key) true) (sym (hides_by schema before (under written empty) q stores.own fits) ∙ stores.keys q fits)
        ∙ by_test q (eq_by_cmp key_cmp q key)
        ∙ ap is_some (sym (get-insert key_cmp_total written key write q));
    removed = removed;
    fit = λ q some. still_fit q (eq_by_cmp key_cmp q key) refl (sym (ap is_some (get-insert key_cmp_total written key write q)) ∙ some);
  }
    where
      still_fit : (q : Key) (b : Bool) → eq_by_cmp key_cmp q key ≡ b → is_some (cond b (Some write) (get written q)) ≡ true → AreFit q
      still_fit q true tied some = subst AreFit (sym (tied_is q key tied)) key_fit
      still_fit q false apart some = stores.fit q some

      by_test : (q : Key) (b : Bool) → cond b true (is_some (get written q)) ≡ is_some (cond b (Some write) (get written q))
      by_test q true = refl
      by_test q false = refl

  pub stores_put : (tuple : List ℕ) → StoresIndexed schema after.own (insert (under written empty) key tuple) → after.removed ≡ before.removed
      → StoresWritten schema after (insert written key (Some tuple))
  stores_put tuple own same = stores_write (Some tuple) own
      (λ q fits. ap (λ r. is_some (cond (eq_by_cmp key_cmp q key) (Some tuple) (get (under written empty) q)) || holds_key r (comparable_of q)) same ∙ by_test q (eq_by_cmp key_cmp q key))
      (λ bytes held. stores.removed bytes (ap (λ r. holds_key r bytes) (sym same) ∙ held))
    where
      by_test : (q : Key) (b : Bool) → (is_some (cond b (Some tuple) (get (under written (empty {X = List ℕ} {R = key_cmp})) q)) || holds_key before.removed (comparable_of q))
          ≡ cond b true (is_some (get (under written (empty {X = List ℕ} {R = key_cmp})) q) || holds_key before.removed (comparable_of q))
      by_test q true = refl
      by_test q false = refl

  pub stores_removed : (bytes : List ℕ) → bytes ≡ comparable_of key → StoresIndexed schema after.own (remove (under written empty) key)
      → IsSetTo before.removed after.removed bytes true → StoresWritten schema after (insert written key None)
  stores_removed bytes is own sets = stores_write None own
      (λ q fits. ap (λ b. is_some (cond (eq_by_cmp key_cmp q key) None (get (under written empty) q)) || b) (key_removed before.removed after.removed key bytes key_fit is sets q fits)
      ∙ by_test q (eq_by_cmp key_cmp q key))
      (λ other held. one_more other (is_at (slice_cmp nat_cmp bytes) other) refl (sym (sets other) ∙ held))
    where
      one_more : (other : List ℕ) (b : Bool) → is_at (slice_cmp nat_cmp bytes) other ≡ b → cond b true (holds_key before.removed other) ≡ true → IsOfKey other
      one_more other true tied held = (key, key_fit, sym (slice_cmp-IsAntisymmetric nat_cmp-IsAntisymmetric bytes other (eq_is (slice_cmp nat_cmp bytes other) tied)) ∙ is)
      one_more other false apart held = stores.removed other held

      by_test : (q : Key) (b : Bool)
          → (is_some (cond b None (get (under written (empty {X = List ℕ} {R = key_cmp})) q)) || cond b true (holds_key before.removed (comparable_of q)))
          ≡ cond b true (is_some (get (under written (empty {X = List ℕ} {R = key_cmp})) q) || holds_key before.removed (comparable_of q))
      by_test q true = refl
      by_test q false = refl

-- the own tuples and the keys are as they were
pub stores_still : (schema : Option Schema) (before after : OverlaidSpace) (written : OwnWrites) → StoresWritten schema before written → after.removed ≡ before.removed
    → StoresIndexed schema after.own (under written empty) → StoresWritten schema after written
stores_still schema before after written stores same own = record {
  own = own;
  keys = λ key fit.
      hides_by schema after (under written empty) key own fit
      ∙ ap (λ r. is_some (get (under written empty) key) || holds_key r (comparable_of key)) same
      ∙ sym (hides_by schema before (under written empty) key stores.own fit) ∙ stores.keys key fit;
  removed = λ bytes held. stores.removed bytes (ap (λ r. holds_key r bytes) (sym same) ∙ held);
  fit = stores.fit;
}

-- a key was taken back
pub stores_again : (schema : Option Schema) (before after : OverlaidSpace) (middle : Removed) (written : OwnWrites) (bytes : List ℕ)
    → StoresWritten schema before written → StoresIndexed schema after.own (under written empty)
    → holds_key before.removed bytes ≡ false → IsSetTo before.removed middle bytes true → IsSetTo middle after.removed bytes false
    → StoresWritten schema after written
stores_again schema before after middle written bytes stores own new put taken = record {
  own = own;
  keys = λ key fit.
      hides_by schema after (under written empty) key own fit
      ∙ ap (λ b. is_some (get (under written empty) key) || b) (back_again before.removed middle after.removed bytes new put taken (comparable_of key))
      ∙ sym (hides_by schema before (under written empty) key stores.own fit) ∙ stores.keys key fit;
  removed = λ other held. stores.removed other (sym (back_again before.removed middle after.removed bytes new put taken other) ∙ held);
  fit = stores.fit;
}

-- the indexes are those of the space that is described
pub own_index : (schema : Schema) (over : OverlaidSpace) (written : OwnWrites) (id : ℕ) (def : IndexDef) → StoresWritten (Some schema) over written → index_with id schema.indexes ≡ Some def
    → index_with id over.own.schema.indexes ≡ Some def
own_index schema over written id def stores there =
    subst (λ (s : Schema). index_with id s.indexes ≡ Some def) (same_some schema over.own.schema stores.own.holds.is) there
