-- Where the plain slow program judges a write, and the tuple that a key finds there.
use Rattle.std.proofs.Common.{◌≡◌, ℕ, List, Option, Some, None, Ok, refl, sym, ap, ◌∙◌, subst, eq-eqb, ne_eqb, nat_cmp}
use Rattle.std.specs.Prelude.{IfSome, if◌then◌else◌}
use Rattle.std.specs.BTreeMap.{is_at}
use Rattle.std.specs.Cmp.Lexicographic.{slice_cmp}
use Rattle.std.specs.FinMap.{empty, entries, get}
use Rattle.std.specs.Map.{lookup}
use Rattle.std.specs.Option.{option_map}
use Rattle.std.specs.Result.{result_ok}
use Rattle.mx_base.specs.declared.refusal.Refusal.{Refusal}
use Rattle.mx_key.specs.Comparable.{comparable_of}
use Rattle.mx_key.specs.Keys.{Key, AreFit}
use Rattle.mx_schema.specs.declared.index_def.IndexDef.{IndexDef}
use Rattle.mx_schema.specs.declared.keyed.Keyed.{Keyed}
use Rattle.mx_schema.specs.Catalogues.{StandByKey, index_with, schema_of}
use Rattle.mx_schema.specs.Picks.{indexed_with}
use Rattle.mx_schema.specs.State.{State, Tuples, key_in, tuples_in}
use Rattle.mx_schema.specs.Stored.{StoresSpace, StoresTuples, stored_list}
use Rattle.mx_schema.proofs.StoredLaws.{other_index}
use Rattle.mx_schema.proofs.TakenLaws.{each_found, stored_get}
use Rattle.mx_write.specs.Judged.{Judged, judged_as}
use Rattle.mx_write.specs.Lookup.{entry_under, entry_with, holder_of, primary_key_of}
use Rattle.mx_write.specs.Made.{Made}
use Rattle.mx_write.specs.Stages.{IsRefusedBy}
use Rattle.mx_slow_state.specs.declared.slow_state.site.Site.{Site}
use Rattle.mx_slow_state.specs.SlowWrites.{IsEntry, IsSite}

-- a refusal of the same outcome
pub refused_as : (why : Refusal) (one other : Judged Made) → one.outcome ≡ other.outcome → IsRefusedBy why other → IsRefusedBy why one
refused_as why one other same = subst (λ outcome. IsRefusedBy why (judged_as outcome)) (sym same)

-- a space that was found, with its primary index
pub is_site : (before : State) (site : Site) → StoresSpace (schema_of before site.space.0) site.schema.now (stored_list site.tuples.now) (tuples_in before site.space.0)
    → index_with 0 site.schema.now.indexes ≡ Some site.primary.now → IsSite before site
is_site before site stored there = record { stored = stored; primary = there }

-- ---- the tuple under a primary key, as a scan finds it

module _ (before : State) (site : Site) (is : IsSite before site) (bytes : List ℕ) (key : Key) (fit : AreFit key) (bytes_are : bytes ≡ comparable_of key) where
  abbrev space : ℕ
  space = site.space.0

  abbrev tuples : Tuples
  tuples = tuples_in before space

  abbrev tuple_found : Option Keyed → Option (List ℕ)
  tuple_found = option_map (λ (one : Keyed). one.tuple)

  scanned : lookup (is_at (slice_cmp nat_cmp bytes)) (stored_list site.tuples.now) ≡ get tuples key
  scanned = stored_get (stored_list site.tuples.now) tuples key bytes is.stored.keeps fit bytes_are

  pub found_under : (found : Option Keyed) → tuple_found found ≡ lookup (is_at (slice_cmp nat_cmp bytes)) (stored_list site.tuples.now)
      → tuple_found found ≡ get tuples key
  found_under found finds = finds ∙ scanned

  -- it is the entry under the key
  pub entry_found : (found : Option Keyed) → tuple_found found ≡ lookup (is_at (slice_cmp nat_cmp bytes)) (stored_list site.tuples.now)
      → IfSome found (λ one. one.key ≡ bytes) → IsEntry site.primary.now found (entry_under before space (Some key))
  entry_found None finds at = subst (λ (o : Option (List ℕ)). IsEntry site.primary.now None (option_map (λ tuple. (key, tuple)) o)) (finds ∙ scanned) tt
  entry_found (Some one) finds at =
      let there : Some one.tuple ≡ get tuples key = finds ∙ scanned in
      subst (λ (o : Option (List ℕ)). IsEntry site.primary.now (Some one) (option_map (λ tuple. (key, tuple)) o)) there
      (fit, at ∙ bytes_are, refl, own)
    where
      own : key_in site.primary.now.key one.tuple ≡ Ok key
      own =
          each_found key (λ entry. key_in site.primary.now.key entry.1 ≡ Ok entry.0) tuples one.tuple (sym (finds ∙ scanned))
          (subst (λ (o : Option IndexDef). IfSome o (λ def. StandByKey def.key tuples)) is.primary is.stored.stands)

-- ---- the tuple with a key in a unique index

module _ (before : State) (space : ℕ) (primary def : IndexDef) (wanted : Key) where
  -- in one of another number than 0, whose tuples are listed under their keys
  pub held_by : (kept : List Keyed) (bytes : List ℕ) → (def.id.0 ≡ 0 → ⊥) → StoresTuples (stored_list kept) (indexed_with def empty (entries (tuples_in before space)))
      → AreFit wanted → bytes ≡ comparable_of wanted → lookup (is_at (slice_cmp nat_cmp bytes)) (stored_list kept) ≡ holder_of before space def wanted
  held_by kept bytes other stores fit is =
      stored_get (stored_list kept) (indexed_with def empty (entries (tuples_in before space))) wanted bytes stores fit is
      ∙ ap (λ (tuples : Tuples). get tuples wanted) (sym (other_index def (tuples_in before space) other))

  module _ (found : Option Keyed) where
    -- the key is the primary one
    pub entry_by_primary : def.id.0 ≡ 0 → IsEntry primary found (entry_under before space (Some wanted)) → IsEntry primary found (entry_with before space primary def wanted)
    entry_by_primary first =
        subst (λ own. IsEntry primary found (entry_under before space own))
        (sym (ap (λ b. if b then Some wanted else primary_key_of primary (holder_of before space def wanted)) (eq-eqb def.id.0 0 first)))

    -- or that of the tuple that was found
    pub entry_by_holder : (tuple : List ℕ) (own : Key) → (def.id.0 ≡ 0 → ⊥) → Some tuple ≡ holder_of before space def wanted → key_in primary.key tuple ≡ Ok own
        → IsEntry primary found (entry_under before space (Some own)) → IsEntry primary found (entry_with before space primary def wanted)
    entry_by_holder tuple own other held has =
        subst (λ key. IsEntry primary found (entry_under before space key))
        (sym (ap (λ b. if b then Some wanted else primary_key_of primary (holder_of before space def wanted)) (ne_eqb def.id.0 0 other)
        ∙ ap (primary_key_of primary) (sym held) ∙ ap result_ok has))
