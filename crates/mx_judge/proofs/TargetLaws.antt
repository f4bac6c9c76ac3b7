-- The stages that INSERT, REPLACE and UPSERT have in common: a space, whether it can be written so, its primary index, and whether it
-- takes the tuple.
use Rattle.std.proofs.Common.{◌≡◌, ℕ, List, Option, Some, None, Ok, sym, ap, ◌∙◌, subst}
use Rattle.std.specs.Prelude.{IfSome}
use Rattle.mx_base.specs.declared.ids.IndexId.{IndexId}
use Rattle.mx_base.specs.declared.ids.SpaceId.{SpaceId}
use Rattle.mx_key.specs.Comparable.{comparable_of}
use Rattle.mx_key.specs.Keys.{Key, AreFit}
use Rattle.mx_schema.specs.declared.index_def.IndexDef.{IndexDef}
use Rattle.mx_schema.specs.declared.schema.Schema.{Schema}
use Rattle.mx_schema.specs.Catalogues.{index_with, schema_of}
use Rattle.mx_schema.specs.State.{State, key_in, key_or_none}
use Rattle.mx_write.specs.declared.writable.Writer.{Writer}
use Rattle.mx_write.specs.Checks.{tuple_fault}
use Rattle.mx_write.specs.Judged.{Judged, unless, ◌>>=◌}
use Rattle.mx_write.specs.Lookup.{own_key, the_index, the_space}
use Rattle.mx_write.specs.Stages.{HasKey, HasOwnKey}
use Rattle.mx_write.specs.Writable.{write_refusal}
use Rattle.mx_write.proofs.StageLaws.{goes_on, index_there, none_refuses, space_there}

module _ {X : Type 0} (writer : Writer) (before : State) (space : SpaceId) (index : IndexId) (type : ℕ) (tuple : List ℕ) (rest : Schema → IndexDef → Judged X) where
  abbrev to_tuple : Schema → IndexDef → Judged X
  to_tuple schema primary = unless (tuple_fault schema primary tuple) >>= λ _. rest schema primary

  abbrev to_index : Schema → Judged X
  to_index schema = the_index space.0 schema index.0 >>= to_tuple schema

  abbrev to_writable : Schema → Judged X
  to_writable schema = unless (write_refusal writer space.0 type (Some tuple)) >>= λ _. to_index schema

  abbrev pub whole : Judged X
  whole = the_space before space.0 >>= to_writable

  -- so far it goes on
  pub reaches : (schema : Schema) → schema_of before space.0 ≡ Some schema → write_refusal writer space.0 type (Some tuple) ≡ None
      → (primary : IndexDef) → index_with index.0 schema.indexes ≡ Some primary → tuple_fault schema primary tuple ≡ None → whole.outcome ≡ (rest schema primary).outcome
  reaches schema described writable primary there takes =
      goes_on (the_space before space.0) to_writable schema (space_there before space schema described)
      ∙ goes_on (unless (write_refusal writer space.0 type (Some tuple))) (λ _. to_index schema) tt (none_refuses _ writable)
      ∙ goes_on (the_index space.0 schema index.0) (to_tuple schema) primary (index_there space.0 schema index primary there)
      ∙ goes_on (unless (tuple_fault schema primary tuple)) (λ _. rest schema primary) tt (none_refuses _ takes)

-- ---- a tuple's own key

module _ (def : IndexDef) (tuple bytes : List ℕ) (has : HasOwnKey def tuple bytes) where
  own_is : own_key def tuple ≡ has.0
  own_is = ap key_or_none has.1

  pub own_has : key_in def.key tuple ≡ Ok (own_key def tuple)
  own_has = has.1 ∙ ap (λ k. Ok k) (sym own_is)

  pub own_fits : AreFit (own_key def tuple)
  own_fits = subst AreFit (sym own_is) has.2

  pub own_bytes : bytes ≡ comparable_of (own_key def tuple)
  own_bytes = has.3 ∙ ap comparable_of (sym own_is)

-- a tuple that is put has its primary key
pub has_key : (schema : Schema) (primary : IndexDef) (key : Key) (tuple : List ℕ) → index_with 0 schema.indexes ≡ Some primary → key_in primary.key tuple ≡ Ok key
    → HasKey schema key (Some tuple)
has_key schema primary key tuple there has = subst (λ (found : Option IndexDef). IfSome found (λ def. key_in def.key tuple ≡ Ok key)) (sym there) has
