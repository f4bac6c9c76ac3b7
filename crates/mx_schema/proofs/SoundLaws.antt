-- Sound states, and what stays so.
use Rattle.std.proofs.Common.{◌≡◌, ℕ, Bool, true, false, List, Some, Ok, refl, sym, ap, ◌∙◌, subst}
use Rattle.std.specs.Prelude.{IfSome, ◌==◌, if◌then◌else◌}
use Rattle.std.specs.FinMap.{entries, get, insert}
use Rattle.std.specs.List.{AllByRecursion}
use Rattle.std.proofs.lemmas.Bool.{eqb-true}
use Rattle.mx_key.specs.Keys.{Key, AreFit}
use Rattle.mx_schema.specs.declared.index_def.IndexDef.{IndexDef}
use Rattle.mx_schema.specs.declared.schema.Schema.{Schema}
use Rattle.mx_schema.specs.Catalogues.{StandByKey, index_with, schema_of}
use Rattle.mx_schema.specs.Sound.{AreKeyed, IsSound, SpaceRowStands}
use Rattle.mx_schema.specs.State.{State, Tuples, index_rows, key_in, space_rows, tuples_in}
use Rattle.mx_schema.proofs.IndexRowLaws.{either_way}
use Rattle.mx_schema.proofs.SchemaChangeLaws.{have_elsewhere, rows_stand_elsewhere}
use Rattle.mx_schema.proofs.StateLaws.{schema_set, tuples_set}
use Rattle.mx_schema.proofs.TakenLaws.{each_found}

-- a tuple that is found in a sound state is found by its own key
pub sound_key : (state : State) (space : ℕ) (schema : Schema) (primary : IndexDef) (key : Key) (tuple : List ℕ) → IsSound state → schema_of state space ≡ Some schema
    → index_with 0 schema.indexes ≡ Some primary → get (tuples_in state space) key ≡ Some tuple → (key_in primary.key tuple ≡ Ok key) × AreFit key
sound_key state space schema primary key tuple sound described there is =
    let keyed : AreKeyed (Some schema) (tuples_in state space) = subst (λ s. AreKeyed s (tuples_in state space)) described (sound.keyed space) in
    let stand : StandByKey primary.key (tuples_in state space) = subst (λ o. IfSome o (λ def. StandByKey def.key (tuples_in state space))) there keyed.0 in (
      each_found key (λ entry. key_in primary.key entry.1 ≡ Ok entry.0) (tuples_in state space) tuple is stand,
      each_found key (λ entry. AreFit entry.0) (tuples_in state space) tuple is keyed.1,
    )

-- a space of no descriptions is given other tuples, each under its key
pub sound_set : (before : State) (space : ℕ) (all : Tuples) → (space == space_rows) ≡ false → (space == index_rows) ≡ false → IsSound before
    → AreKeyed (schema_of before space) all → IsSound (insert before space all)
sound_set before space all no_space no_index sound keyed = record {
  keyed = λ q. by_test q (q == space) refl;
  described = record {
    own = λ q below. schema_set before space all no_space no_index q ∙ sound.described.own q below;
    spaces = subst (λ (rows : Tuples). AllByRecursion SpaceRowStands (entries rows))
        (sym (tuples_set before space all space_rows ∙ ap (λ b. if b then all else tuples_in before space_rows) (either_way space_rows space ∙ no_space))) sound.described.spaces;
    indexes = rows_stand_elsewhere before space all (either_way index_rows space ∙ no_index) sound.described.indexes;
    have = have_elsewhere before sound.described.have space all no_space no_index;
  };
}
  where
    by_test : (q : ℕ) (b : Bool) → (q == space) ≡ b → AreKeyed (schema_of (insert before space all) q) (tuples_in (insert before space all) q)
    by_test q true e =
        let tuples : tuples_in (insert before space all) q ≡ all = tuples_set before space all q ∙ ap (λ b. if b then all else tuples_in before q) e in
        let schema : schema_of (insert before space all) q ≡ schema_of before space = schema_set before space all no_space no_index q ∙ ap (schema_of before) (eqb-true q space e) in
        subst (λ s. AreKeyed s (tuples_in (insert before space all) q)) (sym schema) (subst (AreKeyed (schema_of before space)) (sym tuples) keyed)
    by_test q false e =
        let tuples : tuples_in (insert before space all) q ≡ tuples_in before q = tuples_set before space all q ∙ ap (λ b. if b then all else tuples_in before q) e in
        subst (λ s. AreKeyed s (tuples_in (insert before space all) q)) (sym (schema_set before space all no_space no_index q))
        (subst (AreKeyed (schema_of before q)) (sym tuples) (sound.keyed q))
