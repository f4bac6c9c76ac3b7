-- How a write goes on from stage to stage.
use Rattle.std.proofs.Common.{◌≡◌, ◌⊎◌, ℕ, inl, inr, Option, Some, None, Result, Ok, Err, refl, sym, ap, ◌∙◌}
use Rattle.mx_base.specs.declared.refusal.Refusal.{Refusal}
use Rattle.mx_base.specs.declared.refusal.Refusal.TheVariants.{OutOfMemory, IndexMissing, SpaceMissing}
use Rattle.mx_base.specs.declared.ids.IndexId.{IndexId}
use Rattle.mx_base.specs.declared.ids.SpaceId.{SpaceId}
use Rattle.mx_schema.specs.declared.index_def.IndexDef.{IndexDef}
use Rattle.mx_schema.specs.declared.schema.Schema.{Schema}
use Rattle.mx_schema.specs.Catalogues.{index_with, schema_of}
use Rattle.mx_schema.specs.State.{State}
use Rattle.mx_write.specs.Lookup.{the_index, the_space}
use Rattle.mx_write.specs.Judged.{Judged, found_or, next_stage, unless, ◌>>=◌}
use Rattle.mx_write.specs.Stages.{IsRefusedBy, Refuses, refusal_of}

module _ {X Y : Type 0} (judged : Judged X) (stage : X → Judged Y) where
  -- it goes on with what was found
  pub goes_on : (x : X) → judged.outcome ≡ Ok x → (judged >>= stage).outcome ≡ (stage x).outcome
  goes_on x is = ap (λ outcome. (next_stage judged.reads outcome stage).outcome) is

  -- it ends where this stage refuses
  pub refused_here : (why : Refusal) → IsRefusedBy why judged → IsRefusedBy why (judged >>= stage)
  refused_here why (inl is) = inl (ap (λ outcome. (next_stage judged.reads outcome stage).outcome) is)
  refused_here why (inr none) = inr none

  -- and where a later one does
  pub refused_later : (x : X) (why : Refusal) → judged.outcome ≡ Ok x → IsRefusedBy why (stage x) → IsRefusedBy why (judged >>= stage)
  refused_later x why is (inl refuses) = inl (goes_on x is ∙ refuses)
  refused_later x why is (inr none) = inr none

  -- an outcome that is no refusal came by way of something that was found
  pub came_by : (y : Y) → (judged >>= stage).outcome ≡ Ok y → (x : X) × (judged.outcome ≡ Ok x) × ((stage x).outcome ≡ Ok y)
  came_by y = by_outcome judged.outcome refl
    where
      by_outcome : (outcome : Result X Refusal) → judged.outcome ≡ outcome → (next_stage judged.reads outcome stage).outcome ≡ Ok y
          → (x : X) × (judged.outcome ≡ Ok x) × ((stage x).outcome ≡ Ok y)
      by_outcome (Err why) is e = absurd cc
      by_outcome (Ok x) is e = (x, is, e)

-- a stage after two that are one
module _ {X Y Z : Type 0} (judged : Judged X) (stage : X → Judged Y) (last : Y → Judged Z) where
  abbrev pub in_three : Judged Z
  in_three = judged >>= λ x. (stage x >>= last)

  pub goes_on_after : (y : Y) → (judged >>= stage).outcome ≡ Ok y → in_three.outcome ≡ (last y).outcome
  goes_on_after y is =
      let (x, first, second) = came_by judged stage y is in
      goes_on judged (λ x. stage x >>= last) x first ∙ goes_on (stage x) last y second

  pub refused_before : (why : Refusal) → IsRefusedBy why (judged >>= stage) → IsRefusedBy why in_three
  refused_before why (inr none) = inr none
  refused_before why (inl is) = by_outcome judged.outcome refl is
    where
      by_outcome : (outcome : Result X Refusal) → judged.outcome ≡ outcome → (next_stage judged.reads outcome stage).outcome ≡ Err why → IsRefusedBy why in_three
      by_outcome (Err other) e is = let same : other ≡ why = cc in refused_here judged (λ x. stage x >>= last) why (inl (e ∙ ap (λ w. Err w) same))
      by_outcome (Ok x) e is = refused_later judged (λ x. stage x >>= last) x why e (refused_here (stage x) last why (inl is))

-- ---- one stage

pub none_refuses : (fault : Option Refusal) → fault ≡ None → (unless fault).outcome ≡ Ok tt
none_refuses fault none = ap (λ f. (unless f).outcome) none

pub refuses_so : (fault : Option Refusal) (why : Refusal) → Refuses why fault → IsRefusedBy why (unless fault)
refuses_so fault why (inl is) = inl (ap (λ f. (unless f).outcome) is)
refuses_so fault why (inr none) = inr none

pub passed_so : (fault : Option Refusal) (x : Unit {0}) → (unless fault).outcome ≡ Ok x → fault ≡ None
passed_so None x e = refl
passed_so (Some why) x e = absurd cc

pub is_found : {X : Type 0} (why : Refusal) (there : Option X) (x : X) → there ≡ Some x → (found_or why there).outcome ≡ Ok x
is_found why there x is = ap (λ t. (found_or why t).outcome) is

pub is_missing : {X : Type 0} (why : Refusal) (there : Option X) → there ≡ None → (found_or why there).outcome ≡ Err why
is_missing why there none = ap (λ t. (found_or why t).outcome) none

pub was_found : {X : Type 0} (why : Refusal) (there : Option X) (x : X) → (found_or why there).outcome ≡ Ok x → there ≡ Some x
was_found why None x e = absurd cc
was_found why (Some other) x e = cc

-- ---- the space and its index

module _ (before : State) (space : SpaceId) where
  pub space_there : (schema : Schema) → schema_of before space.0 ≡ Some schema → (the_space before space.0).outcome ≡ Ok schema
  space_there schema is = is_found (SpaceMissing space) (schema_of before space.0) schema is

module _ (space : ℕ) (schema : Schema) (index : IndexId) where
  pub index_there : (def : IndexDef) → index_with index.0 schema.indexes ≡ Some def → (the_index space schema index.0).outcome ≡ Ok def
  index_there def is = is_found (IndexMissing index schema.def.name) (index_with index.0 schema.indexes) def is

  pub index_absent : (why : Refusal) → ((index_with index.0 schema.indexes ≡ None) × (why ≡ IndexMissing index schema.def.name)) ⊎ (why ≡ OutOfMemory)
      → IsRefusedBy why (the_index space schema index.0)
  index_absent why (inl (none, is)) = inl (is_missing (IndexMissing index schema.def.name) (index_with index.0 schema.indexes) none ∙ ap (λ w. Err w) (sym is))
  index_absent why (inr none) = inr none

-- ---- a space as the code has it

-- an outcome without a refusal is that it went on
pub went_on : (judged : Judged (Unit {0})) → None ≡ refusal_of judged.outcome → judged.outcome ≡ Ok tt
went_on judged = by_outcome judged.outcome
  where
    by_outcome : (outcome : Result (Unit {0}) Refusal) → None ≡ refusal_of outcome → outcome ≡ Ok tt
    by_outcome (Ok tt) e = refl
    by_outcome (Err why) e = absurd cc

pub stopped_so : (judged : Judged (Unit {0})) (why : Refusal) → Some why ≡ refusal_of judged.outcome → IsRefusedBy why judged
stopped_so judged why e = inl (by_outcome judged.outcome e)
  where
    by_outcome : (outcome : Result (Unit {0}) Refusal) → Some why ≡ refusal_of outcome → outcome ≡ Err why
    by_outcome (Ok tt) e = absurd cc
    by_outcome (Err other) e = cc
