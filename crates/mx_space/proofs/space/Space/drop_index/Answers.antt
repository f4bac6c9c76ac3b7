use Rattle.std.proofs.Common.{eq-eqb, ne_eqb, [], refl, sym, ap, ◌∙◌, subst}
use Rattle.std.specs.FinMap.{empty}
use Rattle.std.specs.Prelude.{map, Some, if◌then◌else◌}
use Rattle.std.specs.Vec.{with_items}
use Rattle.mx_schema.specs.SchemaChanges.{schema_without_index}
use Rattle.mx_space.specs.declared.space.Space.{Space}
use Rattle.mx_entries.specs.EntryChanges.{kept_without}
use Rattle.mx_space.specs.Kept.{StoresIndexed}
use Rattle.mx_space.proofs.HeldLaws.{space_without_index, space_without_primary}
use Rattle.mx_space.proofs.SpaceLaws.{items_cleared}
use Rattle.mx_space.proofs.space.Space.drop_index.Goals as goal

pub returns-then-id-eq0 : goal.returns-then-id-eq0
returns-then-id-eq0 c = λ was all stores.
    let id = c.args.id.0 in
    let before = c.args.self.now in
    let left = c.remove_indexes.new.indexes in
    let after : Space = record { schema = record { def = before.schema.def; indexes = c.remove.new.self }; tuples = c.clear.new.self; indexes = with_items left c.clear_all.new.indexes } in
    let kept = c.remove_indexes.ensures ∙ ap (λ defs. kept_without id defs before.indexes.items) c.as_slice.ensures in
    subst (λ b. StoresIndexed (Some (schema_without_index id before.schema)) after (if b then empty else all)) (sym (eq-eqb id 0 c.if-id-eq0.true))
    (space_without_primary was before after all stores id (ap (λ defs. record { def = before.schema.def; indexes = defs }) c.remove.ensures) c.clear.ensures.empty
    (items_cleared left c.clear_all.new.indexes (c.clear_all.ensures ∙ ap (map (λ _. [])) c.as_mut_slice.ensures.value) ∙ ap (map (λ _. [])) kept))

pub returns-else-id-eq0 : goal.returns-else-id-eq0
returns-else-id-eq0 c = λ was all stores.
    let id = c.args.id.0 in
    let before = c.args.self.now in
    let after : Space = record { schema = record { def = before.schema.def; indexes = c.remove.new.self }; tuples = before.tuples; indexes = c.remove_indexes.new.indexes } in
    subst (λ b. StoresIndexed (Some (schema_without_index id before.schema)) after (if b then empty else all)) (sym (ne_eqb id 0 c.if-id-eq0.false))
    (space_without_index was before after all stores id (ap (λ defs. record { def = before.schema.def; indexes = defs }) c.remove.ensures) c.if-id-eq0.false refl
    (c.remove_indexes.ensures ∙ ap (λ defs. kept_without id defs before.indexes.items) c.as_slice.ensures))
