use Rattle.std.proofs.Common.{rules, ◌≡◌, None, [], nat_cmp, ap, ◌∙◌, subst, sym}
use Rattle.std.specs.BTreeMap.{get_by, is_at}
use Rattle.std.specs.Map.{lookup}
use Rattle.std.proofs.lemmas.List.{nil_from_length}
use Rattle.mx_schema.specs.State as state
use Rattle.mx_schema.proofs.StateLaws.{no_tuples}
use Rattle.mx_space.specs.Spaces.{space_under}
use Rattle.mx_space.specs.Stored.{HoldsSpace}
use Rattle.mx_space.proofs.HeldLaws.{all_there, part_more}
use Rattle.mx_space.proofs.state.State.new.Goals as goal

pub returns : goal.returns
returns c = λ id.
    let whole = get_by (nat_cmp id) c.into_schemas-left.result in
    let space = space_under id c.loop-id.spaces.entries.items in
    let none : c.loop-id.left.entries ≡ [] = nil_from_length _ (search rules) in
    let over : get_by (nat_cmp id) c.loop-id.left ≡ None = ap (lookup (is_at (nat_cmp id))) none in
    rw (c.into_schemas-left.ensures id) at
    (subst (λ (tuples : state.Tuples). HoldsSpace whole space tuples) (sym (no_tuples id)) (all_there whole space (get_by (nat_cmp id) c.loop-id.left) over (c.loop-id.invariant id)))

pub loop-id-preserved : goal.loop-id-preserved
loop-id-preserved c = λ q.
    part_more (get_by (nat_cmp q) c.into_schemas-left.result) c.in-Some.id q c.in_ok-new.field-0 (space_under q c.loop-id.spaces.entries.items) (space_under q c.insert.new.self.entries.items)
    (get_by (nat_cmp q) c.loop-id.left) (get_by (nat_cmp q) c.pop_first.new.self) c.in-Some.schema c.in_ok-new.ensures (c.in_ok-insert.ensures.ok q)
    (c.in-Some.ensures.updates.0 q) (λ same. ap (λ s. get_by (nat_cmp s) c.loop-id.left) same ∙ c.in-Some.ensures.value) (c.loop-id.invariant q)
