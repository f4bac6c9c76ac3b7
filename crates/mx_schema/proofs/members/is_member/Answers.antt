use Rattle.std.proofs.Common.{◌≡◌, ℕ, zero, suc, false, List, Some, refl, sym, ap, ◌∙◌}
use Rattle.std.specs.Option.{option_map}
use Rattle.mx_msgpack.specs.Items.{items_of, values_from}
use Rattle.mx_schema.specs.Members.{are_member_fields}
use Rattle.mx_schema.proofs.members.is_member.Goals as goal

-- a row of another number of fields
not_two : (count : ℕ) (bytes : List ℕ) → (count ≡ 2 → ⊥) → false ≡ are_member_fields (Some (values_from count bytes))
not_two zero bytes other = refl
not_two (suc zero) bytes other = refl
not_two (suc (suc zero)) bytes other = absurd (other refl)
not_two (suc (suc (suc count))) bytes other = refl

pub returns-then-fields-ne2 : goal.returns-then-fields-ne2
returns-then-fields-ne2 c =
    let fields = c.in-Some.fields in
    let there : items_of c.args.row.now ≡ Some (values_from fields.count fields.bytes.now) =
    ap (option_map (λ (array : ℕ × List ℕ). values_from array.0 array.1)) (sym c.in-Some.ensures) in
    not_two fields.count fields.bytes.now c.if-fields-ne2.true ∙ ap are_member_fields (sym there)
