use Rattle.std.proofs.Common.{◌≡◌, ℕ, Bool, [], ◌∷◌, sym, ap, ◌∙◌}
use Rattle.mx_base.specs.Keys.{type_key, replica_key, lsn_key, is_last_key}
use Rattle.mx_completion.specs.declared.field.Field.{Field}
use Rattle.mx_completion.specs.declared.field.Form.{Form}
use Rattle.mx_completion.specs.declared.field.Form.TheVariants.{Number}
use Rattle.mx_row.specs.Stops.{header_fields, lowest_lsn, highest_lsn, bounded_field, place_fields}
use Rattle.mx_row.proofs.CompletionLaws.{place_decided}
use Rattle.mx_row.proofs.header_completion.can_be_header.Goals as goal

abbrev field_of : (key : ℕ) → Form → Field
field_of key form = record { key = key; form = form }

pub returns-in-Alone : goal.returns-in-Alone
returns-in-Alone c =
    let last = c.args.rows.now.last in
    let first : c.field-first.result ≡ bounded_field type_key c.args.kind c.args.kind = c.field-first.ensures ∙ ap (λ (n : ℕ). bounded_field type_key n n) c.from-kind.ensures in
    let replica = c.field-replica.ensures ∙ ap (field_of replica_key) c.replicas.ensures in
    let lsn = c.field-lsn.ensures ∙ ap (field_of lsn_key) (c.lsns.ensures ∙ ap (λ (ends : Bool). Number (lowest_lsn last) (highest_lsn ends last)) c.ends_transaction.ensures) in
    let others = ap (λ (f : Field). f ∷ []) c.field-number.ensures ∙ ap place_fields (sym c.in-Alone.is) in
    place_decided (c.field-first.result ∷ c.field-replica.result ∷ c.field-lsn.result ∷ c.field-number.result ∷ []) (header_fields c.args.rows.now c.args.kind c.args.place)
    c.args.bytes.now c.can_have.result (λ i. first i ∷ replica i ∷ lsn i ∷ others i) c.can_have.ensures

pub returns-in-Numbered : goal.returns-in-Numbered
returns-in-Numbered c =
    let last = c.args.rows.now.last in
    let first : c.field-first.result ≡ bounded_field type_key c.args.kind c.args.kind = c.field-first.ensures ∙ ap (λ (n : ℕ). bounded_field type_key n n) c.from-kind.ensures in
    let replica = c.field-replica.ensures ∙ ap (field_of replica_key) c.replicas.ensures in
    let lsn = c.field-lsn.ensures ∙ ap (field_of lsn_key) (c.lsns.ensures ∙ ap (λ (ends : Bool). Number (lowest_lsn last) (highest_lsn ends last)) c.ends_transaction.ensures) in
    let form = c.field-last.ensures ∙ ap (field_of is_last_key) c.last_form.ensures in
    let number = c.field-number-in-Numbered.ensures in
    let others = (λ i. number i ∷ form i ∷ []) ∙ ap place_fields (sym c.in-Numbered.is) in
    place_decided (c.field-first.result ∷ c.field-replica.result ∷ c.field-lsn.result ∷ c.field-number-in-Numbered.result ∷ c.field-last.result ∷ [])
    (header_fields c.args.rows.now c.args.kind c.args.place) c.args.bytes.now c.can_have-in-Numbered.result (λ i. first i ∷ replica i ∷ lsn i ∷ others i) c.can_have-in-Numbered.ensures
