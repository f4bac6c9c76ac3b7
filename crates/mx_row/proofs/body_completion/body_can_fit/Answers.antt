use Rattle.std.proofs.Common.{refl, ◌∙◌, ap, suc, sym, subst}
use Rattle.std.specs.Prelude.{nat_lt}
use Rattle.std.proofs.lemmas.Bool.{ltb-true}
use Rattle.mx_vclock.specs.Vclocks.{max_lsn}
use Rattle.mx_row.specs.Limits.{max_rows}
use Rattle.mx_row.specs.Rows.{ends_transaction}
use Rattle.mx_row.specs.Stops.{CanBeBody, Decides, body_room}
use Rattle.mx_row.proofs.CompletionLaws.{allows_parts, fits_decided}
use Rattle.mx_row.proofs.body_completion.body_can_fit.Goals as goal

pub returns : goal.returns
returns c =
    let rows = c.args.rows.now in
    let header = c.args.header.now in
    let ends = ends_transaction header.place in
    let room = c.body_room.ensures ∙ ap (body_room rows) c.ends_transaction.ensures in
    fits_decided rows c.requires.room header c.args.bytes.now ends c.can_be_body.result refl (sym c.may_follow.ensures ∙ c.if-not-may_follow.false)
    (λ further.
    let (few, low) = allows_parts ends (nat_lt (suc rows.count) max_rows) (nat_lt header.lsn.0 max_lsn) (sym c.allows_next.ensures ∙ c.if-not-allows_next.false) further in
    (ltb-true (suc rows.count) max_rows few, ltb-true header.lsn.0 max_lsn low))
    (subst (λ n. Decides (CanBeBody header.kind n c.args.bytes.now) c.can_be_body.result) room c.can_be_body.ensures)
