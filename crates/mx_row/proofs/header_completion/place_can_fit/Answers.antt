use Rattle.std.proofs.Common.{◌∙◌, ap, suc, sym, arith}
use Rattle.std.specs.Prelude.{nat_lt}
use Rattle.std.proofs.lemmas.Bool.{ltb-true}
use Rattle.mx_row.specs.Limits.{max_rows}
use Rattle.mx_row.specs.Rows.{ends_transaction}
use Rattle.mx_row.specs.Stops.{body_room}
use Rattle.mx_row.proofs.CompletionLaws.{header_decided, place_allows, tight_decided}
use Rattle.mx_row.proofs.header_completion.place_can_fit.Goals as goal

pub returns-then-least_body-body_room : goal.returns-then-least_body-body_room
returns-then-least_body-body_room c =
    let room = c.body_room.ensures ∙ ap (body_room c.args.rows.now) c.ends_transaction.ensures in
    let least = c.least_body.ensures in
    let more = c.if-least_body-body_room.true in
    tight_decided c.args.rows.now c.requires.room c.requires.numbered c.args.kind c.args.place c.args.bytes.now (λ fits. omega (arith, room, least, more, fits))

pub returns : goal.returns
returns c =
    let rows = c.args.rows.now in
    let ends = ends_transaction c.args.place in
    let room = c.body_room.ensures ∙ ap (body_room rows) c.ends_transaction.ensures in
    let least = c.least_body.ensures in
    let few = c.if-least_body-body_room.false in
    header_decided rows c.requires.room c.requires.numbered c.args.kind c.args.place c.args.bytes.now c.requires.part c.requires.kind c.requires.place
    (λ further. ltb-true (suc rows.count) max_rows (place_allows ends (nat_lt (suc rows.count) max_rows) (sym c.has_place.ensures ∙ c.if-not-has_place.false) further))
    (omega (arith, room, least, few)) c.can_be_header.result c.can_be_header.ensures
