use Rattle.std.proofs.Common.{◌∙◌, Ok, ap, sym}
use Rattle.mx_msgpack.specs.Maps.{pairs_in}
use Rattle.mx_base.specs.Keys.{sync_key, stream_key}
use Rattle.mx_request.proofs.PacketLaws.{request_found, number_found}
use Rattle.mx_request.proofs.decode.read_request.Goals as goal

pub returns-in_ok-to_owned-in-Ok : goal.returns-in_ok-to_owned-in-Ok
returns-in_ok-to_owned-in-Ok c =
    let h = c.header_at.ensures in
    request_found _ _ _ (pairs_in c.args.header.now) (pairs_in c.args.body.now) h.number h.sync h.stream
    ∙ c.in-Ok.ensures ∙ ap (λ r. Ok (c.in-Ok.head, r)) (sym c.in_ok-to_owned-in-Ok.ensures)

pub returns-in-Err : goal.returns-in-Err
returns-in-Err c =
    let h = c.header_at.ensures in (
      request_found _ _ _ (pairs_in c.args.header.now) (pairs_in c.args.body.now) h.number h.sync h.stream ∙ c.in-Err.ensures,
      number_found sync_key _ (pairs_in c.args.header.now) c.numbers_of.result.0.0 h.sync c.numbers_of.ensures.sync,
      number_found stream_key _ (pairs_in c.args.header.now) c.numbers_of.result.1.0 h.stream c.numbers_of.ensures.stream,
    )
