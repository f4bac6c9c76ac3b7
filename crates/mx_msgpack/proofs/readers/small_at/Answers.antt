use Rattle.std.proofs.Common.{Some, ap, sym, ◌∙◌, arith}
use Rattle.mx_msgpack.proofs.UnsignedLaws.{small}
use Rattle.mx_msgpack.proofs.readers.small_at.Goals as goal

pub returns : goal.returns
returns c =
    small c.args.bytes.now c.in-Some.rest.now c.in-Some.leading.now c.in-Some.ensures.cases.0 (omega arith)
    ∙ ap (λ n. Some (n, c.in-Some.rest.now)) (sym c.from.ensures)
