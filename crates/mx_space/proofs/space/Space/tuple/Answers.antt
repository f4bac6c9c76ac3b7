use Rattle.std.proofs.Common.{Some, sym, ap, ◌∙◌}
use Rattle.std.specs.Option.{option_copied}
use Rattle.mx_schema.proofs.TakenLaws.{stored_get}
use Rattle.mx_space.proofs.space.Space.tuple.Goals as goal

pub returns-in_err-tuple : goal.returns-in_err-tuple
returns-in_err-tuple c = λ all wanted keeps fit is.
    ap option_copied c.from_residual.ensures ∙ ap option_copied (sym c.in_err-tuple.was) ∙ c.get.ensures.value
    ∙ stored_get c.args.self.now.tuples.entries all wanted c.args.key.now keeps fit is

pub returns : goal.returns
returns c = λ all wanted keeps fit is.
    ap Some c.as_slice.ensures ∙ ap option_copied (sym c.in_ok-tuple.was) ∙ c.get.ensures.value
    ∙ stored_get c.args.self.now.tuples.entries all wanted c.args.key.now keeps fit is
