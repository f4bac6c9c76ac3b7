use Rattle.std.proofs.Common.{arith}
use Rattle.mx_completion.proofs.CostLaws.{any_least, array_least, base_least, number_least, operations_least, space_least}
use Rattle.mx_completion.proofs.costs.least_from.Goals as goal

pub returns-in-Number : goal.returns-in-Number
returns-in-Number c =
    rw (c.number_cost.ensures, c.in-Number.is) (number_least c.args.most c.in-Number.least c.in-Number.greatest c.args.bytes.now c.number_range.result c.number_range.ensures)

pub returns-in-NotOne : goal.returns-in-NotOne
returns-in-NotOne c =
    rw (c.any_cost.ensures, c.in-NotOne.is) (any_least c.args.most c.args.bytes.now (λ i. omega (arith, c.type_inv.bytes i)) c.value_completion.result c.value_completion.ensures.completes)

pub returns-in-Space : goal.returns-in-Space
returns-in-Space c = rw (c.space_cost.ensures, c.in-Space.is) (space_least c.args.most c.args.bytes.now c.number_range-in-Space.result c.number_range-in-Space.ensures)

pub returns-in-Base : goal.returns-in-Base
returns-in-Base c = rw (c.least_base.ensures, c.in-Base.is) (base_least c.args.most c.args.bytes.now c.number_range-in-Base.result c.number_range-in-Base.ensures)

pub returns-in-Array : goal.returns-in-Array
returns-in-Array c =
    rw (c.long_cost.ensures, c.in-Array.is) (array_least c.args.most c.args.bytes.now c.array_completion.result c.array_completion.ensures)

pub returns-in-Operations : goal.returns-in-Operations
returns-in-Operations c =
    rw (c.long_cost-in-Operations.ensures, c.in-Operations.is) (operations_least c.args.most c.args.bytes.now c.operations_completion.result c.operations_completion.ensures)
