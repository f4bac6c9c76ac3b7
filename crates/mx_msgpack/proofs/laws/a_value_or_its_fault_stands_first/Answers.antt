use Rattle.mx_msgpack.proofs.FaultLaws.{fault_is, never_both, one_of_both, size_is}
use Rattle.mx_msgpack.proofs.laws.a_value_or_its_fault_stands_first.Goals as goal

pub returns-clause-size : goal.returns-clause-size
returns-clause-size c = size_is

pub returns-clause-fault : goal.returns-clause-fault
returns-clause-fault c = fault_is

pub returns-clause-one : goal.returns-clause-one
returns-clause-one c = one_of_both

pub returns-clause-only : goal.returns-clause-only
returns-clause-only c = never_both
