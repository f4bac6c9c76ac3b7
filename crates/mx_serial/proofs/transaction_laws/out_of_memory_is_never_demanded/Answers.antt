use Rattle.mx_model.proofs.DemandedReplies.{demanded_memory}
use Rattle.mx_serial.proofs.transaction_laws.out_of_memory_is_never_demanded.Goals as goal

pub returns : goal.returns
returns c = demanded_memory
