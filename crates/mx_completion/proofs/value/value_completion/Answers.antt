use Rattle.mx_completion.proofs.ValueLaws.{completed_completes}
use Rattle.mx_completion.proofs.value.value_completion.Goals as goal

pub returns-clause-completes : goal.returns-clause-completes
returns-clause-completes c = rw c.completed.ensures.exact (completed_completes c.args.room c.args.bytes.now)
