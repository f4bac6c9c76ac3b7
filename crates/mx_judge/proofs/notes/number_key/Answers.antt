use Rattle.mx_judge.proofs.NotedFreeLaws.{number_bytes}
use Rattle.mx_judge.proofs.notes.number_key.Goals as goal

pub returns : goal.returns
returns c = rw c.to_be_bytes.ensures (number_bytes c.args.number c.ranges.number.fits)
