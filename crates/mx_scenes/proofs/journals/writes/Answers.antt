use Rattle.std.proofs.Common.{[], sym}
use mathlib.Core.Path.{subst}
use Rattle.mx_journal.specs.Written.{IsWritten}
use Rattle.mx_images.specs.Changes.{IsNow}
use Rattle.mx_scenes.proofs.journals.writes.Goals as goal

pub commit-requires-clause-written : goal.commit-requires-clause-written
commit-requires-clause-written g c =
    subst (λ states. IsNow states (λ now. IsWritten c.in_ok-journal.journal now [])) (sym c.check_bytes.ensures) c.in_ok-journal.ensures.written
