use Rattle.std.proofs.Common.{◌∙◌}
use Rattle.mx_recover.proofs.ReplayLaws.{of_one, placed}
use Rattle.mx_recover.proofs.load.read_into.Goals as goal

pub returns-clause-read : goal.returns-clause-read
returns-clause-read g c =
    of_one _ _ _ _ c.in_ok-count.ensures.bytes (λ file reads.
    placed file _ _ _ _ _ _ _ _ c.split_at_mut-into.ensures.front_len (c.split_at_mut-into.ensures.back_len ∙ c.deref_mut.ensures.len)
    c.read.auto.into c.min.ensures reads)
