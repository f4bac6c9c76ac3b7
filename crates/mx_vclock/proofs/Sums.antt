-- The lsns of a vclock add up to at most 2^63.
use Rattle.std.proofs.Common.{ℕ, ◌<◌, List, sum, arith}
use Rattle.std.proofs.lemmas.List.Sums.{sum_by-le}
use Rattle.mx_vclock.specs.Vclocks.{IsVclock, max_lsn}

pub sum_fits : (lsns : List ℕ) → IsVclock lsns → sum lsns < 18446744073709551616
sum_fits lsns v =
    let bound = sum_by-le (λ x. x) max_lsn lsns v.bounded in
    let short = rw v.whole at bound in
    omega arith
