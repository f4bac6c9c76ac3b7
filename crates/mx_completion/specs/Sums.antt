-- Only private functions and proofs need these: the least sum of costs of which each is kept as it stands or written anew.
use Rattle.std.specs.Prelude.{ℕ, zero, suc, ◌+◌, List, [], ◌∷◌, length, Option, Some, None, nat_le, nat_lt, ◌==◌, ◌&&◌, if◌then◌else◌}
use Rattle.mx_msgpack.specs.Spelling.{shortest_unsigned}
use Rattle.mx_completion.specs.declared.completion.Completion.{Completion}
use Rattle.mx_completion.specs.declared.completion.Completion.TheVariants.{Missing}
use Rattle.mx_completion.specs.declared.number.NumberRange.{NumberRange}
use Rattle.mx_completion.specs.declared.sums.Choice.{Choice}

-- ---- sums

-- a cost up to this one
abbrev pub up_to : (most : ℕ) → Option ℕ → Option ℕ
up_to most None = None
up_to most (Some cost) = if nat_le cost most then Some cost else None

abbrev pub sum_within : (most : ℕ) → Option ℕ → Option ℕ → Option ℕ
sum_within most (Some first) (Some second) = up_to most (Some (first + second))
sum_within most _ _ = None

abbrev pub lesser : Option ℕ → Option ℕ → Option ℕ
lesser None other = other
lesser (Some one) None = Some one
lesser (Some one) (Some other) = if nat_lt other one then Some other else Some one

-- at most so many of the costs are those of what is written anew
abbrev pub least_sum : (most : ℕ) → List Choice → (free : ℕ) → Option ℕ
least_sum most [] free = Some 0
least_sum most (choice ∷ others) zero = sum_within most choice.kept (least_sum most others zero)
least_sum most (choice ∷ others) (suc free) =
    lesser (sum_within most choice.kept (least_sum most others (suc free))) (sum_within most choice.anew (least_sum most others free))

-- ---- the least cost of a value

-- where a number from the least one to the greatest one can stand
abbrev pub number_cost : (least greatest : ℕ) → Option NumberRange → Option ℕ
number_cost least greatest None = None
number_cost least greatest (Some range) =
    if nat_le least greatest && nat_le least range.most && nat_le range.least greatest then Some 0 else None

abbrev pub space_cost : (most : ℕ) → Option NumberRange → Option ℕ
space_cost most None = None
space_cost most (Some range) = if nat_lt range.least 0x100000000 then up_to most (Some (length (shortest_unsigned range.least))) else None

abbrev pub least_base : (most : ℕ) → Option NumberRange → Option ℕ
least_base most None = None
least_base most (Some range) = if range.least == 0 then Some 0 else if range.least == 1 then up_to most (Some 2) else None

-- where any value can stand
abbrev pub any_cost : Completion → Option ℕ
any_cost (Missing least) = Some 0
any_cost _ = None

-- of a value that so many bytes begin
abbrev pub long_cost : (most size : ℕ) → Completion → Option ℕ
long_cost most size (Missing least) = up_to most (Some (size + least))
long_cost most size _ = None
