use Rattle.std.proofs.Common.{◌≡◌, ◌≤◌, ℕ, Bool, List, [], ◌∷◌, length, refl, arith}
use Rattle.std.specs.Map.{remove_entry}
use Rattle.mx_entries.specs.Entries.{IndexEntry}
use Rattle.mx_space.proofs.hash_index.remove_other.Goals as goal

none_less : (test : List ℕ → Bool) (all : List IndexEntry) → length all ≤ 0 → all ≡ remove_entry test all
none_less test [] none = refl
none_less test (entry ∷ all) none = absurd (omega (arith, none))

pub returns-else-len-gt0-clause-without : goal.returns-else-len-gt0-clause-without
returns-else-len-gt0-clause-without c = none_less _ c.args.others.now (omega (arith, c.if-len-gt0.false, c.len.ensures.len))
