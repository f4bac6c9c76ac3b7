-- What a call for the next connection did.
use Rattle.std.specs.Prelude.{◌≡◌, ◌≤◌, ⊤, ℕ, suc, List, [], Option, None, Some}
use Rattle.mx_outside.specs.Causes.{Rose}
use Rattle.mx_outside.specs.declared.acceptor.Accepted.{Accepted}
use Rattle.mx_outside.specs.declared.acceptor.Accepted.TheVariants as accepted

-- no byte, where it is known
abbrev pub IsNoneYet : Option (List ℕ) → Type 0
IsNoneYet None = ⊤
IsNoneYet (Some bytes) = bytes ≡ []

-- Nothing came or went on a link that is given, and it counts as one more. An acceptor that isn't ready counts a wait, and
-- one that failed a fault. All other counts stay. What came and went on a link, where it is known, are the first two.
abbrev pub Accepts : {L : Type 0} → (came gone : L → Option (List ℕ)) → (faults faults' waits waits' given given' : ℕ) → Accepted L → Type 0
Accepts came gone faults faults' waits waits' given given' (accepted.Link link) =
    (faults' ≡ faults) × (waits' ≡ waits) × (given' ≡ suc given) × IsNoneYet (came link) × IsNoneYet (gone link)
Accepts came gone faults faults' waits waits' given given' accepted.NotReady =
    (faults' ≡ faults) × Rose waits waits' × (waits ≤ waits') × (given' ≡ given)
Accepts came gone faults faults' waits waits' given given' accepted.Failed =
    Rose faults faults' × (faults ≤ faults') × (waits' ≡ waits) × (given' ≡ given)
Accepts came gone faults faults' waits waits' given given' accepted.NoMemory =
    (faults' ≡ faults) × (waits' ≡ waits) × (given' ≡ given)
