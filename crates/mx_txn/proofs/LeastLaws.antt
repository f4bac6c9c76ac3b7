-- The least of the views that slots have, and what a change of one slot makes of it.
use Rattle.std.proofs.Common.{◌≡◌, ◌≢◌, ℕ, ◌<◌, ◌≤◌, true, nat_eq, length, Option, Some, None, min, refl, sym, ap, ◌∙◌, inl, inr, arith, eq-eqb}
use Rattle.std.proofs.Math.Nat.{min-eq_left, min-eq_right}
use Rattle.std.proofs.lemmas.Bool.{cases_eq, cases_lt}
use Rattle.std.proofs.lemmas.List.{get_or_past}
use Rattle.std.specs.FinMap.{get}
use Rattle.std.specs.Option.{option_eq}
use Rattle.mx_txn.specs.declared.state.TxnState.{TxnState}
use Rattle.mx_txn.specs.declared.state.TxnState.TheVariants.{Active, View, Aborted}
use Rattle.mx_txn.specs.Slots.{Txns, IsOldestView}
use Rattle.mx_txn.specs.Views.{States, txns_of, state_at, view_in, lesser_of, with_state}
use Rattle.mx_txn.proofs.StateLaws.{get-txns_of, get-with_state_same, get-with_state_other}

-- the least view among so many first slots; none where they have no view
abbrev pub IsOldestBelow : States → ℕ → Option ℕ → Type 0
IsOldestBelow states number None = (slot at : ℕ) → slot < number → ¬ (view_in (state_at states slot) ≡ Some at)
IsOldestBelow states number (Some oldest) =
    ((slot : ℕ) × (slot < number) × (view_in (state_at states slot) ≡ Some oldest))
    × ((slot at : ℕ) → slot < number → view_in (state_at states slot) ≡ Some at → oldest ≤ at)

-- the number is the least of those that the slots have, none where they have none
abbrev pub IsLeast : (ℕ → Option ℕ) → Option ℕ → Type 0
IsLeast views None = (slot at : ℕ) → ¬ (views slot ≡ Some at)
IsLeast views (Some least) = ((slot : ℕ) × (views slot ≡ Some least)) × ((slot at : ℕ) → views slot ≡ Some at → least ≤ at)

-- the views of open transactions
abbrev pub views_of : Txns → ℕ → Option ℕ
views_of txns slot = view_in (get txns slot)

has_view : (state : Option TxnState) (at : ℕ) → view_in state ≡ Some at → state ≡ Some (View at)
has_view None at is = cc
has_view (Some (Active since)) at is = cc
has_view (Some (View commit)) at is = cc
has_view (Some (Aborted by)) at is = cc

pub least_view : (txns : Txns) (oldest : Option ℕ) → IsLeast (views_of txns) oldest → IsOldestView txns oldest
least_view txns None least = λ slot at has. least slot at (ap view_in has)
least_view txns (Some oldest) least = (
  (least.0.0, has_view _ oldest least.0.1),
  λ slot at has. least.1 slot at (ap view_in has),
)

pub view_least : (txns : Txns) (oldest : Option ℕ) → IsOldestView txns oldest → IsLeast (views_of txns) oldest
view_least txns None is = λ slot at has. is slot at (has_view _ at has)
view_least txns (Some oldest) is = (
  (is.0.0, ap view_in is.0.1),
  λ slot at has. is.1 slot at (has_view _ at has),
)

-- of two slots' numbers alike, the least is the same
pub least_alike : (views others : ℕ → Option ℕ) (least : Option ℕ) → ((slot : ℕ) → others slot ≡ views slot) → IsLeast views least → IsLeast others least
least_alike views others None alike is = λ slot at has. is slot at (sym (alike slot) ∙ has)
least_alike views others (Some least) alike is = (
  (is.0.0, alike is.0.0 ∙ is.0.1),
  λ slot at has. is.1 slot at (sym (alike slot) ∙ has),
)

-- the least of them with one more, which stands in a slot that didn't have the least
pub least_with : (views others : ℕ → Option ℕ) (slot : ℕ) (least more : Option ℕ)
    → ((other : ℕ) → other ≢ slot → others other ≡ views other)
    → others slot ≡ more
    → ((at : ℕ) → views slot ≡ Some at → least ≢ Some at)
    → IsLeast views least
    → IsLeast others (lesser_of least more)
least_with views others slot None None same here apart is = λ other at has. elim (cases_eq other slot) [
  | inl equal ↦ let none : others slot ≡ Some at = ap others (sym equal) ∙ has in cc
  | inr differs ↦ is other at (sym (same other differs) ∙ has)
]
least_with views others slot None (Some more) same here apart is = (
  (slot, here),
  λ other at has. elim (cases_eq other slot) [
    | inl equal ↦ let this : Some more ≡ Some at = sym here ∙ ap others (sym equal) ∙ has in let number : more ≡ at = cc in omega arith
    | inr differs ↦ absurd (is other at (sym (same other differs) ∙ has))
  ],
)
least_with views others slot (Some least) None same here apart is =
    let elsewhere : is.0.0 ≢ slot = λ equal. apart least (ap views (sym equal) ∙ is.0.1) refl in (
      (is.0.0, same is.0.0 elsewhere ∙ is.0.1),
      λ other at has. elim (cases_eq other slot) [
        | inl equal ↦ let none : None ≡ Some at = sym here ∙ ap others (sym equal) ∙ has in absurd (cc)
        | inr differs ↦ is.1 other at (sym (same other differs) ∙ has)
      ],
    )
least_with views others slot (Some least) (Some more) same here apart is =
    let elsewhere : is.0.0 ≢ slot = λ equal. apart least (ap views (sym equal) ∙ is.0.1) refl in
    let witness : others is.0.0 ≡ Some least = same is.0.0 elsewhere ∙ is.0.1 in (
      elim (cases_lt least more) as (λ _. (other : ℕ) × (others other ≡ Some (min least more))) [
        | inl below ↦ (is.0.0, witness ∙ ap Some (sym (min-eq_left (omega arith))))
        | inr above ↦ (slot, here ∙ ap Some (sym (min-eq_right above)))
      ],
      λ other at has. elim (cases_eq other slot) [
        | inl equal ↦ let this : Some more ≡ Some at = sym here ∙ ap others (sym equal) ∙ has in let number : more ≡ at = cc in omega arith
        | inr differs ↦ let kept : least ≤ at = is.1 other at (sym (same other differs) ∙ has) in omega arith
      ],
    )

-- two numbers that are there and the same pass the test
pub same_numbers : (first second : Option ℕ) (number : ℕ) → first ≡ Some number → second ≡ Some number → option_eq nat_eq first second ≡ true
same_numbers first second number this that =
    ap (λ o. option_eq nat_eq o second) this ∙ ap (option_eq nat_eq (Some number)) that ∙ eq-eqb number number refl

-- the oldest view after one slot's change, where the view that went wasn't the oldest
pub oldest_changed : (txns now : Txns) (slot : ℕ) (before after : Option TxnState) (oldest : Option ℕ)
    → get txns slot ≡ before
    → now ≡ with_state txns slot after
    → ((at : ℕ) → view_in before ≡ Some at → oldest ≢ Some at)
    → IsOldestView txns oldest
    → IsOldestView now (lesser_of oldest (view_in after))
oldest_changed txns now slot before after oldest was is apart old =
    least_view now _ (least_with (views_of txns) (views_of now) slot oldest (view_in after)
    (λ other differs. ap view_in (ap (λ t. get t other) is ∙ get-with_state_other txns slot after other differs))
    (ap view_in (ap (λ t. get t slot) is ∙ get-with_state_same txns slot after))
    (λ at has. apart at (ap view_in (sym was) ∙ has))
    (view_least txns oldest old))

least_below : (states : States) (number : ℕ) (oldest : Option ℕ) → length states ≤ number → IsOldestBelow states number oldest → IsLeast (λ slot. view_in (state_at states slot)) oldest
least_below states number None whole is = λ slot at has. elim (cases_lt slot number) [
  | inl below ↦ is slot at below has
  | inr past ↦ let none : None ≡ Some at = ap view_in (sym (get_or_past states slot None (omega arith))) ∙ has in absurd (cc)
]
least_below states number (Some oldest) whole is = (
  (is.0.0, is.0.2),
  λ slot at has. elim (cases_lt slot number) [
    | inl below ↦ is.1 slot at below has
    | inr past ↦ let none : None ≡ Some at = ap view_in (sym (get_or_past states slot None (omega arith))) ∙ has in absurd (cc)
  ],
)

-- the least view of all states is that of the transactions
pub oldest_below : (states : States) (number : ℕ) (oldest : Option ℕ) → length states ≤ number → IsOldestBelow states number oldest → IsOldestView (txns_of states) oldest
oldest_below states number oldest whole is =
    least_view _ _ (least_alike (λ slot. view_in (state_at states slot)) (views_of (txns_of states)) oldest (λ slot. ap view_in (get-txns_of states slot)) (least_below states number oldest whole is))
