-- For the rule and its proofs: the views between two steps of one call, and what each step tells, of the seat before, the word that it found and the seat after.
use Rattle.std.specs.Prelude.{◌≡◌, ℕ, ◌+◌, ◌/◌, ◌%◌, ◌<◌, ◌≤◌, ◌⊎◌, Bool, false, List, [], ◌∷◌, ◌++◌, length, Option, Some}
use Rattle.std.specs.declared.snapshot.Snapshot.{Snapshot}
use Rattle.atomic_table.specs.Table.{Me}
use Rattle.mx_turn.specs.declared.view.View.{View}
use Rattle.mx_turn.specs.declared.rule.SlotValue.{SlotValue}
use Rattle.mx_turn.specs.Views.{Extends, IsWhole, NoneAlone, after_give, after_look, after_take, longer_history, shorter_history}
use Rattle.mx_turn.specs.Rule.{max_count}

-- a seat's view, and the slots that it holds
abbrev pub Sat : (B E T N : Type 0) → Type 0
Sat B E T N = Me (Option (SlotValue T N)) (View B E)

module _ {B E : Type 0} where
  -- the view of a seat that was joined to another
  abbrev pub spent_view : B → View B E
  spent_view base = record { base = base; seats = 0; first = false; parts = 0; seen = []; told = []; mine = []; own = []; holds = false }

  -- the view with another's parts, places and history beside its own
  abbrev pub with_told : View B E → View B E → View B E
  with_told v w = record v { parts = v.parts + w.parts; told = w.seen; mine = v.mine ++ w.mine; own = v.own ++ w.own }

  -- the view with the longer of its two histories alone
  abbrev pub after_compare : View B E → View B E
  after_compare v = record v { seen = longer_history v.seen v.told; told = [] }

module _ {B E T N : Type 0} where
  -- the seat has seen all entries, and the word counts them
  pub record Looks (is_alone is_call : E → Bool) (m : Sat B E T N) (n : ℕ) (m' : Sat B E T N) : Type 0 where
    pub since : List E
    pub alone : NoneAlone is_alone m.0 since
    pub after : m' ≡ (after_look since m.0, m.1)
    pub count : n / 2 ≡ length m'.0.seen
    pub whole : IsWhole is_call m'.0

  -- the seat has taken the value, which stands for all that it has seen
  pub record TakesValue (Stands : B → T → List E → Type 0) (is_alone is_call : E → Bool) (m : Sat B E T N) (n : ℕ) (m' : Sat B E T N) : Type 0 where
    pub since : List E
    pub alone : NoneAlone is_alone m.0 since
    pub kept : SlotValue T N
    pub after : m' ≡ (after_take since m.0, (0, Some kept) ∷ m.1)
    pub count : n / 2 ≡ length m'.0.seen
    pub stands : Stands m.0.base kept.value m'.0.seen
    pub whole : IsWhole is_call m'.0

  -- the seat takes the turn where it was free, below the last count
  pub record Takes (Stands : B → T → List E → Type 0) (is_alone is_call : E → Bool) (m : Sat B E T N) (n : ℕ) (m' : Sat B E T N) : Type 0 where
    pub free : n % 2 ≡ 0 → n / 2 < max_count → TakesValue Stands is_alone is_call m n m'
    pub busy : (n % 2 ≡ 1) ⊎ (max_count ≤ n / 2) → (m' ≡ m) × (length m.0.seen ≤ n / 2) × (n / 2 ≤ max_count)

  -- the value is at home, with the entry that the note tells
  pub record Gives (is_call : E → Bool) (entry_of : N → E) (m : Sat B E T N) (n : ℕ) (m' : Sat B E T N) : Type 0 where
    pub count : n / 2 ≡ length m.0.seen
    pub after : (kept : SlotValue T N) (note : Snapshot N) → m.1 ≡ (0, Some kept) ∷ [] → kept.note ≡ Some note → m' ≡ (after_give is_call (entry_of note.value) m.0, [])

  -- of the two histories of a seat the longer remains, of which the shorter is an earlier one
  pub record Compares (m : Sat B E T N) (m' : Sat B E T N) : Type 0 where
    pub after : m' ≡ (after_compare m.0, m.1)
    pub one : Extends (longer_history m.0.seen m.0.told) (shorter_history m.0.seen m.0.told)
