-- What a seat knows of the one history, and what each call makes of it. The newest entry of a history stands first, and the place of an entry is the number of entries before it.
use Rattle.std.specs.Prelude.{◌≡◌, ℕ, ◌+◌, ◌-◌, ◌==◌, nat_lt, Bool, true, false, if◌then◌else◌, List, [], ◌∷◌, ◌++◌, length, count_by}
use Rattle.mx_turn.specs.declared.view.View.{View}

-- the places of the entries that pass a test, in rising order
abbrev pub places : {E : Type 0} → (E → Bool) → List E → List ℕ
places test [] = []
places test (e ∷ log) = places test log ++ (if test e then length log ∷ [] else [])

-- the places of all entries, in rising order
abbrev pub all_places : {E : Type 0} → List E → List ℕ
all_places log = places (λ _. true) log

-- how often a place stands in a list
abbrev pub times : ℕ → List ℕ → ℕ
times x xs = count_by (λ y. y == x) xs

-- two lists have the same places, each as often
abbrev pub AreSame : List ℕ → List ℕ → Type 0
AreSame xs ys = (x : ℕ) → times x xs ≡ times x ys

-- one history is another with some entries since
abbrev pub Extends : {E : Type 0} → List E → List E → Type 0
Extends {E} log earlier = (since : List E) × (log ≡ since ++ earlier)

-- the longer of two histories; the first where both are as long
abbrev pub longer_history : {E : Type 0} → List E → List E → List E
longer_history a b = if nat_lt (length a) (length b) then b else a

-- the other one
abbrev pub shorter_history : {E : Type 0} → List E → List E → List E
shorter_history a b = if nat_lt (length a) (length b) then a else b

module _ {B E : Type 0} where
  -- the view of the seat that `new` gives
  abbrev pub first_view : B → ℕ → View B E
  first_view base seats = record { base = base; seats = seats; first = true; parts = seats; seen = []; told = []; mine = []; own = []; holds = false }

  -- the view after the seat saw the entries that came since
  abbrev pub after_look : List E → View B E → View B E
  after_look since v = record v { seen = since ++ v.seen }

  -- the same, and the seat holds the turn
  abbrev pub after_take : List E → View B E → View B E
  after_take since v = record v { seen = since ++ v.seen; holds = true }

  -- the view after the seat added an entry and gave the turn back
  abbrev pub after_give : (E → Bool) → E → View B E → View B E
  after_give is_call e v = record v { seen = e ∷ v.seen; mine = v.mine ++ (if is_call e then length v.seen ∷ [] else []); own = v.own ++ length v.seen ∷ []; holds = false }

  -- the view after a part was split off
  abbrev pub after_split : View B E → View B E
  after_split v = record v { parts = v.parts - 1 }

  -- the view of the seat that was split off
  abbrev pub part_view : View B E → View B E
  part_view v = record { base = v.base; seats = v.seats; first = false; parts = 1; seen = v.seen; told = []; mine = []; own = []; holds = false }

  -- the view after another was joined to it
  abbrev pub after_join : View B E → View B E → View B E
  after_join v w = record v { parts = v.parts + w.parts; seen = longer_history v.seen w.seen; told = []; mine = v.mine ++ w.mine; own = v.own ++ w.own }

  -- of the entries that came since the first seat looked, none is one that it alone may add
  abbrev pub NoneAlone : (E → Bool) → View B E → List E → Type 0
  NoneAlone is_alone v since = v.first ≡ true → count_by is_alone since ≡ 0

  -- a seat with all parts added each entry that it has seen, and no other: its places are all, each once, and those of the calls are in `mine`
  abbrev pub IsWhole : (E → Bool) → View B E → Type 0
  IsWhole is_call v = v.parts ≡ v.seats → AreSame v.mine (places is_call v.seen) × AreSame v.own (all_places v.seen)
