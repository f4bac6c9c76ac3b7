-- What threads make of a counter behind a turn.
use Rattle.std.specs.Prelude.{◌≡◌, ℕ, ◌+◌, ◌*◌, ◌%◌, ◌^◌, ◌==◌, if◌then◌else◌, List, [], ◌∷◌, ◌++◌, length, sum_by, Option, Some, None}
use Rattle.std.specs.List.{AllByRecursion}
use Rattle.mx_turn.specs.declared.view.View.{View}
use Rattle.mx_turn.specs.declared.counter.Added.{Added}
use Rattle.mx_turn.specs.declared.counter.Share.{Share}
use Rattle.mx_turn.specs.Views.{AreSame, Extends, all_places}

-- all numbers of a history, added up
abbrev pub total : List Added → ℕ
total log = sum_by (λ e. e.amount) log

-- a counter that began at a number, after this history
abbrev pub IsSum : ℕ → ℕ → List Added → Type 0
IsSum base sum log = sum ≡ (base + total log) % 2 ^ 64

-- the number that was added at a place
abbrev pub amount_at : List Added → ℕ → Option ℕ
amount_at [] place = None
amount_at (e ∷ log) place = if place == length log then Some e.amount else amount_at log place

-- what two threads add
abbrev pub total_of : Share → Share → ℕ
total_of first second = first.amount * first.times + second.amount * second.times

-- The seat has added a number so often, and nothing else
pub record HasCounted (amount often : ℕ) (old new : View ℕ Added) : Type 0 where
  pub more : List ℕ
  pub same : new ≡ record old { seen = new.seen; mine = old.mine ++ more; own = old.own ++ more }
  pub extends : Extends new.seen old.seen
  pub count : length more ≡ often
  pub amounts : AllByRecursion (λ place. amount_at new.seen place ≡ Some amount) more

-- The history has what two threads added and nothing else, each entry once, and the seat added all of it
pub record HasAll (first second : Share) (v : View ℕ Added) : Type 0 where
  pub entries : AreSame v.own (all_places v.seen)
  pub calls : AreSame v.mine (all_places v.seen)
  pub count : length v.seen ≡ first.times + second.times
  pub sum : total v.seen ≡ total_of first second
  pub whole : v.parts ≡ v.seats
