-- What the calls ask of a seat, and what they tell of it.
use Rattle.std.specs.Prelude.{◌≡◌, ℕ, ◌<◌, ◌≤◌, Bool, true, false, List, [], ◌∷◌, ◌++◌, length, Option, None}
use Rattle.atomic_table.specs.Table.{Me}
use Rattle.atomic_table.specs.Seated.{TableId}
use Rattle.atomic_table.specs.declared.shared.Seat.{Seat}
use Rattle.mx_turn.specs.declared.view.View.{View}
use Rattle.mx_turn.specs.Views.{AreSame, IsWhole, NoneAlone, all_places, places, after_look, after_take}
use Rattle.mx_turn.specs.Rule.{max_count}

-- the seat is of the turn with this table
abbrev pub IsOf : {X V : Type 0} → TableId → Seat X V → Type 0
IsOf turn seat = seat.table_id ≡ turn

module _ {X B E : Type 0} where
  -- the seat has a part, and holds nothing
  abbrev pub IsIdle : Me X (View B E) → Type 0
  IsIdle me = (me.0.holds ≡ false) × (me.1 ≡ []) × (0 < me.0.parts)

  -- the seat holds the turn
  abbrev pub IsHolding : Me (Option X) (View B E) → Type 0
  IsHolding me = (me.0.holds ≡ true) × (me.1 ≡ (0, None) ∷ []) × (0 < me.0.parts)

  -- the seat has seen all entries, and nothing else of it changed
  pub record HasSeen (is_alone is_call : E → Bool) (old new : Me X (View B E)) : Type 0 where
    pub since : List E
    pub alone : NoneAlone is_alone old.0 since
    pub view : new ≡ (after_look since old.0, [])
    pub idle : IsIdle new
    pub whole : IsWhole is_call new.0

  -- the seat holds the turn and has seen all entries, for which the value stands, and nothing else of it changed
  pub record HasTaken {T : Type 0} (Stands : B → T → List E → Type 0) (is_alone is_call : E → Bool) (old new : Me (Option X) (View B E)) (value : T) : Type 0 where
    pub since : List E
    pub alone : NoneAlone is_alone old.0 since
    pub view : new ≡ (after_take since old.0, (0, None) ∷ [])
    pub holding : IsHolding new
    pub stands : Stands new.0.base value new.0.seen
    pub room : length new.0.seen < max_count
    pub whole : IsWhole is_call new.0

  -- the turn was held when the history had so many entries, and the seat is as before
  pub record IsBusy (old new : Me (Option X) (View B E)) (count : ℕ) : Type 0 where
    pub same : new ≡ old
    pub earlier : length old.0.seen ≤ count
    pub bounded : count ≤ max_count

  -- the value stands for a history that the seat has seen up to some entries, and all of which it added
  pub record IsClosed {T : Type 0} (Stands : B → T → List E → Type 0) (is_call : E → Bool) (me : Me X (View B E)) (value : T) : Type 0 where
    pub since : List E
    pub stands : Stands me.0.base value (since ++ me.0.seen)
    pub calls : AreSame me.0.mine (places is_call (since ++ me.0.seen))
    pub entries : AreSame me.0.own (all_places (since ++ me.0.seen))
