-- What a run alone touches.
use Rattle.std.specs.Prelude.{List, [], ◌∷◌, ◌++◌}
use Rattle.std.specs.FinMap.{get}
use Rattle.std.specs.Option.{option_to_list}
use Rattle.mx_schema.specs.State.{State, tuples_in}
use Rattle.mx_write.specs.Change.{Change}
use Rattle.mx_write.specs.Touches.{Touched, touched_at}
use Rattle.mx_model.specs.statements.Answer.{Answer}

-- what answers change, the newest first, as the answers stand
abbrev pub changes_of : List Answer → List Change
changes_of [] = []
changes_of (answer ∷ earlier) = option_to_list answer.change ++ changes_of earlier

-- the tuples that changes put, the oldest first
abbrev pub puts_of : List Change → List Touched
puts_of [] = []
puts_of (change ∷ earlier) = puts_of earlier ++ touched_at change.space change.key change.tuple

-- the tuples that a state has under the keys that changes name
abbrev pub stood_under : State → List Change → List Touched
stood_under before [] = []
stood_under before (change ∷ earlier) = stood_under before earlier ++ touched_at change.space change.key (get (tuples_in before change.space) change.key)
