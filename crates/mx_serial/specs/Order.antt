-- The order of a history's entries: each as a step, without its reply.
use Rattle.std.specs.Prelude.{ℕ, List, [], ◌∷◌, ◌++◌}
use Rattle.mx_base.specs.declared.ids.TxnName.{TxnName}
use Rattle.mx_request.specs.declared.request.Ask.{Ask}
use Rattle.mx_model.specs.Histories.{Entry, Asked, Left, Took, Confirmed, Looked, History, leaving}

-- a request under this name, the departure of a connection, what writing commits out takes: a take of all that wait, and
-- the confirmation that they are durable; and a look
pub data Step : Type 0 where
  RequestStep : TxnName → Ask → Step
  DepartureStep : (connection : ℕ) → Step
  TakeStep : Step
  ConfirmStep : Step
  LookStep : Step

abbrev pub step_in : Entry → Step
step_in (Asked name ask reply) = RequestStep name ask
step_in (Left connection) = DepartureStep connection
step_in (Took transactions upto) = TakeStep
step_in (Confirmed upto) = ConfirmStep
step_in Looked = LookStep

-- the steps of a history, the first of them first
abbrev pub order_in : History → List Step
order_in [] = []
order_in (entry ∷ earlier) = order_in earlier ++ step_in entry ∷ []

abbrev pub step_asks : Step → List (TxnName × Ask)
step_asks (RequestStep name ask) = (name, ask) ∷ []
step_asks (DepartureStep connection) = leaving connection ∷ []
step_asks _ = []

-- the requests and the disconnects of these steps
abbrev pub asks_among : List Step → List (TxnName × Ask)
asks_among [] = []
asks_among (step ∷ others) = step_asks step ++ asks_among others
