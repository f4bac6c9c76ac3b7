-- In which order the steps for one unit more come.
use Rattle.std.proofs.Common.{◌≡◌, ℕ, Bool, true, false, not, List, [], ◌∷◌, ◌++◌, length, drop, refl, sym, ap, ◌∙◌, subst, ◌⊎◌, inl, inr, arith, length-append}
use Rattle.std.proofs.lemmas.List.{append-nil, append_assoc, drop_at, same_from_push}
use Rattle.mx_frame.specs.Packets.{rest_of}
use Rattle.mx_session.specs.declared.job.Job.{Job}
use Rattle.mx_session.specs.Jobs.{jobs_of, ends}
use Rattle.mx_model.specs.Histories.{Entry, Asked, Left, Took, Confirmed, Looked, History}
use Rattle.mx_serial.specs.Order.{Step, DepartureStep, order_in, step_in}
use Rattle.mx_node.specs.Inputs.{InputUnit, Bytes, connection_of}
use Rattle.mx_node.specs.Connections.{came_on, is_ended_by, jobs_by}
use Rattle.mx_node.specs.Order.{AreStepsFrom, AreStepsOf, AreWholeSteps, departure_where, departures_of, written_out}
use Rattle.mx_node.proofs.TableLaws.{left_by}
use Rattle.mx_node.proofs.ConnectionLaws.{jobs_by-open, jobs_by-ended, jobs_by-nothing, is_ended_by-open, is_ended_by-ended, is_ended_by-nothing}

-- ---- the steps for units as one list

abbrev pub order_by : List InputUnit → InputUnit → List Step
order_by earlier unit = written_out (jobs_by earlier unit) ++ departure_where (connection_of unit) (is_ended_by earlier unit)

abbrev pub order_from : List InputUnit → List InputUnit → List Step
order_from earlier [] = []
order_from earlier (unit ∷ units) = order_by earlier unit ++ order_from (earlier ++ unit ∷ []) units

abbrev pub order_of : List InputUnit → List Step
order_of units = order_from [] units

abbrev pub whole_order_of : List InputUnit → List Step
whole_order_of units = order_of units ++ departures_of units

are_from : (earlier units : List InputUnit) (steps : List Step) → AreStepsFrom earlier units steps → steps ≡ order_from earlier units
are_from earlier [] steps are = are
are_from earlier (unit ∷ units) steps (first, others, is, one, rest) =
    is ∙ ap (λ (l : List Step). l ++ others) one
    ∙ ap (λ (l : List Step). order_by earlier unit ++ l) (are_from (earlier ++ unit ∷ []) units others rest)

from_order : (earlier units : List InputUnit) → AreStepsFrom earlier units (order_from earlier units)
from_order earlier [] = refl
from_order earlier (unit ∷ units) =
    let later = earlier ++ unit ∷ [] in (order_by earlier unit, order_from later units, refl, refl, from_order later units)

pub are_order : (units : List InputUnit) (steps : List Step) → AreStepsOf units steps → steps ≡ order_of units
are_order units steps are = are_from [] units steps are

pub order_are : (units : List InputUnit) (steps : List Step) → steps ≡ order_of units → AreStepsOf units steps
order_are units steps is = subst (AreStepsOf units) (sym is) (from_order [] units)

pub are_whole_order : (units : List InputUnit) (steps : List Step) → AreWholeSteps units steps → steps ≡ whole_order_of units
are_whole_order units steps (first, are, is) = is ∙ ap (λ (l : List Step). l ++ departures_of units) (are_order units first are)

pub whole_order_are : (units : List InputUnit) (steps : List Step) → steps ≡ whole_order_of units → AreWholeSteps units steps
whole_order_are units steps is = (order_of units, from_order [] units, is)

-- ---- the steps of a history

-- the steps of a history that goes on
pub order_in-append : (more earlier : History) → order_in (more ++ earlier) ≡ order_in earlier ++ order_in more
order_in-append [] earlier = sym (append-nil (order_in earlier))
order_in-append (entry ∷ more) earlier =
    ap (λ (l : List Step). l ++ step_in entry ∷ []) (order_in-append more earlier) ∙ append_assoc (order_in earlier) (order_in more) (step_in entry ∷ [])

-- what it goes on by has the steps that come after the earlier ones
pub order_of_more : (history more earlier : History) (steps : List Step) → history ≡ more ++ earlier → order_in history ≡ order_in earlier ++ steps
    → order_in more ≡ steps
order_of_more history more earlier steps since order =
    let first = order_in earlier in
    sym (drop_at first (order_in more) (length first) refl)
    ∙ ap (drop (length first)) (sym (order_in-append more earlier) ∙ ap order_in (sym since) ∙ order)
    ∙ drop_at first steps (length first) refl

-- no step was made
pub none_made : (history : History) → order_in history ≡ [] → history ≡ []
none_made [] none = refl
none_made (entry ∷ earlier) none = absurd (omega (arith, ap length none, length-append (order_in earlier) (step_in entry ∷ [])))

-- a history whose steps are those of two lists is of two parts
pub record IsSplit (history : History) (first last : List Step) : Type 0 where
  pub more : History
  pub earlier : History
  pub is : history ≡ more ++ earlier
  pub before : order_in earlier ≡ first
  pub after : order_in more ≡ last

-- what a list ends with
last_of : (steps : List Step) → (steps ≡ []) ⊎ ((front : List Step) × (step : Step) × (steps ≡ front ++ step ∷ []))
last_of [] = inl refl
last_of (first ∷ steps) = by_last (last_of steps)
  where
    by_last : (steps ≡ []) ⊎ ((front : List Step) × (step : Step) × (steps ≡ front ++ step ∷ []))
        → (first ∷ steps ≡ []) ⊎ ((front : List Step) × (step : Step) × (first ∷ steps ≡ front ++ step ∷ []))
    by_last (inl none) = inr ([], first, ap (λ (l : List Step). first ∷ l) none)
    by_last (inr (front, step, is)) = inr (first ∷ front, step, ap (λ (l : List Step). first ∷ l) is)

nothing_of_two : (first last : List Step) → [] ≡ first ++ last → (first ≡ []) × (last ≡ [])
nothing_of_two [] last none = (refl, sym none)
nothing_of_two (step ∷ first) last none = absurd (omega (arith, ap length none))

pub split_order : (history : History) (first last : List Step) → order_in history ≡ first ++ last → IsSplit history first last
split_order [] first last is =
    let both = nothing_of_two first last is in record { more = []; earlier = []; is = refl; before = sym both.0; after = sym both.1 }
split_order (entry ∷ earlier) first last is = by_last (split_order earlier first) (last_of last)
  where
    by_last : ((front : List Step) → order_in earlier ≡ first ++ front → IsSplit earlier first front)
        → (last ≡ []) ⊎ ((front : List Step) × (step : Step) × (last ≡ front ++ step ∷ [])) → IsSplit (entry ∷ earlier) first last
    by_last split (inl none) = record {
      more = [];
      earlier = entry ∷ earlier;
      is = refl;
      before = is ∙ ap (λ (l : List Step). first ++ l) none ∙ append-nil first;
      after = sym none;
    }
    by_last split (inr (front, step, ends)) =
        let same = same_from_push (order_in earlier) (first ++ front) (step_in entry) step
        (is ∙ ap (λ (l : List Step). first ++ l) ends ∙ sym (append_assoc first front (step ∷ []))) in
        let parts = split front same.0 in
        record {
          more = entry ∷ parts.more;
          earlier = parts.earlier;
          is = ap (λ (h : History). entry ∷ h) parts.is;
          before = parts.before;
          after = ap (λ (l : List Step). l ++ step_in entry ∷ []) parts.after ∙ ap (λ (s : Step). front ++ s ∷ []) same.1 ∙ sym ends;
        }

-- the step of a departure is that of its entry
left_there : (on : ℕ) (entry : Entry) → step_in entry ≡ DepartureStep on → entry ≡ Left on
left_there on (Asked name ask reply) is = absurd cc
left_there on (Left connection) is = let same : connection ≡ on = cc in ap (λ (n : ℕ). Left n) same
left_there on (Took transactions upto) is = absurd cc
left_there on (Confirmed upto) is = absurd cc
left_there on Looked is = absurd cc

-- what the steps of a connection's departure make of a history
pub departed : (on : ℕ) (departs : Bool) (more history : History) → order_in more ≡ departure_where on departs
    → more ++ history ≡ left_by on (not departs) history
departed on false more history is = ap (λ (h : History). h ++ history) (none_made more is)
departed on true [] history is = absurd (omega (arith, ap length is))
departed on true (entry ∷ more) history is =
    let same = same_from_push (order_in more) [] (step_in entry) (DepartureStep on) is in
    ap (λ (h : History). entry ∷ (h ++ history)) (none_made more same.0) ∙ ap (λ (e : Entry). e ∷ history) (left_there on entry same.1)

pub order_from-append : (earlier units more : List InputUnit)
    → order_from earlier (units ++ more) ≡ order_from earlier units ++ order_from (earlier ++ units) more
order_from-append earlier [] more = ap (λ (l : List InputUnit). order_from l more) (sym (append-nil earlier))
order_from-append earlier (unit ∷ units) more =
    let later = earlier ++ unit ∷ [] in
    ap (λ (l : List Step). order_by earlier unit ++ l) (order_from-append later units more)
    ∙ sym (append_assoc (order_by earlier unit) (order_from later units) (order_from (later ++ units) more))
    ∙ ap (λ (l : List InputUnit). (order_by earlier unit ++ order_from later units) ++ order_from l more) (append_assoc earlier (unit ∷ []) units)

pub order_of-push : (units : List InputUnit) (unit : InputUnit) → order_of (units ++ unit ∷ []) ≡ order_of units ++ order_by units unit
order_of-push units unit =
    order_from-append [] units (unit ∷ []) ∙ ap (λ (l : List Step). order_of units ++ l) (append-nil (order_by units unit))

-- with one unit more
pub order_are-push : (units : List InputUnit) (unit : InputUnit) (steps : List Step) → steps ≡ order_of units ++ order_by units unit
    → AreStepsOf (units ++ unit ∷ []) steps
order_are-push units unit steps is = order_are (units ++ unit ∷ []) steps (is ∙ sym (order_of-push units unit))

module _ (earlier : List InputUnit) (on : ℕ) (came bytes : List ℕ) (same : came ≡ came_on on earlier) where
  abbrev steps_for : List Job → Bool → List Step
  steps_for jobs ended = written_out jobs ++ departure_where on ended

  pub order_by-open : ends on came ≡ false → order_by earlier (Bytes on bytes)
      ≡ written_out (jobs_of on (rest_of came ++ bytes)) ++ departure_where on (ends on (rest_of came ++ bytes))
  order_by-open goes_on =
      ap (λ (jobs : List Job). steps_for jobs (is_ended_by earlier (Bytes on bytes))) (jobs_by-open earlier on came bytes same goes_on)
      ∙ ap (steps_for (jobs_of on (rest_of came ++ bytes))) (is_ended_by-open earlier on came bytes same goes_on)

  pub order_by-ended : ends on came ≡ true → order_by earlier (Bytes on bytes) ≡ []
  order_by-ended ended =
      ap (λ (jobs : List Job). steps_for jobs (is_ended_by earlier (Bytes on bytes))) (jobs_by-ended earlier on came bytes same ended)
      ∙ ap (steps_for []) (is_ended_by-ended earlier on came bytes same ended)

pub order_by-nothing : (earlier : List InputUnit) (on : ℕ) → order_by earlier (Bytes on []) ≡ []
order_by-nothing earlier on =
    ap (λ (jobs : List Job). written_out jobs ++ departure_where on (is_ended_by earlier (Bytes on []))) (jobs_by-nothing earlier on)
    ∙ ap (departure_where on) (is_ended_by-nothing earlier on)
