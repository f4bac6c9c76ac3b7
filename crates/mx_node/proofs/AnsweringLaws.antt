-- What follows from a history's answering units: its steps, and what is sent for one unit more. Legal histories with memory are sent
-- the same.
use Rattle.std.proofs.Common.{◌≡◌, ℕ, List, [], ◌∷◌, ◌++◌, refl, sym, ap, ◌∙◌, subst}
use Rattle.std.proofs.lemmas.List.{append-nil, append_assoc}
use Rattle.mx_node.specs.declared.out_units.OutUnit.{OutUnit}
use Rattle.mx_model.specs.Bases.{Base}
use Rattle.mx_model.specs.Histories.{History, HasMemory, IsLegal, asking, asks_in, history_from}
use Rattle.mx_serial.specs.Order.{Step, asks_among, order_in}
use Rattle.mx_serial.specs.Replies.{told_on}
use Rattle.mx_model.proofs.HistoryLaws.{history_of_asks}
use Rattle.mx_serial.proofs.ToldLaws.{asks_of_order, told_on-asking}
use Rattle.mx_node.specs.Inputs.{InputUnit, connection_of}
use Rattle.mx_node.specs.Starts.{Start}
use Rattle.mx_node.specs.Outputs.{AnswersAll, AnswersFrom, output_for}
use Rattle.mx_node.proofs.OrderLaws.{order_by, order_from, order_of, none_made, order_in-append, split_order}
use Rattle.mx_node.proofs.OutputLaws.{output_for-same}

-- ---- one unit more

answers_from-push : (start : Start) (earlier : List InputUnit) (before : History) (units : List InputUnit) (unit : InputUnit) (history more : History)
    (sent : List OutUnit) → AnswersFrom start earlier before units history sent → order_in more ≡ order_by (earlier ++ units) unit
    → AnswersFrom start earlier before (units ++ unit ∷ []) (more ++ history)
    (sent ++ output_for start (earlier ++ units) history unit (more ++ history))
answers_from-push start earlier before [] unit history more sent (same, none) order =
    let first : earlier ++ [] ≡ earlier = append-nil earlier in
    let output = output_for start earlier before unit (more ++ before) in (
      more,
      [],
      order ∙ ap (λ (l : List InputUnit). order_by l unit) first,
      ap (λ (l : List OutUnit). l ++ output_for start (earlier ++ []) history unit (more ++ history)) none
          ∙ ap (λ (l : List InputUnit). output_for start l history unit (more ++ history)) first
          ∙ ap (λ (h : History). output_for start earlier h unit (more ++ h)) same
          ∙ sym (append-nil output),
      (ap (λ (h : History). more ++ h) same, refl),
    )
answers_from-push start earlier before (first ∷ units) unit history more sent (steps, others, is, output, rest) order =
    let later = earlier ++ first ∷ [] in
    let all : later ++ units ≡ earlier ++ first ∷ units = append_assoc earlier (first ∷ []) units in
    let last = output_for start (earlier ++ first ∷ units) history unit (more ++ history) in
    let pushed = answers_from-push start later (steps ++ before) units unit history more others rest (order ∙ ap (λ (l : List InputUnit). order_by l unit) (sym all)) in (
      steps,
      others ++ last,
      is,
      ap (λ (l : List OutUnit). l ++ last) output ∙ append_assoc (output_for start earlier before first (steps ++ before)) others last,
      subst (λ (l : List InputUnit). AnswersFrom start later (steps ++ before) (units ++ unit ∷ []) (more ++ history)
          (others ++ output_for start l history unit (more ++ history))) all pushed,
    )

-- a history that answered units answers one more, where it goes on by the steps for it
pub answers-push : (start : Start) (units : List InputUnit) (unit : InputUnit) (earlier more history : History) (sent output : List OutUnit)
    → AnswersAll start units earlier sent → history ≡ more ++ earlier → order_in more ≡ order_by units unit
    → output ≡ output_for start units earlier unit history → AnswersAll start (units ++ unit ∷ []) history (sent ++ output)
answers-push start units unit earlier more history sent output answers since order is =
    let pushed = answers_from-push start [] [] units unit earlier more sent answers order in
    subst (λ (l : List OutUnit). AnswersAll start (units ++ unit ∷ []) history (sent ++ l)) (sym is)
    (subst (λ (h : History). AnswersAll start (units ++ unit ∷ []) h (sent ++ output_for start units earlier unit h)) (sym since) pushed)

-- ---- the steps of a history that answers units

-- it goes on from the history before
since_before : (start : Start) (earlier : List InputUnit) (before : History) (units : List InputUnit) (history : History) (sent : List OutUnit)
    → AnswersFrom start earlier before units history sent → (more : History) × (history ≡ more ++ before)
since_before start earlier before [] history sent (same, none) = ([], same)
since_before start earlier before (unit ∷ units) history sent (steps, others, is, output, rest) =
    let (more, since) = since_before start (earlier ++ unit ∷ []) (steps ++ before) units history others rest in
    (more ++ steps, since ∙ sym (append_assoc more steps before))

answered_order_from : (start : Start) (earlier : List InputUnit) (before : History) (units : List InputUnit) (history : History) (sent : List OutUnit)
    → AnswersFrom start earlier before units history sent → order_in history ≡ order_in before ++ order_from earlier units
answered_order_from start earlier before [] history sent (same, none) = ap order_in same ∙ sym (append-nil (order_in before))
answered_order_from start earlier before (unit ∷ units) history sent (steps, others, is, output, rest) =
    let later = earlier ++ unit ∷ [] in
    answered_order_from start later (steps ++ before) units history others rest
    ∙ ap (λ (l : List Step). l ++ order_from later units) (order_in-append steps before ∙ ap (λ (l : List Step). order_in before ++ l) is)
    ∙ append_assoc (order_in before) (order_by earlier unit) (order_from later units)

-- a history that answers units has exactly their steps
pub answered_order : (start : Start) (units : List InputUnit) (history : History) (sent : List OutUnit) → AnswersAll start units history sent
    → order_in history ≡ order_of units
answered_order start units history sent answers = answered_order_from start [] [] units history sent answers

answers_of_order_from : (start : Start) (earlier : List InputUnit) (before rest : History) (units : List InputUnit) → order_in rest ≡ order_from earlier units
    → (sent : List OutUnit) × AnswersFrom start earlier before units (rest ++ before) sent
answers_of_order_from start earlier before rest [] order = ([], (ap (λ (h : History). h ++ before) (none_made rest order), refl))
answers_of_order_from start earlier before rest (unit ∷ units) order =
    let later = earlier ++ unit ∷ [] in
    let parts = split_order rest (order_by earlier unit) (order_from later units) order in
    let now = parts.earlier ++ before in
    let (others, answers) = answers_of_order_from start later now parts.more units parts.after in (
      output_for start earlier before unit now ++ others,
      (
        parts.earlier,
        others,
        parts.before,
        refl,
        subst (λ (h : History). AnswersFrom start later now units h others)
            (sym (ap (λ (h : History). h ++ before) parts.is ∙ append_assoc parts.more parts.earlier before)) answers,
      ),
    )

-- and one that has their steps answers them
pub answers_of_order : (start : Start) (units : List InputUnit) (history : History) → order_in history ≡ order_of units
    → (sent : List OutUnit) × AnswersAll start units history sent
answers_of_order start units history order =
    let (sent, answers) = answers_of_order_from start [] [] history units order in
    (sent, subst (λ (h : History). AnswersAll start units h sent) (append-nil history) answers)

-- ---- histories that answer the same units

legal_before : (base : Base) (more history : History) → IsLegal base (more ++ history) → IsLegal base history
legal_before base [] history legal = legal
legal_before base (entry ∷ more) history legal = legal_before base more history legal.0

pub memory_before : (more history : History) → HasMemory (more ++ history) → HasMemory history
memory_before [] history memory = memory
memory_before (entry ∷ more) history memory = memory_before more history memory.0

-- a legal history with memory, of which these steps are the first
record Sound (base : Base) (history : History) : Type 0 where
  legal : IsLegal base history
  memory : HasMemory history

sound_before : (base : Base) (history more before : History) → history ≡ more ++ before → Sound base history → Sound base before
sound_before base history more before since sound = record {
  legal = legal_before base more before (subst (IsLegal base) since sound.legal);
  memory = memory_before more before (subst HasMemory since sound.memory);
}

-- the same steps were told the same
told_same : (base : Base) (one other : History) → Sound base one → Sound base other → order_in one ≡ order_in other → (connection : ℕ)
    → told_on base connection one ≡ told_on base connection other
told_same base one other first second order connection =
    let asks : asks_in one ≡ asks_in other = asks_of_order one ∙ ap asks_among order ∙ sym (asks_of_order other) in
    let same : asking one ≡ asking other =
    history_of_asks base one first.legal first.memory ∙ ap (history_from base []) asks ∙ sym (history_of_asks base other second.legal second.memory) in
    sym (told_on-asking base connection one) ∙ ap (told_on base connection) same ∙ told_on-asking base connection other

sent_same : (start : Start) (earlier : List InputUnit) (before was : History) (units : List InputUnit) (one other : History) (sent more : List OutUnit)
    → order_in before ≡ order_in was → Sound start.base one → Sound start.base other
    → AnswersFrom start earlier before units one sent → AnswersFrom start earlier was units other more → sent ≡ more
sent_same start earlier before was [] one other sent more same first second (one_is, none) (other_is, nothing) = none ∙ sym nothing
sent_same start earlier before was (unit ∷ units) one other sent more same first second (steps, others, is, output, rest) (steps', others', is', output', rest') =
    let base = start.base in
    let on = connection_of unit in
    let after = steps ++ before in
    let now = steps' ++ was in
    let later = earlier ++ unit ∷ [] in
    let (on_one, one_is) = since_before start later after units one others rest in
    let (on_other, other_is) = since_before start later now units other others' rest' in
    let sound_after = sound_before base one on_one after one_is first in
    let sound_now = sound_before base other on_other now other_is second in
    let order : order_in after ≡ order_in now =
    order_in-append steps before ∙ ap (λ (l : List Step). l ++ order_in steps) same ∙ ap (λ (l : List Step). order_in was ++ l) (is ∙ sym is')
    ∙ sym (order_in-append steps' was) in
    let here : output_for start earlier before unit after ≡ output_for start earlier was unit now =
    output_for-same start earlier before was after now unit
    (told_same base before was (sound_before base after steps before refl sound_after) (sound_before base now steps' was refl sound_now) same on)
    (told_same base after now sound_after sound_now order on) in
    output
    ∙ ap (λ (l : List OutUnit). l ++ others) here
    ∙ ap (λ (l : List OutUnit). output_for start earlier was unit now ++ l)
    (sent_same start later after now units one other others others' order first second rest rest')
    ∙ sym output'

-- the output for units is determined, where each request finds memory
pub determined : (start : Start) (units : List InputUnit) (one other : History) (sent more : List OutUnit)
    → IsLegal start.base one → HasMemory one → AnswersAll start units one sent → IsLegal start.base other → HasMemory other → AnswersAll start units other more
    → sent ≡ more
determined start units one other sent more legal memory answers other_legal other_memory other_answers =
    sent_same start [] [] [] units one other sent more refl (record { legal = legal; memory = memory })
    (record { legal = other_legal; memory = other_memory }) answers other_answers
