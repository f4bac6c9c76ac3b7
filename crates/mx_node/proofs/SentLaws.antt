-- All that a connection is sent for units, one after the other.
use Rattle.std.proofs.Common.{◌≡◌, ◌≢◌, ℕ, Bool, true, false, cond, List, [], ◌∷◌, ◌++◌, refl, sym, ap, ◌∙◌, subst, length}
use Rattle.std.specs.Prelude.{◌==◌}
use Rattle.std.proofs.lemmas.Bool.{eq-eqb, eqb-true, eqb-false}
use Rattle.std.proofs.lemmas.List.{append-nil, append_assoc}
use Rattle.mx_session.specs.Jobs.{ends}
use Rattle.mx_node.specs.declared.out_units.OutUnit.{OutUnit}
use Rattle.mx_model.specs.Histories.{History}
use Rattle.mx_serial.specs.Order.{order_in}
use Rattle.mx_serial.specs.Replies.{told_on}
use Rattle.mx_serial.proofs.ToldLaws.{told_on-elsewhere}
use Rattle.mx_node.specs.Inputs.{InputUnit, Bytes, Close, connection_of}
use Rattle.mx_node.specs.Connections.{came_after, came_on, is_ended_by}
use Rattle.mx_node.specs.Starts.{Start}
use Rattle.mx_node.specs.Outputs.{AnswersAll, AnswersFrom, bytes_on, closed_on, closing, output_for, sent_for, sent_on, sent_to}
use Rattle.mx_node.proofs.ConnectionLaws.{came_elsewhere, came_here, came_on-push, none_came}
use Rattle.mx_node.proofs.OrderLaws.{order_by, none_made, order_by-ended}
use Rattle.mx_node.proofs.OutputLaws.{gained_after, sent_more, sent_no_more, sent_to-same, told_on-left}
use Rattle.mx_node.proofs.RepliesLaws.{HasReplies, answered_open, jobs_now-open, replies_by, replies-none, steps_elsewhere}

-- ---- the bytes of output units

bytes_on-append : (connection : ℕ) (units more : List OutUnit) → bytes_on connection (units ++ more) ≡ bytes_on connection units ++ bytes_on connection more
bytes_on-append connection [] more = refl
bytes_on-append connection (unit ∷ units) more = by_test (bytes_on-append connection units more) (unit.conn.0 == connection)
  where
    by_test : bytes_on connection (units ++ more) ≡ bytes_on connection units ++ bytes_on connection more → (same : Bool)
        → cond same (unit.bytes ++ bytes_on connection (units ++ more)) (bytes_on connection (units ++ more))
        ≡ cond same (unit.bytes ++ bytes_on connection units) (bytes_on connection units) ++ bytes_on connection more
    by_test others true =
        ap (λ (l : List ℕ). unit.bytes ++ l) others ∙ sym (append_assoc unit.bytes (bytes_on connection units) (bytes_on connection more))
    by_test others false = others

bytes_of_sent : (on : ℕ) (bytes : List ℕ) → bytes_on on (sent_on on bytes) ≡ bytes
bytes_of_sent on [] = refl
bytes_of_sent on (byte ∷ bytes) = ap (λ (b : Bool). cond b ((byte ∷ bytes) ++ []) []) (eq-eqb on on refl) ∙ append-nil (byte ∷ bytes)

bytes_elsewhere : (connection on : ℕ) (bytes : List ℕ) → (on == connection) ≡ false → bytes_on connection (sent_on on bytes) ≡ []
bytes_elsewhere connection on [] other = refl
bytes_elsewhere connection on (byte ∷ bytes) other = ap (λ (b : Bool). cond b ((byte ∷ bytes) ++ []) []) other

-- the unit that says that a connection was closed has no bytes
bytes_of_closed : (connection on : ℕ) → bytes_on connection (closed_on on ∷ []) ≡ []
bytes_of_closed connection on = by_test (on == connection)
  where
    none : List ℕ
    none = []

    by_test : (same : Bool) → cond same none none ≡ none
    by_test true = refl
    by_test false = refl

bytes_of_closing : (connection : ℕ) (earlier : List InputUnit) (unit : InputUnit) → bytes_on connection (closing earlier unit) ≡ []
bytes_of_closing connection earlier (Bytes on bytes) = by_end (is_ended_by earlier (Bytes on bytes))
  where
    by_end : (ended : Bool) → bytes_on connection (cond ended (closed_on on ∷ []) []) ≡ []
    by_end false = refl
    by_end true = bytes_of_closed connection on
bytes_of_closing connection earlier (Close on) = refl

module _ (start : Start) (earlier : List InputUnit) (before : History) (unit : InputUnit) (after : History) where
  output_here : bytes_on (connection_of unit) (output_for start earlier before unit after) ≡ sent_for start earlier before unit after
  output_here =
      let on = connection_of unit in
      let bytes = sent_for start earlier before unit after in
      bytes_on-append on (sent_on on bytes) (closing earlier unit)
      ∙ ap (λ (l : List ℕ). bytes_on on (sent_on on bytes) ++ l) (bytes_of_closing on earlier unit)
      ∙ append-nil (bytes_on on (sent_on on bytes)) ∙ bytes_of_sent on bytes

  output_elsewhere : (connection : ℕ) → (connection_of unit == connection) ≡ false → bytes_on connection (output_for start earlier before unit after) ≡ []
  output_elsewhere connection other =
      let on = connection_of unit in
      let bytes = sent_for start earlier before unit after in
      bytes_on-append connection (sent_on on bytes) (closing earlier unit)
      ∙ ap (λ (l : List ℕ). bytes_on connection (sent_on on bytes) ++ l) (bytes_of_closing connection earlier unit)
      ∙ append-nil (bytes_on connection (sent_on on bytes)) ∙ bytes_elsewhere connection on bytes other

-- ---- one unit more

-- what a connection was sent stays, and more may follow
sent_grows : (start : Start) (units : List InputUnit) (on : ℕ) (bytes : List ℕ) (more earlier : History) → order_in more ≡ order_by units (Bytes on bytes)
    → HasReplies start.base on (came_on on units) earlier
    → (gained : List ℕ) × (sent_to start on (came_on on units ++ bytes) (more ++ earlier) ≡ sent_to start on (came_on on units) earlier ++ gained)
sent_grows start units on bytes more earlier order had = by_end (ends on (came_on on units)) refl
  where
    by_end : (b : Bool) → ends on (came_on on units) ≡ b
        → (gained : List ℕ) × (sent_to start on (came_on on units ++ bytes) (more ++ earlier) ≡ sent_to start on (came_on on units) earlier ++ gained)
    by_end true over =
        let came = came_on on units in
        let none : more ≡ [] = none_made more (order ∙ order_by-ended units on came bytes refl over) in (
          [],
          ap (λ (h : History). sent_to start on (came ++ bytes) (h ++ earlier)) none
              ∙ sent_no_more start on came bytes earlier over ∙ sym (append-nil (sent_to start on came earlier)),
        )
    by_end false goes_on =
        let came = came_on on units in
        let answered = answered_open start.base units on bytes more earlier order goes_on in
        let told : told_on start.base on (more ++ earlier) ≡ told_on start.base on answered.middle =
        ap (told_on start.base on) answered.left ∙ told_on-left start.base on on _ answered.middle in (
          _,
          sent_to-same start on (came ++ bytes) (more ++ earlier) answered.middle told
              ∙ sent_more start on came bytes earlier answered.middle answered.gains.replies goes_on (had ∙ ap length (jobs_now-open on came goes_on))
              answered.gains.told answered.gains.each,
        )

-- all bytes so far end with those that the connection was sent since it was opened
abbrev EndsWith : (start : Start) (connection : ℕ) (came : List ℕ) (history : History) (all : List ℕ) → Type 0
EndsWith start connection came history all = (before : List ℕ) × (all ≡ before ++ sent_to start connection came history)

ends_more : (start : Start) (on : ℕ) (came now : List ℕ) (earlier history : History) (all more : List ℕ)
    → sent_to start on now history ≡ sent_to start on came earlier ++ more → EndsWith start on came earlier all → EndsWith start on now history (all ++ more)
ends_more start on came now earlier history all more grows (before, is) = (
  before,
  ap (λ (l : List ℕ). l ++ more) is ∙ append_assoc before (sent_to start on came earlier) more ∙ ap (λ (l : List ℕ). before ++ l) (sym grows),
)

sent_here : (start : Start) (units : List InputUnit) (unit : InputUnit) (more earlier : History) (all : List ℕ) → order_in more ≡ order_by units unit
    → HasReplies start.base (connection_of unit) (came_on (connection_of unit) units) earlier
    → EndsWith start (connection_of unit) (came_on (connection_of unit) units) earlier all
    → EndsWith start (connection_of unit) (came_after (connection_of unit) (came_on (connection_of unit) units) unit) (more ++ earlier)
    (all ++ sent_for start units earlier unit (more ++ earlier))
sent_here start units (Bytes on bytes) more earlier all order had ends =
    let came = came_on on units in
    let history = more ++ earlier in
    let (gained, grows) = sent_grows start units on bytes more earlier order had in
    let sent : sent_for start units earlier (Bytes on bytes) history ≡ gained =
    gained_after (sent_to start on came earlier) (sent_to start on (came ++ bytes) history) gained grows in
    subst (λ (l : List ℕ). EndsWith start on l history (all ++ sent_for start units earlier (Bytes on bytes) history)) (sym (came_here on came bytes))
    (subst (λ (l : List ℕ). EndsWith start on (came ++ bytes) history (all ++ l)) (sym sent)
    (ends_more start on came (came ++ bytes) earlier history all gained grows ends))
sent_here start units (Close on) more earlier all order had ends =
    subst (λ (l : List ℕ). EndsWith start on l (more ++ earlier) (all ++ [])) (sym (none_came on (came_on on units))) (all, refl)

sent_elsewhere : (start : Start) (units : List InputUnit) (unit : InputUnit) (more earlier : History) (connection : ℕ) (came all : List ℕ)
    → order_in more ≡ order_by units unit → (connection_of unit == connection) ≡ false → EndsWith start connection came earlier all
    → EndsWith start connection came (more ++ earlier) (all ++ [])
sent_elsewhere start units unit more earlier connection came all order other ends =
    let told = told_on-elsewhere start.base connection more earlier (steps_elsewhere connection units unit more order other) in
    ends_more start connection came came earlier (more ++ earlier) all []
    (sent_to-same start connection came (more ++ earlier) earlier told ∙ sym (append-nil (sent_to start connection came earlier))) ends

sent_by : (start : Start) (units : List InputUnit) (unit : InputUnit) (more earlier : History) (connection : ℕ) (all : List ℕ)
    → order_in more ≡ order_by units unit → ((connection : ℕ) → HasReplies start.base connection (came_on connection units) earlier)
    → EndsWith start connection (came_on connection units) earlier all
    → EndsWith start connection (came_on connection (units ++ unit ∷ [])) (more ++ earlier)
    (all ++ bytes_on connection (output_for start units earlier unit (more ++ earlier)))
sent_by start units unit more earlier connection all order had ends =
    subst (λ (came : List ℕ). EndsWith start connection came (more ++ earlier) (all ++ bytes_on connection (output_for start units earlier unit (more ++ earlier))))
    (sym (came_on-push connection units unit)) (by_test (connection_of unit == connection) refl)
  where
    by_test : (same : Bool) → (connection_of unit == connection) ≡ same
        → EndsWith start connection (came_after connection (came_on connection units) unit) (more ++ earlier)
        (all ++ bytes_on connection (output_for start units earlier unit (more ++ earlier)))
    by_test true is =
        let on = connection_of unit in
        let same : on ≡ connection = eqb-true on connection is in
        subst (λ (n : ℕ). EndsWith start n (came_after n (came_on n units) unit) (more ++ earlier)
        (all ++ bytes_on n (output_for start units earlier unit (more ++ earlier)))) same
        (subst (λ (l : List ℕ). EndsWith start on (came_after on (came_on on units) unit) (more ++ earlier) (all ++ l))
        (sym (output_here start units earlier unit (more ++ earlier)))
        (sent_here start units unit more earlier all order (had on)
        (subst (λ (n : ℕ). EndsWith start n (came_on n units) earlier all) (sym same) ends)))
    by_test false is =
        let other : connection ≢ connection_of unit = λ same. eqb-false (connection_of unit) connection is (sym same) in
        subst (λ (came : List ℕ). EndsWith start connection came (more ++ earlier) (all ++ bytes_on connection (output_for start units earlier unit (more ++ earlier))))
        (sym (came_elsewhere unit connection (came_on connection units) other))
        (subst (λ (l : List ℕ). EndsWith start connection (came_on connection units) (more ++ earlier) (all ++ l))
        (sym (output_elsewhere start units earlier unit (more ++ earlier) connection is))
        (sent_elsewhere start units unit more earlier connection (came_on connection units) all order is ends))

-- ---- all units

sent_from : (start : Start) (earlier : List InputUnit) (before : History) (units : List InputUnit) (history : History) (sent : List OutUnit)
    (connection : ℕ) (all : List ℕ) → AnswersFrom start earlier before units history sent
    → ((connection : ℕ) → HasReplies start.base connection (came_on connection earlier) before) → EndsWith start connection (came_on connection earlier) before all
    → EndsWith start connection (came_on connection (earlier ++ units)) history (all ++ bytes_on connection sent)
sent_from start earlier before [] history sent connection all (same, none) had ends =
    subst (λ (l : List InputUnit). EndsWith start connection (came_on connection l) history (all ++ bytes_on connection sent)) (sym (append-nil earlier))
    (subst (λ (l : List OutUnit). EndsWith start connection (came_on connection earlier) history (all ++ bytes_on connection l)) (sym none)
    (subst (λ (h : History). EndsWith start connection (came_on connection earlier) h (all ++ [])) (sym same)
    (subst (EndsWith start connection (came_on connection earlier) before) (sym (append-nil all)) ends)))
sent_from start earlier before (unit ∷ units) history sent connection all (more, others, order, is, rest) had ends =
    let later = earlier ++ unit ∷ [] in
    let now = more ++ before in
    let here = output_for start earlier before unit now in
    let on = sent_from start later now units history others connection (all ++ bytes_on connection here) rest
    (replies_by start.base earlier unit more before order had) (sent_by start earlier unit more before connection all order had ends) in
    subst (λ (l : List InputUnit). EndsWith start connection (came_on connection l) history (all ++ bytes_on connection sent)) (append_assoc earlier (unit ∷ []) units)
    (subst (EndsWith start connection (came_on connection (later ++ units)) history)
    (append_assoc all (bytes_on connection here) (bytes_on connection others)
    ∙ ap (λ (l : List ℕ). all ++ l) (sym (bytes_on-append connection here others) ∙ ap (bytes_on connection) (sym is))) on)

-- all that a connection is sent for units ends with what it is sent since it was opened
pub sent_in_all : (start : Start) (units : List InputUnit) (history : History) (sent : List OutUnit) (connection : ℕ) → AnswersAll start units history sent
    → (before : List ℕ) × (bytes_on connection sent ≡ before ++ sent_to start connection (came_on connection units) history)
sent_in_all start units history sent connection answers =
    sent_from start [] [] units history sent connection [] answers (replies-none start.base) ([], refl)
