-- Tables of sessions by the numbers of their connections, and connections that leave by them.
use Rattle.std.proofs.Common.{◌≡◌, ℕ, zero, suc, ◌+◌, ◌<◌, Bool, true, false, not, List, [], ◌∷◌, ◌++◌, length, get_or, set, take, drop, Vec, Some, None, refl, sym, ap, ◌∙◌, arith}
use Rattle.std.specs.Prelude.{Option, replicate, if◌then◌else◌}
use Rattle.std.specs.Vec.{with_items}
use Rattle.std.proofs.lemmas.List.{append-nil, append_assoc, take_at, take_more, length-set, length-take-le, set-set}
use Rattle.mx_session.specs.Sessions.{SessionState}
use Rattle.mx_model.specs.Bases.{Base}
use Rattle.mx_model.specs.Histories.{History, Left, clock_of, journal_of, state_of}
use Rattle.mx_serial.specs.Replies.{told_in}
use Rattle.mx_serial.specs.Order.{Step, order_in}
use Rattle.mx_node.specs.Inputs.{InputUnit}
use Rattle.mx_node.specs.Connections.{came_on, is_open}
use Rattle.mx_node.specs.Order.{departure_where, departures_from}
use Rattle.mx_node.specs.Serving.{HasSession, left_from}
use Rattle.mx_node.specs.Tables.{goes_on, session_at}

pub none_at : (count connection : ℕ) → session_at (replicate count None) connection ≡ None
none_at zero connection = refl
none_at (suc count) zero = refl
none_at (suc count) (suc connection) = none_at count connection

-- a place that is there is the same whatever stands for others
pub place_there : {X : Type 0} (places : List X) (place : ℕ) (slot other : X) → place < length places → slot ≡ get_or places place slot → slot ≡ get_or places place other
place_there [] place slot other within is = absurd (omega (arith, within))
place_there (first ∷ places) zero slot other within is = is
place_there (first ∷ places) (suc place) slot other within is = place_there places place slot other (omega (arith, within)) is

-- ---- places that change

with_items_are : {X Z : Type 0} (v : Vec X Z) (items : List X) → length items ≡ length v.items → (with_items v items).items ≡ items
with_items_are v items same = take_at items (drop (length items) v.items) v.len (omega (arith, same, v.ok.0))

pub one_place : {X Z : Type 0} (v : Vec X Z) (was now : List X) (place : ℕ) (slot : X) → was ≡ v.items → now ≡ set was place slot
    → (with_items v now).items ≡ set v.items place slot
one_place v was now place slot same is =
    let changed : now ≡ set v.items place slot = is ∙ ap (λ l. set l place slot) same in
    with_items_are v now (ap length changed ∙ length-set v.items place slot) ∙ changed

pub one_place_twice : {X Z : Type 0} (v : Vec X Z) (was now again last : List X) (place : ℕ) (first slot : X) → was ≡ v.items → now ≡ set was place first
    → again ≡ (with_items v now).items → last ≡ set again place slot → (with_items (with_items v now) last).items ≡ set v.items place slot
one_place_twice v was now again last place first slot same is same_again is_last =
    one_place (with_items v now) again last place slot same_again is_last
    ∙ ap (λ l. set l place slot) (one_place v was now place first same is) ∙ set-set v.items place first slot

-- ---- connections that leave

abbrev pub left_by : (connection : ℕ) → (stays : Bool) → History → History
left_by connection stays history = if stays then history else Left connection ∷ history

-- an open connection leaves
pub left_one : (connection : ℕ) (slot : Option SessionState) (session : SessionState) (history : History) → slot ≡ Some session → session.ended ≡ false
    → left_from connection (slot ∷ []) history ≡ Left connection ∷ history
left_one connection slot session history is goes_on =
    ap (λ (s : Option SessionState). left_from connection (s ∷ []) history) is ∙ ap (λ (b : Bool). left_by connection b history) goes_on

-- one place more
pub left_from-push : (connection : ℕ) (sessions : List (Option SessionState)) (slot : Option SessionState) (history : History)
    → left_from connection (sessions ++ slot ∷ []) history ≡ left_from (connection + length sessions) (slot ∷ []) (left_from connection sessions history)
left_from-push connection [] slot history = ap (λ (n : ℕ). left_from n (slot ∷ []) history) (omega arith)
left_from-push connection (None ∷ sessions) slot history =
    left_from-push (suc connection) sessions slot history
    ∙ ap (λ (n : ℕ). left_from n (slot ∷ []) (left_from (suc connection) sessions history)) (omega arith)
left_from-push connection (Some session ∷ sessions) slot history =
    let first = left_by connection session.ended history in
    left_from-push (suc connection) sessions slot first
    ∙ ap (λ (n : ℕ). left_from n (slot ∷ []) (left_from (suc connection) sessions first)) (omega arith)

-- the place that comes next
pub left_from-next : (number : ℕ) (sessions : List (Option SessionState)) (slot : Option SessionState) (history : History) → number < length sessions
    → slot ≡ get_or sessions number slot
    → left_from 0 (take (number + 1) sessions) history ≡ left_from number (slot ∷ []) (left_from 0 (take number sessions) history)
left_from-next number sessions slot history within is =
    let before = take number sessions in
    let long : length before ≡ number = length-take-le number sessions (omega (arith, within)) in
    ap (λ (l : List (Option SessionState)). left_from 0 l history) (take_more sessions number slot within ∙ ap (λ (s : Option SessionState). before ++ s ∷ []) (sym is))
    ∙ left_from-push 0 before slot history
    ∙ ap (λ (n : ℕ). left_from n (slot ∷ []) (left_from 0 before history)) (omega (arith, long))

left_by-state : (base : Base) (connection : ℕ) (stays : Bool) (history : History) → state_of base (left_by connection stays history) ≡ state_of base history
left_by-state base connection true history = refl
left_by-state base connection false history = refl

left_by-clock : (base : Base) (connection : ℕ) (stays : Bool) (history : History) → clock_of base (left_by connection stays history) ≡ clock_of base history
left_by-clock base connection true history = refl
left_by-clock base connection false history = refl

left_by-journal : (base : Base) (connection : ℕ) (stays : Bool) (history : History) → journal_of base (left_by connection stays history) ≡ journal_of base history
left_by-journal base connection true history = refl
left_by-journal base connection false history = refl

-- the journal, the state and the vclock stay
pub left_from-journal : (base : Base) (connection : ℕ) (sessions : List (Option SessionState)) (history : History)
    → journal_of base (left_from connection sessions history) ≡ journal_of base history
left_from-journal base connection [] history = refl
left_from-journal base connection (None ∷ sessions) history = left_from-journal base (suc connection) sessions history
left_from-journal base connection (Some session ∷ sessions) history =
    left_from-journal base (suc connection) sessions (left_by connection session.ended history) ∙ left_by-journal base connection session.ended history

pub left_from-state : (base : Base) (connection : ℕ) (sessions : List (Option SessionState)) (history : History)
    → state_of base (left_from connection sessions history) ≡ state_of base history
left_from-state base connection [] history = refl
left_from-state base connection (None ∷ sessions) history = left_from-state base (suc connection) sessions history
left_from-state base connection (Some session ∷ sessions) history =
    left_from-state base (suc connection) sessions (left_by connection session.ended history) ∙ left_by-state base connection session.ended history

pub left_from-clock : (base : Base) (connection : ℕ) (sessions : List (Option SessionState)) (history : History)
    → clock_of base (left_from connection sessions history) ≡ clock_of base history
left_from-clock base connection [] history = refl
left_from-clock base connection (None ∷ sessions) history = left_from-clock base (suc connection) sessions history
left_from-clock base connection (Some session ∷ sessions) history =
    left_from-clock base (suc connection) sessions (left_by connection session.ended history) ∙ left_by-clock base connection session.ended history

pub left_by-told : (base : Base) (connection : ℕ) (stays : Bool) (history : History) → told_in base (left_by connection stays history) ≡ told_in base history
left_by-told base connection true history = refl
left_by-told base connection false history = append-nil (told_in base history)

-- nothing is replied to
pub left_from-told : (base : Base) (connection : ℕ) (sessions : List (Option SessionState)) (history : History)
    → told_in base (left_from connection sessions history) ≡ told_in base history
left_from-told base connection [] history = refl
left_from-told base connection (None ∷ sessions) history = left_from-told base (suc connection) sessions history
left_from-told base connection (Some session ∷ sessions) history =
    left_from-told base (suc connection) sessions (left_by connection session.ended history) ∙ left_by-told base connection session.ended history

-- what came later is kept, put after a connection that perhaps left
pub left_by-since : (connection : ℕ) (stays : Bool) (history all : History) → (more : History) × (all ≡ more ++ left_by connection stays history)
    → (more : History) × (all ≡ more ++ history)
left_by-since connection true history all since = since
left_by-since connection false history all (more, is) = (more ++ Left connection ∷ [], is ∙ sym (append_assoc more (Left connection ∷ []) history))

-- it goes on from the history
pub left_from-since : (connection : ℕ) (sessions : List (Option SessionState)) (history : History)
    → (more : History) × (left_from connection sessions history ≡ more ++ history)
left_from-since connection [] history = ([], refl)
left_from-since connection (None ∷ sessions) history = left_from-since (suc connection) sessions history
left_from-since connection (Some session ∷ sessions) history =
    let first = left_by connection session.ended history in
    left_by-since connection session.ended history (left_from (suc connection) sessions first) (left_from-since (suc connection) sessions first)

-- ---- the steps of connections that depart

pub left_by-order : (connection : ℕ) (ended there : Bool) (history : History) → there ≡ not ended
    → order_in (left_by connection ended history) ≡ order_in history ++ departure_where connection there
left_by-order connection true there history is = sym (append-nil (order_in history)) ∙ ap (λ (b : Bool). order_in history ++ departure_where connection b) (sym is)
left_by-order connection false there history is = ap (λ (b : Bool). order_in history ++ departure_where connection b) (sym is)

-- a connection without a session isn't there
pub not_there : (connection : ℕ) (came : List ℕ) → HasSession connection came None → is_open connection came ≡ false
not_there connection [] has = refl
not_there connection (byte ∷ came) has = absurd has

-- a connection with a session is there unless it ended
pub there_unless_ended : (connection : ℕ) (came : List ℕ) (session : SessionState) → HasSession connection came (Some session)
    → is_open connection came ≡ not session.ended
there_unless_ended connection [] session has = absurd cc
there_unless_ended connection (byte ∷ came) session has = ap not (sym has.ended)

-- a connection is there where its session goes on
pub there_where : (connection : ℕ) (came : List ℕ) (slot : Option SessionState) → HasSession connection came slot → is_open connection came ≡ goes_on slot
there_where connection came None has = not_there connection came has
there_where connection came (Some session) has = there_unless_ended connection came session has

pub left_from-order : (connection : ℕ) (sessions : List (Option SessionState)) (units : List InputUnit) (history : History)
    → ((number place : ℕ) → number ≡ connection + place → place < length sessions → HasSession number (came_on number units) (session_at sessions place))
    → order_in (left_from connection sessions history) ≡ order_in history ++ departures_from connection (length sessions) units
left_from-order connection [] units history has = sym (append-nil (order_in history))
left_from-order connection (None ∷ sessions) units history has =
    let there = not_there connection (came_on connection units) (has connection 0 (omega arith) (omega arith)) in
    let rest = departures_from (suc connection) (length sessions) units in
    left_from-order (suc connection) sessions units history (λ number place is within. has number (suc place) (omega (arith, is)) (omega (arith, within)))
    ∙ ap (λ (b : Bool). order_in history ++ (departure_where connection b ++ rest)) (sym there)
left_from-order connection (Some session ∷ sessions) units history has =
    let there = there_unless_ended connection (came_on connection units) session (has connection 0 (omega arith) (omega arith)) in
    let is_there = is_open connection (came_on connection units) in
    let rest = departures_from (suc connection) (length sessions) units in
    left_from-order (suc connection) sessions units (left_by connection session.ended history)
    (λ number place is within. has number (suc place) (omega (arith, is)) (omega (arith, within)))
    ∙ ap (λ (l : List Step). l ++ rest) (left_by-order connection session.ended is_there history there)
    ∙ append_assoc (order_in history) (departure_where connection is_there) rest
