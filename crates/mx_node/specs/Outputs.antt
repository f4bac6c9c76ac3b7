-- What connections are sent for what came.
use Rattle.std.specs.Prelude.{◌≡◌, ℕ, List, [], ◌∷◌, ◌++◌, map, ◌==◌, if◌then◌else◌}
use Rattle.mx_session.specs.Jobs.{jobs_of}
use Rattle.mx_serial.specs.Replies.{told_on}
use Rattle.mx_serial.specs.ReplyStream.{packets_of_replies}
use Rattle.mx_node.specs.declared.out_units.OutUnit.{OutUnit}
use Rattle.mx_model.specs.Histories.{History}
use Rattle.mx_serial.specs.Order.{order_in}
use Rattle.mx_node.specs.Inputs.{InputUnit, Bytes, Close, connection_of}
use Rattle.mx_node.specs.Connections.{came_on, gained, is_ended_by}
use Rattle.mx_node.specs.Order.{AreStepsFor}
use Rattle.mx_link.specs.Asks.{sync_of}
use Rattle.mx_node.specs.Starts.{Start, start_greeting}

-- What a connection is sent since these bytes opened it: the greeting, and then a reply for each packet that is answered, in
-- order.
abbrev pub sent_to : (start : Start) (connection : ℕ) (came : List ℕ) → History → List ℕ
sent_to start connection [] history = []
sent_to start connection (byte ∷ bytes) history =
    start_greeting start ++ packets_of_replies (map sync_of (jobs_of connection (byte ∷ bytes))) (told_on start.base connection history)

-- What the connection of a unit is sent for it, after earlier units: what it gains from the history before the unit to the one
-- after it.
abbrev pub sent_for : (start : Start) → List InputUnit → (before : History) → InputUnit → (after : History) → List ℕ
sent_for start earlier before (Bytes on bytes) after =
    gained (sent_to start on (came_on on earlier) before) (sent_to start on (came_on on earlier ++ bytes) after)
sent_for start earlier before (Close on) after = []

-- these bytes on a connection, where there are some
abbrev pub sent_on : ℕ → List ℕ → List OutUnit
sent_on connection [] = []
sent_on connection (byte ∷ bytes) = record { conn = record { 0 = connection }; bytes = byte ∷ bytes } ∷ []

-- all bytes on a connection of these output units
abbrev pub bytes_on : (connection : ℕ) → List OutUnit → List ℕ
bytes_on connection [] = []
bytes_on connection (unit ∷ units) = if unit.conn.0 == connection then unit.bytes ++ bytes_on connection units else bytes_on connection units

-- the server has closed a connection
abbrev pub closed_on : ℕ → OutUnit
closed_on connection = record { conn = record { 0 = connection }; bytes = [] }

abbrev pub closing : List InputUnit → InputUnit → List OutUnit
closing earlier (Bytes on bytes) = if is_ended_by earlier (Bytes on bytes) then closed_on on ∷ [] else []
closing earlier (Close on) = []

-- what is sent for a unit, after earlier ones, from the history before it to the one after it
abbrev pub output_for : (start : Start) → List InputUnit → (before : History) → InputUnit → (after : History) → List OutUnit
output_for start earlier before unit after = sent_on (connection_of unit) (sent_for start earlier before unit after) ++ closing earlier unit

-- Unit by unit, the history goes on from the one before by exactly the unit's steps, and this is sent for all of them. They
-- come after earlier units.
abbrev pub AnswersFrom : (start : Start) (earlier : List InputUnit) (before : History) → List InputUnit → (history : History) → List OutUnit → Type 0
AnswersFrom start earlier before [] history sent = (history ≡ before) × (sent ≡ [])
AnswersFrom start earlier before (unit ∷ units) history sent =
    (more : History) × (others : List OutUnit) × AreStepsFor earlier unit (order_in more)
    × (sent ≡ output_for start earlier before unit (more ++ before) ++ others)
    × AnswersFrom start (earlier ++ unit ∷ []) (more ++ before) units history others

-- the history has exactly the steps for these units, one unit after the other, and this is sent for them
abbrev pub AnswersAll : (start : Start) → List InputUnit → History → List OutUnit → Type 0
AnswersAll start units history sent = AnswersFrom start [] [] units history sent
