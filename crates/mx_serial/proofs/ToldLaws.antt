-- What a connection was told, as a history goes on.
use Rattle.std.proofs.Common.{ℕ, suc, ◌≤◌, List, [], ◌∷◌, length, arith, ◌≡◌, ◌++◌, refl, sym, ap, ◌∙◌, append_assoc, Bool, true, false, cond}
use Rattle.std.specs.Prelude.{⊤, ◌==◌}
use Rattle.std.proofs.lemmas.Bool.{eq-eqb}
use Rattle.mx_row.specs.declared.tx.Tx.{Tx}
use Rattle.mx_model.specs.Bases.{Base}
use Rattle.mx_model.specs.Histories.{Asked, Left, Took, Confirmed, Looked, History, ledger_of, asks_in, leaving, asking, journal_of}
use Rattle.mx_serial.specs.Gate.{AskedWithin, RepliesMayLeave}
use Rattle.mx_base.specs.declared.ids.TxnName.{TxnName}
use Rattle.mx_request.specs.declared.request.Ask.{Ask}
use Rattle.mx_serial.specs.Order.{Step, order_in, step_asks, asks_among, RequestStep, DepartureStep, TakeStep, ConfirmStep, LookStep}
use Rattle.mx_model.specs.declared.reply.Reply.{Reply}
use Rattle.mx_model.specs.Transactions.{schema_version}
use Rattle.mx_serial.specs.Replies.{Told, told_by, has_left, told_on, told_now}
use Rattle.mx_model.proofs.HistoryLaws.{journal_of_asking}

-- ---- which replies may be sent as a history grows

pub within_more : (few many : ℕ) (history : History) → few ≤ many → AskedWithin few history → AskedWithin many history
within_more few many [] more within = tt
within_more few many (Asked name ask reply ∷ earlier) more (here, within) = (omega (arith, here, more), within_more few many earlier more within)
within_more few many (Left connection ∷ earlier) more within = within_more few many earlier more within
within_more few many (Took transactions upto ∷ earlier) more within = within_more few many earlier more within
within_more few many (Confirmed upto ∷ earlier) more within = within_more few many earlier more within
within_more few many (Looked ∷ earlier) more within = within_more few many earlier more within

-- no request stands past the history's end
pub all_within : (history : History) → AskedWithin (length history) history
all_within [] = tt
all_within (Asked name ask reply ∷ earlier) =
    (omega arith, within_more (length earlier) (suc (length earlier)) earlier (omega arith) (all_within earlier))
all_within (Left connection ∷ earlier) = within_more (length earlier) (suc (length earlier)) earlier (omega arith) (all_within earlier)
all_within (Took transactions upto ∷ earlier) = within_more (length earlier) (suc (length earlier)) earlier (omega arith) (all_within earlier)
all_within (Confirmed upto ∷ earlier) = within_more (length earlier) (suc (length earlier)) earlier (omega arith) (all_within earlier)
all_within (Looked ∷ earlier) = within_more (length earlier) (suc (length earlier)) earlier (omega arith) (all_within earlier)

-- once all steps before a take are confirmed, every reply may be sent
pub may_leave_once_confirmed : (base : Base) (transactions : List Tx) (upto : ℕ) (history : History) → length history ≤ upto
    → RepliesMayLeave base (Confirmed upto ∷ Took transactions upto ∷ history)
may_leave_once_confirmed base transactions upto history all =
    let enough : length history ≤ (ledger_of base (Confirmed upto ∷ Took transactions upto ∷ history)).durable = omega (arith, all) in
    within_more (length history) (ledger_of base (Confirmed upto ∷ Took transactions upto ∷ history)).durable history enough (all_within history)

-- ---- what the order of a history's steps tells

pub asks_among-append : (steps more : List Step) → asks_among (steps ++ more) ≡ asks_among steps ++ asks_among more
asks_among-append [] more = refl
asks_among-append (step ∷ steps) more =
    ap (λ (l : List (TxnName × Ask)). step_asks step ++ l) (asks_among-append steps more)
    ∙ sym (append_assoc (step_asks step) (asks_among steps) (asks_among more))

-- the asks of a history are those among its steps
pub asks_of_order : (history : History) → asks_in history ≡ asks_among (order_in history)
asks_of_order [] = refl
asks_of_order (Asked name ask reply ∷ earlier) =
    ap (λ (l : List (TxnName × Ask)). l ++ (name, ask) ∷ []) (asks_of_order earlier)
    ∙ sym (asks_among-append (order_in earlier) (RequestStep name ask ∷ []))
asks_of_order (Left connection ∷ earlier) =
    ap (λ (l : List (TxnName × Ask)). l ++ leaving connection ∷ []) (asks_of_order earlier)
    ∙ sym (asks_among-append (order_in earlier) (DepartureStep connection ∷ []))
asks_of_order (Took transactions upto ∷ earlier) =
    ap (λ (l : List (TxnName × Ask)). l ++ []) (asks_of_order earlier)
    ∙ sym (asks_among-append (order_in earlier) (TakeStep ∷ []))
asks_of_order (Confirmed upto ∷ earlier) =
    ap (λ (l : List (TxnName × Ask)). l ++ []) (asks_of_order earlier)
    ∙ sym (asks_among-append (order_in earlier) (ConfirmStep ∷ []))
asks_of_order (Looked ∷ earlier) =
    ap (λ (l : List (TxnName × Ask)). l ++ []) (asks_of_order earlier)
    ∙ sym (asks_among-append (order_in earlier) (LookStep ∷ []))

-- ---- a connection's own steps

-- one reply more, to a connection
pub told_now-asked : (base : Base) (connection : ℕ) (name : TxnName) (ask : Ask) (reply : Reply) (earlier : History) → name.conn.0 ≡ connection
    → told_now base connection (Asked name ask reply ∷ earlier) ≡ told_now base connection earlier ++ told_by base (Asked name ask reply) earlier
told_now-asked base connection name ask reply earlier same =
    let here : (name.conn.0 == connection) ≡ true = eq-eqb name.conn.0 connection same in
    ap (λ (b : Bool). cond (cond b false (has_left connection earlier)) []
    (cond b (told_now base connection earlier ++ told_by base (Asked name ask reply) earlier) (told_on base connection earlier))) here

-- a connection that left was told nothing since
pub told_now-left : (base : Base) (connection : ℕ) (earlier : History) → told_now base connection (Left connection ∷ earlier) ≡ []
told_now-left base connection earlier =
    ap (λ (b : Bool). cond (cond b true (has_left connection earlier)) [] (told_on base connection earlier)) (eq-eqb connection connection refl)

-- ---- the steps of other connections

-- no step of these is the connection's
abbrev pub AreElsewhere : (connection : ℕ) → History → Type 0
AreElsewhere connection [] = ⊤
AreElsewhere connection (Asked name ask reply ∷ earlier) = ((name.conn.0 == connection) ≡ false) × AreElsewhere connection earlier
AreElsewhere connection (Left other ∷ earlier) = ((other == connection) ≡ false) × AreElsewhere connection earlier
AreElsewhere connection (_ ∷ earlier) = AreElsewhere connection earlier

pub has_left-elsewhere : (connection : ℕ) (more history : History) → AreElsewhere connection more
    → has_left connection (more ++ history) ≡ has_left connection history
has_left-elsewhere connection [] history elsewhere = refl
has_left-elsewhere connection (Asked name ask reply ∷ more) history (other, elsewhere) =
    ap (λ (b : Bool). cond b false (has_left connection (more ++ history))) other ∙ has_left-elsewhere connection more history elsewhere
has_left-elsewhere connection (Left number ∷ more) history (other, elsewhere) =
    ap (λ (b : Bool). cond b true (has_left connection (more ++ history))) other ∙ has_left-elsewhere connection more history elsewhere
has_left-elsewhere connection (Took transactions upto ∷ more) history elsewhere = has_left-elsewhere connection more history elsewhere
has_left-elsewhere connection (Confirmed upto ∷ more) history elsewhere = has_left-elsewhere connection more history elsewhere
has_left-elsewhere connection (Looked ∷ more) history elsewhere = has_left-elsewhere connection more history elsewhere

pub told_on-elsewhere : (base : Base) (connection : ℕ) (more history : History) → AreElsewhere connection more
    → told_on base connection (more ++ history) ≡ told_on base connection history
told_on-elsewhere base connection [] history elsewhere = refl
told_on-elsewhere base connection (Asked name ask reply ∷ more) history (other, elsewhere) =
    ap (λ (b : Bool). cond b (told_now base connection (more ++ history) ++ told_by base (Asked name ask reply) (more ++ history))
    (told_on base connection (more ++ history))) other
    ∙ told_on-elsewhere base connection more history elsewhere
told_on-elsewhere base connection (Left number ∷ more) history (other, elsewhere) = told_on-elsewhere base connection more history elsewhere
told_on-elsewhere base connection (Took transactions upto ∷ more) history elsewhere = told_on-elsewhere base connection more history elsewhere
told_on-elsewhere base connection (Confirmed upto ∷ more) history elsewhere = told_on-elsewhere base connection more history elsewhere
told_on-elsewhere base connection (Looked ∷ more) history elsewhere = told_on-elsewhere base connection more history elsewhere

-- they change nothing of what the connection was told
pub told_now-elsewhere : (base : Base) (connection : ℕ) (more history : History) → AreElsewhere connection more
    → told_now base connection (more ++ history) ≡ told_now base connection history
told_now-elsewhere base connection more history elsewhere =
    ap (λ (b : Bool). cond b [] (told_on base connection (more ++ history))) (has_left-elsewhere connection more history elsewhere)
    ∙ ap (cond (has_left connection history) []) (told_on-elsewhere base connection more history elsewhere)

-- ---- steps that weren't asked for

has_left-asking : (connection : ℕ) (history : History) → has_left connection (asking history) ≡ has_left connection history
has_left-asking connection [] = refl
has_left-asking connection (Asked name ask reply ∷ earlier) = ap (cond (name.conn.0 == connection) false) (has_left-asking connection earlier)
has_left-asking connection (Left other ∷ earlier) = ap (cond (other == connection) true) (has_left-asking connection earlier)
has_left-asking connection (Took transactions upto ∷ earlier) = has_left-asking connection earlier
has_left-asking connection (Confirmed upto ∷ earlier) = has_left-asking connection earlier
has_left-asking connection (Looked ∷ earlier) = has_left-asking connection earlier

told_by-asking : (base : Base) (name : TxnName) (ask : Ask) (reply : Reply) (earlier : History)
    → told_by base (Asked name ask reply) (asking earlier) ≡ told_by base (Asked name ask reply) earlier
told_by-asking base name ask reply earlier =
    let journal : journal_of base (Asked name ask reply ∷ asking earlier) ≡ journal_of base (Asked name ask reply ∷ earlier) =
    journal_of_asking base (Asked name ask reply ∷ earlier) in
    ap (λ (l : List Tx). record { name = name; version = schema_version l; reply = reply } ∷ []) journal

-- takes and confirmations tell nothing
pub told_on-asking : (base : Base) (connection : ℕ) (history : History) → told_on base connection (asking history) ≡ told_on base connection history
told_on-asking base connection [] = refl
told_on-asking base connection (Asked name ask reply ∷ earlier) =
    let here = name.conn.0 == connection in
    let told = told_on-asking base connection earlier in
    ap (λ (b : Bool). cond here (cond b [] (told_on base connection (asking earlier)) ++ told_by base (Asked name ask reply) (asking earlier))
    (told_on base connection (asking earlier))) (has_left-asking connection earlier)
    ∙ ap (λ (l : List Told). cond here (cond (has_left connection earlier) [] l ++ told_by base (Asked name ask reply) (asking earlier)) l) told
    ∙ ap (λ (l : List Told). cond here (told_now base connection earlier ++ l) (told_on base connection earlier)) (told_by-asking base name ask reply earlier)
told_on-asking base connection (Left other ∷ earlier) = told_on-asking base connection earlier
told_on-asking base connection (Took transactions upto ∷ earlier) = told_on-asking base connection earlier
told_on-asking base connection (Confirmed upto ∷ earlier) = told_on-asking base connection earlier
told_on-asking base connection (Looked ∷ earlier) = told_on-asking base connection earlier
