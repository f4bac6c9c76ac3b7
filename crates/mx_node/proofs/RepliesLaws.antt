-- How many replies each connection has, after one unit more.
use Rattle.std.proofs.Common.{◌≡◌, ◌≢◌, ℕ, zero, suc, ◌+◌, Bool, true, false, cond, not, List, [], ◌∷◌, ◌++◌, length, map, drop, refl, sym, ap, ◌∙◌, subst, arith, length-append}
use Rattle.std.specs.Prelude.{⊤, ◌==◌, if◌then◌else◌}
use Rattle.std.proofs.lemmas.Bool.{eqb-true, eqb-false}
use Rattle.std.proofs.lemmas.List.{append-nil, append_assoc}
use Rattle.mx_frame.specs.Packets.{rest_of, breaks_off, packets_of}
use Rattle.mx_session.specs.declared.job.Job.{Job}
use Rattle.mx_session.specs.Jobs.{job_in, broken_job, up_to_end, jobs_of, ends}
use Rattle.mx_session.proofs.JobLaws.{in_pieces}
use Rattle.mx_serial.specs.Replies.{Told, told_by, told_now}
use Rattle.mx_model.specs.Bases.{Base}
use Rattle.mx_model.specs.Histories.{Asked, Left, Took, Confirmed, Looked, History}
use Rattle.mx_serial.specs.Order.{Step, RequestStep, DepartureStep, TakeStep, ConfirmStep, LookStep, order_in}
use Rattle.mx_serial.proofs.ToldLaws.{AreElsewhere, told_now-asked, told_now-elsewhere, told_now-left}
use Rattle.mx_node.specs.Inputs.{InputUnit, Bytes, Close, connection_of}
use Rattle.mx_node.specs.Connections.{came_after, came_on, is_open, is_ended_by, jobs_by, AreOf}
use Rattle.mx_node.specs.Order.{departure_where, requests_of, written_out}
use Rattle.mx_link.proofs.PieceLaws.{ends-nothing, ends-piece, ends-stays, jobs_of-nothing}
use Rattle.mx_node.proofs.ConnectionLaws.{came_elsewhere, came_here, came_on-push, none_came}
use Rattle.mx_node.proofs.OrderLaws.{order_by, order_from, order_of, departed, none_made, order_by-ended, order_by-open, split_order}
use Rattle.mx_node.proofs.TableLaws.{left_by}

-- ---- whose jobs these are

jobs_in-whose : (on : ℕ) (packets : List (List ℕ)) (last : List Job) → AreOf on last → AreOf on (up_to_end (map (job_in on) packets) last)
jobs_in-whose on [] last are = are
jobs_in-whose on (packet ∷ packets) last are = by_job (jobs_in-whose on packets last are) (job_in on packet) refl
  where
    by_job : AreOf on (up_to_end (map (job_in on) packets) last) → (first : Job × Bool) → job_in on packet ≡ first
        → AreOf on (up_to_end (first ∷ map (job_in on) packets) last)
    by_job others (job, true) is = (ap (λ (x : Job × Bool). x.0.name.conn.0) (sym is), tt)
    by_job others (job, false) is = (ap (λ (x : Job × Bool). x.0.name.conn.0) (sym is), others)

-- the jobs of a connection's bytes came on it
pub jobs_of-whose : (on : ℕ) (bytes : List ℕ) → AreOf on (jobs_of on bytes)
jobs_of-whose on bytes = jobs_in-whose on (packets_of bytes) _ (by_break (breaks_off bytes))
  where
    by_break : (breaks : Bool) → AreOf on (cond breaks (broken_job on ∷ []) [])
    by_break true = (refl, tt)
    by_break false = tt

are_of-drop : (on count : ℕ) (jobs : List Job) → AreOf on jobs → AreOf on (drop count jobs)
are_of-drop on zero jobs are = are
are_of-drop on (suc count) [] are = tt
are_of-drop on (suc count) (job ∷ jobs) are = are_of-drop on count jobs are.1

jobs_by-whose : (earlier : List InputUnit) (unit : InputUnit) → AreOf (connection_of unit) (jobs_by earlier unit)
jobs_by-whose earlier (Bytes on bytes) = are_of-drop on (length (jobs_of on (came_on on earlier))) _ (jobs_of-whose on (came_on on earlier ++ bytes))
jobs_by-whose earlier (Close on) = tt

-- ---- steps of other connections

-- each of these steps is so
abbrev Each : (Step → Type 0) → List Step → Type 0
Each P [] = ⊤
Each P (step ∷ steps) = P step × Each P steps

each-append : (P : Step → Type 0) (steps more : List Step) → Each P steps → Each P more → Each P (steps ++ more)
each-append P [] more each others = others
each-append P (step ∷ steps) more (first, each) others = (first, each-append P steps more each others)

each-parts : (P : Step → Type 0) (steps more : List Step) → Each P (steps ++ more) → Each P steps × Each P more
each-parts P [] more each = (tt, each)
each-parts P (step ∷ steps) more (first, each) = let parts = each-parts P steps more each in ((first, parts.0), parts.1)

-- a step isn't the connection's
abbrev IsElsewhere : (connection : ℕ) → Step → Type 0
IsElsewhere connection (RequestStep name ask) = (name.conn.0 == connection) ≡ false
IsElsewhere connection (DepartureStep other) = (other == connection) ≡ false
IsElsewhere connection _ = ⊤

are_elsewhere : (connection : ℕ) (history : History) → Each (IsElsewhere connection) (order_in history) → AreElsewhere connection history
are_elsewhere connection [] none = tt
are_elsewhere connection (Asked name ask reply ∷ earlier) none =
    let parts = each-parts (IsElsewhere connection) (order_in earlier) (RequestStep name ask ∷ []) none in (parts.1.0, are_elsewhere connection earlier parts.0)
are_elsewhere connection (Left other ∷ earlier) none =
    let parts = each-parts (IsElsewhere connection) (order_in earlier) (DepartureStep other ∷ []) none in (parts.1.0, are_elsewhere connection earlier parts.0)
are_elsewhere connection (Took transactions upto ∷ earlier) none =
    are_elsewhere connection earlier (each-parts (IsElsewhere connection) (order_in earlier) _ none).0
are_elsewhere connection (Confirmed upto ∷ earlier) none =
    are_elsewhere connection earlier (each-parts (IsElsewhere connection) (order_in earlier) _ none).0
are_elsewhere connection (Looked ∷ earlier) none =
    are_elsewhere connection earlier (each-parts (IsElsewhere connection) (order_in earlier) _ none).0

module _ (connection on : ℕ) (other : (on == connection) ≡ false) where
  requests_of-elsewhere : (jobs : List Job) → AreOf on jobs → Each (IsElsewhere connection) (requests_of jobs)
  requests_of-elsewhere [] are = tt
  requests_of-elsewhere (job ∷ jobs) are = (ap (λ (n : ℕ). n == connection) are.0 ∙ other, requests_of-elsewhere jobs are.1)

  written_out-elsewhere : (jobs : List Job) → AreOf on jobs → Each (IsElsewhere connection) (written_out jobs)
  written_out-elsewhere [] are = tt
  written_out-elsewhere (job ∷ jobs) are =
      each-append (IsElsewhere connection) (requests_of (job ∷ jobs)) (TakeStep ∷ ConfirmStep ∷ []) (requests_of-elsewhere (job ∷ jobs) are) (tt, (tt, tt))

  departure-elsewhere : (departs : Bool) → Each (IsElsewhere connection) (departure_where on departs)
  departure-elsewhere true = (other, tt)
  departure-elsewhere false = tt

-- the steps for a unit are those of its connection
order_by-elsewhere : (connection : ℕ) (earlier : List InputUnit) (unit : InputUnit) → (connection_of unit == connection) ≡ false
    → Each (IsElsewhere connection) (order_by earlier unit)
order_by-elsewhere connection earlier unit other =
    let on = connection_of unit in
    each-append (IsElsewhere connection) (written_out (jobs_by earlier unit)) (departure_where on (is_ended_by earlier unit))
    (written_out-elsewhere connection on other (jobs_by earlier unit) (jobs_by-whose earlier unit))
    (departure-elsewhere connection on other (is_ended_by earlier unit))

-- ---- a connection's own steps

-- a step is a request of the connection, or nobody asked for it
abbrev IsOwn : (connection : ℕ) → Step → Type 0
IsOwn connection (RequestStep name ask) = name.conn.0 ≡ connection
IsOwn connection (DepartureStep other) = ⊥
IsOwn connection _ = ⊤

-- how many of these steps are requests
abbrev requests : List Step → ℕ
requests [] = 0
requests (RequestStep name ask ∷ steps) = suc (requests steps)
requests (DepartureStep connection ∷ steps) = requests steps
requests (TakeStep ∷ steps) = requests steps
requests (ConfirmStep ∷ steps) = requests steps
requests (LookStep ∷ steps) = requests steps

requests-append : (steps more : List Step) → requests (steps ++ more) ≡ requests steps + requests more
requests-append [] more = omega arith
requests-append (RequestStep name ask ∷ steps) more = omega (arith, requests-append steps more)
requests-append (DepartureStep connection ∷ steps) more = requests-append steps more
requests-append (TakeStep ∷ steps) more = requests-append steps more
requests-append (ConfirmStep ∷ steps) more = requests-append steps more
requests-append (LookStep ∷ steps) more = requests-append steps more

requests_of-own : (on : ℕ) (jobs : List Job) → AreOf on jobs → Each (IsOwn on) (requests_of jobs)
requests_of-own on [] are = tt
requests_of-own on (job ∷ jobs) are = (are.0, requests_of-own on jobs are.1)

written_out-own : (on : ℕ) (jobs : List Job) → AreOf on jobs → Each (IsOwn on) (written_out jobs)
written_out-own on [] are = tt
written_out-own on (job ∷ jobs) are =
    each-append (IsOwn on) (requests_of (job ∷ jobs)) (TakeStep ∷ ConfirmStep ∷ []) (requests_of-own on (job ∷ jobs) are) (tt, (tt, tt))

requests_of-requests : (jobs : List Job) → requests (requests_of jobs) ≡ length jobs
requests_of-requests [] = refl
requests_of-requests (job ∷ jobs) = ap suc (requests_of-requests jobs)

written_out-requests : (jobs : List Job) → requests (written_out jobs) ≡ length jobs
written_out-requests [] = refl
written_out-requests (job ∷ jobs) =
    let parts : requests (written_out (job ∷ jobs)) ≡ requests (requests_of (job ∷ jobs)) + 0 =
    requests-append (requests_of (job ∷ jobs)) (TakeStep ∷ ConfirmStep ∷ []) in
    omega (arith, parts, requests_of-requests (job ∷ jobs))

-- the replies that a connection gains
pub record Gains (base : Base) (on : ℕ) (earlier history : History) (count : ℕ) : Type 0 where
  pub replies : List Told
  pub told : told_now base on history ≡ told_now base on earlier ++ replies
  pub each : length replies ≡ count

-- a step that nobody asked for
gains_none : (base : Base) (on : ℕ) (earlier history now : History) (steps : List Step) (step : Step) → requests (step ∷ []) ≡ 0
    → told_now base on now ≡ told_now base on history → Gains base on earlier history (requests steps) → Gains base on earlier now (requests (steps ++ step ∷ []))
gains_none base on earlier history now steps step none same gains = record {
  replies = gains.replies;
  told = same ∙ gains.told;
  each = omega (arith, gains.each, requests-append steps (step ∷ []), none);
}

gains : (base : Base) (on : ℕ) (more earlier : History) → Each (IsOwn on) (order_in more) → Gains base on earlier (more ++ earlier) (requests (order_in more))
gains base on [] earlier own = record { replies = []; told = sym (append-nil (told_now base on earlier)); each = refl }
gains base on (Asked name ask reply ∷ more) earlier own =
    let parts = each-parts (IsOwn on) (order_in more) (RequestStep name ask ∷ []) own in
    let so_far = gains base on more earlier parts.0 in
    let last = told_by base (Asked name ask reply) (more ++ earlier) in
    record {
      replies = so_far.replies ++ last;
      told = told_now-asked base on name ask reply (more ++ earlier) parts.1.0 ∙ ap (λ (l : List Told). l ++ last) so_far.told
          ∙ append_assoc (told_now base on earlier) so_far.replies last;
      each = length-append so_far.replies last ∙ ap (λ (n : ℕ). n + 1) so_far.each ∙ sym (requests-append (order_in more) (RequestStep name ask ∷ []));
    }
gains base on (Left connection ∷ more) earlier own = absurd (each-parts (IsOwn on) (order_in more) (DepartureStep connection ∷ []) own).1.0
gains base on (Took transactions upto ∷ more) earlier own =
    gains_none base on earlier (more ++ earlier) (Took transactions upto ∷ (more ++ earlier)) (order_in more) TakeStep refl refl
    (gains base on more earlier (each-parts (IsOwn on) (order_in more) (TakeStep ∷ []) own).0)
gains base on (Confirmed upto ∷ more) earlier own =
    gains_none base on earlier (more ++ earlier) (Confirmed upto ∷ (more ++ earlier)) (order_in more) ConfirmStep refl refl
    (gains base on more earlier (each-parts (IsOwn on) (order_in more) (ConfirmStep ∷ []) own).0)
gains base on (Looked ∷ more) earlier own =
    gains_none base on earlier (more ++ earlier) (Looked ∷ (more ++ earlier)) (order_in more) LookStep refl refl
    (gains base on more earlier (each-parts (IsOwn on) (order_in more) (LookStep ∷ []) own).0)

-- a reply for each of its jobs
pub gains_by : (base : Base) (on : ℕ) (jobs : List Job) (more earlier : History) → AreOf on jobs → order_in more ≡ written_out jobs
    → Gains base on earlier (more ++ earlier) (length jobs)
gains_by base on jobs more earlier are order =
    subst (Gains base on earlier (more ++ earlier)) (ap requests order ∙ written_out-requests jobs)
    (gains base on more earlier (subst (Each (IsOwn on)) (sym order) (written_out-own on jobs are)))

-- ---- how many replies a connection has

-- the jobs of a connection that is open; none once they ended it
abbrev pub jobs_now : (connection : ℕ) → List ℕ → List Job
jobs_now connection came = if ends connection came then [] else jobs_of connection came

-- A connection on which these bytes came was told a reply for each of their jobs, where it is open; else nothing since it left.
abbrev pub HasReplies : Base → (connection : ℕ) → (came : List ℕ) → History → Type 0
HasReplies base connection came history = length (told_now base connection history) ≡ length (jobs_now connection came)

-- the steps for a unit of another connection
pub steps_elsewhere : (connection : ℕ) (units : List InputUnit) (unit : InputUnit) (more : History) → order_in more ≡ order_by units unit
    → (connection_of unit == connection) ≡ false → AreElsewhere connection more
steps_elsewhere connection units unit more order other =
    are_elsewhere connection more (subst (Each (IsElsewhere connection)) (sym order) (order_by-elsewhere connection units unit other))

pub jobs_now-open : (on : ℕ) (came : List ℕ) → ends on came ≡ false → jobs_now on came ≡ jobs_of on came
jobs_now-open on came goes_on = ap (λ (b : Bool). cond b [] (jobs_of on came)) goes_on

jobs_now-ended : (on : ℕ) (came : List ℕ) → ends on came ≡ true → jobs_now on came ≡ []
jobs_now-ended on came ended = ap (λ (b : Bool). cond b [] (jobs_of on came)) ended

jobs_now-nothing : (on : ℕ) → jobs_now on [] ≡ []
jobs_now-nothing on = jobs_now-open on [] (ends-nothing on) ∙ jobs_of-nothing on

-- a connection that left has none, as it has no jobs
replies-left : (base : Base) (on : ℕ) (came : List ℕ) (earlier : History) → jobs_now on came ≡ [] → HasReplies base on came (Left on ∷ earlier)
replies-left base on came earlier none = ap length (told_now-left base on earlier) ∙ sym (ap length none)

-- bytes of a connection that was ended bring it nothing
replies-ended : (base : Base) (on : ℕ) (came bytes : List ℕ) (history : History) → ends on came ≡ true → HasReplies base on came history
    → HasReplies base on (came ++ bytes) history
replies-ended base on came bytes history ended had =
    had ∙ ap length (jobs_now-ended on came ended ∙ sym (jobs_now-ended on (came ++ bytes) (ends-stays on came bytes ended)))

-- those of an open connection bring it a reply for each of their jobs, and perhaps end it
replies-open : (base : Base) (on : ℕ) (came bytes : List ℕ) (earlier history : History) (replies : List Told) (ended : Bool) → ends on came ≡ false
    → ended ≡ ends on (rest_of came ++ bytes) → HasReplies base on came earlier → told_now base on history ≡ told_now base on earlier ++ replies
    → length replies ≡ length (jobs_of on (rest_of came ++ bytes)) → HasReplies base on (came ++ bytes) (left_by on (not ended) history)
replies-open base on came bytes earlier history replies true goes_on end had told each =
    replies-left base on (came ++ bytes) history (jobs_now-ended on (came ++ bytes) (ends-piece on came bytes goes_on ∙ sym end))
replies-open base on came bytes earlier history replies false goes_on end had told each =
    let later = jobs_of on (rest_of came ++ bytes) in
    let all : jobs_now on (came ++ bytes) ≡ jobs_of on came ++ later =
    jobs_now-open on (came ++ bytes) (ends-piece on came bytes goes_on ∙ sym end) ∙ in_pieces on came bytes goes_on in
    let answered : length (told_now base on earlier) ≡ length (jobs_of on came) = had ∙ ap length (jobs_now-open on came goes_on) in
    ap length told
    ∙ both (told_now base on earlier) replies (jobs_of on came) later answered each ∙ ap length (sym all)
  where
    both : (told others : List Told) (jobs more : List Job) → length told ≡ length jobs → length others ≡ length more
        → length (told ++ others) ≡ length (jobs ++ more)
    both told others jobs more first second = omega (arith, length-append told others, length-append jobs more)

-- after a close it has none
replies-close : (base : Base) (on : ℕ) (came : List ℕ) (earlier : History) (stays : Bool) → is_open on came ≡ not stays → HasReplies base on came earlier
    → HasReplies base on [] (left_by on stays earlier)
replies-close base on came earlier false there had = replies-left base on [] earlier (jobs_now-nothing on)
replies-close base on [] earlier true there had = had
replies-close base on (byte ∷ came) earlier true there had =
    had ∙ ap length (jobs_now-ended on (byte ∷ came) (not_false (ends on (byte ∷ came)) there) ∙ sym (jobs_now-nothing on))
  where
    not_false : (b : Bool) → not b ≡ false → b ≡ true
    not_false true e = refl
    not_false false e = absurd cc

-- no unit was answered
pub replies-none : (base : Base) (connection : ℕ) → HasReplies base connection [] []
replies-none base connection = ap length (sym (jobs_now-nothing connection))

-- ---- the replies after units

pub same_twice : (b : Bool) → b ≡ not (not b)
same_twice true = refl
same_twice false = refl

-- what the steps for bytes of an open connection make of a history: it has a reply for each of their jobs, and then it leaves, where they end it
pub record AnswersOpen (base : Base) (on : ℕ) (came bytes : List ℕ) (earlier history : History) : Type 0 where
  pub middle : History
  pub gains : Gains base on earlier middle (length (jobs_of on (rest_of came ++ bytes)))
  pub left : history ≡ left_by on (not (ends on (rest_of came ++ bytes))) middle

pub answered_open : (base : Base) (units : List InputUnit) (on : ℕ) (bytes : List ℕ) (more earlier : History) → order_in more ≡ order_by units (Bytes on bytes)
    → ends on (came_on on units) ≡ false → AnswersOpen base on (came_on on units) bytes earlier (more ++ earlier)
answered_open base units on bytes more earlier order goes_on =
    let came = came_on on units in
    let jobs = jobs_of on (rest_of came ++ bytes) in
    let ended = ends on (rest_of came ++ bytes) in
    let parts = split_order more (written_out jobs) (departure_where on ended) (order ∙ order_by-open units on came bytes refl goes_on) in
    record {
      middle = parts.earlier ++ earlier;
      gains = gains_by base on jobs parts.earlier earlier (jobs_of-whose on (rest_of came ++ bytes)) parts.before;
      left = ap (λ (h : History). h ++ earlier) parts.is ∙ append_assoc parts.more parts.earlier earlier
          ∙ departed on ended parts.more (parts.earlier ++ earlier) parts.after;
    }

-- the unit's own connection has a reply for each of its jobs
replies-own : (base : Base) (units : List InputUnit) (unit : InputUnit) (more earlier : History) → order_in more ≡ order_by units unit
    → HasReplies base (connection_of unit) (came_on (connection_of unit) units) earlier
    → HasReplies base (connection_of unit) (came_after (connection_of unit) (came_on (connection_of unit) units) unit) (more ++ earlier)
replies-own base units (Bytes on bytes) more earlier order had =
    subst (λ (l : List ℕ). HasReplies base on l (more ++ earlier)) (sym (came_here on (came_on on units) bytes)) (by_end (ends on (came_on on units)) refl)
  where
    by_end : (b : Bool) → ends on (came_on on units) ≡ b → HasReplies base on (came_on on units ++ bytes) (more ++ earlier)
    by_end true over =
        let none : more ≡ [] = none_made more (order ∙ order_by-ended units on (came_on on units) bytes refl over) in
        subst (λ (h : History). HasReplies base on (came_on on units ++ bytes) (h ++ earlier)) (sym none)
        (replies-ended base on (came_on on units) bytes earlier over had)
    by_end false goes_on =
        let answered = answered_open base units on bytes more earlier order goes_on in
        subst (HasReplies base on (came_on on units ++ bytes)) (sym answered.left)
        (replies-open base on (came_on on units) bytes earlier answered.middle answered.gains.replies (ends on (rest_of (came_on on units) ++ bytes))
        goes_on refl had answered.gains.told answered.gains.each)
replies-own base units (Close on) more earlier order had =
    let there = is_open on (came_on on units) in
    subst (λ (l : List ℕ). HasReplies base on l (more ++ earlier)) (sym (none_came on (came_on on units)))
    (subst (HasReplies base on []) (sym (departed on there more earlier order))
    (replies-close base on (came_on on units) earlier (not there) (same_twice there) had))

-- and so has each connection
pub replies_by : (base : Base) (units : List InputUnit) (unit : InputUnit) (more earlier : History) → order_in more ≡ order_by units unit
    → ((connection : ℕ) → HasReplies base connection (came_on connection units) earlier)
    → (connection : ℕ) → HasReplies base connection (came_on connection (units ++ unit ∷ [])) (more ++ earlier)
replies_by base units unit more earlier order had connection =
    subst (λ (came : List ℕ). HasReplies base connection came (more ++ earlier)) (sym (came_on-push connection units unit))
    (by_test (connection_of unit == connection) refl)
  where
    by_test : (same : Bool) → (connection_of unit == connection) ≡ same
        → HasReplies base connection (came_after connection (came_on connection units) unit) (more ++ earlier)
    by_test true is =
        subst (λ (n : ℕ). HasReplies base n (came_after n (came_on n units) unit) (more ++ earlier)) (eqb-true (connection_of unit) connection is)
        (replies-own base units unit more earlier order (had (connection_of unit)))
    by_test false is =
        let other : connection ≢ connection_of unit = λ same. eqb-false (connection_of unit) connection is (sym same) in
        subst (λ (came : List ℕ). HasReplies base connection came (more ++ earlier)) (sym (came_elsewhere unit connection (came_on connection units) other))
        (ap length (told_now-elsewhere base connection more earlier (steps_elsewhere connection units unit more order is)) ∙ had connection)

replies_from : (base : Base) (earlier units : List InputUnit) (before rest : History) → ((connection : ℕ) → HasReplies base connection (came_on connection earlier) before)
    → order_in rest ≡ order_from earlier units → (connection : ℕ) → HasReplies base connection (came_on connection (earlier ++ units)) (rest ++ before)
replies_from base earlier [] before rest had order connection =
    subst (λ (l : List InputUnit). HasReplies base connection (came_on connection l) (rest ++ before)) (sym (append-nil earlier))
    (subst (λ (h : History). HasReplies base connection (came_on connection earlier) (h ++ before)) (sym (none_made rest order)) (had connection))
replies_from base earlier (unit ∷ units) before rest had order connection =
    let later = earlier ++ unit ∷ [] in
    let parts = split_order rest (order_by earlier unit) (order_from later units) order in
    let on = replies_from base later units (parts.earlier ++ before) parts.more (replies_by base earlier unit parts.earlier before parts.before had) parts.after
    connection in
    subst (λ (l : List InputUnit). HasReplies base connection (came_on connection l) (rest ++ before)) (append_assoc earlier (unit ∷ []) units)
    (subst (HasReplies base connection (came_on connection (later ++ units)))
    (sym (ap (λ (h : History). h ++ before) parts.is ∙ append_assoc parts.more parts.earlier before)) on)

-- each connection has a reply for each of its jobs, where the history has the steps for these units
pub replies_of_order : (base : Base) (units : List InputUnit) (history : History) → order_in history ≡ order_of units
    → (connection : ℕ) → HasReplies base connection (came_on connection units) history
replies_of_order base units history order connection =
    subst (HasReplies base connection (came_on connection units)) (append-nil history)
    (replies_from base [] units [] history (replies-none base) order connection)
