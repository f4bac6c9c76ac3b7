-- A connection from one moment to the next: bytes come, its jobs are answered, replies are let go, and bytes are sent.
use Rattle.std.proofs.Common.{◌≡◌, ℕ, zero, suc, ◌+◌, ◌-◌, ◌<◌, ◌≤◌, Bool, true, false, cond, List, [], ◌∷◌, ◌++◌, length, map, take, drop, refl, sym, ap, ◌∙◌, subst, subst₂, arith, leb-true, leb-false, le-leb, ◌⊎◌, inl, inr}
use Rattle.std.specs.Prelude.{nat_le, sum_by, IfSome, if◌then◌else◌}
use Rattle.std.proofs.lemmas.List.Sums.{sum_by-cons}
use Rattle.std.specs.List.{AllByRecursion}
use Rattle.std.proofs.lemmas.List.{append-nil, append_assoc, length-append, length-drop, length_push, map_push, take-append-drop, take-append-le, drop-append-le, drop-drop}
use Rattle.std.proofs.Math.Seq.{take-add, take-append-add}
use mathlib.Core.List.{IsPrefix}
use Rattle.mx_frame.specs.Packets.{rest_of}
use Rattle.mx_session.specs.declared.job.Job.{Job}
use Rattle.mx_session.specs.Jobs.{ends, jobs_of}
use Rattle.mx_session.specs.Sessions.{SessionState, JobSeen, Waiting, first_front, next_of, released, unsent_length}
use Rattle.mx_model.specs.Bases.{Base}
use Rattle.mx_model.specs.Histories.{History, ledger_of}
use Rattle.mx_model.proofs.EachLaws.{each_of_both, each_like}
use Rattle.mx_link.specs.Answers.{AnsweredNext, AnswersMore, AreMade, GivesAnswer, Place, step_place}
use Rattle.mx_link.specs.Links.{Answer, AreInOrder, HasLink, IsMadeAfter, HasStepOf, IsNoJob, CouldLeave, jobs_left, answer_packet, answer_packets, answer_step, waiting_of}
use Rattle.mx_link.proofs.PieceLaws.{IsRemainder, remainder_more}
use Rattle.mx_link.proofs.SessionLaws.{all_told, next_ending, next_left, next_rest, passed_with}

-- ---- packets one after the other

answer_packets-append : (answers more : List Answer) → answer_packets (answers ++ more) ≡ answer_packets answers ++ answer_packets more
answer_packets-append [] more = refl
answer_packets-append (answer ∷ answers) more =
    ap (λ (l : List ℕ). answer_packet answer ++ l) (answer_packets-append answers more)
    ∙ sym (append_assoc (answer_packet answer) (answer_packets answers) (answer_packets more))

-- ---- what is let go where so many steps are durable

-- the first of these answers are let go, and no other
record AreReleased (durable : ℕ) (answers : List Answer) : Type 0 where
  count : ℕ
  within : count ≤ length answers
  apart : released durable (map waiting_of answers) ≡ (answer_packets (take count answers), map waiting_of (drop count answers))
  low : AllByRecursion (λ answer. answer.front ≤ durable) (take count answers)

-- what is let go, where the first reply is or isn't
abbrev by_first : (durable : ℕ) → Waiting → List Waiting → Bool → List ℕ × List Waiting
by_first durable first others leaves =
    if leaves then (first.reply ++ (released durable others).0, (released durable others).1) else ([], first ∷ others)

abbrev with_first : Answer → List ℕ × List Waiting → List ℕ × List Waiting
with_first answer others = (answer_packet answer ++ others.0, others.1)

are_released : (durable : ℕ) (answers : List Answer) → AreReleased durable answers
are_released durable [] = record { count = 0; within = omega arith; apart = refl; low = tt }
are_released durable (answer ∷ answers) = by_test (nat_le answer.front durable) refl (are_released durable answers)
  where
    by_test : (b : Bool) → nat_le answer.front durable ≡ b → AreReleased durable answers → AreReleased durable (answer ∷ answers)
    by_test true leaves others = record {
      count = suc others.count;
      within = omega (arith, others.within);
      apart = ap (by_first durable (waiting_of answer) (map waiting_of answers)) leaves ∙ ap (with_first answer) others.apart;
      low = (leb-true answer.front durable leaves, others.low);
    }
    by_test false waits others = record { count = 0; within = omega arith; apart = ap (by_first durable (waiting_of answer) (map waiting_of answers)) waits; low = tt }

-- all answers leave where all that they depend on is durable
pub all_leave : (durable : ℕ) (answers : List Answer) → AllByRecursion (λ answer. answer.front ≤ durable) answers
    → released durable (map waiting_of answers) ≡ (answer_packets answers, [])
all_leave durable [] low = refl
all_leave durable (answer ∷ answers) low =
    ap (by_first durable (waiting_of answer) (map waiting_of answers)) (le-leb answer.front durable low.0) ∙ ap (with_first answer) (all_leave durable answers low.1)

-- after that the first reply that waits depends on more
pub first_waits : (durable : ℕ) (waiting : List Waiting) → IfSome (first_front (released durable waiting).1) (λ front. durable < front)
first_waits durable [] = tt
first_waits durable (first ∷ others) = by_test (nat_le first.front durable) refl (first_waits durable others)
  where
    by_test : (b : Bool) → nat_le first.front durable ≡ b → IfSome (first_front (released durable others).1) (λ front. durable < front)
        → IfSome (first_front (by_first durable first others b).1) (λ front. durable < front)
    by_test true leaves rest = rest
    by_test false waits rest = leb-false first.front durable waits

-- so all answers that depend on no more were let go
first_are_free : (durable free : ℕ) (first later : List Answer) → AllByRecursion (λ answer. answer.front ≤ durable) first
    → IfSome (first_front (map waiting_of (drop free (first ++ later)))) (λ front. durable < front) → length first ≤ free
first_are_free durable free [] later low waits = omega arith
first_are_free durable zero (answer ∷ first) later low waits = absurd (omega (arith, low.0, waits))
first_are_free durable (suc free) (answer ∷ first) later low waits = omega (arith, first_are_free durable free first later low.1 waits)

-- ---- a longer history

module _ (base : Base) (more history : History) where
  made_grows : (answer : Answer) → HasStepOf base history answer → HasStepOf base (more ++ history) answer
  made_grows answer (later, earlier, is, made) =
      (more ++ later, earlier, ap (λ (h : History). more ++ h) is ∙ sym (append_assoc more later (answer_step answer ∷ earlier)), made)

  leave_grows : (answer : Answer) → CouldLeave base history answer → CouldLeave base (more ++ history) answer
  leave_grows answer (later, earlier, is, durable) =
      (more ++ later, earlier, ap (λ (h : History). more ++ h) is ∙ sym (append_assoc more later earlier), durable)

-- ---- a connection begins

-- with bytes that are left over from before, and with what may be sent already
pub link_begins : (base : Base) (history : History) (session : SessionState) → session.ended ≡ false → session.waiting ≡ []
    → HasLink base history [] session.out session.rest [] session
link_begins base history session on idle = record {
  free = 0;
  within = omega arith;
  made = tt;
  order = tt;
  jobs = ap (λ (b : Bool). cond b [] (jobs_of session.connection session.rest)) on;
  ended = ap (λ (b : Bool). cond b true (ends session.connection session.rest)) on;
  rest = λ _. refl;
  held = idle;
  out = sym (append-nil session.out);
  gate = tt;
}

-- the session of a new connection
pub link_opens : (base : Base) (history : History) (connection : ℕ) (greeting : List ℕ) (session : SessionState)
    → session ≡ record { connection = connection; rest = []; ended = false; waiting = []; out = greeting }
    → HasLink base history [] greeting [] [] session
link_opens base history connection greeting session is =
    let new : SessionState = record { connection = connection; rest = []; ended = false; waiting = []; out = greeting } in
    subst (HasLink base history [] greeting [] []) (sym is) (link_begins base history new refl refl)

-- ---- and goes on

-- an answer whose step comes after those of all others
in_order-push : (answers : List Answer) (last : Answer) → AreInOrder answers → AllByRecursion (λ (a : Answer). a.front < last.front) answers
    → AreInOrder (answers ++ last ∷ [])
in_order-push [] last order before = (tt, tt)
in_order-push (answer ∷ answers) last (after, order) (first, before) =
    (each_of_both (λ (a : Answer). answer.front < a.front) answers (last ∷ []) after (first, tt), in_order-push answers last order before)

module _ (base : Base) (history : History) (answers : List Answer) (greeting came gone : List ℕ) (session : SessionState)
    (link : HasLink base history answers greeting came gone session) where
  -- where the history does
  pub link_grows : (more : History) → HasLink base (more ++ history) answers greeting came gone session
  link_grows more = record {
    free = link.free;
    within = link.within;
    made = each_like (HasStepOf base history) (HasStepOf base (more ++ history)) (made_grows base more history) answers link.made;
    order = link.order;
    jobs = link.jobs;
    ended = link.ended;
    rest = link.rest;
    held = link.held;
    out = link.out;
    gate = each_like (CouldLeave base history) (CouldLeave base (more ++ history)) (leave_grows base more history) (take link.free answers) link.gate;
  }

  -- a piece more came
  pub link_feeds : (piece : List ℕ) (after : SessionState) → after ≡ record session { rest = if session.ended then session.rest else session.rest ++ piece }
      → HasLink base history answers greeting (came ++ piece) gone after
  link_feeds piece after is =
      let taken = map (λ answer. answer.job) answers in
      let before : IsRemainder session.connection came taken session.ended session.rest = record { jobs = link.jobs; over = link.ended; rest = link.rest } in
      let left = remainder_more session.connection came piece taken session.rest session.ended before in
      subst (HasLink base history answers greeting (came ++ piece) gone) (sym is) (record {
        free = link.free;
        within = link.within;
        made = link.made;
        order = link.order;
        jobs = left.jobs;
        ended = left.over;
        rest = left.rest;
        held = link.held;
        out = link.out;
        gate = link.gate;
      })

  -- replies were let go
  pub link_releases : (durable : ℕ) (after : SessionState) → durable ≤ (ledger_of base history).durable
      → after ≡ record session { waiting = (released durable session.waiting).1; out = session.out ++ (released durable session.waiting).0 }
      → HasLink base history answers greeting came gone after
  link_releases durable after known is =
      let held = drop link.free answers in
      let free = are_released durable held in
      let leaving = take free.count held in
      let apart = ap (released durable) link.held ∙ free.apart in
      let leave = each_like (λ answer. answer.front ≤ durable) (CouldLeave base history) (λ answer low. ([], history, refl, omega (arith, low, known)))
      leaving free.low in
      let all : take (link.free + free.count) answers ≡ take link.free answers ++ leaving = take-add link.free free.count answers in
      subst (HasLink base history answers greeting came gone) (sym is) (record {
        free = link.free + free.count;
        within = omega (arith, link.within, free.within, length-drop link.free answers);
        made = link.made;
        order = link.order;
        jobs = link.jobs;
        ended = link.ended;
        rest = link.rest;
        held = ap (λ (x : List ℕ × List Waiting). x.1) apart ∙ ap (map waiting_of) (drop-drop free.count link.free answers);
        out = ap (λ (x : List ℕ × List Waiting). gone ++ (session.out ++ x.0)) apart
            ∙ sym (append_assoc gone session.out (answer_packets leaving))
            ∙ ap (λ (l : List ℕ). l ++ answer_packets leaving) link.out
            ∙ append_assoc greeting (answer_packets (take link.free answers)) (answer_packets leaving)
            ∙ ap (λ (l : List ℕ). greeting ++ l) (sym (answer_packets-append (take link.free answers) leaving) ∙ ap answer_packets (sym all));
        gate = subst (AllByRecursion (CouldLeave base history)) (sym all) (each_of_both (CouldLeave base history) (take link.free answers) leaving link.gate leave);
      })

  -- bytes were sent
  pub link_sends : (count : ℕ) (after : SessionState) → after ≡ record session { out = drop count session.out }
      → HasLink base history answers greeting came (gone ++ take count session.out) after
  link_sends count after is =
      subst (HasLink base history answers greeting came (gone ++ take count session.out)) (sym is) (record {
        free = link.free;
        within = link.within;
        made = link.made;
        order = link.order;
        jobs = link.jobs;
        ended = link.ended;
        rest = link.rest;
        held = link.held;
        out = append_assoc gone (take count session.out) (drop count session.out)
            ∙ ap (λ (l : List ℕ). gone ++ l) (take-append-drop count session.out)
            ∙ link.out;
        gate = link.gate;
      })

  -- the next job was answered, perhaps after steps of others
  pub link_answers : (others : History) (answer : Answer) (job : Job) (rest : List ℕ) (last : Bool) (after : SessionState)
      → next_of session ≡ JobSeen job rest last → answer.job ≡ job → IsMadeAfter base (others ++ history) answer
      → after ≡ passed_with session rest last (session.waiting ++ waiting_of answer ∷ [])
      → HasLink base (answer_step answer ∷ (others ++ history)) (answers ++ answer ∷ []) greeting came gone after
  link_answers others answer job rest last after seen asked made is =
      let now : History = answer_step answer ∷ (others ++ history) in
      let waiting = session.waiting ++ waiting_of answer ∷ [] in
      let kept : HasLink base now answers greeting came gone session = link_grows (answer_step answer ∷ others) in
      let first : take kept.free (answers ++ answer ∷ []) ≡ take kept.free answers = take-append-le kept.free answers (answer ∷ []) kept.within in
      let jobs = map (λ (a : Answer). a.job) answers in
      let whose = ap (λ (s : SessionState). s.connection) is in
      record {
        free = kept.free;
        within = omega (arith, kept.within, length_push answers answer);
        made = each_of_both (HasStepOf base now) answers (answer ∷ []) kept.made (([], others ++ history, refl, made), tt);
        order = in_order-push answers answer link.order
            (each_like (HasStepOf base history) (λ (a : Answer). a.front < answer.front)
            (λ a (more, earlier, at, is). omega (arith, is.front, ap length at, length-append more (answer_step a ∷ earlier), made.front, length-append others history))
            answers link.made);
        jobs = ap (λ (l : List Job). l ++ jobs_left after) (map_push (λ (a : Answer). a.job) answers answer)
            ∙ append_assoc jobs (answer.job ∷ []) (jobs_left after)
            ∙ ap (λ (j : Job). jobs ++ j ∷ jobs_left after) asked
            ∙ ap (λ (l : List Job). jobs ++ l) (sym (next_left session after job rest last waiting seen is))
            ∙ kept.jobs
            ∙ ap (λ (connection : ℕ). jobs_of connection came) (sym whose);
        ended = next_ending session after job rest last waiting seen is ∙ kept.ended ∙ ap (λ (connection : ℕ). ends connection came) (sym whose);
        rest = λ on. let goes_on = next_rest session after job rest last waiting seen is on in goes_on.1 ∙ kept.rest goes_on.0;
        held = ap (λ (s : SessionState). s.waiting) is
            ∙ ap (λ (l : List Waiting). l ++ waiting_of answer ∷ []) kept.held
            ∙ sym (map_push waiting_of (drop kept.free answers) answer)
            ∙ ap (map waiting_of) (sym (drop-append-le kept.free answers (answer ∷ []) kept.within));
        out = ap (λ (s : SessionState). gone ++ s.out) is ∙ kept.out ∙ ap (λ (l : List Answer). greeting ++ answer_packets l) (sym first);
        gate = subst (AllByRecursion (CouldLeave base now)) (sym first) kept.gate;
      }

-- ---- what the other side gets

-- what is gone or may be sent, of what is due
pub record LinkTells (answers : List Answer) (greeting came gone : List ℕ) (session : SessionState) : Type 0 where
  -- the greeting and the packets of answers, in order, and nothing else
  pub sent : IsPrefix (gone ++ session.out) (greeting ++ answer_packets answers)
  -- the answers are those to the first of the jobs that came
  pub asked : IsPrefix (map (λ answer. answer.job) answers) (jobs_of session.connection came)
  -- Where so many steps are durable, and all was let go that this allows: the packets of the first answers that depend on no more
  -- steps are among it.
  pub due : (durable : ℕ) → IfSome (first_front session.waiting) (λ front. durable < front) → (first later : List Answer) → answers ≡ first ++ later
      → AllByRecursion (λ answer. answer.front ≤ durable) first → IsPrefix (greeting ++ answer_packets first) (gone ++ session.out)

packets_length : (answers : List Answer) → length (answer_packets answers) ≡ sum_by (λ (w : Waiting). length w.reply) (map waiting_of answers)
packets_length [] = refl
packets_length (answer ∷ answers) =
    length-append (answer_packet answer) (answer_packets answers)
    ∙ ap (λ (n : ℕ). length (answer_packet answer) + n) (packets_length answers)
    ∙ sym (sum_by-cons (λ (w : Waiting). length w.reply) (waiting_of answer) (map waiting_of answers))

-- all jobs of what came were answered, the connection ended where they end it, and what is left is no whole packet
pub record AllAnswered (answers : List Answer) (came : List ℕ) (session : SessionState) : Type 0 where
  pub jobs : map (λ answer. answer.job) answers ≡ jobs_of session.connection came
  pub ended : session.ended ≡ ends session.connection came
  pub rest : session.ended ≡ false → session.rest ≡ rest_of came

module _ (base : Base) (history : History) (answers : List Answer) (greeting came gone : List ℕ) (session : SessionState)
    (link : HasLink base history answers greeting came gone session) where
  due_packets : (durable : ℕ) → IfSome (first_front session.waiting) (λ front. durable < front) → (first later : List Answer) → answers ≡ first ++ later
      → AllByRecursion (λ answer. answer.front ≤ durable) first → IsPrefix (greeting ++ answer_packets first) (gone ++ session.out)
  due_packets durable waits first later parts low =
      let held : session.waiting ≡ map waiting_of (drop link.free (first ++ later)) =
      link.held ∙ ap (λ (l : List Answer). map waiting_of (drop link.free l)) parts in
      let enough = first_are_free durable link.free first later low (subst (λ (w : List Waiting). IfSome (first_front w) (λ front. durable < front)) held waits) in
      let others = take (link.free - length first) later in
      let count : link.free ≡ length first + (link.free - length first) = omega (arith, enough) in
      let let_go : take link.free answers ≡ first ++ others =
      ap (take link.free) parts
      ∙ ap (λ (n : ℕ). take n (first ++ later)) count
      ∙ take-append-add first later (link.free - length first) in (
        answer_packets others,
        append_assoc greeting (answer_packets first) (answer_packets others)
            ∙ ap (λ (l : List ℕ). greeting ++ l) (sym (answer_packets-append first others) ∙ ap answer_packets (sym let_go))
            ∙ sym link.out,
      )

  pub link_tells : LinkTells answers greeting came gone session
  link_tells = record {
    sent = (
      answer_packets (drop link.free answers),
      ap (λ (l : List ℕ). l ++ answer_packets (drop link.free answers)) link.out
          ∙ append_assoc greeting (answer_packets (take link.free answers)) (answer_packets (drop link.free answers))
          ∙ ap (λ (l : List ℕ). greeting ++ l)
          (sym (answer_packets-append (take link.free answers) (drop link.free answers)) ∙ ap answer_packets (take-append-drop link.free answers)),
    );
    asked = (jobs_left session, link.jobs);
    due = due_packets;
  }

  -- how many bytes are due: those that are gone, and those that wait to be sent
  pub due_length : length (greeting ++ answer_packets answers) ≡ length gone + unsent_length session.out session.waiting
  due_length =
      let first = take link.free answers in
      let others = drop link.free answers in
      let apart : answer_packets answers ≡ answer_packets first ++ answer_packets others =
      ap answer_packets (sym (take-append-drop link.free answers)) ∙ answer_packets-append first others in
      let held : sum_by (λ (w : Waiting). length w.reply) session.waiting ≡ length (answer_packets others) =
      ap (sum_by (λ (w : Waiting). length w.reply)) link.held ∙ sym (packets_length others) in
      omega (
        arith,
        length-append greeting (answer_packets answers),
        ap length apart,
        length-append (answer_packets first) (answer_packets others),
        held,
        ap length link.out,
        length-append gone session.out,
        length-append greeting (answer_packets first),
      )

  -- where no further job is told
  pub none_left : IsNoJob (next_of session) → AllAnswered answers came session
  none_left none =
      let done = all_told session none in
      let jobs = map (λ (answer : Answer). answer.job) answers in
      record {
        jobs = sym (append-nil jobs) ∙ ap (λ (l : List Job). jobs ++ l) (sym done.jobs) ∙ link.jobs;
        ended = sym done.ended ∙ link.ended;
        rest = λ on. sym (done.rest on) ∙ link.rest on;
      }

-- ---- answers one after the other

-- no answer's number of steps is above that of the history
pub fronts_within : (base : Base) (between : History → Type 0) (earlier : History) (answers : List Answer) (more : History) → AreMade base between earlier answers more
    → AllByRecursion (λ answer. answer.front ≤ length (more ++ earlier)) answers
fronts_within base between earlier [] more made = tt
fronts_within base between earlier (answer ∷ answers) more (others, later, among, made, is, after) =
    let before = answer_step answer ∷ (others ++ earlier) in
    let same : later ++ before ≡ more ++ earlier =
    sym (append_assoc later (answer_step answer ∷ others) earlier) ∙ ap (λ (h : History). h ++ earlier) (sym is) in
    subst (λ (h : History). AllByRecursion (λ (a : Answer). a.front ≤ length h) (answer ∷ answers)) same (
      omega (arith, made.front, length-append later before),
      fronts_within base between before answers later after,
    )

-- one answer more
made_more : (base : Base) (between : History → Type 0) (earlier : History) (answers : List Answer) (more others : History) (answer : Answer)
    → AreMade base between earlier answers more → between others → IsMadeAfter base (others ++ (more ++ earlier)) answer
    → AreMade base between earlier (answers ++ answer ∷ []) (answer_step answer ∷ (others ++ more))
made_more base between earlier [] more others answer none among made = (
  others,
  [],
  among,
  subst (λ (h : History). IsMadeAfter base (others ++ (h ++ earlier)) answer) none made,
  ap (λ (h : History). answer_step answer ∷ (others ++ h)) none ∙ ap (λ (h : History). answer_step answer ∷ h) (append-nil others),
  refl,
)
made_more base between earlier (first ∷ answers) more others answer (before, later, allowed, first_made, is, after) among made =
    let step = answer_step first ∷ before in
    let same : more ++ earlier ≡ later ++ (step ++ earlier) = ap (λ (h : History). h ++ earlier) is ∙ append_assoc later step earlier in (
      before,
      answer_step answer ∷ (others ++ later),
      allowed,
      first_made,
      ap (λ (h : History). answer_step answer ∷ (others ++ h)) is ∙ ap (λ (h : History). answer_step answer ∷ h) (sym (append_assoc others later step)),
      made_more base between (step ++ earlier) answers later others answer after among (subst (λ (h : History). IsMadeAfter base (others ++ h) answer) same made),
    )

-- no job was answered yet
pub answers_none : (after : Place) (between : History → Type 0) (base : Base) (history : History) (mine : List ℕ) (answers : List Answer)
    (greeting came gone : List ℕ) (session : SessionState) → after base history mine → HasLink base history answers greeting came gone session
    → AnswersMore after between base history mine answers greeting came gone session session
answers_none after between base history mine answers greeting came gone session come link = record {
  made = [];
  more = [];
  are = refl;
  at = subst (after base history) (sym (append-nil mine)) come;
  link = subst (λ (l : List Answer). HasLink base history l greeting came gone session) (sym (append-nil answers)) link;
  whose = refl;
  held = sym (append-nil session.waiting);
  sends = refl;
}

-- the reply of an answer waits
waits_so : (answer : Answer) (front : ℕ) (packet : List ℕ) → answer.front ≡ front → packet ≡ answer_packet answer
    → ◌≡◌ {A = Waiting} (record { front = front; reply = packet }) (waiting_of answer)
waits_so answer front packet counted spelled = λ i. record { front = sym counted i; reply = spelled i }

module _ (before after : Place) (between : History → Type 0) (base : Base) (history : History) (mine : List ℕ) (answers : List Answer)
    (greeting came gone : List ℕ) (old now : SessionState) (so_far : AnswersMore before between base history mine answers greeting came gone old now) where
  -- who answers has come to the same history
  pub answers_same : after base (so_far.more ++ history) (mine ++ map step_place so_far.made)
      → AnswersMore after between base history mine answers greeting came gone old now
  answers_same come = record {
    made = so_far.made;
    more = so_far.more;
    are = so_far.are;
    at = come;
    link = so_far.link;
    whose = so_far.whose;
    held = so_far.held;
    sends = so_far.sends;
  }

  -- one job more was answered
  pub answers_more : (job : Job) (rest : List ℕ) (last : Bool) (front : ℕ) (packet : List ℕ) (next : SessionState) → next_of now ≡ JobSeen job rest last
      → GivesAnswer after between base (so_far.more ++ history) (mine ++ map step_place so_far.made) job front packet
      → next ≡ passed_with now rest last (now.waiting ++ record { front = front; reply = packet } ∷ [])
      → AnswersMore after between base history mine answers greeting came gone old next
  answers_more job rest last front packet next seen given is =
      let answer = given.answer in
      let others = given.others in
      let made = so_far.made in
      let more : History = answer_step answer ∷ (others ++ so_far.more) in
      let pushed : next ≡ passed_with now rest last (now.waiting ++ waiting_of answer ∷ []) =
      is ∙ ap (λ (w : Waiting). passed_with now rest last (now.waiting ++ w ∷ [])) (waits_so answer front packet given.counted given.spelled) in
      let same : answer_step answer ∷ (others ++ (so_far.more ++ history)) ≡ more ++ history =
      ap (λ (h : History). answer_step answer ∷ h) (sym (append_assoc others so_far.more history)) in
      let places : (mine ++ map step_place made) ++ step_place answer ∷ [] ≡ mine ++ map step_place (made ++ answer ∷ []) =
      append_assoc mine (map step_place made) (step_place answer ∷ []) ∙ ap (λ (l : List ℕ). mine ++ l) (sym (map_push step_place made answer)) in
      record {
        made = made ++ answer ∷ [];
        more = more;
        are = made_more base between history made so_far.more others answer so_far.are given.among given.made;
        at = subst₂ (after base) same places given.at;
        link = subst₂ (λ (h : History) (l : List Answer). HasLink base h l greeting came gone next) same (append_assoc answers made (answer ∷ []))
            (link_answers base (so_far.more ++ history) (answers ++ made) greeting came gone now so_far.link others answer job rest last next seen given.asked given.made pushed);
        whose = ap (λ (s : SessionState). s.connection) is ∙ so_far.whose;
        held = ap (λ (s : SessionState). s.waiting) pushed
            ∙ ap (λ (l : List Waiting). l ++ waiting_of answer ∷ []) so_far.held
            ∙ append_assoc old.waiting (map waiting_of made) (waiting_of answer ∷ [])
            ∙ ap (λ (l : List Waiting). old.waiting ++ l) (sym (map_push waiting_of made answer));
        sends = ap (λ (s : SessionState). s.out) is ∙ so_far.sends;
      }

  -- who was to answer one job more stopped before its step or after it
  pub answers_stopped : after base (so_far.more ++ history) (mine ++ map step_place so_far.made)
      ⊎ AnsweredNext after between base (so_far.more ++ history) (mine ++ map step_place so_far.made) now
      → (other : SessionState) × AnswersMore after between base history mine answers greeting came gone old other
  answers_stopped (inl come) = (now, answers_same come)
  answers_stopped (inr answered) =
      let other = passed_with now answered.rest answered.ends (now.waiting ++ record { front = answered.front; reply = answered.packet } ∷ []) in
      (other, answers_more answered.job answered.rest answered.ends answered.front answered.packet other answered.next answered.given refl)
