-- What the jobs of a unit make of a history, which goes on by their requests alone, and of their session.
use Rattle.std.proofs.Common.{◌≡◌, ◌≢◌, ℕ, ◌+◌, ◌≤◌, Bool, true, false, List, [], ◌∷◌, ◌++◌, length, map, refl, sym, ap, ◌∙◌, subst, arith}
use Rattle.std.specs.Prelude.{Option, Some, None, is_some, if◌then◌else◌}
use mathlib.Core.Bool.{true≢false}
use Rattle.std.specs.List.{AllByRecursion}
use Rattle.std.proofs.lemmas.List.{append-nil, append_assoc, length-map}
use mathlib.Core.List.{IsPrefix}
use Rattle.mx_outside.specs.Disks.{Disk}
use Rattle.mx_row.specs.declared.tx.Tx.{Tx}
use Rattle.mx_session.specs.declared.job.Job.{Job}
use Rattle.mx_session.specs.Jobs.{ends, jobs_of}
use Rattle.mx_session.specs.Sessions.{SessionState, Waiting, first_front, next_of, released}
use Rattle.mx_model.specs.Bases.{Base}
use Rattle.mx_model.specs.Histories.{Asked, Confirmed, History, IsLegal, Left, Looked, Took, ledger_of}
use Rattle.mx_model.proofs.HistoryLaws.{durable-asked, steps_of_ledger}
use Rattle.mx_serial.specs.Order.{ConfirmStep, RequestStep, Step, TakeStep, order_in}
use Rattle.mx_serial.specs.Replies.{Told, told_now}
use Rattle.mx_serial.specs.ReplyStream.{packets_of_replies}
use Rattle.mx_serial.proofs.ToldLaws.{told_now-asked}
use Rattle.mx_engine.specs.declared.engine.Engine.{Engine}
use Rattle.mx_engine.specs.Standing.{EngineStandsFor}
use Rattle.mx_journal.specs.declared.journal.Journal.{Journal}
use Rattle.mx_directory.specs.Survival.{Lasts}
use Rattle.mx_store.specs.Stores.{StepsSurvive, TakesNone}
use Rattle.mx_store.proofs.StoreLaws.{durable_within, has_still, lasts_longer, lasts_none}
use Rattle.mx_link.specs.Asks.{sync_of}
use Rattle.mx_link.specs.Links.{Answer, HasLink, IsNoJob, answer_packet, answer_packets, answer_step, waiting_of}
use Rattle.mx_link.specs.Answers.{AnswersMore, AreMade}
use Rattle.mx_link.proofs.LinkLaws.{AllAnswered, all_leave, fronts_within, link_feeds, none_left}
use Rattle.mx_node.specs.Connections.{AreOf}
use Rattle.mx_node.specs.Interrupted.{IsInterrupted}
use Rattle.mx_node.specs.Order.{requests_of, written_out}
use Rattle.mx_node.specs.Ready.{AnswersJobs, Behind, Ready, TakenAll}
use Rattle.mx_node.specs.Answering.{AnswersBytes, let_leave}
use Rattle.mx_node.proofs.LastingLaws.{Only, breaks_in}
use Rattle.mx_node.proofs.OrderLaws.{order_in-append}

-- nobody else made a step
abbrev pub NoOthers : History → Type 0
NoOthers others = others ≡ []

abbrev pub job_of : Answer → Job
job_of answer = answer.job

abbrev told_of : Answer → Told
told_of answer = answer.told

-- ---- answers that nobody else came between

takes_none-append : (more history : History) → TakesNone more → TakesNone history → TakesNone (more ++ history)
takes_none-append [] history none others = others
takes_none-append (Asked name ask reply ∷ more) history none others = takes_none-append more history none others
takes_none-append (Left connection ∷ more) history none others = takes_none-append more history none others
takes_none-append (Took transactions upto ∷ more) history none others = absurd none
takes_none-append (Confirmed upto ∷ more) history none others = absurd none
takes_none-append (Looked ∷ more) history none others = takes_none-append more history none others

-- the history goes on by an answer's step, and then by others
goes_on : (answer : Answer) (earlier others later more : History) → NoOthers others → more ≡ later ++ answer_step answer ∷ others
    → more ++ earlier ≡ later ++ (answer_step answer ∷ (others ++ earlier))
goes_on answer earlier others later more none is =
    ap (λ (h : History). h ++ earlier) is ∙ append_assoc later (answer_step answer ∷ others) earlier

module _ (base : Base) where
  pub answers_order : (earlier : History) (answers : List Answer) (more : History) → AreMade base NoOthers earlier answers more
      → order_in more ≡ requests_of (map job_of answers)
  answers_order earlier [] more is = ap order_in is
  answers_order earlier (answer ∷ answers) more (others, later, none, made, is, rest) =
      ap order_in (is ∙ ap (λ (h : History). later ++ answer_step answer ∷ h) none)
      ∙ order_in-append later (answer_step answer ∷ [])
      ∙ ap (λ (l : List Step). RequestStep answer.job.name answer.job.ask ∷ l) (answers_order (answer_step answer ∷ (others ++ earlier)) answers later rest)

  pub answers_take_none : (earlier : History) (answers : List Answer) (more : History) → AreMade base NoOthers earlier answers more → TakesNone more
  answers_take_none earlier [] more is = subst TakesNone (sym is) tt
  answers_take_none earlier (answer ∷ answers) more (others, later, none, made, is, rest) =
      subst TakesNone (sym (is ∙ ap (λ (h : History). later ++ answer_step answer ∷ h) none))
      (takes_none-append later (answer_step answer ∷ []) (answers_take_none (answer_step answer ∷ (others ++ earlier)) answers later rest) tt)

  -- none of them is confirmed
  pub answers_confirm_none : (earlier : History) (answers : List Answer) (more : History) → AreMade base NoOthers earlier answers more
      → (ledger_of base (more ++ earlier)).durable ≡ (ledger_of base earlier).durable
  answers_confirm_none earlier [] more is = ap (λ (h : History). (ledger_of base (h ++ earlier)).durable) is
  answers_confirm_none earlier (answer ∷ answers) more (others, later, none, made, is, rest) =
      ap (λ (h : History). (ledger_of base h).durable) (goes_on answer earlier others later more none is)
      ∙ answers_confirm_none (answer_step answer ∷ (others ++ earlier)) answers later rest
      ∙ durable-asked (ledger_of base (others ++ earlier)) answer.job.name answer.job.ask answer.told.reply
      ∙ ap (λ (h : History). (ledger_of base (h ++ earlier)).durable) none

  -- their connection was told their replies
  pub answers_told : (on : ℕ) (earlier : History) (answers : List Answer) (more : History) → AreMade base NoOthers earlier answers more
      → AreOf on (map job_of answers) → told_now base on (more ++ earlier) ≡ told_now base on earlier ++ map told_of answers
  answers_told on earlier [] more is are = ap (λ (h : History). told_now base on (h ++ earlier)) is ∙ sym (append-nil (told_now base on earlier))
  answers_told on earlier (answer ∷ answers) more (others, later, none, made, is, rest) (own, are) =
      let before = others ++ earlier in
      let replies = map told_of answers in
      ap (told_now base on) (goes_on answer earlier others later more none is)
      ∙ answers_told on (answer_step answer ∷ before) answers later rest are
      ∙ ap (λ (l : List Told). l ++ replies)
      (told_now-asked base on answer.job.name answer.job.ask answer.told.reply before own
      ∙ ap (λ (t : Told). told_now base on before ++ t ∷ []) (sym made.told))
      ∙ append_assoc (told_now base on before) (answer.told ∷ []) replies
      ∙ ap (λ (h : History). told_now base on (h ++ earlier) ++ answer.told ∷ replies) none

packets_told : (answers : List Answer) → answer_packets answers ≡ packets_of_replies (map sync_of (map job_of answers)) (map told_of answers)
packets_told [] = refl
packets_told (answer ∷ answers) = ap (λ (l : List ℕ). answer_packet answer ++ l) (packets_told answers)

-- ---- the jobs of a unit

-- These jobs of a session were answered, in order, and nothing else was done. Their replies wait.
pub record Came (base : Base) (earlier : History) (engine : Engine) (jobs : List Job) (before after : SessionState) : Type 0 where
  pub answers : List Answer
  pub more : History
  pub are : AreMade base NoOthers earlier answers more
  pub stands : EngineStandsFor engine base (more ++ earlier)
  pub asked : map job_of answers ≡ jobs
  pub held : after.waiting ≡ map waiting_of answers
  pub sends : after.out ≡ before.out

-- what came after the end of a connection
pub over_link : (base : Base) (history : History) (answers : List Answer) (greeting came gone : List ℕ) (session : SessionState) (bytes : List ℕ)
    → session.ended ≡ true → HasLink base history answers greeting came gone session → HasLink base history answers greeting (came ++ bytes) gone session
over_link base history answers greeting came gone session bytes over link =
    link_feeds base history answers greeting came gone session link bytes session
    (λ i. record session { rest = ap (λ (b : Bool). if b then session.rest else session.rest ++ bytes) (sym over) i })

-- the answers of a session that got more bytes first
pub fed_answers : (base : Base) (history : History) (answers : List Answer) (greeting came gone : List ℕ) (engine : Engine)
    (session fed later : SessionState) (bytes : List ℕ) → fed ≡ record session { rest = if session.ended then session.rest else session.rest ++ bytes }
    → AnswersBytes engine base history answers greeting came gone fed later → AnswersBytes engine base history answers greeting came gone session later
fed_answers base history answers greeting came gone engine session fed later bytes feeds answered = record {
  made = answered.made;
  more = answered.more;
  are = answered.are;
  at = answered.at;
  link = answered.link;
  whose = answered.whose ∙ ap (λ (s : SessionState). s.connection) feeds;
  held = answered.held ∙ ap (λ (s : SessionState). s.waiting ++ map waiting_of answered.made) feeds;
  sends = answered.sends ∙ ap (λ (s : SessionState). s.out) feeds;
}

-- where no job is left of what came
module _ (base : Base) (earlier : History) (engine : Engine) (session later : SessionState) (bytes : List ℕ) (goes_on : session.ended ≡ false)
    (idle : session.waiting ≡ []) (answered : AnswersBytes engine base earlier [] session.out (session.rest ++ bytes) [] session later)
    (none : IsNoJob (next_of later)) where
  left : AllAnswered answered.made (session.rest ++ bytes) later
  left = none_left base (answered.more ++ earlier) answered.made session.out (session.rest ++ bytes) [] later answered.link none

  pub came : Came base earlier engine (jobs_of session.connection (session.rest ++ bytes)) session later
  came = record {
    answers = answered.made;
    more = answered.more;
    are = answered.are;
    stands = answered.at;
    asked = left.jobs ∙ ap (λ (n : ℕ). jobs_of n (session.rest ++ bytes)) answered.whose;
    held = answered.held ∙ ap (λ (l : List Waiting). l ++ map waiting_of answered.made) idle;
    sends = answered.sends;
  }

  pub ended_so : later.ended ≡ ends session.connection (session.rest ++ bytes)
  ended_so = left.ended ∙ ap (λ (n : ℕ). ends n (session.rest ++ bytes)) answered.whose

  -- the session then, whatever may leave
  pub all_taken : (durable : ℕ) → (let_leave durable later).waiting ≡ [] → TakenAll (record session { rest = session.rest ++ bytes }) (let_leave durable later)
  all_taken durable nothing = record {
    whose = answered.whose;
    idle = nothing;
    ended = ended_so;
    rest = λ on. left.rest on;
  }

-- nothing is let go where nothing waits
pub quiet_session : (session : SessionState) (durable : ℕ) → session.waiting ≡ [] → let_leave durable session ≡ session
quiet_session session durable none =
    let held : released durable session.waiting ≡ ([], []) = ap (released durable) none in
    λ i. record session {
      waiting = (ap (λ (x : List ℕ × List Waiting). x.1) held ∙ sym none) i;
      out = (ap (λ (x : List ℕ × List Waiting). session.out ++ x.0) held ∙ append-nil session.out) i;
    }

none_there : (front : Option ℕ) → is_some front ≡ false → front ≡ None
none_there None none = refl
none_there (Some front) none = absurd cc

none_waits : (answers : List Answer) → first_front (map waiting_of answers) ≡ None → answers ≡ []
none_waits [] none = refl
none_waits (answer ∷ answers) none = absurd cc

-- the requests come first
requests_first : (jobs : List Job) → IsPrefix (requests_of jobs) (written_out jobs)
requests_first [] = ([], refl)
requests_first (job ∷ jobs) = (TakeStep ∷ ConfirmStep ∷ [], refl)

some_written_out : (jobs : List Job) → jobs ≢ [] → written_out jobs ≡ requests_of jobs ++ TakeStep ∷ ConfirmStep ∷ []
some_written_out [] some = absurd (some refl)
some_written_out (job ∷ jobs) some = refl

all_within : (answers : List Answer) (few many : ℕ) → few ≤ many → AllByRecursion (λ (answer : Answer). answer.front ≤ few) answers
    → AllByRecursion (λ (answer : Answer). answer.front ≤ many) answers
all_within [] few many within all = tt
all_within (answer ∷ answers) few many within (is, all) = (omega (arith, within, is), all_within answers few many within all)

module _ (base : Base) (earlier : History) (engine : Engine) (jobs : List Job) (before after : SessionState) (c : Came base earlier engine jobs before after) where
  pub came_order : order_in (c.more ++ earlier) ≡ order_in earlier ++ requests_of jobs
  came_order =
      order_in-append c.more earlier ∙ ap (λ (l : List Step). order_in earlier ++ l) (answers_order base earlier c.answers c.more c.are ∙ ap requests_of c.asked)

  pub came_behind : (old : Engine) (journal : Journal) (states : Option (List Disk)) → Behind base earlier old journal states
      → Behind base (c.more ++ earlier) engine journal states
  came_behind old journal states behind = record {
    stands = c.stands;
    has = has_still base c.more earlier journal states c.stands.legal (answers_take_none base earlier c.answers c.more c.are) behind.has;
  }

  -- what they committed couldn't be written out
  pub came_breaks : (old new : Option (List Disk)) → IsLegal base earlier → StepsSurvive base earlier earlier old → Lasts base (c.more ++ earlier) old new
      → IsInterrupted base earlier (Only (order_in earlier ++ written_out jobs)) old new
  came_breaks old new legal keep lasts =
      let (rest, is) = requests_first jobs in
      breaks_in base c.more earlier (order_in earlier ++ written_out jobs) old new c.stands.legal (
        rest,
        ap (λ (l : List Step). l ++ rest) came_order ∙ append_assoc (order_in earlier) (requests_of jobs) rest
            ∙ ap (λ (l : List Step). order_in earlier ++ l) is,
      )
      (subst (λ (n : ℕ). n ≤ length earlier) (sym (answers_confirm_none base earlier c.answers c.more c.are)) (durable_within base earlier legal)) lasts keep

  -- no reply waits, where there was no job
  module _ (none : is_some (first_front after.waiting) ≡ false) where
    no_answers : c.answers ≡ []
    no_answers = none_waits c.answers (ap first_front (sym c.held) ∙ none_there (first_front after.waiting) none)

    no_more : c.more ≡ []
    no_more = subst (λ (l : List Answer). AreMade base NoOthers earlier l c.more) no_answers c.are

    no_jobs : jobs ≡ []
    no_jobs = sym c.asked ∙ ap (map job_of) no_answers

    pub nothing_waits : after.waiting ≡ []
    nothing_waits = c.held ∙ ap (map waiting_of) no_answers

    pub ready_still : (old : Engine) (journal : Journal) (states : Option (List Disk)) → Ready base earlier old journal states
        → Ready base earlier engine journal states
    ready_still old journal states ready = record {
      behind = record { stands = subst (λ (h : History). EngineStandsFor engine base (h ++ earlier)) no_more c.stands; has = ready.behind.has };
      taken = ready.taken;
      gate = ready.gate;
    }

    -- so nothing is let go
    pub none_leaves : (durable : ℕ) → let_leave durable after ≡ after
    none_leaves durable = quiet_session after durable nothing_waits

    pub answered_nothing : (old : Engine) (journal : Journal) (states : Option (List Disk)) → Ready base earlier old journal states
        → AnswersJobs base earlier engine journal states states jobs before.out after.out
    answered_nothing old journal states ready = record {
      history = earlier;
      replies = [];
      ready = ready_still old journal states ready;
      since = ([], refl);
      lasts = lasts_none base earlier states;
      order = sym (append-nil (order_in earlier)) ∙ ap (λ (l : List Job). order_in earlier ++ written_out l) (sym no_jobs);
      told = λ connection are. sym (append-nil (told_now base connection earlier));
      each = sym (ap length no_jobs);
      output = c.sends ∙ sym (append-nil before.out) ∙ ap (λ (l : List Job). before.out ++ packets_of_replies (map sync_of l) []) (sym no_jobs);
    }

  -- what they committed was written out, and their replies left
  module _ (written : Engine) (journal : Journal) (old new : Option (List Disk)) (txs : List Tx) (upto durable : ℕ)
      (some : is_some (first_front after.waiting) ≡ true)
      (ready : Ready base (Confirmed upto ∷ Took txs upto ∷ (c.more ++ earlier)) written journal new) (lasts : Lasts base (c.more ++ earlier) old new)
      (is : durable ≡ (ledger_of base (Confirmed upto ∷ Took txs upto ∷ (c.more ++ earlier))).durable) where
    abbrev whole : History
    whole = Confirmed upto ∷ Took txs upto ∷ (c.more ++ earlier)

    all_durable : length (c.more ++ earlier) ≤ durable
    all_durable = omega (arith, is, ready.behind.stands.legal.0.1.1, steps_of_ledger base (c.more ++ earlier))

    all_left : released durable after.waiting ≡ (answer_packets c.answers, [])
    all_left =
        ap (released durable) c.held
        ∙ all_leave durable c.answers
        (all_within c.answers (length (c.more ++ earlier)) durable all_durable (fronts_within base NoOthers earlier c.answers c.more c.are))

    some_jobs : jobs ≢ []
    some_jobs none =
        let waits : is_some (first_front after.waiting) ≡ false =
        ap (λ (l : List Waiting). is_some (first_front l)) (c.held ∙ ap (map waiting_of) (by_answers c.answers (c.asked ∙ none))) in
        true≢false (sym some ∙ waits)
      where
        by_answers : (answers : List Answer) → map job_of answers ≡ [] → answers ≡ []
        by_answers [] nothing = refl
        by_answers (answer ∷ answers) nothing = absurd cc

    pub nothing_held : (released durable after.waiting).1 ≡ []
    nothing_held = ap (λ (x : List ℕ × List Waiting). x.1) all_left

    pub answered_all : AnswersJobs base earlier written journal old new jobs before.out (let_leave durable after).out
    answered_all =
        let replies = map told_of c.answers in record {
          history = whole;
          replies = replies;
          ready = ready;
          since = (Confirmed upto ∷ Took txs upto ∷ c.more, refl);
          lasts = lasts_longer base (Confirmed upto ∷ Took txs upto ∷ []) (c.more ++ earlier) old new lasts;
          order = append_assoc (order_in (c.more ++ earlier)) (TakeStep ∷ []) (ConfirmStep ∷ [])
              ∙ ap (λ (l : List Step). l ++ TakeStep ∷ ConfirmStep ∷ []) came_order
              ∙ append_assoc (order_in earlier) (requests_of jobs) (TakeStep ∷ ConfirmStep ∷ [])
              ∙ ap (λ (l : List Step). order_in earlier ++ l) (sym (some_written_out jobs some_jobs));
          told = λ connection are. answers_told base connection earlier c.answers c.more c.are (subst (AreOf connection) (sym c.asked) are);
          each = length-map c.answers told_of ∙ sym (length-map c.answers job_of) ∙ ap length c.asked;
          output = ap (λ (l : List ℕ). l ++ (released durable after.waiting).0) c.sends
              ∙ ap (λ (x : List ℕ × List Waiting). before.out ++ x.0) all_left
              ∙ ap (λ (l : List ℕ). before.out ++ l) (packets_told c.answers)
              ∙ ap (λ (l : List Job). before.out ++ packets_of_replies (map sync_of l) replies) c.asked;
        }
