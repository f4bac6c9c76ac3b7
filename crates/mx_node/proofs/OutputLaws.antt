-- What a connection is sent for one unit more.
use Rattle.std.proofs.Common.{◌≡◌, ℕ, Bool, true, false, cond, List, [], ◌∷◌, ◌++◌, length, map, refl, sym, ap, ◌∙◌, arith, length-append}
use Rattle.std.specs.Prelude.{if◌then◌else◌}
use Rattle.std.proofs.lemmas.List.{append-nil, append_assoc, length-map, map-append}
use Rattle.mx_frame.specs.Packets.{rest_of}
use Rattle.mx_session.specs.declared.job.Job.{Job}
use Rattle.mx_session.specs.Jobs.{jobs_of, ends}
use Rattle.mx_session.proofs.JobLaws.{nothing_after_the_end, in_pieces}
use Rattle.mx_serial.specs.Replies.{Told, has_left, told_on, told_now}
use Rattle.mx_model.specs.Bases.{Base}
use Rattle.mx_model.specs.Histories.{History}
use Rattle.mx_serial.specs.ReplyStream.{packet_told, packets_of_replies}
use Rattle.mx_node.specs.declared.out_units.OutUnit.{OutUnit}
use Rattle.mx_link.specs.Asks.{sync_of}
use Rattle.mx_node.specs.Inputs.{InputUnit, Bytes, Close, connection_of}
use Rattle.mx_node.specs.Connections.{came_on, gained}
use Rattle.mx_node.specs.Starts.{Start, start_greeting}
use Rattle.mx_node.specs.Outputs.{sent_to, sent_on, closed_on, closing, output_for}
use Rattle.mx_link.proofs.PieceLaws.{ends-nothing, jobs_of-nothing}
use Rattle.mx_node.proofs.ConnectionLaws.{gained-append, gained-nothing, is_ended_by-open, is_ended_by-ended, is_ended_by-nothing}
use Rattle.mx_node.proofs.TableLaws.{left_by}

-- ---- packets of replies

-- the packets of two runs of replies, where the first has one for each sync
pub reply_packets-append : (syncs more : List ℕ) (replies others : List Told) → length syncs ≡ length replies
    → packets_of_replies (syncs ++ more) (replies ++ others) ≡ packets_of_replies syncs replies ++ packets_of_replies more others
reply_packets-append [] more [] others e = refl
reply_packets-append [] more (reply ∷ replies) others e = absurd (omega arith)
reply_packets-append (sync ∷ syncs) more [] others e = absurd (omega arith)
reply_packets-append (sync ∷ syncs) more (reply ∷ replies) others e =
    let shorter : length syncs ≡ length replies = omega arith in
    ap (λ (l : List ℕ). packet_told sync reply ++ l) (reply_packets-append syncs more replies others shorter)
    ∙ sym (append_assoc (packet_told sync reply) (packets_of_replies syncs replies) (packets_of_replies more others))

abbrev pub packets_for : List Job → List Told → List ℕ
packets_for jobs replies = packets_of_replies (map sync_of jobs) replies

packets_for-append : (jobs more : List Job) (replies others : List Told) → length replies ≡ length jobs
    → packets_for (jobs ++ more) (replies ++ others) ≡ packets_for jobs replies ++ packets_for more others
packets_for-append jobs more replies others each =
    ap (λ (l : List ℕ). packets_of_replies l (replies ++ others)) (map-append sync_of jobs more)
    ∙ reply_packets-append (map sync_of jobs) (map sync_of more) replies others (length-map jobs sync_of ∙ sym each)

none_for : (jobs : List Job) → 0 ≡ length jobs → jobs ≡ []
none_for [] none = refl
none_for (job ∷ jobs) none = absurd (omega arith)

-- an open connection was told nothing but what it is told since it is open
told_while_open : (base : Base) (on : ℕ) (history : History) (jobs : List Job) → length (told_now base on history) ≡ length jobs
    → packets_for jobs (told_on base on history) ≡ packets_for jobs (told_now base on history)
told_while_open base on history jobs each = by_left (has_left on history) each
  where
    by_left : (left : Bool) → length (cond left [] (told_on base on history)) ≡ length jobs
        → packets_for jobs (told_on base on history) ≡ packets_for jobs (cond left [] (told_on base on history))
    by_left true each =
        ap (λ (l : List Job). packets_for l (told_on base on history)) (none_for jobs each)
        ∙ sym (ap (λ (l : List Job). packets_for l []) (none_for jobs each))
    by_left false each = refl

-- ---- what a connection was sent

-- the greeting, where these bytes open the connection
abbrev pub greeted : (start : Start) → List ℕ → List ℕ
greeted start [] = []
greeted start (byte ∷ bytes) = start_greeting start

-- the greeting, where the second bytes open the connection
abbrev pub opening : (start : Start) → (came bytes : List ℕ) → List ℕ
opening start [] bytes = greeted start bytes
opening start (byte ∷ came) bytes = []

-- it is the greeting and the packets of all replies
sent_to-is : (start : Start) (on : ℕ) (came : List ℕ) (history : History)
    → sent_to start on came history ≡ greeted start came ++ packets_for (jobs_of on came) (told_on start.base on history)
sent_to-is start on [] history = sym (ap (λ (l : List Job). packets_for l (told_on start.base on history)) (jobs_of-nothing on))
sent_to-is start on (byte ∷ bytes) history = refl

-- it depends on what the connection was told alone
pub sent_to-same : (start : Start) (on : ℕ) (came : List ℕ) (history other : History) → told_on start.base on history ≡ told_on start.base on other
    → sent_to start on came history ≡ sent_to start on came other
sent_to-same start on [] history other told = refl
sent_to-same start on (byte ∷ bytes) history other told =
    ap (λ (l : List Told). start_greeting start ++ packets_for (jobs_of on (byte ∷ bytes)) l) told

-- packets after those that were sent before
more_packets : (start : Start) (came bytes before more : List ℕ) → (came ≡ [] → before ≡ [])
    → greeted start (came ++ bytes) ++ (before ++ more) ≡ (greeted start came ++ before) ++ (opening start came bytes ++ more)
more_packets start [] bytes before more none =
    ap (λ (l : List ℕ). greeted start bytes ++ (l ++ more)) (none refl) ∙ sym (ap (λ (l : List ℕ). l ++ (greeted start bytes ++ more)) (none refl))
more_packets start (byte ∷ came) bytes before more none = sym (append_assoc (start_greeting start) before more)

-- ---- what is sent for a unit

pub opening-ended : (start : Start) (on : ℕ) (came bytes : List ℕ) → ends on came ≡ true → opening start came bytes ≡ []
opening-ended start on [] bytes ended = let not_so = ends-nothing on in absurd cc
opening-ended start on (byte ∷ came) bytes ended = refl

greeted-ended : (start : Start) (on : ℕ) (came bytes : List ℕ) → ends on came ≡ true → greeted start (came ++ bytes) ≡ greeted start came
greeted-ended start on [] bytes ended = let not_so = ends-nothing on in absurd cc
greeted-ended start on (byte ∷ came) bytes ended = refl

-- the bytes of an ended connection bring it nothing
pub sent_no_more : (start : Start) (on : ℕ) (came bytes : List ℕ) (history : History) → ends on came ≡ true
    → sent_to start on (came ++ bytes) history ≡ sent_to start on came history
sent_no_more start on came bytes history ended =
    let told = told_on start.base on history in
    sent_to-is start on (came ++ bytes) history
    ∙ ap (λ (l : List ℕ). l ++ packets_for (jobs_of on (came ++ bytes)) told) (greeted-ended start on came bytes ended)
    ∙ ap (λ (l : List Job). greeted start came ++ packets_for l told) (nothing_after_the_end on came bytes ended)
    ∙ sym (sent_to-is start on came history)

-- those of an open one bring it the greeting, where they open it, and a reply for each of their jobs
pub sent_more : (start : Start) (on : ℕ) (came bytes : List ℕ) (before after : History) (replies : List Told) → ends on came ≡ false
    → length (told_now start.base on before) ≡ length (jobs_of on came) → told_now start.base on after ≡ told_now start.base on before ++ replies
    → length replies ≡ length (jobs_of on (rest_of came ++ bytes))
    → sent_to start on (came ++ bytes) after
    ≡ sent_to start on came before ++ (opening start came bytes ++ packets_for (jobs_of on (rest_of came ++ bytes)) replies)
sent_more start on came bytes before after replies goes_on answered told each =
    let jobs = jobs_of on came in
    let later = jobs_of on (rest_of came ++ bytes) in
    let so_far = told_now start.base on before in
    let pieces : jobs_of on (came ++ bytes) ≡ jobs ++ later = in_pieces on came bytes goes_on in
    let all : length (told_now start.base on after) ≡ length (jobs_of on (came ++ bytes)) =
    ap length told ∙ length_both so_far replies jobs later answered each ∙ ap length (sym pieces) in
    let more = opening start came bytes ++ packets_for later replies in
    let was : sent_to start on came before ≡ greeted start came ++ packets_for jobs so_far =
    sent_to-is start on came before ∙ ap (λ (l : List ℕ). greeted start came ++ l) (told_while_open start.base on before jobs answered) in
    sent_to-is start on (came ++ bytes) after
    ∙ ap (λ (l : List ℕ). greeted start (came ++ bytes) ++ l) (told_while_open start.base on after (jobs_of on (came ++ bytes)) all
    ∙ ap (packets_for (jobs_of on (came ++ bytes))) told ∙ ap (λ (l : List Job). packets_for l (so_far ++ replies)) pieces
    ∙ packets_for-append jobs later so_far replies answered)
    ∙ more_packets start came bytes (packets_for jobs so_far) (packets_for later replies)
    (λ none. ap (λ (l : List ℕ). packets_for (jobs_of on l) so_far) none ∙ ap (λ (l : List Job). packets_for l so_far) (jobs_of-nothing on))
    ∙ ap (λ (l : List ℕ). l ++ more) (sym was)
  where
    length_both : (told others : List Told) (jobs more : List Job) → length told ≡ length jobs → length others ≡ length more
        → length (told ++ others) ≡ length (jobs ++ more)
    length_both told others jobs more first second = omega (arith, length-append told others, length-append jobs more)

-- what was sent stays, and what is gained comes after it
pub gained_after : (before after more : List ℕ) → after ≡ before ++ more → gained before after ≡ more
gained_after before after more is = ap (gained before) is ∙ gained-append before more

abbrev closed : ℕ → Bool → List OutUnit
closed on ended = if ended then closed_on on ∷ [] else []

pub output_for-nothing : (start : Start) (earlier : List InputUnit) (history : History) (on : ℕ) → output_for start earlier history (Bytes on []) history ≡ []
output_for-nothing start earlier history on =
    let came = came_on on earlier in
    let was = sent_to start on came history in
    ap (λ (l : List ℕ). sent_on on (gained was (sent_to start on l history)) ++ closing earlier (Bytes on [])) (append-nil came)
    ∙ ap (λ (l : List ℕ). sent_on on l ++ closing earlier (Bytes on [])) (gained-nothing was)
    ∙ ap (closed on) (is_ended_by-nothing earlier on)

-- what is sent for a unit depends on what its connection was told alone
pub output_for-same : (start : Start) (earlier : List InputUnit) (before was after is : History) (unit : InputUnit)
    → told_on start.base (connection_of unit) before ≡ told_on start.base (connection_of unit) was
    → told_on start.base (connection_of unit) after ≡ told_on start.base (connection_of unit) is
    → output_for start earlier before unit after ≡ output_for start earlier was unit is
output_for-same start earlier before was after is (Bytes on bytes) first last =
    let came = came_on on earlier in
    let end = closing earlier (Bytes on bytes) in
    ap (λ (l : List ℕ). sent_on on (gained l (sent_to start on (came ++ bytes) after)) ++ end) (sent_to-same start on came before was first)
    ∙ ap (λ (l : List ℕ). sent_on on (gained (sent_to start on came was) l) ++ end) (sent_to-same start on (came ++ bytes) after is last)
output_for-same start earlier before was after is (Close on) first last = refl

pub told_on-left : (base : Base) (connection on : ℕ) (stays : Bool) (history : History) → told_on base connection (left_by on stays history) ≡ told_on base connection history
told_on-left base connection on true history = refl
told_on-left base connection on false history = refl

-- and so it is the same whether or not a connection then left
pub output_for-left : (start : Start) (earlier : List InputUnit) (before : History) (unit : InputUnit) (on : ℕ) (stays : Bool) (history : History)
    → output_for start earlier before unit (left_by on stays history) ≡ output_for start earlier before unit history
output_for-left start earlier before unit on stays history =
    output_for-same start earlier before before (left_by on stays history) history unit refl (told_on-left start.base (connection_of unit) on stays history)

module _ (start : Start) (earlier : List InputUnit) (on : ℕ) (came bytes : List ℕ) (same : came ≡ came_on on earlier) where
  opens_so : (before after : History) → output_for start earlier before (Bytes on bytes) after
      ≡ sent_on on (gained (sent_to start on came before) (sent_to start on (came ++ bytes) after)) ++ closing earlier (Bytes on bytes)
  opens_so before after =
      ap (λ (l : List ℕ). sent_on on (gained (sent_to start on l before) (sent_to start on (l ++ bytes) after)) ++ closing earlier (Bytes on bytes)) (sym same)

  pub output_for-ended : (history : History) → ends on came ≡ true → output_for start earlier history (Bytes on bytes) history ≡ []
  output_for-ended history ended =
      opens_so history history
      ∙ ap (λ (l : List ℕ). sent_on on l ++ closing earlier (Bytes on bytes))
      (ap (gained (sent_to start on came history)) (sent_no_more start on came bytes history ended) ∙ gained-nothing (sent_to start on came history))
      ∙ ap (closed on) (is_ended_by-ended earlier on came bytes same ended)

  pub output_for-open : (before after : History) (replies : List Told) → ends on came ≡ false
      → length (told_now start.base on before) ≡ length (jobs_of on came) → told_now start.base on after ≡ told_now start.base on before ++ replies
      → length replies ≡ length (jobs_of on (rest_of came ++ bytes))
      → output_for start earlier before (Bytes on bytes) after
      ≡ sent_on on (opening start came bytes ++ packets_for (jobs_of on (rest_of came ++ bytes)) replies)
      ++ (if ends on (rest_of came ++ bytes) then closed_on on ∷ [] else [])
  output_for-open before after replies goes_on answered told each =
      let sent = opening start came bytes ++ packets_for (jobs_of on (rest_of came ++ bytes)) replies in
      opens_so before after
      ∙ ap (λ (l : List ℕ). sent_on on l ++ closing earlier (Bytes on bytes))
      (gained_after (sent_to start on came before) (sent_to start on (came ++ bytes) after) _ (sent_more start on came bytes before after replies goes_on answered told each))
      ∙ ap (λ (b : Bool). sent_on on sent ++ closed on b) (is_ended_by-open earlier on came bytes same goes_on)
