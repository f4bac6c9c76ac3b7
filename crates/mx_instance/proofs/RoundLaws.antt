-- A link's turn from one moment to the next: what came is read, its jobs are answered, replies are let go, and bytes are sent.
use Rattle.std.proofs.Common.{◌≡◌, ℕ, ◌<◌, ◌≤◌, Bool, false, List, [], ◌∷◌, ◌++◌, length, map, take, drop, refl, sym, ap, ◌∙◌, subst, subst₂, arith, ◌⊎◌, inl, inr, Option, Some, None}
use Rattle.std.specs.Prelude.{⊤, IfSome, MatchResult, OnErr, OnOk, Result, Ok, Err, if◌then◌else◌}
use Rattle.std.specs.List.{AllByRecursion, Contains}
use Rattle.std.specs.Io.KnownBytes.{Appends, Keeps}
use Rattle.std.proofs.lemmas.List.{append-nil, append_assoc, length-append, length-map, map-append, take_all, take-append-le}
use Rattle.std.proofs.lemmas.List.Elements.{All-contains_itself, Contains-append_left, Contains-append_right, recursion_from_All}
use Rattle.mx_session.specs.Jobs.{jobs_of}
use Rattle.mx_session.specs.Sessions.{SessionState, Waiting, first_front, next_of, released, unsent_length}
use Rattle.mx_session.specs.declared.link_turn.LinkTurn.{LinkTurn}
use Rattle.mx_session.specs.declared.link_turn.LinkTurn.TheVariants as turn
use Rattle.mx_model.specs.Bases.{Base}
use Rattle.mx_model.specs.Histories.{History, IsLegal, Looked, ledger_of}
use Rattle.mx_model.proofs.EachLaws.{each_like, each_of_both}
use Rattle.mx_link.specs.Answers.{AnswersMore, AreMade, step_place}
use Rattle.mx_link.specs.Links.{Answer, HasLink, IsNoJob, answer_packets, answer_step}
use Rattle.mx_link.proofs.LinkLaws.{due_length, first_waits, link_feeds, link_grows, link_releases, link_sends, none_left}
use Rattle.mx_instance.specs.declared.recorded.Recorded.{Recorded}
use Rattle.mx_instance.specs.Asking.{IsSince}
use Rattle.mx_instance.specs.Passes.{AddsStep, Seen}
use Rattle.mx_instance.specs.Reading.{IsPieceStop}
use Rattle.mx_instance.specs.Rounds.{AddsAnswers, LinkGoesOn, IsAnswered, IsLookAt, IsLookedAt, IsOutset, IsReadWithin, Outset, ServesLink, Stops, max_piece, max_unsent}
use Rattle.mx_instance.specs.Standing.{BeganOver}

-- ---- what is known of a link's bytes

appends_none : (known : Option (List ℕ)) → Appends known known []
appends_none None = tt
appends_none (Some bytes) = sym (append-nil bytes)

appends_more : (first second last : Option (List ℕ)) (bytes more : List ℕ) → Appends first second bytes → Appends second last more → Appends first last (bytes ++ more)
appends_more None second last bytes more one other = tt
appends_more (Some a) None last bytes more one other = absurd one
appends_more (Some a) (Some b) None bytes more one other = absurd other
appends_more (Some a) (Some b) (Some c) bytes more one other = other ∙ ap (λ (l : List ℕ). l ++ more) one ∙ append_assoc a bytes more

appends_kept : (first second last : Option (List ℕ)) (bytes : List ℕ) → Appends first second bytes → Keeps second last → Appends first last bytes
appends_kept None second last bytes one same = tt
appends_kept (Some a) None last bytes one same = absurd one
appends_kept (Some a) (Some b) None bytes one same = absurd same
appends_kept (Some a) (Some b) (Some c) bytes one same = same ∙ one

pub keeps_same : (old new : Option (List ℕ)) → new ≡ old → Keeps old new
keeps_same old new same = subst (Keeps old) (sym same) (keeps_itself old)
  where
    keeps_itself : (known : Option (List ℕ)) → Keeps known known
    keeps_itself None = tt
    keeps_itself (Some bytes) = refl

-- ---- what changes of a session

pub out_alone : (first old new : SessionState) (out : List ℕ) → old ≡ record first { out = old.out } → new ≡ record old { out = out } → new ≡ record first { out = new.out }
out_alone first old new out same is =
    is ∙ ap (λ (s : SessionState). record s { out = out }) same ∙ ap (λ (l : List ℕ). record first { out = l }) (sym (ap (λ (s : SessionState). s.out) is))

-- ---- what the pass added

module _ {X : Type 0} (P Q : X → Type 0) where
  each_has_both : (xs : List X) → AllByRecursion P xs → AllByRecursion Q xs → AllByRecursion (λ x. P x × Q x) xs
  each_has_both [] one other = tt
  each_has_both (x ∷ xs) (p, one) (q, other) = ((p, q), each_has_both xs one other)

each_mapped : {X Y : Type 0} (f : X → Y) (P : Y → Type 0) (xs : List X) → AllByRecursion (λ x. P (f x)) xs → AllByRecursion P (map f xs)
each_mapped f P [] have = tt
each_mapped f P (x ∷ xs) (p, have) = (p, each_mapped f P xs have)

look_grows : (more history : History) (place : ℕ) → IsLookAt history place → IsLookAt (more ++ history) place
look_grows more history place (later, earlier, is, at) =
    (more ++ later, earlier, ap (λ (h : History). more ++ h) is ∙ sym (append_assoc more later (Looked ∷ earlier)), at)

-- what an own entry is
abbrev IsOwn : List Answer → (before : History) → (history : History) → ℕ → Type 0
IsOwn made before history place = (length before ≤ place) × (Contains (map step_place made) place ⊎ IsLookAt history place)

module _ (base : Base) (made more : List Answer) (old now new : Seen) (one : AddsAnswers base made old now) (other : AddsAnswers base more now new) where
  earlier_seen : now.seen ≡ one.since ++ old.seen
  earlier_seen = ap (λ (s : Seen). s.seen) one.view

  all_seen : other.since ++ now.seen ≡ (other.since ++ one.since) ++ old.seen
  all_seen = ap (λ (h : History). other.since ++ h) earlier_seen ∙ sym (append_assoc other.since one.since old.seen)

  first_own : (place : ℕ) → IsOwn made old.seen (one.since ++ old.seen) place → IsOwn (made ++ more) old.seen ((other.since ++ one.since) ++ old.seen) place
  first_own place (late, inl asked) = (
    late,
    inl (subst (λ (l : List ℕ). Contains l place) (sym (map-append step_place made more))
        (Contains-append_left (map step_place made) (map step_place more) place asked)),
  )
  first_own place (late, inr look) = (
    late,
    inr (subst (λ (h : History). IsLookAt h place) (sym (append_assoc other.since one.since old.seen))
        (look_grows other.since (one.since ++ old.seen) place look)),
  )

  later_own : (place : ℕ) → IsOwn more now.seen (other.since ++ now.seen) place → IsOwn (made ++ more) old.seen ((other.since ++ one.since) ++ old.seen) place
  later_own place (late, inl asked) = (
    omega (arith, late, ap length earlier_seen, length-append one.since old.seen),
    inl (subst (λ (l : List ℕ). Contains l place) (sym (map-append step_place made more))
        (Contains-append_right (map step_place made) (map step_place more) place asked)),
  )
  later_own place (late, inr look) =
      (omega (arith, late, ap length earlier_seen, length-append one.since old.seen), inr (subst (λ (h : History). IsLookAt h place) all_seen look))

  -- one after the other
  pub adds_more : AddsAnswers base (made ++ more) old new
  adds_more =
      let after : Seen → Seen = λ s. record s { seen = other.since ++ s.seen; mine = s.mine ++ map step_place more; own = s.own ++ other.places; holds = false } in
      let with : History → List ℕ → List ℕ → Seen = λ seen mine own. record old { seen = seen; mine = mine; own = own; holds = false } in
      let seen = (other.since ++ one.since) ++ old.seen in
      let mine = old.mine ++ map step_place (made ++ more) in
      record {
        since = other.since ++ one.since;
        places = one.places ++ other.places;
        view = other.view ∙ ap after one.view
            ∙ ap (λ (h : History). with h ((old.mine ++ map step_place made) ++ map step_place more) ((old.own ++ one.places) ++ other.places))
            (sym (append_assoc other.since one.since old.seen))
            ∙ ap (λ (l : List ℕ). with seen l ((old.own ++ one.places) ++ other.places))
            (append_assoc old.mine (map step_place made) (map step_place more) ∙ ap (λ (l : List ℕ). old.mine ++ l) (sym (map-append step_place made more)))
            ∙ ap (λ (l : List ℕ). with seen mine l) (append_assoc old.own one.places other.places);
        each = each_of_both (IsOwn (made ++ more) old.seen seen) one.places other.places
            (each_like (IsOwn made old.seen (one.since ++ old.seen)) (IsOwn (made ++ more) old.seen seen) first_own one.places one.each)
            (each_like (IsOwn more now.seen (other.since ++ now.seen)) (IsOwn (made ++ more) old.seen seen) later_own other.places other.each);
        legal = λ legal.
            subst (IsLegal base) all_seen (other.legal (subst (IsLegal base) (sym earlier_seen) (one.legal legal)));
      }

same_view : (seen : Seen) → seen.holds ≡ false → seen ≡ record seen { mine = seen.mine ++ []; own = seen.own ++ []; holds = false }
same_view seen idle =
    sym (ap (λ (l : List ℕ). record seen { mine = l; own = seen.own ++ []; holds = false }) (append-nil seen.mine)
    ∙ ap (λ (l : List ℕ). record seen { own = l; holds = false }) (append-nil seen.own)
    ∙ ap (λ (b : Bool). record seen { holds = b }) (sym idle))

-- nothing
adds_none : (base : Base) (seen : Seen) → seen.holds ≡ false → AddsAnswers base [] seen seen
adds_none base seen idle = record {
  since = [];
  places = [];
  view = same_view seen idle;
  each = tt;
  legal = λ legal. legal;
}

-- a look
adds_look : (base : Base) (old new : Seen) → BeganOver old.base base → AddsStep Looked old new → AddsAnswers base [] old new
adds_look base old new began step =
    let others = step.others in
    let place = length (others ++ old.seen) in
    let history : History = Looked ∷ (others ++ old.seen) in
    record {
      since = Looked ∷ others;
      places = place ∷ [];
      view = step.view;
      each = ((omega (arith, length-append others old.seen), inr ([], others ++ old.seen, refl, refl)), tt);
      legal = λ _. subst (IsLegal base) (ap (λ (s : Seen). s.seen) step.view) (step.legal base began);
    }

-- no answer's step stands before what the pass had seen
fronts_after : (base : Base) (between : History → Type 0) (earlier : History) (made : List Answer) (more : History) → AreMade base between earlier made more
    → AllByRecursion (λ answer. length earlier ≤ step_place answer) made
fronts_after base between earlier [] more are = tt
fronts_after base between earlier (answer ∷ made) more (others, later, among, is, parts, after) = (
  omega (arith, is.front, length-append others earlier),
  each_like (λ a. length (answer_step answer ∷ (others ++ earlier)) ≤ step_place a) (λ a. length earlier ≤ step_place a)
      (λ a late. omega (arith, late, length-append others earlier)) made (fronts_after base between (answer_step answer ∷ (others ++ earlier)) made later after),
)

-- answers to jobs
adds_answers : (base : Base) (made : List Answer) (more : History) (old new : Seen) → AreMade base (λ _. ⊤) old.seen made more
    → IsSince old base (more ++ old.seen) (map step_place made) new → AddsAnswers base made old new
adds_answers base made more old new are come =
    let places = map step_place made in
    record {
      since = more;
      places = places;
      view = come.view;
      each = each_has_both (λ place. length old.seen ≤ place) (λ place. Contains places place ⊎ IsLookAt (more ++ old.seen) place) places
          (each_mapped step_place (λ place. length old.seen ≤ place) made (fronts_after base (λ _. ⊤) old.seen made more are))
          (each_like (Contains places) (λ place. Contains places place ⊎ IsLookAt (more ++ old.seen) place) (λ place contains. inl contains) places
          (recursion_from_All (Contains places) places (All-contains_itself places)));
      legal = come.legal;
    }

-- ---- how much was read

-- more is answered and sent
within_grows : (connection : ℕ) (answers made : List Answer) (greeting came more gone sent : List ℕ) → IsReadWithin connection answers greeting came more gone
    → IsReadWithin connection (answers ++ made) greeting came more (gone ++ sent)
within_grows connection answers made greeting came more gone sent (inl none) = inl none
within_grows connection answers made greeting came more gone sent (inr (before, piece, parts, fits, answered, due)) =
    let count = length (jobs_of connection (came ++ before)) in
    let same : take count (answers ++ made) ≡ take count answers = take-append-le count answers made answered in
    inr (
      before,
      piece,
      parts,
      fits,
      omega (arith, answered, length-append answers made),
      omega (arith, due, length-append gone sent, ap (λ (l : List Answer). length (greeting ++ answer_packets l)) same),
    )

-- ---- the connection goes on

module _ (outset : Outset) where
  -- at the outset
  pub goes_first : (before : Seen) (old : SessionState) (link_came link_gone : Option (List ℕ)) → before.holds ≡ false → IsOutset outset before old link_came link_gone
      → LinkGoesOn outset before old link_came link_gone
  goes_first before old link_came link_gone idle is =
      let quiet : outset.seen.holds ≡ false = ap (λ (s : Seen). s.holds) is.seen ∙ idle in
      let link = subst (λ (l : List ℕ). HasLink outset.base outset.seen.seen outset.answers outset.greeting outset.came l outset.session) (sym (append-nil outset.gone))
      is.link in
      let fed = subst (λ (l : List ℕ). HasLink outset.base outset.seen.seen outset.answers outset.greeting l (outset.gone ++ []) outset.session) (sym (append-nil outset.came))
      link in
      let first : LinkGoesOn outset outset.seen outset.session outset.known_came outset.known_gone =
      record {
        made = [];
        more = [];
        sent = [];
        began = is.began;
        adds = adds_none outset.base outset.seen quiet;
        link = subst (λ (l : List Answer). HasLink outset.base outset.seen.seen l outset.greeting (outset.came ++ []) (outset.gone ++ []) outset.session)
            (sym (append-nil outset.answers)) fed;
        whose = refl;
        came = appends_none outset.known_came;
        gone = appends_none outset.known_gone;
        within = λ _. inl refl;
      } in
      subst (λ (known : Option (List ℕ)). LinkGoesOn outset before old link_came known) is.known_gone
      (subst (λ (known : Option (List ℕ)). LinkGoesOn outset before old known outset.known_gone) is.known_came
      (subst₂ (λ (seen : Seen) (session : SessionState). LinkGoesOn outset seen session outset.known_came outset.known_gone) is.seen is.session first))

  module _ (now : Seen) (session : SessionState) (link_came link_gone : Option (List ℕ)) (goes : LinkGoesOn outset now session link_came link_gone) where
    now_began : BeganOver now.base outset.base
    now_began = subst (λ (b : Option Recorded). BeganOver b outset.base) (sym (ap (λ (s : Seen). s.base) goes.adds.view)) goes.began

    -- nothing was read or sent
    pub goes_kept : (known_came known_gone : Option (List ℕ)) → Keeps link_came known_came → Keeps link_gone known_gone
        → LinkGoesOn outset now session known_came known_gone
    goes_kept known_came known_gone same_came same_gone = record {
      made = goes.made;
      more = goes.more;
      sent = goes.sent;
      began = goes.began;
      adds = goes.adds;
      link = goes.link;
      whose = goes.whose;
      came = appends_kept outset.known_came link_came known_came goes.more goes.came same_came;
      gone = appends_kept outset.known_gone link_gone known_gone goes.sent goes.gone same_gone;
      within = goes.within;
    }

    -- a piece was read
    pub goes_read : (piece : List ℕ) (fed : SessionState) (known : Option (List ℕ)) → (IsNoJob (next_of outset.session) → IsNoJob (next_of session))
        → fed ≡ record session { rest = if session.ended then session.rest else session.rest ++ piece } → Appends link_came known piece
        → length piece ≤ max_piece → unsent_length session.out session.waiting ≤ max_unsent → LinkGoesOn outset now fed known link_gone
    goes_read piece fed known none is reads fits room =
        let all = outset.answers ++ goes.made in
        let came = outset.came ++ goes.more in
        let gone = outset.gone ++ goes.sent in
        record {
          made = goes.made;
          more = goes.more ++ piece;
          sent = goes.sent;
          began = goes.began;
          adds = goes.adds;
          link = subst (λ (l : List ℕ). HasLink outset.base now.seen all outset.greeting l gone fed) (append_assoc outset.came goes.more piece)
              (link_feeds outset.base now.seen all outset.greeting came gone session goes.link piece fed is);
          whose = ap (λ (s : SessionState). s.connection) is ∙ goes.whose;
          came = appends_more outset.known_came link_came known goes.more piece goes.came reads;
          gone = goes.gone;
          within = λ quiet.
              let done = none_left outset.base now.seen all outset.greeting came gone session goes.link (none quiet) in
              let jobs : length all ≡ length (jobs_of outset.session.connection came) =
              sym (length-map all (λ (a : Answer). a.job)) ∙ ap length done.jobs ∙ ap (λ (c : ℕ). length (jobs_of c came)) goes.whose in
              let count = length (jobs_of outset.session.connection came) in
              let whole : take count all ≡ all = take_all count all (omega (arith, jobs)) in
              inr (
                goes.more,
                piece,
                refl,
                fits,
                omega (arith, jobs),
                omega (
                  arith,
                  room,
                  due_length outset.base now.seen all outset.greeting came gone session goes.link,
                  ap (λ (l : List Answer). length (outset.greeting ++ answer_packets l)) whole,
                ),
              );
        }

    -- jobs were answered
    pub goes_answered : (new : Seen) (after : SessionState)
        → AnswersMore (λ base history since. IsSince now base history since new) (λ _. ⊤) outset.base now.seen [] (outset.answers ++ goes.made) outset.greeting
        (outset.came ++ goes.more) (outset.gone ++ goes.sent) session after → LinkGoesOn outset new after link_came link_gone
    goes_answered new after answers =
        let made = goes.made ++ answers.made in
        let came = outset.came ++ goes.more in
        let gone = outset.gone ++ goes.sent in
        let joined = append_assoc outset.answers goes.made answers.made in
        let seen : answers.more ++ now.seen ≡ new.seen = sym (ap (λ (s : Seen). s.seen) answers.at.view) in
        record {
          made = made;
          more = goes.more;
          sent = goes.sent;
          began = goes.began;
          adds = adds_more outset.base goes.made answers.made outset.seen now new goes.adds
              (adds_answers outset.base answers.made answers.more now new answers.are answers.at);
          link = subst₂ (λ (h : History) (l : List Answer). HasLink outset.base h l outset.greeting came gone after) seen joined answers.link;
          whose = answers.whose ∙ goes.whose;
          came = goes.came;
          gone = goes.gone;
          within = λ quiet.
              subst₂ (λ (l : List Answer) (bytes : List ℕ). IsReadWithin outset.session.connection l outset.greeting outset.came goes.more bytes) joined (append-nil gone)
              (within_grows outset.session.connection (outset.answers ++ goes.made) answers.made outset.greeting outset.came goes.more gone [] (goes.within quiet));
        }

    -- nobody answered, and the pass knows as much as it did
    pub since_now : now.holds ≡ false → IsSince now outset.base now.seen [] now
    since_now idle = record { began = now_began; view = same_view now idle; legal = λ legal. legal }

    -- all jobs were asked, or some of them where memory ran out
    pub goes_asked : {X E : Type 0} (start new : Seen) (after : SessionState) (result : Result X E) → start ≡ now → now.holds ≡ false
        → ((base : Base) (history : History) (mine : List ℕ) (answers : List Answer) (greeting came gone : List ℕ) → IsSince start base history mine now
        → HasLink base history answers greeting came gone session
        → OnOk result (AnswersMore (λ base history since. IsSince start base history since new) (λ _. ⊤) base history mine answers greeting came gone session after))
        → ((base : Base) (history : History) (mine : List ℕ) (answers : List Answer) (greeting came gone : List ℕ) → IsSince start base history mine now
        → HasLink base history answers greeting came gone session
        → OnErr result ((other : SessionState)
        × AnswersMore (λ base history since. IsSince start base history since new) (λ _. ⊤) base history mine answers greeting came gone session other))
        → MatchResult result (λ _. LinkGoesOn outset new after link_came link_gone) (λ _. (other : SessionState) × LinkGoesOn outset new other link_came link_gone)
    goes_asked start new after result same idle answers stops =
        let all = outset.answers ++ goes.made in
        let came = outset.came ++ goes.more in
        let gone = outset.gone ++ goes.sent in
        let begins = subst (λ (s : Seen). IsSince s outset.base now.seen [] now) (sym same) (since_now idle) in
        let moved : (last : SessionState)
        → AnswersMore (λ base history since. IsSince start base history since new) (λ _. ⊤) outset.base now.seen [] all outset.greeting came gone session last
        → LinkGoesOn outset new last link_came link_gone =
        λ last more.
        goes_answered new last
        (subst (λ (s : Seen). AnswersMore (λ base history since. IsSince s base history since new) (λ _. ⊤) outset.base now.seen [] all outset.greeting came gone session last)
        same more) in
        by_result result (answers outset.base now.seen [] all outset.greeting came gone begins goes.link)
        (stops outset.base now.seen [] all outset.greeting came gone begins goes.link) (moved after) (λ (other, more). (other, moved other more))
      where
        by_result : {X E A B P Q : Type 0} (result : Result X E) → OnOk result A → OnErr result B → (A → P) → (B → Q) → MatchResult result (λ _. P) (λ _. Q)
        by_result (Ok x) a b so also = so a
        by_result (Err e) a b so also = also b

    -- the pass looked, and replies were let go
    pub goes_looked : (new : Seen) (after : SessionState) (durable : ℕ) → AddsStep Looked now new
        → ((base : Base) → BeganOver now.base base → durable ≡ (ledger_of base new.seen).durable)
        → after ≡ record session { waiting = (released durable session.waiting).1; out = session.out ++ (released durable session.waiting).0 }
        → LinkGoesOn outset new after link_came link_gone × IfSome (first_front after.waiting) (IsLookedAt outset new)
    goes_looked new after durable step told is =
        let all = outset.answers ++ goes.made in
        let came = outset.came ++ goes.more in
        let gone = outset.gone ++ goes.sent in
        let seen : new.seen ≡ (Looked ∷ step.others) ++ now.seen = ap (λ (s : Seen). s.seen) step.view in
        let known = told outset.base now_began in
        let grown = subst (λ (h : History). HasLink outset.base h all outset.greeting came gone session) (sym seen)
        (link_grows outset.base now.seen all outset.greeting came gone session goes.link (Looked ∷ step.others)) in
        let look = adds_look outset.base now new now_began step in (
          record {
            made = goes.made;
            more = goes.more;
            sent = goes.sent;
            began = goes.began;
            adds = subst (λ (l : List Answer). AddsAnswers outset.base l outset.seen new) (append-nil goes.made)
                (adds_more outset.base goes.made [] outset.seen now new goes.adds look);
            link = link_releases outset.base new.seen all outset.greeting came gone session grown durable after (omega (arith, known)) is;
            whose = ap (λ (s : SessionState). s.connection) is ∙ goes.whose;
            came = goes.came;
            gone = goes.gone;
            within = goes.within;
          },
          subst (λ (w : List Waiting). IfSome (first_front w) (IsLookedAt outset new)) (sym (ap (λ (s : SessionState). s.waiting) is))
              (if_some_like (first_front (released durable session.waiting).1) (λ front. durable < front) (IsLookedAt outset new)
              (λ front low. looked_so new step front (omega (arith, known, low))) (first_waits durable session.waiting)),
        )
      where
        if_some_like : (o : Option ℕ) (P Q : ℕ → Type 0) → ((n : ℕ) → P n → Q n) → IfSome o P → IfSome o Q
        if_some_like None P Q like have = tt
        if_some_like (Some n) P Q like have = like n have

        looked_so : (new : Seen) → (step : AddsStep Looked now new) → (front : ℕ) → (ledger_of outset.base new.seen).durable < front → IsLookedAt outset new front
        looked_so new step front low =
            let earlier = step.others ++ now.seen in
            let before : now.seen ≡ goes.adds.since ++ outset.seen.seen = ap (λ (s : Seen). s.seen) goes.adds.view in
            record {
              earlier = earlier;
              seen = ap (λ (s : Seen). s.seen) step.view;
              since = omega (arith, length-append step.others now.seen, ap length before, length-append goes.adds.since outset.seen.seen);
              own = subst (λ (l : List ℕ). Contains l (length earlier)) (sym (ap (λ (s : Seen). s.own) step.view))
                  (Contains-append_right now.own (length earlier ∷ []) (length earlier) (0, omega arith, refl));
              later = low;
            }

    -- bytes were sent
    pub goes_sent : (count : ℕ) (after : SessionState) (known : Option (List ℕ)) → after ≡ record session { out = drop count session.out }
        → Appends link_gone known (take count session.out) → LinkGoesOn outset now after link_came known
    goes_sent count after known is writes =
        let all = outset.answers ++ goes.made in
        let came = outset.came ++ goes.more in
        let gone = outset.gone ++ goes.sent in
        let bytes = take count session.out in
        let joined = append_assoc outset.gone goes.sent bytes in
        record {
          made = goes.made;
          more = goes.more;
          sent = goes.sent ++ bytes;
          began = goes.began;
          adds = goes.adds;
          link = subst (λ (l : List ℕ). HasLink outset.base now.seen all outset.greeting came l after) joined
              (link_sends outset.base now.seen all outset.greeting came gone session goes.link count after is);
          whose = ap (λ (s : SessionState). s.connection) is ∙ goes.whose;
          came = goes.came;
          gone = appends_more outset.known_gone link_gone known goes.sent bytes goes.gone writes;
          within = λ quiet.
              subst₂ (λ (l : List Answer) (b : List ℕ). IsReadWithin outset.session.connection l outset.greeting outset.came goes.more b) (append-nil all) joined
              (within_grows outset.session.connection all [] outset.greeting outset.came goes.more gone bytes (goes.within quiet));
        }

    -- all jobs were answered, and what could leave was let go
    pub answered_all : IsNoJob (next_of session) → IfSome (first_front session.waiting) (IsLookedAt outset now) → IsAnswered outset now session link_came link_gone
    answered_all none looked = record {
      goes = goes;
      asked = (none_left outset.base now.seen (outset.answers ++ goes.made) outset.greeting (outset.came ++ goes.more) (outset.gone ++ goes.sent) session goes.link none).jobs;
      looked = looked;
    }

-- ---- what a round comes to

-- a read that stopped it
pub stops_serve : (outset : Outset) (now : Seen) (session : SessionState) (link_came link_gone : Option (List ℕ)) (turn : LinkTurn) → IsPieceStop turn
    → Stops outset now session link_came link_gone turn → ServesLink outset now session link_came link_gone turn
stops_serve outset now session link_came link_gone turn.LinkFault stop stops = stops
stops_serve outset now session link_came link_gone turn.NoMemory stop stops = stops
stops_serve outset now session link_came link_gone turn.Again stop stops = absurd stop
stops_serve outset now session link_came link_gone turn.Closed stop stops = absurd stop

-- all jobs were asked, replies let go and bytes sent
pub round_answered : (outset : Outset) (now : Seen) (asked let_go sent : SessionState) (link_came link_gone : Option (List ℕ))
    → LinkGoesOn outset now sent link_came link_gone → IsNoJob (next_of asked) → let_go ≡ record asked { waiting = let_go.waiting; out = let_go.out }
    → sent ≡ record let_go { out = sent.out } → IfSome (first_front let_go.waiting) (IsLookedAt outset now) → IsAnswered outset now sent link_came link_gone
round_answered outset now asked let_go sent link_came link_gone goes none released wrote looked =
    answered_all outset now sent link_came link_gone goes
    (subst (λ (s : SessionState). IsNoJob (next_of s)) (sym wrote) (subst (λ (s : SessionState). IsNoJob (next_of s)) (sym released) none))
    (subst (λ (w : List Waiting). IfSome (first_front w) (IsLookedAt outset now)) (sym (ap (λ (s : SessionState). s.waiting) wrote)) looked)
