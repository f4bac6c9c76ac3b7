-- How one unit more, or a cause that ends the run, changes how far the run has come.
use Rattle.std.proofs.Common.{ℕ, List, ◌++◌, Option, Some, None, sym, ap, ◌∙◌, subst, append_assoc, ◌≡◌, ◌+◌, ◌-◌, ◌<◌, ◌≤◌, [], ◌∷◌, length, drop, refl, arith, length-append}
use Rattle.std.specs.Prelude.{Ok, Err, IsSomeAnd}
use Rattle.std.proofs.lemmas.List.{append-nil, length-drop, nil_from_length}
use Rattle.mx_msgpack.specs.Readers.{all_from}
use Rattle.mx_outside.specs.Passed.{IsAllOf, PassesOn}
use Rattle.mx_msgpack.proofs.Options.{same_some}
use Rattle.mx_top.specs.Runs.{PassedAtLeast, place_before, AtCompletion, AtReadFault, AnswersRead, Held, IsOutput, OutputSeen, AreStepsUntil}
use mathlib.Core.List.{IsPrefix}
use Rattle.mx_outside.specs.Disks.{Disk}
use Rattle.mx_node.specs.declared.out_units.OutUnit.{OutUnit}
use Rattle.mx_model.specs.Histories.{History}
use Rattle.mx_serial.specs.Order.{Step, order_in}
use Rattle.mx_node.specs.declared.single.Single.{Single}
use Rattle.mx_top.specs.Units.{UnitHead, content_at, unit_at, unit_by, units_of}
use Rattle.mx_node.specs.Inputs.{InputUnit}
use Rattle.mx_node.specs.Order.{AreStepsOf, departures_of}
use Rattle.mx_node.specs.Starts.{Start}
use Rattle.mx_top.specs.Stops.{IsDiskStop}
use Rattle.mx_top.specs.TraceOutput.{units_text}
use Rattle.mx_node.specs.Serving.{Serves}
use Rattle.mx_top.specs.Progress.{WritesUnit, StopsAt, ReadTo, Consumed, Wrote, WroteAll, UnitsSeen, LastStep, NextStep}
use Rattle.mx_top.specs.declared.status.Status.{Status}
use Rattle.mx_top.specs.declared.stop.Stop.{Stop}
use Rattle.mx_top.specs.declared.stop.Stop.TheVariants.{BadInput, ReadFault, WriteFault, DiskFault, NoMemory}
use Rattle.mx_node.specs.Interrupted.{IsInterrupted}
use Rattle.mx_directory.specs.Survival.{Lasts}
use Rattle.mx_node.proofs.KeepLaws.{ready_keeps}
use Rattle.mx_store.proofs.StoreLaws.{lasts_none, lasts_on}
use Rattle.mx_node.proofs.LastingLaws.{breaks_as, breaks_now, breaks_on}
use Rattle.mx_node.specs.Outputs.{AnswersAll}
use Rattle.mx_node.proofs.AnsweringLaws.{answers-push}
use Rattle.mx_top.proofs.UnitLaws.{Read, units_text-append, unit_some, unit_none, unit_at-nil, units_of-none, units_of-some, units_of-begun}
use Rattle.mx_top.proofs.HeadLaws.{content_at-IsStable}
use Rattle.mx_top.proofs.ConsumedLaws.{consumed_all, consumed_on}
use Rattle.mx_top.specs.declared.status.Status.TheVariants as status
use Rattle.mx_node.proofs.OrderLaws.{are_order, order_are-push, order_by, order_of, whole_order_are, whole_order_of}

-- ---- what is passed on in two calls, one after the other

pub passes_on : (before middle after : Option (List ℕ)) → PassesOn before middle → PassesOn middle after → PassesOn before after
passes_on None middle after first second = subst (λ m. PassesOn m after) first second
passes_on (Some bytes) middle after (more, is) second = by_middle (subst (λ m. PassesOn m after) is second)
  where
    by_middle : PassesOn (Some (bytes ++ more)) after → PassesOn (Some bytes) after
    by_middle (others, on) = (more ++ others, on ∙ ap (λ (l : List ℕ). Some l) (append_assoc bytes more others))

-- all that was held before a call begins what is passed on after it
pub passed_at_least : (passed passed_now : Option (List ℕ)) (bytes : List ℕ) → IsAllOf passed (Some bytes) → PassesOn passed passed_now
    → PassedAtLeast passed_now bytes
passed_at_least None passed_now bytes all on = subst (λ p. PassedAtLeast p bytes) (sym on) tt
passed_at_least (Some passed) passed_now bytes all (more, on) =
    subst (λ p. PassedAtLeast p bytes) (sym on) (more, ap (λ (l : List ℕ). l ++ more) (same_some bytes passed all))

-- ---- how far the input was read

-- no unit stands first in what is left
all_read : (input rest : List ℕ) (place : ℕ) (units : List InputUnit) → ReadTo input rest place units → content_at place rest ≡ None
    → units_of input ≡ (units, rest)
all_read input rest place units read none = units_of-none input rest units read.all (unit_none input rest place read.at none)

-- the units so far begin those of the input
begun_so_far : (input rest : List ℕ) (place : ℕ) (units : List InputUnit) → ReadTo input rest place units → IsPrefix units (units_of input).0
begun_so_far input rest place units read = units_of-begun input rest units read.all

-- and so they do with the one that stands first in what is left
begun_with : (input rest after : List ℕ) (place : ℕ) (units : List InputUnit) (unit : InputUnit) → ReadTo input rest place units
    → content_at place rest ≡ Some (unit, after) → IsPrefix (units ++ unit ∷ []) (units_of input).0
begun_with input rest after place units unit read found =
    units_of-begun input after (units ++ unit ∷ [])
    (units_of-some input rest after units unit read.all (unit_some input rest after unit place read.at found))

-- ---- which units the bytes hold that were read

-- the units so far are the first ones of these bytes
answers_read : (status : Status) → ((P : Type 0) → AtReadFault status P) → (input bytes rest left : List ℕ) (units : List InputUnit) → input ≡ bytes ++ left
    → Read bytes rest units → AnswersRead status units input left
answers_read status quiet input bytes rest left units all read = record {
  read = bytes;
  all = all;
  waiting = (all_from (unit_at (length bytes)) rest).0;
  whole = ap (λ (x : List InputUnit × List ℕ). x.0) read;
  awaited = quiet _;
}

-- and where none waits they are all of them
answers_all_read : (input waiting left : List ℕ) (place : ℕ) (units : List InputUnit) → Consumed input waiting left place units → content_at place waiting ≡ None
    → AnswersRead status.ReadFault units input left
answers_all_read input waiting left place units consumed none = record {
  read = consumed.bytes;
  all = consumed.all;
  waiting = [];
  whole = ap (λ (x : List InputUnit × List ℕ). x.0) (all_read consumed.bytes waiting place units consumed.read none) ∙ sym (append-nil units);
  awaited = refl;
}

-- what is left is known
known_rest : (status : Status) (units : List InputUnit) (input more : List ℕ) (left : Option (List ℕ)) → left ≡ Some more → AnswersRead status units input more
    → (rest : List ℕ) → left ≡ Some rest → AnswersRead status units input rest
known_rest status units input more left told read rest is =
    subst (λ (l : List ℕ). AnswersRead status units input l) (same_some more rest (sym told ∙ is)) read

-- where the input didn't fail, another status says the same of it
pub answers_read_at : (ended : Status) → ((P : Type 0) → AtReadFault ended P) → (units : List InputUnit) (input : List ℕ) (left : Option (List ℕ))
    → ((rest : List ℕ) → left ≡ Some rest → AnswersRead status.Ok units input rest) → (rest : List ℕ) → left ≡ Some rest → AnswersRead ended units input rest
answers_read_at ended quiet units input left consumed rest is =
    let seen = consumed rest is in
    record { read = seen.read; all = seen.all; waiting = seen.waiting; whole = seen.whole; awaited = quiet _ }

-- ---- where the run stops

until_begins : (units others : List InputUnit) → (steps : List Step) × AreStepsUntil units others steps × IsPrefix (order_of units) steps
until_begins units [] = (whole_order_of units, whole_order_are units (whole_order_of units) refl, (departures_of units, refl))
until_begins units (unit ∷ others) =
    let steps = order_of units ++ order_by units unit in (steps, order_are-push units unit steps refl, (order_by units unit, refl))

-- nothing was done with the next unit
pub untouched : (start : Start) (server : Single) (units others : List InputUnit) (history : History) (states : Option (List Disk))
    → Serves start server units history states → IsInterrupted start.base history (AreStepsUntil units others) states states
untouched start server units others history states serves =
    let (steps, are, begins) = until_begins units others in
    breaks_as start.base history steps (AreStepsUntil units others) states states are
    (breaks_now start.base [] history steps states states serves.ready.behind.stands.legal
    (subst (λ (l : List Step). IsPrefix l steps) (sym (are_order units (order_in history) serves.order)) begins)
    (lasts_none start.base history states) (ready_keeps start.base history server.engine server.journal states serves.ready))

-- at a status that is no completion nothing is said of one, and where the output didn't fail all of it is there
pub record IsWhole (status : Status) : Type 1 where
  pub early : (P : Type 0) → AtCompletion status P
  pub whole : (start : Start) (units : List InputUnit) (history : History) (sent : List OutUnit) (before : List ℕ) (passed passed_now : Option (List ℕ))
      → IsOutput status start units history sent before (units_text sent) passed passed_now

-- where the run stopped after these units, all of the output for them is there
pub stopped_after : (status : Status) → IsWhole status → (start : Start) (input : List ℕ) (left : Option (List ℕ)) (server : Single)
    (units others : List InputUnit) (output old : Held) (first states now : Option (List Disk)) → units ++ others ≡ (units_of input).0
    → ((rest : List ℕ) → left ≡ Some rest → AnswersRead status units input rest)
    → (wrote : Wrote start server units output old first states) → IsInterrupted start.base wrote.history (AreStepsUntil units others) states now
    → UnitsSeen status start input left output old first now
stopped_after status is start input left server units others output old first states now all consumed wrote stops =
    let stopped = breaks_on start.base [] wrote.history (AreStepsUntil units others) first states now wrote.lasts stops in
    record {
      units = units;
      others = others;
      all = all;
      consumed = consumed;
      answered = wrote.history;
      sent = wrote.sent;
      answers = wrote.answers;
      gate = wrote.serves.ready.gate;
      stopped = stopped;
      complete = is.early _;
      holds = is.early _;
      written = λ before was.
          subst (λ o. IsSomeAnd o (λ after. OutputSeen status start units wrote.history (stopped.later ++ wrote.history) wrote.sent before after
          output.passed old.passed))
          (sym (wrote.written before was)) (record {
            written = units_text wrote.sent;
            output = refl;
            is = is.whole start units wrote.history wrote.sent before output.passed old.passed;
            determined = is.early _;
          });
    }

pub read_fault : IsWhole status.ReadFault
read_fault = record { early = λ P. tt; whole = λ start units history sent before passed passed_now. refl }

pub disk_fault : IsWhole status.DiskFault
disk_fault = record { early = λ P. tt; whole = λ start units history sent before passed passed_now. refl }

pub no_memory : IsWhole status.NoMemory
no_memory = record { early = λ P. tt; whole = λ start units history sent before passed passed_now. refl }

-- ---- the end of the units

fault_at : (input rest : List ℕ) (place : ℕ) → 0 < length rest → place + length rest ≡ length input → place_before input rest ≡ Some place
fault_at input [] place some at = absurd (omega arith)
fault_at input (byte ∷ rest) place some at = let here : length input - length (byte ∷ rest) ≡ place = omega arith in ap (λ n. Some n) here

-- the units that were answered are all of the input's
all_wrote : (start : Start) (input waiting more rest : List ℕ) (place : ℕ) (server : Single) (units : List InputUnit) (output old : Held)
    (first states : Option (List Disk)) → units_of input ≡ (units, rest) → Consumed input waiting more place units
    → Wrote start server units output old first states → WroteAll start input (Some more) server output old first states
all_wrote start input waiting more rest place server units output old first states all consumed wrote =
    let same : (units_of input).0 ≡ units = ap (λ (x : List InputUnit × List ℕ). x.0) all in
    let read = answers_read status.Ok (λ P. tt) input consumed.bytes waiting more units consumed.all consumed.read.all in
    record {
      wrote = subst (λ (u : List InputUnit). Wrote start server u output old first states) (sym same) wrote;
      consumed = known_rest status.Ok (units_of input).0 input more (Some more) refl
          (subst (λ (u : List InputUnit). AnswersRead status.Ok u input more) (sym same) read);
    }

-- nothing is left
pub ends_well : (input waiting more : List ℕ) (place : ℕ) (server : Single) (units : List InputUnit) (old : Held) (states : Option (List Disk))
    → Consumed input waiting more place units → waiting ++ more ≡ [] → LastStep (Ok tt) input (Some more) server server units old old states states
ends_well input waiting more place server units old states consumed none =
    let read = consumed_all input waiting more place units consumed in
    let all : units_of input ≡ (units, []) =
    units_of-none input (waiting ++ more) units read.all (ap (unit_at (length input)) none ∙ unit_at-nil (length input))
    ∙ ap (λ (r : List ℕ). (units, r)) none in
    let long = ap length none in
    let parts = length-append waiting more in
    let empty : more ≡ [] = nil_from_length more (omega arith) in
    record {
      place = (ap (λ (x : List InputUnit × List ℕ). place_before input x.1) all, ap (λ (m : List ℕ). Some m) empty);
      output = λ start output first wrote. all_wrote start input waiting more [] place server units output old first states all consumed wrote;
    }

-- what is left begins with no unit
ends_malformed : (input waiting more : List ℕ) (place : ℕ) (server : Single) (units : List InputUnit) (old : Held) (states : Option (List Disk))
    → Consumed input waiting more place units → 0 < length (waiting ++ more) → content_at place (waiting ++ more) ≡ None
    → LastStep (Err (BadInput place)) input (Some more) server server units old old states states
ends_malformed input waiting more place server units old states consumed some none =
    let rest = waiting ++ more in
    let read = consumed_all input waiting more place units consumed in
    let all = all_read input rest place units read none in
    record {
      place = ap (λ (x : List InputUnit × List ℕ). place_before input x.1) all ∙ fault_at input rest place some read.at;
      output = λ start output first wrote. all_wrote start input waiting more rest place server units output old first states all consumed wrote;
    }

-- reading stopped the run, and nothing was done with the next unit
unit_unread : (status : Status) → IsWhole status → (input waiting more : List ℕ) (place : ℕ) (server : Single) (units : List InputUnit) (old : Held)
    (states : Option (List Disk)) → Consumed input waiting more place units → AnswersRead status units input more
    → (start : Start) (output : Held) (first : Option (List Disk)) → Wrote start server units output old first states
    → UnitsSeen status start input (Some more) output old first states
unit_unread status is input waiting more place server units old states consumed read start output first wrote =
    let (others, all) = begun_so_far input (waiting ++ more) place units (consumed_all input waiting more place units consumed) in
    stopped_after status is start input (Some more) server units others output old first states states all
    (known_rest status units input more (Some more) refl read) wrote (untouched start server units others wrote.history states wrote.serves)

-- reading the next unit stopped the run
pub ends_stopped : (input waiting more : List ℕ) (place : ℕ) (server : Single) (units : List InputUnit) (old : Held)
    (states : Option (List Disk)) (stop : Stop) → Consumed input waiting more place units → StopsAt place waiting more stop
    → LastStep (Err stop) input (Some more) server server units old old states states
ends_stopped input waiting more place server units old states (BadInput at) consumed (here, none, some) =
    subst (λ p. LastStep (Err (BadInput p)) input (Some more) server server units old old states states) (sym here)
    (ends_malformed input waiting more place server units old states consumed some none)
ends_stopped input waiting more place server units old states ReadFault consumed none = record {
  place = tt;
  output = unit_unread status.ReadFault read_fault input waiting more place server units old states consumed
      (answers_all_read input waiting more place units consumed none);
}
ends_stopped input waiting more place server units old states WriteFault consumed stops = absurd stops
ends_stopped input waiting more place server units old states DiskFault consumed stops = absurd stops
ends_stopped input waiting more place server units old states NoMemory consumed stops = record {
  place = tt;
  output = unit_unread status.NoMemory no_memory input waiting more place server units old states consumed
      (answers_read status.NoMemory (λ P. tt) input consumed.bytes waiting more units consumed.all consumed.read.all);
}

-- ---- the next unit

-- the unit by other names of its bytes and of the bytes after it
pub same_unit : (place : ℕ) (bytes content part behind after : List ℕ) (head : UnitHead) → content_at place bytes ≡ Some (unit_by head content, behind)
    → part ≡ content → after ≡ behind → content_at place bytes ≡ Some (unit_by head part, after)
same_unit place bytes content part behind after head found same rest =
    found ∙ ap (λ (l : List ℕ). Some (unit_by head l, behind)) (sym same) ∙ ap (λ (l : List ℕ). Some (unit_by head part, l)) (sym rest)

-- the units so far and the next one, which waits whole, begin those of the input
begun_here : (input waiting more behind : List ℕ) (place : ℕ) (units : List InputUnit) (unit : InputUnit) → Consumed input waiting more place units
    → content_at place waiting ≡ Some (unit, behind) → IsPrefix (units ++ unit ∷ []) (units_of input).0
begun_here input waiting more behind place units unit consumed found =
    begun_with input (waiting ++ more) (behind ++ more) place units unit (consumed_all input waiting more place units consumed)
    (content_at-IsStable place waiting more (unit, behind) found)

-- answering it stopped the run
pub ends_unanswered : (input waiting more behind : List ℕ) (unit : InputUnit) (place : ℕ) (server after : Single) (units : List InputUnit)
    (old : Held) (states now : Option (List Disk))
    (stop : Stop) → Consumed input waiting more place units → content_at place waiting ≡ Some (unit, behind) → IsDiskStop stop
    → ((start : Start) (history : History) → Serves start server units history states
    → IsInterrupted start.base history (AreStepsOf (units ++ unit ∷ [])) states now)
    → LastStep (Err stop) input (Some more) server after units old old states now
ends_unanswered input waiting more behind unit place server after units old states now stop consumed found stops breaks = by_stop stop stops
  where
    seen : (status : Status) → IsWhole status → ((P : Type 0) → AtReadFault status P) → (start : Start) (output : Held) (first : Option (List Disk))
        → Wrote start server units output old first states → UnitsSeen status start input (Some more) output old first now
    seen status is quiet start output first wrote =
        let (others, all) = begun_here input waiting more behind place units unit consumed found in
        stopped_after status is start input (Some more) server units (unit ∷ others) output old first states now
        (sym (append_assoc units (unit ∷ []) others) ∙ all)
        (known_rest status units input more (Some more) refl (answers_read status quiet input consumed.bytes waiting more units consumed.all consumed.read.all))
        wrote (breaks start wrote.history wrote.serves)

    by_stop : (stop : Stop) → IsDiskStop stop → LastStep (Err stop) input (Some more) server after units old old states now
    by_stop (BadInput at) stops = absurd stops
    by_stop ReadFault stops = absurd stops
    by_stop WriteFault stops = absurd stops
    by_stop DiskFault stops = record { place = tt; output = seen status.DiskFault disk_fault (λ P. tt) }
    by_stop NoMemory stops = record { place = tt; output = seen status.NoMemory no_memory (λ P. tt) }

-- all commits last, where one unit more was answered
lasts_took : {after : Single} {units : List InputUnit} {unit : InputUnit} (start : Start) (history : History) (first states now : Option (List Disk)) (out : List ℕ)
    → Lasts start.base history first states → (step : WritesUnit start after units history unit out states now) → Lasts start.base step.answered.history first now
lasts_took start history first states now out lasts step =
    let took = step.answered in
    subst (λ h. Lasts start.base h first now) (sym took.since)
    (lasts_on start.base took.more history first states now lasts (subst (λ h. Lasts start.base h states now) took.since took.lasts))

-- one unit more is answered
answers_took : {after : Single} {units : List InputUnit} {unit : InputUnit} {states now : Option (List Disk)} (start : Start) (history : History) (sent : List OutUnit)
    (out : List ℕ) → AnswersAll start units history sent → (step : WritesUnit start after units history unit out states now)
    → AnswersAll start (units ++ unit ∷ []) step.answered.history (sent ++ step.sent)
answers_took {units = units} {unit = unit} start history sent out answers step =
    let took = step.answered in
    answers-push start units unit history took.more took.history sent step.sent answers took.since took.order took.is

-- it was answered, and its output was written in part
pub ends_unwritten : (input waiting more behind out : List ℕ) (unit : InputUnit) (place : ℕ) (server after : Single) (units : List InputUnit)
    (old new : Held) (states now : Option (List Disk))
    → Consumed input waiting more place units → content_at place waiting ≡ Some (unit, behind)
    → ((start : Start) (history : History) → Serves start server units history states → WritesUnit start after units history unit out states now)
    → ((before : List ℕ) → old.contents ≡ Some before → (written : List ℕ) × (new.contents ≡ Some (before ++ written)) × IsPrefix written out)
    → PassesOn old.passed new.passed
    → LastStep (Err WriteFault) input (Some more) server after units old new states now
ends_unwritten input waiting more behind out unit place server after units old new states now consumed found took part passes = record {
  place = tt;
  output = λ start output first wrote.
      let step = took start wrote.history wrote.serves in
      let answered = step.answered in
      let (others, all) = begun_here input waiting more behind place units unit consumed found in
      let done = units ++ unit ∷ [] in
      let read : Read consumed.bytes behind done = units_of-some consumed.bytes waiting behind units unit consumed.read.all
      (unit_some consumed.bytes waiting behind unit place consumed.read.at found) in
      let stopped = breaks_on start.base [] answered.history (AreStepsUntil done others) first now now
      (lasts_took start wrote.history first states now out wrote.lasts step) (untouched start after done others answered.history now answered.serves) in
      let was_sent = units_text wrote.sent in
      let text : units_text (wrote.sent ++ step.sent) ≡ was_sent ++ out =
      units_text-append wrote.sent step.sent ∙ ap (λ (l : List ℕ). was_sent ++ l) (sym step.text) in
      record {
        units = done;
        others = others;
        all = all;
        consumed = known_rest status.WriteFault done input more (Some more) refl
            (answers_read status.WriteFault (λ P. tt) input consumed.bytes behind more done consumed.all read);
        answered = answered.history;
        sent = wrote.sent ++ step.sent;
        answers = answers_took start wrote.history wrote.sent out wrote.answers step;
        gate = answered.serves.ready.gate;
        stopped = stopped;
        complete = tt;
        holds = tt;
        written = λ before was.
            let held_then = wrote.written before was in
            let (some, is, begins) = part (before ++ was_sent) held_then in
            subst (λ o. IsSomeAnd o (λ after. OutputSeen status.WriteFault start done answered.history (stopped.later ++ answered.history) (wrote.sent ++ step.sent)
            before after output.passed new.passed))
            (sym (is ∙ ap (λ l. Some l) (append_assoc before was_sent some))) (record {
              written = was_sent ++ some;
              output = refl;
              is = record {
                first = units;
                last = unit;
                all = refl;
                earlier = wrote.history;
                since = (answered.more, answered.since);
                was = wrote.sent;
                answers = wrote.answers;
                grows = ap (λ (l : List OutUnit). wrote.sent ++ l) answered.is;
                whole = (some, refl);
                part = (begins.0, append_assoc was_sent some begins.0 ∙ ap (λ l. was_sent ++ l) begins.1 ∙ sym text);
                flushed = λ passed.
                    passed_at_least old.passed new.passed (before ++ was_sent)
                    (subst (IsAllOf old.passed) held_then (wrote.passed (subst (IsAllOf output.passed) (sym was) passed))) passes;
              };
              determined = tt;
            });
      };
}

-- it was answered, and all of its output was written and passed on
pub goes_on : (input waiting more behind out : List ℕ) (unit : InputUnit) (place next : ℕ) (server after : Single) (units : List InputUnit)
    (old new : Held) (states now : Option (List Disk))
    → Consumed input waiting more place units → content_at place waiting ≡ Some (unit, behind)
    → next + length behind ≡ place + length waiting
    → ((start : Start) (history : History) → Serves start server units history states → WritesUnit start after units history unit out states now)
    → ((before : List ℕ) → old.contents ≡ Some before → new.contents ≡ Some (before ++ out)) → IsAllOf new.passed new.contents
    → NextStep input behind more next server after units old new states now
goes_on input waiting more behind out unit place next server after units old new states now consumed found moved took all passed = record {
  unit = unit;
  consumed = consumed_on input waiting more behind place next units unit consumed found moved;
  wrote = λ start output first wrote.
      let step = took start wrote.history wrote.serves in
      let was_sent = units_text wrote.sent in
      record {
        history = step.answered.history;
        sent = wrote.sent ++ step.sent;
        serves = step.answered.serves;
        answers = answers_took start wrote.history wrote.sent out wrote.answers step;
        lasts = lasts_took start wrote.history first states now out wrote.lasts step;
        written = λ before was. all (before ++ was_sent) (wrote.written before was)
            ∙ ap (λ l. Some l) (append_assoc before was_sent out
            ∙ ap (λ l. before ++ l) (ap (λ (l : List ℕ). was_sent ++ l) step.text ∙ sym (units_text-append wrote.sent step.sent)));
        passed = λ _. passed;
      };
}

-- the place after a unit
pub moves : (place size : ℕ) (waiting after : List ℕ) → after ≡ drop (9 + size) waiting → 9 + size ≤ length waiting
    → (place + (9 + size)) + length after ≡ place + length waiting
moves place size waiting after gone fits =
    let d = ap length gone ∙ length-drop (9 + size) waiting in
    omega arith
