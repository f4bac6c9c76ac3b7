use Rattle.std.proofs.Common.{subst, sym}
use Rattle.std.specs.List.{AllByRecursion}
use Rattle.mx_model.specs.Alone.{AllStandAlone}
use Rattle.mx_model.specs.HistoryStreams.{streams_in}
use Rattle.mx_model.specs.StreamHistories.{RanAlone, ended_in}
use Rattle.mx_model.specs.Streams.{Streams}
use Rattle.mx_model.proofs.HistoryLaws.{streams_legal, streams_of_history}
use Rattle.mx_model.proofs.StreamSteps.{history_ran}
use Rattle.mx_serial.proofs.transaction_laws.transactions_of_a_history_ran_alone.Goals as goal

pub returns-clause-streams : goal.returns-clause-streams
returns-clause-streams c = streams_of_history

pub returns-clause-legal : goal.returns-clause-legal
returns-clause-legal c = streams_legal

pub returns-clause-ran : goal.returns-clause-ran
returns-clause-ran c = λ base history legal.
    subst (λ (streams : Streams). AllByRecursion (RanAlone base streams.journal) (ended_in base (streams_in history))) (sym (streams_of_history base history))
    (history_ran base (streams_in history) (streams_legal base history legal)).1

pub returns-clause-still_there : goal.returns-clause-still_there
returns-clause-still_there c = λ base history legal.
    subst AllStandAlone (sym (streams_of_history base history)) (history_ran base (streams_in history) (streams_legal base history legal)).0
