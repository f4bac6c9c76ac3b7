-- The requests and disconnects of a history, with their replies: what becomes of its transactions follows from these alone.
use Rattle.std.specs.Prelude.{List, [], ◌∷◌, ◌++◌}
use Rattle.mx_request.specs.declared.request.Ask.TheVariants as ask
use Rattle.mx_model.specs.Histories.{Asked, Entry, History, Left}
use Rattle.mx_model.specs.StreamHistories.{Disconnected, Requested, StreamEntry, StreamHistory}

-- the request or the disconnect of a step
abbrev pub stream_entries : Entry → List StreamEntry
stream_entries (Asked name (ask.Request request) reply) = Requested name request reply ∷ []
stream_entries (Left connection) = Disconnected connection ∷ []
stream_entries _ = []

-- those of a history, the newest first
abbrev pub streams_in : History → StreamHistory
streams_in [] = []
streams_in (entry ∷ earlier) = stream_entries entry ++ streams_in earlier
