-- How the values of open transactions are told apart, which only their type needs.
use Rattle.std.specs.Coded.{Coded}
use Rattle.mx_space.specs.contracts.kept_states.KeptStates as kept
use Rattle.mx_space.specs.contracts.own_changes.Overlay as overlay
use Rattle.mx_space.specs.declared.kept_states.KeptStates.{KeptStates}
use Rattle.mx_space.specs.declared.own_changes.Overlay.{Overlay}
use Rattle.mx_txn.specs.contracts.slots.Slots as slots
use Rattle.mx_txn.specs.Slots.{Txns}

abbrev pub txns_code : Coded Txns
txns_code = slots.the_row.coded

abbrev pub kept_code : Coded KeptStates
kept_code = kept.the_row.coded

abbrev pub overlay_code : Coded Overlay
overlay_code = overlay.the_row.coded
