-- The states and faults of a directory in memory.
use Rattle.std.specs.Prelude.{ℕ, List, Option, Some}
use Rattle.mx_outside.specs.Disks.{Disk}
use Rattle.mx_fake.specs.Changes.{states_after}
use Rattle.mx_fake.specs.declared.dir.MemoryDir.{MemoryDir}

-- its states, newest first
abbrev pub dir_states : MemoryDir → Option (List Disk)
dir_states d = Some (states_after d.changes.items)

-- how often a call failed
abbrev pub dir_faults : MemoryDir → ℕ
dir_faults d = d.calls.faults
