-- What the objects in memory hold.
use Rattle.std.specs.Prelude.{ℕ, List, Option, Some, take, drop}
use Rattle.mx_fake.specs.declared.source.MemorySource.{MemorySource}
use Rattle.mx_fake.specs.declared.sink.MemorySink.{MemorySink}
use Rattle.mx_fake.specs.declared.link.MemoryLink.{MemoryLink}

-- the bytes that a source hasn't given yet
abbrev pub source_left : MemorySource → Option (List ℕ)
source_left s = Some (drop s.at s.bytes.items)

-- how often a source failed
abbrev pub source_faults : MemorySource → ℕ
source_faults s = s.calls.faults

-- the bytes that a sink holds
abbrev pub sink_contents : MemorySink → Option (List ℕ)
sink_contents s = Some s.bytes.items

-- the bytes that a sink passed on
abbrev pub sink_passed : MemorySink → Option (List ℕ)
sink_passed s = Some (take s.passed s.bytes.items)

-- how often a sink failed
abbrev pub sink_faults : MemorySink → ℕ
sink_faults s = s.calls.faults

-- the bytes that a link hasn't given yet
abbrev pub link_left : MemoryLink → Option (List ℕ)
link_left l = Some (drop l.at l.sends.items)

-- the bytes that were read from a link
abbrev pub link_came : MemoryLink → Option (List ℕ)
link_came l = Some (take l.at l.sends.items)

-- the bytes that were written to a link
abbrev pub link_gone : MemoryLink → Option (List ℕ)
link_gone l = Some l.taken.items

-- how often a link failed
abbrev pub link_faults : MemoryLink → ℕ
link_faults l = l.calls.calls.faults
