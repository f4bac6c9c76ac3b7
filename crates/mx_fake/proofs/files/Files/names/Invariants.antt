use Rattle.std.proofs.Common.{◌≡◌, ◌++◌, map, string_bytes}
use Rattle.std.specs.FinMap as map
use Rattle.mx_fake.proofs.files.Files.names.Given as goal

abbrev pub invariant-loop-name : goal.invariant-loop-name
invariant-loop-name l = l.names ++ map string_bytes l.name-iterator ≡ map.keys l.fn.self
