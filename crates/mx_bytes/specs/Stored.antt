-- Bytes that are owned: a few in place, or a vector.
use Rattle.std.specs.Prelude.{ℕ, List}
use Rattle.mx_bytes.specs.declared.storage.Storage.{Storage}
use Rattle.mx_bytes.specs.declared.storage.Storage.TheVariants.{Short, Long}

-- the bytes of either form
abbrev pub stored_bytes : Storage → List ℕ
stored_bytes (Short bytes) = bytes
stored_bytes (Long bytes) = bytes.items
