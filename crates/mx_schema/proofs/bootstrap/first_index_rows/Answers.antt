use Rattle.std.proofs.Common.{refl}
use Rattle.mx_msgpack.specs.Spelling.{array_head, map_head, shortest_unsigned, str_head}
use Rattle.mx_schema.proofs.bootstrap.first_index_rows.Goals as goal

pub returns : goal.returns
unfolding array_head map_head shortest_unsigned str_head
returns c = refl
