-- A vclock as a map of MessagePack: its components that aren't 0, in ascending order of replica id. Replica id 0 is omitted,
-- since its lsns are local to one node.
use Rattle.std.specs.Prelude.{ℕ, suc, List, [], ◌∷◌, ◌++◌, length, map, drop, ◌==◌, if◌then◌else◌}
use Rattle.std.specs.List.{concat}
use Rattle.mx_msgpack.specs.Spelling.{shortest_unsigned, map_head}

-- the components that aren't 0, each as its replica id and its lsn, the first of these lsns being this replica id's
abbrev pub components_from : ℕ → List ℕ → List (ℕ × ℕ)
components_from id [] = []
components_from id (lsn ∷ lsns) = if lsn == 0 then components_from (suc id) lsns else (id, lsn) ∷ components_from (suc id) lsns

-- a replica id and its lsn
abbrev pub component_bytes : ℕ × ℕ → List ℕ
component_bytes pair = shortest_unsigned pair.0 ++ shortest_unsigned pair.1

-- the whole map
abbrev pub clock_map : List ℕ → List ℕ
clock_map clock =
    let pairs = components_from 1 (drop 1 clock) in
    map_head (length pairs) ++ concat (map component_bytes pairs)
