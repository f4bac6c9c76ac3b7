-- Reading blocks one after the other.
use Rattle.std.specs.Prelude.{ℕ, ◌+◌, List, length, take, drop, Some, None, ◌&&◌, nat_eq, nat_le, if◌then◌else◌}
use Rattle.std.specs.Cmp.Lexicographic.{pointwise}
use Rattle.byteorder.specs.Endian.{big_number}
use Rattle.mx_msgpack.specs.Readers.{Reader, all_from}
use Rattle.mx_xlog.specs.Blocks.{max_data_size, head_size, block_of}

-- the bytes where the first block has its data, by the length before them
abbrev pub data_told : List ℕ → List ℕ
data_told bytes = take (big_number 4 (take 4 (drop 5 bytes))) (drop head_size bytes)

-- the data of the first block, and the bytes after it: the bytes begin with the block of the data that the length gives
unfoldable pub block_at : Reader (List ℕ)
block_at bytes =
    let rows = data_told bytes in
    if nat_le 1 (length rows) && nat_le (length rows) max_data_size && pointwise nat_eq (take (head_size + length rows) bytes) (block_of rows)
    then Some (rows, drop (head_size + length rows) bytes) else None

-- the data of the blocks that the bytes begin with, up to the first place that is no block
abbrev pub blocks_of : List ℕ → List (List ℕ)
blocks_of bytes = (all_from block_at bytes).0
