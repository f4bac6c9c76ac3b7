-- Reading blocks: which block stands first, and where none does.
use Rattle.std.proofs.Common.{◌≡◌, ℕ, ◌+◌, ◌-◌, ◌≤◌, Bool, true, ◌&&◌, nat_eq, nat_le, List, [], ◌∷◌, ◌++◌, length, get_or, take, drop, Option, Some, None, refl, sym, ap, ◌∙◌, append_assoc, arith}
use Rattle.std.specs.Prelude.{if◌then◌else◌}
use Rattle.std.proofs.lemmas.Bool.{and_parts, and_from, cond-true, leb-true, le-leb}
use Rattle.std.proofs.lemmas.List.{take_at, drop_at, drop-drop, drop_all, take-append-drop, length-append}
use Rattle.std.specs.Cmp.Lexicographic.{pointwise, bytes_decides}
use Rattle.byteorder.specs.Endian.{big_number, big_bytes}
use Rattle.byteorder.specs.Numbers.{big_number-reads_back}
use Rattle.mx_msgpack.specs.Readers.{Advances, IsStable}
use Rattle.mx_msgpack.proofs.Options.{allowed, same_some}
use Rattle.mx_msgpack.proofs.ReaderLaws.{all_from_none, all_from_some}
use Rattle.mx_xlog.specs.declared.block.Block.TheVariants.{Rows, End, Empty, Torn}
use Rattle.mx_xlog.specs.Blocks.{IsData, head_size, block_of, end_marker, BeginsBlock, BeginsEnd, StandsAt}
use Rattle.mx_xlog.specs.Reading.{data_told, block_at, blocks_of}

block_length : (rows : List ℕ) → length (block_of rows) ≡ head_size + length rows
block_length rows = omega arith

-- the bytes are the block of this data
abbrev is_block : List ℕ → List ℕ → Bool
is_block bytes rows =
    nat_le 1 (length rows) && nat_le (length rows) 4194304 && pointwise nat_eq (take (head_size + length rows) bytes) (block_of rows)

abbrev block_told : List ℕ → List ℕ → Option (List ℕ × List ℕ)
block_told bytes rows = if is_block bytes rows then Some (rows, drop (head_size + length rows) bytes) else None

by_data : (bytes : List ℕ) → block_at bytes ≡ block_told bytes (data_told bytes)
unfolding block_at
by_data bytes = refl

-- ---- a block that stands first

length_read : (rows : List ℕ) → length rows ≤ 4194304 → big_number 4 (big_bytes 4 (length rows)) ≡ length rows
length_read rows bounded = big_number-reads_back 4 (length rows) [] (omega arith)

told : (rows rest : List ℕ) → length rows ≤ 4194304 → data_told (block_of rows ++ rest) ≡ rows
told rows rest bounded =
    ap (λ (size : ℕ). take size (rows ++ rest)) (length_read rows bounded) ∙ take_at rows rest (length rows) refl

is_whole : (rows rest : List ℕ) → IsData rows → is_block (block_of rows ++ rest) rows ≡ true
is_whole rows rest fits =
    let same = take_at (block_of rows) rest (head_size + length rows) (block_length rows) in
    and_from _ _
    (and_from _ _ (le-leb 1 (length rows) fits.some) (le-leb (length rows) 4194304 fits.bounded))
    ((bytes_decides (take (head_size + length rows) (block_of rows ++ rest)) (block_of rows)).1 same)

pub block_at_begins : (rows rest : List ℕ) → IsData rows → block_at (block_of rows ++ rest) ≡ Some (rows, rest)
block_at_begins rows rest fits =
    by_data (block_of rows ++ rest)
    ∙ ap (block_told (block_of rows ++ rest)) (told rows rest fits.bounded)
    ∙ cond-true (is_block (block_of rows ++ rest) rows) _ _ (is_whole rows rest fits)
    ∙ ap (λ (l : List ℕ). Some (rows, l)) (drop_at (block_of rows) rest (head_size + length rows) (block_length rows))

found_told : (bytes rows : List ℕ) (found : List ℕ × List ℕ) → block_told bytes rows ≡ Some found → IsData found.0 × (bytes ≡ block_of found.0 ++ found.1)
found_told bytes rows found e =
    let p = allowed (is_block bytes rows) (Some (rows, drop (head_size + length rows) bytes)) found e in
    let tests = and_parts _ _ p.0 in
    let sizes = and_parts _ _ tests.0 in
    let front = (bytes_decides (take (head_size + length rows) bytes) (block_of rows)).0 tests.1 in
    let whole : bytes ≡ block_of rows ++ drop (head_size + length rows) bytes =
    sym (take-append-drop (head_size + length rows) bytes) ∙ ap (λ (l : List ℕ). l ++ drop (head_size + length rows) bytes) front in
    rw (← same_some (rows, drop (head_size + length rows) bytes) found p.1)
    (record { some = leb-true 1 (length rows) sizes.0; bounded = leb-true (length rows) 4194304 sizes.1 }, whole)

pub block_at-found : (bytes rows rest : List ℕ) → block_at bytes ≡ Some (rows, rest) → IsData rows × (bytes ≡ block_of rows ++ rest)
block_at-found bytes rows rest e = found_told bytes (data_told bytes) (rows, rest) (sym (by_data bytes) ∙ e)

-- where no block begins the bytes, none is read
pub block_at-none : (bytes : List ℕ) → ((rows : List ℕ) → ¬ BeginsBlock rows bytes) → block_at bytes ≡ None
block_at-none bytes other = by_found (block_at bytes) refl
  where
    by_found : (found : Option (List ℕ × List ℕ)) → block_at bytes ≡ found → found ≡ None
    by_found None e = refl
    by_found (Some (rows, rest)) e = let p = block_at-found bytes rows rest e in absurd (other rows (rest, p.0, p.1))

pub block_at-Advances : Advances block_at
block_at-Advances bytes (rows, rest) e =
    let p = block_at-found bytes rows rest e in
    let l = ap length p.1 ∙ length-append (block_of rows) rest in
    let n = block_length rows in
    omega arith

pub block_at-IsStable : IsStable block_at
block_at-IsStable bytes more (rows, rest) e =
    let p = block_at-found bytes rows rest e in
    ap (λ (l : List ℕ). block_at (l ++ more)) p.1
    ∙ ap block_at (append_assoc (block_of rows) rest more)
    ∙ block_at_begins rows (rest ++ more) p.0

-- ---- blocks one after the other

pub blocks_of_block : (rows rest : List ℕ) → IsData rows → blocks_of (block_of rows ++ rest) ≡ rows ∷ blocks_of rest
blocks_of_block rows rest fits =
    ap (λ (x : List (List ℕ) × List ℕ). x.0)
    (all_from_some block_at block_at-Advances (block_of rows ++ rest) (rows, rest) (block_at_begins rows rest fits))

pub blocks_of_none : (bytes : List ℕ) → block_at bytes ≡ None → blocks_of bytes ≡ []
blocks_of_none bytes e = ap (λ (x : List (List ℕ) × List ℕ). x.0) (all_from_none block_at block_at-Advances bytes e)

nothing_begins : (rows : List ℕ) → ¬ BeginsBlock rows []
nothing_begins rows (rest, fits, e) = let l = ap length e in absurd (omega arith)

pub block_at_nothing : block_at [] ≡ None
block_at_nothing = block_at-none [] nothing_begins

marker_begins : (bytes rows : List ℕ) → BeginsEnd bytes → ¬ BeginsBlock rows bytes
marker_begins bytes rows (more, is) (rest, fits, e) =
    let second : ◌≡◌ {A = ℕ} 0x10 0xba = ap (λ (l : List ℕ). get_or l 1 0) (sym is ∙ e) in
    absurd (omega arith)

pub block_at_marker : (bytes : List ℕ) → BeginsEnd bytes → block_at bytes ≡ None
block_at_marker bytes ends = block_at-none bytes (λ rows. marker_begins bytes rows ends)

pub blocks_of_nothing : blocks_of [] ≡ []
blocks_of_nothing = blocks_of_none [] block_at_nothing

pub blocks_of_marker : blocks_of end_marker ≡ []
blocks_of_marker = blocks_of_none end_marker (block_at_marker end_marker ([], refl))

-- ---- what stands at a place

data_at : (bytes rows rest : List ℕ) (at from to : ℕ) → drop at bytes ≡ block_of rows ++ rest → from ≡ at + head_size → to ≡ from + length rows
    → (take (to - from) (drop from bytes) ≡ rows) × (drop to bytes ≡ rest)
data_at bytes rows rest at from to e f t =
    let held : drop from bytes ≡ rows ++ rest = ap (λ (k : ℕ). drop k bytes) f ∙ sym (drop-drop head_size at bytes) ∙ ap (drop head_size) e in
    let size : length rows ≡ to - from = omega arith in (
      ap (take (to - from)) held ∙ take_at rows rest (to - from) size,
      ap (λ (k : ℕ). drop k bytes) t ∙ sym (drop-drop (length rows) from bytes) ∙ ap (drop (length rows)) held ∙ drop_at rows rest (length rows) refl,
    )

-- what a block's place says of the bytes from it on, and of the blocks there
pub rows_stand : (bytes : List ℕ) (at from to : ℕ) → StandsAt bytes at (Rows from to)
    → block_at (drop at bytes) ≡ Some (take (to - from) (drop from bytes), drop to bytes)
rows_stand bytes at from to (rows, (rest, fits, e), f, t) =
    let p = data_at bytes rows rest at from to e f t in
    rw (p.0, p.1) (ap block_at e ∙ block_at_begins rows rest fits)

pub end_stands : (bytes : List ℕ) (at : ℕ) → StandsAt bytes at End → block_at (drop at bytes) ≡ None
end_stands bytes at ends = block_at_marker (drop at bytes) ends

pub empty_stands : (bytes : List ℕ) (at : ℕ) → StandsAt bytes at Empty → block_at (drop at bytes) ≡ None
empty_stands bytes at e = ap block_at (drop_all at bytes (omega arith)) ∙ block_at_nothing

pub torn_stands : (bytes : List ℕ) (at place : ℕ) → StandsAt bytes at (Torn place) → block_at (drop at bytes) ≡ None
torn_stands bytes at place (is, some, after, other) = block_at-none (drop at bytes) other

pub blocks_stand : (bytes : List ℕ) (at from to : ℕ) → StandsAt bytes at (Rows from to)
    → blocks_of (drop at bytes) ≡ take (to - from) (drop from bytes) ∷ blocks_of (drop to bytes)
blocks_stand bytes at from to stands =
    ap (λ (x : List (List ℕ) × List ℕ). x.0)
    (all_from_some block_at block_at-Advances (drop at bytes) (take (to - from) (drop from bytes), drop to bytes) (rows_stand bytes at from to stands))
