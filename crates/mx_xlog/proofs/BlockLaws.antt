-- What a block's head says of the bytes after it.
use Rattle.std.proofs.Common.{◌≡◌, ℕ, ◌+◌, ◌≤◌, Bool, true, false, not, nat_eq, List, ◌++◌, length, take, drop, refl, sym, ap, ◌∙◌, arith}
use Rattle.std.proofs.lemmas.List.{append_assoc, length-append, length-take, take-append-drop, take_at, drop_at}
use Rattle.std.specs.Cmp.Lexicographic.{pointwise, same_text, other_text}
use Rattle.std.specs.List.{starts_with}
use Rattle.mx_xlog.specs.Blocks.{BeginsBlock, BeginsEnd, HasRoom, IsBegun, IsData, block_of, end_marker}
use Rattle.mx_xlog.specs.Checksums.{checksum_of}
use Rattle.mx_xlog.specs.Heads.{block_head}

-- a head that says this length and this checksum, before data that has them
pub block_found : (bytes head rest rows : List ℕ) (size sum : ℕ) → head ≡ take 19 bytes → rest ≡ drop 19 bytes → head ≡ block_head size sum
    → 1 ≤ size → size ≤ 4194304 → size ≤ length rest → rows ≡ take size rest → sum ≡ checksum_of rows → BeginsBlock rows bytes
block_found bytes head rest rows size sum front back says some bounded within taken summed =
    let long : length rows ≡ size = ap length taken ∙ length-take size rest ∙ omega arith in
    let whole : bytes ≡ block_head size sum ++ take size rest ++ drop size rest =
    sym (take-append-drop 19 bytes) ∙ rw (← front, ← back, says, take-append-drop size rest) refl in (
      drop size rest,
      record { some = omega arith; bounded = omega arith },
      whole ∙ rw (← taken, ← long, summed) refl,
    )

-- data behind the room of a block that was begun
pub data_behind : (at : ℕ) (before begun rows bytes : List ℕ) → at ≡ length before → IsBegun before begun → bytes ≡ begun ++ rows → IsData rows
    → HasRoom at before rows bytes
data_behind at before begun rows bytes place (room, sized, is) more sound = record {
  room = room;
  parts = more ∙ ap (λ l. l ++ rows) is ∙ append_assoc before room rows;
  place = sym place;
  size = sized;
  sound = sound;
}

-- room that has got its head is a block with the data after it
pub block_ended : (at : ℕ) (before rows bytes rest head after : List ℕ) → HasRoom at before rows bytes → rest ≡ drop (at + 19) bytes
    → head ≡ block_head (length rest) (checksum_of rest) → after ≡ take at bytes ++ (head ++ drop (at + length head) bytes) → after ≡ before ++ block_of rows
block_ended at before rows bytes rest head after room back says written =
    let front : take at bytes ≡ before = ap (take at) room.parts ∙ take_at before (room.room ++ rows) at room.place in
    let long : length (before ++ room.room) ≡ at + 19 = length-append before room.room ∙ omega (arith, room.place, room.size) in
    let behind : drop (at + 19) bytes ≡ rows =
    ap (drop (at + 19)) (room.parts ∙ sym (append_assoc before room.room rows)) ∙ drop_at (before ++ room.room) rows (at + 19) long in
    let same : rest ≡ rows = back ∙ behind in
    let sized : length head ≡ 19 = ap length says in
    written ∙ ap (λ l. l ++ (head ++ drop (at + length head) bytes)) front
    ∙ ap (λ n. before ++ (head ++ drop (at + n) bytes)) sized ∙ ap (λ l. before ++ (head ++ l)) behind
    ∙ ap (λ l. before ++ (l ++ rows)) (says ∙ ap (λ l. block_head (length l) (checksum_of l)) same)

-- bytes that a comparison found equal
not_apart : (equal : Bool) → false ≡ not equal → true ≡ equal
not_apart true h = refl
not_apart false h = cc

pub same_bytes : (xs ys : List ℕ) → false ≡ not (pointwise nat_eq xs ys) → xs ≡ ys
same_bytes xs ys h = same_text xs ys (not_apart (pointwise nat_eq xs ys) h)

-- bytes that a comparison with the marker of a file's end found other
pub no_end : (bytes : List ℕ) → false ≡ starts_with nat_eq bytes end_marker → ¬ BeginsEnd bytes
no_end bytes other found = other_text end_marker (take 4 bytes) other (sym (ap (take 4) found.1))
