-- Blocks as they are read are the blocks that the bytes begin with.
use Rattle.std.proofs.Common.{◌≡◌, ℕ, zero, suc, ◌<◌, ◌≤◌, List, [], ◌∷◌, ◌++◌, length, map, Option, Some, None, refl, sym, ap, ◌∙◌, subst, append_assoc, arith}
use Rattle.std.specs.List.{concat}
use Rattle.mx_xlog.specs.Blocks.{IsData, BeginsBlock, SplitsInto, block_of}
use Rattle.mx_xlog.specs.Reading.{block_at, blocks_of}
use Rattle.mx_xlog.proofs.ReadingLaws.{block_at_begins, block_at-found, block_at-none, block_at-Advances, blocks_of_block, blocks_of_none, block_at_nothing}

none_or_some : {X : Type 0} (found : Option X) (x : X) → found ≡ None → found ≡ Some x → ⊥
none_or_some found x none some = cc

-- where none is read, no block begins the bytes
none_begins : (bytes rows : List ℕ) → block_at bytes ≡ None → ¬ BeginsBlock rows bytes
none_begins bytes rows none (rest, fits, e) = none_or_some (block_at bytes) (rows, rest) none (ap block_at e ∙ block_at_begins rows rest fits)

abbrev Splits : List ℕ → Type 0
Splits bytes = (rest : List ℕ) × SplitsInto bytes (blocks_of bytes) rest

no_block : (bytes : List ℕ) → block_at bytes ≡ None → Splits bytes
no_block bytes none =
    let split : SplitsInto bytes [] bytes = record { sound = tt; parts = refl; ends = λ rows. none_begins bytes rows none } in
    (bytes, subst (λ (blocks : List (List ℕ)). SplitsInto bytes blocks bytes) (sym (blocks_of_none bytes none)) split)

-- a block, and others after it
one_and_others : (bytes rows rest more : List ℕ) (blocks : List (List ℕ)) → IsData rows → bytes ≡ block_of rows ++ rest → SplitsInto rest blocks more
    → SplitsInto bytes (rows ∷ blocks) more
one_and_others bytes rows rest more blocks fits parts others = record {
  sound = (fits, others.sound);
  parts = parts ∙ ap (λ (l : List ℕ). block_of rows ++ l) others.parts ∙ sym (append_assoc (block_of rows) (concat (map block_of blocks)) more);
  ends = others.ends;
}

split_step : (most : ℕ) → ((bytes : List ℕ) → length bytes ≤ most → Splits bytes) → (bytes : List ℕ) (found : Option (List ℕ × List ℕ)) → block_at bytes ≡ found
    → length bytes ≤ suc most → Splits bytes
split_step most shorter bytes None is few = no_block bytes is
split_step most shorter bytes (Some (rows, rest)) is few =
    let p = block_at-found bytes rows rest is in
    let less : length rest < length bytes = block_at-Advances bytes (rows, rest) is in
    let others = shorter rest (omega arith) in
    let all : blocks_of bytes ≡ rows ∷ blocks_of rest = ap blocks_of p.1 ∙ blocks_of_block rows rest p.0 in (
      others.0,
      subst (λ (blocks : List (List ℕ)). SplitsInto bytes blocks others.0) (sym all) (one_and_others bytes rows rest others.0 (blocks_of rest) p.0 p.1 others.1),
    )

split_from : (most : ℕ) (bytes : List ℕ) → length bytes ≤ most → Splits bytes
split_from zero [] few = no_block [] block_at_nothing
split_from zero (byte ∷ bytes) few = absurd (omega arith)
split_from (suc most) bytes few = split_step most (split_from most) bytes (block_at bytes) refl few

pub blocks_split : (bytes : List ℕ) → (rest : List ℕ) × SplitsInto bytes (blocks_of bytes) rest
blocks_split bytes = split_from (length bytes) bytes (omega arith)

-- bytes that are these blocks and then begin with none
blocks_again : (blocks : List (List ℕ)) (bytes rest : List ℕ) → SplitsInto bytes blocks rest → blocks ≡ blocks_of bytes
blocks_again [] bytes rest s =
    let none : block_at bytes ≡ None = ap block_at s.parts ∙ block_at-none rest s.ends in
    sym (blocks_of_none bytes none)
blocks_again (rows ∷ blocks) bytes rest s =
    let behind = concat (map block_of blocks) ++ rest in
    let whole : bytes ≡ block_of rows ++ behind = s.parts ∙ append_assoc (block_of rows) (concat (map block_of blocks)) rest in
    let others = blocks_again blocks behind rest (record { sound = s.sound.1; parts = refl; ends = s.ends }) in
    ap (λ (l : List (List ℕ)). rows ∷ l) others ∙ sym (ap blocks_of whole ∙ blocks_of_block rows behind s.sound.0)

pub split_once : (bytes rest : List ℕ) (blocks : List (List ℕ)) → SplitsInto bytes blocks rest → blocks ≡ blocks_of bytes
split_once bytes rest blocks = blocks_again blocks bytes rest
