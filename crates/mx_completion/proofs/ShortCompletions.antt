-- A number or a text takes few bytes, so few of its bytes are missing.
use Rattle.std.proofs.Common.{inl, inr, ℕ, ◌^◌, ◌≤◌, List, ◌++◌, length, ap, ◌∙◌, arith}
use Rattle.std.specs.Prelude.{ℤ, pos}
use Rattle.std.proofs.lemmas.List.{length-append}
use Rattle.mx_msgpack.specs.Grammar.{SpellsInt, StrHead}
use Rattle.mx_msgpack.proofs.UnsignedLaws.{wide_length}
use Rattle.mx_completion.specs.declared.completion.Completion.{Completion}
use Rattle.mx_completion.specs.declared.completion.Completion.TheVariants.{Whole, Missing, Impossible}
use Rattle.mx_completion.specs.Completions.{IsIntSpelling, IsTextSpelling, IsUnsignedSpelling, Completes, MissesAtMost}

int_short : (number : ℤ) (bytes : List ℕ) → SpellsInt number bytes → length bytes ≤ 9
int_short number bytes (inl (unsigned, same, inl (low, e))) = let size = ap length e in omega arith
int_short number bytes (inl (unsigned, same, inr (inl s))) = let size = wide_length 0xcc 1 unsigned bytes s in omega arith
int_short number bytes (inl (unsigned, same, inr (inr (inl s)))) = let size = wide_length 0xcd 2 unsigned bytes s in omega arith
int_short number bytes (inl (unsigned, same, inr (inr (inr (inl s))))) = let size = wide_length 0xce 4 unsigned bytes s in omega arith
int_short number bytes (inl (unsigned, same, inr (inr (inr (inr s))))) = let size = wide_length 0xcf 8 unsigned bytes s in omega arith
int_short number bytes (inr (inl (byte, least, most, same, e))) = let size = ap length e in omega arith
int_short number bytes (inr (inr (inl (unsigned, s, same)))) = let size = wide_length 0xd0 1 unsigned bytes s in omega arith
int_short number bytes (inr (inr (inr (inl (unsigned, s, same))))) = let size = wide_length 0xd1 2 unsigned bytes s in omega arith
int_short number bytes (inr (inr (inr (inr (inl (unsigned, s, same)))))) = let size = wide_length 0xd2 4 unsigned bytes s in omega arith
int_short number bytes (inr (inr (inr (inr (inr (unsigned, s, same)))))) = let size = wide_length 0xd3 8 unsigned bytes s in omega arith

str_short : (size : ℕ) (head : List ℕ) → StrHead size head → length head ≤ 5
str_short size head (inl (few, e)) = let l = ap length e in omega arith
str_short size head (inr (inl s)) = let l = wide_length 0xd9 1 size head s in omega arith
str_short size head (inr (inr (inl s))) = let l = wide_length 0xda 2 size head s in omega arith
str_short size head (inr (inr (inr s))) = let l = wide_length 0xdb 4 size head s in omega arith

-- spellings of at most so many bytes
pub few_by_length : (Is : List ℕ → Type 0) (most : ℕ) → ((spelling : List ℕ) → Is spelling → length spelling ≤ most) → (bytes : List ℕ) (completion : Completion) → Completes Is bytes completion
    → MissesAtMost most completion
few_by_length Is most short bytes (Whole size) completes = tt
few_by_length Is most short bytes (Missing least) completes =
    let (some, missing, each, many, s) = completes.stands in
    let bound = short (bytes ++ missing) s in
    let both = length-append bytes missing in
    omega arith
few_by_length Is most short bytes Impossible completes = tt

pub int_is_short : (spelling : List ℕ) → IsIntSpelling spelling → length spelling ≤ 2 ^ 32
int_is_short spelling (number, s) = let short = int_short number spelling s in omega arith

pub unsigned_is_short : (least : ℕ) (spelling : List ℕ) → IsUnsignedSpelling least spelling → length spelling ≤ 2 ^ 32
unsigned_is_short least spelling (number, enough, s) = let short = int_short (pos number) spelling s in omega arith

pub text_is_short : (spelling : List ℕ) → IsTextSpelling spelling → length spelling ≤ 2 ^ 32
text_is_short spelling (text, (head, h, few, e)) =
    let first = str_short (length text) head h in
    let both = ap length e ∙ length-append head text in
    omega arith
