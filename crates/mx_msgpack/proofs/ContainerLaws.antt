-- Containers from their head on: a map's pairs are read, and what reads as an array and is one value is spelled as an array.
use Rattle.std.proofs.Common.{◌≡◌, ℕ, suc, ◌-◌, List, [], length, take, Ok, sym, ap, ◌∙◌, subst}
use Rattle.std.proofs.lemmas.List.{append-nil}
use Rattle.mx_msgpack.specs.declared.head.Head.{Head}
use Rattle.mx_msgpack.specs.declared.head.Head.TheVariants.{Nil, Bool as Boolean, Int, Str, Bin, Array, Map, Fixed, Extension}
use Rattle.mx_msgpack.specs.Grammar.{Values, Spells}
use Rattle.mx_msgpack.specs.Grammar as grammar
use Rattle.mx_msgpack.specs.Reading.{head_at, after_first, reading_of, Shown, ShownArray, shown}
use Rattle.mx_msgpack.proofs.Results.{bind_ok, ok_is}
use Rattle.mx_msgpack.proofs.Heads.{head_spelled, head_again}
use Rattle.mx_msgpack.proofs.GrammarLaws.{value_stands}

array_head : (head : Head) (content whole : List ℕ) (count : ℕ) (items : List ℕ) → shown head content whole ≡ ShownArray count items → head ≡ Array count
array_head Nil content whole count items e = absurd cc
array_head (Boolean truth) content whole count items e = absurd cc
array_head (Int number) content whole count items e = absurd cc
array_head (Str size) content whole count items e = absurd cc
array_head (Bin size) content whole count items e = absurd cc
array_head (Array other) content whole count items e = cc
array_head (Map pairs) content whole count items e = absurd cc
array_head (Fixed size) content whole count items e = absurd cc
array_head (Extension size) content whole count items e = absurd cc

-- the head of what is shown as an array
array_begins : (bytes : List ℕ) (count : ℕ) (items : List ℕ) (size : ℕ) → reading_of bytes ≡ Ok (ShownArray count items, size)
    → (after : List ℕ) × (head_at 0 bytes ≡ Ok (Array count, after))
unfolding reading_of
array_begins bytes count items size e =
    let a = bind_ok (head_at 0 bytes) _ (ShownArray count items, size) e in
    let b = bind_ok (after_first (length bytes) 64 bytes) _ (ShownArray count items, size) a.2 in
    let same = ok_is (shown a.0.0 (take (length a.0.1 - length b.0) a.0.1) (take (length bytes - length b.0) bytes), length bytes - length b.0) (ShownArray count items, size) b.2 in
    let is = array_head a.0.0 _ _ count items (ap (λ (x : Shown × ℕ). x.0) same) in
    (a.0.1, a.1 ∙ ap (λ (h : Head). Ok (h, a.0.1)) is)

-- one value and nothing else, shown as an array
pub array_spelled : (total room : ℕ) (bytes : List ℕ) (count : ℕ) (items : List ℕ) (size : ℕ) → after_first total (suc room) bytes ≡ Ok []
    → reading_of bytes ≡ Ok (ShownArray count items, size) → (values : Values) × Spells (suc room) (grammar.Array values) bytes
array_spelled total room bytes count items size e shown_so =
    let at = total - length bytes in
    let s = value_stands total (suc room) bytes [] e in
    let b = array_begins bytes count items size shown_so in
    let h = head_spelled 0 bytes (Array count) b.0 b.1 in
    let again : head_at at bytes ≡ Ok (Array count, b.0) = ap (head_at at) h.1 ∙ head_again at (Array count) h.0 b.0 h.2 in
    let head : s.head ≡ Array count = ap (λ (x : Head × List ℕ). x.0) (ok_is (s.head, s.after) (Array count, b.0) (sym s.begins ∙ again)) in
    let shows = rw head at s.shows in
    let whole : s.front ≡ bytes = sym (append-nil s.front) ∙ sym s.whole in
    (shows.0, subst (λ (l : List ℕ). Spells (suc room) (grammar.Array shows.0) l) whole (rw shows.1 at s.spelled))
