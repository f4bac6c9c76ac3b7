-- What `read_ref` shows is what stands first.
use Rattle.std.proofs.Common.{◌≡◌, ℕ, ◌+◌, ◌-◌, ◌≤◌, List, ◌++◌, length, take, Ok, Err, refl, sym, ap, ◌∙◌, ℤ, arith}
use Rattle.std.proofs.lemmas.List.{length-append}
use Rattle.mx_msgpack.specs.declared.bad.Bad.{Bad}
use Rattle.mx_msgpack.specs.declared.head.Head.{Head}
use Rattle.mx_msgpack.specs.declared.head.Head.TheVariants.{Int}
use Rattle.mx_msgpack.specs.Grammar.{Value, Spells, max_nesting}
use Rattle.mx_msgpack.specs.Reading.{head_at, after_first, measured, reading_of, Shown, ShownNil, ShownBool, ShownInt, ShownStr, ShownBin, ShownArray, ShownMap, ShownOpaque, shown}
use Rattle.mx_msgpack.specs.View.{Shows}
use Rattle.mx_msgpack.proofs.Results.{ok_is}
use Rattle.mx_msgpack.proofs.ValueLaws.{value_begins, read_ok, read_err}
use Rattle.mx_msgpack.proofs.GrammarLaws.{ShowsIn, value_stands}
use Rattle.mx_msgpack.proofs.Measured.{front_is}

shows_most : (s : Shown) (value : Value) → ShowsIn 64 s value → Shows s value
shows_most ShownNil value h = h
shows_most (ShownBool truth) value h = h
shows_most (ShownInt number) value h = h
shows_most (ShownStr text) value h = h
shows_most (ShownBin content) value h = h
shows_most (ShownArray count items) value h = h
shows_most (ShownMap count items) value h = h
shows_most (ShownOpaque spelling) value h = h

-- no head
pub head_fails : (bytes : List ℕ) (bad : Bad) → head_at 0 bytes ≡ Err bad → reading_of bytes ≡ Err bad
unfolding reading_of
head_fails bytes bad e = rw e refl

-- a head, and no value
pub value_fails : (bytes : List ℕ) (head : Head) (after : List ℕ) (bad : Bad) → head_at 0 bytes ≡ Ok (head, after) → measured bytes ≡ Err bad → reading_of bytes ≡ Err bad
unfolding reading_of
value_fails bytes head after bad e m = rw (e, read_err bytes bad m) refl

pub reads : (bytes : List ℕ) (head : Head) (after rest : List ℕ) → head_at 0 bytes ≡ Ok (head, after) → after_first (length bytes) 64 bytes ≡ Ok rest
    → reading_of bytes ≡ Ok (shown head (take (length after - length rest) after) (take (length bytes - length rest) bytes), length bytes - length rest)
unfolding reading_of
reads bytes head after rest e v = rw (e, v) refl

-- a head, and after it the rest of a value of this length
pub record Bounds (bytes : List ℕ) (after : List ℕ) (size : ℕ) : Type 0 where
  pub behind : length bytes - length after ≤ size
  pub within : size - (length bytes - length after) ≤ length after

-- what stands first, and its length
pub record Seen (bytes : List ℕ) (seen : Shown) (size : ℕ) : Type 0 where
  pub spelled : (size ≤ length bytes) × (value : Value) × Spells max_nesting value (take size bytes) × Shows seen value
  pub exact : reading_of bytes ≡ Ok (seen, size)

pub one_head : (total : ℕ) (bytes : List ℕ) (head other : Head) (after rest : List ℕ) → length bytes ≡ total → head_at 0 bytes ≡ Ok (head, after) → head_at (total - length bytes) bytes ≡ Ok (other, rest)
    → (head ≡ other) × (after ≡ rest)
one_head total bytes head other after rest n e f =
    let at : 0 ≡ total - length bytes = omega arith in
    let same = ok_is (head, after) (other, rest) (sym e ∙ ap (λ (k : ℕ). head_at k bytes) at ∙ f) in
    (ap (λ (x : Head × List ℕ). x.0) same, ap (λ (x : Head × List ℕ). x.1) same)

module _ (bytes : List ℕ) (head : Head) (after : List ℕ) (size : ℕ) (rest : List ℕ) (le : length after ≤ length bytes) (e : head_at 0 bytes ≡ Ok (head, after))
    (v : after_first (length bytes) 64 bytes ≡ Ok rest) (n : length bytes - length rest ≡ size) where
  bounds : Bounds bytes after size
  bounds =
      let s = value_stands (length bytes) 64 bytes rest v in
      let same : (head ≡ s.head) × (after ≡ s.after) = one_head (length bytes) bytes head s.head after s.after refl e s.begins in
      let short : length after ≡ length s.content + length rest = ap length (same.1 ∙ s.parts) ∙ length-append s.content rest in
      record { behind = omega arith; within = omega arith }

  seen : Seen bytes (shown head (take (size - (length bytes - length after)) after) (take size bytes)) size
  seen =
      let s = value_stands (length bytes) 64 bytes rest v in
      let same : (head ≡ s.head) × (after ≡ s.after) = one_head (length bytes) bytes head s.head after s.after refl e s.begins in
      let after-is : after ≡ s.content ++ rest = same.1 ∙ s.parts in
      let short : length after ≡ length s.content + length rest = ap length after-is ∙ length-append s.content rest in
      let more : size - (length bytes - length after) ≡ length after - length rest = omega arith in
      let content : take (size - (length bytes - length after)) after ≡ s.content = front_is after s.content rest _ after-is (sym more) in
      let front : take size bytes ≡ s.front = front_is bytes s.front rest size s.whole n in
      record {
        spelled = (omega arith, s.value, rw front s.spelled, rw (content, front, same.0) (shows_most (shown s.head s.content s.front) s.value s.shows));
        exact = rw (more, ← n) (reads bytes head after rest e v);
      }

pub value_bounds : (bytes : List ℕ) (head : Head) (after : List ℕ) (size : ℕ) → length after ≤ length bytes → head_at 0 bytes ≡ Ok (head, after) → measured bytes ≡ Ok size
    → Bounds bytes after size
value_bounds bytes head after size le e m =
    let r = read_ok bytes size m in
    bounds bytes head after size r.0 le e r.1 r.2

pub value_seen : (bytes : List ℕ) (head : Head) (after : List ℕ) (size : ℕ) → length after ≤ length bytes → head_at 0 bytes ≡ Ok (head, after) → measured bytes ≡ Ok size
    → (s : Shown) (content whole : List ℕ) → content ≡ take (size - (length bytes - length after)) after → whole ≡ take size bytes → s ≡ shown head content whole → Seen bytes s size
value_seen bytes head after size le e m s content whole front all is =
    let r = read_ok bytes size m in
    rw (is, front, all) (seen bytes head after size r.0 le e r.1 r.2)

-- a number is all head
pub int_seen : (bytes : List ℕ) (number : ℤ) (after : List ℕ) → length after ≤ length bytes → head_at 0 bytes ≡ Ok (Int number, after)
    → (s : Shown) → s ≡ ShownInt number → Seen bytes s (length bytes - length after)
int_seen bytes number after le e s is =
    let at : length bytes - length bytes ≡ 0 = omega arith in
    let read : after_first (length bytes) 64 bytes ≡ Ok after =
    value_begins (length bytes) 64 bytes (Int number) after (ap (λ (k : ℕ). head_at k bytes) at ∙ e) in
    rw is (seen bytes (Int number) after (length bytes - length after) after le e read refl)
