-- Numbers of 0 or more: what is read is spelled so, and what is spelled so is read, whatever follows.
use Rattle.std.proofs.Common.{◌≡◌, ℕ, ◌-◌, ◌≤◌, suc, true, List, ◌++◌, length, take, drop, Option, Some, None, Result, Ok, Err, refl, sym, ap, ◌∙◌, append_assoc, inl, arith}
use Rattle.std.proofs.Common.{ltb, Bool, false, ◌<◌, ◌∷◌, cond}
use Rattle.std.proofs.lemmas.Bool.{lt-ltb}
use Rattle.std.specs.Prelude.{ℤ, pos, negsuc}
use Rattle.std.proofs.lemmas.List.{drop_at, length-append}
use Rattle.mx_msgpack.specs.declared.bad.Bad.{Bad}
use Rattle.mx_msgpack.specs.declared.head.Head.{Head}
use Rattle.mx_msgpack.specs.declared.head.Head.TheVariants.{Nil, Bool as Boolean, Int, Str, Bin, Array, Map, Fixed, Extension}
use Rattle.mx_msgpack.specs.Grammar as grammar
use Rattle.mx_msgpack.specs.Grammar.{SpellsNumber, SpellsUnsigned, SpellsInt}
use Rattle.mx_msgpack.specs.Reading.{head_at, after_first, reading_of, Shown, ShownInt, shown}
use Rattle.mx_msgpack.specs.Readers.{◌>>=◌, IsStable, as_unsigned, number_at, unsigned_at}
use Rattle.mx_msgpack.specs.Projections.{as_int, shown_first}
use Rattle.std.specs.Result.{result_ok}
use Rattle.mx_msgpack.proofs.ProjectionLaws.{first_read, int_is, unsigned_is}
use Rattle.mx_msgpack.specs.Reading as reading
use Rattle.mx_msgpack.specs.declared.bad.Bad.TheVariants.{Short}
use Rattle.byteorder.specs.Endian.{big_number}
use Rattle.mx_msgpack.proofs.Options.{bind_some, same_some}
use Rattle.mx_msgpack.proofs.Results.{bind_ok, ok_is}
use Rattle.mx_msgpack.proofs.ValueLaws.{value_begins}
use Rattle.mx_msgpack.proofs.Heads.{head_spelled, head_again}
use Rattle.mx_msgpack.proofs.Shown.{head_fails, int_seen}

-- ---- what is read is spelled

from_number : (bytes : List ℕ) (found : ℕ × List ℕ) → unsigned_at bytes ≡ Some found
    → (size : ℕ) × (reading_of bytes ≡ Ok (ShownInt (pos found.0), size)) × (found.1 ≡ drop size bytes)
unfolding unsigned_at
from_number bytes found e =
    let first = bind_some (shown_first bytes) _ found e in
    let number = bind_some (as_int first.0.0) _ found first.2 in
    let unsigned = bind_some (as_unsigned number.0) _ found number.2 in
    let same = same_some (unsigned.0, drop first.0.1 bytes) found unsigned.2 in
    let what = int_is first.0.0 number.0 number.1 in
    let value = unsigned_is number.0 unsigned.0 unsigned.1 ∙ ap (λ (x : ℕ × List ℕ). pos x.0) same in (
      first.0.1,
      first_read bytes first.0 first.1 ∙ (λ i. Ok (what i, first.0.1)) ∙ (λ i. Ok (ShownInt (value i), first.0.1)),
      sym (ap (λ (x : ℕ × List ℕ). x.1) same),
    )

int_head : (head : Head) (content whole : List ℕ) (number : ℤ) → shown head content whole ≡ ShownInt number → head ≡ Int number
int_head Nil content whole number e = absurd cc
int_head (Boolean truth) content whole number e = absurd cc
int_head (Int other) content whole number e = cc
int_head (Str size) content whole number e = absurd cc
int_head (Bin size) content whole number e = absurd cc
int_head (Array count) content whole number e = absurd cc
int_head (Map count) content whole number e = absurd cc
int_head (Fixed size) content whole number e = absurd cc
int_head (Extension size) content whole number e = absurd cc

-- a number is all head
number_begins : (bytes : List ℕ) (number : ℤ) (size : ℕ) → reading_of bytes ≡ Ok (ShownInt number, size)
    → (rest : List ℕ) × (head_at 0 bytes ≡ Ok (Int number, rest)) × (length bytes - length rest ≡ size)
unfolding reading_of
number_begins bytes number size e =
    let a = bind_ok (head_at 0 bytes) _ (ShownInt number, size) e in
    let b = bind_ok (after_first (length bytes) 64 bytes) (λ rest. Ok (shown a.0.0 (take (length a.0.1 - length rest) a.0.1) (take (length bytes - length rest) bytes), length bytes - length rest)) (ShownInt number, size) a.2 in
    let same = ok_is (shown a.0.0 (take (length a.0.1 - length b.0) a.0.1) (take (length bytes - length b.0) bytes), length bytes - length b.0) (ShownInt number, size) b.2 in
    let is = int_head a.0.0 _ _ number (ap (λ (x : Shown × ℕ). x.0) same) in
    let head : head_at 0 bytes ≡ Ok (Int number, a.0.1) = a.1 ∙ ap (λ (h : Head). Ok (h, a.0.1)) is in
    let at : length bytes - length bytes ≡ 0 = omega arith in
    let read = value_begins (length bytes) 64 bytes (Int number) a.0.1 (ap (λ (k : ℕ). head_at k bytes) at ∙ head) in
    let rest = ok_is b.0 a.0.1 (sym b.1 ∙ read) in
    (a.0.1, head, ap (λ (l : List ℕ). length bytes - length l) (sym rest) ∙ ap (λ (x : Shown × ℕ). x.1) same)

pub unsigned_spelled : (bytes : List ℕ) (found : ℕ × List ℕ) → unsigned_at bytes ≡ Some found
    → (front : List ℕ) × (bytes ≡ front ++ found.1) × SpellsInt (pos found.0) front
unsigned_spelled bytes found e =
    let p = from_number bytes found e in
    let q = number_begins bytes (pos found.0) p.0 p.1 in
    let s = head_spelled 0 bytes (Int (pos found.0)) q.0 q.1 in
    let l = ap length s.1 ∙ length-append s.0 q.0 in
    let size = q.2 in
    let front : length s.0 ≡ p.0 = omega arith in
    let rest : found.1 ≡ q.0 = p.2 ∙ ap (λ (x : List ℕ). drop p.0 x) s.1 ∙ drop_at s.0 q.0 p.0 front in
    (s.0, s.1 ∙ ap (λ (x : List ℕ). s.0 ++ x) (sym rest), s.2)

-- a number below 0 is none
pub none_below : (bytes : List ℕ) (n size : ℕ) → reading_of bytes ≡ Ok (ShownInt (negsuc n), size) → None ≡ unsigned_at bytes
unfolding unsigned_at
none_below bytes n size e = rw e refl

-- ---- what is spelled is read

-- the number that a reading gives
abbrev unsigned_read_as : List ℕ → Result (Shown × ℕ) Bad → Option (ℕ × List ℕ)
unsigned_read_as bytes read = result_ok read >>= λ first. as_int first.0 >>= λ number. as_unsigned number >>= λ unsigned. Some (unsigned, drop first.1 bytes)

pub int_read : (number : ℕ) (front rest : List ℕ) → SpellsInt (pos number) front → unsigned_at (front ++ rest) ≡ Some (number, rest)
unfolding unsigned_at
int_read number front rest s =
    let l = length-append front rest in
    let short : length rest ≤ length (front ++ rest) = omega arith in
    let head = head_again 0 (Int (pos number)) front rest s in
    let seen = int_seen (front ++ rest) (pos number) rest short head (ShownInt (pos number)) refl in
    let size : length front ≡ length (front ++ rest) - length rest = omega arith in
    ap (unsigned_read_as (front ++ rest)) seen.exact ∙ ap (λ (l : List ℕ). Some (number, l)) (drop_at front rest _ size)

pub unsigned_read : (number : ℕ) (front rest : List ℕ) → SpellsUnsigned number front → unsigned_at (front ++ rest) ≡ Some (number, rest)
unsigned_read number front rest s = int_read number front rest (inl (number, refl, s))

-- ---- the readers advance, and are stable

-- the leading byte and the bytes of the number
pub wide_length : (leading width number : ℕ) (front : List ℕ) → SpellsNumber leading width number front → length front ≡ suc width
wide_length leading width number front (digits, len, n, e) = ap length e ∙ ap suc len

pub unsigned_at-IsStable : IsStable unsigned_at
unsigned_at-IsStable bytes more found e =
    let s = unsigned_spelled bytes found e in
    ap (λ (l : List ℕ). unsigned_at (l ++ more)) s.1
    ∙ ap unsigned_at (append_assoc s.0 found.1 more)
    ∙ int_read found.0 s.0 (found.1 ++ more) s.2

headed : (bytes after : List ℕ) (number : ℕ) → head_at 0 bytes ≡ Ok (Int (pos number), after) → unsigned_at bytes ≡ Some (number, after)
headed bytes after number e =
    let s = head_spelled 0 bytes (Int (pos number)) after e in
    ap unsigned_at s.1 ∙ int_read number s.0 after s.2

headless : (bytes : List ℕ) (bad : Bad) → head_at 0 bytes ≡ Err bad → unsigned_at bytes ≡ None
unfolding unsigned_at
headless bytes bad e = ap (unsigned_read_as bytes) (head_fails bytes bad e)

module _ (bytes rest : List ℕ) (leading : ℕ) (is : bytes ≡ leading ∷ rest) where
  pub small : leading < 0x80 → unsigned_at bytes ≡ Some (leading, rest)
  unfolding head_at
  small low = headed bytes rest leading (rw (is, lt-ltb leading 0x80 low) refl)

  wide_by : (width : ℕ) (b : Bool) → ltb (length rest) width ≡ b → head_at 0 bytes ≡ reading.unsigned_head width rest
      → unsigned_at bytes ≡ cond b None (Some (big_number width (take width rest), drop width rest))
  wide_by width true t e = headless bytes Short (e ∙ rw t refl)
  wide_by width false t e = headed bytes (drop width rest) (big_number width (take width rest)) (e ∙ rw t refl)

  wide : (width : ℕ) → head_at 0 bytes ≡ reading.unsigned_head width rest → unsigned_at bytes ≡ number_at width rest
  wide width e = wide_by width (ltb (length rest) width) refl e

  pub wide_1 : leading ≡ 0xcc → unsigned_at bytes ≡ number_at 1 rest
  unfolding head_at
  wide_1 k = wide 1 (rw (is, k) refl)

  pub wide_2 : leading ≡ 0xcd → unsigned_at bytes ≡ number_at 2 rest
  unfolding head_at
  wide_2 k = wide 2 (rw (is, k) refl)

  pub wide_4 : leading ≡ 0xce → unsigned_at bytes ≡ number_at 4 rest
  unfolding head_at
  wide_4 k = wide 4 (rw (is, k) refl)

  pub wide_8 : leading ≡ 0xcf → unsigned_at bytes ≡ number_at 8 rest
  unfolding head_at
  wide_8 k = wide 8 (rw (is, k) refl)
