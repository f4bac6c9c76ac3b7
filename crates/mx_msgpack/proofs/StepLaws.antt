-- Steps by the leading byte alone.
use Rattle.std.proofs.Common.{◌≡◌, ℕ, ◌-◌, ◌<◌, ◌≤◌, ℤ, Bool, true, false, cond, ltb, List, ◌∷◌, length, drop, Option, None, Result, Ok, Err, refl, ap, ◌∙◌, arith}
use Rattle.std.specs.Prelude.{◌==◌}
use Rattle.std.proofs.lemmas.Bool.{lt-ltb, le-ltb}
use Rattle.mx_msgpack.specs.declared.bad.Bad.{Bad}
use Rattle.mx_msgpack.specs.declared.bad.Bad.TheVariants.{Short}
use Rattle.mx_msgpack.specs.declared.head.Head.{Head}
use Rattle.mx_msgpack.specs.declared.head.Head.TheVariants.{Int}
use Rattle.mx_msgpack.specs.declared.size.Inside.{Inside}
use Rattle.mx_msgpack.specs.Grammar.{max_length}
use Rattle.mx_msgpack.specs.Reading.{◌>>=◌, head_at, number_head, unsigned_head, signed_head}
use Rattle.mx_msgpack.specs.Steps.{IsPlain, after_few, fixed_size, no_container, step_behind, step_over}
use Rattle.mx_msgpack.proofs.LeadingLaws.{leads_number}

-- what a head leads to
abbrev stepped : ℕ → Result (Head × List ℕ) Bad → Result (Option Inside × List ℕ) Bad
stepped at read = read >>= λ head. step_behind at head.0 head.1

module _ (at : ℕ) (rest : List ℕ) where
  -- a test that both the head and the size follow
  either : (b : Bool) (x y : Result (Head × List ℕ) Bad) (s t : ℕ) → stepped at x ≡ no_container (after_few s rest) → stepped at y ≡ no_container (after_few t rest)
      → stepped at (cond b x y) ≡ no_container (after_few (cond b s t) rest)
  either true x y s t p q = p
  either false x y s t p q = q

  number : (b : Bool) (value : ℤ) (after : List ℕ) → stepped at (cond b (Err Short) (Ok (Int value, after))) ≡ no_container (cond b (Err Short) (Ok after))
  number true value after = refl
  number false value after = refl

  unsigned_steps : (width : ℕ) → stepped at (unsigned_head width rest) ≡ no_container (after_few width rest)
  unsigned_steps width = number (ltb (length rest) width) _ (drop width rest)

  signed_steps : (width : ℕ) → stepped at (signed_head width rest) ≡ no_container (after_few width rest)
  signed_steps width = number (ltb (length rest) width) _ (drop width rest)

  number_steps : (leading : ℕ) → stepped at (number_head leading rest) ≡ no_container (after_few (fixed_size leading) rest)
  number_steps leading =
      either (leading == 0xca) _ _ _ _ refl
      (either (leading == 0xcb) _ _ _ _ refl
      (either (leading == 0xcc) _ _ _ _ (unsigned_steps 1)
      (either (leading == 0xcd) _ _ _ _ (unsigned_steps 2)
      (either (leading == 0xce) _ _ _ _ (unsigned_steps 4)
      (either (leading == 0xcf) _ _ _ _ (unsigned_steps 8)
      (either (leading == 0xd0) _ _ _ _ (signed_steps 1)
      (either (leading == 0xd1) _ _ _ _ (signed_steps 2)
      (either (leading == 0xd2) _ _ _ _ (signed_steps 4)
      (either (leading == 0xd3) _ _ _ _ (signed_steps 8)
      (either (leading == 0xd4) _ _ _ _ refl
      (either (leading == 0xd5) _ _ _ _ refl
      (either (leading == 0xd6) _ _ _ _ refl
      (either (leading == 0xd7) _ _ _ _ refl refl)))))))))))))

-- no byte follows
none_after : (rest : List ℕ) → no_container (after_few 0 rest) ≡ Ok (None, rest)
none_after rest = rw (le-ltb (length rest) 0 (omega arith)) refl

-- a number, a float or an extension of a fixed length
pub fixed_plain : (leading size : ℕ) → 0xca ≤ leading → leading < 0xd9 → size ≡ fixed_size leading → IsPlain leading size
fixed_plain leading size low high e = λ at rest. rw e (ap (stepped at) (leads_number at leading (leading ∷ rest) rest refl low high) ∙ number_steps at rest leading)

-- a short text
pub text_plain : (leading size : ℕ) → 0xa0 ≤ leading → leading < 0xc0 → size ≡ leading - 0xa0 → IsPlain leading size
unfolding head_at
text_plain leading size low high e =
    let f1 : ltb leading 0x80 ≡ false = le-ltb _ _ (omega arith) in
    let f2 : ltb leading 0x90 ≡ false = le-ltb _ _ (omega arith) in
    let f3 : ltb leading 0xa0 ≡ false = le-ltb _ _ low in
    let t : ltb leading 0xc0 ≡ true = lt-ltb _ _ high in
    let short : ltb max_length (leading - 0xa0) ≡ false = le-ltb _ _ (omega arith) in
    λ at rest. rw (e, f1, f2, f3, t, short) refl

-- a small number, and one just below 0
pub small_plain : (leading : ℕ) → leading < 0x80 → IsPlain leading 0
unfolding head_at
small_plain leading low = λ at rest. rw (none_after rest, lt-ltb leading 0x80 low) refl

pub below_plain : (leading : ℕ) → 0xe0 ≤ leading → leading < 0x100 → IsPlain leading 0
unfolding head_at
below_plain leading low high =
    let f1 : ltb leading 0x80 ≡ false = le-ltb _ _ (omega arith) in
    let f2 : ltb leading 0x90 ≡ false = le-ltb _ _ (omega arith) in
    let f3 : ltb leading 0xa0 ≡ false = le-ltb _ _ (omega arith) in
    let f4 : ltb leading 0xc0 ≡ false = le-ltb _ _ (omega arith) in
    let f5 : ltb leading 0xca ≡ false = le-ltb _ _ (omega arith) in
    let f6 : ltb leading 0xd9 ≡ false = le-ltb _ _ (omega arith) in
    let f7 : ltb leading 0xe0 ≡ false = le-ltb _ _ low in
    let t : ltb leading 0x100 ≡ true = lt-ltb _ _ high in
    λ at rest. rw (none_after rest, f1, f2, f3, f4, f5, f6, f7, t) refl

-- nil and the two of Bool
pub nil_plain : (leading : ℕ) → leading ≡ 0xc0 → IsPlain leading 0
unfolding head_at
nil_plain leading e = λ at rest. rw (none_after rest, e) refl

pub false_plain : (leading : ℕ) → leading ≡ 0xc2 → IsPlain leading 0
unfolding head_at
false_plain leading e = λ at rest. rw (none_after rest, e) refl

pub true_plain : (leading : ℕ) → leading ≡ 0xc3 → IsPlain leading 0
unfolding head_at
true_plain leading e = λ at rest. rw (none_after rest, e) refl

-- a step from a head that is read already
pub headed_steps : (at : ℕ) (bytes : List ℕ) (head : Head) (rest : List ℕ) → head_at at bytes ≡ Ok (head, rest) → step_over at bytes ≡ step_behind at head rest
headed_steps at bytes head rest e = ap (stepped at) e
