-- The completion of a value by its leading byte is one of the grammar's values.
use Rattle.std.proofs.Common.{◌≡◌, ◌⊎◌, inl, inr, ℕ, zero, suc, ◌+◌, ◌-◌, ◌≤◌, ◌<◌, Bool, true, false, ltb, List, [], ◌∷◌, Option, Some, None, length, replicate, take, refl, sym, ap, ◌∙◌, subst, arith}
use Rattle.std.specs.Prelude.{◌||◌, ◌&&◌}
use Rattle.std.proofs.lemmas.Bool.{cond_both, ltb-true, ltb-false}
use Rattle.std.proofs.lemmas.List.{take_at, take-append-le, length-append, length-replicate, length-take}
use Rattle.byteorder.specs.Endian.{big_number}
use Rattle.mx_msgpack.specs.Grammar.{max_length}
use Rattle.mx_msgpack.specs.Grammar as grammar
use Rattle.mx_msgpack.proofs.FrontLaws.{spelled_some}
use Rattle.mx_completion.specs.declared.completion.Completion.TheVariants.{Whole, Missing, Impossible}
use Rattle.mx_completion.specs.declared.leading.Kind.{Kind}
use Rattle.mx_completion.specs.declared.leading.Kind.TheVariants.{Int, Text, Array, Map, Extension, Other}
use Rattle.mx_completion.specs.declared.leading.Leading.{Leading}
use Rattle.mx_completion.specs.Completions.{Completes, IsValueSpelling}
use Rattle.mx_completion.specs.LeadingBytes.{leading_of, holds_values, follow_count}
use Rattle.mx_completion.specs.ValueCompletions.{completed, one_completion, behind_leading, led_completion, content_completion, bytes_completion, inner_of, is_closed}
use Rattle.mx_completion.proofs.ByteLaws.{one_byte}
use Rattle.mx_completion.proofs.SequenceLaws.{HasLeast, least_from_empty, least_in_row, completes_none, completes_in_row, completes_behind}
use Rattle.mx_completion.proofs.LengthLaws.{zeros-bytes, number_large, number_cut, number_whole}
use Rattle.mx_completion.proofs.LeadingLaws.{Contains, Announced, value_announced, announced_value}

-- ---- the completion by recursion

completed_is : (room : ℕ) (bytes : List ℕ) → completed room bytes ≡ one_completion (inner_of room) bytes
unfolding completed
completed_is zero bytes = refl
completed_is (suc room) bytes = refl

pub completed_empty : (room : ℕ) (bytes : List ℕ) → length bytes ≡ 0 → Missing 1 ≡ completed room bytes
completed_empty room [] e = sym (completed_is room [])
completed_empty room (byte ∷ rest) e = absurd (omega arith)

pub completed_behind : (room byte : ℕ) (rest bytes : List ℕ) (leading : Option Leading) → bytes ≡ byte ∷ rest → leading ≡ leading_of byte
    → behind_leading (inner_of room) leading rest ≡ completed room bytes
completed_behind room byte rest bytes leading e f =
    ap (λ (l : Option Leading). behind_leading (inner_of room) l rest) f ∙ sym (ap (completed room) e ∙ completed_is room (byte ∷ rest))

-- ---- no bytes

pub some_value : (room : ℕ) (bytes : List ℕ) → IsValueSpelling room bytes → 1 ≤ length bytes
some_value room bytes (value, s) = spelled_some room value bytes s

-- nil is the shortest value
empty_completes : (room : ℕ) → Completes (IsValueSpelling room) [] (Missing 1)
empty_completes room = record {
  stands = (omega arith, 0xc0 ∷ [], one_byte 0xc0 (omega arith), refl, (grammar.Nil, refl));
  allows = λ missing spelling rest each e s. omega (arith, some_value room spelling s);
}

least_value : (room : ℕ) → HasLeast (IsValueSpelling room) 1
least_value room = least_from_empty (IsValueSpelling room) 1 (empty_completes room)

-- ---- so many bytes or values

bytes_complete : (count : ℕ) (bytes : List ℕ) → Completes (λ l. length l ≡ count) bytes (bytes_completion count bytes)
bytes_complete count bytes = cond_both (ltb (length bytes) count) _ _ (Completes (λ l. length l ≡ count) bytes) (λ t. cut (ltb-true _ _ t)) (λ f. whole (ltb-false _ _ f))
  where
    cut : length bytes < count → Completes (λ l. length l ≡ count) bytes (Missing (count - length bytes))
    cut short =
        let pad : List ℕ = replicate (count - length bytes) 0 in
        let many : length pad ≡ count - length bytes = length-replicate (count - length bytes) 0 in
        record {
          stands = (omega arith, pad, zeros-bytes (count - length bytes), many, omega (arith, length-append bytes pad));
          allows = λ missing spelling rest each e s. omega arith;
        }

    whole : count ≤ length bytes → Completes (λ l. length l ≡ count) bytes (Whole count)
    whole long = record {
      stands = (long, omega (arith, length-take count bytes));
      allows = λ missing spelling rest each e s. sym (take_at spelling rest count s) ∙ ap (take count) (sym e) ∙ take-append-le count bytes missing long;
    }

-- the claim for the depth below, where there is one
abbrev Below : ℕ → Type 0
Below zero = Unit {0}
Below (suc room) = (bytes : List ℕ) → Completes (IsValueSpelling room) bytes (completed room bytes)

-- there is no room for what is announced
abbrev HasNoRoom : (room : ℕ) → (holds_values : Bool) → Bool
HasNoRoom room holds_values = holds_values && is_closed (inner_of room)

no_room : (room : ℕ) (holds_values : Bool) (count : ℕ) (content : List ℕ) → HasNoRoom room holds_values ≡ true → Contains room holds_values count content → ⊥
no_room room false count content e c = absurd cc
no_room zero true count content e c = c
no_room (suc room) true count content e c = absurd cc

least_content : (room : ℕ) (holds_values : Bool) (count : ℕ) → HasNoRoom room holds_values ≡ false → HasLeast (Contains room holds_values count) count
least_content room false count e = record {
  shortest = replicate count 0;
  bytes = zeros-bytes count;
  size = length-replicate count 0;
  spelled = length-replicate count 0;
  bound = λ spelling each s. omega arith;
}
least_content zero true count e = absurd cc
least_content (suc room) true count e = least_in_row (IsValueSpelling room) count (least_value room)

content_complete : (room : ℕ) → Below room → (holds_values : Bool) (count : ℕ) (bytes : List ℕ) → HasNoRoom room holds_values ≡ false
    → Completes (Contains room holds_values count) bytes (content_completion (inner_of room) holds_values count bytes)
content_complete room below false count bytes e = bytes_complete count bytes
content_complete zero below true count bytes e = absurd cc
content_complete (suc room) below true count bytes e = completes_in_row (IsValueSpelling room) (completed room) (least_value room) below count bytes

-- ---- behind a leading byte

or_false : (a b : Bool) → (a || b) ≡ false → (a ≡ false) × (b ≡ false)
or_false true b e = absurd cc
or_false false b e = (refl, e)

or_true : (a b : Bool) → (a || b) ≡ true → (a ≡ true) ⊎ (b ≡ true)
or_true true b e = inl refl
or_true false b e = inr e

follow_grows : (kind : Kind) (one other : ℕ) → one ≤ other → follow_count kind one ≤ follow_count kind other
follow_grows Int one other e = e
follow_grows Text one other e = e
follow_grows Array one other e = e
follow_grows Map one other e = omega arith
follow_grows Extension one other e = omega arith
follow_grows Other one other e = e

module _ (room : ℕ) (below : Below room) (leading : Leading) (rest : List ℕ) where
  abbrev holds : Bool
  holds = holds_values leading.kind

  abbrev Inside : ℕ → List ℕ → Type 0
  Inside size = Contains room holds (follow_count leading.kind size)

  abbrev size : ℕ
  size = leading.length + big_number leading.width rest

  led_impossible : (ltb max_length size ≡ true) ⊎ (HasNoRoom room holds ≡ true) → Completes (Announced room (Some leading)) rest Impossible
  led_impossible (inl t) = number_large leading.width leading.length Inside rest (ltb-true _ _ t)
  led_impossible (inr t) = completes_none (Announced room (Some leading)) rest (λ l a. no_room room holds _ a.1 t a.5)

  led_complete : Completes (Announced room (Some leading)) rest (led_completion (inner_of room) leading rest)
  led_complete =
      let Is = Completes (Announced room (Some leading)) rest in
      cond_both (ltb max_length size || HasNoRoom room holds) _ _ Is (λ t. led_impossible (or_true (ltb max_length size) (HasNoRoom room holds) t)) (λ f.
      let both = or_false (ltb max_length size) (HasNoRoom room holds) f in
      let few = ltb-false max_length size both.0 in
      cond_both (ltb (length rest) leading.width) _ _ Is
      (λ t. number_cut leading.width leading.length Inside rest (follow_count leading.kind) (λ number. least_content room holds (follow_count leading.kind number) both.1) (follow_grows leading.kind) few (ltb-true _ _ t))
      (λ f. number_whole leading.width leading.length Inside rest (ltb-false _ _ f) few _ (content_complete room below holds (follow_count leading.kind size) _ both.1)))

-- ---- a value

value_complete : (room : ℕ) → Below room → (bytes : List ℕ) → Completes (IsValueSpelling room) bytes (one_completion (inner_of room) bytes)
value_complete room below [] = empty_completes room
value_complete room below (byte ∷ rest) = behind (leading_of byte) (λ l. value_announced room byte l) (λ l. announced_value room byte l)
  where
    none : IsValueSpelling room [] → ⊥
    none s = omega (arith, some_value room [] s)

    behind : (leading : Option Leading) → ((l : List ℕ) → IsValueSpelling room (byte ∷ l) → Announced room leading l) → ((l : List ℕ) → Announced room leading l → IsValueSpelling room (byte ∷ l))
        → Completes (IsValueSpelling room) (byte ∷ rest) (behind_leading (inner_of room) leading rest)
    behind None to from =
        completes_behind (IsValueSpelling room) (Announced room None) byte rest Impossible to from none (completes_none (Announced room None) rest (λ l a. a))
    behind (Some leading) to from =
        completes_behind (IsValueSpelling room) (Announced room (Some leading)) byte rest (led_completion (inner_of room) leading rest) to from none (led_complete room below leading rest)

pub completed_completes : (room : ℕ) (bytes : List ℕ) → Completes (IsValueSpelling room) bytes (completed room bytes)
completed_completes zero bytes = subst (Completes (IsValueSpelling zero) bytes) (sym (completed_is zero bytes)) (value_complete zero tt bytes)
completed_completes (suc room) bytes =
    subst (Completes (IsValueSpelling (suc room)) bytes) (sym (completed_is (suc room) bytes)) (value_complete (suc room) (completed_completes room) bytes)
