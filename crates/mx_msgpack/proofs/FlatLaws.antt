-- The walk with one counter for all open containers gives what reading from the left gives.
use Rattle.std.proofs.Common.{◌≡◌, ℕ, zero, suc, ◌+◌, ◌-◌, ◌<◌, ◌≤◌, List, [], ◌∷◌, length, Some, None, Result, Ok, refl, sym, ap, ◌∙◌, arith}
use Rattle.std.proofs.lemmas.Nat.{mul-le}
use Rattle.mx_msgpack.specs.declared.bad.Bad.{Bad}
use Rattle.mx_msgpack.specs.declared.size.Inside.{Inside}
use Rattle.mx_msgpack.specs.Grammar.{max_length}
use Rattle.mx_msgpack.specs.Reading.{after_first}
use Rattle.mx_msgpack.specs.Steps.{step_over}
use Rattle.mx_msgpack.proofs.Stack.{after_stack, values_in, plain_steps, plain_pushes, stack_of_one}
use Rattle.mx_msgpack.proofs.Results.{bind_Ok}

-- the values that are to come in all open containers
abbrev pub all_of : List ℕ → ℕ
all_of [] = 0
all_of (count ∷ others) = count + all_of others

-- some stack of at most so many open containers, in which so many values are to come, gives this answer
pub record Flat (total left opened : ℕ) (rest : List ℕ) (answer : Result (List ℕ) Bad) : Type 0 where
  pub stack : List ℕ
  pub room : ℕ
  pub deep : room + length stack ≡ 64
  pub few : length stack ≤ opened
  pub whole : all_of stack ≡ left
  pub same : after_stack total room stack rest ≡ answer

-- the same with one value more, which is the innermost container's
pub record Top (total left opened : ℕ) (rest : List ℕ) (answer : Result (List ℕ) Bad) : Type 0 where
  pub count : ℕ
  pub others : List ℕ
  pub room : ℕ
  pub deep : suc room + length others ≡ 64
  pub few : suc (length others) ≤ opened
  pub whole : count + all_of others ≡ left
  pub same : after_stack total room (suc count ∷ others) rest ≡ answer

zero_more : (n : ℕ) → n ≡ 0 + n
zero_more n = omega arith

-- as many values as a container may have
pub values_few : (inside : Inside) → inside.each ≤ 2 → inside.announced ≤ max_length → values_in inside ≤ 4194304
values_few inside each few = mul-le inside.each inside.announced 2 max_length each few

module _ (total : ℕ) (rest : List ℕ) (answer : Result (List ℕ) Bad) where
  top_of : (left opened room : ℕ) (stack : List ℕ) → room + length stack ≡ 64 → length stack ≤ opened → all_of stack ≡ suc left
      → after_stack total room stack rest ≡ answer → Top total left opened rest answer
  unfolding after_stack
  top_of left opened room [] deep few whole same = absurd (omega arith)
  top_of left opened room (zero ∷ others) deep few whole same = top_of left opened (suc room) others (omega arith) (omega arith) (zero_more (all_of others) ∙ whole) same
  top_of left opened room (suc count ∷ others) deep few whole same = record {
    count = count;
    others = others;
    room = room;
    deep = omega arith;
    few = few;
    whole = omega arith;
    same = same;
  }

  pub top : (left opened : ℕ) → 0 < left → Flat total left opened rest answer → Top total (left - 1) opened rest answer
  top left opened some flat =
      let more : left ≡ suc (left - 1) = omega arith in
      top_of (left - 1) opened flat.room flat.stack flat.deep flat.few (flat.whole ∙ more) flat.same

  ended : (room : ℕ) (stack : List ℕ) → all_of stack ≡ 0 → after_stack total room stack rest ≡ answer → Ok rest ≡ answer
  unfolding after_stack
  ended room [] whole same = same
  ended room (zero ∷ others) whole same = ended (suc room) others (zero_more (all_of others) ∙ whole) same
  ended room (suc count ∷ others) whole same = absurd (omega arith)

  pub flat_ends : (left opened : ℕ) → left ≡ 0 → Flat total left opened rest answer → answer ≡ Ok rest
  flat_ends left opened none flat = sym (ended flat.room flat.stack (flat.whole ∙ none) flat.same)

  module _ (left opened : ℕ) (t : Top total left opened rest answer) where
    pub flat_steps : (after : List ℕ) → step_over (total - length rest) rest ≡ Ok (None, after) → Flat total left opened after answer
    flat_steps after s = record {
      stack = t.count ∷ t.others;
      room = t.room;
      deep = omega (arith, t.deep);
      few = t.few;
      whole = t.whole;
      same = sym (plain_steps total t.room t.count t.others rest after s) ∙ t.same;
    }

    pub flat_pushes : (inside : Inside) (after : List ℕ) → opened < 64 → step_over (total - length rest) rest ≡ Ok (Some inside, after) → inside.announced ≤ max_length
        → Flat total (left + values_in inside) (opened + 1) after answer
    flat_pushes inside after shallow s most =
        let room_is : t.room ≡ suc (t.room - 1) = omega (arith, t.deep, t.few) in
        record {
          stack = values_in inside ∷ t.count ∷ t.others;
          room = t.room - 1;
          deep = omega (arith, t.deep, room_is);
          few = omega (arith, t.few);
          whole = omega (arith, t.whole);
          same = sym (plain_pushes total (t.room - 1) t.count t.others inside rest after most s)
              ∙ ap (λ (k : ℕ). after_stack total k (suc t.count ∷ t.others) rest) (sym room_is) ∙ t.same;
        }

pub flat_begins : (total : ℕ) (bytes : List ℕ) → Flat total 1 1 bytes (after_first total 63 bytes)
flat_begins total bytes = record {
  stack = 1 ∷ [];
  room = 63;
  deep = refl;
  few = omega arith;
  whole = refl;
  same = stack_of_one total 63 1 bytes ∙ bind_Ok (after_first total 63 bytes);
}
