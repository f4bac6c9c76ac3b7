-- The value under a key, in lists of pairs.
use Rattle.std.proofs.Common.{◌≡◌, ℕ, zero, suc, ◌+◌, ◌<◌, ◌≤◌, Bool, true, false, List, [], ◌∷◌, ◌++◌, length, Option, Some, None, refl, sym, ap, ◌∙◌, subst, arith, ◌-◌, eqb}
use Rattle.std.specs.Prelude.{if◌then◌else◌}
use Rattle.std.specs.Option.{option_or, option_eq}
use Rattle.std.proofs.lemmas.Bool.{eqb-true, ne_eqb, false≢true}
use Rattle.mx_msgpack.specs.Grammar as grammar
use Rattle.mx_msgpack.specs.Maps.{Pair, is_key, value_under, pairs_from}
use Rattle.mx_msgpack.specs.Spelling.{AreBytes}
use Rattle.mx_msgpack.proofs.Options.{same_some}
use Rattle.mx_completion.specs.Choices.{AreValued, AreWritten}
use Rattle.mx_completion.specs.Completions.{IsValueSpelling}
use Rattle.mx_completion.proofs.ByteLaws.{one_byte}

-- ---- lists of pairs

or_assoc : {X : Type 0} (a b c : Option X) → option_or a (option_or b c) ≡ option_or (option_or a b) c
or_assoc None b c = refl
or_assoc (Some x) b c = refl

pub or_none : {X : Type 0} (o : Option X) → option_or o None ≡ o
or_none None = refl
or_none (Some x) = refl

pub under_append : (key : ℕ) (one other : List Pair) → value_under key (one ++ other) ≡ option_or (value_under key other) (value_under key one)
under_append key [] other = sym (or_none (value_under key other))
under_append key (pair ∷ one) other =
    ap (λ (o : Option (List ℕ)). option_or o (if is_key key pair.key then Some pair.value else None)) (under_append key one other)
    ∙ sym (or_assoc (value_under key other) (value_under key one) (if is_key key pair.key then Some pair.value else None))

-- the pairs of other keys
pub without : ℕ → List Pair → List Pair
without key [] = []
without key (pair ∷ others) = if is_key key pair.key then without key others else pair ∷ without key others

other_key : (key other : ℕ) (has : Option ℕ) → (other ≡ key → ⊥) → is_key key has ≡ true → is_key other has ≡ false
other_key key other None differs e = absurd (false≢true e)
other_key key other (Some k) differs e = let same = eqb-true k key e in ne_eqb k other (λ o. differs (sym o ∙ same))

pub without_other : (key other : ℕ) (pairs : List Pair) → (other ≡ key → ⊥) → value_under other (without key pairs) ≡ value_under other pairs
unfolding without
without_other key other [] differs = refl
without_other key other (pair ∷ others) differs = by_test (is_key key pair.key) refl (without_other key other others differs)
  where
    by_test : (b : Bool) → is_key key pair.key ≡ b → value_under other (without key others) ≡ value_under other others
        → value_under other (if b then without key others else pair ∷ without key others) ≡ value_under other (pair ∷ others)
    by_test true t again = again ∙ sym (or_none (value_under other others)) ∙ ap (λ (b : Bool). option_or (value_under other others) (if b then Some pair.value else None)) (sym (other_key key other pair.key differs t))
    by_test false t again = ap (λ (o : Option (List ℕ)). option_or o (if is_key other pair.key then Some pair.value else None)) again

without_few : (key : ℕ) (pairs : List Pair) → length (without key pairs) ≤ length pairs
unfolding without
without_few key [] = omega arith
without_few key (pair ∷ others) = by_test (is_key key pair.key) (without_few key others)
  where
    by_test : (b : Bool) → length (without key others) ≤ length others → length (if b then without key others else pair ∷ without key others) ≤ suc (length others)
    by_test true again = omega arith
    by_test false again = omega arith

pub without_less : (key : ℕ) (pairs : List Pair) (value : List ℕ) → value_under key pairs ≡ Some value → suc (length (without key pairs)) ≤ length pairs
unfolding without
without_less key [] value e = absurd cc
without_less key (pair ∷ others) value e = by_test (is_key key pair.key) e (without_few key others) (λ v. without_less key others v)
  where
    by_test : (b : Bool) → option_or (value_under key others) (if b then Some pair.value else None) ≡ Some value → length (without key others) ≤ length others
        → ((v : List ℕ) → value_under key others ≡ Some v → suc (length (without key others)) ≤ length others)
        → suc (length (if b then without key others else pair ∷ without key others)) ≤ suc (length others)
    by_test true e few again = omega arith
    by_test false e few again = let less = again value (sym (or_none (value_under key others)) ∙ e) in omega arith

pub without_valued : (key : ℕ) (pairs : List Pair) → AreValued pairs → AreValued (without key pairs)
unfolding without
without_valued key [] valued = tt
without_valued key (pair ∷ others) (each, value, rest) = by_test (is_key key pair.key) (without_valued key others rest)
  where
    by_test : (b : Bool) → AreValued (without key others) → AreValued (if b then without key others else pair ∷ without key others)
    by_test true again = again
    by_test false again = (each, value, again)

pub under_valued : (key : ℕ) (pairs : List Pair) (value : List ℕ) → AreValued pairs → value_under key pairs ≡ Some value → AreBytes value × IsValueSpelling 63 value
under_valued key [] value valued e = absurd cc
under_valued key (pair ∷ others) value (each, is, rest) e = by_later (value_under key others) refl e (λ v. under_valued key others v rest)
  where
    by_test : (b : Bool) → (if b then Some pair.value else None) ≡ Some value → AreBytes value × IsValueSpelling 63 value
    by_test true e = let same = same_some pair.value value e in (subst AreBytes same each, subst (IsValueSpelling 63) same is)
    by_test false e = absurd cc

    by_later : (later : Option (List ℕ)) → value_under key others ≡ later → option_or later (if is_key key pair.key then Some pair.value else None) ≡ Some value
        → ((v : List ℕ) → value_under key others ≡ Some v → AreBytes v × IsValueSpelling 63 v) → AreBytes value × IsValueSpelling 63 value
    by_later None l e again = by_test (is_key key pair.key) e
    by_later (Some v) l e again = again value (l ∙ e)

-- pairs that no field reads
pub nils : ℕ → List Pair
nils zero = []
nils (suc count) = record { key = None; value = 0xc0 ∷ [] } ∷ nils count

pub nils_written : (count : ℕ) → AreWritten (nils count)
unfolding nils
nils_written zero = tt
nils_written (suc count) = (tt, one_byte 0xc0 (omega arith), (grammar.Nil, refl), nils_written count)

pub nils_many : (count : ℕ) → length (nils count) ≡ count
unfolding nils
nils_many zero = refl
nils_many (suc count) = ap suc (nils_many count)

pub nils_none : (key count : ℕ) → value_under key (nils count) ≡ None
unfolding nils
nils_none key zero = refl
nils_none key (suc count) = rw (nils_none key count) refl

-- ---- pair by pair

pub is_key_eq : (key : ℕ) (has : Option ℕ) → option_eq eqb has (Some key) ≡ is_key key has
is_key_eq key None = refl
is_key_eq key (Some other) = refl

last_one : (b : Bool) (value : List ℕ) (later old : Option (List ℕ)) → option_or later (if b then Some value else old) ≡ option_or (option_or later (if b then Some value else None)) old
last_one true value None old = refl
last_one true value (Some x) old = refl
last_one false value None old = refl
last_one false value (Some x) old = refl

-- a turn of the loop over the pairs
pub value_turn : (key count passed : ℕ) (bytes rest value : List ℕ) (has : Option ℕ) (old new whole : Option (List ℕ)) → passed < count
    → ((others : ℕ) → pairs_from (suc others) bytes ≡ record { key = has; value = value } ∷ pairs_from others rest)
    → new ≡ (if is_key key has then Some value else old)
    → option_or (value_under key (pairs_from (count - passed) bytes)) old ≡ whole
    → option_or (value_under key (pairs_from (count - (passed + 1)) rest)) new ≡ whole
value_turn key count passed bytes rest value has old new whole some first is all =
    let left : ℕ = count - (passed + 1) in
    let more : count - passed ≡ suc (count - (passed + 1)) = omega arith in
    let pairs : pairs_from (count - passed) bytes ≡ record { key = has; value = value } ∷ pairs_from (count - (passed + 1)) rest = ap (λ (n : ℕ). pairs_from n bytes) more ∙ first (count - (passed + 1)) in
    rw is (last_one (is_key key has) value (value_under key (pairs_from (count - (passed + 1)) rest)) old ∙ ap (λ (l : List Pair). option_or (value_under key l) old) (sym pairs) ∙ all)
