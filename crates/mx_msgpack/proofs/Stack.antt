-- The walk with a counter for each open container gives what reading from the left gives.
use Rattle.std.proofs.Common.{◌≡◌, ℕ, zero, suc, ◌+◌, ◌-◌, ◌*◌, ◌<◌, ◌≤◌, ◌≢◌, List, [], ◌∷◌, length, get_or, set, replicate, Option, Some, None, Result, Ok, Err, refl, sym, ap, ◌∙◌, arith, get_or-set_same, get_or-set_other, length-set}
use Rattle.std.proofs.lemmas.Bool.{lt-ltb, le-ltb}
use Rattle.mx_msgpack.specs.declared.bad.Bad.{Bad}
use Rattle.mx_msgpack.specs.declared.bad.Bad.TheVariants.{Deep, Long}
use Rattle.mx_msgpack.specs.declared.head.Head.{Head}
use Rattle.mx_msgpack.specs.declared.head.Head.TheVariants.{Nil, Bool as Boolean, Int, Str, Bin, Array, Map, Fixed, Extension}
use Rattle.mx_msgpack.specs.declared.size.Inside.{Inside}
use Rattle.mx_msgpack.specs.Grammar.{max_length}
use Rattle.mx_msgpack.specs.Reading.{◌>>=◌, head_at, after_all, after_bytes, after_inside, after_content, after_first}
use Rattle.mx_msgpack.specs.Steps.{no_container, step_behind, step_over}
use Rattle.mx_msgpack.proofs.Results.{bind_Ok, bind_bind}
use Rattle.mx_msgpack.proofs.ValueLaws.{inside_of, value_is}

-- ---- a value is a step, and what stands inside

-- how many values a container that announces this holds
abbrev pub values_in : Inside → ℕ
values_in inside = inside.each * inside.announced

-- the bytes after what stands inside, if anything does
abbrev pub after_step : Option (List ℕ → Result (List ℕ) Bad) → ℕ → Option Inside → List ℕ → Result (List ℕ) Bad
after_step one at None rest = Ok rest
after_step one at (Some inside) rest = after_inside one at inside.announced (values_in inside) rest

behind_steps : (one : Option (List ℕ → Result (List ℕ) Bad)) (at : ℕ) (r : Result (List ℕ) Bad) → r ≡ (no_container r >>= λ x. after_step one at x.0 x.1)
behind_steps one at (Ok rest) = refl
behind_steps one at (Err bad) = refl

content_steps : (one : Option (List ℕ → Result (List ℕ) Bad)) (at : ℕ) (head : Head) (rest : List ℕ)
    → after_content one at head rest ≡ (step_behind at head rest >>= λ x. after_step one at x.0 x.1)
content_steps one at Nil rest = refl
content_steps one at (Boolean truth) rest = refl
content_steps one at (Int number) rest = refl
content_steps one at (Str size) rest = behind_steps one at (after_bytes at size size rest)
content_steps one at (Bin size) rest = behind_steps one at (after_bytes at size size rest)
content_steps one at (Array count) rest = let once : count ≡ 1 * count = omega arith in ap (λ (values : ℕ). after_inside one at count values rest) once
content_steps one at (Map count) rest = refl
content_steps one at (Fixed size) rest = behind_steps one at (after_bytes at size size rest)
content_steps one at (Extension size) rest = behind_steps one at (after_bytes at size (suc size) rest)

head_steps : (one : Option (List ℕ → Result (List ℕ) Bad)) (at : ℕ) (r : Result (Head × List ℕ) Bad)
    → (r >>= λ head. after_content one at head.0 head.1) ≡ ((r >>= λ head. step_behind at head.0 head.1) >>= λ x. after_step one at x.0 x.1)
head_steps one at (Ok x) = content_steps one at x.0 x.1
head_steps one at (Err bad) = refl

pub value_steps : (total room : ℕ) (bytes : List ℕ)
    → after_first total room bytes ≡ (step_over (total - length bytes) bytes >>= λ x. after_step (inside_of total room) (total - length bytes) x.0 x.1)
value_steps total room bytes = value_is total room bytes ∙ head_steps (inside_of total room) (total - length bytes) (head_at (total - length bytes) bytes)

-- ---- the stack

-- the counters of this many open containers, the innermost first
unfoldable pub counters : List ℕ → ℕ → List ℕ
counters left zero = []
counters left (suc depth) = get_or left depth 0 ∷ counters left depth

-- the bytes after so many values in each open container, where the innermost has this much room inside
unfoldable pub after_stack : ℕ → ℕ → List ℕ → List ℕ → Result (List ℕ) Bad
after_stack total room [] bytes = Ok bytes
after_stack total room (count ∷ others) bytes = after_all (after_first total room) count bytes >>= after_stack total (suc room) others

counters-set : (left : List ℕ) (depth i v : ℕ) → depth ≤ i → counters (set left i v) depth ≡ counters left depth
unfolding counters
counters-set left zero i v le = refl
counters-set left (suc depth) i v le =
    let ne : depth ≢ i = omega arith in
    rw (get_or-set_other, counters-set left depth i v (omega arith)) refl

counters-at : (left : List ℕ) (depth v : ℕ) → depth < length left → counters (set left depth v) (suc depth) ≡ v ∷ counters left depth
unfolding counters
counters-at left depth v lt = rw (get_or-set_same, counters-set left depth depth v (omega arith)) refl

-- one value to come, in so many containers of which nothing else is to come
pub nested_begins : (total around : ℕ) (bytes : List ℕ) → around ≤ 1
    → after_stack total (65 - (around + 1)) (counters (set (replicate 65 0) around 1) (around + 1)) bytes ≡ after_first total (64 - around) bytes
unfolding counters after_stack
nested_begins total zero bytes few = bind_Ok (after_first total 64 bytes >>= λ x. Ok x) ∙ bind_Ok (after_first total 64 bytes)
nested_begins total (suc zero) bytes few = bind_Ok (after_first total 63 bytes >>= λ x. Ok x) ∙ bind_Ok (after_first total 63 bytes)
nested_begins total (suc (suc more)) bytes few = absurd (omega arith)

pub stack_ends : (total room : ℕ) (left bytes : List ℕ) → after_stack total room (counters left 0) bytes ≡ Ok bytes
unfolding counters after_stack
stack_ends total room left bytes = refl

-- a container that is done
pub stack_pops : (total room : ℕ) (left : List ℕ) (depth : ℕ) (bytes : List ℕ) → get_or left depth 0 ≡ 0
    → after_stack total room (counters left (suc depth)) bytes ≡ after_stack total (suc room) (counters left depth) bytes
unfolding counters after_stack
stack_pops total room left depth bytes e = rw e refl

-- ---- one value of the innermost container, over a plain stack

module _ (total room count : ℕ) (others bytes : List ℕ) where
  plain_value : after_stack total room (suc count ∷ others) bytes ≡ (after_first total room bytes >>= after_stack total room (count ∷ others))
  unfolding after_stack
  plain_value = bind_bind (after_first total room bytes) (after_all (after_first total room) count) (after_stack total (suc room) others)

  plain_step : (step : Result (Option Inside × List ℕ) Bad) → step_over (total - length bytes) bytes ≡ step
      → after_stack total room (suc count ∷ others) bytes
      ≡ ((step >>= λ x. after_step (inside_of total room) (total - length bytes) x.0 x.1) >>= after_stack total room (count ∷ others))
  plain_step step s =
      plain_value
      ∙ ap (λ (r : Result (List ℕ) Bad). r >>= after_stack total room (count ∷ others))
      (value_steps total room bytes ∙ ap (λ (r : Result (Option Inside × List ℕ) Bad). r >>= λ x. after_step (inside_of total room) (total - length bytes) x.0 x.1) s)

  pub plain_fails : (bad : Bad) → step_over (total - length bytes) bytes ≡ Err bad → after_stack total room (suc count ∷ others) bytes ≡ Err bad
  plain_fails bad s = plain_step (Err bad) s

  pub plain_steps : (rest : List ℕ) → step_over (total - length bytes) bytes ≡ Ok (None, rest)
      → after_stack total room (suc count ∷ others) bytes ≡ after_stack total room (count ∷ others) rest
  plain_steps rest s = plain_step (Ok (None, rest)) s

module _ (total room count : ℕ) (others : List ℕ) (inside : Inside) (bytes rest : List ℕ) where
  pub plain_long : max_length < inside.announced → step_over (total - length bytes) bytes ≡ Ok (Some inside, rest)
      → after_stack total (suc room) (suc count ∷ others) bytes ≡ Err (Long (total - length bytes))
  plain_long many s =
      let stopped : after_inside (Some (after_first total room)) (total - length bytes) inside.announced (values_in inside) rest ≡ Err (Long (total - length bytes)) =
      rw (lt-ltb max_length inside.announced many) refl in
      plain_step total (suc room) count others bytes (Ok (Some inside, rest)) s
      ∙ ap (λ (r : Result (List ℕ) Bad). r >>= after_stack total (suc room) (count ∷ others)) stopped

  pub plain_pushes : inside.announced ≤ max_length → step_over (total - length bytes) bytes ≡ Ok (Some inside, rest)
      → after_stack total (suc room) (suc count ∷ others) bytes ≡ after_stack total room (values_in inside ∷ count ∷ others) rest
  unfolding after_stack
  plain_pushes few s =
      let going : after_inside (Some (after_first total room)) (total - length bytes) inside.announced (values_in inside) rest ≡ after_all (after_first total room) (values_in inside) rest =
      rw (le-ltb max_length inside.announced few) refl in
      plain_step total (suc room) count others bytes (Ok (Some inside, rest)) s
      ∙ ap (λ (r : Result (List ℕ) Bad). r >>= after_stack total (suc room) (count ∷ others)) going

-- ---- the same with the counters

counters-one : (left : List ℕ) (depth count : ℕ) → get_or left depth 0 ≡ suc count → counters left (suc depth) ≡ suc count ∷ counters left depth
unfolding counters
counters-one left depth count e = rw e refl

pub stack_fails : (total room : ℕ) (left : List ℕ) (depth count : ℕ) (bytes : List ℕ) (bad : Bad) → get_or left depth 0 ≡ suc count
    → step_over (total - length bytes) bytes ≡ Err bad
    → after_stack total room (counters left (suc depth)) bytes ≡ Err bad
stack_fails total room left depth count bytes bad e s = rw (counters-one left depth count e) (plain_fails total room count (counters left depth) bytes bad s)

pub stack_steps : (total room : ℕ) (left : List ℕ) (depth count : ℕ) (bytes rest : List ℕ) → depth < length left → get_or left depth 0 ≡ suc count
    → step_over (total - length bytes) bytes ≡ Ok (None, rest)
    → after_stack total room (counters left (suc depth)) bytes ≡ after_stack total room (counters (set left depth count) (suc depth)) rest
stack_steps total room left depth count bytes rest lt e s =
    rw (counters-one left depth count e)
    (plain_steps total room count (counters left depth) bytes rest s
    ∙ ap (λ (stack : List ℕ). after_stack total room stack rest) (sym (counters-at left depth count lt)))

pub stack_deep : (total : ℕ) (left : List ℕ) (depth count : ℕ) (inside : Inside) (bytes rest : List ℕ) → get_or left depth 0 ≡ suc count
    → step_over (total - length bytes) bytes ≡ Ok (Some inside, rest)
    → after_stack total 0 (counters left (suc depth)) bytes ≡ Err (Deep (total - length bytes))
stack_deep total left depth count inside bytes rest e s =
    rw (counters-one left depth count e) (plain_step total 0 count (counters left depth) bytes (Ok (Some inside, rest)) s)

pub stack_long : (total room : ℕ) (left : List ℕ) (depth count : ℕ) (inside : Inside) (bytes rest : List ℕ) → max_length < inside.announced → get_or left depth 0 ≡ suc count
    → step_over (total - length bytes) bytes ≡ Ok (Some inside, rest)
    → after_stack total (suc room) (counters left (suc depth)) bytes ≡ Err (Long (total - length bytes))
stack_long total room left depth count inside bytes rest many e s =
    rw (counters-one left depth count e) (plain_long total room count (counters left depth) inside bytes rest many s)

pub stack_pushes : (total room : ℕ) (left : List ℕ) (depth count : ℕ) (inside : Inside) (bytes rest : List ℕ) → suc depth < length left → inside.announced ≤ max_length
    → get_or left depth 0 ≡ suc count → step_over (total - length bytes) bytes ≡ Ok (Some inside, rest)
    → after_stack total (suc room) (counters left (suc depth)) bytes
    ≡ after_stack total room (counters (set (set left depth count) (suc depth) (values_in inside)) (suc (suc depth))) rest
stack_pushes total room left depth count inside bytes rest lt few e s =
    rw (counters-one left depth count e)
    (plain_pushes total room count (counters left depth) inside bytes rest few s
    ∙ ap (λ (stack : List ℕ). after_stack total room (values_in inside ∷ stack) rest) (sym (counters-at left depth count (omega arith)))
    ∙ ap (λ (stack : List ℕ). after_stack total room stack rest)
    (sym (counters-at (set left depth count) (suc depth) (values_in inside) (omega (arith, length-set {A = ℕ})))))

-- ---- the same, as the code counts

module _ (total depth : ℕ) (left bytes : List ℕ) (below : 0 < depth) where
  one_less : suc (depth - 1) ≡ depth
  one_less = omega arith

  opened : (room : ℕ) → after_stack total room (counters left depth) bytes ≡ after_stack total room (counters left (suc (depth - 1))) bytes
  opened room = ap (λ (k : ℕ). after_stack total room (counters left k) bytes) (sym one_less)

  pub walk_pops : depth ≤ 65 → get_or left (depth - 1) 0 ≡ 0
      → after_stack total (65 - depth) (counters left depth) bytes ≡ after_stack total (65 - (depth - 1)) (counters left (depth - 1)) bytes
  walk_pops most e =
      let room : suc (65 - depth) ≡ 65 - (depth - 1) = omega arith in
      opened (65 - depth) ∙ stack_pops total (65 - depth) left (depth - 1) bytes e
      ∙ ap (λ (k : ℕ). after_stack total k (counters left (depth - 1)) bytes) room

  module _ (some : get_or left (depth - 1) 0 ≡ 0 → ⊥) where
    count_is : get_or left (depth - 1) 0 ≡ suc (get_or left (depth - 1) 0 - 1)
    count_is = omega arith

    pub walk_fails : (room : ℕ) (bad : Bad) → step_over (total - length bytes) bytes ≡ Err bad
        → after_stack total room (counters left depth) bytes ≡ Err bad
    walk_fails room bad s = opened room ∙ stack_fails total room left (depth - 1) (get_or left (depth - 1) 0 - 1) bytes bad count_is s

    pub walk_steps : (room : ℕ) (rest : List ℕ) → depth ≤ length left → step_over (total - length bytes) bytes ≡ Ok (None, rest)
        → after_stack total room (counters left depth) bytes
        ≡ after_stack total room (counters (set left (depth - 1) (get_or left (depth - 1) 0 - 1)) depth) rest
    walk_steps room rest most s =
        opened room
        ∙ stack_steps total room left (depth - 1) (get_or left (depth - 1) 0 - 1) bytes rest (omega arith) count_is s
        ∙ ap (λ (k : ℕ). after_stack total room (counters (set left (depth - 1) (get_or left (depth - 1) 0 - 1)) k) rest) one_less

    pub walk_deep : (inside : Inside) (rest : List ℕ) → 65 ≤ depth → step_over (total - length bytes) bytes ≡ Ok (Some inside, rest)
        → after_stack total (65 - depth) (counters left depth) bytes ≡ Err (Deep (total - length bytes))
    walk_deep inside rest most s =
        let room : 65 - depth ≡ 0 = omega arith in
        rw room (opened 0 ∙ stack_deep total left (depth - 1) (get_or left (depth - 1) 0 - 1) inside bytes rest count_is s)

    pub walk_long : (inside : Inside) (rest : List ℕ) → depth < 65 → max_length < inside.announced → step_over (total - length bytes) bytes ≡ Ok (Some inside, rest)
        → after_stack total (65 - depth) (counters left depth) bytes ≡ Err (Long (total - length bytes))
    walk_long inside rest most many s =
        let room : 65 - depth ≡ suc (65 - (depth + 1)) = omega arith in
        rw room (opened (suc (65 - (depth + 1))) ∙ stack_long total (65 - (depth + 1)) left (depth - 1) (get_or left (depth - 1) 0 - 1) inside bytes rest many count_is s)

    pub walk_pushes : (inside : Inside) (rest : List ℕ) → depth < 65 → length left ≡ 65 → inside.announced ≤ max_length
        → step_over (total - length bytes) bytes ≡ Ok (Some inside, rest)
        → after_stack total (65 - depth) (counters left depth) bytes
        ≡ after_stack total (65 - (depth + 1)) (counters (set (set left (depth - 1) (get_or left (depth - 1) 0 - 1)) depth (values_in inside)) (depth + 1)) rest
    walk_pushes inside rest most whole few s =
        let room : 65 - depth ≡ suc (65 - (depth + 1)) = omega arith in
        let more : suc depth ≡ depth + 1 = omega arith in
        opened (65 - depth)
        ∙ ap (λ (k : ℕ). after_stack total k (counters left (suc (depth - 1))) bytes) room
        ∙ stack_pushes total (65 - (depth + 1)) left (depth - 1) (get_or left (depth - 1) 0 - 1) inside bytes rest (omega arith) few count_is s
        ∙ ap (λ (k : ℕ). after_stack total (65 - (depth + 1)) (counters (set (set left (depth - 1) (get_or left (depth - 1) 0 - 1)) k (values_in inside)) (suc k)) rest) one_less
        ∙ ap (λ (k : ℕ). after_stack total (65 - (depth + 1)) (counters (set (set left (depth - 1) (get_or left (depth - 1) 0 - 1)) depth (values_in inside)) k) rest) more

-- ---- the first step

pub first_step : (bytes : List ℕ) (step : Result (Option Inside × List ℕ) Bad) → step_over 0 bytes ≡ step
    → after_first (length bytes) 64 bytes ≡ (step >>= λ x. after_step (inside_of (length bytes) 64) 0 x.0 x.1)
first_step bytes step e =
    let at : length bytes - length bytes ≡ 0 = omega arith in
    value_steps (length bytes) 64 bytes
    ∙ ap (λ (k : ℕ). step_over k bytes >>= λ x. after_step (inside_of (length bytes) 64) k x.0 x.1) at
    ∙ ap (λ (r : Result (Option Inside × List ℕ) Bad). r >>= λ x. after_step (inside_of (length bytes) 64) 0 x.0 x.1) e

pub first_fails : (bytes : List ℕ) (bad : Bad) → step_over 0 bytes ≡ Err bad → after_first (length bytes) 64 bytes ≡ Err bad
first_fails bytes bad e = first_step bytes (Err bad) e

pub first_ends : (bytes rest : List ℕ) → step_over 0 bytes ≡ Ok (None, rest) → after_first (length bytes) 64 bytes ≡ Ok rest
first_ends bytes rest e = first_step bytes (Ok (None, rest)) e

pub first_inside : (bytes : List ℕ) (inside : Inside) (rest : List ℕ) → inside.announced ≤ max_length → step_over 0 bytes ≡ Ok (Some inside, rest)
    → after_first (length bytes) 64 bytes ≡ after_all (after_first (length bytes) 63) (values_in inside) rest
first_inside bytes inside rest few e =
    let going : after_inside (Some (after_first (length bytes) 63)) 0 inside.announced (values_in inside) rest ≡ after_all (after_first (length bytes) 63) (values_in inside) rest =
    rw (le-ltb max_length inside.announced few) refl in
    first_step bytes (Ok (Some inside, rest)) e ∙ going

pub first_long : (bytes : List ℕ) (inside : Inside) (rest : List ℕ) → max_length < inside.announced → step_over 0 bytes ≡ Ok (Some inside, rest)
    → after_first (length bytes) 64 bytes ≡ Err (Long 0)
first_long bytes inside rest many e =
    let stopped : after_inside (Some (after_first (length bytes) 63)) 0 inside.announced (values_in inside) rest ≡ Err (Long 0) =
    rw (lt-ltb max_length inside.announced many) refl in
    first_step bytes (Ok (Some inside, rest)) e ∙ stopped

pub stack_of_one : (total room count : ℕ) (bytes : List ℕ) → after_stack total room (count ∷ []) bytes ≡ after_all (after_first total room) count bytes
unfolding after_stack
stack_of_one total room count bytes = bind_Ok (after_all (after_first total room) count bytes)
