-- The first fault that reading finds is the grammar's.
-- `fault_found`: where reading fails, the bytes have this fault.
-- `fault_again`: a fault that bytes have is the one with which reading fails.
use Rattle.std.proofs.Common.{◌≡◌, ℕ, zero, suc, ◌+◌, ◌-◌, ◌*◌, ◌<◌, ◌≤◌, true, false, ltb, List, [], ◌∷◌, ◌++◌, length, take, drop, Some, Result, Ok, Err, refl, sym, ap, ◌∙◌, subst, append_assoc, inl, inr, ◌⊎◌, arith}
use Rattle.std.specs.Prelude.{◌↔◌}
use Rattle.std.proofs.lemmas.Bool.{ltb-true, ltb-false, lt-ltb, le-ltb}
use Rattle.std.proofs.lemmas.List.{length-append}
use Rattle.mx_msgpack.specs.declared.bad.Bad.{Bad}
use Rattle.mx_msgpack.specs.declared.bad.Bad.TheVariants.{Unused, Short, Deep, Long}
use Rattle.mx_msgpack.specs.declared.head.Head.{Head}
use Rattle.mx_msgpack.specs.declared.head.Head.TheVariants.{Nil, Bool as Boolean, Int, Str, Bin, Array, Map, Fixed, Extension}
use Rattle.mx_msgpack.specs.Grammar.{Value, Values, NoValue, MoreValues, value_count, max_length, max_nesting, Spells, SpellsAll}
use Rattle.mx_msgpack.specs.Faults.{BytesHead, ContainerHead, IsFault, begins_none, ends_in_head, too_deep, too_many, inside, too_long, ends_in_content}
use Rattle.mx_msgpack.specs.Reading.{head_at, after_all, after_bytes, after_inside, after_content, after_first, measured, first_fault}
use Rattle.mx_msgpack.proofs.Results.{bind_failed, chosen, err_is}
use Rattle.mx_msgpack.proofs.ValueLaws.{inside_of, value_is, value_begins, measured_err, read_err}
use Rattle.mx_msgpack.proofs.Heads.{SpellsHead, HeadFault, head_spelled, head_again, headless, unused_read, ends_read}
use Rattle.mx_msgpack.proofs.GrammarLaws.{joined, value_spelled, value_again}
use Rattle.mx_msgpack.proofs.Measured.{size_spelled, measured_only}
use Rattle.mx_msgpack.proofs.FrontLaws.{measured_again}
use Rattle.mx_msgpack.proofs.TakingLaws.{head_fault, inside_fault, room_fault, whole_fault}

-- ---- what reading finds is a fault

-- values in a row, of which one has a fault
record Stopped (total room count : ℕ) (bytes : List ℕ) (bad : Bad) : Type 0 where
  values : Values
  front : List ℕ
  rest : List ℕ
  parts : bytes ≡ front ++ rest
  spelled : SpellsAll room values front
  fewer : value_count values < count
  fault : after_first total room rest ≡ Err bad

stopped : (total room count : ℕ) (bytes : List ℕ) (bad : Bad) → after_all (after_first total room) count bytes ≡ Err bad → Stopped total room count bytes bad
stopped total room zero bytes bad e = absurd cc
stopped total room (suc count) bytes bad e =
    elim (bind_failed (after_first total room bytes) (after_all (after_first total room) count) bad e) [
      | inl f ↦ record { values = NoValue; front = []; rest = bytes; parts = refl; spelled = refl; fewer = omega arith; fault = f }
      | inr (middle, is, more) ↦
          let first = value_spelled total room bytes middle is in
          let others = stopped total room count middle bad more in
          record {
            values = MoreValues first.0 others.values;
            front = first.1 ++ others.front;
            rest = others.rest;
            parts = joined bytes first.1 middle others.front others.rest first.2 others.parts;
            spelled = (first.1, others.front, refl, first.3, others.spelled);
            fewer = omega (arith, others.fewer);
            fault = others.fault;
          }
    ]

-- the claim for one depth, which the depth above takes
abbrev Claim : (total room : ℕ) → Type 0
Claim total room = (bytes : List ℕ) (bad : Bad) → length bytes ≤ total → after_first total room bytes ≡ Err bad → IsFault room (total - length bytes) bytes bad

-- the claim for the depth below, where there is one
abbrev Below : (total room : ℕ) → Type 0
Below total zero = Unit {0}
Below total (suc room) = Claim total room

-- bytes that a head announces
bytes_fail : (room at size follow : ℕ) (bytes head rest : List ℕ) (bad : Bad) → BytesHead size follow head → bytes ≡ head ++ rest
    → after_bytes at size follow rest ≡ Err bad → IsFault room at bytes bad
bytes_fail room at size follow bytes head rest bad h parts e =
    elim (chosen (ltb max_length size) (Err (Long at)) _ (Err bad) e) [
      | inl (t, long) ↦ subst (λ (b : Bad). IsFault room at bytes b) (err_is (Long at) bad long) (too_long size follow head rest h parts (ltb-true _ _ t))
      | inr (f, more) ↦
          elim (chosen (ltb (length rest) follow) (Err Short) (Ok (drop follow rest)) (Err bad) more) [
            | inl (t, short) ↦
                subst (λ (b : Bad). IsFault room at bytes b) (err_is Short bad short)
                (ends_in_content size follow head rest h parts (ltb-false _ _ f) (ltb-true _ _ t))
            | inr (g, whole) ↦ absurd cc
          ]
    ]

-- the place after a head and some values
place_inside : (total : ℕ) (bytes head front rest : List ℕ) → length bytes ≤ total → bytes ≡ head ++ (front ++ rest)
    → (length rest ≤ total) × (total - length rest ≡ (total - length bytes) + (length head + length front))
place_inside total bytes head front rest within parts =
    let l = ap length parts in
    let m = length-append head (front ++ rest) in
    let n = length-append front rest in
    (omega arith, omega arith)

-- values that a head announces
container_fails : (total room : ℕ) → Below total room → (count follow : ℕ) (bytes head after : List ℕ) (bad : Bad) → length bytes ≤ total
    → ContainerHead count follow head → bytes ≡ head ++ after → after_inside (inside_of total room) (total - length bytes) count follow after ≡ Err bad
    → IsFault room (total - length bytes) bytes bad
container_fails total zero below count follow bytes head after bad within h parts e =
    subst (λ (b : Bad). IsFault zero (total - length bytes) bytes b) (err_is (Deep (total - length bytes)) bad e) (too_deep count follow head after h parts)
container_fails total (suc room) below count follow bytes head after bad within h parts e =
    let at = total - length bytes in
    elim (chosen (ltb max_length count) (Err (Long at)) _ (Err bad) e) [
      | inl (t, long) ↦ subst (λ (b : Bad). IsFault (suc room) at bytes b) (err_is (Long at) bad long) (too_many count follow head after h parts (ltb-true _ _ t))
      | inr (f, more) ↦
          let s = stopped total room follow after bad more in
          let whole = parts ∙ ap (λ (l : List ℕ). head ++ l) s.parts in
          let place = place_inside total bytes head s.front s.rest within whole in
          inside count follow head s.front s.rest s.values h whole (ltb-false _ _ f) s.spelled s.fewer
          (subst (λ (p : ℕ). IsFault room p s.rest bad) place.1 (below s.rest bad place.0 s.fault))
    ]

content_fails : (total room : ℕ) → Below total room → (head : Head) (bytes front rest : List ℕ) (bad : Bad) → length bytes ≤ total → SpellsHead head front
    → bytes ≡ front ++ rest → after_content (inside_of total room) (total - length bytes) head rest ≡ Err bad → IsFault room (total - length bytes) bytes bad
content_fails total room below Nil bytes front rest bad within s parts e = absurd cc
content_fails total room below (Boolean truth) bytes front rest bad within s parts e = absurd cc
content_fails total room below (Int number) bytes front rest bad within s parts e = absurd cc
content_fails total room below (Str size) bytes front rest bad within s parts e =
    bytes_fail room (total - length bytes) size size bytes front rest bad (inl (inl s, refl)) parts e
content_fails total room below (Bin size) bytes front rest bad within s parts e =
    bytes_fail room (total - length bytes) size size bytes front rest bad (inl (inr (inl s), refl)) parts e
content_fails total room below (Array count) bytes front rest bad within s parts e =
    container_fails total room below count count bytes front rest bad within (inl (s, refl)) parts e
content_fails total room below (Map count) bytes front rest bad within s parts e =
    container_fails total room below count (2 * count) bytes front rest bad within (inr (s, refl)) parts e
content_fails total room below (Fixed size) bytes front rest bad within s parts e =
    bytes_fail room (total - length bytes) size size bytes front rest bad (inl (inr (inr s), refl)) parts e
content_fails total room below (Extension size) bytes front rest bad within s parts e =
    bytes_fail room (total - length bytes) size (suc size) bytes front rest bad (inr (s, refl)) parts e

head_fails : (room at : ℕ) (bytes : List ℕ) (bad : Bad) → HeadFault at bytes bad → IsFault room at bytes bad
head_fails room at bytes bad (inl (leading, rest, parts, unused, is)) = rw (parts, is) (begins_none unused)
head_fails room at bytes bad (inr (cut, is)) = rw is (ends_in_head cut)

fault_over : (total room : ℕ) → Below total room → Claim total room
fault_over total room below bytes bad within e =
    elim (bind_failed (head_at (total - length bytes) bytes) (λ head. after_content (inside_of total room) (total - length bytes) head.0 head.1) bad (sym (value_is total room bytes) ∙ e)) [
      | inl f ↦ head_fails room (total - length bytes) bytes bad (headless (total - length bytes) bytes bad f)
      | inr (head, is, more) ↦
          let h = head_spelled (total - length bytes) bytes head.0 head.1 is in
          content_fails total room below head.0 bytes h.0 head.1 bad within h.2 h.1 more
    ]

pub fault_found : (total room : ℕ) → Claim total room
fault_found total zero bytes bad within e = fault_over total zero tt bytes bad within e
fault_found total (suc room) bytes bad within e = fault_over total (suc room) (λ b d w f. fault_found total room b d w f) bytes bad within e

-- ---- a fault is what reading finds

head_fault_at : (total room at : ℕ) (bytes : List ℕ) (bad : Bad) → at + length bytes ≡ total → head_at at bytes ≡ Err bad → after_first total room bytes ≡ Err bad
head_fault_at total room at bytes bad same e =
    let place : at ≡ total - length bytes = omega arith in
    head_fault total room bytes bad (rw (← place) e)

begins_at : (total room at : ℕ) (bytes : List ℕ) (head : Head) (rest : List ℕ) → at + length bytes ≡ total → head_at at bytes ≡ Ok (head, rest)
    → after_first total room bytes ≡ after_content (inside_of total room) at head rest
begins_at total room at bytes head rest same e =
    let place : at ≡ total - length bytes = omega arith in
    rw place (value_begins total room bytes head rest (rw (← place) e))

module _ (total room at size follow : ℕ) (bytes front rest : List ℕ) (parts : bytes ≡ front ++ rest) (same : at + length bytes ≡ total) where
  led_by : (head : Head) → SpellsHead head front → after_first total room bytes ≡ after_content (inside_of total room) at head rest
  led_by head s = begins_at total room at bytes head rest same (ap (head_at at) parts ∙ head_again at head front rest s)

  bytes_read : BytesHead size follow front → after_first total room bytes ≡ after_bytes at size follow rest
  bytes_read h =
      elim h [
        | inl (inl s, e) ↦ rw e (led_by (Str size) s)
        | inl (inr (inl s), e) ↦ rw e (led_by (Bin size) s)
        | inl (inr (inr s), e) ↦ rw e (led_by (Fixed size) s)
        | inr (s, e) ↦ rw e (led_by (Extension size) s)
      ]

  container_read : ContainerHead size follow front → after_first total room bytes ≡ after_inside (inside_of total room) at size follow rest
  container_read h =
      elim h [
        | inl (s, e) ↦ rw e (led_by (Array size) s)
        | inr (s, e) ↦ rw e (led_by (Map size) s)
      ]

values_fail : (total room : ℕ) (values : Values) (count : ℕ) (front rest : List ℕ) (bad : Bad) → SpellsAll room values front → value_count values < count
    → after_first total room rest ≡ Err bad → after_all (after_first total room) count (front ++ rest) ≡ Err bad
values_fail total room values zero front rest bad s few e = absurd (omega arith)
values_fail total room NoValue (suc count) front rest bad s few e = rw (s, e) refl
values_fail total room (MoreValues value others) (suc count) front rest bad (first, more, parts, s, ss) few e =
    rw (parts, append_assoc first more rest, value_again total room value first (more ++ rest) s) (values_fail total room others count more rest bad ss (omega arith) e)

place_behind : (total at : ℕ) (bytes head front rest : List ℕ) → bytes ≡ head ++ (front ++ rest) → at + length bytes ≡ total
    → (at + (length head + length front)) + length rest ≡ total
place_behind total at bytes head front rest parts same =
    let l = ap length parts in
    let m = length-append head (front ++ rest) in
    let n = length-append front rest in
    omega arith

bytes_too_long : (at size follow : ℕ) (rest : List ℕ) → max_length < size → after_bytes at size follow rest ≡ Err (Long at)
bytes_too_long at size follow rest long =
    let t : ltb max_length size ≡ true = lt-ltb _ _ long in
    rw t refl

bytes_too_short : (at size follow : ℕ) (rest : List ℕ) → size ≤ max_length → length rest < follow → after_bytes at size follow rest ≡ Err Short
bytes_too_short at size follow rest few short =
    let f : ltb max_length size ≡ false = le-ltb _ _ few in
    let t : ltb (length rest) follow ≡ true = lt-ltb _ _ short in
    rw (f, t) refl

pub fault_again : (total : ℕ) {room at : ℕ} {bytes : List ℕ} {bad : Bad} → IsFault room at bytes bad → at + length bytes ≡ total → after_first total room bytes ≡ Err bad
fault_again total (begins_none {room = room} {at = at} {leading = leading} {rest = rest} unused) same =
    head_fault_at total room at (leading ∷ rest) (Unused at) same (unused_read at leading rest unused)
fault_again total (ends_in_head {room = room} {at = at} {bytes = bytes} cut) same = head_fault_at total room at bytes Short same (ends_read at bytes cut)
fault_again total (too_deep {at = at} {bytes = bytes} count follow head rest h parts) same = container_read total zero at count follow bytes head rest parts same h
fault_again total (too_many {room = room} {at = at} {bytes = bytes} count follow head rest h parts many) same =
    container_read total (suc room) at count follow bytes head rest parts same h ∙ room_fault total (suc room) at count follow rest (Long at) (inr (omega arith, many, refl))
fault_again total (inside {room = room} {at = at} {bytes = bytes} {bad = bad} count follow head front rest values h parts few s fewer fault) same =
    container_read total (suc room) at count follow bytes head (front ++ rest) parts same h
    ∙ inside_fault total (suc room) room at count follow (front ++ rest) bad refl few
    (values_fail total room values follow front rest bad s fewer (fault_again total fault (place_behind total at bytes head front rest parts same)))
fault_again total (too_long {room = room} {at = at} {bytes = bytes} size follow head rest h parts long) same =
    bytes_read total room at size follow bytes head rest parts same h ∙ bytes_too_long at size follow rest long
fault_again total (ends_in_content {room = room} {at = at} {bytes = bytes} size follow head rest h parts few short) same =
    bytes_read total room at size follow bytes head rest parts same h ∙ bytes_too_short at size follow rest few short

-- ---- the public law

failed_first : (bytes : List ℕ) (bad : Bad) → first_fault bytes ≡ Some bad → measured bytes ≡ Err bad
failed_first bytes bad e = by_read (measured bytes) refl
  where
    by_read : (read : Result ℕ Bad) → measured bytes ≡ read → measured bytes ≡ Err bad
    by_read (Ok size) is = let none = rw is at e in absurd cc
    by_read (Err other) is = let same = rw is at e in is ∙ ap Err (cc)

pub size_is : (bytes : List ℕ) (size : ℕ)
    → (measured bytes ≡ Ok size) ↔ ((size ≤ length bytes) × (value : Value) × Spells max_nesting value (take size bytes))
size_is bytes size = (size_spelled bytes size, λ s. measured_only bytes s.1 size s.0 s.2)

fault_of : (bytes : List ℕ) (bad : Bad) → measured bytes ≡ Err bad → IsFault max_nesting 0 bytes bad
fault_of bytes bad e =
    let none : length bytes - length bytes ≡ 0 = omega arith in
    subst (λ (at : ℕ). IsFault 64 at bytes bad) none (fault_found (length bytes) 64 bytes bad (omega arith) (read_err bytes bad e))

pub fault_is : (bytes : List ℕ) (bad : Bad) → (first_fault bytes ≡ Some bad) ↔ IsFault max_nesting 0 bytes bad
fault_is bytes bad = (
  λ e. fault_of bytes bad (failed_first bytes bad e),
  λ fault. whole_fault bytes bad (fault_again (length bytes) fault (omega arith)),
)

pub one_of_both : (bytes : List ℕ) → ((size : ℕ) × (size ≤ length bytes) × (value : Value) × Spells max_nesting value (take size bytes)) ⊎ ((bad : Bad) × IsFault max_nesting 0 bytes bad)
one_of_both bytes = by_read (measured bytes) refl
  where
    by_read : (read : Result ℕ Bad) → measured bytes ≡ read
        → ((size : ℕ) × (size ≤ length bytes) × (value : Value) × Spells max_nesting value (take size bytes)) ⊎ ((bad : Bad) × IsFault max_nesting 0 bytes bad)
    by_read (Ok size) is = let s = size_spelled bytes size is in inl (size, s.0, s.1, s.2)
    by_read (Err bad) is = inr (bad, fault_of bytes bad is)

pub never_both : (value : Value) (front rest : List ℕ) (bad : Bad) → Spells max_nesting value front → ¬ IsFault max_nesting 0 (front ++ rest) bad
never_both value front rest bad s fault =
    let one = measured_again value front rest s in
    let other = measured_err (front ++ rest) bad (fault_again (length (front ++ rest)) fault (omega arith)) in
    absurd cc
