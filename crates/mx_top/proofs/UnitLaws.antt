-- Reading units: what stands first, that it takes bytes, and how the units read so far stand to those of the input.
use Rattle.std.proofs.Common.{◌≡◌, ℕ, ◌+◌, ◌<◌, ◌≤◌, Bool, true, false, List, [], ◌∷◌, ◌++◌, length, get_or, take, Option, refl, sym, ap, ◌∙◌, subst, append_assoc, ◌-◌, drop, arith, Some, None, nat_le}
use Rattle.std.specs.Prelude.{◌==◌, ◌&&◌}
use Rattle.std.proofs.lemmas.List.{append-nil, take_more, drop-take, drop-drop, length-drop, length-take-le}
use Rattle.std.proofs.lemmas.Slice.{between_is}
use Rattle.std.proofs.Math.Seq.{take-add}
use Rattle.std.proofs.lemmas.Bool.{leb-true}
use mathlib.Core.List.{IsPrefix}
use Rattle.mx_outside.specs.Disks.{Disk}
use Rattle.mx_node.specs.declared.out_units.OutUnit.{OutUnit}
use Rattle.mx_model.specs.Histories.{History, IsLegal}
use Rattle.mx_serial.specs.Order.{order_in}
use Rattle.mx_directory.specs.Survival.{Lasts}
use Rattle.mx_node.specs.Inputs.{InputUnit, connection_of, max_connection}
use Rattle.mx_node.specs.declared.single.Single.{Single}
use Rattle.mx_node.specs.Starts.{Start}
use Rattle.mx_store.specs.Stores.{StepsSurvive}
use Rattle.mx_node.specs.Interrupted.{IsInterrupted}
use Rattle.mx_node.specs.Serving.{AnswersUnit}
use Rattle.mx_node.specs.Order.{AreStepsOf}
use Rattle.mx_node.proofs.KeepLaws.{ready_keeps}
use Rattle.mx_node.proofs.LastingLaws.{breaks_as, breaks_now}
use Rattle.mx_top.specs.TraceOutput.{unit_text, units_text}
use Rattle.mx_top.specs.Units.{UnitHead, unit_by, max_unit_size, max_offset, is_unit_kind, is_within, unit_head_at, content_at, unit_at, units_of}
use Rattle.mx_top.specs.Progress.{WritesUnit}
use Rattle.mx_msgpack.specs.Readers.{Advances, all_from, number_at, bytes_at}
use Rattle.mx_msgpack.proofs.Options.{bind_some, allowed, same_some}
use Rattle.mx_msgpack.proofs.PieceLaws.{number_rest, bytes_at-shorter}
use Rattle.mx_msgpack.proofs.ReaderLaws.{all_from_none, all_from_some}

-- ---- the output of a run: what connections are sent, as output units

pub units_text-append : (units more : List OutUnit) → units_text (units ++ more) ≡ units_text units ++ units_text more
units_text-append [] more = refl
units_text-append (unit ∷ units) more =
    ap (λ l. unit_text unit ++ l) (units_text-append units more) ∙ sym (append_assoc (unit_text unit) (units_text units) (units_text more))

-- one unit more
pub units_text-more : (units : List OutUnit) (index : ℕ) (unit : OutUnit) → index < length units → unit ≡ get_or units index unit
    → units_text (take index units) ++ unit_text unit ≡ units_text (take (index + 1) units)
units_text-more units index unit within is =
    sym (units_text-append (take index units) (unit ∷ []) ∙ ap (λ (l : List ℕ). units_text (take index units) ++ l) (append-nil (unit_text unit)))
    ∙ ap units_text (ap (λ (u : OutUnit). take index units ++ u ∷ []) is ∙ sym (take_more units index unit within))

-- the head of a unit tells its connection
pub connection_by : (head : UnitHead) (content : List ℕ) → connection_of (unit_by head content) ≡ head.connection
connection_by head content = by_kind (head.kind == 0) refl
  where
    by_kind : (bytes : Bool) → (head.kind == 0) ≡ bytes → connection_of (unit_by head content) ≡ head.connection
    by_kind true is = rw is refl
    by_kind false is = rw is refl

pub known_unit : (head : UnitHead) (content : List ℕ) (unit : InputUnit) → unit ≡ unit_by head content → head.connection ≤ max_connection
    → connection_of unit ≤ max_connection
known_unit head content unit is known = rw (is, connection_by head content) known

module _ (start : Start) (node : Single) (units : List InputUnit) (earlier : History) (unit : InputUnit) (sent : List OutUnit)
    (old states : Option (List Disk)) (took : AnswersUnit start node units earlier unit sent old states) where
  pub took_unit : (out : List ℕ) → out ≡ units_text sent → WritesUnit start node units earlier unit out old states
  took_unit out is = record {
    sent = sent;
    answered = took;
    text = is;
  }

  -- a unit that was answered and whose output couldn't be written
  pub took_breaks : IsInterrupted start.base earlier (AreStepsOf (units ++ unit ∷ [])) old states
  took_breaks =
      let order = order_in took.history in
      breaks_as start.base earlier order (AreStepsOf (units ++ unit ∷ [])) old states took.serves.order
      (breaks_now start.base took.more earlier order old states
      (subst (λ h. IsLegal start.base h) took.since took.serves.ready.behind.stands.legal)
      (subst (λ h. IsPrefix (order_in h) order) took.since
      ([], append-nil order))
      (subst (λ h. Lasts start.base h old states) took.since took.lasts)
      (subst (λ h. StepsSurvive start.base h h states) took.since
      (ready_keeps start.base took.history node.engine node.journal states took.serves.ready)))

-- ---- the bytes of a buffer that wait, those of `start..end`, as some go and others come

-- the first `count` of them go
pub waiting-consume : (start end count : ℕ) (items : List ℕ) → start + count ≤ end
    → take (end - (start + count)) (drop (start + count) items) ≡ drop count (take (end - start) (drop start items))
waiting-consume start end count items within =
    let same : end - start ≡ count + (end - (start + count)) = omega arith in
    sym (ap (λ n. drop count (take n (drop start items))) same
    ∙ drop-take count (end - (start + count)) (drop start items)
    ∙ ap (λ l. take (end - (start + count)) l) (drop-drop count start items))

-- they stay where the buffer keeps its start
waiting-kept : (start end : ℕ) (old new : List ℕ) → take end new ≡ take end old
    → take (end - start) (drop start new) ≡ take (end - start) (drop start old)
waiting-kept start end old new kept = between_is new start end ∙ ap (drop start) kept ∙ sym (between_is old start end)

-- `count` more come after them
waiting-read : (start end count : ℕ) (old new : List ℕ) → start ≤ end → take end new ≡ take end old
    → take (end + count - start) (drop start new) ≡ take (end - start) (drop start old) ++ take count (drop end new)
waiting-read start end count old new order kept =
    let same : end + count - start ≡ (end - start) + count = omega arith in
    let at : start + (end - start) ≡ end = omega arith in
    let back : drop (end - start) (drop start new) ≡ drop end new
    = drop-drop (end - start) start new ∙ ap (λ n. drop n new) at in
    ap (λ n. take n (drop start new)) same
    ∙ take-add (end - start) count (drop start new)
    ∙ ap (λ l. l ++ take count (drop (end - start) (drop start new))) (waiting-kept start end old new kept)
    ∙ ap (λ l. take (end - start) (drop start old) ++ take count l) back

-- what waits and what is still to come are the same bytes after a read of nothing
pub all-kept : (start end : ℕ) (old new all more left : List ℕ) → take end new ≡ take end old
    → all ≡ take (end - start) (drop start old) ++ more → more ≡ left
    → all ≡ take (end - start) (drop start new) ++ left
all-kept start end old new all more left kept told same =
    let front = waiting-kept start end old new kept in
    rw front (told ∙ ap (λ l. take (end - start) (drop start old) ++ l) same)

-- and after a read of `count` bytes
pub all-read : (start end count : ℕ) (old new all more left : List ℕ) → start ≤ end → take end new ≡ take end old
    → all ≡ take (end - start) (drop start old) ++ more → more ≡ take count (drop end new) ++ left
    → all ≡ take (end + count - start) (drop start new) ++ left
all-read start end count old new all more left order kept told read =
    let grown = waiting-read start end count old new order kept in
    rw (grown, append_assoc) (told ∙ ap (λ l. take (end - start) (drop start old) ++ l) read)

same_ends : (x y : ℕ) (xs ys : List ℕ) → x ∷ xs ≡ y ∷ ys → (x ≡ y) × (xs ≡ ys)
same_ends x y xs ys same = let head : x ≡ y = cc in let tail : xs ≡ ys = cc in (head, tail)

-- the longer of two first parts of the same bytes goes on from the other one
pub append_longer : (front back longer rest : List ℕ) → front ++ back ≡ longer ++ rest → length front ≤ length longer
    → (more : List ℕ) × (longer ≡ front ++ more) × (back ≡ more ++ rest)
append_longer [] back longer rest same fits = (longer, refl, same)
append_longer (byte ∷ front) back [] rest same fits = absurd (omega arith)
append_longer (byte ∷ front) back (other ∷ longer) rest same fits =
    let parts = same_ends byte other (front ++ back) (longer ++ rest) same in
    let (more, is, goes_on) = append_longer front back longer rest parts.1 (omega arith) in
    (more, ap (λ (x : ℕ). x ∷ longer) (sym parts.0) ∙ ap (λ (l : List ℕ). byte ∷ l) is, goes_on)

-- as many wait as are in the buffer
pub waiting-longer : (start end least : ℕ) (items : List ℕ) → start ≤ end → end ≤ length items → least ≤ end - start
    → least ≤ length (take (end - start) (drop start items))
waiting-longer start end least items order within enough =
    let back = length-drop start items in
    let long : length (take (end - start) (drop start items)) ≡ end - start = length-take-le (end - start) (drop start items) (omega arith) in
    omega arith

-- ---- what stands first

and_three : (a b c : Bool) → (a && b && c) ≡ true → (a ≡ true) × (b ≡ true) × (c ≡ true)
and_three true true true e = (refl, refl, refl)
and_three true true false e = absurd cc
and_three true false c e = absurd cc
and_three false b c e = absurd cc

and_two : (a b : Bool) → (a && b) ≡ true → (a ≡ true) × (b ≡ true)
and_two true b e = (refl, e)
and_two false b e = absurd cc

-- The bytes after a head are those after nine. The head is one of bytes or of a close, and passes no limit.
pub head_parts : (place : ℕ) (bytes : List ℕ) (found : UnitHead × List ℕ) → unit_head_at place bytes ≡ Some found
    → (found.1 ≡ drop 9 bytes) × (9 ≤ length bytes) × (is_unit_kind found.0 ≡ true) × (is_within place found.0 ≡ true)
unfolding unit_head_at
head_parts place bytes found e =
    let kind = bind_some (number_at 1 bytes) _ found e in
    let connection = bind_some (number_at 4 kind.0.1) _ found kind.2 in
    let size = bind_some (number_at 4 connection.0.1) _ found connection.2 in
    let head : UnitHead = record { kind = kind.0.0; connection = connection.0.0; size = size.0.0 } in
    let fits = allowed (is_unit_kind head && is_within place head) (Some (head, size.0.1)) found size.2 in
    let same = same_some (head, size.0.1) found fits.1 in
    let both = and_two (is_unit_kind head) (is_within place head) fits.0 in
    let one = number_rest 1 bytes kind.0 kind.1 in
    let two = number_rest 4 kind.0.1 connection.0 connection.1 in
    let three = number_rest 4 connection.0.1 size.0 size.1 in
    let l1 = ap length one.0 ∙ length-drop 1 bytes in
    let l2 = ap length two.0 ∙ length-drop 4 kind.0.1 in (
      sym (ap (λ (x : UnitHead × List ℕ). x.1) same)
          ∙ three.0 ∙ ap (λ (l : List ℕ). drop 4 l) two.0 ∙ ap (λ (l : List ℕ). drop 4 (drop 4 l)) one.0
          ∙ drop-drop 4 4 (drop 1 bytes) ∙ drop-drop 8 1 bytes,
      omega arith,
      sym (ap (λ (x : UnitHead × List ℕ). is_unit_kind x.0) same) ∙ both.0,
      sym (ap (λ (x : UnitHead × List ℕ). is_within place x.0) same) ∙ both.1,
    )

-- the limits as bounds
pub head_within : (place : ℕ) (head : UnitHead) → is_within place head ≡ true
    → (head.connection ≤ max_connection) × (head.size ≤ max_unit_size) × ((place + 9) + head.size ≤ max_offset)
head_within place head e =
    let p = and_three (nat_le head.connection max_connection) (nat_le head.size max_unit_size) (nat_le ((place + 9) + head.size) max_offset) e in
    (leb-true head.connection max_connection p.0, leb-true head.size max_unit_size p.1, leb-true ((place + 9) + head.size) max_offset p.2)

-- the bytes after a head are those after nine, and the unit ends within the last place
pub head_rest : (place : ℕ) (bytes : List ℕ) (found : UnitHead × List ℕ) → unit_head_at place bytes ≡ Some found
    → (found.1 ≡ drop 9 bytes) × (9 ≤ length bytes) × ((place + 9) + found.0.size ≤ max_offset)
head_rest place bytes found e =
    let p = head_parts place bytes found e in
    (p.0, p.1, (head_within place found.0 p.3).2)

-- the head and the bytes that a unit was made of
pub content_parts : (place : ℕ) (bytes : List ℕ) (found : InputUnit × List ℕ) → content_at place bytes ≡ Some found
    → (head : UnitHead × List ℕ) × (content : List ℕ × List ℕ) × (unit_head_at place bytes ≡ Some head)
    × (bytes_at head.0.size head.1 ≡ Some content) × ((unit_by head.0 content.0, content.1) ≡ found)
unfolding content_at
content_parts place bytes found e =
    let head = bind_some (unit_head_at place bytes) _ found e in
    let content = bind_some (bytes_at head.0.0.size head.0.1) _ found head.2 in
    (head.0, content.0, head.1, content.1, same_some (unit_by head.0.0 content.0.0, content.0.1) found content.2)

-- a unit takes nine bytes at least
pub content_at-shorter : (place : ℕ) (bytes : List ℕ) (found : InputUnit × List ℕ) → content_at place bytes ≡ Some found → length found.1 < length bytes
content_at-shorter place bytes found e =
    let (head, content, is, taken, same) = content_parts place bytes found e in
    let p = head_rest place bytes head is in
    let l = ap length p.0 ∙ length-drop 9 bytes in
    let s = bytes_at-shorter head.0.size head.1 content taken in
    let r = ap (λ (x : InputUnit × List ℕ). length x.1) same in
    let nine = p.1 in
    omega arith

pub unit_at-Advances : (total : ℕ) → Advances (unit_at total)
unfolding unit_at
unit_at-Advances total bytes found e = content_at-shorter (total - length bytes) bytes found e

-- what stands first in what is left of an input is what stands at this place
pub unit_here : (input rest : List ℕ) (place : ℕ) → place + length rest ≡ length input → unit_at (length input) rest ≡ content_at place rest
unfolding unit_at
unit_here input rest place at = let here : length input - length rest ≡ place = omega arith in ap (λ (p : ℕ). content_at p rest) here

pub unit_some : (input rest after : List ℕ) (unit : InputUnit) (place : ℕ) → place + length rest ≡ length input → content_at place rest ≡ Some (unit, after)
    → unit_at (length input) rest ≡ Some (unit, after)
unit_some input rest after unit place at found = unit_here input rest place at ∙ found

pub unit_none : (input rest : List ℕ) (place : ℕ) → place + length rest ≡ length input → content_at place rest ≡ None → unit_at (length input) rest ≡ None
unit_none input rest place at none = unit_here input rest place at ∙ none

pub unit_at-nil : (total : ℕ) → unit_at total [] ≡ None
unfolding unit_at content_at unit_head_at
unit_at-nil total = refl

-- ---- the units of an input

-- these units were read, and then come those of the rest
abbrev pub Read : (input rest : List ℕ) → List InputUnit → Type 0
Read input rest units =
    units_of input ≡ (units ++ (all_from (unit_at (length input)) rest).0, (all_from (unit_at (length input)) rest).1)

-- no unit stands first in what is left
pub units_of-none : (input rest : List ℕ) (units : List InputUnit) → Read input rest units → unit_at (length input) rest ≡ None
    → units_of input ≡ (units, rest)
units_of-none input rest units read none =
    read
    ∙ ap (λ (x : List InputUnit × List ℕ). (units ++ x.0, x.1)) (all_from_none (unit_at (length input)) (unit_at-Advances (length input)) rest none)
    ∙ ap (λ (u : List InputUnit). (u, rest)) (append-nil units)

-- one unit stands first in what is left
pub units_of-some : (input rest after : List ℕ) (units : List InputUnit) (unit : InputUnit) → Read input rest units
    → unit_at (length input) rest ≡ Some (unit, after) → Read input after (units ++ unit ∷ [])
units_of-some input rest after units unit read found =
    let others = all_from (unit_at (length input)) after in
    read
    ∙ ap (λ (x : List InputUnit × List ℕ). (units ++ x.0, x.1)) (all_from_some (unit_at (length input)) (unit_at-Advances (length input)) rest (unit, after) found)
    ∙ ap (λ (u : List InputUnit). (u, others.1)) (sym (append_assoc units (unit ∷ []) others.0))

-- the units so far begin those of the input
pub units_of-begun : (input rest : List ℕ) (units : List InputUnit) → Read input rest units → IsPrefix units (units_of input).0
units_of-begun input rest units read =
    ((all_from (unit_at (length input)) rest).0, sym (ap (λ (x : List InputUnit × List ℕ). x.0) read))
