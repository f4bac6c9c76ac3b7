-- The head of a unit, and the bytes that it announces.
use Rattle.std.proofs.Common.{◌≡◌, ℕ, ◌+◌, ◌<◌, ◌≤◌, Bool, true, false, cond, List, ◌++◌, length, take, drop, Option, Some, None, nat_lt, refl, sym, ap, ◌∙◌, inl, inr, arith, length-append}
use Rattle.std.specs.Prelude.{◌&&◌, ◌⊎◌, IsTrue, Result, Ok, Err, MatchOption, MatchResult}
use Rattle.std.proofs.lemmas.Bool.{le-ltb, lt-ltb, cases_lt}
use Rattle.std.proofs.lemmas.List.{take-append-le, drop-append-le, length-drop}
use Rattle.mx_msgpack.specs.Readers.{◌>>=◌, IsStable, number_at, bytes_at}
use Rattle.mx_msgpack.proofs.Options.{passed, same_some}
use Rattle.mx_msgpack.proofs.PieceLaws.{number_at-shorter, bytes_at-shorter, and_more, number_at-front, bind_more}
use Rattle.mx_top.proofs.UnitLaws.{content_parts, head_rest}
use Rattle.mx_top.specs.Progress.{StopsAt}
use Rattle.mx_top.specs.Stops.{IsReadStop}
use Rattle.mx_top.specs.declared.stop.Stop.{Stop}
use Rattle.mx_top.specs.declared.stop.Stop.TheVariants.{BadInput, ReadFault, WriteFault, DiskFault, NoMemory}
use Rattle.mx_top.specs.Units.{UnitHead, is_unit_kind, is_within, allowed_head, unit_by, unit_head_at, content_at}
use Rattle.mx_node.specs.Inputs.{InputUnit}

-- ---- a head, step by step

abbrev head_of : (kind connection size : ℕ) → UnitHead
head_of kind connection size = record { kind = kind; connection = connection; size = size }

abbrev size_read : (place kind connection : ℕ) → ℕ × List ℕ → Option (UnitHead × List ℕ)
size_read place kind connection size = allowed_head place (head_of kind connection size.0) size.1

abbrev connection_read : (place kind : ℕ) → ℕ × List ℕ → Option (UnitHead × List ℕ)
connection_read place kind connection = number_at 4 connection.1 >>= size_read place kind connection.0

abbrev kind_read : (place : ℕ) → ℕ × List ℕ → Option (UnitHead × List ℕ)
kind_read place kind = number_at 4 kind.1 >>= connection_read place kind.0

-- ---- more bytes after a head

test_more : (more rest : List ℕ) (head : UnitHead) (allows : Bool)
    → cond allows (Some (head, rest ++ more)) None ≡ and_more more (cond allows (Some (head, rest)) None)
test_more more rest head true = refl
test_more more rest head false = refl

size_read-more : (place kind connection : ℕ) (more : List ℕ) (size : ℕ × List ℕ)
    → size_read place kind connection (size.0, size.1 ++ more) ≡ and_more more (size_read place kind connection size)
size_read-more place kind connection more size =
    let head = head_of kind connection size.0 in
    test_more more size.1 head (is_unit_kind head && is_within place head)

connection_read-more : (place kind : ℕ) (more : List ℕ) (connection : ℕ × List ℕ) → 4 ≤ length connection.1
    → connection_read place kind (connection.0, connection.1 ++ more) ≡ and_more more (connection_read place kind connection)
connection_read-more place kind more connection fits =
    ap (λ o. o >>= size_read place kind connection.0) (number_at-front 4 connection.1 more fits)
    ∙ bind_more more (number_at 4 connection.1) (size_read place kind connection.0) (λ size e. size_read-more place kind connection.0 more size)

kind_read-more : (place : ℕ) (more : List ℕ) (kind : ℕ × List ℕ) → 8 ≤ length kind.1
    → kind_read place (kind.0, kind.1 ++ more) ≡ and_more more (kind_read place kind)
kind_read-more place more kind fits =
    let four : 4 ≤ length kind.1 = omega arith in
    ap (λ o. o >>= connection_read place kind.0) (number_at-front 4 kind.1 more four)
    ∙ bind_more more (number_at 4 kind.1) (connection_read place kind.0) (λ connection e.
    let l = number_at-shorter 4 kind.1 connection e in
    let left : 4 ≤ length connection.1 = omega arith in
    connection_read-more place kind.0 more connection left)

-- the head of nine bytes or more is that of more bytes after them
pub unit_head_at-front : (place : ℕ) (bytes more : List ℕ) → 9 ≤ length bytes
    → unit_head_at place (bytes ++ more) ≡ and_more more (unit_head_at place bytes)
unfolding unit_head_at
unit_head_at-front place bytes more long =
    let some : 1 ≤ length bytes = omega arith in
    ap (λ o. o >>= kind_read place) (number_at-front 1 bytes more some)
    ∙ bind_more more (number_at 1 bytes) (kind_read place) (λ kind e.
    let l = number_at-shorter 1 bytes kind e in
    let left : 8 ≤ length kind.1 = omega arith in
    kind_read-more place more kind left)

-- a head that was read from a prefix of the bytes
head_of_front : (place : ℕ) (waiting more whole : List ℕ) (found : UnitHead × List ℕ) → unit_head_at place waiting ≡ Some found
    → waiting ++ more ≡ whole → unit_head_at place whole ≡ Some (found.0, found.1 ++ more)
head_of_front place waiting more whole found head same =
    let p = head_rest place waiting found head in
    ap (unit_head_at place) (sym same) ∙ unit_head_at-front place waiting more p.1 ∙ ap (and_more more) head

-- bytes that were read, and more bytes after them
bytes_at-more : (count : ℕ) (bytes more : List ℕ) (found : List ℕ × List ℕ) → bytes_at count bytes ≡ Some found
    → bytes_at count (bytes ++ more) ≡ Some (found.0, found.1 ++ more)
bytes_at-more count bytes more found e =
    let shorter = bytes_at-shorter count bytes found e in
    let fits : count ≤ length bytes = omega arith in
    let fits' : count ≤ length (bytes ++ more) = omega (arith, length-append bytes more) in
    let is = passed (nat_lt (length bytes) count) (Some (take count bytes, drop count bytes)) found e in
    let same = same_some (take count bytes, drop count bytes) found is.1 in
    let now : bytes_at count (bytes ++ more) ≡ Some (take count bytes, drop count bytes ++ more) =
    rw (le-ltb (length (bytes ++ more)) count fits', take-append-le count bytes more fits, drop-append-le count bytes more fits) refl in
    now ∙ ap (λ (x : List ℕ × List ℕ). Some (x.0, x.1 ++ more)) same

-- ---- a unit and its bytes

abbrev unit_with : UnitHead → List ℕ × List ℕ → Option (InputUnit × List ℕ)
unit_with head content = Some (unit_by head content.0, content.1)

abbrev unit_read : UnitHead × List ℕ → Option (InputUnit × List ℕ)
unit_read head = bytes_at head.0.size head.1 >>= unit_with head.0

-- what stands first stands there whatever follows
pub content_at-IsStable : (place : ℕ) → IsStable (content_at place)
unfolding content_at
content_at-IsStable place bytes more found e =
    let (head, content, is, taken, same) = content_parts place bytes found e in
    let whole = head_of_front place bytes more (bytes ++ more) head is refl in
    ap (λ o. o >>= unit_read) whole
    ∙ ap (λ o. o >>= unit_with head.0) (bytes_at-more head.0.size head.1 more content taken)
    ∙ ap (λ (x : InputUnit × List ℕ). Some (x.0, x.1 ++ more)) same

-- the unit whose head was read, once all of its bytes wait
pub content_whole : (place : ℕ) (head : UnitHead) (seen more waiting rest : List ℕ) → unit_head_at place seen ≡ Some (head, rest)
    → seen ++ more ≡ waiting → 9 + head.size ≤ length waiting
    → content_at place waiting ≡ Some (unit_by head (take head.size (drop 9 waiting)), drop head.size (drop 9 waiting))
unfolding content_at
content_whole place head seen more waiting rest read same fits =
    let whole = head_of_front place seen more waiting (head, rest) read same in
    let p = head_rest place waiting (head, rest ++ more) whole in
    let l = length-drop 9 waiting in
    let enough : head.size ≤ length (drop 9 waiting) = omega arith in
    let bytes : bytes_at head.size (drop 9 waiting) ≡ Some (take head.size (drop 9 waiting), drop head.size (drop 9 waiting)) =
    rw (le-ltb (length (drop 9 waiting)) head.size enough) refl in
    ap (λ o. o >>= unit_read) whole
    ∙ ap (λ (r : List ℕ). unit_read (head, r)) p.0
    ∙ ap (λ o. o >>= unit_with head) bytes

-- no unit stands where its head is none
pub content_headless : (place : ℕ) (waiting more : List ℕ) → 9 ≤ length waiting → unit_head_at place waiting ≡ None
    → content_at place (waiting ++ more) ≡ None
unfolding content_at
content_headless place waiting more long none =
    ap (λ o. o >>= unit_read) (unit_head_at-front place waiting more long ∙ ap (and_more more) none)

-- no unit stands where fewer bytes are left than its head says
pub content_short : (place : ℕ) (head : UnitHead) (seen more whole rest : List ℕ) → unit_head_at place seen ≡ Some (head, rest)
    → seen ++ more ≡ whole → length whole < 9 + head.size → content_at place whole ≡ None
unfolding content_at
content_short place head seen more whole rest read same short =
    let found = head_of_front place seen more whole (head, rest) read same in
    let p = head_rest place whole (head, rest ++ more) found in
    let l = length-drop 9 whole in
    let nine = p.1 in
    let few : length (drop 9 whole) < head.size = omega arith in
    let none : bytes_at head.size (drop 9 whole) ≡ None = rw (lt-ltb (length (drop 9 whole)) head.size few) refl in
    ap (λ o. o >>= unit_read) found
    ∙ ap (λ (r : List ℕ). unit_read (head, r)) p.0
    ∙ ap (λ o. o >>= unit_with head) none

-- no unit stands in fewer bytes than a head has
pub content_none : (place : ℕ) (bytes : List ℕ) → length bytes < 9 → content_at place bytes ≡ None
unfolding content_at
content_none place bytes short = by_head (unit_head_at place bytes) (λ found e. (head_rest place bytes found e).1)
  where
    by_head : (o : Option (UnitHead × List ℕ)) → ((found : UnitHead × List ℕ) → o ≡ Some found → 9 ≤ length bytes) → (o >>= unit_read) ≡ None
    by_head None long = refl
    by_head (Some found) long = let enough = long found refl in absurd (omega arith)

-- ---- what stops the reading of a unit

-- where the bytes that wait hold no unit, reading may stop so
pub stops_reading : (place : ℕ) (waiting more : List ℕ) (stop : Stop) → IsReadStop stop → content_at place waiting ≡ None → StopsAt place waiting more stop
stops_reading place waiting more (BadInput at) stops none = absurd stops
stops_reading place waiting more ReadFault stops none = none
stops_reading place waiting more WriteFault stops none = absurd stops
stops_reading place waiting more DiskFault stops none = absurd stops
stops_reading place waiting more NoMemory stops none = tt

-- what found nothing says nothing of what it found
pub found_none : {X : Type 0} (P : Type 0) (Q : X → Type 0) (S : Stop → Type 0) (result : Result (Option X) Stop)
    → MatchResult result (λ found. MatchOption found P (λ _. ⊥)) S → MatchResult result (λ found. MatchOption found P Q) S
found_none P Q S (Ok None) says = says
found_none P Q S (Ok (Some x)) says = absurd says
found_none P Q S (Err stop) says = says

-- ---- what a test tells of a bound that it tests

pub is_enough : (b : Bool) (need has : ℕ) → b ≡ true → (IsTrue b → need ≤ has) → need ≤ has
is_enough b need has e says = says e

pub not_enough : (b : Bool) (need has : ℕ) → b ≡ false → (need ≤ has → IsTrue b) → has < need
not_enough b need has e says = by_order (cases_lt has need)
  where
    by_order : (has < need) ⊎ (need ≤ has) → has < need
    by_order (inl less) = less
    by_order (inr enough) = let held = says enough in absurd cc
