-- What a leading byte says is what the grammar's head says: by it, a value is a number in so many bytes and what it counts.
use Rattle.std.proofs.Common.{◌≡◌, ℕ, zero, suc, ◌+◌, ◌-◌, ◌≤◌, Bool, true, false, cond, ltb, List, [], ◌∷◌, ◌++◌, length, take, drop, Option, Some, None, Result, Ok, Err, refl, sym, ap, ◌∙◌, subst, arith}
use Rattle.std.specs.Prelude.{⊤, ◌==◌}
use Rattle.std.proofs.lemmas.Bool.{ltb-false, le-ltb}
use Rattle.std.proofs.lemmas.List.{append-nil, take_at, drop_at, drop_all, take-append-drop, length-append, length-take, length-drop}
use Rattle.std.proofs.Math.Nat.{add-zero, zero-add}
use Rattle.byteorder.specs.Endian.{big_number}
use Rattle.mx_msgpack.specs.declared.bad.Bad.{Bad}
use Rattle.mx_msgpack.specs.declared.bad.Bad.TheVariants.{Unused, Short, Long}
use Rattle.mx_msgpack.specs.Grammar.{max_length, Spells}
use Rattle.mx_msgpack.specs.Reading.{◌>>=◌, head_at, low_head, number_head, sized_head, after_all, after_inside, after_bytes, after_content, after_first, Shown, ShownInt, ShownStr, ShownArray, ShownMap, shown}
use Rattle.mx_msgpack.proofs.Results.{bind_ok, guard_ok, guard_then, ok_is}
use Rattle.mx_msgpack.proofs.ValueLaws.{inside_of, value_is}
use Rattle.mx_msgpack.proofs.GrammarLaws.{value_again, value_spelled}
use Rattle.mx_completion.specs.declared.leading.Kind.{Kind}
use Rattle.mx_completion.specs.declared.leading.Kind.TheVariants.{Int, Text, Array, Map, Extension, Other}
use Rattle.mx_completion.specs.declared.leading.Leading.{Leading}
use Rattle.mx_completion.specs.Completions.{IsValueSpelling}
use Rattle.mx_completion.specs.LeadingBytes.{leads, leading_of, low_leading, number_leading, sized_leading, holds_values, follow_count}
use Rattle.mx_completion.specs.Sequences.{InRow}
use Rattle.mx_completion.proofs.LengthLaws.{Numbered}

-- ---- heads by their leading byte

abbrev Reader : Type 0
Reader = Option (List ℕ → Result (List ℕ) Bad)

-- the type that is shown
abbrev pub shown_kind : Shown → Kind
shown_kind (ShownInt number) = Int
shown_kind (ShownStr text) = Text
shown_kind (ShownArray count items) = Array
shown_kind (ShownMap count items) = Map
shown_kind _ = Other

-- an extension isn't shown as one
abbrev pub plain_kind : Kind → Kind
plain_kind Extension = Other
plain_kind kind = kind

-- the bytes after so many bytes or values
abbrev after_follow : Reader → (at : ℕ) → (holds_values : Bool) → (announced count : ℕ) → List ℕ → Result (List ℕ) Bad
after_follow inside at true announced count rest = after_inside inside at announced count rest
after_follow inside at false announced count rest = after_bytes at announced count rest

-- the bytes after what a leading byte says
abbrev after_led : Reader → (at : ℕ) → Option Leading → List ℕ → Result (List ℕ) Bad
after_led inside at None rest = Err (Unused at)
after_led inside at (Some leading) rest =
    cond (ltb (length rest) leading.width) (Err Short)
    (after_follow inside at (holds_values leading.kind) (leading.length + big_number leading.width (take leading.width rest))
    (follow_count leading.kind (leading.length + big_number leading.width (take leading.width rest))) (drop leading.width rest))

-- Heads have no name here, but are known by what is after them and what they show.

-- a head is of this type
abbrev pub HasKind : {Head : Type 0} → (Head → List ℕ → List ℕ → Shown) → Head → Kind → Type 0
HasKind shows found kind = (content whole : List ℕ) → shown_kind (shows found content whole) ≡ plain_kind kind

-- a head that is read is of the type that the leading byte says
abbrev pub Agrees : {Head : Type 0} → (Head → List ℕ → List ℕ → Shown) → Option Leading → Result (Head × List ℕ) Bad → Type 0
Agrees shows leading (Err bad) = ⊤
Agrees shows None (Ok found) = ⊥
Agrees shows (Some leading) (Ok found) = HasKind shows found.0 leading.kind

abbrev after_read : {Head : Type 0} → (Head → List ℕ → Result (List ℕ) Bad) → Result (Head × List ℕ) Bad → Result (List ℕ) Bad
after_read after read = read >>= λ found. after found.0 found.1

pub record Tells {Head : Type 0} (after : Head → List ℕ → Result (List ℕ) Bad) (shows : Head → List ℕ → List ℕ → Shown) (inside : Reader) (at : ℕ) (rest : List ℕ)
    (leading : Option Leading) (read : Result (Head × List ℕ) Bad) : Type 0 where
  pub behind : after_read after read ≡ after_led inside at leading rest
  pub kind : Agrees shows leading read

module _ {Head : Type 0} (after : Head → List ℕ → Result (List ℕ) Bad) (shows : Head → List ℕ → List ℕ → Shown) where
  number_cases : (b : Bool) (found : Head) (l : List ℕ) → after found l ≡ Ok l → HasKind shows found Int
      → (after_read after (cond b (Err Short) (Ok (found, l))) ≡ cond b (Err Short) (Ok l)) × Agrees shows (leads Int 0 0) (cond b (Err Short) (Ok (found, l)))
  number_cases true found l e k = (refl, tt)
  number_cases false found l e k = (e, k)

  sized_cases : (b : Bool) (found : Head) (leading : Leading) (l : List ℕ) (r : Result (List ℕ) Bad) → after found l ≡ r → HasKind shows found leading.kind
      → (after_read after (cond b (Err Short) (Ok (found, l))) ≡ cond b (Err Short) r) × Agrees shows (Some leading) (cond b (Err Short) (Ok (found, l)))
  sized_cases true found leading l r e k = (refl, tt)
  sized_cases false found leading l r e k = (e, k)

module _ {Head : Type 0} {after : Head → List ℕ → Result (List ℕ) Bad} {shows : Head → List ℕ → List ℕ → Shown} {inside : Reader} {at : ℕ} {rest : List ℕ} where
  -- a test that both follow
  either : (b : Bool) {x y : Result (Head × List ℕ) Bad} {s t : Option Leading} → Tells after shows inside at rest s x → Tells after shows inside at rest t y
      → Tells after shows inside at rest (cond b s t) (cond b x y)
  either true p q = p
  either false p q = q

  none : Tells after shows inside at rest None (Err (Unused at))
  none = record { behind = refl; kind = tt }

  -- a head that is the leading byte alone
  alone : {found : Head} {kind : Kind} {size : ℕ} → after found rest ≡ after_follow inside at (holds_values kind) size (follow_count kind size) rest → HasKind shows found kind
      → Tells after shows inside at rest (leads kind 0 size) (Ok (found, rest))
  alone {size = size} e k = record { behind = rw (le-ltb (length rest) 0 (omega arith), add-zero size) e; kind = k }

  -- and nothing follows it
  bare : {found : Head} {kind : Kind} → holds_values kind ≡ false → follow_count kind 0 ≡ 0 → after found rest ≡ Ok rest → HasKind shows found kind
      → Tells after shows inside at rest (leads kind 0 0) (Ok (found, rest))
  bare h f e k = record { behind = rw (le-ltb (length rest) 0 (omega arith), h, f, le-ltb (length rest) 0 (omega arith)) e; kind = k }

  -- a number of this many bytes
  number : (found : Head) {width : ℕ} → ltb max_length width ≡ false → after found (drop width rest) ≡ Ok (drop width rest) → HasKind shows found Int
      → Tells after shows inside at rest (leads Int 0 width) (cond (ltb (length rest) width) (Err Short) (Ok (found, drop width rest)))
  number found {width = width} few e k =
      let c = number_cases after shows (ltb (length rest) width) found (drop width rest) e k in
      record { behind = rw (le-ltb (length rest) 0 (omega arith), add-zero width, few) c.0; kind = c.1 }

  -- a length in this many bytes
  sized : (found : Head) {kind : Kind} {width : ℕ}
      → after found (drop width rest) ≡ after_follow inside at (holds_values kind) (big_number width (take width rest)) (follow_count kind (big_number width (take width rest))) (drop width rest)
      → HasKind shows found kind → Tells after shows inside at rest (leads kind width 0) (cond (ltb (length rest) width) (Err Short) (Ok (found, drop width rest)))
  sized found {kind = kind} {width = width} e k =
      let c = sized_cases after shows (ltb (length rest) width) found (record { kind = kind; width = width; length = 0 }) (drop width rest) _ e k in
      record { behind = rw (zero-add (big_number width (take width rest))) c.0; kind = c.1 }

-- the leading bytes from c0 to c9, from ca to d8, and from d9 to df
module _ (inside : Reader) (at byte : ℕ) (rest : List ℕ) where
  low_tells : Tells (after_content inside at) shown inside at rest (low_leading byte) (low_head at byte rest)
  low_tells =
      either (byte == 0xc0) (bare refl refl refl (λ _ _. refl))
      (either (byte == 0xc2) (bare refl refl refl (λ _ _. refl))
      (either (byte == 0xc3) (bare refl refl refl (λ _ _. refl))
      (either (byte == 0xc4) (sized _ refl (λ _ _. refl))
      (either (byte == 0xc5) (sized _ refl (λ _ _. refl))
      (either (byte == 0xc6) (sized _ refl (λ _ _. refl))
      (either (byte == 0xc7) (sized _ refl (λ _ _. refl))
      (either (byte == 0xc8) (sized _ refl (λ _ _. refl))
      (either (byte == 0xc9) (sized _ refl (λ _ _. refl))
      none))))))))

  number_tells : Tells (after_content inside at) shown inside at rest (number_leading byte) (number_head byte rest)
  number_tells =
      either (byte == 0xca) (alone refl (λ _ _. refl))
      (either (byte == 0xcb) (alone refl (λ _ _. refl))
      (either (byte == 0xcc) (number _ refl refl (λ _ _. refl))
      (either (byte == 0xcd) (number _ refl refl (λ _ _. refl))
      (either (byte == 0xce) (number _ refl refl (λ _ _. refl))
      (either (byte == 0xcf) (number _ refl refl (λ _ _. refl))
      (either (byte == 0xd0) (number _ refl refl (λ _ _. refl))
      (either (byte == 0xd1) (number _ refl refl (λ _ _. refl))
      (either (byte == 0xd2) (number _ refl refl (λ _ _. refl))
      (either (byte == 0xd3) (number _ refl refl (λ _ _. refl))
      (either (byte == 0xd4) (alone refl (λ _ _. refl))
      (either (byte == 0xd5) (alone refl (λ _ _. refl))
      (either (byte == 0xd6) (alone refl (λ _ _. refl))
      (either (byte == 0xd7) (alone refl (λ _ _. refl))
      (alone refl (λ _ _. refl)))))))))))))))

  sized_tells : Tells (after_content inside at) shown inside at rest (sized_leading byte) (sized_head byte rest)
  sized_tells =
      either (byte == 0xd9) (sized _ refl (λ _ _. refl))
      (either (byte == 0xda) (sized _ refl (λ _ _. refl))
      (either (byte == 0xdb) (sized _ refl (λ _ _. refl))
      (either (byte == 0xdc) (sized _ refl (λ _ _. refl))
      (either (byte == 0xdd) (sized _ refl (λ _ _. refl))
      (either (byte == 0xde) (sized _ refl (λ _ _. refl))
      (sized _ refl (λ _ _. refl)))))))

  -- the leading byte tells what the head tells
  pub tells : Tells (after_content inside at) shown inside at rest (leading_of byte) (head_at at (byte ∷ rest))
  unfolding head_at leading_of
  tells =
      either (ltb byte 0x80) (bare refl refl refl (λ _ _. refl))
      (either (ltb byte 0x90) (alone refl (λ _ _. refl))
      (either (ltb byte 0xa0) (alone refl (λ _ _. refl))
      (either (ltb byte 0xc0) (alone refl (λ _ _. refl))
      (either (ltb byte 0xca) low_tells
      (either (ltb byte 0xd9) number_tells
      (either (ltb byte 0xe0) sized_tells
      (either (ltb byte 0x100) (bare refl refl refl (λ _ _. refl))
      none)))))))

-- ---- a value by its leading byte

-- so many bytes, or so many values with room for so many containers around each
abbrev pub Contains : (room : ℕ) → (holds_values : Bool) → (count : ℕ) → List ℕ → Type 0
Contains room false count content = length content ≡ count
Contains zero true count content = ⊥
Contains (suc room) true count content = InRow (IsValueSpelling room) count content

-- a number, where there is one, and what it counts
abbrev pub Announced : (room : ℕ) → Option Leading → List ℕ → Type 0
Announced room None rest = ⊥
Announced room (Some leading) rest =
    Numbered leading.width leading.length (λ size. Contains room (holds_values leading.kind) (follow_count leading.kind size)) rest

-- what is read is announced
row_read : (room count : ℕ) (bytes : List ℕ) → after_all (after_first 0 room) count bytes ≡ Ok [] → InRow (IsValueSpelling room) count bytes
row_read room zero bytes e = ok_is bytes [] e
row_read room (suc count) bytes e =
    let first = bind_ok (after_first 0 room bytes) (after_all (after_first 0 room) count) [] e in
    let value = value_spelled 0 room bytes first.0 first.1 in
    (value.1, first.0, value.2, (value.0, value.3), row_read room count first.0 first.2)

contents_read : (room at : ℕ) (holds_values : Bool) (announced count : ℕ) (rest : List ℕ) → after_follow (inside_of 0 room) at holds_values announced count rest ≡ Ok []
    → (announced ≤ max_length) × Contains room holds_values count rest
contents_read room at false announced count rest e =
    let few = guard_then (ltb max_length announced) (Long at) _ [] e in
    let long = guard_ok (ltb (length rest) count) Short (drop count rest) [] few.1 in
    (ltb-false _ _ few.0, omega (arith, ltb-false _ _ long.0, ap length long.1, length-drop count rest))
contents_read zero at true announced count rest e = absurd cc
contents_read (suc room) at true announced count rest e =
    let few = guard_then (ltb max_length announced) (Long at) _ [] e in
    (ltb-false _ _ few.0, row_read room count rest few.1)

announced_read : (room at : ℕ) (leading : Option Leading) (rest : List ℕ) → after_led (inside_of 0 room) at leading rest ≡ Ok [] → Announced room leading rest
announced_read room at None rest e = absurd cc
announced_read room at (Some leading) rest e =
    let long = guard_then (ltb (length rest) leading.width) Short _ [] e in
    let inside = contents_read room at (holds_values leading.kind) _ _ (drop leading.width rest) long.1 in
    let many : length (take leading.width rest) ≡ leading.width = omega (arith, ltb-false _ _ long.0, length-take leading.width rest) in
    (take leading.width rest, drop leading.width rest, sym (take-append-drop leading.width rest), many, inside.0, inside.1)

-- what is announced is read
row_again : (room count : ℕ) (bytes : List ℕ) → InRow (IsValueSpelling room) count bytes → after_all (after_first 0 room) count bytes ≡ Ok []
row_again room zero bytes e = ap (λ (l : List ℕ). Ok l) e
row_again room (suc count) bytes (front, rest, e, (value, s), others) = rw (e, value_again 0 room value front rest s) (row_again room count rest others)

contents_again : (room at : ℕ) (holds_values : Bool) (announced count : ℕ) (rest : List ℕ) → announced ≤ max_length → Contains room holds_values count rest
    → after_follow (inside_of 0 room) at holds_values announced count rest ≡ Ok []
contents_again room at false announced count rest few c =
    rw (le-ltb max_length announced few, le-ltb (length rest) count (omega arith), drop_all count rest (omega arith)) refl
contents_again zero at true announced count rest few c = absurd c
contents_again (suc room) at true announced count rest few c = rw (le-ltb max_length announced few) (row_again room count rest c)

announced_again : (room at : ℕ) (leading : Option Leading) (rest : List ℕ) → Announced room leading rest → after_led (inside_of 0 room) at leading rest ≡ Ok []
announced_again room at None rest a = absurd a
announced_again room at (Some leading) rest (digits, content, e, len, few, c) =
    let long : ltb (length (digits ++ content)) leading.width ≡ false = le-ltb _ _ (omega (arith, length-append digits content)) in
    rw (e, long, take_at digits content leading.width len, drop_at digits content leading.width len) (contents_again room at (holds_values leading.kind) _ _ content few c)

module _ (room byte : ℕ) (rest : List ℕ) where
  pub value_announced : IsValueSpelling room (byte ∷ rest) → Announced room (leading_of byte) rest
  value_announced (value, s) =
      let bytes = byte ∷ rest in
      let at = 0 - length bytes in
      let read : after_first 0 room bytes ≡ Ok [] = ap (after_first 0 room) (sym (append-nil bytes)) ∙ value_again 0 room value bytes [] s in
      announced_read room at (leading_of byte) rest (sym (tells (inside_of 0 room) at byte rest).behind ∙ sym (value_is 0 room bytes) ∙ read)

  pub announced_value : Announced room (leading_of byte) rest → IsValueSpelling room (byte ∷ rest)
  announced_value a =
      let bytes = byte ∷ rest in
      let at = 0 - length bytes in
      let read : after_first 0 room bytes ≡ Ok [] =
      value_is 0 room bytes ∙ (tells (inside_of 0 room) at byte rest).behind ∙ announced_again room at (leading_of byte) rest a in
      let value = value_spelled 0 room bytes [] read in
      (value.0, subst (λ (l : List ℕ). Spells room value.0 l) (sym (value.2 ∙ append-nil value.1)) value.3)
