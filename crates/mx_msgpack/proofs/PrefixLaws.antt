-- No value's spelling goes on with more bytes to be another's, and bytes spell one value at most.
use Rattle.std.proofs.Common.{◌≡◌, ℕ, zero, suc, ◌-◌, List, [], ◌++◌, length, take, refl, sym, ap, ◌∙◌, append_assoc, inl, inr, ◌⊎◌, arith}
use Rattle.std.proofs.lemmas.List.{append-nil}
use Rattle.mx_msgpack.specs.declared.head.Head.{Head}
use Rattle.mx_msgpack.specs.declared.head.Head.TheVariants.{Nil, Bool as Boolean, Int, Str, Bin, Array, Map, Fixed, Extension}
use Rattle.mx_msgpack.specs.Grammar.{Value, Values, NoValue, MoreValues, Pairs, NoPair, MorePairs, value_count, pair_count, max_nesting, Spells, SpellsAll, SpellsPairs}
use Rattle.mx_msgpack.specs.Grammar as grammar
use Rattle.mx_msgpack.specs.Reading.{head_at, after_first, Shown, ShownNil, ShownBool, ShownInt, ShownStr, ShownBin, ShownArray, ShownMap, ShownOpaque, shown}
use Rattle.mx_msgpack.proofs.Results.{ok_is}
use Rattle.mx_msgpack.proofs.Heads.{SpellsHead, head_again}
use Rattle.mx_msgpack.proofs.OpaqueLaws.{FixedParts, ExtensionParts, opaque_parts}
use Rattle.mx_msgpack.proofs.GrammarLaws.{ShowsIn, value_again}
use Rattle.mx_msgpack.proofs.Measured.{front_is}

pub no_prefix_of_another : (one other : Value) (bytes more : List ℕ) → Spells max_nesting one bytes → Spells max_nesting other (bytes ++ more) → more ≡ []
no_prefix_of_another one other bytes more s t =
    let first = value_again 0 64 one bytes more s in
    let second = value_again 0 64 other (bytes ++ more) [] t in
    ok_is more [] (sym first ∙ ap (after_first 0 64) (sym (append-nil (bytes ++ more))) ∙ second)

-- ---- bytes spell one value at most

-- a value's head, and what it shows
record Begins (room : ℕ) (value : Value) (bytes : List ℕ) : Type 0 where
  head : Head
  front : List ℕ
  content : List ℕ
  parts : bytes ≡ front ++ content
  spelled : SpellsHead head front
  shows : ShowsIn room (shown head content bytes) value

opaque_begins : (room : ℕ) (spelling bytes : List ℕ) → bytes ≡ spelling → FixedParts spelling ⊎ ExtensionParts spelling → Begins room (grammar.Opaque spelling) bytes
opaque_begins room spelling bytes e (inl p) =
    record { head = Fixed p.size; front = p.front; content = p.content; parts = e ∙ p.parts; spelled = p.head; shows = ap (λ (l : List ℕ). grammar.Opaque l) (sym e) }
opaque_begins room spelling bytes e (inr p) =
    record { head = Extension p.size; front = p.front; content = p.content; parts = e ∙ p.parts; spelled = p.head; shows = ap (λ (l : List ℕ). grammar.Opaque l) (sym e) }

begins : (room : ℕ) (value : Value) (bytes : List ℕ) → Spells room value bytes → Begins room value bytes
begins room grammar.Nil bytes s = record { head = Nil; front = bytes; content = []; parts = sym (append-nil bytes); spelled = s; shows = refl }
begins room (grammar.Boolean truth) bytes s = record { head = Boolean truth; front = bytes; content = []; parts = sym (append-nil bytes); spelled = s; shows = refl }
begins room (grammar.Int number) bytes s = record { head = Int number; front = bytes; content = []; parts = sym (append-nil bytes); spelled = s; shows = refl }
begins room (grammar.Str text) bytes (head, h, few, e) = record { head = Str (length text); front = head; content = text; parts = e; spelled = h; shows = refl }
begins room (grammar.Bin content) bytes (head, h, few, e) = record { head = Bin (length content); front = head; content = content; parts = e; spelled = h; shows = refl }
begins zero (grammar.Array values) bytes s = absurd s
begins (suc room) (grammar.Array values) bytes (head, content, h, few, e, s) =
    record { head = Array (value_count values); front = head; content = content; parts = e; spelled = h; shows = (values, refl, refl, s) }
begins zero (grammar.Map pairs) bytes s = absurd s
begins (suc room) (grammar.Map pairs) bytes (head, content, h, few, e, s) =
    record { head = Map (pair_count pairs); front = head; content = content; parts = e; spelled = h; shows = (pairs, refl, refl, s) }
begins room (grammar.Opaque spelling) bytes (o, e) = opaque_begins room spelling bytes e (opaque_parts spelling o)

-- both show the same
same_shown : (room : ℕ) (one other : Value) (bytes : List ℕ) (a : Begins room one bytes) (b : Begins room other bytes) → shown b.head b.content bytes ≡ shown a.head a.content bytes
same_shown room one other bytes a b =
    let first = ap (head_at 0) a.parts ∙ head_again 0 a.head a.front a.content a.spelled in
    let second = ap (head_at 0) b.parts ∙ head_again 0 b.head b.front b.content b.spelled in
    let same = ok_is (b.head, b.content) (a.head, a.content) (sym second ∙ first) in
    ap (λ (x : Head × List ℕ). shown x.0 x.1 bytes) same

-- the claim for one depth, which the depth above takes
abbrev Claim : ℕ → Type 0
Claim room = (one other : Value) (bytes : List ℕ) → Spells room one bytes → Spells room other bytes → one ≡ other

-- the values that some bytes begin with are the same, and so are the bytes after them
module _ (room : ℕ) (claim : Claim room) (bytes : List ℕ) (one other : Value) (front rest front' rest' : List ℕ)
    (parts : bytes ≡ front ++ rest) (parts' : bytes ≡ front' ++ rest') (s : Spells room one front) (t : Spells room other front') where
  same_rest : rest ≡ rest'
  same_rest =
      let first = value_again 0 room one front rest s in
      let second = value_again 0 room other front' rest' t in
      ok_is rest rest' (sym first ∙ ap (after_first 0 room) (sym parts ∙ parts') ∙ second)

  same_front : front ≡ front'
  same_front =
      sym (front_is bytes front rest (length bytes - length rest) parts refl)
      ∙ ap (λ (l : List ℕ). take (length bytes - length l) bytes) same_rest
      ∙ front_is bytes front' rest' (length bytes - length rest') parts' refl

  same_value : one ≡ other
  same_value = claim one other front s (rw same_front t)

all_same : (room : ℕ) → Claim room → (one other : Values) (bytes : List ℕ) → value_count one ≡ value_count other → SpellsAll room one bytes → SpellsAll room other bytes → one ≡ other
all_same room claim NoValue NoValue bytes n s t = refl
all_same room claim NoValue (MoreValues value others) bytes n s t = absurd (omega arith)
all_same room claim (MoreValues value others) NoValue bytes n s t = absurd (omega arith)
all_same room claim (MoreValues value others) (MoreValues value' others') bytes n (front, rest, parts, s, ss) (front', rest', parts', t, ts) =
    let first = same_value room claim bytes value value' front rest front' rest' parts parts' s t in
    let after = same_rest room claim bytes value value' front rest front' rest' parts parts' s t in
    let rests = all_same room claim others others' rest (omega arith) ss (rw after ts) in
    rw (first, rests) refl

pairs_same : (room : ℕ) → Claim room → (one other : Pairs) (bytes : List ℕ) → pair_count one ≡ pair_count other → SpellsPairs room one bytes → SpellsPairs room other bytes → one ≡ other
pairs_same room claim NoPair NoPair bytes n s t = refl
pairs_same room claim NoPair (MorePairs key value others) bytes n s t = absurd (omega arith)
pairs_same room claim (MorePairs key value others) NoPair bytes n s t = absurd (omega arith)
pairs_same room claim (MorePairs key value others) (MorePairs key' value' others') bytes n (front, middle, rest, parts, s, v, ss) (front', middle', rest', parts', t, w, ts) =
    let whole = parts ∙ append_assoc front middle rest in
    let whole' = parts' ∙ append_assoc front' middle' rest' in
    let keys = same_value room claim bytes key key' front (middle ++ rest) front' (middle' ++ rest') whole whole' s t in
    let behind = same_rest room claim bytes key key' front (middle ++ rest) front' (middle' ++ rest') whole whole' s t in
    let values = same_value room claim (middle ++ rest) value value' middle rest middle' rest' refl behind v w in
    let after = same_rest room claim (middle ++ rest) value value' middle rest middle' rest' refl behind v w in
    let rests = pairs_same room claim others others' rest (omega arith) ss (rw after ts) in
    rw (keys, values, rests) refl

-- the claim for the depth below, where there is one
abbrev Below : ℕ → Type 0
Below zero = Unit {0}
Below (suc room) = Claim room

shows_one : (room : ℕ) → Below room → (what : Shown) (one other : Value) → ShowsIn room what one → ShowsIn room what other → one ≡ other
shows_one room below ShownNil one other s t = s ∙ sym t
shows_one room below (ShownBool truth) one other s t = s ∙ sym t
shows_one room below (ShownInt number) one other s t = s ∙ sym t
shows_one room below (ShownStr text) one other s t = s ∙ sym t
shows_one room below (ShownBin content) one other s t = s ∙ sym t
shows_one zero below (ShownArray count items) one other s t = absurd s
shows_one (suc room) below (ShownArray count items) one other (values, is, n, s) (values', is', n', t) =
    is ∙ ap (λ (v : Values). grammar.Array v) (all_same room below values values' items (sym n ∙ n') s t) ∙ sym is'
shows_one zero below (ShownMap count items) one other s t = absurd s
shows_one (suc room) below (ShownMap count items) one other (pairs, is, n, s) (pairs', is', n', t) =
    is ∙ ap (λ (v : Pairs). grammar.Map v) (pairs_same room below pairs pairs' items (sym n ∙ n') s t) ∙ sym is'
shows_one room below (ShownOpaque spelling) one other s t = s ∙ sym t

one_over : (room : ℕ) → Below room → Claim room
one_over room below one other bytes s t =
    let a = begins room one bytes s in
    let b = begins room other bytes t in
    shows_one room below (shown a.head a.content bytes) one other a.shows (rw (← same_shown room one other bytes a b) b.shows)

pub one_value : (room : ℕ) (one other : Value) (bytes : List ℕ) → Spells room one bytes → Spells room other bytes → one ≡ other
one_value zero one other bytes s t = one_over zero tt one other bytes s t
one_value (suc room) one other bytes s t = one_over (suc room) (λ a b l u v. one_value room a b l u v) one other bytes s t
