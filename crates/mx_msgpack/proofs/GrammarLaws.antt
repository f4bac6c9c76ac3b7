-- The grammar and reading from the left agree.
-- `value_spelled`: the bytes before the rest that reading returns spell a value.
-- `value_again`: bytes that spell a value are read, whatever follows them.
use Rattle.std.proofs.Common.{◌≡◌, ℕ, zero, suc, ◌-◌, ◌*◌, ◌≤◌, false, ltb, Some, inl, inr, ◌⊎◌, List, [], ◌++◌, length, take, drop, Result, Ok, refl, sym, ap, ◌∙◌, append_assoc, arith}
use Rattle.std.proofs.lemmas.Bool.{ltb-false, le-ltb}
use Rattle.std.proofs.lemmas.List.{append-nil, drop_at, take-append-drop, length-append, length-take}
use Rattle.mx_msgpack.specs.declared.bad.Bad.{Bad}
use Rattle.mx_msgpack.specs.declared.bad.Bad.TheVariants.{Short, Long}
use Rattle.mx_msgpack.specs.declared.head.Head.{Head}
use Rattle.mx_msgpack.specs.declared.head.Head.TheVariants.{Nil, Bool as Boolean, Int, Str, Bin, Array, Map, Fixed, Extension}
use Rattle.mx_msgpack.specs.Grammar.{Value, Values, NoValue, MoreValues, Pairs, NoPair, MorePairs, value_count, pair_count, max_length, IsOpaque, Spells, SpellsAll, SpellsPairs}
use Rattle.mx_msgpack.specs.Grammar as grammar
use Rattle.mx_msgpack.specs.Reading.{head_at, after_all, after_bytes, after_inside, after_content, after_first, Shown, ShownNil, ShownBool, ShownInt, ShownStr, ShownBin, ShownArray, ShownMap, ShownOpaque, shown}
use Rattle.mx_msgpack.proofs.Results.{bind_ok, guard_ok, guard_then, ok_is}
use Rattle.mx_msgpack.proofs.ValueLaws.{inside_of, value_is, value_begins}
use Rattle.mx_msgpack.proofs.Heads.{SpellsHead, head_spelled, head_again}
use Rattle.mx_msgpack.proofs.OpaqueLaws.{FixedParts, ExtensionParts, fixed_whole, extension_whole, opaque_parts}

-- ---- what is spelled is read

pub twice : (count : ℕ) → 2 * suc count ≡ suc (suc (2 * count))
twice count = omega arith

-- bytes after a head that announces them
bytes_again : (at announced size : ℕ) (content rest : List ℕ) → announced ≤ max_length → length content ≡ size → after_bytes at announced size (content ++ rest) ≡ Ok rest
bytes_again at announced size content rest few len =
    let short : ltb max_length announced ≡ false = le-ltb _ _ few in
    let long : ltb (length (content ++ rest)) size ≡ false = le-ltb _ _ (omega (arith, length-append content rest)) in
    rw (short, long, drop_at content rest size len) refl

-- values after a head that announces them
inside_again : (one : List ℕ → Result (List ℕ) Bad) (at announced values : ℕ) (bytes rest : List ℕ) → announced ≤ max_length → after_all one values bytes ≡ Ok rest
    → after_inside (Some one) at announced values bytes ≡ Ok rest
inside_again one at announced values bytes rest few e = rw (le-ltb max_length announced few) e

-- a value from a head on that is spelled
begun : (total room : ℕ) (head : Head) (front content rest : List ℕ) → SpellsHead head front
    → after_first total room ((front ++ content) ++ rest) ≡ after_content (inside_of total room) (total - length ((front ++ content) ++ rest)) head (content ++ rest)
begun total room head front content rest s =
    let bytes = (front ++ content) ++ rest in
    value_begins total room bytes head (content ++ rest)
    (ap (head_at (total - length bytes)) (append_assoc front content rest) ∙ head_again (total - length bytes) head front (content ++ rest) s)

-- a value that is all head
begun_whole : (total room : ℕ) (head : Head) (front rest : List ℕ) → SpellsHead head front
    → after_first total room (front ++ rest) ≡ after_content (inside_of total room) (total - length (front ++ rest)) head rest
begun_whole total room head front rest s = value_begins total room (front ++ rest) head rest (head_again (total - length (front ++ rest)) head front rest s)

opaque_again : (total room : ℕ) (bytes rest : List ℕ) → FixedParts bytes ⊎ ExtensionParts bytes → after_first total room (bytes ++ rest) ≡ Ok rest
opaque_again total room bytes rest (inl p) =
    rw p.parts (begun total room (Fixed p.size) p.front p.content rest p.head ∙ bytes_again _ p.size p.size p.content rest p.few p.many)
opaque_again total room bytes rest (inr p) =
    rw p.parts (begun total room (Extension p.size) p.front p.content rest p.head ∙ bytes_again _ p.size (suc p.size) p.content rest p.few p.many)

mutual
  pub value_again : (total room : ℕ) (value : Value) (front rest : List ℕ) → Spells room value front → after_first total room (front ++ rest) ≡ Ok rest
  value_again total room grammar.Nil front rest s = begun_whole total room Nil front rest s
  value_again total room (grammar.Boolean truth) front rest s = begun_whole total room (Boolean truth) front rest s
  value_again total room (grammar.Int number) front rest s = begun_whole total room (Int number) front rest s
  value_again total room (grammar.Str text) front rest (head, h, few, e) =
      rw e (begun total room (Str (length text)) head text rest h ∙ bytes_again _ (length text) (length text) text rest few refl)
  value_again total room (grammar.Bin content) front rest (head, h, few, e) =
      rw e (begun total room (Bin (length content)) head content rest h ∙ bytes_again _ (length content) (length content) content rest few refl)
  value_again total zero (grammar.Array values) front rest s = absurd s
  value_again total (suc room) (grammar.Array values) front rest (head, content, h, few, e, s) =
      rw e
      (begun total (suc room) (Array (value_count values)) head content rest h
      ∙ inside_again (after_first total room) _ (value_count values) (value_count values) (content ++ rest) rest few (all_again total room values content rest s))
  value_again total zero (grammar.Map pairs) front rest s = absurd s
  value_again total (suc room) (grammar.Map pairs) front rest (head, content, h, few, e, s) =
      rw e
      (begun total (suc room) (Map (pair_count pairs)) head content rest h
      ∙ inside_again (after_first total room) _ (pair_count pairs) (2 * pair_count pairs) (content ++ rest) rest few (pairs_again total room pairs content rest s))
  value_again total room (grammar.Opaque spelling) front rest (o, e) = rw e (opaque_again total room spelling rest (opaque_parts spelling o))

  pub all_again : (total room : ℕ) (values : Values) (front rest : List ℕ) → SpellsAll room values front
      → after_all (after_first total room) (value_count values) (front ++ rest) ≡ Ok rest
  all_again total room NoValue front rest e = rw e refl
  all_again total room (MoreValues value others) front rest (first, more, e, s, ss) =
      rw (e, append_assoc first more rest, value_again total room value first (more ++ rest) s) (all_again total room others more rest ss)

  pub pairs_again : (total room : ℕ) (pairs : Pairs) (front rest : List ℕ) → SpellsPairs room pairs front
      → after_all (after_first total room) (2 * pair_count pairs) (front ++ rest) ≡ Ok rest
  pairs_again total room NoPair front rest e = rw e refl
  pairs_again total room (MorePairs key value others) front rest (first, second, more, e, s, t, ss) =
      rw (
        e,
        twice (pair_count others),
        append_assoc (first ++ second) more rest,
        append_assoc first second (more ++ rest),
        value_again total room key first (second ++ (more ++ rest)) s,
        value_again total room value second (more ++ rest) t,
      )
      (pairs_again total room others more rest ss)

-- ---- what is read is spelled

-- a value, several values or several pairs at the start of the bytes
pub record Front (room : ℕ) (bytes rest : List ℕ) : Type 0 where
  pub value : Value
  pub front : List ℕ
  pub parts : bytes ≡ front ++ rest
  pub spelled : Spells room value front

pub record FrontAll (room count : ℕ) (bytes rest : List ℕ) : Type 0 where
  pub values : Values
  pub front : List ℕ
  pub parts : bytes ≡ front ++ rest
  pub many : value_count values ≡ count
  pub spelled : SpellsAll room values front

pub record FrontPairs (room count : ℕ) (bytes rest : List ℕ) : Type 0 where
  pub pairs : Pairs
  pub front : List ℕ
  pub parts : bytes ≡ front ++ rest
  pub many : pair_count pairs ≡ count
  pub spelled : SpellsPairs room pairs front

pub joined : (bytes front middle more rest : List ℕ) → bytes ≡ front ++ middle → middle ≡ more ++ rest → bytes ≡ (front ++ more) ++ rest
joined bytes front middle more rest e f = e ∙ ap (λ (x : List ℕ). front ++ x) f ∙ sym (append_assoc front more rest)

pairs_joined : (bytes key middle value more others rest : List ℕ) → bytes ≡ key ++ middle → middle ≡ value ++ more → more ≡ others ++ rest → bytes ≡ ((key ++ value) ++ others) ++ rest
pairs_joined bytes key middle value more others rest e f g = joined bytes (key ++ value) more others rest (joined bytes key middle value more e f) g

more_pairs : (room count : ℕ) (bytes middle more rest : List ℕ) → Front room bytes middle → Front room middle more → FrontPairs room count more rest → FrontPairs room (suc count) bytes rest
more_pairs room count bytes middle more rest key value others = record {
  pairs = MorePairs key.value value.value others.pairs;
  front = (key.front ++ value.front) ++ others.front;
  parts = pairs_joined bytes key.front middle value.front more others.front rest key.parts value.parts others.parts;
  many = ap suc others.many;
  spelled = (key.front, value.front, others.front, refl, key.spelled, value.spelled, others.spelled);
}

more_values : (room count : ℕ) (bytes middle rest : List ℕ) → Front room bytes middle → FrontAll room count middle rest → FrontAll room (suc count) bytes rest
more_values room count bytes middle rest value others = record {
  values = MoreValues value.value others.values;
  front = value.front ++ others.front;
  parts = joined bytes value.front middle others.front rest value.parts others.parts;
  many = ap suc others.many;
  spelled = (value.front, others.front, refl, value.spelled, others.spelled);
}

-- the claim for one depth, which the depth above takes
abbrev Claim : ℕ → (List ℕ → Result (List ℕ) Bad) → Type 0
Claim room one = (bytes rest : List ℕ) → one bytes ≡ Ok rest → Front room bytes rest

all_spelled : (room : ℕ) (one : List ℕ → Result (List ℕ) Bad) → Claim room one → (count : ℕ) (bytes rest : List ℕ) → after_all one count bytes ≡ Ok rest → FrontAll room count bytes rest
all_spelled room one claim zero bytes rest e = record { values = NoValue; front = []; parts = ok_is bytes rest e; many = refl; spelled = refl }
all_spelled room one claim (suc count) bytes rest e =
    let b = bind_ok (one bytes) (after_all one count) rest e in
    more_values room count bytes b.0 rest (claim bytes b.0 b.1) (all_spelled room one claim count b.0 rest b.2)

pairs_spelled : (room : ℕ) (one : List ℕ → Result (List ℕ) Bad) → Claim room one → (count : ℕ) (bytes rest : List ℕ) → after_all one (2 * count) bytes ≡ Ok rest → FrontPairs room count bytes rest
pairs_spelled room one claim zero bytes rest e = record { pairs = NoPair; front = []; parts = ok_is bytes rest e; many = refl; spelled = refl }
pairs_spelled room one claim (suc count) bytes rest e =
    let b = bind_ok (one bytes) (after_all one (suc (2 * count))) rest (rw (twice count) at e) in
    let d = bind_ok (one b.0) (after_all one (2 * count)) rest b.2 in
    more_pairs room count bytes b.0 d.0 rest (claim bytes b.0 b.1) (claim b.0 d.0 d.1) (pairs_spelled room one claim count d.0 rest d.2)

-- what is shown is this value, whose containers have this much room
abbrev pub ShowsIn : ℕ → Shown → Value → Type 0
ShowsIn room ShownNil value = value ≡ grammar.Nil
ShowsIn room (ShownBool truth) value = value ≡ grammar.Boolean truth
ShowsIn room (ShownInt number) value = value ≡ grammar.Int number
ShowsIn room (ShownStr text) value = value ≡ grammar.Str text
ShowsIn room (ShownBin content) value = value ≡ grammar.Bin content
ShowsIn zero (ShownArray count items) value = ⊥
ShowsIn (suc room) (ShownArray count items) value = (values : Values) × (value ≡ grammar.Array values) × (count ≡ value_count values) × SpellsAll room values items
ShowsIn zero (ShownMap count items) value = ⊥
ShowsIn (suc room) (ShownMap count items) value = (pairs : Pairs) × (value ≡ grammar.Map pairs) × (count ≡ pair_count pairs) × SpellsPairs room pairs items
ShowsIn room (ShownOpaque spelling) value = value ≡ grammar.Opaque spelling

-- what stands after a head that these bytes spell
pub record Content (room : ℕ) (head : Head) (front after rest : List ℕ) : Type 0 where
  pub value : Value
  pub content : List ℕ
  pub parts : after ≡ content ++ rest
  pub spelled : Spells room value (front ++ content)
  pub shows : ShowsIn room (shown head content (front ++ content)) value

-- the claim for the depth below, where there is one
abbrev Below : ℕ → ℕ → Type 0
Below total zero = Unit {0}
Below total (suc room) = Claim room (after_first total room)

-- bytes that a head announces, and the bytes after them
record Announced (announced size : ℕ) (after rest : List ℕ) : Type 0 where
  few : announced ≤ max_length
  many : length (take size after) ≡ size
  parts : after ≡ take size after ++ rest

bytes_announced : (at announced size : ℕ) (after rest : List ℕ) → after_bytes at announced size after ≡ Ok rest → Announced announced size after rest
bytes_announced at announced size after rest e =
    let f = guard_then (ltb max_length announced) (Long at) _ rest e in
    let g = guard_ok (ltb (length after) size) Short (drop size after) rest f.1 in
    let long : size ≤ length after = ltb-false _ _ g.0 in
    record {
      few = ltb-false _ _ f.0;
      many = omega (arith, length-take size after);
      parts = sym (take-append-drop size after) ∙ ap (λ (x : List ℕ). take size after ++ x) g.1;
    }

-- values that a head announces
inside_announced : (one : List ℕ → Result (List ℕ) Bad) (at announced values : ℕ) (after rest : List ℕ) → after_inside (Some one) at announced values after ≡ Ok rest
    → (announced ≤ max_length) × (after_all one values after ≡ Ok rest)
inside_announced one at announced values after rest e =
    let f = guard_then (ltb max_length announced) (Long at) (after_all one values after) rest e in
    (ltb-false _ _ f.0, f.1)

content_spelled : (total room at : ℕ) (head : Head) (front after rest : List ℕ) → Below total room → SpellsHead head front
    → after_content (inside_of total room) at head after ≡ Ok rest → Content room head front after rest
content_spelled total room at Nil front after rest below s e =
    record { value = grammar.Nil; content = []; parts = ok_is after rest e; spelled = rw (append-nil front) s; shows = refl }
content_spelled total room at (Boolean truth) front after rest below s e =
    record { value = grammar.Boolean truth; content = []; parts = ok_is after rest e; spelled = rw (append-nil front) s; shows = refl }
content_spelled total room at (Int number) front after rest below s e =
    record { value = grammar.Int number; content = []; parts = ok_is after rest e; spelled = rw (append-nil front) s; shows = refl }
content_spelled total room at (Str size) front after rest below s e =
    let g = bytes_announced at size size after rest e in
    record { value = grammar.Str (take size after); content = take size after; parts = g.parts; spelled = (front, rw g.many s, rw g.many g.few, refl); shows = refl }
content_spelled total room at (Bin size) front after rest below s e =
    let g = bytes_announced at size size after rest e in
    record { value = grammar.Bin (take size after); content = take size after; parts = g.parts; spelled = (front, rw g.many s, rw g.many g.few, refl); shows = refl }
content_spelled total zero at (Array count) front after rest below s e = absurd cc
content_spelled total (suc room) at (Array count) front after rest below s e =
    let g = inside_announced (after_first total room) at count count after rest e in
    let all = all_spelled room (after_first total room) below count after rest g.1 in
    record {
      value = grammar.Array all.values;
      content = all.front;
      parts = all.parts;
      spelled = (front, all.front, rw all.many s, rw all.many g.0, refl, all.spelled);
      shows = (all.values, refl, sym all.many, all.spelled);
    }
content_spelled total zero at (Map count) front after rest below s e = absurd cc
content_spelled total (suc room) at (Map count) front after rest below s e =
    let g = inside_announced (after_first total room) at count (2 * count) after rest e in
    let all = pairs_spelled room (after_first total room) below count after rest g.1 in
    record {
      value = grammar.Map all.pairs;
      content = all.front;
      parts = all.parts;
      spelled = (front, all.front, rw all.many s, rw all.many g.0, refl, all.spelled);
      shows = (all.pairs, refl, sym all.many, all.spelled);
    }
content_spelled total room at (Fixed size) front after rest below s e =
    let g = bytes_announced at size size after rest e in
    record {
      value = grammar.Opaque (front ++ take size after);
      content = take size after;
      parts = g.parts;
      spelled = (fixed_whole size front (take size after) s g.many, refl);
      shows = refl;
    }
content_spelled total room at (Extension size) front after rest below s e =
    let g = bytes_announced at size (suc size) after rest e in
    record {
      value = grammar.Opaque (front ++ take (suc size) after);
      content = take (suc size) after;
      parts = g.parts;
      spelled = (extension_whole size front (take (suc size) after) s g.few g.many, refl);
      shows = refl;
    }

-- the value that stands first, by its head and its content
pub record Stands (total room : ℕ) (bytes rest : List ℕ) : Type 0 where
  pub head : Head
  pub after : List ℕ
  pub content : List ℕ
  pub value : Value
  pub front : List ℕ
  pub begins : head_at (total - length bytes) bytes ≡ Ok (head, after)
  pub parts : after ≡ content ++ rest
  pub whole : bytes ≡ front ++ rest
  pub spelled : Spells room value front
  pub shows : ShowsIn room (shown head content front) value

stands_over : (total room : ℕ) → Below total room → (bytes rest : List ℕ) → after_first total room bytes ≡ Ok rest → Stands total room bytes rest
stands_over total room below bytes rest e =
    let b = bind_ok (head_at (total - length bytes) bytes) (λ head. after_content (inside_of total room) (total - length bytes) head.0 head.1) rest (sym (value_is total room bytes) ∙ e) in
    let h = head_spelled (total - length bytes) bytes b.0.0 b.0.1 b.1 in
    let c = content_spelled total room (total - length bytes) b.0.0 h.0 b.0.1 rest below h.2 b.2 in
    record {
      head = b.0.0;
      after = b.0.1;
      content = c.content;
      value = c.value;
      front = h.0 ++ c.content;
      begins = b.1;
      parts = c.parts;
      whole = joined bytes h.0 b.0.1 c.content rest h.1 c.parts;
      spelled = c.spelled;
      shows = c.shows;
    }

front_of : (total room : ℕ) (bytes rest : List ℕ) → Stands total room bytes rest → Front room bytes rest
front_of total room bytes rest s = record { value = s.value; front = s.front; parts = s.whole; spelled = s.spelled }

pub value_stands : (total room : ℕ) (bytes rest : List ℕ) → after_first total room bytes ≡ Ok rest → Stands total room bytes rest
value_stands total zero bytes rest e = stands_over total zero tt bytes rest e
value_stands total (suc room) bytes rest e = stands_over total (suc room) (λ b r h. front_of total room b r (value_stands total room b r h)) bytes rest e

pub value_spelled : (total room : ℕ) (bytes rest : List ℕ) → after_first total room bytes ≡ Ok rest
    → (value : Value) × (front : List ℕ) × (bytes ≡ front ++ rest) × Spells room value front
value_spelled total room bytes rest e =
    let s = value_stands total room bytes rest e in
    (s.value, s.front, s.whole, s.spelled)
