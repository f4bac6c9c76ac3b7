-- The pairs of a map, one after the other: as they are spelled they are read, and as they are read they are spelled.
use Rattle.std.proofs.Common.{◌≡◌, ℕ, suc, ◌≤◌, List, [], ◌∷◌, ◌++◌, length, Option, Some, None, Ok, refl, sym, ap, ◌∙◌, subst, append_assoc, arith}
use Rattle.std.proofs.lemmas.List.{append-nil, take_all, drop_all}
use Rattle.mx_msgpack.specs.Grammar.{Value, Pairs, NoPair, MorePairs, pair_count, Spells, SpellsPairs, MapHead, max_length}
use Rattle.mx_msgpack.specs.Items.{after_value, first_value}
use Rattle.mx_msgpack.specs.Maps.{Pair, map_at, pairs_from, pairs_in}
use Rattle.mx_msgpack.specs.Reading.{ShownMap, reading_of}
use Rattle.mx_msgpack.specs.Readers.{unsigned_in}
use Rattle.mx_msgpack.specs.Spelling.{AreBytes}
use Rattle.mx_msgpack.proofs.ItemLaws.{first_is}
use Rattle.mx_msgpack.proofs.ShortestLaws.{front_of, rest_of}
use Rattle.mx_completion.specs.Choices.{AreContent, AreValued}
use Rattle.mx_completion.specs.Completions.{IsValueSpelling}
use Rattle.mx_completion.proofs.MapLaws.{map_is_spelled, map_known, map_reads, pairs_known}
use Rattle.mx_completion.proofs.KeyLaws.{alone_read, alone_spelled, number_is, number_read}

-- ---- a key

key_alone : (front more : List ℕ) → IsValueSpelling 63 front → unsigned_in (front ++ more) ≡ unsigned_in front
key_alone front more (value, s) = by_read (unsigned_in (front ++ more)) refl (unsigned_in front) refl
  where
    by_read : (one : Option ℕ) → unsigned_in (front ++ more) ≡ one → (other : Option ℕ) → unsigned_in front ≡ other → unsigned_in (front ++ more) ≡ unsigned_in front
    by_read (Some number) e other f =
        e ∙ sym (alone_read number front (subst (λ (v : Value). Spells 63 v front) (number_is value front more number s e) s))
    by_read None e None f = e ∙ sym f
    by_read None e (Some number) f = let read = number_read number front more (alone_spelled value front number s f) in absurd cc

-- ---- pairs are read as they are spelled

pub content_read : (pairs : List Pair) (content rest : List ℕ) → AreContent pairs content → pairs_from (length pairs) (content ++ rest) ≡ pairs
content_read [] content rest e = refl
content_read (pair ∷ others) content rest (key, value, more, e, (k, s), (v, t), is, each) =
    let whole : content ++ rest ≡ key ++ (value ++ (more ++ rest)) =
    ap (λ (l : List ℕ). l ++ rest) e ∙ append_assoc key (value ++ more) rest ∙ ap (λ (l : List ℕ). key ++ l) (append_assoc value more rest) in
    let number = key_alone key (value ++ (more ++ rest)) (k, s) in
    let one = first_is k key (value ++ (more ++ rest)) s in
    let two = first_is v value (more ++ rest) t in
    rw (whole, number, one.1, two.0, two.1, content_read others more rest each) (ap (λ (p : Pair). p ∷ others) (sym is))

-- ---- maps

-- a map of these pairs, which spell this content
pub record MapIs (bytes : List ℕ) (pairs : List Pair) : Type 0 where
  pub head : List ℕ
  pub content : List ℕ
  pub parts : bytes ≡ head ++ content
  pub headed : MapHead (length pairs) head
  pub few : length pairs ≤ max_length
  pub inside : AreContent pairs content

-- the pairs of the grammar as they are read
record Read (pairs : Pairs) (content : List ℕ) : Type 0 where
  list : List Pair
  many : length list ≡ pair_count pairs
  inside : AreContent list content

read_so : (pairs : Pairs) (content : List ℕ) → SpellsPairs 63 pairs content → Read pairs content
read_so NoPair content e = record { list = []; many = refl; inside = e }
read_so (MorePairs key value others) content (front, middle, rest, e, s, t, each) =
    let r = read_so others rest each in
    record {
      list = record { key = unsigned_in front; value = middle } ∷ r.list;
      many = ap suc r.many;
      inside = (front, middle, rest, e ∙ append_assoc front middle rest, (key, s), (value, t), refl, r.inside);
    }

-- and as they are spelled
record Spelled (list : List Pair) (content : List ℕ) : Type 0 where
  pairs : Pairs
  many : pair_count pairs ≡ length list
  inside : SpellsPairs 63 pairs content

spelled_so : (list : List Pair) (content : List ℕ) → AreContent list content → Spelled list content
spelled_so [] content e = record { pairs = NoPair; many = refl; inside = e }
spelled_so (pair ∷ others) content (key, value, rest, e, (k, s), (v, t), is, each) =
    let r = spelled_so others rest each in
    record {
      pairs = MorePairs k v r.pairs;
      many = ap suc r.many;
      inside = (key, value, rest, e ∙ sym (append_assoc key value rest), s, t, r.inside);
    }

pub map_spelled : (bytes : List ℕ) → map_at bytes ≡ Some (bytes, []) → MapIs bytes (pairs_in bytes)
map_spelled bytes e =
    let (pairs, (head, content, h, few, parts, each)) = map_is_spelled bytes e in
    let r = read_so pairs content each in
    let read = ap reading_of (parts ∙ sym (append-nil (head ++ content))) ∙ map_reads pairs head content [] h few each in
    let list : pairs_in bytes ≡ r.list =
    pairs_known bytes (pair_count pairs) content (length (head ++ content)) read
    ∙ ap (λ (n : ℕ). pairs_from n content) (sym r.many) ∙ ap (pairs_from (length r.list)) (sym (append-nil content)) ∙ content_read r.list content [] r.inside in
    let many : pair_count pairs ≡ length (pairs_in bytes) = sym r.many ∙ ap length (sym list) in
    record {
      head = head;
      content = content;
      parts = parts;
      headed = subst (λ (n : ℕ). MapHead n head) many h;
      few = subst (λ (n : ℕ). n ≤ max_length) many few;
      inside = subst (λ (l : List Pair). AreContent l content) (sym list) r.inside;
    }

pub map_made : (list : List Pair) (head content : List ℕ) → MapHead (length list) head → length list ≤ max_length → AreContent list content
    → (map_at (head ++ content) ≡ Some (head ++ content, [])) × (pairs_in (head ++ content) ≡ list)
map_made list head content h few each =
    let bytes = head ++ content in
    let s = spelled_so list content each in
    let read : reading_of bytes ≡ Ok (ShownMap (pair_count s.pairs) content, length bytes) =
    ap reading_of (sym (append-nil bytes))
    ∙ map_reads s.pairs head content [] (subst (λ (n : ℕ). MapHead n head) (sym s.many) h) (subst (λ (n : ℕ). n ≤ max_length) (sym s.many) few) s.inside in (
      map_known bytes (pair_count s.pairs) content (length bytes) read
          ∙ (λ i. Some (take_all (length bytes) bytes (omega arith) i, drop_all (length bytes) bytes (omega arith) i)),
      pairs_known bytes (pair_count s.pairs) content (length bytes) read
          ∙ ap (λ (n : ℕ). pairs_from n content) s.many ∙ ap (pairs_from (length list)) (sym (append-nil content)) ∙ content_read list content [] each,
    )

-- ---- pairs that begin with others

-- the value that stands first is one
pub one_first : (one other more rest : List ℕ) → IsValueSpelling 63 one → IsValueSpelling 63 other → one ++ more ≡ other ++ rest → (one ≡ other) × (more ≡ rest)
one_first one other more rest (v, s) (w, t) e =
    let a = first_is v one more s in
    let b = first_is w other rest t in
    (sym a.0 ∙ ap first_value e ∙ b.0, sym a.1 ∙ ap after_value e ∙ b.1)

pub content-append : (one other : List Pair) (front rest : List ℕ) → AreContent one front → AreContent other rest → AreContent (one ++ other) (front ++ rest)
content-append [] other front rest e each = rw e each
content-append (pair ∷ one) other front rest (key, value, more, e, k, v, is, first) each = (
  key,
  value,
  more ++ rest,
  ap (λ (l : List ℕ). l ++ rest) e ∙ append_assoc key (value ++ more) rest ∙ ap (λ (l : List ℕ). key ++ l) (append_assoc value more rest),
  k,
  v,
  is,
  content-append one other more rest first each,
)

-- pairs that go on from these
pub record GoesOn (stands : List Pair) (behind : List ℕ) (pairs : List Pair) : Type 0 where
  pub others : List Pair
  pub are : pairs ≡ stands ++ others
  pub content : AreContent others behind

pub goes_on : (stands pairs : List Pair) (front behind : List ℕ) → AreContent stands front → AreContent pairs (front ++ behind) → length stands ≤ length pairs → GoesOn stands behind pairs
goes_on [] pairs front behind e each few = record { others = pairs; are = refl; content = subst (λ (l : List ℕ). AreContent pairs (l ++ behind)) e each }
goes_on (pair ∷ stands) [] front behind s each few = absurd (omega (arith, few))
goes_on (pair ∷ stands) (other ∷ pairs) front behind (key, value, more, e, k, v, is, first) (key', value', more', e', k', v', is', each) few =
    let whole : key ++ (value ++ (more ++ behind)) ≡ key' ++ (value' ++ more') =
    sym (ap (λ (l : List ℕ). l ++ behind) e ∙ append_assoc key (value ++ more) behind ∙ ap (λ (l : List ℕ). key ++ l) (append_assoc value more behind)) ∙ e' in
    let keys = one_first key key' (value ++ (more ++ behind)) (value' ++ more') k k' whole in
    let values = one_first value value' (more ++ behind) more' v v' keys.1 in
    let g = goes_on stands pairs more behind first (subst (AreContent pairs) (sym values.1) each) (omega arith) in
    let same : other ≡ pair = is' ∙ (λ i. record { key = unsigned_in (sym keys.0 i); value = sym values.0 i }) ∙ sym is in
    record { others = g.others; are = λ i. same i ∷ g.are i; content = g.content }

pub content_valued : (pairs : List Pair) (content : List ℕ) → AreBytes content → AreContent pairs content → AreValued pairs
content_valued [] content bytes e = tt
content_valued (pair ∷ others) content bytes (key, value, rest, e, k, v, is, each) =
    let behind = rest_of content key (value ++ rest) e bytes in (
      subst (λ (p : Pair). AreBytes p.value) (sym is) (front_of (value ++ rest) value rest refl behind),
      subst (λ (p : Pair). IsValueSpelling 63 p.value) (sym is) v,
      content_valued others rest (rest_of (value ++ rest) value rest refl behind) each,
    )
