-- Bytes that end inside a pair of a map, and what they can become with others behind.
use Rattle.std.proofs.Common.{◌≡◌, ℕ, suc, ◌+◌, ◌-◌, ◌<◌, ◌≤◌, Bool, true, false, List, [], ◌∷◌, ◌++◌, length, take, drop, Option, Some, None, refl, sym, ap, ◌∙◌, subst, append_assoc, inl, arith}
use Rattle.std.specs.Prelude.{pos, nat_lt, IfSome, MatchBool, if◌then◌else◌}
use Rattle.std.specs.Option.{option_map, option_or}
use Rattle.std.proofs.lemmas.Bool.{ltb-false, ltb-true, ne_eqb}
use Rattle.std.proofs.lemmas.List.{append-nil, length-append, take-append-drop}
use Rattle.mx_msgpack.specs.Grammar as grammar
use Rattle.mx_msgpack.specs.Grammar.{SpellsInt}
use Rattle.mx_msgpack.specs.Maps.{Pair, pairs_from, value_under}
use Rattle.mx_msgpack.specs.Readers.{unsigned_in}
use Rattle.mx_msgpack.specs.Spelling.{AreBytes}
use Rattle.mx_msgpack.proofs.ShortestLaws.{front_of, rest_of}
use Rattle.mx_completion.specs.declared.completion.Completion.TheVariants.{Whole, Missing, Impossible}
use Rattle.mx_completion.specs.Choices.{AreContent, AreValued, AreWritten, BecomesContent, Cut, EndsIn, cut_under, IsBegunMap, IsPassed, SamePairs}
use Rattle.mx_completion.specs.Completions.{Completes, IsValueSpelling}
use Rattle.mx_completion.specs.Numbers.{CanBecome, IsRange}
use Rattle.mx_completion.specs.declared.number.NumberRange.{NumberRange}
use Rattle.mx_completion.proofs.LookupLaws.{or_none, under_append}
use Rattle.mx_completion.proofs.PairLaws.{content-append, content_read, content_valued, goes_on, one_first}
use Rattle.mx_completion.proofs.KeyLaws.{OtherKey, alone_is, alone_read, alone_spelled, any_key}
use Rattle.mx_completion.proofs.ByteLaws.{bytes-append, ends_beyond, one_byte}

-- ---- bytes that end inside a value

pub ends_in : (bytes : List ℕ) (least : ℕ) → Completes (IsValueSpelling 63) bytes (Missing least) → EndsIn bytes
ends_in bytes least c =
    let (some, missing, each, long, value) = c.stands in
    record {
      missing = missing;
      each = each;
      some = omega (arith, long, some);
      value = value;
      only = λ more front rest fine e is.
          let at_least = c.allows more front rest fine e is in
          let (others, parts, behind) = ends_beyond bytes more front rest e (omega (arith, at_least)) in
          (others, parts, omega (arith, at_least, some, ap length parts, length-append bytes others), behind);
    }

-- ---- pairs that are written

nil_alone : unsigned_in (0xc0 ∷ []) ≡ None
nil_alone = by_read (unsigned_in (0xc0 ∷ [])) refl
  where
    by_read : (read : Option ℕ) → unsigned_in (0xc0 ∷ []) ≡ read → unsigned_in (0xc0 ∷ []) ≡ None
    by_read None e = e
    by_read (Some number) e = let is : grammar.Nil ≡ grammar.Int (pos number) = alone_is grammar.Nil (0xc0 ∷ []) number refl e in absurd cc

-- a key's spelling
record KeyIs (key : Option ℕ) : Type 0 where
  spelling : List ℕ
  each : AreBytes spelling
  value : IsValueSpelling 63 spelling
  read : unsigned_in spelling ≡ key

key_is : (key : Option ℕ) → IfSome key (λ number. number < 0x80) → KeyIs key
key_is None low = record { spelling = 0xc0 ∷ []; each = one_byte 0xc0 (omega arith); value = (grammar.Nil, refl); read = nil_alone }
key_is (Some number) low =
    let s : SpellsInt (pos number) (number ∷ []) = inl (number, refl, inl (low, refl)) in
    record { spelling = number ∷ []; each = one_byte number (omega arith); value = (grammar.Int (pos number), s); read = alone_read number (number ∷ []) s }

-- bytes that are these pairs
pub record Realised (pairs : List Pair) : Type 0 where
  pub content : List ℕ
  pub each : AreBytes content
  pub are : AreContent pairs content

pub realised : (pairs : List Pair) → AreWritten pairs → Realised pairs
realised [] written = record { content = []; each = λ i. omega arith; are = refl }
realised (pair ∷ others) (low, each, value, written) =
    let k = key_is pair.key low in
    let r = realised others written in
    record {
      content = k.spelling ++ (pair.value ++ r.content);
      each = bytes-append k.spelling (pair.value ++ r.content) k.each (bytes-append pair.value r.content each r.each);
      are = (k.spelling, pair.value, r.content, refl, k.value, value, (λ i. record { key = sym k.read i; value = pair.value }), r.are);
    }

-- a pair of no key below 80 is as none
pub skipped : (pair : Pair) (others : List Pair) → ((number : ℕ) → pair.key ≡ Some number → 0x80 ≤ number) → SamePairs (pair ∷ others) others
skipped pair others high key low = by_key pair.key refl
  where
    by_key : (has : Option ℕ) → pair.key ≡ has → value_under key (pair ∷ others) ≡ value_under key others
    by_key None e = rw e (or_none (value_under key others))
    by_key (Some number) e = let from = high number e in rw (e, ne_eqb number key (λ same. omega arith)) (or_none (value_under key others))

-- ---- what a pair that isn't whole can become

module _ (fields n : ℕ) (bytes : List ℕ) where
  -- pairs of which the first one's key is longer than the bytes
  record InKeyOf (pairs : List Pair) : Type 0 where
    more : List ℕ
    each : AreBytes more
    some : 1 ≤ length more
    value : IsValueSpelling 63 (bytes ++ more)
    first : List ℕ
    others : List Pair
    parts : pairs ≡ record { key = unsigned_in (bytes ++ more); value = first } ∷ others
    first_bytes : AreBytes first
    first_value : IsValueSpelling 63 first
    many : length others ≡ n
    valued : AreValued others

  in_key_of : (pairs : List Pair) → EndsIn bytes → BecomesContent (suc n) bytes pairs → InKeyOf pairs
  in_key_of [] ends (missing, are, some, many, content) = absurd (omega (arith, many))
  in_key_of (pair ∷ others) ends (missing, are, some, many, (key, value, rest, e, k, v, is, each)) =
      let (more, whole, long, behind) = ends.only missing key (value ++ rest) are e k in
      let after = rest_of missing more (value ++ rest) behind are in
      record {
        more = more;
        each = front_of missing more (value ++ rest) behind are;
        some = long;
        value = subst (IsValueSpelling 63) whole k;
        first = value;
        others = others;
        parts = ap (λ (p : Pair). p ∷ others) (is ∙ (λ i. record { key = unsigned_in (whole i); value = value }));
        first_bytes = front_of (value ++ rest) value rest refl after;
        first_value = v;
        many = omega (arith, many);
        valued = content_valued others rest (rest_of (value ++ rest) value rest refl after) each;
      }

  becomes_so : (more value : List ℕ) (others : List Pair) → AreBytes more → 1 ≤ length more → IsValueSpelling 63 (bytes ++ more) → AreBytes value → IsValueSpelling 63 value → length others ≡ n → AreWritten others
      → BecomesContent (suc n) bytes (record { key = unsigned_in (bytes ++ more); value = value } ∷ others)
  becomes_so more value others each some key fine is many written =
      let r = realised others written in (
        more ++ (value ++ r.content),
        bytes-append more (value ++ r.content) each (bytes-append value r.content fine r.each),
        omega (arith, length-append more (value ++ r.content)),
        ap suc many,
        (bytes ++ more, value, r.content, sym (append_assoc bytes more (value ++ r.content)), key, is, refl, r.are),
      )

  key_other : EndsIn bytes → ((number : ℕ) → number < 0x80 → CanBecome bytes number → ⊥) → IsBegunMap fields (BecomesContent (suc n) bytes) [] None n
  key_other ends none = record {
    reaches = λ pairs becomes.
        let k = in_key_of pairs ends becomes in (
          [],
          k.others,
          subst (λ (l : List Pair). SamePairs l k.others) (sym k.parts)
              (skipped (record { key = unsigned_in (bytes ++ k.more); value = k.first }) k.others (high k.more k.each k.some k.value)),
          refl,
          k.valued,
          inl (omega (arith, k.many)),
        );
    goes_on = ([], refl);
    allows = λ first last cut written many. (
      record { key = unsigned_in (bytes ++ ends.missing); value = 0xc0 ∷ [] } ∷ last,
      becomes_so ends.missing (0xc0 ∷ []) last ends.each ends.some ends.value (one_byte 0xc0 (omega arith)) (grammar.Nil, refl) many written,
      subst (λ (l : List Pair). SamePairs (record { key = unsigned_in (bytes ++ ends.missing); value = 0xc0 ∷ [] } ∷ last) (l ++ last)) (sym cut)
          (skipped (record { key = unsigned_in (bytes ++ ends.missing); value = 0xc0 ∷ [] }) last (high ends.missing ends.each ends.some ends.value)),
    );
  }
    where
      high : (more : List ℕ) → AreBytes more → 1 ≤ length more → IsValueSpelling 63 (bytes ++ more) → (number : ℕ) → unsigned_in (bytes ++ more) ≡ Some number → 0x80 ≤ number
      high more each some (value, s) number e = by_low (nat_lt number 0x80) refl
        where
          by_low : (b : Bool) → nat_lt number 0x80 ≡ b → 0x80 ≤ number
          by_low true t = absurd (none number (ltb-true number 0x80 t) (more, each, some, alone_spelled value (bytes ++ more) number s e))
          by_low false t = ltb-false number 0x80 t

  -- the first pair's key is spelled from the bytes on
  first_spelled : ((number : ℕ) → number < 0x80 → CanBecome bytes number) → OtherKey bytes → (last : List Pair) → AreWritten last → length last ≡ suc n
      → (pairs : List Pair) × BecomesContent (suc n) bytes pairs × SamePairs pairs last
  first_spelled each other [] written many = absurd (omega (arith, many))
  first_spelled each (missing, are, some, key, high) (pair ∷ last) (low, fine, value, written) many = by_key pair.key refl low
    where
      rest_many : length last ≡ n
      rest_many = omega (arith, many)

      by_key : (has : Option ℕ) → pair.key ≡ has → IfSome has (λ number. number < 0x80) → (pairs : List Pair) × BecomesContent (suc n) bytes pairs × SamePairs pairs (pair ∷ last)
      by_key None e low = (
        record { key = unsigned_in (bytes ++ missing); value = pair.value } ∷ last,
        becomes_so missing pair.value last are some key fine value rest_many written,
        λ k below. skipped (record { key = unsigned_in (bytes ++ missing); value = pair.value }) last high k below
            ∙ sym (skipped pair last (λ number f. absurd (none_some number (sym e ∙ f))) k below),
      )
        where
          none_some : (number : ℕ) → ◌≡◌ {A = Option ℕ} None (Some number) → ⊥
          none_some number f = cc
      by_key (Some number) e low =
          let (more, lasts, long, s) = each number low in
          let read = alone_read number (bytes ++ more) s in (
            record { key = unsigned_in (bytes ++ more); value = pair.value } ∷ last,
            becomes_so more pair.value last lasts long (grammar.Int (pos number), s) fine value rest_many written,
            λ k below. ap (λ (o : Option ℕ). value_under k (record { key = o; value = pair.value } ∷ last)) (read ∙ sym e),
          )

  key_any : AreBytes bytes → EndsIn bytes → (number : ℕ) → number < 0x80 → CanBecome bytes number → IsBegunMap fields (BecomesContent (suc n) bytes) [] None (suc n)
  key_any fine ends number low can =
      let k = any_key bytes number fine low can in
      record {
        reaches = λ pairs becomes.
            let p = in_key_of pairs ends becomes in (
              [],
              pairs,
              (λ key below. refl),
              refl,
              subst AreValued (sym p.parts) (p.first_bytes, p.first_value, p.valued),
              inl (omega (arith, ap length p.parts, p.many)),
            );
        goes_on = ([], refl);
        allows = λ first last cut written many.
            let f = first_spelled k.0 k.1 last written many in
            (f.0, f.1, subst (λ (l : List Pair). SamePairs f.0 (l ++ last)) (sym cut) f.2);
      }

  -- ---- the key is whole

  module _ (front begun : List ℕ) (parts : bytes ≡ front ++ begun) (key_value : IsValueSpelling 63 front) (ends : EndsIn begun) where
    record InValueOf (pairs : List Pair) : Type 0 where
      more : List ℕ
      each : AreBytes more
      some : 1 ≤ length more
      value : IsValueSpelling 63 (begun ++ more)
      others : List Pair
      pairs_are : pairs ≡ record { key = unsigned_in front; value = begun ++ more } ∷ others
      many : length others ≡ n
      valued : AreValued others

    in_value_of : (pairs : List Pair) → BecomesContent (suc n) bytes pairs → InValueOf pairs
    in_value_of [] (missing, are, some, many, content) = absurd (omega (arith, many))
    in_value_of (pair ∷ others) (missing, are, some, many, (key, value, rest, e, k, v, is, each)) =
        let whole : front ++ (begun ++ missing) ≡ key ++ (value ++ rest) = sym (ap (λ (l : List ℕ). l ++ missing) parts ∙ append_assoc front begun missing) ∙ e in
        let keys = one_first front key (begun ++ missing) (value ++ rest) key_value k whole in
        let (more, is_value, long, behind) = ends.only missing value rest are keys.1 v in
        record {
          more = more;
          each = front_of missing more rest behind are;
          some = long;
          value = subst (IsValueSpelling 63) is_value v;
          others = others;
          pairs_are = ap (λ (p : Pair). p ∷ others) (is ∙ (λ i. record { key = unsigned_in (sym keys.0 i); value = is_value i }));
          many = omega (arith, many);
          valued = content_valued others rest (rest_of missing more rest behind are) each;
        }

    value_so : (more : List ℕ) (others : List Pair) → AreBytes more → 1 ≤ length more → IsValueSpelling 63 (begun ++ more) → length others ≡ n → AreWritten others
        → BecomesContent (suc n) bytes (record { key = unsigned_in front; value = begun ++ more } ∷ others)
    value_so more others each some value many written =
        let r = realised others written in (
          more ++ r.content,
          bytes-append more r.content each r.each,
          omega (arith, length-append more r.content),
          ap suc many,
          (
            front,
            begun ++ more,
            r.content,
            ap (λ (l : List ℕ). l ++ (more ++ r.content)) parts ∙ append_assoc front begun (more ++ r.content) ∙ ap (λ (l : List ℕ). front ++ l) (sym (append_assoc begun more r.content)),
            key_value,
            value,
            refl,
            r.are,
          ),
        )

    in_value : (key : Option ℕ) → key ≡ unsigned_in front → IsBegunMap fields (BecomesContent (suc n) bytes) [] (option_map (λ (k : ℕ). (k, begun)) key) n
    in_value None is = record {
      reaches = λ pairs becomes.
          let v = in_value_of pairs becomes in (
            [],
            v.others,
            subst (λ (l : List Pair). SamePairs l v.others) (sym v.pairs_are) (skipped (record { key = unsigned_in front; value = begun ++ v.more }) v.others none),
            refl,
            v.valued,
            inl (omega (arith, v.many)),
          );
      goes_on = ([], refl);
      allows = λ first last cut written many. (
        record { key = unsigned_in front; value = begun ++ ends.missing } ∷ last,
        value_so ends.missing last ends.each ends.some ends.value many written,
        subst (λ (l : List Pair). SamePairs (record { key = unsigned_in front; value = begun ++ ends.missing } ∷ last) (l ++ last)) (sym cut)
            (skipped (record { key = unsigned_in front; value = begun ++ ends.missing }) last none),
      );
    }
      where
        none : (number : ℕ) → unsigned_in front ≡ Some number → 0x80 ≤ number
        none number e = absurd (none_some (is ∙ e))
          where
            none_some : ◌≡◌ {A = Option ℕ} None (Some number) → ⊥
            none_some f = cc
    in_value (Some key) is = record {
      reaches = λ pairs becomes.
          let v = in_value_of pairs becomes in (
            record { key = Some key; value = begun ++ v.more } ∷ [],
            v.others,
            (λ k low. ap (value_under k) (v.pairs_are ∙ (λ i. record { key = sym is i; value = begun ++ v.more } ∷ v.others))),
            (v.more, v.each, v.some, v.value, refl),
            v.valued,
            inl (omega (arith, v.many)),
          );
      goes_on = (record { key = Some key; value = begun ++ ends.missing } ∷ [], (ends.missing, ends.each, ends.some, ends.value, refl));
      allows = λ first last (more, each, some, value, cut) written many. (
        record { key = unsigned_in front; value = begun ++ more } ∷ last,
        value_so more last each some value many written,
        λ k low. ap (value_under k) ((λ i. record { key = sym is i; value = begun ++ more } ∷ last) ∙ ap (λ (l : List Pair). l ++ last) (sym cut)),
      );
    }

  never_so : ((missing key value rest : List ℕ) → AreBytes missing → bytes ++ missing ≡ key ++ (value ++ rest) → IsValueSpelling 63 key → IsValueSpelling 63 value → ⊥)
      → (pairs : List Pair) → BecomesContent (suc n) bytes pairs → ⊥
  never_so never [] (missing, are, some, many, content) = omega (arith, many)
  never_so never (pair ∷ others) (missing, are, some, many, (key, value, rest, e, k, v, is, each)) = never missing key value rest are e k v

-- ---- after pairs that stand whole

pub passed_one : (bytes : List ℕ) (passed : ℕ) (rest key value others : List ℕ) → IsPassed bytes passed rest → rest ≡ key ++ (value ++ others) → IsValueSpelling 63 key → IsValueSpelling 63 value
    → IsPassed bytes (passed + 1) others
passed_one bytes passed rest key value others p e k v =
    let pair : Pair = record { key = unsigned_in key; value = value } in
    let one : AreContent (pair ∷ []) (key ++ value) = (key, value, [], ap (λ (l : List ℕ). key ++ l) (sym (append-nil value)), k, v, refl, refl) in
    record {
      stands = p.stands ++ pair ∷ [];
      front = p.front ++ (key ++ value);
      parts = p.parts ∙ ap (λ (l : List ℕ). p.front ++ l) (e ∙ sym (append_assoc key value others)) ∙ sym (append_assoc p.front (key ++ value) others);
      content = content-append p.stands (pair ∷ []) p.front (key ++ value) p.content one;
      many = length-append p.stands (pair ∷ []) ∙ ap (λ (n : ℕ). n + 1) p.many;
    }

module _ (bytes : List ℕ) (passed : ℕ) (rest : List ℕ) (p : IsPassed bytes passed rest) (left count : ℕ) (all : passed + left ≡ count) where
  -- the pairs after them
  behind : (pairs : List Pair) → BecomesContent count bytes pairs → (others : List Pair) × (pairs ≡ p.stands ++ others) × BecomesContent left rest others
  behind pairs (missing, are, some, many, content) =
      let whole : AreContent pairs (p.front ++ (rest ++ missing)) = subst (AreContent pairs) (ap (λ (l : List ℕ). l ++ missing) p.parts ∙ append_assoc p.front rest missing) content in
      let g = goes_on p.stands pairs p.front (rest ++ missing) p.content whole (omega (arith, p.many, many, all)) in
      let l = ap length g.are ∙ length-append p.stands g.others in
      (g.others, g.are, (missing, are, some, omega (arith, p.many, many, all, l), g.content))

  before : (others : List Pair) → BecomesContent left rest others → BecomesContent count bytes (p.stands ++ others)
  before others (missing, are, some, many, content) = (
    missing,
    are,
    some,
    length-append p.stands others ∙ omega (arith, p.many, many, all),
    subst (AreContent (p.stands ++ others)) (sym (ap (λ (l : List ℕ). l ++ missing) p.parts ∙ append_assoc p.front rest missing))
        (content-append p.stands others p.front (rest ++ missing) p.content content),
  )

  pub none_behind : ((pairs : List Pair) → BecomesContent left rest pairs → ⊥) → (pairs : List Pair) → BecomesContent count bytes pairs → ⊥
  none_behind none pairs becomes = let b = behind pairs becomes in none b.0 b.2

  stands_are : pairs_from passed bytes ≡ p.stands
  stands_are = (λ i. pairs_from (sym p.many i) (p.parts i)) ∙ content_read p.stands p.front rest p.content

  same_behind : (one other : List Pair) → SamePairs one other → SamePairs (p.stands ++ one) (p.stands ++ other)
  same_behind one other same key low =
      under_append key p.stands one ∙ ap (λ (o : Option (List ℕ)). option_or o (value_under key p.stands)) (same key low) ∙ sym (under_append key p.stands other)

  begun_behind : (fields : ℕ) (cut : Option (ℕ × List ℕ)) (free : ℕ) → IsBegunMap fields (BecomesContent left rest) [] cut free
      → IsBegunMap fields (BecomesContent count bytes) (pairs_from passed bytes) cut free
  begun_behind fields cut free begun = subst (λ (l : List Pair). IsBegunMap fields (BecomesContent count bytes) l cut free) (sym stands_are) (record {
    reaches = λ pairs becomes.
        let (others, are, inside) = behind pairs becomes in
        let (first, last, same, is_cut, valued, few) = begun.reaches others inside in (
          first,
          last,
          (λ key low. ap (value_under key) are ∙ same_behind others (first ++ last) same key low ∙ ap (value_under key) (sym (append_assoc p.stands first last))),
          is_cut,
          valued,
          few,
        );
    goes_on = begun.goes_on;
    allows = λ first last is_cut written many.
        let (others, inside, same) = begun.allows first last is_cut written many in (
          p.stands ++ others,
          before others inside,
          λ key low. same_behind others (first ++ last) same key low ∙ ap (value_under key) (sym (append_assoc p.stands first last)),
        );
  })

-- no more pairs
pub all_passed : (rest : List ℕ) (pairs : List Pair) → BecomesContent 0 rest pairs → ⊥
all_passed rest [] (missing, are, some, many, e) = omega (arith, some, length-append rest missing, ap length e)
all_passed rest (pair ∷ others) (missing, are, some, many, content) = omega (arith, many)

-- ---- what stands where a pair begins

pub small_key : (bytes : List ℕ) (range : NumberRange) → IsRange bytes (Some range)
    → MatchBool (nat_lt range.least 0x80) ((number : ℕ) × (number < 0x80) × CanBecome bytes number) ((number : ℕ) → number < 0x80 → CanBecome bytes number → ⊥)
small_key bytes range (order, each) = by_test (nat_lt range.least 0x80) refl
  where
    by_test : (b : Bool) → nat_lt range.least 0x80 ≡ b → MatchBool b ((number : ℕ) × (number < 0x80) × CanBecome bytes number) ((number : ℕ) → number < 0x80 → CanBecome bytes number → ⊥)
    by_test true t = (range.least, ltb-true range.least 0x80 t, (each range.least).1 (omega arith, order))
    by_test false t = λ number low can.
        let high = ltb-false range.least 0x80 t in
        let from = ((each number).0 can).0 in
        omega (arith, low, high, from)

-- no key, and no value after one
pub key_never : (bytes : List ℕ) → Completes (IsValueSpelling 63) bytes Impossible → (missing key value rest : List ℕ) → AreBytes missing → bytes ++ missing ≡ key ++ (value ++ rest)
    → IsValueSpelling 63 key → IsValueSpelling 63 value → ⊥
key_never bytes c missing key value rest are e k v = c.allows missing key (value ++ rest) are e k

module _ (front behind : List ℕ) (key_value : IsValueSpelling 63 front) where
  pub value_never : Completes (IsValueSpelling 63) behind Impossible → (bytes : List ℕ) → bytes ≡ front ++ behind → (missing key value rest : List ℕ) → AreBytes missing
      → bytes ++ missing ≡ key ++ (value ++ rest) → IsValueSpelling 63 key → IsValueSpelling 63 value → ⊥
  value_never c bytes parts missing key value rest are e k v =
      let whole : front ++ (behind ++ missing) ≡ key ++ (value ++ rest) = sym (ap (λ (l : List ℕ). l ++ missing) parts ∙ append_assoc front behind missing) ∙ e in
      let keys = one_first front key (behind ++ missing) (value ++ rest) key_value k whole in
      c.allows missing value rest are keys.1 v

  pub value_whole : (size : ℕ) (rest : List ℕ) → Completes (IsValueSpelling 63) behind (Whole size) → rest ≡ drop size behind → (bytes : List ℕ) → bytes ≡ front ++ behind
      → (key value : List ℕ) × (bytes ≡ key ++ (value ++ rest)) × IsValueSpelling 63 key × IsValueSpelling 63 value
  value_whole size rest c is bytes parts =
      (front, take size behind, parts ∙ ap (λ (l : List ℕ). front ++ l) (sym (take-append-drop size behind) ∙ ap (λ (l : List ℕ). take size behind ++ l) (sym is)), key_value, c.stands.1)

  pub value_cut : (least : ℕ) (key : Option ℕ) → Completes (IsValueSpelling 63) behind (Missing least) → key ≡ unsigned_in front → (bytes : List ℕ) → bytes ≡ front ++ behind
      → (start : List ℕ) × (bytes ≡ start ++ behind) × IsValueSpelling 63 start × (key ≡ unsigned_in start) × EndsIn behind
  value_cut least key c is bytes parts = (front, parts, key_value, is, ends_in behind least c)

-- ---- the first pair that isn't whole

module _ (bytes : List ℕ) (count passed : ℕ) (rest : List ℕ) (p : IsPassed bytes passed rest) (more : passed < count) where
  others_left : passed + suc (count - passed - 1) ≡ count
  others_left = omega (arith, more)

  pub key_here : (any : Bool) (free : ℕ) → AreBytes bytes
      → EndsIn rest × MatchBool any ((number : ℕ) × (number < 0x80) × CanBecome rest number) ((number : ℕ) → number < 0x80 → CanBecome rest number → ⊥)
      → free ≡ (if any then count - passed else count - passed - 1)
      → (fields : ℕ) → IsBegunMap fields (BecomesContent count bytes) (pairs_from passed bytes) None free
  key_here true free each (ends, (number, low, can)) is = λ fields.
      let all : suc (count - passed - 1) ≡ free = omega (arith, more, is) in
      subst (λ (n : ℕ). IsBegunMap fields (BecomesContent count bytes) (pairs_from passed bytes) None n) all
      (begun_behind bytes passed rest p (suc (count - passed - 1)) count others_left fields None (suc (count - passed - 1))
      (key_any fields (count - passed - 1) rest (rest_of bytes p.front rest p.parts each) ends number low can))
  key_here false free each (ends, none) is = λ fields.
      subst (λ (n : ℕ). IsBegunMap fields (BecomesContent count bytes) (pairs_from passed bytes) None n) (sym is)
      (begun_behind bytes passed rest p (suc (count - passed - 1)) count others_left fields None (count - passed - 1) (key_other fields (count - passed - 1) rest ends none))

  pub value_here : (key : Option ℕ) (begun : List ℕ) (cut : Cut) → (front : List ℕ) × (rest ≡ front ++ begun) × IsValueSpelling 63 front × (key ≡ unsigned_in front) × EndsIn begun
      → cut ≡ cut_under begun key → (fields : ℕ) → IsBegunMap fields (BecomesContent count bytes) (pairs_from passed bytes) cut (count - passed - 1)
  value_here key begun cut (front, parts, value, is, ends) same = λ fields.
      rw same
      (begun_behind bytes passed rest p (suc (count - passed - 1)) count others_left fields (cut_under begun key) (count - passed - 1)
      (in_value fields (count - passed - 1) rest front begun parts value ends key is))

  pub never_here : ((missing key value behind : List ℕ) → AreBytes missing → rest ++ missing ≡ key ++ (value ++ behind) → IsValueSpelling 63 key → IsValueSpelling 63 value → ⊥)
      → (pairs : List Pair) → BecomesContent count bytes pairs → ⊥
  never_here never = none_behind bytes passed rest p (suc (count - passed - 1)) count others_left (never_so 0 (count - passed - 1) rest never)

pub none_left : (bytes : List ℕ) (count passed : ℕ) (rest : List ℕ) → IsPassed bytes passed rest → passed ≡ count → (pairs : List Pair) → BecomesContent count bytes pairs → ⊥
none_left bytes count passed rest p all = none_behind bytes passed rest p 0 count (omega (arith, all)) (all_passed rest)
