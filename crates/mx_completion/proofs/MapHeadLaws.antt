-- A map whose head stands in the bytes, or is cut.
use Rattle.std.proofs.Common.{◌≡◌, ℕ, ◌+◌, ◌-◌, ◌≤◌, ◌<◌, List, [], ◌∷◌, ◌++◌, length, take, drop, Option, Some, None, refl, sym, ap, ◌∙◌, subst, append_assoc, inl, inr, arith}
use Rattle.std.specs.Option.{option_map, option_or}
use Rattle.std.proofs.lemmas.List.{length-append, length-take, take-append-drop, drop_at, drop-append-le}
use Rattle.mx_msgpack.specs.Grammar.{MapHead, max_length}
use Rattle.mx_msgpack.specs.Maps.{Pair, map_at, pairs_from, pairs_in, value_under}
use Rattle.mx_msgpack.specs.Spelling.{AreBytes}
use Rattle.mx_msgpack.proofs.ShortestLaws.{rest_of}
use Rattle.mx_completion.specs.declared.leading.Kind.TheVariants.{Map}
use Rattle.mx_completion.specs.declared.pairs.Begun.{Begun}
use Rattle.mx_completion.specs.Choices.{AreContent, AreWritten, BecomesContent, BecomesMap, BeginsMapAs, Cut, IsBegunMap}
use Rattle.mx_completion.specs.HeadForms.{Announces, IsCutHead, IsFullHead}
use Rattle.mx_completion.proofs.LookupLaws.{nils, nils_many, nils_none, nils_written, under_append}
use Rattle.mx_completion.proofs.PairLaws.{content_valued, map_made, map_spelled}
use Rattle.mx_completion.proofs.ByteLaws.{bytes-append}
use Rattle.mx_completion.proofs.CutPairLaws.{realised}

-- ---- no head

pub no_map : (bytes : List ℕ) → Announces Map bytes None → (pairs : List Pair) → BecomesMap bytes pairs → ⊥
no_map bytes none pairs (missing, are, some, map, is) =
    let m = map_spelled (bytes ++ missing) map in
    none missing m.head m.content (length (pairs_in (bytes ++ missing))) m.parts m.headed

-- ---- a map whose head is whole

module _ (bytes : List ℕ) (count size : ℕ) (full : IsFullHead Map bytes count size) where
  abbrev content : List ℕ
  content = drop size bytes

  inside : (pairs : List Pair) → BecomesMap bytes pairs → (length pairs ≤ max_length) × BecomesContent count content pairs
  inside pairs (missing, are, some, map, is) =
      let m = map_spelled (bytes ++ missing) map in
      let (first, same) = full.only missing m.head m.content (length (pairs_in (bytes ++ missing))) m.parts m.headed in
      let few = full.within in
      let long : length m.head ≡ size = omega (arith, ap length first, length-take size bytes) in
      let behind : content ++ missing ≡ m.content = sym (drop-append-le size bytes missing few) ∙ ap (drop size) m.parts ∙ drop_at m.head m.content size long in (
        subst (λ (l : List Pair). length l ≤ max_length) is m.few,
        (
          missing,
          are,
          some,
          sym (ap (λ (l : List Pair). length l) is) ∙ same,
          subst (AreContent pairs) (sym behind) (subst (λ (l : List Pair). AreContent l m.content) is m.inside),
        ),
      )

  outside : count ≤ max_length → (pairs : List Pair) → BecomesContent count content pairs → BecomesMap bytes pairs
  outside few pairs (missing, are, some, many, each) =
      let made = map_made pairs (take size bytes) (content ++ missing) (subst (λ (n : ℕ). MapHead n (take size bytes)) (sym many) full.spelled)
      (subst (λ (n : ℕ). n ≤ max_length) (sym many) few) each in
      let whole : take size bytes ++ (content ++ missing) ≡ bytes ++ missing =
      sym (append_assoc (take size bytes) content missing) ∙ ap (λ (l : List ℕ). l ++ missing) (take-append-drop size bytes) in
      (missing, are, some, subst (λ (l : List ℕ). map_at l ≡ Some (l, [])) whole made.0, ap pairs_in (sym whole) ∙ made.1)

  pub too_many : max_length < count → (pairs : List Pair) → BecomesMap bytes pairs → ⊥
  too_many many pairs becomes =
      let (few, (missing, are, some, same, each)) = inside pairs becomes in
      omega (arith, many, few, same)

  none_inside : ((pairs : List Pair) → BecomesContent count content pairs → ⊥) → (pairs : List Pair) → BecomesMap bytes pairs → ⊥
  none_inside none pairs becomes = none pairs (inside pairs becomes).1

  begun_inside : count ≤ max_length → (fields : ℕ) (stands : List Pair) (cut : Cut) (free : ℕ) → IsBegunMap fields (BecomesContent count content) stands cut free
      → IsBegunMap fields (BecomesMap bytes) stands cut free
  begun_inside few fields stands cut free begun = record {
    reaches = λ pairs becomes. begun.reaches pairs (inside pairs becomes).1;
    goes_on = begun.goes_on;
    allows = λ first last is_cut written many.
        let (pairs, becomes, same) = begun.allows first last is_cut written many in
        (pairs, outside few pairs becomes, same);
  }

  pub begins_inside : count ≤ max_length → (fields : ℕ) (found : Option Begun) → BeginsMapAs fields (BecomesContent count content) found → BeginsMapAs fields (BecomesMap bytes) found
  begins_inside few fields None none = none_inside none
  begins_inside few fields (Some begun) is =
      begun_inside few fields (pairs_from begun.count begun.pairs.now) (option_map (λ cut. (cut.0, cut.1.now)) begun.cut) begun.free is

-- ---- a head that is cut

-- a head of eight pairs or more that begins with these bytes
record Headable (bytes : List ℕ) : Type 0 where
  more : List ℕ
  count : ℕ
  each : AreBytes more
  some : 1 ≤ length more
  headed : MapHead count (bytes ++ more)
  enough : 8 ≤ count
  few : count ≤ max_length

headable : (bytes : List ℕ) (count missing : ℕ) → IsCutHead Map bytes count missing → count ≤ max_length → Headable bytes
headable bytes count missing cut few = elim cut.high [
  | inl none ↦ reached 8 (omega arith) (omega arith) (omega arith)
  | inr many ↦ reached 0 (omega arith) (omega arith) (omega arith)
]
  where
    reached : (more : ℕ) → more < 16 → 8 ≤ count + more → count + more ≤ max_length → Headable bytes
    reached more low enough fits =
        let (digits, each, many, h) = cut.reaches more low in
        let some = cut.some in
        record { more = digits; count = count + more; each = each; some = omega arith; headed = h; enough = enough; few = fits }

-- all heads that begin so announce too many pairs
pub cut_too_many : (bytes : List ℕ) (count missing : ℕ) → IsCutHead Map bytes count missing → max_length < count → (pairs : List Pair) → BecomesMap bytes pairs → ⊥
cut_too_many bytes count missing cut many pairs (others, are, some, map, is) =
    let m = map_spelled (bytes ++ others) map in
    let few = m.few in
    let (digits, whole, long, high) = cut.only others m.head m.content (length (pairs_in (bytes ++ others))) are m.parts m.headed in
    omega arith

written-append : (one other : List Pair) → AreWritten one → AreWritten other → AreWritten (one ++ other)
written-append [] other w v = v
written-append (pair ∷ one) other (low, each, value, w) v = (low, each, value, written-append one other w v)

or_left : {X : Type 0} (o : Option X) → option_or None o ≡ o
or_left None = refl
or_left (Some x) = refl

-- inside its head a map can have as many pairs as there are fields
pub head_begun : (fields : ℕ) (bytes : List ℕ) (count missing : ℕ) → fields ≤ 8 → AreBytes bytes → IsCutHead Map bytes count missing → count ≤ max_length → IsBegunMap fields (BecomesMap bytes) [] None fields
head_begun fields bytes count missing small fine cut low = record {
  reaches = λ pairs (others, are, some, map, is).
      let m = map_spelled (bytes ++ others) map in
      let content = rest_of (bytes ++ others) m.head m.content m.parts (bytes-append bytes others fine are) in
      ([], pairs, (λ key low. refl), refl, content_valued pairs m.content content (subst (λ (l : List Pair). AreContent l m.content) is m.inside), inr (omega arith));
  goes_on = ([], refl);
  allows = λ first last is_cut written many.
      let h = headable bytes count missing cut low in
      let rest = nils (h.count - length last) in
      let list = last ++ rest in
      let enough = h.enough in
      let n = nils_many (h.count - length last) in
      let l : length list ≡ h.count = length-append last rest ∙ omega (arith, n, enough, many, small) in
      let r = realised list (written-append last rest written (nils_written (h.count - length last))) in
      let made = map_made list (bytes ++ h.more) r.content (subst (λ (k : ℕ). MapHead k (bytes ++ h.more)) (sym l) h.headed) (subst (λ (k : ℕ). k ≤ max_length) (sym l) h.few) r.are in
      let whole : (bytes ++ h.more) ++ r.content ≡ bytes ++ (h.more ++ r.content) = append_assoc bytes h.more r.content in
      let long = h.some in (
        list,
        (
          h.more ++ r.content,
          bytes-append h.more r.content h.each r.each,
          omega (arith, length-append h.more r.content, long),
          subst (λ (b : List ℕ). map_at b ≡ Some (b, [])) whole made.0,
          ap pairs_in (sym whole) ∙ made.1,
        ),
        λ key low.
            under_append key last rest ∙ ap (λ (o : Option (List ℕ)). option_or o (value_under key last)) (nils_none key (h.count - length last))
            ∙ or_left (value_under key last) ∙ ap (λ (f : List Pair). value_under key (f ++ last)) (sym is_cut),
      );
}
