-- Completions of spellings that stand one after the other, by the completions of each.
use Rattle.std.proofs.Common.{◌≡◌, ℕ, zero, suc, ◌+◌, ◌≤◌, List, [], ◌∷◌, ◌++◌, length, take, drop, refl, sym, ap, ◌∙◌, subst, append_assoc, arith}
use Rattle.std.proofs.lemmas.List.{append-nil, drop_at, drop-append-le, length-append, length-drop, length-take, take-append-drop}
use Rattle.std.proofs.Math.Seq.{take-add}
use Rattle.std.proofs.Math.Numerals.{one-add}
use Rattle.mx_msgpack.specs.Spelling.{AreBytes}
use Rattle.mx_msgpack.proofs.ShortestLaws.{front_of, rest_of}
use Rattle.mx_completion.specs.declared.completion.Completion.{Completion}
use Rattle.mx_completion.specs.declared.completion.Completion.TheVariants.{Whole, Missing, Impossible}
use Rattle.mx_completion.specs.Completions.{Completes, IsReached, Allows}
use Rattle.mx_completion.specs.Sequences.{InTurn, InRow, longer, in_turn, in_row}
use Rattle.mx_completion.proofs.ByteLaws.{bytes-append, behind_bytes}

-- ---- the same spellings

-- where each spelling of the one form is of the other too, and back where these bytes begin it
pub completes_here : (Is Other : List ℕ → Type 0) (bytes : List ℕ) (completion : Completion) → ((l : List ℕ) → Is l → Other l)
    → ((missing spelling rest : List ℕ) → bytes ++ missing ≡ spelling ++ rest → Other spelling → Is spelling) → Completes Is bytes completion → Completes Other bytes completion
completes_here Is Other bytes completion to from c =
    record { stands = stands completion c.stands; allows = λ missing spelling rest each e s. c.allows missing spelling rest each e (from missing spelling rest e s) }
  where
    stands : (completion : Completion) → IsReached Is bytes completion → IsReached Other bytes completion
    stands (Whole size) (few, s) = (few, to (take size bytes) s)
    stands (Missing least) (some, missing, each, many, s) = (some, missing, each, many, to (bytes ++ missing) s)
    stands Impossible s = tt

pub completes_same : (Is Other : List ℕ → Type 0) (bytes : List ℕ) (completion : Completion) → ((l : List ℕ) → Is l → Other l) → ((l : List ℕ) → Other l → Is l)
    → Completes Is bytes completion → Completes Other bytes completion
completes_same Is Other bytes completion to from c = completes_here Is Other bytes completion to (λ missing spelling rest e s. from spelling s) c

-- where there is none at all
pub completes_none : (Is : List ℕ → Type 0) (bytes : List ℕ) → ((l : List ℕ) → Is l → ⊥) → Completes Is bytes Impossible
completes_none Is bytes none = record { stands = tt; allows = λ missing spelling rest each e s. none spelling s }

-- ---- how many bytes it takes at least

-- the shortest spellings have this many bytes
pub record HasLeast (Is : List ℕ → Type 0) (least : ℕ) : Type 0 where
  pub shortest : List ℕ
  pub bytes : AreBytes shortest
  pub size : length shortest ≡ least
  pub spelled : Is shortest
  pub bound : (spelling : List ℕ) → AreBytes spelling → Is spelling → least ≤ length spelling

pub least_from_empty : (Is : List ℕ → Type 0) (least : ℕ) → Completes Is [] (Missing least) → HasLeast Is least
least_from_empty Is least c = record {
  shortest = c.stands.1;
  bytes = c.stands.2;
  size = c.stands.3;
  spelled = c.stands.4;
  bound = λ spelling each s. omega (arith, c.allows spelling spelling [] each (sym (append-nil spelling)) s);
}

-- ---- one spelling, and then another

module _ (Is Next : List ℕ → Type 0) where
  pub least_in_turn : (one other : ℕ) → HasLeast Is one → HasLeast Next other → HasLeast (InTurn Is Next) (one + other)
  least_in_turn one other a b = record {
    shortest = a.shortest ++ b.shortest;
    bytes = bytes-append a.shortest b.shortest a.bytes b.bytes;
    size = omega (arith, length-append a.shortest b.shortest, a.size, b.size);
    spelled = (a.shortest, b.shortest, refl, a.spelled, b.spelled);
    bound = λ spelling each s. within spelling each s;
  }
    where
      within : (spelling : List ℕ) → AreBytes spelling → InTurn Is Next spelling → one + other ≤ length spelling
      within spelling each (front, rest, e, s, t) =
          let first = a.bound front (front_of spelling front rest e each) s in
          let second = b.bound rest (rest_of spelling front rest e each) t in
          omega (arith, ap length e, length-append front rest)

  -- where the first stands in these bytes
  module _ (bytes : List ℕ) (size : ℕ) (a : Completes Is bytes (Whole size)) where
    few : size ≤ length bytes
    few = a.stands.0

    turn_stands : (next : Completion) → IsReached Next (drop size bytes) next → IsReached (InTurn Is Next) bytes (longer size next)
    turn_stands (Whole more) (fits, t) = (omega (arith, length-drop size bytes, few), (take size bytes, take more (drop size bytes), take-add size more bytes, a.stands.1, t))
    turn_stands (Missing least) (some, missing, each, many, t) =
        let parts : bytes ++ missing ≡ take size bytes ++ (drop size bytes ++ missing) =
        ap (λ (l : List ℕ). l ++ missing) (sym (take-append-drop size bytes)) ∙ append_assoc (take size bytes) (drop size bytes) missing in
        (some, missing, each, many, (take size bytes, drop size bytes ++ missing, parts, a.stands.1, t))
    turn_stands Impossible t = tt

    turn_allows : (next : Completion) (front back : List ℕ) → front ≡ take size bytes → Allows (drop size bytes) next back → Allows bytes (longer size next) (front ++ back)
    turn_allows (Whole more) front back e f = (λ i. e i ++ f i) ∙ sym (take-add size more bytes)
    turn_allows (Missing least) front back e f = omega (arith, ap length e, length-append front back, length-take size bytes, length-drop size bytes, few, f)
    turn_allows Impossible front back e f = f

    pub whole_first : (next : Completion) → Completes Next (drop size bytes) next → Completes (InTurn Is Next) bytes (longer size next)
    whole_first next b = record { stands = turn_stands next b.stands; allows = allows }
      where
        allows : (missing spelling rest : List ℕ) → AreBytes missing → bytes ++ missing ≡ spelling ++ rest → InTurn Is Next spelling → Allows bytes (longer size next) spelling
        allows missing spelling rest each e (front, back, parts, s, t) =
            let whole : bytes ++ missing ≡ front ++ (back ++ rest) = e ∙ ap (λ (l : List ℕ). l ++ rest) parts ∙ append_assoc front back rest in
            let first : front ≡ take size bytes = a.allows missing front (back ++ rest) each whole s in
            let many : length front ≡ size = omega (arith, ap length first, length-take size bytes, few) in
            let behind : drop size bytes ++ missing ≡ back ++ rest =
            sym (drop-append-le size bytes missing few) ∙ ap (drop size) whole ∙ drop_at front (back ++ rest) size many in
            rw parts (turn_allows next front back first (b.allows missing back rest each behind t))

  -- where the bytes end inside the first
  pub missing_first : (bytes : List ℕ) (missing least : ℕ) → Completes Is bytes (Missing missing) → HasLeast Next least → Completes (InTurn Is Next) bytes (Missing (missing + least))
  missing_first bytes missing least a has = record { stands = stands a.stands; allows = allows }
    where
      stands : IsReached Is bytes (Missing missing) → IsReached (InTurn Is Next) bytes (Missing (missing + least))
      stands (some, more, each, many, s) = (
        omega arith,
        more ++ has.shortest,
        bytes-append more has.shortest each has.bytes,
        omega (arith, length-append more has.shortest, has.size),
        (bytes ++ more, has.shortest, sym (append_assoc bytes more has.shortest), s, has.spelled),
      )

      allows : (more spelling rest : List ℕ) → AreBytes more → bytes ++ more ≡ spelling ++ rest → InTurn Is Next spelling → length bytes + (missing + least) ≤ length spelling
      allows more spelling rest each e (front, back, parts, s, t) =
          let whole : bytes ++ more ≡ front ++ (back ++ rest) = e ∙ ap (λ (l : List ℕ). l ++ rest) parts ∙ append_assoc front back rest in
          let first : length bytes + missing ≤ length front = a.allows more front (back ++ rest) each whole s in
          let second : least ≤ length back = has.bound back (behind_bytes bytes more front back rest whole (omega arith) each) t in
          omega (arith, ap length parts, length-append front back)

  pub impossible_first : (bytes : List ℕ) → Completes Is bytes Impossible → Completes (InTurn Is Next) bytes Impossible
  impossible_first bytes a = record { stands = tt; allows = allows }
    where
      allows : (more spelling rest : List ℕ) → AreBytes more → bytes ++ more ≡ spelling ++ rest → InTurn Is Next spelling → ⊥
      allows more spelling rest each e (front, back, parts, s, t) =
          a.allows more front (back ++ rest) each (e ∙ ap (λ (l : List ℕ). l ++ rest) parts ∙ append_assoc front back rest) s

  completes_in_turn : (bytes : List ℕ) (least : ℕ) (next : ℕ → Completion) (first : Completion) → HasLeast Next least
      → ((size : ℕ) → size ≤ length bytes → Completes Next (drop size bytes) (next size)) → Completes Is bytes first → Completes (InTurn Is Next) bytes (in_turn least next first)
  completes_in_turn bytes least next (Whole size) has others a = whole_first bytes size a (next size) (others size a.stands.0)
  completes_in_turn bytes least next (Missing missing) has others a = missing_first bytes missing least a has
  completes_in_turn bytes least next Impossible has others a = impossible_first bytes a

-- ---- so many in a row

pub least_in_row : (Is : List ℕ → Type 0) (count : ℕ) → HasLeast Is 1 → HasLeast (InRow Is count) count
least_in_row Is zero has = record { shortest = []; bytes = λ i. omega arith; size = refl; spelled = refl; bound = λ spelling each s. omega arith }
least_in_row Is (suc count) has =
    let more : 1 + count ≡ suc count = omega arith in
    subst (HasLeast (InRow Is (suc count))) more (least_in_turn Is (InRow Is count) 1 count has (least_in_row Is count has))

empty_whole : (bytes : List ℕ) → Completes (λ l. l ≡ []) bytes (Whole 0)
empty_whole bytes = record { stands = (omega arith, refl); allows = λ missing spelling rest each e s. s }

pub completes_in_row : (Is : List ℕ → Type 0) (one : List ℕ → Completion) → HasLeast Is 1 → ((bytes : List ℕ) → Completes Is bytes (one bytes))
    → (count : ℕ) (bytes : List ℕ) → Completes (InRow Is count) bytes (in_row one count bytes)
completes_in_row Is one has each zero bytes = empty_whole bytes
completes_in_row Is one has each (suc count) bytes =
    completes_in_turn Is (InRow Is count) bytes count (λ size. in_row one count (drop size bytes)) (one bytes) (least_in_row Is count has)
    (λ size few. completes_in_row Is one has each count (drop size bytes)) (each bytes)

-- ---- a leading byte

-- where a form's spellings that begin with this byte are those of another form behind it
pub completes_behind : (Is Inside : List ℕ → Type 0) (leading : ℕ) (rest : List ℕ) (completion : Completion) → ((l : List ℕ) → Is (leading ∷ l) → Inside l)
    → ((l : List ℕ) → Inside l → Is (leading ∷ l)) → (Is [] → ⊥) → Completes Inside rest completion → Completes Is (leading ∷ rest) (longer 1 completion)
completes_behind Is Inside leading rest completion to from some c = record { stands = stands completion c.stands; allows = allows completion c.allows }
  where
    stands : (completion : Completion) → IsReached Inside rest completion → IsReached Is (leading ∷ rest) (longer 1 completion)
    stands (Whole size) (fits, s) = (omega arith, rw one-add (from (take size rest) s))
    stands (Missing least) (one, missing, each, many, s) = (one, missing, each, many, from (rest ++ missing) s)
    stands Impossible s = tt

    led : (completion : Completion) (spelling : List ℕ) → Allows rest completion spelling → Allows (leading ∷ rest) (longer 1 completion) (leading ∷ spelling)
    led (Whole size) spelling e = rw one-add (ap (λ (l : List ℕ). leading ∷ l) e)
    led (Missing least) spelling e = omega arith
    led Impossible spelling e = e

    allows : (completion : Completion) → ((missing spelling back : List ℕ) → AreBytes missing → rest ++ missing ≡ spelling ++ back → Inside spelling → Allows rest completion spelling)
        → (missing spelling back : List ℕ) → AreBytes missing → leading ∷ (rest ++ missing) ≡ spelling ++ back → Is spelling → Allows (leading ∷ rest) (longer 1 completion) spelling
    allows completion claim missing [] back each e s = absurd (some s)
    allows completion claim missing (byte ∷ spelling) back each e s =
        let same : byte ≡ leading = cc in
        let behind : rest ++ missing ≡ spelling ++ back = cc in
        rw same (led completion spelling (claim missing spelling back each behind (to spelling (rw (← same) s))))
