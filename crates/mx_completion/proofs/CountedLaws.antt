-- Completions of a head and of what is counted behind it.
use Rattle.std.proofs.Common.{◌≡◌, ℕ, ◌+◌, ◌<◌, ◌≤◌, List, [], ◌++◌, length, drop, None, sym, ap, ◌∙◌, subst, append_assoc, arith}
use Rattle.std.proofs.lemmas.List.{length-append}
use Rattle.mx_msgpack.specs.Spelling.{AreBytes}
use Rattle.mx_msgpack.proofs.ShortestLaws.{front-bytes}
use Rattle.mx_completion.specs.declared.completion.Completion.{Completion}
use Rattle.mx_completion.specs.declared.completion.Completion.TheVariants.{Whole, Missing, Impossible}
use Rattle.mx_completion.specs.declared.leading.Kind.{Kind}
use Rattle.mx_completion.specs.Completions.{Completes, IsReached}
use Rattle.mx_completion.specs.HeadForms.{IsCountHead, IsFullHead, IsCutHead, Announces}
use Rattle.mx_completion.specs.OperationForms.{Counted}
use Rattle.mx_completion.specs.Sequences.{InTurn, longer}
use Rattle.mx_completion.proofs.SequenceLaws.{HasLeast, completes_here, completes_none, whole_first}
use Rattle.mx_completion.proofs.ByteLaws.{bytes-append, behind_bytes}

-- ---- no bytes

-- the shortest spellings complete no bytes
pub nothing_yet : (Is : List ℕ → Type 0) (least : ℕ) → 1 ≤ least → HasLeast Is least → Completes Is [] (Missing least)
nothing_yet Is least some has = record {
  stands = (some, has.shortest, has.bytes, has.size, has.spelled);
  allows = λ missing spelling rest each e s. let bound = has.bound spelling (front-bytes spelling rest (subst AreBytes e each)) s in omega arith;
}

-- ---- a head, and what is counted

module _ (kind : Kind) (Inside : ℕ → List ℕ → Type 0) (bytes : List ℕ) where
  pub counted_none : Announces kind bytes None → Completes (Counted kind Inside) bytes Impossible
  counted_none none = record { stands = tt; allows = allows }
    where
      allows : (missing spelling rest : List ℕ) → AreBytes missing → bytes ++ missing ≡ spelling ++ rest → Counted kind Inside spelling → ⊥
      allows missing spelling rest each e (count, head, back, parts, h, inside) =
          none missing head (back ++ rest) count (e ∙ ap (λ (l : List ℕ). l ++ rest) parts ∙ append_assoc head back rest) h

  -- the head stands in the bytes
  module _ (count size : ℕ) (full : IsFullHead kind bytes count size) where
    pub counted_full : (next : Completion) → Completes (Inside count) (drop size bytes) next → Completes (Counted kind Inside) bytes (longer size next)
    counted_full next b =
        completes_here (InTurn (IsCountHead kind count) (Inside count)) (Counted kind Inside) bytes (longer size next) (λ l (front, back, parts, h, inside). (count, front, back, parts, h, inside)) from
        (whole_first (IsCountHead kind count) (Inside count) bytes size head next b)
      where
        head : Completes (IsCountHead kind count) bytes (Whole size)
        head = record { stands = (full.within, full.spelled); allows = λ missing spelling rest each e h. (full.only missing spelling rest count e h).0 }

        from : (missing spelling rest : List ℕ) → bytes ++ missing ≡ spelling ++ rest → Counted kind Inside spelling → InTurn (IsCountHead kind count) (Inside count) spelling
        from missing spelling rest e (other, front, back, parts, h, inside) =
            let whole : bytes ++ missing ≡ front ++ (back ++ rest) = e ∙ ap (λ (l : List ℕ). l ++ rest) parts ∙ append_assoc front back rest in
            let (first, same) = full.only missing front (back ++ rest) other whole h in
            (front, back, parts, subst (λ (n : ℕ). IsCountHead kind n front) same h, subst (λ (n : ℕ). Inside n back) same inside)

    pub counted_full_none : ((rest : List ℕ) → Inside count rest → ⊥) → Completes (Counted kind Inside) bytes Impossible
    counted_full_none none = counted_full Impossible (completes_none (Inside count) (drop size bytes) none)

  -- the bytes end before the head does
  module _ (count missing : ℕ) (cut : IsCutHead kind bytes count missing) where
    pub counted_cut : (least more : ℕ) → more < 16 → (shortest : List ℕ) → AreBytes shortest → length shortest ≡ least → Inside (count + more) shortest
        → ((other : ℕ) (rest : List ℕ) → AreBytes rest → count ≤ other → Inside other rest → least ≤ length rest) → Completes (Counted kind Inside) bytes (Missing (missing + least))
    counted_cut least more low shortest bytes-each size inside bound = record { stands = stands (cut.reaches more low); allows = allows }
      where
        stands : (digits : List ℕ) × AreBytes digits × (length digits ≡ missing) × IsCountHead kind (count + more) (bytes ++ digits) → IsReached (Counted kind Inside) bytes (Missing (missing + least))
        stands (digits, each, many, h) =
            let some = cut.some in (
              omega arith,
              digits ++ shortest,
              bytes-append digits shortest each bytes-each,
              omega (arith, length-append digits shortest),
              (count + more, bytes ++ digits, shortest, sym (append_assoc bytes digits shortest), h, inside),
            )

        allows : (others spelling rest : List ℕ) → AreBytes others → bytes ++ others ≡ spelling ++ rest → Counted kind Inside spelling → length bytes + (missing + least) ≤ length spelling
        allows others spelling rest each e (other, front, back, parts, h, held) =
            let whole : bytes ++ others ≡ front ++ (back ++ rest) = e ∙ ap (λ (l : List ℕ). l ++ rest) parts ∙ append_assoc front back rest in
            let (digits, is, first, high) = cut.only others front (back ++ rest) other each whole h in
            let second : least ≤ length back = bound other back (behind_bytes bytes others front back rest whole (omega arith) each) high held in
            omega (arith, ap length parts, length-append front back)

    pub counted_cut_none : ((other : ℕ) (rest : List ℕ) → count ≤ other → Inside other rest → ⊥) → Completes (Counted kind Inside) bytes Impossible
    counted_cut_none none = record { stands = tt; allows = allows }
      where
        allows : (others spelling rest : List ℕ) → AreBytes others → bytes ++ others ≡ spelling ++ rest → Counted kind Inside spelling → ⊥
        allows others spelling rest each e (other, front, back, parts, h, held) =
            let whole : bytes ++ others ≡ front ++ (back ++ rest) = e ∙ ap (λ (l : List ℕ). l ++ rest) parts ∙ append_assoc front back rest in
            let (digits, is, first, high) = cut.only others front (back ++ rest) other each whole h in
            none other back high held
