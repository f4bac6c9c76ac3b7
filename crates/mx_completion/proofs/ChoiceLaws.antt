-- The least sum of the fields' costs is the least that they cost in a map that the bytes can become.
use Rattle.std.proofs.Common.{◌≡◌, ◌⊎◌, ℕ, zero, suc, ◌+◌, ◌<◌, ◌≤◌, Bool, true, false, List, [], ◌∷◌, ◌++◌, length, take, set, get_or, Option, Some, None, refl, sym, ap, ◌∙◌, subst, inl, inr, arith}
use Rattle.std.specs.Prelude.{⊤, nat_le, ◌==◌, MatchBool}
use Rattle.std.specs.List.{AllByRecursion}
use Rattle.std.specs.Option.{option_or}
use Rattle.std.proofs.lemmas.Bool.{le-leb, eq-eqb, eqb-true, ne_eqb, false≢true}
use Rattle.std.proofs.lemmas.List.{take_all, take_more, take_more_set}
use Rattle.mx_msgpack.specs.Maps.{Pair, is_key, pairs_in, value_under}
use Rattle.mx_msgpack.specs.Spelling.{AreBytes}
use Rattle.mx_msgpack.proofs.FrontLaws.{spelled_some}
use Rattle.mx_msgpack.proofs.Options.{allowed, bind_some, same_some}
use Rattle.mx_completion.specs.declared.field.Field.{Field}
use Rattle.mx_completion.specs.declared.sums.Choice.{Choice}
use Rattle.mx_completion.specs.Choices.{AreChoices, AreValued, AreWritten, BecomesMap, CostsAt, Cut, IsBegunMap, IsCut, IsChoice, SamePairs}
use Rattle.mx_completion.specs.Completions.{IsValueSpelling}
use Rattle.mx_completion.specs.Costs.{AreKeys, CostsOf, IsLeast, cost_of, total_cost}
use Rattle.mx_completion.specs.Sums.{least_sum, up_to}
use Rattle.mx_completion.proofs.LookupLaws.{nils, nils_many, nils_none, nils_written, or_none, under_append, under_valued, without, without_less, without_other, without_valued}
use Rattle.mx_completion.proofs.SumLaws.{AtMost, IsSum, SumsWithin, sum_found, sum_least}

-- ---- total costs

total_same : (fields : List Field) (one other : List Pair) → AreKeys fields → SamePairs one other → total_cost fields one ≡ total_cost fields other
total_same [] one other keys same = refl
total_same (field ∷ fields) one other (low, differ, keys) same = rw (same field.key low, total_same fields one other keys same) refl

-- the fields of other keys cost the same
total_others : (key : ℕ) (fields : List Field) (one other : List Pair) → AllByRecursion (λ (field : Field). field.key ≡ key → ⊥) fields
    → ((wanted : ℕ) → (wanted ≡ key → ⊥) → value_under wanted one ≡ value_under wanted other) → total_cost fields one ≡ total_cost fields other
total_others key [] one other differ same = refl
total_others key (field ∷ fields) one other (differs, differ) same = rw (same field.key differs, total_others key fields one other differ same) refl

record Costs (field : Field) (fields : List Field) (pairs : List Pair) (cost : ℕ) : Type 0 where
  here : ℕ
  rest : ℕ
  first : cost_of field.form (value_under field.key pairs) ≡ Some here
  others : total_cost fields pairs ≡ Some rest
  sum : here + rest ≡ cost

costs : (field : Field) (fields : List Field) (pairs : List Pair) (cost : ℕ) → total_cost (field ∷ fields) pairs ≡ Some cost → Costs field fields pairs cost
costs field fields pairs cost e =
    let a = bind_some (cost_of field.form (value_under field.key pairs)) _ cost e in
    let b = bind_some (total_cost fields pairs) (λ others. Some (a.0 + others)) cost a.2 in
    record { here = a.0; rest = b.0; first = a.1; others = b.1; sum = same_some (a.0 + b.0) cost b.2 }

-- ---- no map costs less

at_most : (Has : ℕ → Type 0) (least : Option ℕ) (cost : ℕ) → IsLeast Has least → Has cost → AtMost least cost
at_most Has None cost none has = none cost has
at_most Has (Some least) cost (one, all) has = all cost has

-- the costs of a choice are no more than those of its field
abbrev Bounds : (most : ℕ) → List Pair → Field → Choice → Type 0
Bounds most before field choice =
    ((cost : ℕ) → cost ≤ most → cost_of field.form (value_under field.key before) ≡ Some cost → AtMost choice.kept cost)
    × ((value : List ℕ) (cost : ℕ) → AreBytes value → IsValueSpelling 63 value → cost ≤ most → cost_of field.form (Some value) ≡ Some cost → AtMost choice.anew cost)

abbrev AllBound : (most : ℕ) → List Pair → List Field → List Choice → Type 0
AllBound most before [] [] = ⊤
AllBound most before (field ∷ fields) (choice ∷ choices) = Bounds most before field choice × AllBound most before fields choices
AllBound most before _ _ = ⊥

-- not more pairs than can be written, or as many as there are fields
abbrev Few : List Field → (free : ℕ) → List Pair → Type 0
Few fields free last = (length last ≤ free) ⊎ (length fields ≤ free)

few_others : (field : Field) (fields : List Field) (free : ℕ) (last : List Pair) → Few (field ∷ fields) free last → Few fields free last
few_others field fields free last (inl few) = inl few
few_others field fields free last (inr few) = inr (omega (arith, few))

few_left : (field : Field) (fields : List Field) (free : ℕ) (last rest : List Pair) → suc (length rest) ≤ length last → Few (field ∷ fields) free last
    → (used : ℕ) × (free ≡ suc used) × Few fields used rest
few_left field fields zero last rest less (inl few) = absurd (omega (arith, few, less))
few_left field fields zero last rest less (inr few) = absurd (omega (arith, few))
few_left field fields (suc used) last rest less (inl few) = (used, refl, inl (omega (arith, few, less)))
few_left field fields (suc used) last rest less (inr few) = (used, refl, inr (omega (arith, few)))

bounded : (most : ℕ) (fields : List Field) (choices : List Choice) (free cost : ℕ) (before last : List Pair) → AreKeys fields → AllBound most before fields choices → AreValued last
    → Few fields free last → total_cost fields (before ++ last) ≡ Some cost → cost ≤ most → SumsWithin choices free cost
bounded most [] [] free cost before last keys bound valued few e fits = tt
bounded most [] (choice ∷ choices) free cost before last keys bound valued few e fits = absurd bound
bounded most (field ∷ fields) [] free cost before last keys bound valued few e fits = absurd bound
bounded most (field ∷ fields) (choice ∷ choices) free cost before last (low, differ, keys) ((kept, anew), bound) valued few e fits =
    let c = costs field fields (before ++ last) cost e in
    by_found c (value_under field.key last) refl (λ f l v w t k. bounded most fields choices f c.rest before l keys bound v w t k)
  where
    by_found : (c : Costs field fields (before ++ last) cost) (found : Option (List ℕ)) → value_under field.key last ≡ found
        → ((f : ℕ) (l : List Pair) → AreValued l → Few fields f l → total_cost fields (before ++ l) ≡ Some c.rest → c.rest ≤ most → SumsWithin choices f c.rest)
        → SumsWithin (choice ∷ choices) free cost
    by_found c None is again =
        let sum = c.sum in
        let under : value_under field.key (before ++ last) ≡ value_under field.key before =
        under_append field.key before last ∙ ap (λ (o : Option (List ℕ)). option_or o (value_under field.key before)) is in
        let here = kept c.here (omega arith) (ap (cost_of field.form) (sym under) ∙ c.first) in
        (c.here, c.rest, omega arith, inl (here, again free last valued (few_others field fields free last few) c.others (omega arith)))
    by_found c (Some value) is again =
        let sum = c.sum in
        let under : value_under field.key (before ++ last) ≡ Some value =
        under_append field.key before last ∙ ap (λ (o : Option (List ℕ)). option_or o (value_under field.key before)) is in
        let v = under_valued field.key last value valued is in
        let here = anew value c.here v.0 v.1 (omega arith) (ap (cost_of field.form) (sym under) ∙ c.first) in
        let rest = without field.key last in
        let left = few_left field fields free last rest (without_less field.key last value is) few in
        let same : total_cost fields (before ++ rest) ≡ total_cost fields (before ++ last) = total_others field.key fields (before ++ rest) (before ++ last) differ (λ wanted other.
        under_append wanted before rest
        ∙ ap (λ (o : Option (List ℕ)). option_or o (value_under wanted before)) (without_other field.key wanted last other)
        ∙ sym (under_append wanted before last)) in
        (c.here, c.rest, omega arith, inr (left.0, left.1, here, again left.0 rest (without_valued field.key last valued) left.2 (same ∙ c.others) (omega arith)))

-- ---- a map costs as much

-- the costs of a choice are those of values of its field
abbrev Meets : List Pair → Field → Choice → Type 0
Meets before field choice =
    ((cost : ℕ) → choice.kept ≡ Some cost → cost_of field.form (value_under field.key before) ≡ Some cost)
    × ((cost : ℕ) → choice.anew ≡ Some cost → (value : List ℕ) × AreBytes value × IsValueSpelling 63 value × (cost_of field.form (Some value) ≡ Some cost))

abbrev AllMeet : List Pair → List Field → List Choice → Type 0
AllMeet before [] [] = ⊤
AllMeet before (field ∷ fields) (choice ∷ choices) = Meets before field choice × AllMeet before fields choices
AllMeet before _ _ = ⊥

-- pairs that make the fields cost so much
record Made (fields : List Field) (free cost : ℕ) (before : List Pair) : Type 0 where
  last : List Pair
  written : AreWritten last
  many : length last ≡ free
  total : total_cost fields (before ++ last) ≡ Some cost
  only : (key : ℕ) → AllByRecursion (λ (field : Field). field.key ≡ key → ⊥) fields → value_under key last ≡ None

made : (fields : List Field) (choices : List Choice) (free cost : ℕ) (before : List Pair) → AreKeys fields → AllMeet before fields choices → IsSum choices free cost → Made fields free cost before
made [] [] free cost before keys meet e =
    record { last = nils free; written = nils_written free; many = nils_many free; total = ap (λ (n : ℕ). Some n) (sym e); only = λ key none. nils_none key free }
made [] (choice ∷ choices) free cost before keys meet s = absurd meet
made (field ∷ fields) [] free cost before keys meet s = absurd meet
made (field ∷ fields) (choice ∷ choices) free cost before (low, differ, keys) ((kept, anew), meet) (here, rest, sum, inl (is, s)) =
    let m = made fields choices free rest before keys meet s in
    let none = m.only field.key differ in
    let under : value_under field.key (before ++ m.last) ≡ value_under field.key before =
    under_append field.key before m.last ∙ ap (λ (o : Option (List ℕ)). option_or o (value_under field.key before)) none in
    let first = ap (cost_of field.form) under ∙ kept here is in
    record {
      last = m.last;
      written = m.written;
      many = m.many;
      total = rw (first, m.total) (ap (λ (n : ℕ). Some n) (sym sum));
      only = λ key others. m.only key others.1;
    }
made (field ∷ fields) (choice ∷ choices) free cost before (low, differ, keys) ((kept, anew), meet) (here, rest, sum, inr (used, more, is, s)) =
    let m = made fields choices used rest before keys meet s in
    let (value, each, stands, costs_it) = anew here is in
    let pair : Pair = record { key = Some field.key; value = value } in
    let none = m.only field.key differ in
    let self : is_key field.key (Some field.key) ≡ true = eq-eqb field.key field.key refl in
    let found : value_under field.key (pair ∷ m.last) ≡ Some value = rw (none, self) refl in
    let under : value_under field.key (before ++ (pair ∷ m.last)) ≡ Some value =
    under_append field.key before (pair ∷ m.last) ∙ ap (λ (o : Option (List ℕ)). option_or o (value_under field.key before)) found in
    let first = ap (cost_of field.form) under ∙ costs_it in
    let same : total_cost fields (before ++ (pair ∷ m.last)) ≡ total_cost fields (before ++ m.last) = total_others field.key fields (before ++ (pair ∷ m.last)) (before ++ m.last) differ (λ wanted other.
    under_append wanted before (pair ∷ m.last)
    ∙ ap (λ (o : Option (List ℕ)). option_or o (value_under wanted before)) (skipped wanted value m.last other)
    ∙ sym (under_append wanted before m.last)) in
    record {
      last = pair ∷ m.last;
      written = (low, each, stands, m.written);
      many = ap suc m.many ∙ sym more;
      total = rw (first, same, m.total) (ap (λ (n : ℕ). Some n) (sym sum));
      only = λ key others. skipped key value m.last (λ e. others.0 (sym e)) ∙ m.only key others.1;
    }
  where
    skipped : (wanted : ℕ) (value : List ℕ) (last : List Pair) → (wanted ≡ field.key → ⊥) → value_under wanted (record { key = Some field.key; value = value } ∷ last) ≡ value_under wanted last
    skipped wanted value last other = rw (ne_eqb field.key wanted (λ e. other (sym e))) (or_none (value_under wanted last))

-- ---- from the choices

within_is : (most cost : ℕ) → cost ≤ most → up_to most (Some cost) ≡ Some cost
within_is most cost few = rw (le-leb cost most few) refl

within_some : (most : ℕ) (o : Option ℕ) (cost : ℕ) → up_to most o ≡ Some cost → o ≡ Some cost
within_some most None cost e = absurd cc
within_some most (Some other) cost e = (allowed (nat_le other most) (Some other) cost e).1

-- what has to hold of the value of the pair that is cut
abbrev FitsCut : (key : ℕ) (value : List ℕ) → List Field → List Choice → Type 0
FitsCut key value [] [] = ⊤
FitsCut key value (field ∷ fields) (choice ∷ choices) =
    (key ≡ field.key → (cost : ℕ) → choice.kept ≡ Some cost → cost_of field.form (Some value) ≡ Some cost) × FitsCut key value fields choices
FitsCut key value _ _ = ⊥

-- the one that is least
least_has : (Has : ℕ → Type 0) (least : Option ℕ) (cost : ℕ) → IsLeast Has least → least ≡ Some cost → Has cost
least_has Has None cost none e = absurd cc
least_has Has (Some least) cost (one, all) e = subst Has (same_some least cost e) one

module _ (most : ℕ) (stands : List Pair) where
  -- ---- where none is cut

  plain_under : (key : ℕ) → value_under key (stands ++ []) ≡ value_under key stands
  plain_under key = under_append key stands []

  bound_plain : (fields : List Field) (choices : List Choice) → AreChoices most stands None fields choices → AllBound most (stands ++ []) fields choices
  bound_plain [] [] each = tt
  bound_plain [] (choice ∷ choices) each = absurd each
  bound_plain (field ∷ fields) [] each = absurd each
  bound_plain (field ∷ fields) (choice ∷ choices) ((kept, anew), each) = (
    (
      λ cost few e.
          let is : choice.kept ≡ Some cost = kept ∙ ap (up_to most) (ap (cost_of field.form) (sym (plain_under field.key)) ∙ e) ∙ within_is most cost few in
          rw is (omega arith),
      λ value cost are is few e. at_most (CostsAt most field.form []) choice.anew cost anew (value, are, spelled_some 63 is.0 value is.1, is, e, few),
    ),
    bound_plain fields choices each,
  )

  meet_plain : (fields : List Field) (choices : List Choice) → AreChoices most stands None fields choices → AllMeet (stands ++ []) fields choices
  meet_plain [] [] each = tt
  meet_plain [] (choice ∷ choices) each = absurd each
  meet_plain (field ∷ fields) [] each = absurd each
  meet_plain (field ∷ fields) (choice ∷ choices) ((kept, anew), each) = (
    (
      λ cost e. ap (cost_of field.form) (plain_under field.key) ∙ within_some most (cost_of field.form (value_under field.key stands)) cost (sym kept ∙ e),
      λ cost e. let (value, are, some, is, c, few) = least_has (CostsAt most field.form []) choice.anew cost anew e in (value, are, is, c),
    ),
    meet_plain fields choices each,
  )

module _ (most : ℕ) (stands : List Pair) (key : ℕ) (begun : List ℕ) where
  -- ---- where one is cut

  here_under : (wanted : ℕ) (value : List ℕ) → (key == wanted) ≡ true → value_under wanted (stands ++ record { key = Some key; value = value } ∷ []) ≡ Some value
  here_under wanted value t = under_append wanted stands (record { key = Some key; value = value } ∷ []) ∙ rw t refl

  other_under : (wanted : ℕ) (value : List ℕ) → (key == wanted) ≡ false → value_under wanted (stands ++ record { key = Some key; value = value } ∷ []) ≡ value_under wanted stands
  other_under wanted value t = under_append wanted stands (record { key = Some key; value = value } ∷ []) ∙ rw t refl

  kept_bound : (missing : List ℕ) → AreBytes missing → 1 ≤ length missing → IsValueSpelling 63 (begun ++ missing) → (field : Field) (choice : Choice) (b : Bool) → (key == field.key) ≡ b
      → MatchBool b (IsLeast (CostsAt most field.form begun) choice.kept) (choice.kept ≡ up_to most (cost_of field.form (value_under field.key stands)))
      → (cost : ℕ) → cost ≤ most → cost_of field.form (value_under field.key (stands ++ record { key = Some key; value = begun ++ missing } ∷ [])) ≡ Some cost → AtMost choice.kept cost
  kept_bound missing are some value field choice true t kept cost few e =
      at_most (CostsAt most field.form begun) choice.kept cost kept (missing, are, some, value, ap (cost_of field.form) (sym (here_under field.key (begun ++ missing) t)) ∙ e, few)
  kept_bound missing are some value field choice false t kept cost few e =
      let is : choice.kept ≡ Some cost = kept ∙ ap (up_to most) (ap (cost_of field.form) (sym (other_under field.key (begun ++ missing) t)) ∙ e) ∙ within_is most cost few in
      rw is (omega arith)

  bound_cut : (missing : List ℕ) → AreBytes missing → 1 ≤ length missing → IsValueSpelling 63 (begun ++ missing) → (fields : List Field) (choices : List Choice)
      → AreChoices most stands (Some (key, begun)) fields choices → AllBound most (stands ++ record { key = Some key; value = begun ++ missing } ∷ []) fields choices
  bound_cut missing are some value [] [] each = tt
  bound_cut missing are some value [] (choice ∷ choices) each = absurd each
  bound_cut missing are some value (field ∷ fields) [] each = absurd each
  bound_cut missing are some value (field ∷ fields) (choice ∷ choices) ((kept, anew), each) = (
    (
      λ cost few e. kept_bound missing are some value field choice (key == field.key) refl kept cost few e,
      λ v cost fine is few e. at_most (CostsAt most field.form []) choice.anew cost anew (v, fine, spelled_some 63 is.0 v is.1, is, e, few),
    ),
    bound_cut missing are some value fields choices each,
  )

  kept_meets : (value : List ℕ) (field : Field) (choice : Choice) (b : Bool) → (key == field.key) ≡ b
      → MatchBool b (IsLeast (CostsAt most field.form begun) choice.kept) (choice.kept ≡ up_to most (cost_of field.form (value_under field.key stands)))
      → (key ≡ field.key → (cost : ℕ) → choice.kept ≡ Some cost → cost_of field.form (Some value) ≡ Some cost)
      → (cost : ℕ) → choice.kept ≡ Some cost → cost_of field.form (value_under field.key (stands ++ record { key = Some key; value = value } ∷ [])) ≡ Some cost
  kept_meets value field choice true t kept fits cost e = ap (cost_of field.form) (here_under field.key value t) ∙ fits (eqb-true key field.key t) cost e
  kept_meets value field choice false t kept fits cost e =
      ap (cost_of field.form) (other_under field.key value t) ∙ within_some most (cost_of field.form (value_under field.key stands)) cost (sym kept ∙ e)

  meet_cut : (value : List ℕ) (fields : List Field) (choices : List Choice) → AreChoices most stands (Some (key, begun)) fields choices → FitsCut key value fields choices
      → AllMeet (stands ++ record { key = Some key; value = value } ∷ []) fields choices
  meet_cut value [] [] each fit = tt
  meet_cut value [] (choice ∷ choices) each fit = absurd each
  meet_cut value (field ∷ fields) [] each fit = absurd each
  meet_cut value (field ∷ fields) (choice ∷ choices) ((kept, anew), each) (fits, fit) = (
    (
      λ cost e. kept_meets value field choice (key == field.key) refl kept fits cost e,
      λ cost e. let (v, are, some, is, c, few) = least_has (CostsAt most field.form []) choice.anew cost anew e in (v, are, is, c),
    ),
    meet_cut value fields choices each fit,
  )

  -- a value of the pair that is cut which costs its field the least
  abbrev Picked : List Field → List Choice → Type 0
  Picked fields choices = (missing : List ℕ) × AreBytes missing × (1 ≤ length missing) × IsValueSpelling 63 (begun ++ missing) × FitsCut key (begun ++ missing) fields choices

  fits_others : (value : List ℕ) (field : Field) (fields : List Field) (choices : List Choice) → AreChoices most stands (Some (key, begun)) fields choices → key ≡ field.key
      → AllByRecursion (λ (other : Field). other.key ≡ field.key → ⊥) fields → FitsCut key value fields choices
  fits_others value field [] [] each same differ = tt
  fits_others value field [] (choice ∷ choices) each same differ = absurd each
  fits_others value field (other ∷ fields) [] each same differ = absurd each
  fits_others value field (other ∷ fields) (choice ∷ choices) (here, each) same (differs, differ) =
      (λ e. absurd (differs (sym e ∙ same)), fits_others value field fields choices each same differ)

  pick : (missing : List ℕ) → AreBytes missing → 1 ≤ length missing → IsValueSpelling 63 (begun ++ missing) → (fields : List Field) (choices : List Choice) → AreKeys fields
      → AreChoices most stands (Some (key, begun)) fields choices → Picked fields choices
  pick missing are some value [] [] keys each = (missing, are, some, value, tt)
  pick missing are some value [] (choice ∷ choices) keys each = absurd each
  pick missing are some value (field ∷ fields) [] keys each = absurd each
  pick missing are some value (field ∷ fields) (choice ∷ choices) (low, differ, keys) ((kept, anew), each) =
      by_test (key == field.key) refl kept (pick missing are some value fields choices keys each)
    where
      by_kept : key ≡ field.key → (least : Option ℕ) → choice.kept ≡ least → IsLeast (CostsAt most field.form begun) least → Picked (field ∷ fields) (choice ∷ choices)
      by_kept same None e none =
          (missing, are, some, value, (λ k cost c. absurd cc, fits_others (begun ++ missing) field fields choices each same differ))
      by_kept same (Some least) e ((more, fine, long, is, c, few), all) = (
        more,
        fine,
        long,
        is,
        (λ k cost d. c ∙ sym e ∙ d, fits_others (begun ++ more) field fields choices each same differ),
      )

      by_test : (b : Bool) → (key == field.key) ≡ b
          → MatchBool b (IsLeast (CostsAt most field.form begun) choice.kept) (choice.kept ≡ up_to most (cost_of field.form (value_under field.key stands)))
          → Picked fields choices → Picked (field ∷ fields) (choice ∷ choices)
      by_test true t least again = by_kept (eqb-true key field.key t) choice.kept refl least
      by_test false t is (more, fine, long, v, fit) = (more, fine, long, v, (λ k. absurd (false≢true (sym t ∙ eq-eqb key field.key k)), fit))

-- ---- together

module _ (most : ℕ) (fields : List Field) (bytes : List ℕ) (stands : List Pair) (free : ℕ) (choices : List Choice) (keys : AreKeys fields) where
  all_bound : (cut : Cut) (first : List Pair) → IsCut cut first → AreChoices most stands cut fields choices → AllBound most (stands ++ first) fields choices
  all_bound None first none each = rw none (bound_plain most stands fields choices each)
  all_bound (Some (key, begun)) first (missing, are, some, value, is) each = rw is (bound_cut most stands key begun missing are some value fields choices each)

  all_meet : (cut : Cut) (first : List Pair) → IsCut cut first → AreChoices most stands cut fields choices → (other : List Pair) × IsCut cut other × AllMeet (stands ++ other) fields choices
  all_meet None first none each = ([], refl, meet_plain most stands fields choices each)
  all_meet (Some (key, begun)) first (missing, are, some, value, is) each =
      let (more, fine, long, v, fit) = pick most stands key begun missing are some value fields choices keys each in
      (record { key = Some key; value = begun ++ more } ∷ [], (more, fine, long, v, refl), meet_cut most stands key begun (begun ++ more) fields choices each fit)

  module _ (cut : Cut) (begun : IsBegunMap (length fields) (BecomesMap bytes) stands cut free) (each : AreChoices most stands cut fields choices) where
    at_least : (cost : ℕ) → CostsOf most fields bytes cost → AtMost (least_sum most choices free) cost
    at_least cost (missing, are, some, map, total, few) =
        let (first, last, same, cut_is, valued, many) = begun.reaches (pairs_in (bytes ++ missing)) (missing, are, some, map, refl) in
        let whole = sym (total_same fields (pairs_in (bytes ++ missing)) (stands ++ first ++ last) keys same) ∙ total in
        sum_least most choices free cost
        (bounded most fields choices free cost (stands ++ first) last keys (all_bound cut first cut_is each) valued many whole few) few

    costs_so : (cost : ℕ) → IsSum choices free cost → cost ≤ most → CostsOf most fields bytes cost
    costs_so cost s few =
        let m = all_meet cut begun.goes_on.0 begun.goes_on.1 each in
        let d = made fields choices free cost (stands ++ m.0) keys m.2 s in
        let (pairs, (missing, are, some, map, is), same) = begun.allows m.0 d.last m.1 d.written d.many in
        (missing, are, some, map, total_same fields (pairs_in (bytes ++ missing)) (stands ++ m.0 ++ d.last) keys (λ key low. ap (value_under key) is ∙ same key low) ∙ d.total, few)

    pub least_is : IsLeast (CostsOf most fields bytes) (least_sum most choices free)
    least_is = by_sum (least_sum most choices free) refl
      where
        by_sum : (sum : Option ℕ) → least_sum most choices free ≡ sum → IsLeast (CostsOf most fields bytes) sum
        by_sum None e = λ cost costs. subst (λ (o : Option ℕ). AtMost o cost) e (at_least cost costs)
        by_sum (Some least) e =
            let s = sum_found most choices free least e in
            (costs_so least s.0 s.1, λ cost costs. subst (λ (o : Option ℕ). AtMost o cost) e (at_least cost costs))

-- ---- one choice after the other

choices-append : (most : ℕ) (stands : List Pair) (cut : Cut) (fields : List Field) (choices : List Choice) (field : Field) (choice : Choice) → AreChoices most stands cut fields choices
    → IsChoice most stands cut field choice → AreChoices most stands cut (fields ++ field ∷ []) (choices ++ choice ∷ [])
choices-append most stands cut [] [] field choice each one = (one, tt)
choices-append most stands cut [] (other ∷ choices) field choice each one = absurd each
choices-append most stands cut (other ∷ fields) [] field choice each one = absurd each
choices-append most stands cut (other ∷ fields) (found ∷ choices) field choice (first, each) one = (first, choices-append most stands cut fields choices field choice each one)

-- a turn of the loop over the fields
pub choices_more : (most : ℕ) (stands : List Pair) (cut : Cut) (fields : List Field) (choices : List Choice) (place : ℕ) (none : Field) (choice : Choice) → place < length fields → place < length choices
    → AreChoices most stands cut (take place fields) (take place choices) → IsChoice most stands cut (get_or fields place none) choice
    → AreChoices most stands cut (take (place + 1) fields) (take (place + 1) (set choices place choice))
choices_more most stands cut fields choices place none choice in_fields in_choices each one =
    rw (take_more fields place none in_fields, take_more_set choices place choice in_choices)
    (choices-append most stands cut (take place fields) (take place choices) (get_or fields place none) choice each one)

pub choices_all : (most : ℕ) (stands : List Pair) (cut : Cut) (fields : List Field) (choices : List Choice) (place : ℕ) → length fields ≤ place → place ≤ length fields
    → AreChoices most stands cut (take place fields) (take place choices) → AreChoices most stands cut fields (take (length fields) choices)
choices_all most stands cut fields choices place up down each =
    let all : place ≡ length fields = omega (arith, up, down) in
    subst (λ (l : List Field). AreChoices most stands cut l (take (length fields) choices)) (take_all (length fields) fields (omega arith))
    (subst (λ (n : ℕ). AreChoices most stands cut (take n fields) (take n choices)) all each)

pub none_so : (most : ℕ) (fields : List Field) (bytes : List ℕ) → ((pairs : List Pair) → BecomesMap bytes pairs → ⊥) → (cost : ℕ) → CostsOf most fields bytes cost → ⊥
none_so most fields bytes none cost (missing, are, some, map, total, few) = none (pairs_in (bytes ++ missing)) (missing, are, some, map, refl)
