-- Each step inside an id keeps the texts that go on with the byte.
use Rattle.std.proofs.Common.{◌≡◌, ℕ, suc, ◌+◌, ◌*◌, ◌-◌, ◌/◌, ◌^◌, ◌<◌, ◌≤◌, cond, eqb, ltb, Option, Some, None, List, [], ◌∷◌, ◌++◌, length, replicate, refl, sym, ap, subst, ◌∙◌, append_assoc, ◌⊎◌, inl, inr, arith}
use Rattle.std.specs.Fmt.{decimal}
use Rattle.std.proofs.lemmas.Bool.{eqb-true, eqb-false, ltb-true, ltb-false}
use Rattle.std.proofs.lemmas.Fmt.{decimal_digit}
use Rattle.std.proofs.lemmas.List.{append-nil, length-append, length-replicate, replicate-append-replicate}
use Rattle.std.proofs.lemmas.List.Elements.{All-append, All-replicate}
use Rattle.mx_vclock.specs.declared.place.Place.{Place}
use Rattle.mx_vclock.specs.declared.place.Place.TheVariants.{Id, Colon}
use Rattle.mx_vclock.specs.Vclocks.{max_lsn}
use Rattle.mx_msgpack.specs.Readers.{◌>>=◌}
use Rattle.mx_vclock.specs.Places.{after_id, id_place, digit, greatest_id_from}
use Rattle.mx_vclock.proofs.Decimals.{IsDigit, GoesOn, begins, ends_or_goes_on, some_before, with_digit, not_below, two_digits}
use Rattle.mx_vclock.proofs.Tails.{more}
use Rattle.mx_vclock.proofs.Steps.{Texts, Taking, by_test, by_digit, one_more}
use Rattle.mx_vclock.proofs.Fitting.{part_bounds, Before, Stands, FitsId, FitsNext, FitsNamed, AfterBlank, Outcome}

pub greatest : (id : ℕ) → (id ≤ greatest_id_from id) × (1 ≤ id → id ≤ 3 → greatest_id_from id ≡ 10 * id + 9) × (3 < id → greatest_id_from id ≡ id) × (greatest_id_from 0 ≡ 0)
greatest id = (
  by_test (λ n. id ≤ n) (ltb id 1) id (cond (ltb 3 id) id (10 * id + 9)) (λ t. omega arith) (λ t. by_test (λ n. id ≤ n) (ltb 3 id) id (10 * id + 9) (λ u. omega arith) (λ u. omega arith)),
  λ l h.
      by_test (λ n. n ≡ 10 * id + 9) (ltb id 1) id (cond (ltb 3 id) id (10 * id + 9)) (λ t. let u = ltb-true id 1 t in absurd (omega arith))
      (λ t. by_test (λ n. n ≡ 10 * id + 9) (ltb 3 id) id (10 * id + 9) (λ u. let v = ltb-true 3 id u in absurd (omega arith)) (λ u. refl)),
  λ h.
      by_test (λ n. n ≡ id) (ltb id 1) id (cond (ltb 3 id) id (10 * id + 9)) (λ t. refl)
      (λ t. by_test (λ n. n ≡ id) (ltb 3 id) id (10 * id + 9) (λ u. refl) (λ u. let v = ltb-false 3 id u in absurd (omega arith))),
  refl,
)

within_greatest : (id : ℕ) (digits : List ℕ) (whole : ℕ) → id ≤ 31 → whole ≤ 31 → GoesOn id digits whole → whole ≤ greatest_id_from id
within_greatest id digits whole small high e = by_digits (two_digits id digits whole (omega arith) (omega arith) e)
  where
    g : (id ≤ greatest_id_from id) × (1 ≤ id → id ≤ 3 → greatest_id_from id ≡ 10 * id + 9) × (3 < id → greatest_id_from id ≡ id) × (greatest_id_from 0 ≡ 0)
    g = greatest id

    by_digits : (whole ≡ id) ⊎ ((10 ≤ whole) × (whole / 10 ≡ id)) → whole ≤ greatest_id_from id
    by_digits (inl same) = omega (arith, g.0)
    by_digits (inr (ten, front)) = omega (arith, g.1 (omega arith) (omega arith))

begun_law : (G : Texts) (lsns front : List ℕ) (least id : ℕ) → Before least front → front ++ replicate (32 - least) 0 ≡ lsns → id < 100
    → ((clock text : List ℕ) → G clock text → FitsId least id front clock text) → ((clock text : List ℕ) → FitsId least id front clock text → G clock text)
    → Outcome G lsns (id_place least id)
begun_law G lsns front least id before same small to from = by_test (Outcome G lsns) (ltb 31 id) None (cond (ltb (greatest_id_from id) least) None (Some (Id least id)))
    (λ t clock text g.
    let f = to clock text g in
    let p = part_bounds front f.zeros f.lsn f.others clock f.part in
    let h = ltb-true 31 id t in
    let l = before.long in
    let whole : least + f.zeros ≤ 31 = omega (arith, p.id) in
    omega (arith, not_below id f.digits (least + f.zeros) (omega arith) (omega arith) f.goes_on))
    (λ t. by_test (Outcome G lsns) (ltb (greatest_id_from id) least) None (Some (Id least id))
    (λ u clock text g.
    let f = to clock text g in
    let p = part_bounds front f.zeros f.lsn f.others clock f.part in
    let h = ltb-false 31 id t in
    let l = before.long in
    let v = ltb-true (greatest_id_from id) least u in
    let whole : least + f.zeros ≤ 31 = omega (arith, p.id) in
    omega (arith, within_greatest id f.digits (least + f.zeros) h whole f.goes_on))
    (λ u. (front, same, (before, ltb-false 31 id t, ltb-false (greatest_id_from id) least u), to, from)))

-- the first digit of an id
pub first_to : (least byte : ℕ) (front clock text : List ℕ) → Before least front → FitsNext least front clock (byte ∷ text) → IsDigit byte × FitsId least (byte - 48) front clock text
first_to least byte front clock text before f =
    let p = part_bounds front f.zeros f.lsn f.others clock f.part in
    let l = before.long in
    let whole : least + f.zeros ≤ 31 = omega (arith, p.id) in
    let b = begins (least + f.zeros) (omega arith) in
    let behind : List ℕ = 58 ∷ 32 ∷ (decimal f.lsn ++ more (suc (least + f.zeros)) f.others) in
    let o = one_more b.0 byte (b.1 ++ behind) text (ap (λ l. l ++ behind) (sym b.2.is) ∙ f.spelled) in
    let digit : IsDigit byte = subst IsDigit o.0 b.2.digit in
    let back : 48 + (byte - 48) ≡ byte = omega (arith, digit.0) in (
      digit,
      record {
        zeros = f.zeros;
        lsn = f.lsn;
        others = f.others;
        digits = b.1;
        part = f.part;
        goes_on = b.2.is ∙ ap (λ n. n ∷ b.1) (o.0 ∙ sym back) ∙ ap (λ l. l ++ b.1) (sym (decimal_digit (byte - 48) (omega (arith, digit.1))));
        spelled = o.1;
      },
    )

first_from : (least byte : ℕ) (front clock text : List ℕ) → IsDigit byte → FitsId least (byte - 48) front clock text → FitsNext least front clock (byte ∷ text)
first_from least byte front clock text digit f =
    let back : 48 + (byte - 48) ≡ byte = omega (arith, digit.0) in
    let behind : List ℕ = 58 ∷ 32 ∷ (decimal f.lsn ++ more (suc (least + f.zeros)) f.others) in
    record {
      zeros = f.zeros;
      lsn = f.lsn;
      others = f.others;
      part = f.part;
      spelled =
          ap (λ l. l ++ behind) (f.goes_on ∙ ap (λ l. l ++ f.digits) (decimal_digit (byte - 48) (omega (arith, digit.1))) ∙ ap (λ n. n ∷ f.digits) back)
          ∙ ap (λ l. byte ∷ l) f.spelled;
    }

pub next_law : (G : Texts) (lsns front : List ℕ) (least byte : ℕ) → Before least front → front ++ replicate (32 - least) 0 ≡ lsns
    → ((clock text : List ℕ) → G clock text → FitsNext least front clock (byte ∷ text)) → ((clock text : List ℕ) → FitsNext least front clock (byte ∷ text) → G clock text)
    → Outcome G lsns (digit byte >>= id_place least)
next_law G lsns front least byte before same to from = by_digit (Outcome G lsns) byte (id_place least)
    (λ d.
    let small : byte - 48 < 100 = omega (arith, d.1) in
    begun_law G lsns front least (byte - 48) before same small
    (λ clock text g. (first_to least byte front clock text before (to clock text g)).1)
    (λ clock text f. from clock text (first_from least byte front clock text d f)))
    (λ d clock text g. d (first_to least byte front clock text before (to clock text g)).0)

-- a digit more of an id
digit_to : (least id byte : ℕ) (front clock text : List ℕ) → Before least front → id ≤ 31 → (byte ≡ 58 → ⊥) → FitsId least id front clock (byte ∷ text)
    → IsDigit byte × (0 < id) × (id ≤ 3) × FitsId least (10 * id + (byte - 48)) front clock text
digit_to least id byte front clock text before high other f = by_end (ends_or_goes_on id byte whole f.digits behind text (omega arith) small f.goes_on f.spelled)
  where
    whole : ℕ
    whole = least + f.zeros

    behind : List ℕ
    behind = 58 ∷ 32 ∷ (decimal f.lsn ++ more (suc (least + f.zeros)) f.others)

    top : least + f.zeros ≤ 31
    top =
        let p = part_bounds front f.zeros f.lsn f.others clock f.part in
        let l = before.long in
        omega (arith, p.id)

    small : least + f.zeros < 2 ^ 64
    small = omega (arith, top)

    by_end : ((least + f.zeros ≡ id) × (58 ∷ 32 ∷ (decimal f.lsn ++ more (suc (least + f.zeros)) f.others) ≡ byte ∷ text))
        ⊎ ((more' : List ℕ) × IsDigit byte × GoesOn id (byte ∷ more') (least + f.zeros) × (more' ++ 58 ∷ 32 ∷ (decimal f.lsn ++ more (suc (least + f.zeros)) f.others) ≡ text))
        → IsDigit byte × (0 < id) × (id ≤ 3) × FitsId least (10 * id + (byte - 48)) front clock text
    by_end (inl (same, e)) = absurd (other (sym (one_more 58 byte (32 ∷ (decimal f.lsn ++ more (suc (least + f.zeros)) f.others)) text e).0))
    by_end (inr (digits, is_digit, e, spelled)) =
        let some : 0 < id = some_before id byte digits (least + f.zeros) small e in
        let fits : 10 * id + (byte - 48) < 2 ^ 64 = omega (arith, is_digit.1) in
        let g : GoesOn (10 * id + (byte - 48)) digits (least + f.zeros) = e ∙ sym (with_digit id byte digits some is_digit fits) in
        let low = not_below (10 * id + (byte - 48)) digits (least + f.zeros) fits small g in (
          is_digit,
          some,
          omega (arith, top),
          record { zeros = f.zeros; lsn = f.lsn; others = f.others; digits = digits; part = f.part; goes_on = g; spelled = spelled },
        )

digit_from : (least id byte : ℕ) (front clock text : List ℕ) → 0 < id → id ≤ 3 → IsDigit byte → FitsId least (10 * id + (byte - 48)) front clock text → FitsId least id front clock (byte ∷ text)
digit_from least id byte front clock text some three digit f = record {
  zeros = f.zeros;
  lsn = f.lsn;
  others = f.others;
  digits = byte ∷ f.digits;
  part = f.part;
  goes_on = f.goes_on ∙ with_digit id byte f.digits some digit (omega (arith, digit.1));
  spelled = ap (λ l. byte ∷ l) f.spelled;
}

-- the end of an id
colon_to : (least id : ℕ) (front clock text : List ℕ) → Before least front → id ≤ 31 → FitsId least id front clock (58 ∷ text)
    → (least ≤ id) × AfterBlank (FitsNamed id (front ++ replicate (id - least) 0) clock) text
colon_to least id front clock text before high f = by_end (ends_or_goes_on id 58 (least + f.zeros) f.digits behind text (omega arith) (omega (arith, top)) f.goes_on f.spelled)
  where
    behind : List ℕ
    behind = 58 ∷ 32 ∷ (decimal f.lsn ++ more (suc (least + f.zeros)) f.others)

    top : least + f.zeros ≤ 31
    top =
        let p = part_bounds front f.zeros f.lsn f.others clock f.part in
        let l = before.long in
        omega (arith, p.id)

    by_end : ((least + f.zeros ≡ id) × (58 ∷ 32 ∷ (decimal f.lsn ++ more (suc (least + f.zeros)) f.others) ≡ 58 ∷ text))
        ⊎ ((more' : List ℕ) × IsDigit 58 × GoesOn id (58 ∷ more') (least + f.zeros) × (more' ++ 58 ∷ 32 ∷ (decimal f.lsn ++ more (suc (least + f.zeros)) f.others) ≡ text))
        → (least ≤ id) × AfterBlank (FitsNamed id (front ++ replicate (id - least) 0) clock) text
    by_end (inr (digits, below, e, spelled)) = absurd (omega (arith, below.1))
    by_end (inl (same, e)) =
        let o = one_more 58 58 (32 ∷ (decimal f.lsn ++ more (suc (least + f.zeros)) f.others)) text e in
        let z : f.zeros ≡ id - least = omega arith in (
          omega arith,
          (
            decimal f.lsn ++ more (suc (least + f.zeros)) f.others,
            o.1,
            record {
              lsn = f.lsn;
              others = f.others;
              part = record {
                sound = f.part.sound;
                is = f.part.is ∙ sym (append_assoc front (replicate f.zeros 0) (f.lsn ∷ f.others)) ∙ ap (λ n. front ++ replicate n 0 ++ f.lsn ∷ f.others) z;
                some = f.part.some;
              };
              spelled = ap (λ n. decimal f.lsn ++ more (suc n) f.others) (sym same);
            },
          ),
        )

colon_from : (least id : ℕ) (front clock text : List ℕ) → least ≤ id → AfterBlank (FitsNamed id (front ++ replicate (id - least) 0) clock) text → FitsId least id front clock (58 ∷ text)
colon_from least id front clock text le (rest, e, f) =
    let same : least + (id - least) ≡ id = omega arith in
    record {
      zeros = id - least;
      lsn = f.lsn;
      others = f.others;
      digits = [];
      part = record {
        sound = f.part.sound;
        is = f.part.is ∙ append_assoc front (replicate (id - least) 0) (f.lsn ∷ f.others);
        some = f.part.some;
      };
      goes_on = ap decimal same ∙ sym (append-nil (decimal id));
      spelled = ap (λ n. 58 ∷ 32 ∷ (decimal f.lsn ++ more (suc n) f.others)) same ∙ ap (λ l. 58 ∷ 32 ∷ l) f.spelled ∙ ap (λ l. 58 ∷ l) e;
    }

before_later : (least id : ℕ) (front : List ℕ) → Before least front → least ≤ id → id ≤ 31 → Before id (front ++ replicate (id - least) 0)
before_later least id front before le high =
    let l = before.long in
    let a : length (front ++ replicate (id - least) 0) ≡ length front + (id - least) = length-append front (replicate (id - least) 0) ∙ ap (λ n. length front + n) (length-replicate (id - least) 0) in
    record {
      long = omega arith;
      high = high;
      bounded = All-append (λ n. n ≤ max_lsn) front (replicate (id - least) 0) before.bounded (All-replicate (λ n. n ≤ max_lsn) (id - least) 0 (omega arith));
    }

zeros_left : (least id : ℕ) → least ≤ id → id ≤ 31 → (id - least) + (32 - id) ≡ 32 - least
zeros_left least id le high = omega arith

zeros_later : (least id : ℕ) (front : List ℕ) → least ≤ id → id ≤ 31 → (front ++ replicate (id - least) 0) ++ replicate (32 - id) 0 ≡ front ++ replicate (32 - least) 0
zeros_later least id front le high =
    append_assoc front (replicate (id - least) 0) (replicate (32 - id) 0)
    ∙ ap (λ l. front ++ l) (replicate-append-replicate (id - least) (32 - id) 0 ∙ ap (λ k. replicate k 0) (zeros_left least id le high))

pub id_law : (least id byte : ℕ) (front : List ℕ) → Stands (Id least id) front → Outcome (Taking (Id least id) front byte) (front ++ replicate (32 - least) 0) (after_id least id byte)
id_law least id byte front (before, high, begun) = by_test O (eqb byte 58) (cond (ltb id least) None (Some (Colon id))) (cond (ltb id 1) None (cond (ltb 3 id) None (digit byte >>= λ d. id_place least (10 * id + d))))
    (λ t.
    let is = eqb-true byte 58 t in
    by_test O (ltb id least) None (Some (Colon id))
    (λ u clock text g.
    let v = ltb-true id least u in
    omega (arith, (colon_to least id front clock text before high (subst (λ n. FitsId least id front clock (n ∷ text)) is g)).0))
    (λ u.
    let le = ltb-false id least u in (
      front ++ replicate (id - least) 0,
      zeros_later least id front le high,
      before_later least id front before le high,
      λ clock text g. (colon_to least id front clock text before high (subst (λ n. FitsId least id front clock (n ∷ text)) is g)).1,
      λ clock text f. subst (λ n. FitsId least id front clock (n ∷ text)) (sym is) (colon_from least id front clock text le f),
    )))
    (λ t.
    let other = eqb-false byte 58 t in
    by_test O (ltb id 1) None (cond (ltb 3 id) None (digit byte >>= λ d. id_place least (10 * id + d)))
    (λ u clock text g. let v = ltb-true id 1 u in omega (arith, (digit_to least id byte front clock text before high other g).1))
    (λ u. by_test O (ltb 3 id) None (digit byte >>= λ d. id_place least (10 * id + d))
    (λ v clock text g. let w = ltb-true 3 id v in omega (arith, (digit_to least id byte front clock text before high other g).2))
    (λ v.
    let some : 0 < id = ltb-false id 1 u in
    let three : id ≤ 3 = ltb-false 3 id v in
    by_digit O byte (λ d. id_place least (10 * id + d))
    (λ d. begun_law (Taking (Id least id) front byte) (front ++ replicate (32 - least) 0) front least (10 * id + (byte - 48)) before refl (omega (arith, d.1))
    (λ clock text g. (digit_to least id byte front clock text before high other g).3)
    (λ clock text f. digit_from least id byte front clock text some three d f))
    (λ d clock text g. d (digit_to least id byte front clock text before high other g).0))))
  where
    O : Option Place → Type 0
    O = Outcome (Taking (Id least id) front byte) (front ++ replicate (32 - least) 0)
