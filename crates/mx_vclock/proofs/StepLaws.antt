-- Each byte's step keeps the texts that go on with the byte, and from each place some text goes on.
use Rattle.std.proofs.Common.{◌≡◌, ℕ, zero, suc, ◌+◌, ◌*◌, ◌-◌, ◌<◌, ◌≤◌, eqb, Some, None, List, [], ◌∷◌, ◌++◌, length, replicate, refl, sym, ap, ◌∙◌, ◌⊎◌, inl, inr, arith}
use Rattle.std.specs.Fmt.{decimal}
use Rattle.std.proofs.lemmas.Bool.{cases_lt, eqb-true, eqb-false}
use Rattle.std.proofs.lemmas.List.{append-nil}
use Rattle.std.proofs.lemmas.List.Elements.{All-nil, All-replicate}
use Rattle.mx_vclock.specs.declared.place.Place.{Place}
use Rattle.mx_vclock.specs.declared.place.Place.TheVariants.{Start, Open, Comma, Next, Id, Colon, Named, Lsn, Done}
use Rattle.mx_vclock.specs.Vclocks.{IsVclock, max_lsn}
use Rattle.mx_msgpack.specs.Readers.{◌>>=◌}
use Rattle.mx_vclock.specs.Places.{next_place, id_place, digit, greatest_id_from}
use Rattle.mx_vclock.specs.Text.{vclock_text}
use Rattle.mx_vclock.proofs.Decimals.{GoesOn, digit_more}
use Rattle.mx_vclock.proofs.Tails.{named, more, first, split, Blank, Split, first-zeros, text_is_first}
use Rattle.mx_vclock.proofs.Fitting.{Part, padded, lsns_at, Before, Stands, FitsId, FitsNext, FitsNamed, FitsLsn, Fits, Outcome}
use Rattle.mx_vclock.proofs.Steps.{Taking, by_test, one_more, blank_law}
use Rattle.mx_vclock.proofs.IdLaws.{first_to, greatest, next_law, id_law}
use Rattle.mx_vclock.proofs.LsnLaws.{named_law, lsn_law}

pub empty_clock : IsVclock (replicate 32 0)
empty_clock = record { whole = refl; bounded = All-replicate (λ n. n ≤ max_lsn) 32 0 (omega arith) }

none_before : Before 0 []
none_before = record { long = refl; high = omega arith; bounded = All-nil (λ n. n ≤ max_lsn) }

-- ---- the brackets

start_law : (byte : ℕ) (front : List ℕ) → Outcome (Taking Start front byte) (replicate 32 0) (next_place Start byte)
unfolding next_place
start_law byte front = by_test (Outcome (Taking Start front byte) (replicate 32 0)) (eqb byte 123) (Some Open) None
    (λ t. (
      front,
      refl,
      tt,
      λ clock text g. (g.0, (one_more 123 byte (first 0 clock) text (sym (text_is_first clock) ∙ g.1)).1),
      λ clock text f. (f.0, text_is_first clock ∙ ap (λ l. 123 ∷ l) f.1 ∙ ap (λ n. n ∷ text) (sym (eqb-true byte 123 t))),
    ))
    (λ t clock text g. eqb-false byte 123 t (sym (one_more 123 byte (first 0 clock) text (sym (text_is_first clock) ∙ g.1)).0))

abbrev IsEnd : ℕ → List ℕ → List ℕ → Type 0
IsEnd byte clock text = (125 ≡ byte) × (clock ≡ replicate 32 0) × ([] ≡ text)

open_to : (byte : ℕ) (clock text : List ℕ) → IsVclock clock → first 0 clock ≡ byte ∷ text → IsEnd byte clock text ⊎ FitsNext 0 [] clock (byte ∷ text)
open_to byte clock text sound e = by_split (split 0 clock)
  where
    by_split : Blank 0 clock ⊎ Split 0 clock → IsEnd byte clock text ⊎ FitsNext 0 [] clock (byte ∷ text)
    by_split (inl b) =
        let o = one_more 125 byte [] text (sym b.as_first ∙ e) in
        inl (o.0, b.is ∙ ap (λ n. replicate n 0) sound.whole, o.1)
    by_split (inr s) = inr (record {
      zeros = s.zeros;
      lsn = suc s.lsn;
      others = s.others;
      part = record { sound = sound; is = s.is; some = omega arith };
      spelled = sym s.as_first ∙ e;
    })

open_from : (clock text : List ℕ) → FitsNext 0 [] clock text → IsVclock clock × (first 0 clock ≡ text)
open_from clock text f = by_lsn f.lsn f.part f.spelled
  where
    by_lsn : (lsn : ℕ) → Part [] f.zeros lsn f.others clock → named (0 + f.zeros) lsn (more (suc (0 + f.zeros)) f.others) ≡ text → IsVclock clock × (first 0 clock ≡ text)
    by_lsn zero part spelled = let s = part.some in absurd (omega arith)
    by_lsn (suc lsn) part spelled = (part.sound, ap (first 0) part.is ∙ first-zeros f.zeros 0 (suc lsn ∷ f.others) ∙ spelled)

open_law : (byte : ℕ) (front : List ℕ) → Outcome (Taking Open front byte) (replicate 32 0) (next_place Open byte)
unfolding next_place
open_law byte front = by_test (Outcome (Taking Open front byte) (replicate 32 0)) (eqb byte 125) (Some Done) (digit byte >>= id_place 0)
    (λ t.
    let is = eqb-true byte 125 t in (
      replicate 32 0,
      refl,
      empty_clock,
      λ clock text g. ends clock text g.0 (open_to 125 clock text g.0 (g.1 ∙ ap (λ n. n ∷ text) is)),
      λ clock text f. (f.0, ap (first 0) f.1 ∙ ap (λ l. 125 ∷ l) f.2 ∙ ap (λ n. n ∷ text) (sym is)),
    ))
    (λ t. next_law (Taking Open front byte) (replicate 32 0) [] 0 byte none_before refl
    (λ clock text g. goes_on clock text (eqb-false byte 125 t) (open_to byte clock text g.0 g.1))
    (λ clock text f. open_from clock (byte ∷ text) f))
  where
    ends : (clock text : List ℕ) → IsVclock clock → IsEnd 125 clock text ⊎ FitsNext 0 [] clock (125 ∷ text) → IsVclock clock × (clock ≡ replicate 32 0) × ([] ≡ text)
    ends clock text sound (inl e) = (sound, e.1, e.2)
    ends clock text sound (inr f) = let d = (first_to 0 125 [] clock text none_before f).0 in absurd (omega (arith, d.1))

    goes_on : (clock text : List ℕ) → (byte ≡ 125 → ⊥) → IsEnd byte clock text ⊎ FitsNext 0 [] clock (byte ∷ text) → FitsNext 0 [] clock (byte ∷ text)
    goes_on clock text other (inl e) = absurd (other (sym e.0))
    goes_on clock text other (inr f) = f

-- ---- every place

pub law : (place : Place) (front : List ℕ) (byte : ℕ) → Stands place front → Outcome (Taking place front byte) (lsns_at place front) (next_place place byte)
unfolding next_place
law Start front byte s = start_law byte front
law Open front byte s = open_law byte front
law (Comma least) front byte s =
    blank_law (Next least) (FitsNext least front) (Taking (Comma least) front byte) (lsns_at (Comma least) front) front byte (λ clock text g. g) (λ clock text f. f) refl s (λ clock text f. f) (λ clock text f. f)
law (Next least) front byte s =
    next_law (Taking (Next least) front byte) (lsns_at (Next least) front) front least byte s refl (λ clock text g. g) (λ clock text f. f)
law (Id least id) front byte s = id_law least id byte front s
law (Colon id) front byte s =
    blank_law (Named id) (FitsNamed id front) (Taking (Colon id) front byte) (lsns_at (Colon id) front) front byte (λ clock text g. g) (λ clock text f. f) refl s (λ clock text f. f) (λ clock text f. f)
law (Named id) front byte s = named_law id byte front s
law (Lsn id lsn) front byte s = lsn_law id lsn byte front s
law Done front byte s = λ clock text g. let e : [] ≡ byte ∷ text = g.2 in cc

-- ---- some text goes on from each place

next_viable : (least : ℕ) (front : List ℕ) → Before least front → (clock text : List ℕ) × FitsNext least front clock text
next_viable least front before =
    let l = before.long in
    let h = before.high in
    let others : List ℕ = replicate (31 - (length front + 0)) 0 in (
      front ++ 1 ∷ others,
      named (least + 0) 1 (more (suc (least + 0)) others),
      record { zeros = 0; lsn = 1; others = others; part = padded front 0 1 before.bounded (omega arith) (omega arith) (omega arith); spelled = refl },
    )

named_viable : (id : ℕ) (front : List ℕ) → Before id front → (clock text : List ℕ) × FitsNamed id front clock text
named_viable id front before =
    let l = before.long in
    let h = before.high in
    let others : List ℕ = replicate (31 - (length front + 0)) 0 in (
      front ++ 1 ∷ others,
      decimal 1 ++ more (suc id) others,
      record { lsn = 1; others = others; part = padded front 0 1 before.bounded (omega arith) (omega arith) (omega arith); spelled = refl },
    )

lsn_viable : (id lsn : ℕ) (front : List ℕ) → Before id front → 0 < lsn → lsn ≤ max_lsn → (clock text : List ℕ) × FitsLsn id lsn front clock text
lsn_viable id lsn front before some most =
    let l = before.long in
    let h = before.high in
    let others : List ℕ = replicate (31 - (length front + 0)) 0 in (
      front ++ lsn ∷ others,
      more (suc id) others,
      record {
        lsn = lsn;
        others = others;
        digits = [];
        part = padded front 0 lsn before.bounded (omega arith) some most;
        goes_on = sym (append-nil (decimal lsn));
        spelled = refl;
      },
    )

id_viable : (least id : ℕ) (front digits : List ℕ) (whole : ℕ) → Before least front → least ≤ whole → whole ≤ 31 → GoesOn id digits whole → (clock text : List ℕ) × FitsId least id front clock text
id_viable least id front digits whole before low high e =
    let l = before.long in
    let zeros : ℕ = whole - least in
    let same : whole ≡ least + (whole - least) = omega arith in
    let others : List ℕ = replicate (31 - (length front + (whole - least))) 0 in (
      front ++ (replicate (whole - least) 0 ++ 1 ∷ others),
      digits ++ 58 ∷ 32 ∷ (decimal 1 ++ more (suc (least + (whole - least))) others),
      record {
        zeros = whole - least;
        lsn = 1;
        others = others;
        digits = digits;
        part = padded front (whole - least) 1 before.bounded (omega arith) (omega arith) (omega arith);
        goes_on = ap decimal (sym same) ∙ e;
        spelled = refl;
      },
    )

begun_viable : (least id : ℕ) (front : List ℕ) → Before least front → id ≤ 31 → least ≤ greatest_id_from id → (clock text : List ℕ) × FitsId least id front clock text
begun_viable least id front before high begun = by_order (cases_lt id least)
  where
    g : (id ≤ greatest_id_from id) × (1 ≤ id → id ≤ 3 → greatest_id_from id ≡ 10 * id + 9) × (3 < id → greatest_id_from id ≡ id) × (greatest_id_from 0 ≡ 0)
    g = greatest id

    low : id < least → 3 < id → ⊥
    low below large = omega (arith, begun, g.2 large)

    some : id < least → 0 < id
    some below = by_zero id refl
      where
        by_zero : (n : ℕ) → id ≡ n → 0 < id
        by_zero (suc n) e = omega arith
        by_zero zero e = let z : greatest_id_from id ≡ 0 = ap greatest_id_from e ∙ g.3 in absurd (omega (arith, begun, below))

    by_order : (id < least) ⊎ (least ≤ id) → (clock text : List ℕ) × FitsId least id front clock text
    by_order (inr le) = id_viable least id front [] id before le high (sym (append-nil (decimal id)))
    by_order (inl below) = by_three (cases_lt id 3)
      where
        three : id ≤ 3
        three = by_large (cases_lt 3 id)
          where
            by_large : (3 < id) ⊎ (id ≤ 3) → id ≤ 3
            by_large (inl large) = absurd (low below large)
            by_large (inr le) = le

        by_three : (id < 3) ⊎ (3 ≤ id) → (clock text : List ℕ) × FitsId least id front clock text
        by_three (inl two) =
            let s = some below in
            let e = g.1 s three in
            id_viable least id front (57 ∷ []) (10 * id + 9) before (omega (arith, begun)) (omega arith) (digit_more id 9 s (omega arith) (omega arith))
        by_three (inr large) =
            let s = some below in
            let t = three in
            let h = before.high in
            id_viable least id front (49 ∷ []) (10 * id + 1) before (omega arith) (omega arith) (digit_more id 1 s (omega arith) (omega arith))

pub viable : (place : Place) (front : List ℕ) → Stands place front → (clock text : List ℕ) × Fits place front clock text
viable Start front s = (replicate 32 0, vclock_text (replicate 32 0), (empty_clock, refl))
viable Open front s = (replicate 32 0, first 0 (replicate 32 0), (empty_clock, refl))
viable (Comma least) front s = let v = next_viable least front s in (v.0, 32 ∷ v.1, (v.1, refl, v.2))
viable (Next least) front s = next_viable least front s
viable (Id least id) front s = begun_viable least id front s.0 s.1 s.2
viable (Colon id) front s = let v = named_viable id front s in (v.0, 32 ∷ v.1, (v.1, refl, v.2))
viable (Named id) front s = named_viable id front s
viable (Lsn id lsn) front s = lsn_viable id lsn front s.0 s.1 s.2
viable Done front s = (front, [], (s, refl, refl))
