-- Which vclocks' texts go on from a place, and how.
use Rattle.std.proofs.Common.{◌≡◌, ℕ, suc, ◌+◌, ◌-◌, ◌<◌, ◌≤◌, Option, Some, None, List, [], ◌∷◌, ◌++◌, length, replicate, refl, ap, subst, ◌∙◌, arith}
use Rattle.std.specs.Prelude.{All}
use Rattle.std.specs.Fmt.{decimal}
use Rattle.std.proofs.Math.ListN.{set}
use Rattle.std.proofs.lemmas.List.{length-append, length-replicate}
use Rattle.std.proofs.lemmas.List.Elements.{All-append, All-cons, All-head, All-replicate}
use Rattle.mx_vclock.specs.declared.place.Place.{Place}
use Rattle.mx_vclock.specs.declared.place.Place.TheVariants.{Start, Open, Comma, Next, Id, Colon, Named, Lsn, Done}
use Rattle.mx_vclock.specs.Vclocks.{IsVclock, max_lsn}
use Rattle.mx_vclock.specs.Places.{greatest_id_from}
use Rattle.mx_vclock.specs.Text.{vclock_text}
use Rattle.mx_vclock.proofs.Decimals.{GoesOn}
use Rattle.mx_vclock.proofs.Tails.{named, more, first}

abbrev pub Bounded : List ℕ → Type 0
Bounded = All (λ lsn. lsn ≤ max_lsn)

-- a vclock that goes on from these lsns by so many zeros and then this lsn
pub record Part (front : List ℕ) (zeros lsn : ℕ) (others clock : List ℕ) : Type 0 where
  pub sound : IsVclock clock
  pub is : clock ≡ front ++ (replicate zeros 0 ++ lsn ∷ others)
  pub some : 0 < lsn

pub record Bounds (front : List ℕ) (zeros lsn : ℕ) (others : List ℕ) : Type 0 where
  pub id : length front + zeros ≤ 31
  pub long : length others ≡ 31 - (length front + zeros)
  pub most : lsn ≤ max_lsn

pub all_right : (front back : List ℕ) → Bounded (front ++ back) → Bounded back
all_right [] back all = all
all_right (lsn ∷ front) back all = all_right front back (λ k d h. all (suc k) d (omega arith))

long_is : (front : List ℕ) (zeros lsn : ℕ) (others : List ℕ) → length (front ++ (replicate zeros 0 ++ lsn ∷ others)) ≡ length front + (zeros + suc (length others))
long_is front zeros lsn others =
    length-append front (replicate zeros 0 ++ lsn ∷ others)
    ∙ ap (λ n. length front + n) (length-append (replicate zeros 0) (lsn ∷ others) ∙ ap (λ n. n + suc (length others)) (length-replicate zeros 0))

pub part_bounds : (front : List ℕ) (zeros lsn : ℕ) (others clock : List ℕ) → Part front zeros lsn others clock → Bounds front zeros lsn others
part_bounds front zeros lsn others clock part =
    let whole : length clock ≡ 32 = part.sound.whole in
    let long : length clock ≡ length (front ++ (replicate zeros 0 ++ lsn ∷ others)) = ap length part.is in
    let long' : length (front ++ (replicate zeros 0 ++ lsn ∷ others)) ≡ length front + (zeros + suc (length others)) =
    long_is front zeros lsn others in
    let all : Bounded (lsn ∷ others) = all_right (replicate zeros 0) (lsn ∷ others) (all_right front (replicate zeros 0 ++ lsn ∷ others) (subst Bounded part.is part.sound.bounded)) in
    record { id = omega arith; long = omega arith; most = All-head (λ n. n ≤ max_lsn) lsn others all }

-- such a vclock with zeros appended
pub padded : (front : List ℕ) (zeros lsn : ℕ) → Bounded front → length front + zeros ≤ 31 → 0 < lsn → lsn ≤ max_lsn
    → Part front zeros lsn (replicate (31 - (length front + zeros)) 0) (front ++ (replicate zeros 0 ++ lsn ∷ replicate (31 - (length front + zeros)) 0))
padded front zeros lsn bounded high some most =
    let others : List ℕ = replicate (31 - (length front + zeros)) 0 in
    let small : 0 ≤ max_lsn = omega arith in
    record {
      sound = record {
        whole =
            let d : length others ≡ 31 - (length front + zeros) = length-replicate (31 - (length front + zeros)) 0 in
            let a : length (front ++ (replicate zeros 0 ++ lsn ∷ others)) ≡ length front + (zeros + suc (length others)) = long_is front zeros lsn others in
            omega arith;
        bounded =
            All-append (λ n. n ≤ max_lsn) front (replicate zeros 0 ++ lsn ∷ others) bounded
            (All-append (λ n. n ≤ max_lsn) (replicate zeros 0) (lsn ∷ others) (All-replicate (λ n. n ≤ max_lsn) zeros 0 small)
            (All-cons (λ n. n ≤ max_lsn) lsn others most (All-replicate (λ n. n ≤ max_lsn) (31 - (length front + zeros)) 0 small)));
      };
      is = refl;
      some = some;
    }

-- the lsns that were read, with zeros appended, at a place where these came before
abbrev pub lsns_at : Place → List ℕ → List ℕ
lsns_at Start front = replicate 32 0
lsns_at Open front = replicate 32 0
lsns_at (Comma least) front = front ++ replicate (32 - least) 0
lsns_at (Next least) front = front ++ replicate (32 - least) 0
lsns_at (Id least id) front = front ++ replicate (32 - least) 0
lsns_at (Colon id) front = front ++ replicate (32 - id) 0
lsns_at (Named id) front = front ++ replicate (32 - id) 0
lsns_at (Lsn id lsn) front = front ++ lsn ∷ replicate (31 - id) 0
lsns_at Done front = front

-- the lsns after a step to this place
abbrev pub noted : Place → List ℕ → List ℕ
noted (Lsn id lsn) lsns = set lsns id lsn
noted Start lsns = lsns
noted Open lsns = lsns
noted (Comma least) lsns = lsns
noted (Next least) lsns = lsns
noted (Id least id) lsns = lsns
noted (Colon id) lsns = lsns
noted (Named id) lsns = lsns
noted Done lsns = lsns

-- the lsns before an id
pub record Before (id : ℕ) (front : List ℕ) : Type 0 where
  pub long : length front ≡ id
  pub high : id ≤ 31
  pub bounded : Bounded front

-- the place can be reached with these lsns before
abbrev pub Stands : Place → List ℕ → Type 0
Stands Start front = Unit {0}
Stands Open front = Unit {0}
Stands (Comma least) front = Before least front
Stands (Next least) front = Before least front
Stands (Id least id) front = Before least front × (id ≤ 31) × (least ≤ greatest_id_from id)
Stands (Colon id) front = Before id front
Stands (Named id) front = Before id front
Stands (Lsn id lsn) front = Before id front × (0 < lsn) × (lsn ≤ max_lsn)
Stands Done front = IsVclock front

-- an id's digits go on with these, and then its lsn and the rest follow
pub record FitsId (least id : ℕ) (front clock text : List ℕ) : Type 0 where
  pub zeros : ℕ
  pub lsn : ℕ
  pub others : List ℕ
  pub digits : List ℕ
  pub part : Part front zeros lsn others clock
  pub goes_on : GoesOn id digits (least + zeros)
  pub spelled : digits ++ 58 ∷ 32 ∷ (decimal lsn ++ more (suc (least + zeros)) others) ≡ text

-- a component follows
pub record FitsNext (least : ℕ) (front clock text : List ℕ) : Type 0 where
  pub zeros : ℕ
  pub lsn : ℕ
  pub others : List ℕ
  pub part : Part front zeros lsn others clock
  pub spelled : named (least + zeros) lsn (more (suc (least + zeros)) others) ≡ text

-- the lsn of an id follows
pub record FitsNamed (id : ℕ) (front clock text : List ℕ) : Type 0 where
  pub lsn : ℕ
  pub others : List ℕ
  pub part : Part front 0 lsn others clock
  pub spelled : decimal lsn ++ more (suc id) others ≡ text

-- an lsn's digits go on with these, and then the rest follows
pub record FitsLsn (id number : ℕ) (front clock text : List ℕ) : Type 0 where
  pub lsn : ℕ
  pub others : List ℕ
  pub digits : List ℕ
  pub part : Part front 0 lsn others clock
  pub goes_on : GoesOn number digits lsn
  pub spelled : digits ++ more (suc id) others ≡ text

-- after a blank
abbrev pub AfterBlank : (List ℕ → Type 0) → List ℕ → Type 0
AfterBlank F text = (rest : List ℕ) × (32 ∷ rest ≡ text) × F rest

-- from this place the clock's text goes on with this one to its end
abbrev pub Fits : Place → List ℕ → List ℕ → List ℕ → Type 0
Fits Start front clock text = IsVclock clock × (vclock_text clock ≡ text)
Fits Open front clock text = IsVclock clock × (first 0 clock ≡ text)
Fits (Comma least) front clock text = AfterBlank (FitsNext least front clock) text
Fits (Next least) front clock text = FitsNext least front clock text
Fits (Id least id) front clock text = FitsId least id front clock text
Fits (Colon id) front clock text = AfterBlank (FitsNamed id front clock) text
Fits (Named id) front clock text = FitsNamed id front clock text
Fits (Lsn id lsn) front clock text = FitsLsn id lsn front clock text
Fits Done front clock text = IsVclock clock × (clock ≡ front) × ([] ≡ text)

-- what a step is to do that keeps the texts of `F`, with the lsns as they were
abbrev pub Outcome : (List ℕ → List ℕ → Type 0) → List ℕ → Option Place → Type 0
Outcome F lsns None = (clock text : List ℕ) → F clock text → ⊥
Outcome F lsns (Some place) =
    (front : List ℕ) × (lsns_at place front ≡ noted place lsns) × Stands place front
    × ((clock text : List ℕ) → F clock text → Fits place front clock text) × ((clock text : List ℕ) → Fits place front clock text → F clock text)
