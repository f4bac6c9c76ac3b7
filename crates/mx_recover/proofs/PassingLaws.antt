-- What a turn more makes of a pass over the names of a directory.
use Rattle.std.proofs.Common.{◌≡◌, ℕ, Bool, true, false, List, [], ◌∷◌, Option, Some, None, Result, Ok, Err, IsSome, MatchResult, OnOk, refl, sym, ap, subst, ◌∙◌, ◌⊎◌}
use Rattle.std.specs.FinMap as finite
use Rattle.mx_outside.specs.Disks.{Disk, IfKnown, KnownAlike, IsThere, Makes, MayMake, Became, Stayed}
use Rattle.mx_images.specs.Changes.{IsNow}
use Rattle.mx_recover.specs.Turns.{after_turn, after_turns, AreThere, Reaches}

-- what is to be shown of the newest state
pub where_told : {P : Disk → List Disk → Type 0} → (states : Option (List Disk))
    → ((disk : Disk) (past : List Disk) → states ≡ Some (disk ∷ past) → P disk past) → IfKnown states P
where_told None shown = tt
where_told (Some []) shown = tt
where_told (Some (disk ∷ past)) shown = shown disk past refl

-- what is known of it
pub at_told : (P : Disk → List Disk → Type 0) (states : Option (List Disk)) (disk : Disk) (past : List Disk)
    → states ≡ Some (disk ∷ past) → IfKnown states P → P disk past
at_told P states disk past told known = subst (λ s. IfKnown s P) told known

first_of : List Disk → Disk → Disk
first_of [] other = other
first_of (disk ∷ past) other = disk

newest_of : Option (List Disk) → Disk → Disk
newest_of None other = other
newest_of (Some states) other = first_of states other

pub at_now : {P : Disk → Type 0} → (states : Option (List Disk)) (disk : Disk) (past : List Disk)
    → states ≡ Some (disk ∷ past) → IsNow states P → P disk
unfolding first_of newest_of
at_now {P} states disk past told now =
    let same : now.0 ≡ disk = ap (λ s. newest_of s disk) (sym now.2 ∙ told) in
    subst P same now.3

-- `Reaches` at `Ok`
abbrev pub Reached : (Disk → Disk) → (before now : Option (List Disk)) → Type 0
Reached change before now = IfKnown before (λ disk past. IsNow now (λ next. next ≡ change disk))

-- a pass that has these names yet to come, and began with all of them
pub record Underway (kind : List ℕ → Bool) (change : List ℕ → Disk → Disk) (before now : Option (List Disk)) (names rest : List (List ℕ)) : Type 0 where
  pub told : KnownAlike before now
  pub place : IfKnown before (λ disk past. IsNow now (λ next.
      AreThere kind change rest next × (after_turns kind change rest next ≡ after_turns kind change names disk)))

pub alike_itself : (states : Option (List Disk)) → KnownAlike states states
alike_itself states = (λ told. told, λ told. told)

pub alike_then : (before now next : Option (List Disk)) → KnownAlike before now → KnownAlike now next → KnownAlike before next
alike_then before now next first second = (λ told. second.0 (first.0 told), λ told. first.1 (second.1 told))

module _ (kind : List ℕ → Bool) (change : List ℕ → Disk → Disk) where
  turned : (name : List ℕ) (disk : Disk) → kind name ≡ true → change name disk ≡ after_turn kind change name disk
  turned name disk is = rw is refl

  passed : (name : List ℕ) (disk : Disk) → kind name ≡ false → disk ≡ after_turn kind change name disk
  passed name disk is = rw is refl

  -- a name of the kind is changed
  pub made : {T E : Type 0} → (name : List ℕ) (before now : Option (List Disk)) (result : Result T E) → kind name ≡ true
      → Makes (change name) before now result → Reaches (after_turn kind change name) before now result
  made {T} {E} name before now result is makes = where_told before (λ disk past told. by_result disk past result (at_told _ before disk past told makes))
    where
      by_result : (disk : Disk) (past : List Disk) (r : Result T E)
          → MatchResult r (λ value. Became now (change name disk) disk past) (λ error. Stayed now disk past)
          → OnOk r (IsNow now (λ next. next ≡ after_turn kind change name disk))
      by_result disk past (Ok value) became = (change name disk, disk ∷ past, became, turned name disk is)
      by_result disk past (Err error) stayed = tt

  pub may_made : {T E : Type 0} → (name : List ℕ) (before now : Option (List Disk)) (result : Result T E) → kind name ≡ true
      → MayMake (change name) before now result → Reaches (after_turn kind change name) before now result
  may_made {T} {E} name before now result is makes = where_told before (λ disk past told. by_result disk past result (at_told _ before disk past told makes))
    where
      by_result : (disk : Disk) (past : List Disk) (r : Result T E)
          → MatchResult r (λ value. Became now (change name disk) disk past) (λ error. Stayed now disk past ⊎ Became now (change name disk) disk past)
          → OnOk r (IsNow now (λ next. next ≡ after_turn kind change name disk))
      by_result disk past (Ok value) became = (change name disk, disk ∷ past, became, turned name disk is)
      by_result disk past (Err error) stayed = tt

  -- and another one is not
  pub left : (name : List ℕ) (states : Option (List Disk)) → kind name ≡ false → Reached (after_turn kind change name) states states
  left name states is = where_told states (λ disk past told. (disk, past, told, passed name disk is))

  pub begins : (states : Option (List Disk)) (names : List (List ℕ)) → IfKnown states (λ disk past. AreThere kind change names disk)
      → Underway kind change states states names names
  begins states names there = record {
    told = alike_itself states;
    place = where_told states (λ disk past told. (disk, past, told, (at_told _ states disk past told there, refl)));
  }

  -- the next name is there
  pub is_there : (before now : Option (List Disk)) (names rest others : List (List ℕ)) (name called : List ℕ) → rest ≡ name ∷ others → called ≡ name
      → Underway kind change before now names rest → IsThere now called
  is_there before now names rest others name called next same way = where_told now (λ disk past told.
      let was = way.told.1 (disk, past, told) in
      let place = subst (λ names_left. Underway kind change before now names names_left) next way in
      subst (λ n. IsSome (finite.get disk.now n)) (sym same) (at_now now disk past told (at_told _ before was.0 was.1 was.2 place.place)).0.0)

  -- and the others come after its turn
  pub goes_on : (before now after : Option (List Disk)) (names rest others : List (List ℕ)) (name called : List ℕ) → rest ≡ name ∷ others → called ≡ name
      → Underway kind change before now names rest → KnownAlike now after → Reached (after_turn kind change called) now after
      → Underway kind change before after names others
  goes_on before now after names rest others name called next same way alike turn = record {
    told = alike_then before now after way.told alike;
    place = where_told before (λ disk past told.
        let place = subst (λ names_left. Underway kind change before now names names_left) next way in
        let known = at_told _ before disk past told place.place in
        let made = at_told _ now known.0 known.1 known.2 turn in
        let is : made.0 ≡ after_turn kind change name known.0 = made.3 ∙ ap (λ n. after_turn kind change n known.0) same in (
          made.0,
          made.1,
          made.2,
          subst (λ d. AreThere kind change others d × (after_turns kind change others d ≡ after_turns kind change names disk))
              (sym is) (known.3.0.1, known.3.1),
        ));
  }

  -- no name is yet to come
  pub ends : (before now : Option (List Disk)) (names rest : List (List ℕ)) → rest ≡ [] → Underway kind change before now names rest
      → Reached (after_turns kind change names) before now
  ends before now names rest none way = where_told before (λ disk past told.
      let place = subst (λ names_left. Underway kind change before now names names_left) none way in
      let known = at_told _ before disk past told place.place in
      (known.0, known.1, known.2, known.3.1))
