-- How far a run has come, where the input tells what it has left.
use Rattle.std.proofs.Common.{◌≡◌, ℕ, List, [], ◌++◌, Some, get_or, slice_set, refl, sym, ap, ◌∙◌, subst, ◌∷◌, inl, inr}
use Rattle.std.specs.Prelude.{◌⊎◌, Option, Result, Ok, Err}
use Rattle.std.proofs.lemmas.List.{append-nil}
use Rattle.mx_outside.specs.Disks.{Disk}
use Rattle.mx_msgpack.proofs.Options.{same_some}
use Rattle.mx_directory.specs.declared.damage.Damage.{Damage}
use Rattle.mx_node.specs.declared.single.Single.{Single}
use Rattle.mx_top.specs.Units.{units_of}
use Rattle.mx_node.specs.Inputs.{InputUnit}
use Rattle.mx_node.specs.Serving.{Serves}
use Rattle.mx_node.specs.Starts.{Start}
use Rattle.mx_top.specs.declared.status.Status.{Status}
use Rattle.mx_top.specs.declared.status.Status.TheVariants as status
use Rattle.mx_top.specs.Runs.{Held, PlaceSeen, fault_place, status_by}
use Rattle.mx_top.specs.declared.stop.Stop.{Stop}
use Rattle.mx_top.specs.Progress.{ReadTo, Consumed, Wrote, UnitsSeen, LastStep, NextStep}
use Rattle.mx_store.proofs.StoreLaws.{lasts_none}
use Rattle.mx_top.proofs.ProgressLaws.{no_memory, stopped_after, untouched}

-- The input was read up to this place; and where the server had served nothing first, all of the output for the units read
-- was written.
pub record SoFar (input : List ℕ) (left : Option (List ℕ)) (waiting : List ℕ) (place : ℕ) (first server : Single) (old new : Held)
    (states now : Option (List Disk)) : Type 0 where
  pub rest : List ℕ
  pub left_is : left ≡ Some rest
  pub units : List InputUnit
  pub consumed : Consumed input waiting rest place units
  pub wrote : (start : Start) → Serves start first [] [] states → Wrote start server units old new states now

-- nothing was written yet
wrote_nothing : (start : Start) (server : Single) (old : Held) (states : Option (List Disk)) → Serves start server [] [] states
    → Wrote start server [] old old states states
wrote_nothing start server old states serves = record {
  history = [];
  sent = [];
  serves = serves;
  answers = (refl, refl);
  written = λ before was. was ∙ ap (λ l. Some l) (sym (append-nil before));
  passed = λ all. all;
  lasts = lasts_none start.base [] states;
}

-- nor was anything read
pub nothing_so_far : (input waiting : List ℕ) (left : Option (List ℕ)) (server : Single) (old : Held) (states : Option (List Disk))
    → left ≡ Some input → waiting ≡ []
    → SoFar input left waiting 0 server server old old states states
unfolding units_of
nothing_so_far input waiting left server old states told none = record {
  rest = input;
  left_is = told;
  units = [];
  consumed = record {
    bytes = [];
    all = refl;
    read = subst (λ (w : List ℕ). ReadTo [] w 0 []) (sym none) (record { all = refl; at = refl });
  };
  wrote = λ start serves. wrote_nothing start server old states serves;
}

-- one unit more
pub more_so_far : (input waiting rest : List ℕ) (left : Option (List ℕ)) (next : ℕ) (first server after : Single) (units : List InputUnit)
    (old middle new : Held)
    (states between now : Option (List Disk))
    → left ≡ Some rest → NextStep input waiting rest next server after units middle new between now
    → ((start : Start) → Serves start first [] [] states → Wrote start server units old middle states between)
    → SoFar input left waiting next first after old new states now
more_so_far input waiting rest left next first server after units old middle new states between now told on wrote = record {
  rest = rest;
  left_is = told;
  units = units ++ on.unit ∷ [];
  consumed = on.consumed;
  wrote = λ start serves. on.wrote start old states (wrote start serves);
}

-- nothing was read, written or done
pub begins_nothing : (start : Start) (input : List ℕ) (left : Option (List ℕ)) (server : Single) (old : Held) (states : Option (List Disk))
    → left ≡ Some input → Serves start server [] [] states → UnitsSeen status.NoMemory start input left old old states states
unfolding wrote_nothing units_of
begins_nothing start input left server old states told serves =
    stopped_after status.NoMemory no_memory start input left server [] (units_of input).0 old old states states states refl
    (λ rest is. record {
      read = [];
      all = same_some input rest (sym told ∙ is);
      waiting = [];
      whole = refl;
      awaited = tt;
    })
    (wrote_nothing start server old states serves) (untouched start server [] (units_of input).0 [] states serves)

-- what is left of the input, by another name
pub last_by : (ended : Result (Unit {0}) Stop) (input more : List ℕ) (left : Option (List ℕ)) (server after : Single) (units : List InputUnit)
    (old new : Held) (states now : Option (List Disk)) → left ≡ Some more → LastStep ended input (Some more) server after units old new states now
    → LastStep ended input left server after units old new states now
last_by ended input more left server after units old new states now told last =
    subst (λ l. LastStep ended input l server after units old new states now) (sym told) last

-- a run that no fault ended has the status that its input demands, or memory ran out, or the directory is corrupt or inconsistent
pub completes : (ended : Status) (input : List ℕ) (left : Option (List ℕ)) → PlaceSeen ended input left → (ended ≡ status.BadWords → ⊥)
    → (ended ≡ status.ReadFault → ⊥) → (ended ≡ status.WriteFault → ⊥) → (ended ≡ status.DiskFault → ⊥)
    → (ended ≡ status_by (fault_place input)) ⊎ (ended ≡ status.NoMemory) ⊎ ((damage : Damage) × (ended ≡ status.Damaged damage))
completes status.Ok input left place words reads writes disks = inl (sym (ap status_by place.0))
completes (status.BadInput at) input left place words reads writes disks = inl (sym (ap status_by place))
completes status.BadWords input left place words reads writes disks = absurd (words refl)
completes status.ReadFault input left place words reads writes disks = absurd (reads refl)
completes status.WriteFault input left place words reads writes disks = absurd (writes refl)
completes status.DiskFault input left place words reads writes disks = absurd (disks refl)
completes status.NoMemory input left place words reads writes disks = inr (inl refl)
completes (status.Damaged damage) input left place words reads writes disks = inr (inr (damage, refl))

-- a call that succeeded didn't fail
pub where_ok : {T E P : Type 0} {value : T} {error : E} → (Ok value ≡ Err error) ⊎ P → P
where_ok (inl failed) = absurd cc
where_ok (inr same) = same

-- the only one of a list, before and after it was changed
pub only_one : {X : Type 0} (items : List X) (before after found new : X) → items ≡ before ∷ [] → found ≡ get_or items 0 found
    → slice_set items 0 new ≡ after ∷ []
    → (found ≡ before) × (new ≡ after)
only_one items before after found new was here is =
    let changed : new ∷ [] ≡ after ∷ [] = ap (λ l. slice_set l 0 new) (sym was) ∙ is in
    let same : new ≡ after = cc in
    (here ∙ ap (λ l. get_or l 0 found) was, same)

-- the only one of a list is one
pub same_one : {X : Type 0} (items : List X) (one other : X) → items ≡ one ∷ [] → items ≡ other ∷ [] → one ≡ other
same_one items one other first second = cc
