-- The states that a directory had during calls, one after the other.
use Rattle.std.proofs.Common.{◌≡◌, ℕ, List, [], ◌∷◌, ◌++◌, length, take, Option, Some, None, Result, Ok, Err, MatchResult, ◌⊎◌, inl, inr, refl, sym, ap, ◌∙◌, append_assoc, arith}
use Rattle.std.specs.Prelude.{⊤}
use Rattle.std.proofs.lemmas.List.{length-append, take_all, take_at}
use mathlib.Core.Path.{subst}
use Rattle.mx_msgpack.proofs.Options.{same_some}
use Rattle.mx_outside.specs.Disks.{Disk, IfKnown, Makes, MayMake, Became, Stayed, appended}
use Rattle.mx_outside.specs.Moments.{Moments, Each, newest}
use Rattle.mx_images.specs.Changes.{with_appended}
use Rattle.mx_images.proofs.ToldLaws.{told_weaker, where_told}

-- ---- the states of a call or two

module _ (P : Disk → Type 0) (R : Disk → Disk → Type 0) where
  pub moments_none : (new : Option (List Disk)) (start : Disk) (past : List Disk) → Stayed new start past → Moments P R new start past
  moments_none new start past stayed = record { since = []; told = stayed; each = tt }

  pub moments_one : (next : Disk) (new : Option (List Disk)) (start : Disk) (past : List Disk) → P next → R start next → Became new next start past
      → Moments P R new start past
  moments_one next new start past here came became = record { since = next ∷ []; told = became; each = (here, came, tt) }

  -- one state more, or none
  pub moments_may : (next : Disk) (new : Option (List Disk)) (start : Disk) (past : List Disk) → P next → R start next
      → Stayed new start past ⊎ Became new next start past → Moments P R new start past
  moments_may next new start past here came (inl stayed) = moments_none new start past stayed
  moments_may next new start past here came (inr became) = moments_one next new start past here came became

  pub moments_two : (first second : Disk) (new : Option (List Disk)) (start : Disk) (past : List Disk) → P first → R start first → P second → R first second
      → new ≡ Some (second ∷ first ∷ start ∷ past) → Moments P R new start past
  moments_two first second new start past there before here came told =
      record { since = second ∷ first ∷ []; told = told; each = (here, came, (there, before, tt)) }

-- a call that changed nothing
pub no_moments : (P : Disk → Disk → Type 0) (R : Disk → Disk → Type 0) (states : Option (List Disk))
    → IfKnown states (λ disk past. Moments (P disk) R states disk past)
no_moments P R states = where_told states _ (λ disk past. moments_none (P disk) R states disk past)

-- ---- one call, and then another one

newest-append : (since earlier : List Disk) (start : Disk) → newest (since ++ earlier) start ≡ newest since (newest earlier start)
newest-append [] earlier start = refl
newest-append (disk ∷ since) earlier start = refl

module _ (P : Disk → Type 0) (R : Disk → Disk → Type 0) where
  each-append : (since earlier : List Disk) (start : Disk) → Each P R since (newest earlier start) → Each P R earlier start
      → Each P R (since ++ earlier) start
  each-append [] earlier start these others = others
  each-append (disk ∷ since) earlier start these others = (
    these.0,
    subst (λ before. R before disk) (sym (newest-append since earlier start)) these.1,
    each-append since earlier start these.2 others,
  )

  after : (since : List Disk) (start : Disk) (past : List Disk) (middle new : Option (List Disk)) → middle ≡ Some (since ++ start ∷ past)
      → Each P R since start → IfKnown middle (λ disk past. Moments P R new disk past) → Moments P R new start past
  after [] start past middle new is each later = subst (λ states. IfKnown states (λ disk past. Moments P R new disk past)) is later
  after (disk ∷ since) start past middle new is each later =
      let next : Moments P R new disk (since ++ start ∷ past) = subst (λ states. IfKnown states (λ disk past. Moments P R new disk past)) is later in
      record {
        since = next.since ++ disk ∷ since;
        told = next.told ∙ ap Some (sym (append_assoc next.since (disk ∷ since) (start ∷ past)));
        each = each-append next.since (disk ∷ since) start next.each each;
      }

  -- a call, and then another one
  pub joined : (old middle new : Option (List Disk)) → IfKnown old (λ disk past. Moments P R middle disk past)
      → IfKnown middle (λ disk past. Moments P R new disk past) → IfKnown old (λ disk past. Moments P R new disk past)
  joined None middle new one two = tt
  joined (Some []) middle new one two = tt
  joined (Some (disk ∷ past)) middle new one two = after one.since disk past middle new one.told one.each two

  -- what no change takes away is there at the end
  pub kept : (Q : Disk → Type 0) → ((older newer : Disk) → R older newer → Q older → Q newer)
      → (new : Option (List Disk)) (start : Disk) (past : List Disk) → Moments P R new start past → Q start → IfKnown new (λ disk past. Q disk)
  kept Q keeps new start past m holds =
      subst (λ states. IfKnown states (λ disk past. Q disk)) (sym m.told) (at_newest m.since m.each)
    where
      on : (since : List Disk) → Each P R since start → Q (newest since start)
      on [] each = holds
      on (disk ∷ since) each = keeps (newest since start) disk each.1 (on since each.2)

      at_newest : (since : List Disk) → Each P R since start → IfKnown (Some (since ++ start ∷ past)) (λ disk past. Q disk)
      at_newest [] each = holds
      at_newest (disk ∷ since) each = on (disk ∷ since) each

-- ---- what is weaker

-- a call whose states have less, by steps that are weaker from states of which this is known
pub weaker_from : {P Q Known : Disk → Type 0} {R S : Disk → Disk → Type 0} → ((disk : Disk) → P disk → Known disk × Q disk)
    → ((older newer : Disk) → Known older → P newer → R older newer → S older newer)
    → (new : Option (List Disk)) (start : Disk) (past : List Disk) → Known start → Moments P R new start past → Moments Q S new start past
weaker_from {P} {Q} {Known} {R} {S} states steps new start past first m = record { since = m.since; told = m.told; each = each m.since m.each }
  where
    before : (since : List Disk) → Each P R since start → Known (newest since start)
    before [] all = first
    before (disk ∷ since) all = (states disk all.0).0

    each : (since : List Disk) → Each P R since start → Each Q S since start
    each [] all = tt
    each (disk ∷ since) all = ((states disk all.0).1, steps (newest since start) disk (before since all.2) all.0 all.1, each since all.2)

-- the same by steps that are weaker from any state
pub weaker : {P Q : Disk → Type 0} {R S : Disk → Disk → Type 0} → ((disk : Disk) → P disk → Q disk)
    → ((older newer : Disk) → P newer → R older newer → S older newer)
    → (new : Option (List Disk)) (start : Disk) (past : List Disk) → Moments P R new start past → Moments Q S new start past
weaker states steps new start past =
    weaker_from {Known = λ disk. ⊤} (λ disk here. (tt, states disk here)) (λ older newer known. steps older newer) new start past tt

-- ---- what comes from each state by steps

module _ (R : Disk → Disk → Type 0) (itself : (disk : Disk) → R disk disk)
    (chain : (first second third : Disk) → R first second → R second third → R first third) where
  each_from : (P : Disk → Type 0) (since : List Disk) (start : Disk) → Each P R since start → Each (R start) R since start × R start (newest since start)
  each_from P [] start none = (tt, itself start)
  each_from P (disk ∷ since) start each =
      let before = each_from P since start each.2 in
      let now = chain start (newest since start) disk before.1 each.1 in
      ((now, each.1, before.0), now)

  -- each state comes from the first one
  pub seen_from : (P : Disk → Type 0) (new : Option (List Disk)) (start : Disk) (past : List Disk) → Moments P R new start past → Moments (R start) R new start past
  seen_from P new start past m = record { since = m.since; told = m.told; each = (each_from P m.since start m.each).0 }

  any_from : (new : Option (List Disk)) (start : Disk) (past : List Disk) → Moments (R start) R new start past → Moments (λ disk. ⊤) R new start past
  any_from new start past = weaker (λ disk came. tt) (λ older newer came step. step) new start past

  -- a call, and then another one
  pub joined_from : (old middle new : Option (List Disk)) → IfKnown old (λ disk past. Moments (R disk) R middle disk past)
      → IfKnown middle (λ disk past. Moments (R disk) R new disk past) → IfKnown old (λ disk past. Moments (R disk) R new disk past)
  joined_from old middle new one two =
      told_weaker old (λ disk past. seen_from (λ other. ⊤) new disk past)
      (joined (λ other. ⊤) R old middle new (told_weaker old (any_from middle) one) (told_weaker middle (any_from new) two))

-- ---- two facts of the same states

same_front : (one other rest : List Disk) → one ++ rest ≡ other ++ rest → one ≡ other
same_front one other rest is =
    let long : length one ≡ length other = omega (arith, ap length is, length-append one rest, length-append other rest) in
    sym (take_at one rest (length one) refl) ∙ ap (take (length one)) is ∙ ap (λ (n : ℕ). take n (other ++ rest)) long
    ∙ take_at other rest (length other) refl

module _ (P Q : Disk → Type 0) (R S : Disk → Disk → Type 0) where
  each_both : (since : List Disk) (start : Disk) → Each P R since start → Each Q S since start
      → Each (λ state. P state × Q state) (λ older newer. R older newer × S older newer) since start
  each_both [] start one other = tt
  each_both (disk ∷ since) start one other = ((one.0, other.0), (one.1, other.1), each_both since start one.2 other.2)

  pub both_moments : (new : Option (List Disk)) (start : Disk) (past : List Disk) → Moments P R new start past → Moments Q S new start past
      → Moments (λ state. P state × Q state) (λ older newer. R older newer × S older newer) new start past
  both_moments new start past one other =
      let same : one.since ≡ other.since = same_front one.since other.since (start ∷ past)
      (same_some (one.since ++ start ∷ past) (other.since ++ start ∷ past) (sym one.told ∙ other.told)) in
      record {
        since = one.since;
        told = one.told;
        each = each_both one.since start one.each (subst (λ since. Each Q S since start) (sym same) other.each);
      }

-- ---- calls of which only the steps matter

-- each state since comes by R from the one before it
abbrev pub Steps : (Disk → Disk → Type 0) → (old new : Option (List Disk)) → Type 0
Steps R old new = IfKnown old (λ disk past. Moments (λ state. ⊤) R new disk past)

module _ (R : Disk → Disk → Type 0) where
  pub steps_none : (states : Option (List Disk)) → Steps R states states
  steps_none states = no_moments (λ start state. ⊤) R states

  -- a call that changed nothing
  pub steps_same : (old new : Option (List Disk)) → new ≡ old → Steps R old new
  steps_same old new is = subst (Steps R old) (sym is) (steps_none old)

  -- one call, and then another one
  pub steps_then : (old middle new : Option (List Disk)) → Steps R old middle → Steps R middle new → Steps R old new
  steps_then old middle new = joined (λ state. ⊤) R old middle new

  pub makes_steps : {T E : Type 0} (change : Disk → Disk) → ((disk : Disk) → R disk (change disk)) → (old new : Option (List Disk)) (result : Result T E)
      → Makes change old new result → Steps R old new
  makes_steps change step None new result makes = tt
  makes_steps change step (Some []) new result makes = tt
  makes_steps change step (Some (disk ∷ past)) new (Ok value) became = moments_one _ _ (change disk) new disk past tt (step disk) became
  makes_steps change step (Some (disk ∷ past)) new (Err error) stayed = moments_none _ _ new disk past stayed

  pub may_make_steps : {T E : Type 0} (change : Disk → Disk) → ((disk : Disk) → R disk (change disk)) → (old new : Option (List Disk)) (result : Result T E)
      → MayMake change old new result → Steps R old new
  may_make_steps change step None new result makes = tt
  may_make_steps change step (Some []) new result makes = tt
  may_make_steps change step (Some (disk ∷ past)) new (Ok value) became = moments_one _ _ (change disk) new disk past tt (step disk) became
  may_make_steps change step (Some (disk ∷ past)) new (Err error) made = moments_may _ _ (change disk) new disk past tt (step disk) made

-- ---- bytes that are put at the end of a file, and synced

module _ (P : Disk → Type 0) (R : Disk → Disk → Type 0) (name more : List ℕ) (disk : Disk)
    (put : (count : ℕ) → P (appended name (take count more) disk) × R disk (appended name (take count more) disk))
    (synced : P (with_appended name more disk) × R (appended name more disk) (with_appended name more disk)) where
  all_put : P (appended name more disk) × R disk (appended name more disk)
  all_put =
      subst (λ bytes. P (appended name bytes disk) × R disk (appended name bytes disk)) (take_all (length more) more (omega arith)) (put (length more))

  -- at an error a prefix of them may have been put there
  pub while_appended : {T E : Type 0} (new : Option (List Disk)) (past : List Disk) (result : Result T E)
      → MatchResult result (λ value. new ≡ Some (with_appended name more disk ∷ appended name more disk ∷ disk ∷ past))
      (λ error. Stayed new disk past ⊎ ((count : ℕ) × Became new (appended name (take count more) disk) disk past))
      → Moments P R new disk past
  while_appended new past (Ok value) told =
      moments_two P R (appended name more disk) (with_appended name more disk) new disk past all_put.0 all_put.1 synced.0 synced.1 told
  while_appended new past (Err error) (inl stayed) = moments_none P R new disk past stayed
  while_appended new past (Err error) (inr (count, became)) =
      moments_one P R (appended name (take count more) disk) new disk past (put count).0 (put count).1 became
