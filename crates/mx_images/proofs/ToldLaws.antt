-- What calls on a directory, one after the other, make of its newest state.
use Rattle.std.proofs.Common.{◌≡◌, ℕ, List, [], ◌∷◌, Option, Some, None, refl, sym, ap, ◌∙◌}
use Rattle.mx_outside.specs.Disks.{Disk, IfKnown, KnownAlike, Became}
use mathlib.Core.Path.{subst}
use Rattle.mx_images.specs.Changes.{Changed, with_draft, renamed_durably, IsNow}

pub told_weaker : (states : Option (List Disk)) {P Q : Disk → List Disk → Type 0}
    → ((disk : Disk) (past : List Disk) → P disk past → Q disk past) → IfKnown states P → IfKnown states Q
told_weaker None weaker shown = tt
told_weaker (Some []) weaker shown = tt
told_weaker (Some (disk ∷ past)) weaker shown = weaker disk past shown

-- two facts of the newest state
pub told_both : (states : Option (List Disk)) {P Q R : Disk → List Disk → Type 0}
    → ((disk : Disk) (past : List Disk) → P disk past → Q disk past → R disk past) → IfKnown states P → IfKnown states Q → IfKnown states R
told_both None both p q = tt
told_both (Some []) both p q = tt
told_both (Some (disk ∷ past)) both p q = both disk past p q

-- what is to be shown of the newest state
pub where_told : (states : Option (List Disk)) (P : Disk → List Disk → Type 0)
    → ((disk : Disk) (past : List Disk) → states ≡ Some (disk ∷ past) → P disk past) → IfKnown states P
where_told None P shown = tt
where_told (Some []) P shown = tt
where_told (Some (disk ∷ past)) P shown = shown disk past refl

pub told_nothing : (states : Option (List Disk)) → IfKnown states (λ disk past. Unit {0})
told_nothing None = tt
told_nothing (Some []) = tt
told_nothing (Some (disk ∷ past)) = tt

-- a call that answered `Ok` made its change
pub became_changed : (change : Disk → Disk) (before after : Option (List Disk))
    → IfKnown before (λ disk past. Became after (change disk) disk past) → Changed change before after
became_changed change before after = told_weaker before (λ disk past became. (change disk, disk ∷ past, became, refl))

then_now : (first second : Disk → Disk) (middle after : Option (List Disk)) → Changed second middle after → (disk : Disk)
    → IsNow middle (λ now. now ≡ first disk) → IsNow after (λ now. now ≡ second (first disk))
then_now first second middle after changed disk (now, past, is, same) =
    let made : Changed second (Some (now ∷ past)) after = rw is at changed in
    (made.0, made.1, made.2, made.3 ∙ ap second same)

-- one call, and then another one
pub then_changed : (first second : Disk → Disk) (before middle after : Option (List Disk)) → Changed first before middle → Changed second middle after
    → Changed (λ disk. second (first disk)) before after
then_changed first second before middle after one two = told_weaker before (λ disk past. then_now first second middle after two disk) one

-- what holds of each change of a state holds of the newest one
pub now_changed : (next : Disk) (after : Option (List Disk)) {P : Disk → Type 0} → IsNow after (λ now. now ≡ next) → P next → IsNow after P
now_changed next after (now, past, is, same) shown = (now, past, is, rw same shown)

-- what is known after a call on a directory whose states were known before it
pub told_then : (before after : Option (List Disk)) (P : Disk → List Disk → Type 0) → KnownAlike before after
    → IfKnown before (λ disk past. IfKnown after P) → IfKnown after P
told_then before after P alike shown = where_told after P (λ disk past told.
    let was = alike.1 (disk, past, told) in
    subst (λ states. IfKnown states P) told (subst (λ states. IfKnown states (λ d p. IfKnown after P)) was.2 shown))

now_told : (after : Option (List Disk)) {P : Disk → Type 0} → IsNow after P → IfKnown after (λ disk past. P disk)
now_told after (now, past, is, shown) = rw is shown

pub told_now : (before after : Option (List Disk)) (P : Disk → Type 0) → KnownAlike before after → IfKnown before (λ disk past. IsNow after P)
    → IfKnown after (λ disk past. P disk)
told_now before after P alike now = told_then before after (λ disk past. P disk) alike (told_weaker before (λ disk past. now_told after) now)

-- what a change makes of a fact of the newest state
pub told_after : (change : Disk → Disk) (before after : Option (List Disk)) (P Q : Disk → Type 0) → KnownAlike before after → Changed change before after
    → IfKnown before (λ disk past. P disk) → ((disk : Disk) → P disk → Q (change disk)) → IfKnown after (λ disk past. Q disk)
told_after change before after P Q alike changed shown step =
    told_now before after Q alike
    (told_both before (λ disk past changed shown. now_changed (change disk) after changed (step disk shown)) changed shown)

-- what is known of a directory that is as it was is known as before
pub told_same : (before after : Option (List Disk)) → after ≡ before → KnownAlike before after
told_same before after same = subst (KnownAlike before) (sym same) (λ told. told, λ told. told)

pub told_chain : (before middle after : Option (List Disk)) → KnownAlike before middle → KnownAlike middle after → KnownAlike before after
told_chain before middle after one two = (λ told. two.0 (one.0 told), λ told. one.1 (two.1 told))

-- a draft that was made, and then got its name
pub made_changed : (wanted draft again name bytes : List ℕ) (before middle after : Option (List Disk)) → draft ≡ wanted → again ≡ wanted
    → Changed (with_draft draft bytes) before middle → Changed (renamed_durably again name) middle after
    → Changed (λ disk. renamed_durably wanted name (with_draft wanted bytes disk)) before after
made_changed wanted draft again name bytes before middle after one two made put =
    then_changed (with_draft wanted bytes) (renamed_durably wanted name) before middle after
    (subst (λ d. Changed (with_draft d bytes) before middle) one made) (subst (λ d. Changed (renamed_durably d name) middle after) two put)
