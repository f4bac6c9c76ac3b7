-- What the calls make of what their steps tell.
use Rattle.std.proofs.Common.{◌≡◌, ℕ, ◌+◌, ◌/◌, ◌%◌, ◌^◌, ◌<◌, Bool, true, false, List, [], ◌∷◌, length, sym, refl, ap, ◌∙◌, subst, arith, Option, Some, None}
use Rattle.std.specs.declared.snapshot.Snapshot.{Snapshot}
use mathlib.Core.Option.{some, some-injective}
use lib.ListN.{get_elem?}
use Rattle.atomic_table.specs.Table.{Allows, Final, Me, Seen, opening, rest}
use Rattle.mx_turn.specs.declared.view.View.{View}
use Rattle.mx_turn.specs.declared.rule.SlotValue.{SlotValue}
use Rattle.mx_turn.specs.Views.{AreSame, IsWhole, all_places, first_view, places}
use Rattle.mx_turn.specs.Rule.{max_count}
use Rattle.mx_turn.specs.Seats.{HasTaken, IsClosed, IsIdle}
use Rattle.mx_turn.specs.Steps.{Compares, Gives, Takes, with_told}
use Rattle.mx_turn.proofs.RuleLaws.{Rule, whole}
use Rattle.mx_turn.proofs.StepLaws.{closes, compares, gives_back, starts}

module _ {B E T : Type 0} (N : Type 0) (Over : B → T → List E → Type 0) (is_alone is_call : E → Bool) where
  abbrev M : Type 0
  M = Me (Option (SlotValue T N)) (View B E)

  -- a turn that was found free has its value in the seat's hand
  pub in_hand : (old middle : M) (n : ℕ) → Takes Over is_alone is_call old n middle → n % 2 ≡ 0 → n / 2 < max_count
      → (slot : Option (SlotValue T N)) × (middle.1 ≡ (0, slot) ∷ rest middle.1)
  in_hand old middle n step even room = let t = step.free even room in
      (Some t.kept, ap (λ (m : M). m.1) t.after ∙ ap (λ (l : List (ℕ × Option (SlotValue T N))). (0, Some t.kept) ∷ l) (sym (ap (λ (m : M). rest m.1) t.after)))

  abbrev slot_or : Option (SlotValue T N) → List (ℕ × Option (SlotValue T N)) → Option (SlotValue T N)
  slot_or other [] = other
  slot_or other (x ∷ xs) = x.1

  pub in_hand_is : (old middle : M) (n : ℕ) (slot : Option (SlotValue T N)) → (step : Takes Over is_alone is_call old n middle) (even : n % 2 ≡ 0) (room : n / 2 < max_count)
      → middle.1 ≡ (0, slot) ∷ rest middle.1 → slot ≡ Some (step.free even room).kept
  in_hand_is old middle n slot step even room is = let t = step.free even room in ap (slot_or None) (sym is) ∙ ap (λ (m : M). slot_or None m.1) t.after

  pub taken : (old middle new : M) (n : ℕ) (slot : Option (SlotValue T N)) (kept : SlotValue T N) → IsIdle old → Takes Over is_alone is_call old n middle → n % 2 ≡ 0 → n / 2 < max_count
      → middle.1 ≡ (0, slot) ∷ rest middle.1 → new ≡ (middle.0, (0, None) ∷ rest middle.1) → slot ≡ Some kept → HasTaken Over is_alone is_call old new kept.value
  taken old middle new n slot kept idle step even room is after found = let t = step.free even room in
      let same : slot ≡ Some t.kept = in_hand_is old middle n slot step even room is in let one : t.kept ≡ kept = (cc) in
      let view = ap (λ (m : M). m.0) t.after in let none_left = ap (λ (m : M). rest m.1) t.after ∙ idle.1 in
      subst (λ (m : M). HasTaken Over is_alone is_call old m kept.value) (sym (after ∙ (λ i. (view i, (0, None) ∷ none_left i)))) record {
        since = t.since;
        alone = t.alone;
        view = refl;
        holding = (refl, refl, idle.2);
        stands = subst (λ (x : SlotValue T N × List E). Over old.0.base x.0.value x.1) (λ i. (one i, (view i).seen)) t.stands;
        room = let l = ap (λ (v : View B E). length v.seen) view in let c = t.count in omega arith;
        whole = subst (IsWhole is_call) view t.whole;
      }

  pub gives_held : (start : B) (all : ℕ) (entry_of : N → E) (slots id : ℕ) (v : View B E) (m : M) (kept : SlotValue T N) (note : Snapshot N) → m ≡ (v, (0, Some kept) ∷ []) → v.holds ≡ true → 0 < v.parts → kept.note ≡ Some note
      → Over v.base kept.value (entry_of note.value ∷ v.seen) → (is_alone (entry_of note.value) ≡ true → v.first ≡ true)
      → Allows (Rule N (Over start) is_alone is_call start all) slots id m 0 (λ n. (n + 1) % 2 ^ 64) (Gives is_call entry_of m)
  gives_held start all entry_of slots id v m kept note is holds live noted stands alone =
      subst (λ (x : M). Allows (Rule N (Over start) is_alone is_call start all) slots id x 0 (λ n. (n + 1) % 2 ^ 64) (Gives is_call entry_of x)) (sym is)
      (gives_back N Over is_alone is_call start all entry_of slots id v kept note holds live noted stands alone)

  -- a seat that took in another compares what the two have seen
  pub compares_joined : (start : B) (all slots id : ℕ) (v u : View B E) (m : M) → m ≡ (with_told v u, []) → v.holds ≡ false → 0 < v.parts
      → Allows (Rule N (Over start) is_alone is_call start all) slots id m 0 (λ n. n) (λ _. Compares m)
  compares_joined start all slots id v u m is idle live = compares N Over is_alone is_call start all slots id m (ap (λ (x : M). x.0.holds) is ∙ idle)
      (let p = ap (λ (x : M). x.0.parts) is in omega arith)

  -- what `close` finds in the slot
  pub closed : (start : B) (all id : ℕ) (me : M) (words : List ℕ) (slots : List (Option (SlotValue T N))) (found : Option (SlotValue T N))
      → Final (Seen (Rule N (Over start) is_alone is_call start all) id me.0) words slots → IsIdle me → me.0.parts ≡ me.0.seats → get_elem? slots 0 ≡ some found
      → (kept : SlotValue T N) × (found ≡ Some kept) × IsClosed Over is_call me kept.value
  closed start all id me words slots found final idle have at = let s = final.0 in let r = final.1.0 in let here = final.1.1 in
      let home = closes N Over is_alone is_call start all s r id me.0 here idle.0 idle.2 have in let f = (r.agrees id me.0 here).seen in
      let places_all = whole N (Over start) is_alone is_call start all s r id me.0 here idle.2 have in (
        home.0,
        some-injective found (Some home.0) (sym at ∙ final.4 0 (Some home.0) home.1),
        record {
          since = f.0;
          stands = subst (λ (l : List E). Over me.0.base home.0.value l) f.1 home.2;
          calls = subst (λ (l : List E). AreSame me.0.mine (places is_call l)) f.1 places_all.0;
          entries = subst (λ (l : List E). AreSame me.0.own (all_places l)) f.1 places_all.1;
        },
      )

  pub opens : (start : B) (all : ℕ) (kept : SlotValue T N) (slots : List (Option (SlotValue T N))) → slots ≡ Some kept ∷ [] → 0 < all → Over start kept.value []
      → Rule N (Over start) is_alone is_call start all (opening (0 ∷ []) slots (first_view start all))
  opens start all kept slots is some_part stands = subst (λ (l : List (Option (SlotValue T N))). Rule N (Over start) is_alone is_call start all (opening (0 ∷ []) l (first_view start all))) (sym is)
      (starts N Over is_alone is_call start all kept some_part stands)
