-- What threads make of a counter.
use Rattle.std.proofs.Common.{◌≡◌, ◌≢◌, ℕ, ◌+◌, ◌*◌, ◌%◌, ◌^◌, ◌<◌, Bool, true, false, cond, List, [], ◌∷◌, ◌++◌, length, sym, refl, ap, ◌∙◌, subst, arith, eq-eqb, ne_eqb, length-append, append_assoc, Option, Some}
use Rattle.std.specs.List.{AllByRecursion, sum_by}
use Rattle.std.specs.Option.{unwrap_or}
use Rattle.std.proofs.lemmas.List.Sums.{sum_by-append, sum_by-cons}
use mathlib.Core.Logic.{dite}
use native.Mathlib.Decide.{ℕ_discrete}
use Rattle.mx_turn.specs.declared.view.View.{View}
use Rattle.mx_turn.specs.declared.counter.Added.{Added}
use Rattle.mx_turn.specs.declared.counter.Share.{Share}
use Rattle.mx_turn.specs.Views.{AreSame, Extends, after_give, after_join, after_look, after_split, after_take, all_places, first_view, longer_history, part_view, shorter_history}
use Rattle.mx_turn.specs.Counting.{HasCounted, HasAll, IsSum, amount_at, total, total_of}
use Rattle.mx_turn.proofs.HistoryLaws.{picked}
use Rattle.mx_turn.proofs.PlaceLaws.{same_count, weigh_alike, weigh_places, weigh_same}

abbrev Seen : Type 0
Seen = View ℕ Added

at_new : (e : Added) (log : List Added) → amount_at (e ∷ log) (length log) ≡ Some e.amount
at_new e log = ap (λ (b : Bool). cond b (Some e.amount) (amount_at log (length log))) (eq-eqb (length log) (length log) refl)

at_old : (e : Added) (log : List Added) (place : ℕ) → place ≢ length log → amount_at (e ∷ log) place ≡ amount_at log place
at_old e log place other = ap (λ (b : Bool). cond b (Some e.amount) (amount_at log place)) (ne_eqb place (length log) other)

at_below : (log : List Added) (place amount : ℕ) → amount_at log place ≡ Some amount → place < length log
at_below [] place amount is = (cc)
at_below (e ∷ log) place amount is = dite (ℕ_discrete place (length log)) (λ here. omega arith)
    (λ other. let r = at_below log place amount (sym (at_old e log place other) ∙ is) in omega arith)

at_since : (since log : List Added) (place amount : ℕ) → amount_at log place ≡ Some amount → amount_at (since ++ log) place ≡ Some amount
at_since [] log place amount is = is
at_since (e ∷ since) log place amount is = let b = at_below log place amount is in let n = length-append since log in
    at_old e (since ++ log) place (λ h. omega arith) ∙ at_since since log place amount is

-- what stands in a history, stands in what extends it
all_since : (log seen : List Added) (amount : ℕ) (places : List ℕ) → Extends log seen → AllByRecursion (λ place. amount_at seen place ≡ Some amount) places → AllByRecursion (λ place. amount_at log place ≡ Some amount) places
all_since log seen amount [] more all = tt
all_since log seen amount (x ∷ xs) more all = (subst (λ (l : List Added). amount_at l x ≡ Some amount) (sym more.1) (at_since more.0 seen x amount all.0), all_since log seen amount xs more all.1)

all_more : (P : ℕ → Type 0) (xs : List ℕ) (x : ℕ) → AllByRecursion P xs → P x → AllByRecursion P (xs ++ x ∷ [])
all_more P [] x all here = (here, tt)
all_more P (y ∷ xs) x all here = (all.0, all_more P xs x all.1 here)

extends_through : (a b c : List Added) → Extends a b → Extends b c → Extends a c
extends_through a b c ab bc = (ab.0 ++ bc.0, ab.1 ∙ ap (λ (l : List Added). ab.0 ++ l) bc.1 ∙ sym (append_assoc ab.0 bc.0 c))

-- a turn more
pub adds_one : (amount often : ℕ) (old v : Seen) (since : List Added) (e : Added) → old.holds ≡ false → e.amount ≡ amount → HasCounted amount often old v → HasCounted amount (often + 1) old (after_give (λ _. true) e (after_take since v))
adds_one amount often old v since e idle is h = let log = since ++ v.seen in let place = length log in record {
  more = h.more ++ place ∷ [];
  same = λ i. record {
    base = (h.same i).base;
    seats = (h.same i).seats;
    first = (h.same i).first;
    parts = (h.same i).parts;
    seen = e ∷ log;
    told = (h.same i).told;
    mine = (ap (λ (w : Seen). w.mine ++ place ∷ []) h.same ∙ append_assoc old.mine h.more (place ∷ [])) i;
    own = (ap (λ (w : Seen). w.own ++ place ∷ []) h.same ∙ append_assoc old.own h.more (place ∷ [])) i;
    holds = sym idle i;
  };
  extends = extends_through (e ∷ log) v.seen old.seen (e ∷ since, refl) h.extends;
  count = let n = length-append h.more (place ∷ []) in let c = h.count in omega arith;
  amounts = all_more (λ place'. amount_at (e ∷ log) place' ≡ Some amount) h.more place (all_since (e ∷ log) v.seen amount h.more (e ∷ since, refl) h.amounts)
      (at_new e log ∙ ap (λ (n : ℕ). Some n) is);
}

abbrev amount_in : List Added → ℕ → ℕ
amount_in log place = unwrap_or (amount_at log place) 0

-- the sum of a history goes over its places
total_places : (log : List Added) → total log ≡ sum_by (amount_in log) (all_places log)
total_places [] = refl
total_places (e ∷ log) = let r = total_places log in let here = ap (λ (o : Option ℕ). unwrap_or o 0) (at_new e log) in
    let w = weigh_places (amount_in (e ∷ log)) (amount_in log) log (λ place h. ap (λ (o : Option ℕ). unwrap_or o 0) (at_old e log place (λ h'. omega arith))) in
    omega (arith, sum_by-cons (λ (x : Added). x.amount) e log, sum_by-append (amount_in (e ∷ log)) (all_places log) (length log ∷ []), sum_by-cons (amount_in (e ∷ log)) (length log) [])

known : (log : List Added) (amount : ℕ) (places : List ℕ) → AllByRecursion (λ place. amount_at log place ≡ Some amount) places → AllByRecursion (λ place. amount_in log place ≡ amount) places
known log amount [] all = tt
known log amount (x ∷ xs) all = (ap (λ (o : Option ℕ). unwrap_or o 0) all.0, known log amount xs all.1)

longer_both : (a b : List Added) → Extends (longer_history a b) (shorter_history a b) → Extends (longer_history a b) a × Extends (longer_history a b) b
longer_both a b one = picked (λ l s. Extends l s → Extends l a × Extends l b) a b (λ _ c. (c, ([], refl))) (λ _ c. (([], refl), c)) one

-- Two threads' seats, joined
pub has_all : (base : ℕ) (first second : Share) (v w : Seen) (since : List Added) → HasCounted first.amount first.times (after_split (first_view base 2)) v → HasCounted second.amount second.times (part_view (first_view base 2)) w
    → Extends (longer_history v.seen w.seen) (shorter_history v.seen w.seen)
    → (let all : Seen = after_look since (after_join v w) in all.parts ≡ all.seats → AreSame all.mine (all_places all.seen) × AreSame all.own (all_places all.seen))
    → HasAll first second (after_look since (after_join v w))
has_all base first second v w since a b one whole = let all : Seen = after_look since (after_join v w) in let both = longer_both v.seen w.seen one in
    let parts = ap (λ (x : Seen). x.parts) a.same in let parts' = ap (λ (x : Seen). x.parts) b.same in let seats = ap (λ (x : Seen). x.seats) a.same in
    let is : all.parts ≡ all.seats = omega arith in let same = whole is in
    let own : all.own ≡ a.more ++ b.more = λ i. (a.same i).own ++ (b.same i).own in
    let left = known all.seen first.amount a.more (all_since all.seen v.seen first.amount a.more (extends_through all.seen (longer_history v.seen w.seen) v.seen (since, refl) both.0) a.amounts) in
    let right = known all.seen second.amount b.more (all_since all.seen w.seen second.amount b.more (extends_through all.seen (longer_history v.seen w.seen) w.seen (since, refl) both.1) b.amounts) in record {
      entries = same.1;
      calls = same.0;
      count = let n = same_count all.own all.seen same.1 in let l = ap length own in let m = length-append a.more b.more in let c = a.count in let d = b.count in omega arith;
      sum = let t = total_places all.seen in let s = weigh_same (amount_in all.seen) all.own (all_places all.seen) same.1 in let o = ap (sum_by (amount_in all.seen)) own in
          let l = weigh_alike (amount_in all.seen) first.amount a.more left in let r = weigh_alike (amount_in all.seen) second.amount b.more right in
          let x = ap (λ (n : ℕ). first.amount * n) a.count in let y = ap (λ (n : ℕ). second.amount * n) b.count in
          omega (arith, sum_by-append (amount_in all.seen) a.more b.more);
      whole = is;
    }

-- what a closed turn has, where its last seat had seen all
pub closed_sum : (base sum : ℕ) (first second : Share) (v : Seen) (since : List Added) → HasAll first second v → IsSum base sum (since ++ v.seen) → AreSame v.own (all_places (since ++ v.seen))
    → sum ≡ (base + total_of first second) % 2 ^ 64
closed_sum base sum first second v [] all is same = is ∙ ap (λ n. (base + n) % 2 ^ 64) all.sum
closed_sum base sum first second v (e ∷ since) all is same = let n = same_count v.own (e ∷ since ++ v.seen) same in let m = same_count v.own v.seen all.entries in
    absurd (let l = length-append since v.seen in omega arith)
