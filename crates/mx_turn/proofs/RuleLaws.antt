-- What the rule of the table tells, and a step that changes the word, the slot and one view.
use Rattle.std.proofs.Common.{◌≡◌, ◌≢◌, ℕ, zero, suc, ◌+◌, ◌*◌, ◌<◌, Bool, true, false, List, [], ◌∷◌, length, set, sym, ap, ◌∙◌, subst, ⊎_elim, ◌⊎◌, arith, Option, Some, length-set, get_or-set_same}
use Rattle.std.proofs.lemmas.Bool.{true≢false}
use mathlib.Core.Option.{none, some, some-injective, some-ne-none}
use mathlib.Core.Option as maybe
use lib.ListN.{get_elem?}
use Rattle.atomic_table.specs.Table.{State}
use Rattle.atomic_table.proofs.Lists.{at_set, set_here, set_else}
use Rattle.mx_turn.specs.declared.view.View.{View}
use Rattle.mx_turn.specs.declared.rule.SlotValue.{SlotValue}
use Rattle.mx_turn.specs.Views.{AreSame, all_places, places, times}
use Rattle.mx_turn.specs.Rule.{Agrees, IsTurn, max_count}
use Rattle.mx_turn.proofs.SumLaws.{nothing_else, sum_alone, sum_set}

pub length_at : {A : Type 0} (l : List A) (i : ℕ) (a : A) → get_elem? l i ≡ some a → i < length l
length_at [] i a e = absurd (some-ne-none a (sym e))
length_at (x ∷ xs) zero a e = omega arith
length_at (x ∷ xs) (suc i) a e = let r = length_at xs i a e in omega arith

module _ {B E T : Type 0} (N : Type 0) (Stands : T → List E → Type 0) (is_alone is_call : E → Bool) (start : B) (all : ℕ) where
  abbrev pub St : Type 0
  St = State (Option (SlotValue T N)) (View B E)

  abbrev pub Homes : Type 0
  Homes = List (maybe.Option (Option (SlotValue T N)))

  abbrev pub Rule : St → Type 0
  Rule = IsTurn Stands is_alone is_call start all

  abbrev pub AgreesIn : List E → Bool → ℕ → ℕ → View B E → Type 0
  AgreesIn = Agrees is_alone start all

  -- a view is the holder's only where it says so
  pub not_holder : (s : St) (r : Rule s) (id : ℕ) (v : View B E) → get_elem? s.views id ≡ some v → v.holds ≡ false → r.out ≡ true → r.who ≢ id
  not_holder s r id v at idle out same = let h = r.holding out in
      let is = some-injective h.0 v (sym h.1 ∙ ap (get_elem? s.views) same ∙ at) in
      true≢false (sym h.2 ∙ ap (λ (u : View B E). u.holds) is ∙ idle)

  -- one seat with all parts leaves none to the others
  pub others_spent : (s : St) (r : Rule s) (id : ℕ) (v : View B E) → get_elem? s.views id ≡ some v → 0 < v.parts → v.parts ≡ v.seats
      → (j : ℕ) (u : View B E) → j ≢ id → get_elem? s.views j ≡ some u → u.parts ≡ 0
  others_spent s r id v at live have j u other at' = let known = (r.agrees id v at).live live in
      nothing_else (λ (w : View B E). w.parts) s.views id v at (r.parts ∙ sym known.1 ∙ sym have) j u other at'

  -- and its places are all
  pub whole : (s : St) (r : Rule s) (id : ℕ) (v : View B E) → get_elem? s.views id ≡ some v → 0 < v.parts → v.parts ≡ v.seats
      → AreSame v.mine (places is_call r.log) × AreSame v.own (all_places r.log)
  whole s r id v at live have = let spent = others_spent s r id v at live have in (
    (λ x. sym (sum_alone (λ (w : View B E). times x w.mine) s.views id v at
        (λ j u other at'. ap (times x) ((r.agrees j u at').spent (spent j u other at')).2)) ∙ r.calls x),
    (λ x. sym (sum_alone (λ (w : View B E). times x w.own) s.views id v at
        (λ j u other at'. ap (times x) ((r.agrees j u at').spent (spent j u other at')).3)) ∙ r.entries x),
  )

  -- each view of a list in which one changed
  pub each_view : (P : ℕ → View B E → Type 0) (views : List (View B E)) (id : ℕ) (w : View B E) → P id w
      → ((j : ℕ) (u : View B E) → j ≢ id → get_elem? views j ≡ some u → P j u) → (j : ℕ) (u : View B E) → get_elem? (set views id w) j ≡ some u → P j u
  each_view P views id w mine others j u e = ⊎_elim (λ (t : (j ≡ id) × (w ≡ u)). subst (λ (x : ℕ × View B E). P x.0 x.1) (λ i. (sym t.0 i, t.1 i)) mine)
      (λ (t : (j ≢ id) × (get_elem? views j ≡ some u)). others j u t.0 t.1) (at_set views id j w u e)

  -- What a step makes of the history, the word, the slot and the view of the seat id
  pub record Change (s : St) (r : Rule s) (id : ℕ) (v w : View B E) (n : ℕ) (homes : Homes) : Type 0 where
    pub log : List E
    pub held : ℕ
    pub out : Bool
    pub who : ℕ
    pub at : get_elem? s.views id ≡ some v
    pub bit : held < 2
    pub counted : n ≡ 2 * length log + held
    pub out_only : out ≡ true → (held ≡ 1) × (length log < max_count)
    pub out_always : held ≡ 1 → length log < max_count → out ≡ true
    pub away : out ≡ true → get_elem? homes 0 ≡ some none
    pub holding : out ≡ true → ((who ≡ id) × (w.holds ≡ true)) ⊎ ((who ≢ id) × ((u : View B E) × (get_elem? s.views who ≡ some u) × (u.holds ≡ true)))
    pub home : out ≡ false → (kept : SlotValue T N) × (get_elem? homes 0 ≡ some (some (Some kept))) × Stands kept.value log
    pub mine : AgreesIn log out who id w
    pub others : (j : ℕ) (u : View B E) → j ≢ id → get_elem? s.views j ≡ some u → AgreesIn log out who j u
    pub parts : w.parts ≡ v.parts
    pub calls : (x : ℕ) → times x w.mine + times x (places is_call r.log) ≡ times x v.mine + times x (places is_call log)
    pub entries : (x : ℕ) → times x w.own + times x (all_places r.log) ≡ times x v.own + times x (all_places log)

  pub rule_step : (s : St) (r : Rule s) (id : ℕ) (v w : View B E) (n : ℕ) (homes : Homes) → Change s r id v w n homes
      → Rule record { words = set s.words 0 n; homes = homes; views = set s.views id w }
  rule_step s r id v w n homes c = let wide = r.one_word in record {
    log = c.log;
    held = c.held;
    out = c.out;
    who = c.who;
    one_word = length-set s.words 0 n ∙ r.one_word;
    bit = c.bit;
    counted = get_or-set_same s.words 0 n 0 (omega arith) ∙ c.counted;
    out_only = c.out_only;
    out_always = c.out_always;
    away = c.away;
    holding = λ o. ⊎_elim (λ (t : (c.who ≡ id) × (w.holds ≡ true)). (w, ap (get_elem? (set s.views id w)) t.0 ∙ set_here s.views id w (length_at s.views id v c.at), t.1))
        (λ (t : (c.who ≢ id) × ((u : View B E) × (get_elem? s.views c.who ≡ some u) × (u.holds ≡ true))). (t.1.0, set_else s.views id c.who w t.0 ∙ t.1.1, t.1.2)) (c.holding o);
    home = c.home;
    agrees = each_view (AgreesIn c.log c.out c.who) s.views id w c.mine c.others;
    parts = let t = sum_set (λ (u : View B E). u.parts) s.views id v w c.at in let e = c.parts in let p = r.parts in omega arith;
    calls = λ x. let t = sum_set (λ (u : View B E). times x u.mine) s.views id v w c.at in let e = c.calls x in let p = r.calls x in omega arith;
    entries = λ x. let t = sum_set (λ (u : View B E). times x u.own) s.views id v w c.at in let e = c.entries x in let p = r.entries x in omega arith;
  }
