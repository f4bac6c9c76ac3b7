-- Each step of a turn keeps the rule.
use Rattle.std.proofs.Common.{◌≡◌, ℕ, zero, suc, ◌+◌, ◌/◌, ◌%◌, ◌^◌, ◌<◌, ◌≤◌, bit_and, bit_or, Bool, true, false, cond, List, [], ◌∷◌, ◌++◌, length, get_or, set, sym, refl, ap, ◌∙◌, subst, ⊎_elim, inl, inr, ◌⊎◌, arith, Option, Some, None, count_by, append-nil}
use Rattle.std.specs.declared.snapshot.Snapshot.{Snapshot}
use Rattle.std.proofs.lemmas.Bool.{cases_lt, true≢false}
use Rattle.std.specs.Int.Bits.{or_add_and}
use Rattle.std.proofs.lemmas.Nat.Bits.{shr_and_one}
use Rattle.std.proofs.lemmas.List.Sums.{sum_by-cons}
use mathlib.Core.Logic.{dite}
use mathlib.Core.Option.{none, some, some-ne-none}
use native.Mathlib.Decide.{ℕ_discrete}
use lib.ListN.{get_elem?}
use Rattle.atomic_table.specs.Table.{Act, Allows, Joins, Me, Splits, Valid, carried_after, gives, keeps, opening, stepped, takes}
use Rattle.atomic_table.proofs.Lists.{at_longer, at_snoc, set_else, set_here}
use Rattle.mx_turn.specs.declared.view.View.{View}
use Rattle.mx_turn.specs.declared.rule.SlotValue.{SlotValue}
use Rattle.mx_turn.specs.Views.{AreSame, Extends, all_places, first_view, after_give, longer_history, part_view, after_split, places, after_look, times, after_take}
use Rattle.mx_turn.specs.Rule.{max_count}
use Rattle.mx_turn.specs.Steps.{Compares, Gives, Looks, Takes, after_compare, spent_view, with_told}
use Rattle.mx_turn.proofs.SumLaws.{sum_more, sum_set}
use Rattle.mx_turn.proofs.HistoryLaws.{count_append, extends_length, extends_more, longer_counts, extends_longer, one_history, times_append}
use Rattle.mx_turn.proofs.RuleLaws.{AgreesIn, Rule, St, each_view, length_at, not_holder, others_spent, rule_step, whole}

-- the bit for held is the lowest
or_one : (n : ℕ) → bit_or n 1 + n % 2 ≡ n + 1
or_one n = let same : n / 1 ≡ n = omega arith in let a = or_add_and n 1 in
    let b : bit_and n 1 ≡ n % 2 = ap (λ k. bit_and k 1) (sym same) ∙ shr_and_one n 0 ∙ ap (λ k. k % 2) same in omega arith

true_or_false : (b : Bool) → (b ≡ true) ⊎ (b ≡ false)
true_or_false true = inl refl
true_or_false false = inr refl

abbrev top : {A : Type 0} → A → List (ℕ × A) → A
top a [] = a
top a (x ∷ xs) = x.1

only_one : {A : Type 0} (a b : A) (i : ℕ) → get_elem? (a ∷ []) i ≡ some b → i ≡ 0
only_one a b zero e = refl
only_one a b (suc i) e = absurd (some-ne-none b (sym e))

module _ {B E T : Type 0} (N : Type 0) (Over : B → T → List E → Type 0) (is_alone is_call : E → Bool) (start : B) (all : ℕ) where
  abbrev S : Type 0
  S = St N (Over start) is_alone is_call start all

  abbrev R : S → Type 0
  R = Rule N (Over start) is_alone is_call start all

  abbrev AgreesAt : List E → Bool → ℕ → ℕ → View B E → Type 0
  AgreesAt = AgreesIn N (Over start) is_alone is_call start all

  abbrev M : Type 0
  M = Me (Option (SlotValue T N)) (View B E)

  -- a seat that holds nothing sees more of the history
  sees : (s : S) (r : R s) (id : ℕ) (v : View B E) (seen told : List E) → get_elem? s.views id ≡ some v → v.holds ≡ false → 0 < v.parts
      → Extends r.log seen → Extends r.log told → (v.first ≡ true → count_by is_alone r.log ≡ count_by is_alone seen)
      → R record { words = set s.words 0 (get_or s.words 0 0); homes = s.homes; views = set s.views id (record v { seen = seen; told = told }) }
  sees s r id v seen told at idle live earlier told_earlier counts = let f = r.agrees id v at in
      rule_step N (Over start) is_alone is_call start all s r id v (record v { seen = seen; told = told }) (get_or s.words 0 0) s.homes record {
        log = r.log;
        held = r.held;
        out = r.out;
        who = r.who;
        at = at;
        bit = r.bit;
        counted = r.counted;
        out_only = r.out_only;
        out_always = r.out_always;
        away = r.away;
        holding = λ o. inr (not_holder N (Over start) is_alone is_call start all s r id v at idle o, r.holding o);
        home = r.home;
        mine = record {
          seen = earlier;
          told = told_earlier;
          live = f.live;
          spent = λ none. absurd (omega arith);
          holder = λ h. absurd (true≢false (sym h ∙ idle));
          first = λ h. ((f.first h).0, counts h);
        };
        others = λ j u _ e. r.agrees j u e;
        parts = refl;
        calls = λ x. refl;
        entries = λ x. refl;
      }

  -- the first seat alone adds what it alone may, so none of it came since it looked
  none_since : (s : S) (r : R s) (id : ℕ) (v : View B E) → get_elem? s.views id ≡ some v → (since : Extends r.log v.seen) → v.first ≡ true
      → count_by is_alone since.0 ≡ 0
  none_since s r id v at (since, is) first =
      omega (arith, ((r.agrees id v at).first first).1, ap (count_by is_alone) is, count_append is_alone since v.seen)

  pub looks : (slots id : ℕ) (me : M) → me.0.holds ≡ false → 0 < me.0.parts → Allows R slots id me 0 (λ n. n) (Looks is_alone is_call me)
  looks slots id me idle live s r _ at _ = let v = me.0 in let f = r.agrees id v at in let n = get_or s.words 0 0 in (
    after_look f.seen.0 v,
    keeps,
    tt,
    sees s r id v (f.seen.0 ++ v.seen) v.told at idle live ([], f.seen.1) f.told (λ _. ap (count_by is_alone) f.seen.1),
    record {
      since = f.seen.0;
      alone = λ h. none_since s r id v at f.seen h;
      after = refl;
      count = let l = ap length f.seen.1 in let c = r.counted in let b = r.bit in omega arith;
      whole = λ have. subst (λ (l : List E). AreSame v.mine (places is_call l) × AreSame v.own (all_places l)) f.seen.1 (whole N (Over start) is_alone is_call start all s r id v at live have);
    },
  )

  pub compares : (slots id : ℕ) (me : M) → me.0.holds ≡ false → 0 < me.0.parts → Allows R slots id me 0 (λ n. n) (λ _. Compares me)
  compares slots id me idle live s r _ at _ = let v = me.0 in let f = r.agrees id v at in (
    after_compare v,
    keeps,
    tt,
    sees s r id v (longer_history v.seen v.told) [] at idle live (extends_longer r.log v.seen v.told f.seen f.told) (r.log, sym (append-nil r.log))
        (λ h. longer_counts is_alone r.log v.seen v.told f.seen f.told (f.first h).1),
    record { after = refl; one = one_history r.log v.seen v.told f.seen f.told },
  )

  -- where the turn is free, the seat has the value
  takes_free : (slots id : ℕ) (me : M) (s : S) (r : R s) → get_elem? s.views id ≡ some me.0 → me.0.holds ≡ false → 0 < me.0.parts → r.held ≡ 0 → length r.log < max_count
      → (w : View B E) × (a : Act (Option (SlotValue T N))) × Valid s.homes me.1 a × R (stepped s 0 (bit_or (get_or s.words 0 0) 1) id me.1 w a) × Takes Over is_alone is_call me (get_or s.words 0 0) (w, carried_after me.1 a)
  takes_free slots id me s r at idle live free room = let v = me.0 in let f = r.agrees id v at in let n = get_or s.words 0 0 in let c = r.counted in let base = f.live live in
      let inside : r.out ≡ false = ⊎_elim (λ (o : r.out ≡ true). let h = r.out_only o in absurd (omega arith)) (λ (o : r.out ≡ false). o) (true_or_false r.out) in
      let home = r.home inside in let w : View B E = after_take f.seen.0 v in let l = ap length f.seen.1 in (
        w,
        takes 0 (Some home.0),
        home.1,
        rule_step N (Over start) is_alone is_call start all s r id v w (bit_or n 1) (set s.homes 0 none) record {
          log = r.log;
          held = 1;
          out = true;
          who = id;
          at = at;
          bit = omega arith;
          counted = let o = or_one n in omega arith;
          out_only = λ _. (refl, room);
          out_always = λ _ _. refl;
          away = λ _. set_here s.homes 0 none (length_at s.homes 0 (some (Some home.0)) home.1);
          holding = λ _. inl (refl, refl);
          home = λ o. absurd (true≢false o);
          mine = record {
            seen = ([], f.seen.1);
            told = f.told;
            live = f.live;
            spent = λ none. absurd (omega arith);
            holder = λ _. (refl, refl, sym f.seen.1);
            first = λ h. ((f.first h).0, ap (count_by is_alone) f.seen.1);
          };
          others = λ j u _ e. let g = r.agrees j u e in record {
            seen = g.seen;
            told = g.told;
            live = g.live;
            spent = g.spent;
            holder = λ h. absurd (true≢false (sym (g.holder h).0 ∙ inside));
            first = g.first;
          };
          parts = refl;
          calls = λ x. refl;
          entries = λ x. refl;
        },
        record {
          free = λ _ _. record {
            since = f.seen.0;
            alone = λ h. none_since s r id v at f.seen h;
            kept = home.0;
            after = refl;
            count = omega arith;
            stands = subst (λ (x : B × List E). Over x.0 home.0.value x.1) (λ i. (sym base.0 i, f.seen.1 i)) home.2;
            whole = λ have. subst (λ (l : List E). AreSame v.mine (places is_call l) × AreSame v.own (all_places l)) f.seen.1 (whole N (Over start) is_alone is_call start all s r id v at live have);
          };
          busy = λ b. absurd (⊎_elim (λ (odd : n % 2 ≡ 1). omega arith) (λ (full : max_count ≤ n / 2). omega arith) b);
        },
      )

  -- where it is held, or counts as held, the seat stays as it is
  takes_nothing : (slots id : ℕ) (me : M) (s : S) (r : R s) → get_elem? s.views id ≡ some me.0 → get_or s.words 0 0 < 18446744073709551616 → me.0.holds ≡ false → ((r.held ≡ 1) ⊎ (max_count ≤ length r.log))
      → (w : View B E) × (a : Act (Option (SlotValue T N))) × Valid s.homes me.1 a × R (stepped s 0 (bit_or (get_or s.words 0 0) 1) id me.1 w a) × Takes Over is_alone is_call me (get_or s.words 0 0) (w, carried_after me.1 a)
  takes_nothing slots id me s r at small idle is = let v = me.0 in let f = r.agrees id v at in let n = get_or s.words 0 0 in let c = r.counted in let b = r.bit in (
    v,
    keeps,
    tt,
    rule_step N (Over start) is_alone is_call start all s r id v v (bit_or n 1) s.homes record {
      log = r.log;
      held = 1;
      out = r.out;
      who = r.who;
      at = at;
      bit = omega arith;
      counted = let o = or_one n in omega arith;
      out_only = λ o. (refl, (r.out_only o).1);
      out_always = λ _ room. ⊎_elim (λ (h : r.held ≡ 1). r.out_always h room) (λ (h : max_count ≤ length r.log). absurd (omega arith)) is;
      away = r.away;
      holding = λ o. inr (not_holder N (Over start) is_alone is_call start all s r id v at idle o, r.holding o);
      home = r.home;
      mine = f;
      others = λ j u _ e. r.agrees j u e;
      parts = refl;
      calls = λ x. refl;
      entries = λ x. refl;
    },
    record {
      free = λ even room. absurd (⊎_elim (λ (h : r.held ≡ 1). omega arith) (λ (h : max_count ≤ length r.log). omega arith) is);
      busy = λ _. (refl, (let l = extends_length r.log v.seen f.seen in omega arith), omega arith);
    },
  )

  pub takes_turn : (slots id : ℕ) (me : M) → me.0.holds ≡ false → 0 < me.0.parts → Allows R slots id me 0 (λ n. bit_or n 1) (Takes Over is_alone is_call me)
  takes_turn slots id me idle live s r _ at small = let b = r.bit in dite (ℕ_discrete r.held 0)
      (λ free. ⊎_elim (λ (room : length r.log < max_count). takes_free slots id me s r at idle live free room)
      (λ (full : max_count ≤ length r.log). takes_nothing slots id me s r at small idle (inr full)) (cases_lt (length r.log) max_count))
      (λ not. let is : r.held ≡ 1 = omega arith in takes_nothing slots id me s r at small idle (inl is))

  pub gives_back : (entry_of : N → E) (slots id : ℕ) (v : View B E) (kept : SlotValue T N) (note : Snapshot N) → v.holds ≡ true → 0 < v.parts → kept.note ≡ Some note
      → Over v.base kept.value (entry_of note.value ∷ v.seen) → (is_alone (entry_of note.value) ≡ true → v.first ≡ true)
      → Allows R slots id (v, (0, Some kept) ∷ []) 0 (λ n. (n + 1) % 2 ^ 64) (Gives is_call entry_of (v, (0, Some kept) ∷ []))
  gives_back entry_of slots id v kept note holds live is stands alone s r _ at _ = let e = entry_of note.value in let w : View B E = after_give is_call e v in let f = r.agrees id v at in
      let n = get_or s.words 0 0 in let c = r.counted in let h = f.holder holds in let o = r.out_only h.0 in let held = o.0 in let room = o.1 in let base = f.live live in
      let added : (x : ℕ) → times x (cond (is_call e) (length v.seen ∷ []) []) ≡ times x (cond (is_call e) (length r.log ∷ []) []) = λ x. ap (λ (l : List E). times x (cond (is_call e) (length l ∷ []) [])) h.2 in
      let own : (x : ℕ) → times x (length v.seen ∷ []) ≡ times x (length r.log ∷ []) = λ x. ap (λ (l : List E). times x (length l ∷ [])) h.2 in (
        w,
        gives,
        tt,
        rule_step N (Over start) is_alone is_call start all s r id v w ((n + 1) % 2 ^ 64) (set s.homes 0 (some (Some kept))) record {
          log = e ∷ r.log;
          held = 0;
          out = false;
          who = r.who;
          at = at;
          bit = omega arith;
          counted = omega arith;
          out_only = λ b. absurd (true≢false (sym b));
          out_always = λ b _. absurd (omega arith);
          away = λ b. absurd (true≢false (sym b));
          holding = λ b. absurd (true≢false (sym b));
          home = λ _. (kept, set_here s.homes 0 (some (Some kept)) (length_at s.homes 0 none (r.away h.0)), subst (λ (x : B × List E). Over x.0 kept.value (e ∷ x.1)) (λ i. (base.0 i, h.2 i)) stands);
          mine = record {
            seen = ([], ap (λ (l : List E). e ∷ l) (sym h.2));
            told = extends_more r.log v.told e f.told;
            live = f.live;
            spent = λ none. absurd (omega arith);
            holder = λ b. absurd (true≢false (sym b));
            first = λ b. ((f.first b).0, ap (λ (l : List E). count_by is_alone (e ∷ l)) (sym h.2));
          };
          others = λ j u other at'. let g = r.agrees j u at' in record {
            seen = extends_more r.log u.seen e g.seen;
            told = extends_more r.log u.told e g.told;
            live = g.live;
            spent = g.spent;
            holder = λ b. absurd (other ((g.holder b).1 ∙ sym h.1));
            first = λ b. ⊎_elim (λ (y : is_alone e ≡ true). absurd (other ((g.first b).0 ∙ sym (f.first (alone y)).0)))
                (λ (y : is_alone e ≡ false). ((g.first b).0, let k = sum_by-cons (λ z. cond (is_alone z) 1 0) e r.log in let z : cond {A = ℕ} (is_alone e) 1 0 ≡ 0 = ap (λ (t : Bool). cond {A = ℕ} t 1 0) y in let q = (g.first b).1 in omega arith)) (true_or_false (is_alone e));
          };
          parts = refl;
          calls = λ x. let a = times_append x v.mine (cond (is_call e) (length v.seen ∷ []) []) in let b = times_append x (places is_call r.log) (cond (is_call e) (length r.log ∷ []) []) in let d = added x in omega arith;
          entries = λ x. let a = times_append x v.own (length v.seen ∷ []) in let b = times_append x (all_places r.log) (length r.log ∷ []) in let d = own x in omega arith;
        },
        record {
          count = let l = ap length h.2 in omega arith;
          after = λ kept' note' same same'. let taken : Some kept ≡ Some kept' = ap (top None) same in let k : kept ≡ kept' = (cc) in let noted : Some note ≡ Some note' = sym is ∙ ap (λ (z : SlotValue T N). z.note) k ∙ same' in let one : note ≡ note' = (cc) in ap (λ (z : Snapshot N). (after_give is_call (entry_of z.value) v, [])) one;
        },
      )

  pub splits : (id : ℕ) (v : View B E) → v.holds ≡ false → 1 < v.parts → Splits R id v (after_split v) (part_view v)
  splits id v idle more s r at = let f = r.agrees id v at in record {
    log = r.log;
    held = r.held;
    out = r.out;
    who = r.who;
    one_word = r.one_word;
    bit = r.bit;
    counted = r.counted;
    out_only = r.out_only;
    out_always = r.out_always;
    away = r.away;
    holding = λ o. let h = r.holding o in
        (h.0, at_longer (set s.views id (after_split v)) (part_view v ∷ []) r.who h.0 (set_else s.views id r.who (after_split v) (not_holder N (Over start) is_alone is_call start all s r id v at idle o) ∙ h.1), h.2);
    home = r.home;
    agrees = λ j u e. ⊎_elim
        (λ (e' : get_elem? (set s.views id (after_split v)) j ≡ some u). each_view N (Over start) is_alone is_call start all (AgreesAt r.log r.out r.who) s.views id (after_split v)
        record {
          seen = f.seen;
          told = f.told;
          live = λ _. f.live (omega arith);
          spent = λ none. absurd (omega arith);
          holder = λ h. absurd (true≢false (sym h ∙ idle));
          first = f.first;
        }
        (λ k x _ e''. r.agrees k x e'') j u e')
        (λ (is : part_view v ≡ u). subst (AgreesAt r.log r.out r.who j) is record {
          seen = f.seen;
          told = (r.log, sym (append-nil r.log));
          live = λ _. f.live (omega arith);
          spent = λ none. absurd (omega arith);
          holder = λ h. absurd (true≢false (sym h));
          first = λ h. absurd (true≢false (sym h));
        })
        (at_snoc (set s.views id (after_split v)) (part_view v) u j e);
    parts = let a = sum_set (λ (u : View B E). u.parts) s.views id v (after_split v) at in let b = sum_more (λ (u : View B E). u.parts) (set s.views id (after_split v)) (part_view v) in let p = r.parts in omega arith;
    calls = λ x. let a = sum_set (λ (u : View B E). times x u.mine) s.views id v (after_split v) at in let b = sum_more (λ (u : View B E). times x u.mine) (set s.views id (after_split v)) (part_view v) in
        let p = r.calls x in omega arith;
    entries = λ x. let a = sum_set (λ (u : View B E). times x u.own) s.views id v (after_split v) at in let b = sum_more (λ (u : View B E). times x u.own) (set s.views id (after_split v)) (part_view v) in
        let p = r.entries x in omega arith;
  }

  pub joins : (nowhere : B) (id : ℕ) (v : View B E) (other : ℕ) (u : View B E) → v.holds ≡ false → u.holds ≡ false → 0 < v.parts → 0 < u.parts → Joins R id v other u (with_told v u) (spent_view nowhere)
  joins nowhere id v other u idle idle' live live' s r at apart at' = let both = with_told v u in let spent : View B E = spent_view nowhere in let f = r.agrees id v at in let views = set s.views id both in
      let was : get_elem? s.views other ≡ some u = sym (set_else s.views id other both apart) ∙ at' in let g = r.agrees other u was in record {
        log = r.log;
        held = r.held;
        out = r.out;
        who = r.who;
        one_word = r.one_word;
        bit = r.bit;
        counted = r.counted;
        out_only = r.out_only;
        out_always = r.out_always;
        away = r.away;
        holding = λ o. let h = r.holding o in
            (h.0, set_else views other r.who spent (not_holder N (Over start) is_alone is_call start all s r other u was idle' o) ∙ set_else s.views id r.who both (not_holder N (Over start) is_alone is_call start all s r id v at idle o) ∙ h.1, h.2);
        home = r.home;
        agrees = each_view N (Over start) is_alone is_call start all (AgreesAt r.log r.out r.who) views other spent
            record {
              seen = (r.log, sym (append-nil r.log));
              told = (r.log, sym (append-nil r.log));
              live = λ h. absurd (omega arith);
              spent = λ _. (refl, refl, refl, refl, refl, refl);
              holder = λ h. absurd (true≢false (sym h));
              first = λ h. absurd (true≢false (sym h));
            }
            (λ j x _ e. each_view N (Over start) is_alone is_call start all (AgreesAt r.log r.out r.who) s.views id both
            record {
              seen = f.seen;
              told = g.seen;
              live = λ _. f.live live;
              spent = λ none. absurd (omega arith);
              holder = λ h. absurd (true≢false (sym h ∙ idle));
              first = f.first;
            }
            (λ k y _ e'. r.agrees k y e') j x e);
        parts = let a = sum_set (λ (y : View B E). y.parts) s.views id v both at in let b = sum_set (λ (y : View B E). y.parts) views other u spent at' in let p = r.parts in omega arith;
        calls = λ x. let a = sum_set (λ (y : View B E). times x y.mine) s.views id v both at in let b = sum_set (λ (y : View B E). times x y.mine) views other u spent at' in
            let d = times_append x v.mine u.mine in let p = r.calls x in omega arith;
        entries = λ x. let a = sum_set (λ (y : View B E). times x y.own) s.views id v both at in let b = sum_set (λ (y : View B E). times x y.own) views other u spent at' in
            let d = times_append x v.own u.own in let p = r.entries x in omega arith;
      }

  -- once one seat has all parts and holds nothing, the value is at home
  pub closes : (s : S) (r : R s) (id : ℕ) (v : View B E) → get_elem? s.views id ≡ some v → v.holds ≡ false → 0 < v.parts → v.parts ≡ v.seats
      → (kept : SlotValue T N) × (get_elem? s.homes 0 ≡ some (some (Some kept))) × Over v.base kept.value r.log
  closes s r id v at idle live have = let f = r.agrees id v at in
      let inside : r.out ≡ false = ⊎_elim (λ (o : r.out ≡ true). let h = r.holding o in
      let none = others_spent N (Over start) is_alone is_call start all s r id v at live have r.who h.0 (not_holder N (Over start) is_alone is_call start all s r id v at idle o) h.1 in
      absurd (true≢false (sym h.2 ∙ ((r.agrees r.who h.0 h.1).spent none).4)))
      (λ (o : r.out ≡ false). o) (true_or_false r.out) in
      let home = r.home inside in (home.0, home.1, subst (λ (b : B). Over b home.0.value r.log) (sym (f.live live).0) home.2)

  pub starts : (kept : SlotValue T N) → 0 < all → Over start kept.value [] → R (opening (0 ∷ []) (Some kept ∷ []) (first_view start all))
  starts kept some_part stands = record {
    log = [];
    held = 0;
    out = false;
    who = 0;
    one_word = refl;
    bit = omega arith;
    counted = refl;
    out_only = λ b. absurd (true≢false (sym b));
    out_always = λ b _. absurd (omega arith);
    away = λ b. absurd (true≢false (sym b));
    holding = λ b. absurd (true≢false (sym b));
    home = λ _. (kept, refl, stands);
    agrees = λ j u e. each_view N (Over start) is_alone is_call start all (AgreesAt [] false 0) (first_view start all ∷ []) 0 (first_view start all)
        record {
          seen = ([], refl);
          told = ([], refl);
          live = λ _. (refl, refl);
          spent = λ none. absurd (omega arith);
          holder = λ h. absurd (true≢false (sym h));
          first = λ _. (refl, refl);
        }
        (λ k y other e'. absurd (other (only_one (first_view start all) y k e'))) j u e;
    parts = omega arith;
    calls = λ x. refl;
    entries = λ x. refl;
  }
