use Rattle.std.proofs.Common.{◌≡◌, ℕ, cond, drop, not, Some, None, refl, sym, ap, ◌∙◌, subst}
use Rattle.std.specs.Prelude.{IfOk, nat_eq}
use Rattle.std.specs.Map.{lookup}
use Rattle.mx_space.specs.declared.held_entry.HeldEntry.{HeldEntry}
use Rattle.mx_key.specs.Prefixes.{prefix_size}
use Rattle.mx_space.specs.HashIndexes.{ArePlaced, hash_index_entries, key_hash, under_own}
use Rattle.mx_space.proofs.HashFindLaws.{fronted_tried}
use Rattle.mx_space.proofs.HashIndexLaws.{has_held, has_other, placed_too, with_held, with_other, with_there}
use Rattle.std.proofs.lemmas.Result.{on_ok_weaker}
use Rattle.mx_space.proofs.hash_index.insert_in.Goals as goal

pub returns-then-contains_key-clause-is_new : goal.returns-then-contains_key-clause-is_new
returns-then-contains_key-clause-is_new c =
    let parts = c.args.parts in
    let key = c.args.key in
    let held = c.args.held.now.entries in
    let others = c.args.others.now in
    let place = c.key_place-begin.ensures.place in
    let none : under_own key (lookup (nat_eq (key_hash parts key)) held) ≡ None = ap (λ n. under_own key (lookup (nat_eq n) held)) (sym place) ∙ ap (under_own key) c.in-None.ensures in
    let there = has_other parts held others c.requires.unique c.requires.placed key none ∙ sym c.if-contains_key.ensures in
    ap not (sym there)

pub returns-then-contains_key-clause-ok : goal.returns-then-contains_key-clause-ok
returns-then-contains_key-clause-ok c =
    let parts = c.args.parts in
    let key = c.args.key in
    let held = c.args.held.now.entries in
    let others = c.args.others.now in
    let place = c.key_place-begin.ensures.place in
    let none : under_own key (lookup (nat_eq (key_hash parts key)) held) ≡ None = ap (λ n. under_own key (lookup (nat_eq n) held)) (sym place) ∙ ap (under_own key) c.in-None.ensures in
    let there = has_other parts held others c.requires.unique c.requires.placed key none ∙ sym c.if-contains_key.ensures in
    sym (with_there key c.args.primary.now (hash_index_entries held others) there)

pub returns-in_err-insert-in-None-clause-placed : goal.returns-in_err-insert-in-None-clause-placed
returns-in_err-insert-in-None-clause-placed c =
    subst (ArePlaced c.args.parts) (sym c.in_err-insert-in-None.ensures.err) c.requires.placed

pub returns-in-Some-true-clause-is_new : goal.returns-in-Some-true-clause-is_new
returns-in-Some-true-clause-is_new c =
    let parts = c.args.parts in
    let key = c.args.key in
    let held = c.args.held.now.entries in
    let others = c.args.others.now in
    let place = c.key_place-begin.ensures.place in
    let (entry, found, same) = c.in-Some-true.ensures in
    let there = has_held parts held others c.requires.unique c.requires.placed key entry (ap (λ n. lookup (nat_eq n) held) (sym place) ∙ found) (same ∙ c.in-Some-true.field-0-test) in
    ap not (sym there)

pub returns-in-Some-true-clause-ok : goal.returns-in-Some-true-clause-ok
returns-in-Some-true-clause-ok c =
    let parts = c.args.parts in
    let key = c.args.key in
    let held = c.args.held.now.entries in
    let others = c.args.others.now in
    let place = c.key_place-begin.ensures.place in
    let (entry, found, same) = c.in-Some-true.ensures in
    let there = has_held parts held others c.requires.unique c.requires.placed key entry (ap (λ n. lookup (nat_eq n) held) (sym place) ∙ found) (same ∙ c.in-Some-true.field-0-test) in
    sym (with_there key c.args.primary.now (hash_index_entries held others) there)

pub returns-in-Some-false-clause-is_new : goal.returns-in-Some-false-clause-is_new
returns-in-Some-false-clause-is_new c =
    let parts = c.args.parts in
    let key = c.args.key in
    let held = c.args.held.now.entries in
    let others = c.args.others.now in
    let place = c.key_place-begin.ensures.place in
    let (entry, found, same) = c.in-Some-false.ensures in
    let none : under_own key (lookup (nat_eq (key_hash parts key)) held) ≡ None =
    ap (λ n. under_own key (lookup (nat_eq n) held)) (sym place) ∙ ap (under_own key) found ∙ ap (λ b. cond b (Some (drop entry.begin entry.key)) None) (same ∙ c.in-Some-false.field-0-test) in
    subst (λ b. IfOk c.insert.result (λ is. is ≡ not b)) (sym (has_other parts held others c.requires.unique c.requires.placed key none)) c.insert.ensures.is_new

pub returns-in-Some-false-clause-ok : goal.returns-in-Some-false-clause-ok
returns-in-Some-false-clause-ok c =
    let parts = c.args.parts in
    let key = c.args.key in
    let held = c.args.held.now.entries in
    let others = c.args.others.now in
    let place = c.key_place-begin.ensures.place in
    let (entry, found, same) = c.in-Some-false.ensures in
    let none : under_own key (lookup (nat_eq (key_hash parts key)) held) ≡ None =
    ap (λ n. under_own key (lookup (nat_eq n) held)) (sym place) ∙ ap (under_own key) found ∙ ap (λ b. cond b (Some (drop entry.begin entry.key)) None) (same ∙ c.in-Some-false.field-0-test) in
    on_ok_weaker c.insert.result (λ made. ap (hash_index_entries held) made ∙ with_other parts held others c.requires.unique c.requires.placed key none c.args.primary.now) c.insert.ensures.ok

pub returns-in_ok-insert-in-None-clause-placed : goal.returns-in_ok-insert-in-None-clause-placed
returns-in_ok-insert-in-None-clause-placed c =
    let parts = c.args.parts in
    let key = c.args.key in
    let held = c.args.held.now.entries in
    let others = c.args.others.now in
    let place = c.key_place-begin.ensures.place in
    let entry : HeldEntry = record { key = key; begin = c.in-Some.begin } in
    let free = ap (λ n. lookup (nat_eq n) held) (sym place) ∙ c.in-None.ensures in
    let set : (n : ℕ) → lookup (nat_eq n) c.insert-in-None.new.self.entries ≡ cond (nat_eq (key_hash parts key) n) (Some entry) (lookup (nat_eq n) held) = λ n.
    c.in_ok-insert-in-None.ensures.updates.0 n ∙ ap (λ p. cond (nat_eq p n) (Some entry) (lookup (nat_eq n) held)) place in
    let begin : c.in-Some.begin ≡ prefix_size parts key = c.in-Some.ensures.found.0 ∙ c.key_place-begin.ensures.begin in
    let value : drop c.in-Some.begin key ≡ c.args.primary.now = (λ i. drop (c.in-Some.ensures.found.0 i) (sym c.as_slice.ensures i)) ∙ c.in-Some.ensures.found.1 in
    placed_too parts held others c.requires.unique c.requires.placed key c.insert-in-None.new.self.entries entry c.args.primary.now free set refl begin value

pub returns-in_ok-insert-in-None-clause-is_new : goal.returns-in_ok-insert-in-None-clause-is_new
returns-in_ok-insert-in-None-clause-is_new c =
    let parts = c.args.parts in
    let key = c.args.key in
    let held = c.args.held.now.entries in
    let others = c.args.others.now in
    let place = c.key_place-begin.ensures.place in
    let none : under_own key (lookup (nat_eq (key_hash parts key)) held) ≡ None = ap (λ n. under_own key (lookup (nat_eq n) held)) (sym place) ∙ ap (under_own key) c.in-None.ensures in
    let absent = sym c.if-contains_key.ensures in
    ap not (sym (has_other parts held others c.requires.unique c.requires.placed key none ∙ absent))

pub returns-in_ok-insert-in-None-clause-ok : goal.returns-in_ok-insert-in-None-clause-ok
returns-in_ok-insert-in-None-clause-ok c =
    let parts = c.args.parts in
    let key = c.args.key in
    let held = c.args.held.now.entries in
    let others = c.args.others.now in
    let place = c.key_place-begin.ensures.place in
    let entry : HeldEntry = record { key = key; begin = c.in-Some.begin } in
    let free = ap (λ n. lookup (nat_eq n) held) (sym place) ∙ c.in-None.ensures in
    let set : (n : ℕ) → lookup (nat_eq n) c.insert-in-None.new.self.entries ≡ cond (nat_eq (key_hash parts key) n) (Some entry) (lookup (nat_eq n) held) = λ n.
    c.in_ok-insert-in-None.ensures.updates.0 n ∙ ap (λ p. cond (nat_eq p n) (Some entry) (lookup (nat_eq n) held)) place in
    let begin : c.in-Some.begin ≡ prefix_size parts key = c.in-Some.ensures.found.0 ∙ c.key_place-begin.ensures.begin in
    let value : drop c.in-Some.begin key ≡ c.args.primary.now = (λ i. drop (c.in-Some.ensures.found.0 i) (sym c.as_slice.ensures i)) ∙ c.in-Some.ensures.found.1 in
    let absent = sym c.if-contains_key.ensures in
    with_held parts held others c.requires.unique c.requires.placed key c.insert-in-None.new.self.entries entry c.args.primary.now free set refl begin value
    c.in_ok-insert-in-None.ensures.unique absent

pub returns-in-Some-false-clause-fronted : goal.returns-in-Some-false-clause-fronted
returns-in-Some-false-clause-fronted c =
    let parts = c.args.parts in
    let key = c.args.key in
    let behind : c.args.primary.now ≡ drop (prefix_size parts key) key =
    sym c.in-Some.ensures.found.1 ∙ (λ i. drop (c.key_place-begin.ensures.begin i) (c.as_slice.ensures i)) in
    fronted_tried parts key c.args.primary.now behind c.args.others.now c.insert.new.self c.requires.fronted c.insert.result c.insert.ensures.ok c.insert.ensures.err
