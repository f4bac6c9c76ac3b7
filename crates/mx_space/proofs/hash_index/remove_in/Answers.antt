use Rattle.std.proofs.Common.{◌≡◌, ℕ, List, Some, None, cond, drop, sym, ap, ◌∙◌, subst}
use Rattle.std.specs.Prelude.{nat_eq}
use Rattle.std.specs.BTreeMap.{is_at}
use Rattle.std.specs.Cmp.Lexicographic.{slice_cmp}
use Rattle.std.specs.Map.{lookup}
use Rattle.std.specs.Ordering.{eq_by_cmp, nat_cmp}
use Rattle.std.specs.Str.{bytes_eq}
use Rattle.mx_space.specs.HashIndexes.{AreFronted, key_hash, under_own}
use Rattle.mx_space.proofs.HashFindLaws.{fronted_without}
use Rattle.mx_space.proofs.HashIndexLaws.{held_apart, held_gone, look_without, looks, placed_still, without_both}
use Rattle.mx_entries.proofs.SortedLaws.{ascending}
use Rattle.mx_space.proofs.WaitingLaws.{place_waited_for, placed_moved, with_moved}
use Rattle.mx_space.proofs.hash_index.remove_in.Goals as goal

pub returns-in-Some-clause-placed : goal.returns-in-Some-clause-placed
returns-in-Some-clause-placed c =
    let parts = c.args.parts in
    let key = c.args.key.now in
    let held = c.args.held.now.entries in
    let others = c.args.others.now in
    let rest = c.remove_other.new.others in
    let place = c.key_place-begin.ensures.place in
    let rest_is : (q : List ℕ) → lookup (bytes_eq q) rest ≡ cond (eq_by_cmp (slice_cmp nat_cmp) q key) None (lookup (bytes_eq q) others) = λ q.
    ap (lookup (bytes_eq q)) c.remove_other.ensures.without ∙ look_without key others (ascending (slice_cmp nat_cmp) others c.remove_other.ensures.ordered) q in
    let fronted : AreFronted parts rest = subst (AreFronted parts) (sym c.remove_other.ensures.without) (fronted_without parts (is_at (slice_cmp nat_cmp key)) others c.requires.fronted) in
    let (entry, found, same) = c.in-Some-true.ensures in
    let there = ap (λ n. lookup (nat_eq n) held) (sym place) ∙ found in
    let is = same ∙ c.in-Some-true.field-0-test in
    let moved = c.in-Some.entry in
    let (size, own, leads) = c.in-Some.ensures.waits in
    let waited = place_waited_for parts c.key_place-begin.result.0 key moved rest c.key_place-begin.ensures.begin size own leads fronted in
    let leads_on : lookup (bytes_eq moved.key) rest ≡ Some (drop moved.begin moved.key) = looks moved.key rest ∙ leads in
    let left_is : (q : List ℕ) → lookup (bytes_eq q) c.remove.new.self ≡ cond (eq_by_cmp (slice_cmp nat_cmp) q moved.key) None (lookup (bytes_eq q) rest) = λ q.
    ap (lookup (bytes_eq q)) c.remove.ensures ∙ look_without moved.key rest (ascending (slice_cmp nat_cmp) rest c.in-Some.ensures.ordered) q in
    let now_is : (n : ℕ) → lookup (nat_eq n) c.hold.new.held.entries ≡ cond (nat_eq (key_hash parts key) n) (Some moved) (lookup (nat_eq n) held) = λ n.
    c.hold.ensures.holds n ∙ ap (λ p. cond (nat_eq p n) (Some moved) (lookup (nat_eq n) held)) place in
    placed_moved parts held others c.requires.unique c.requires.placed key entry there is rest rest_is moved leads_on waited.1 c.remove.new.self left_is c.hold.new.held.entries now_is waited.0

pub returns-in-Some-clause-fronted : goal.returns-in-Some-clause-fronted
returns-in-Some-clause-fronted c =
    let parts = c.args.parts in
    let key = c.args.key.now in
    let others = c.args.others.now in
    let rest = c.remove_other.new.others in
    let fronted : AreFronted parts rest = subst (AreFronted parts) (sym c.remove_other.ensures.without) (fronted_without parts (is_at (slice_cmp nat_cmp key)) others c.requires.fronted) in
    subst (AreFronted parts) (sym c.remove.ensures) (fronted_without parts (is_at (slice_cmp nat_cmp c.in-Some.entry.key)) rest fronted)

pub returns-in-Some-clause-entries : goal.returns-in-Some-clause-entries
returns-in-Some-clause-entries c =
    let parts = c.args.parts in
    let key = c.args.key.now in
    let held = c.args.held.now.entries in
    let others = c.args.others.now in
    let rest = c.remove_other.new.others in
    let place = c.key_place-begin.ensures.place in
    let rest_is : (q : List ℕ) → lookup (bytes_eq q) rest ≡ cond (eq_by_cmp (slice_cmp nat_cmp) q key) None (lookup (bytes_eq q) others) = λ q.
    ap (lookup (bytes_eq q)) c.remove_other.ensures.without ∙ look_without key others (ascending (slice_cmp nat_cmp) others c.remove_other.ensures.ordered) q in
    let fronted : AreFronted parts rest = subst (AreFronted parts) (sym c.remove_other.ensures.without) (fronted_without parts (is_at (slice_cmp nat_cmp key)) others c.requires.fronted) in
    let (entry, found, same) = c.in-Some-true.ensures in
    let there = ap (λ n. lookup (nat_eq n) held) (sym place) ∙ found in
    let is = same ∙ c.in-Some-true.field-0-test in
    let moved = c.in-Some.entry in
    let (size, own, leads) = c.in-Some.ensures.waits in
    let waited = place_waited_for parts c.key_place-begin.result.0 key moved rest c.key_place-begin.ensures.begin size own leads fronted in
    let leads_on : lookup (bytes_eq moved.key) rest ≡ Some (drop moved.begin moved.key) = looks moved.key rest ∙ leads in
    let left_is : (q : List ℕ) → lookup (bytes_eq q) c.remove.new.self ≡ cond (eq_by_cmp (slice_cmp nat_cmp) q moved.key) None (lookup (bytes_eq q) rest) = λ q.
    ap (lookup (bytes_eq q)) c.remove.ensures ∙ look_without moved.key rest (ascending (slice_cmp nat_cmp) rest c.in-Some.ensures.ordered) q in
    let now_is : (n : ℕ) → lookup (nat_eq n) c.hold.new.held.entries ≡ cond (nat_eq (key_hash parts key) n) (Some moved) (lookup (nat_eq n) held) = λ n.
    c.hold.ensures.holds n ∙ ap (λ p. cond (nat_eq p n) (Some moved) (lookup (nat_eq n) held)) place in
    with_moved parts held others c.requires.unique c.requires.placed key entry there is rest rest_is moved leads_on waited.1 c.remove.new.self left_is c.hold.new.held.entries now_is c.hold.ensures.unique
    (placed_moved parts held others c.requires.unique c.requires.placed key entry there is rest rest_is moved leads_on waited.1 c.remove.new.self left_is c.hold.new.held.entries now_is waited.0)

pub returns-in-None-waiting-clause-placed : goal.returns-in-None-waiting-clause-placed
returns-in-None-waiting-clause-placed c =
    let parts = c.args.parts in
    let key = c.args.key.now in
    let held = c.args.held.now.entries in
    let others = c.args.others.now in
    let place = c.key_place-begin.ensures.place in
    let (entry, found, same) = c.in-Some-true.ensures in
    let there = ap (λ n. lookup (nat_eq n) held) (sym place) ∙ found in
    let is = same ∙ c.in-Some-true.field-0-test in
    let gone : (n : ℕ) → lookup (nat_eq n) c.remove-in-None-waiting.new.self.entries ≡ cond (nat_eq (key_hash parts key) n) None (lookup (nat_eq n) held) = λ n.
    c.remove-in-None-waiting.ensures.updates.0 n ∙ ap (λ p. cond (nat_eq p n) None (lookup (nat_eq n) held)) place in
    let now = c.remove-in-None-waiting.new.self.entries in
    placed_still parts held others c.requires.unique c.requires.placed key now entry there is gone

pub returns-in-None-waiting-clause-fronted : goal.returns-in-None-waiting-clause-fronted
returns-in-None-waiting-clause-fronted c =
    subst (AreFronted c.args.parts) (sym c.remove_other.ensures.without) (fronted_without c.args.parts (is_at (slice_cmp nat_cmp c.args.key.now)) c.args.others.now c.requires.fronted)

pub returns-in-None-waiting-clause-entries : goal.returns-in-None-waiting-clause-entries
returns-in-None-waiting-clause-entries c =
    let parts = c.args.parts in
    let key = c.args.key.now in
    let held = c.args.held.now.entries in
    let others = c.args.others.now in
    let rest = c.remove_other.new.others in
    let place = c.key_place-begin.ensures.place in
    let rest_is : (q : List ℕ) → lookup (bytes_eq q) rest ≡ cond (eq_by_cmp (slice_cmp nat_cmp) q key) None (lookup (bytes_eq q) others) = λ q.
    ap (lookup (bytes_eq q)) c.remove_other.ensures.without ∙ look_without key others (ascending (slice_cmp nat_cmp) others c.remove_other.ensures.ordered) q in
    let (entry, found, same) = c.in-Some-true.ensures in
    let there = ap (λ n. lookup (nat_eq n) held) (sym place) ∙ found in
    let is = same ∙ c.in-Some-true.field-0-test in
    let gone : (n : ℕ) → lookup (nat_eq n) c.remove-in-None-waiting.new.self.entries ≡ cond (nat_eq (key_hash parts key) n) None (lookup (nat_eq n) held) = λ n.
    c.remove-in-None-waiting.ensures.updates.0 n ∙ ap (λ p. cond (nat_eq p n) None (lookup (nat_eq n) held)) place in
    let now = c.remove-in-None-waiting.new.self.entries in
    without_both parts held others c.requires.unique c.requires.placed key now rest c.remove-in-None-waiting.ensures.unique
    (placed_still parts held others c.requires.unique c.requires.placed key now entry there is gone)
    (held_gone parts held others c.requires.unique c.requires.placed key now entry there is gone) rest_is

pub returns-in-Some-false-clause-fronted : goal.returns-in-Some-false-clause-fronted
returns-in-Some-false-clause-fronted c =
    subst (AreFronted c.args.parts) (sym c.remove_other.ensures.without) (fronted_without c.args.parts (is_at (slice_cmp nat_cmp c.args.key.now)) c.args.others.now c.requires.fronted)

pub returns-in-Some-false-clause-entries : goal.returns-in-Some-false-clause-entries
returns-in-Some-false-clause-entries c =
    let parts = c.args.parts in
    let key = c.args.key.now in
    let held = c.args.held.now.entries in
    let others = c.args.others.now in
    let rest = c.remove_other.new.others in
    let place = c.key_place-begin.ensures.place in
    let rest_is : (q : List ℕ) → lookup (bytes_eq q) rest ≡ cond (eq_by_cmp (slice_cmp nat_cmp) q key) None (lookup (bytes_eq q) others) = λ q.
    ap (lookup (bytes_eq q)) c.remove_other.ensures.without ∙ look_without key others (ascending (slice_cmp nat_cmp) others c.remove_other.ensures.ordered) q in
    let (entry, found, same) = c.in-Some-false.ensures in
    let none = ap (λ n. under_own key (lookup (nat_eq n) held)) (sym place) ∙ ap (under_own key) found ∙ ap (λ b. cond b (Some (drop entry.begin entry.key)) None) (same ∙ c.in-Some-false.field-0-test) in
    without_both parts held others c.requires.unique c.requires.placed key held rest c.requires.unique c.requires.placed (held_apart parts held others c.requires.unique c.requires.placed key none) rest_is

pub returns-in-None-clause-fronted : goal.returns-in-None-clause-fronted
returns-in-None-clause-fronted c =
    subst (AreFronted c.args.parts) (sym c.remove_other.ensures.without) (fronted_without c.args.parts (is_at (slice_cmp nat_cmp c.args.key.now)) c.args.others.now c.requires.fronted)

pub returns-in-None-clause-entries : goal.returns-in-None-clause-entries
returns-in-None-clause-entries c =
    let parts = c.args.parts in
    let key = c.args.key.now in
    let held = c.args.held.now.entries in
    let others = c.args.others.now in
    let rest = c.remove_other.new.others in
    let place = c.key_place-begin.ensures.place in
    let rest_is : (q : List ℕ) → lookup (bytes_eq q) rest ≡ cond (eq_by_cmp (slice_cmp nat_cmp) q key) None (lookup (bytes_eq q) others) = λ q.
    ap (lookup (bytes_eq q)) c.remove_other.ensures.without ∙ look_without key others (ascending (slice_cmp nat_cmp) others c.remove_other.ensures.ordered) q in
    let none = ap (λ n. under_own key (lookup (nat_eq n) held)) (sym place) ∙ ap (under_own key) c.in-None.ensures in
    without_both parts held others c.requires.unique c.requires.placed key held rest c.requires.unique c.requires.placed (held_apart parts held others c.requires.unique c.requires.placed key none) rest_is
