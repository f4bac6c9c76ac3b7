use Rattle.std.proofs.Common.{◌≡◌, ◌||◌, List, Result, Ok, Err, sym, ◌∙◌, subst, nat_cmp}
use Rattle.std.specs.Prelude.{IfOk}
use Rattle.std.specs.BTreeMap.{get_by}
use Rattle.std.specs.FinMap.{get}
use Rattle.std.specs.Option.{option_copied}
use Rattle.mx_schema.specs.Catalogues.{schema_of}
use Rattle.mx_schema.specs.State.{tuples_in}
use Rattle.mx_schema.specs.declared.keyed.Keyed.{Keyed}
use Rattle.mx_schema.specs.Stored.{StoresTuples, stored_list}
use Rattle.mx_schema.proofs.TakenLaws.{stored_get}
use Rattle.mx_write.specs.Change.{Change}
use Rattle.mx_judge.specs.Makes.{tuple_after}
use Rattle.mx_write.specs.Touches.{are_met, touched_at, touched_by}
use Rattle.mx_slow.specs.SlowReads.{reads_view}
use Rattle.mx_slow.specs.SlowTouches.{meet, meet_in}
use Rattle.mx_slow_state.proofs.SlowLaws.{none_found, space_found}
use Rattle.mx_slow.proofs.SlowTouchLaws.{change_meets, own_indexes, same_change}
use Rattle.mx_slow.proofs.touched.touch.Goals as goal

pub returns-in_default : goal.returns-in_default
returns-in_default c = λ before row change is made.
    let space = c.args.space.0 in
    let none = (none_found (schema_of before space) (tuples_in before space) (get_by (nat_cmp space) c.args.state.now.spaces) c.in_default.ensures.value (is.keeps space)).0 in
    let there = made.makes.described in
    absurd cc

ok_then : {X E A B : Type 0} (result : Result X E) → (A → B) → IfOk result (λ _. A) → IfOk result (λ _. B)
ok_then (Ok x) follows told = follows told
ok_then (Err e) follows told = tt

pub returns : goal.returns
returns c = λ before row change is made.
    let space = c.args.space.0 in
    let key = made.makes.key in
    let found = c.in-Some.found.now in
    let tuples = tuples_in before space in
    let stored = space_found (schema_of before space) tuples found (get_by (nat_cmp space) c.args.state.now.spaces) c.in-Some.ensures.value (is.keeps space) in
    let own = own_indexes before space found.schema is.sound stored.is in
    let kept = subst (λ (l : List Keyed). StoresTuples (stored_list l) tuples) (sym c.as_slice.ensures.value) stored.keeps in
    let was : option_copied c.tuple_of-old.result ≡ get tuples key =
    c.tuple_of-old.ensures ∙ c.find.ensures.tuple ∙ stored_get (stored_list c.as_slice.result.now) tuples key c.args.made.now.key kept made.makes.fit made.makes.bytes in
    let same = same_change change space key (tuple_after c.args.made.now.effect) made.made.change made.is made.makes.change in
    ok_then c.push_found-2.result
    (λ last reads fits.
    subst (λ (one : Change). meet c.push_found-2.new.out (reads_view reads) ≡ (meet c.args.out.now (reads_view reads) || are_met before (touched_by before one) reads)) same
    (change_meets before found.schema space stored.is c.args.out.now c.push_found.new.out c.push_found-2.new.out key (get tuples key) (tuple_after c.args.made.now.effect) reads
    (subst (λ o. meet c.push_found.new.out (reads_view reads) ≡ (meet c.args.out.now (reads_view reads) || meet_in found.schema.indexes (touched_at space key o) reads)) was
    (c.in_ok-push_found.ensures key made.makes.fit made.makes.bytes own reads fits))
    (subst (λ o. meet c.push_found-2.new.out (reads_view reads) ≡ (meet c.push_found.new.out (reads_view reads) || meet_in found.schema.indexes (touched_at space key o) reads)) c.tuple_after-new.ensures
    (last reads fits))))
    (c.push_found-2.ensures key made.makes.fit made.makes.bytes own)
