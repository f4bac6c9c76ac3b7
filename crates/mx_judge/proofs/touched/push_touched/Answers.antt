use Rattle.std.proofs.Common.{◌≡◌, Option, Some, List, Result, Ok, Err, sym, ap, ◌∙◌, subst}
use Rattle.std.specs.Prelude.{ℕ, IfOk}
use Rattle.std.specs.FinMap.{get}
use Rattle.std.specs.Option.{option_copied}
use Rattle.mx_schema.specs.Catalogues.{schema_of}
use Rattle.mx_schema.specs.State.{tuples_in}
use Rattle.mx_space.specs.OwnChanges.{ShowsTuples}
use Rattle.mx_write.specs.Change.{Change}
use Rattle.mx_judge.specs.Makes.{tuple_after}
use Rattle.mx_write.specs.Touches.{AddsTouched, touched_at, touched_by_change}
use Rattle.mx_write.proofs.TouchLaws.{adds_keys_of_both}
use Rattle.mx_judge.proofs.touched.push_touched.Goals as goal

ok_then : {X E A B : Type 0} (result : Result X E) → (A → B) → IfOk result (λ _. A) → IfOk result (λ _. B)
ok_then (Ok x) follows told = follows told
ok_then (Err e) follows told = tt

pub returns-clause-adds : goal.returns-clause-adds
returns-clause-adds c = λ seen write judged holds makes.
    let space = c.args.space.0 in
    let key = makes.key in
    let tuples = tuples_in seen space in
    let old = c.args.keys.now in
    let mid = c.push_tuple.new.keys in
    let new = c.push_tuple-2.new.keys in
    let comes = tuple_after c.args.made.now.effect in
    let shown : ShowsTuples (schema_of seen space) c.in-Some.stored tuples = c.in-Some.ensures.shown seen holds in
    let described : schema_of seen space ≡ Some c.schema-schema.result.now = shown.sees.state.holds.is ∙ ap Some (sym c.schema-schema.ensures) in
    let was : option_copied c.tuple-old.result ≡ get tuples key = c.tuple-old.ensures.shown (schema_of seen space) tuples key shown makes.fit makes.bytes in
    let first : AddsTouched seen (touched_at space key (get tuples key)) old mid =
    subst (λ (o : Option (List ℕ)). AddsTouched seen (touched_at space key o) old mid) was (c.in_ok-push_tuple.ensures.adds seen key holds.sound described makes.fit makes.bytes) in
    ok_then c.push_tuple-2.result
    (λ last.
    subst (λ (o : Option Change). AddsTouched seen (touched_by_change seen o) old new) (sym makes.change)
    (adds_keys_of_both seen (touched_at space key (get tuples key)) (touched_at space key comes) old mid new first
    (subst (λ (o : Option (List ℕ)). AddsTouched seen (touched_at space key o) mid new) c.tuple_after-new.ensures last)))
    (c.push_tuple-2.ensures.adds seen key holds.sound described makes.fit makes.bytes)
