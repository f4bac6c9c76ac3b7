use Rattle.std.proofs.Common.{◌≡◌, ℕ, List, Option, None, Some, sym, ap, ◌∙◌, subst}
use Rattle.std.specs.Prelude.{IfOk}
use Rattle.std.specs.FinMap.{get, get-empty}
use Rattle.std.specs.Option.{option_copied}
use Rattle.mx_key.specs.Keys.{key_cmp}
use Rattle.mx_schema.specs.Catalogues.{schema_of}
use Rattle.mx_schema.specs.State.{Tuples, tuples_in}
use Rattle.mx_schema.specs.Stored.{StoresNone}
use Rattle.mx_space.specs.OwnChanges.{HoldsView, ShowsTuples}
use Rattle.mx_write.specs.Touches.{AddsTouched, touched_at}
use Rattle.mx_write.proofs.TouchLaws.{adds_no_keys}
use Rattle.mx_judge.proofs.touched.touch_stood.Goals as goal

pub returns-in_default-clause-adds : goal.returns-in_default-clause-adds
returns-in_default-clause-adds c = λ before own holds fit bytes.
    let space = c.args.space.0 in
    let old = c.args.keys.now in
    let view : HoldsView c.of.result before = c.of.ensures.shown before holds in
    let none : StoresNone (schema_of before space) (tuples_in before space) = rw c.in_default.is at c.space.ensures.shown before view in
    let stood : get (tuples_in before space) own ≡ None = ap (λ (t : Tuples). get t own) none.no_tuples ∙ get-empty key_cmp own in
    subst (λ o. AddsTouched before (touched_at space own o) old old) (sym stood) (adds_no_keys before old)

pub returns-clause-adds : goal.returns-clause-adds
returns-clause-adds c = λ before own holds fit bytes.
    let space = c.args.space.0 in
    let tuples = tuples_in before space in
    let view : HoldsView c.of.result before = c.of.ensures.shown before holds in
    let shown : ShowsTuples (schema_of before space) c.in-Some.stored tuples = c.in-Some.ensures.shown before view in
    let described : schema_of before space ≡ Some c.schema.result.now = shown.sees.state.holds.is ∙ ap Some (sym c.schema.ensures) in
    let was : option_copied c.tuple.result ≡ get tuples own = c.tuple.ensures.shown (schema_of before space) tuples own shown fit bytes in
    subst (λ (o : Option (List ℕ)). IfOk c.push_tuple.result (λ x. AddsTouched before (touched_at space own o) c.args.keys.now c.push_tuple.new.keys)) was
    (c.push_tuple.ensures.adds before own view.sound described fit bytes)
