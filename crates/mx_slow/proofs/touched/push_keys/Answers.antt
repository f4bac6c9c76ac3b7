use Rattle.std.proofs.Common.{rules, ◌≡◌, ◌<◌, ◌++◌, ◌∷◌, [], length, take, refl, sym, ap, ◌∙◌, subst, get_or}
use Rattle.std.proofs.lemmas.List.{take_all, take_more}
use Rattle.mx_schema.specs.declared.index_def.IndexDef.{IndexDef}
use Rattle.mx_write.specs.Touches.{Touched}
use Rattle.mx_slow.proofs.SlowTouchLaws.{MeetBeside, all_meet, more_beside, none_beside}
use Rattle.mx_slow.proofs.touched.push_keys.Goals as goal

pub loop-def-init : goal.loop-def-init
loop-def-init c = λ primary fit bytes. none_beside c.args.out.now (record { space = c.args.space.0; key = primary; tuple = c.args.tuple.now })

pub loop-def-preserved : goal.loop-def-preserved
loop-def-preserved c = λ primary fit bytes.
    let def : IndexDef = c.def-item.result in
    let items = c.as_slice-def-items.result.now in
    let place = c.loop-def.def-index in
    let touched : Touched = record { space = c.args.space.0; key = primary; tuple = c.args.tuple.now } in
    let within : place < length items = search rules in
    let is : def ≡ get_or items place def = search rules in
    let (own, own_fit) = c.in_ok-key.ensures primary c.args.space.0 fit bytes in
    subst (MeetBeside c.args.out.now c.push.new.self touched) (ap (λ d. take place items ++ d ∷ []) is ∙ sym (take_more items place def within))
    (subst (λ (keys : _). MeetBeside c.args.out.now keys touched (take place items ++ def ∷ [])) (sym c.in_ok-push.ensures)
    (more_beside c.args.out.now c.loop-def.out touched (take place items) def (record { space = c.args.space; index = def.id; key = c.in_ok-key.key }) refl refl own own_fit
    (c.loop-def.invariant primary fit bytes)))

pub returns : goal.returns
returns c = λ primary fit bytes own.
    let items = c.as_slice-def-items.result.now in
    let touched : Touched = record { space = c.args.space.0; key = primary; tuple = c.args.tuple.now } in
    all_meet c.args.out.now c.loop-def.out touched c.args.schema.now.indexes own
    (subst (MeetBeside c.args.out.now c.loop-def.out touched) (take_all c.loop-def.def-index items c.loop-def-test.false ∙ c.as_slice-def-items.ensures)
    (c.loop-def.invariant primary fit bytes))
