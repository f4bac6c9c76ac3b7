use Rattle.std.proofs.Common.{rules, ◌≡◌, ◌<◌, ◌++◌, ◌∷◌, [], List, length, take, refl, sym, ap, ◌∙◌, subst, get_or}
use Rattle.std.proofs.lemmas.List.{take_all, take_more}
use Rattle.mx_schema.specs.declared.index_def.IndexDef.{IndexDef}
use Rattle.mx_tracker.specs.declared.touched.Touched as coded
use Rattle.mx_write.specs.Touches.{Touched}
use Rattle.mx_write.proofs.TouchLaws.{AddsBeside, adds_tuple, begins_longer, more_beside}
use Rattle.mx_judge.proofs.touched.push_keys.Goals as goal

pub loop-def-preserved : goal.loop-def-preserved
loop-def-preserved c =
    let def : IndexDef = c.def-item.result in
    let items = c.as_slice-def-items.result.now in
    let place = c.loop-def.def-index in
    let pushed : coded.Touched = record { space = c.args.space.0; index = def.id.0; key = c.in_ok-key.key } in
    let within : place < length items = search rules in
    let is : def ≡ get_or items place def = search rules in
    record {
      begins = subst (λ (keys : List coded.Touched). take (length c.args.keys.now) keys ≡ c.args.keys.now) (sym c.in_ok-push.ensures)
          (begins_longer c.args.keys.now c.loop-def.keys (pushed ∷ []) c.loop-def.invariant.begins);
      added = λ key fit bytes.
          let touched : Touched = record { space = c.args.space.0; key = key; tuple = c.args.tuple.now } in
          let (own, own_fit) = c.in_ok-key.ensures key c.args.space.0 fit bytes in
          subst (AddsBeside c.args.keys.now c.push.new.self touched) (ap (λ d. take place items ++ d ∷ []) is ∙ sym (take_more items place def within))
          (subst (λ (keys : List coded.Touched). AddsBeside c.args.keys.now keys touched (take place items ++ def ∷ [])) (sym c.in_ok-push.ensures)
          (more_beside c.args.keys.now c.loop-def.keys touched (take place items) def pushed refl refl own own_fit (c.loop-def.invariant.added key fit bytes)));
    }

pub returns-clause-adds : goal.returns-clause-adds
returns-clause-adds c = λ seen key sound described fit bytes.
    let items = c.as_slice-def-items.result.now in
    let touched : Touched = record { space = c.args.space.0; key = key; tuple = c.args.tuple.now } in
    adds_tuple seen c.args.schema.now touched c.args.keys.now c.loop-def.keys sound described
    (subst (AddsBeside c.args.keys.now c.loop-def.keys touched) (take_all c.loop-def.def-index items c.loop-def-test.false ∙ c.as_slice-def-items.ensures)
    (c.loop-def.invariant.added key fit bytes))
