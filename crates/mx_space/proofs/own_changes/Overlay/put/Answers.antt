use Rattle.std.proofs.Common.{◌≡◌, None, Some, sym, ap, ◌∙◌, subst, is_some}
use Rattle.std.specs.FinMap.{empty, insert}
use Rattle.std.specs.Option.{option_copied, option_copied_mut}
use Rattle.std.proofs.lemmas.Result.{on_err_weaker, on_ok_weaker}
use Rattle.mx_space.specs.declared.own_changes.Overlay.{Overlay}
use Rattle.mx_space.specs.Overlays.{StoresWritten}
use Rattle.mx_space.specs.OwnChanges.{overlaid}
use Rattle.mx_entries.specs.OwnStates.{written_by}
use Rattle.mx_entries.specs.PlainChanges.{MayStand, PlainChange}
use Rattle.mx_space.proofs.OwnHeldLaws.{holds_first, holds_more, holds_still, none_in, writes_there}
use Rattle.mx_space.proofs.own_changes.Overlay.put.Goals as goal

pub returns-in-Some-clause-ok : goal.returns-in-Some-clause-ok
returns-in-Some-clause-ok c = λ schemas base own schema primary key memory holds described first keyed fit is.
    let space = c.args.space.0 in
    let found = c.in-Some.over.now in
    let after = c.put.new.self in
    let new : Overlay = record { spaces = c.get_mut.follows.lender after } in
    let change : PlainChange = record { space = space; key = key; tuple = Some c.args.keyed.tuple } in
    let stands : MayStand schemas change = record { schema = schema; primary = primary; is = described; first = first; keyed = keyed } in
    let there : overlaid space c.args.self.now ≡ Some found = sym c.get_mut.ensures.value ∙ ap option_copied_mut c.in-Some.is in
    let writes = writes_there schemas c.args.self.now new own holds space found there in
    on_ok_weaker c.put.result
    (λ stores. holds_more schemas c.args.self.now new own holds change after ((c.get_mut.follows.holds after).3 (ap is_some there)).0 stands
    (subst (λ s. StoresWritten s after (insert (written_by space own) key (Some c.args.keyed.tuple))) (sym described) stores))
    (c.put.ensures.ok schema (written_by space own) primary key (subst (λ s. StoresWritten s found (written_by space own)) described writes) first keyed fit is)

pub returns-in-Some-clause-err : goal.returns-in-Some-clause-err
returns-in-Some-clause-err c = λ schemas own holds.
    let space = c.args.space.0 in
    let found = c.in-Some.over.now in
    let after = c.put.new.self in
    let new : Overlay = record { spaces = c.get_mut.follows.lender after } in
    let there : overlaid space c.args.self.now ≡ Some found = sym c.get_mut.ensures.value ∙ ap option_copied_mut c.in-Some.is in
    on_err_weaker c.put.result (λ stores. holds_still schemas c.args.self.now new own holds space found after there ((c.get_mut.follows.holds after).3 (ap is_some there)).0 stores)
    (c.put.ensures.err (schemas space) (written_by space own) (writes_there schemas c.args.self.now new own holds space found there))

pub returns-clause-ok : goal.returns-clause-ok
returns-clause-ok c = λ schemas base own schema primary key memory holds described first keyed fit is.
    let space = c.args.space.0 in
    let after = c.put-2.new.self in
    let new : Overlay = record { spaces = c.insert.new.self } in
    let change : PlainChange = record { space = space; key = key; tuple = Some c.args.keyed.tuple } in
    let stands : MayStand schemas change = record { schema = schema; primary = primary; is = described; first = first; keyed = keyed } in
    let none : overlaid space c.args.self.now ≡ None = sym c.get_mut.ensures.value ∙ ap option_copied_mut c.in_default.is in
    let started = none_in schemas c.args.state.now base space c.in-Some-space.stored.now schema c.in_ok-over.over memory (sym (ap option_copied c.in-Some-space.is) ∙ c.space.ensures) described c.in_ok-over.ensures in
    holds_first schemas c.args.self.now new own holds change after c.get_mut.follows.lender-at-none c.get_mut.follows.holds-at-none c.in_ok-insert.ensures.updates.0 none stands
    (subst (λ s. StoresWritten s after (insert empty key (Some c.args.keyed.tuple))) (sym described) (c.in_ok-put.ensures.ok schema empty primary key started first keyed fit is))
