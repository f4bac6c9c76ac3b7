use Rattle.std.proofs.Common.{◌∷◌, ap, sym, subst, ◌∙◌}
use Rattle.std.specs.Prelude.{IfSome}
use Rattle.mx_schema.specs.Catalogues.{schema_of}
use Rattle.mx_space.specs.OwnChanges.{HoldsOwn}
use Rattle.mx_entries.proofs.OwnStateLaws.{schema_with_own}
use Rattle.mx_write.specs.declared.writable.Writer.TheVariants.{Client}
use Rattle.mx_write.specs.Installs.{Fits}
use Rattle.mx_judge.specs.Makes.{tuple_after}
use Rattle.mx_write.proofs.EachSpaceLaws.{change_of}
use Rattle.mx_judge.proofs.InstallLaws.{at_either, both_ends, judged_so}
use Rattle.mx_judge.proofs.made.Made.stage.Goals as goal

pub returns-in-Put : goal.returns-in-Put
returns-in-Put c = λ base seen own write made holds is plain over elsewhere outcome makes.
    let one = c.args.self in
    let space = c.args.space.0 in
    let effect = ap tuple_after c.in-Put.is in
    let may = judged_so seen space write one made makes Client outcome in
    let described = sym (schema_with_own base own plain space) ∙ ap (λ s. schema_of s space) (sym is) ∙ may.described in
    at_either c.put.result
    (both_ends _ _ c.put.result
    (c.put.ensures.ok (schema_of base) base own may.schema may.primary makes.key holds.spaces over described may.there (subst (λ t. IfSome t (Fits seen space may.schema may.primary makes.key)) effect may.fits).own makes.fit makes.bytes)
    (c.put.ensures.err (schema_of base) own over))
    (λ staged. (change_of space makes.key (tuple_after one.effect), makes.change, subst (λ t. HoldsOwn (schema_of base) c.put.new.self (change_of space makes.key t ∷ own)) (sym effect) staged))
    (λ kept. kept)

pub returns : goal.returns
returns c = λ base seen own write made holds is plain over elsewhere outcome makes.
    let one = c.args.self in
    let space = c.args.space.0 in
    let effect = ap tuple_after c.in-Removed.is in
    let may = judged_so seen space write one made makes Client outcome in
    let described = sym (schema_with_own base own plain space) ∙ ap (λ s. schema_of s space) (sym is) ∙ may.described in
    at_either c.remove.result
    (both_ends _ _ c.remove.result
    (c.remove.ensures.ok (schema_of base) base own may.schema may.primary makes.key holds.spaces over described may.there makes.fit makes.bytes)
    (c.remove.ensures.err (schema_of base) own over))
    (λ staged. (change_of space makes.key (tuple_after one.effect), makes.change, subst (λ t. HoldsOwn (schema_of base) c.remove.new.self (change_of space makes.key t ∷ own)) (sym effect) staged))
    (λ kept. kept)
