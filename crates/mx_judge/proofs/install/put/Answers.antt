use Rattle.std.proofs.Common.{rules, Some, sym, subst}
use Rattle.std.specs.Prelude.{MatchResult}
use Rattle.mx_space.specs.Stored.{Holds}
use Rattle.mx_schema.specs.Catalogues.{schema_of}
use Rattle.mx_write.specs.Change.{state_after_change}
use Rattle.mx_write.specs.Installs.{MayChange}
use Rattle.mx_write.proofs.EachSpaceLaws.{change_of, tuple_put}
use Rattle.mx_judge.proofs.InstallLaws.{at_either, both_ends, held, held_after, held_before}
use Rattle.mx_judge.proofs.install.put.Goals as goal

pub returns-in-280 : goal.returns-in-280
returns-in-280 c = λ before key holds fit bytes changes.
    let tuple = c.args.keyed.tuple in
    subst (λ n. MatchResult c.put_space.result (λ x. Holds c.put_space.new.state (state_after_change before (change_of n key (Some tuple)))) (λ x. Holds c.put_space.new.state before))
    (sym c.in-280.is) (c.put_space.ensures before key holds fit bytes (subst (λ n. MayChange before n key (Some tuple)) c.in-280.is changes))

pub returns-in-288 : goal.returns-in-288
returns-in-288 c = λ before key holds fit bytes changes.
    let tuple = c.args.keyed.tuple in
    subst (λ n. MatchResult c.put_index.result (λ x. Holds c.put_index.new.state (state_after_change before (change_of n key (Some tuple)))) (λ x. Holds c.put_index.new.state before))
    (sym c.in-288.is) (c.put_index.ensures before key holds fit bytes (subst (λ n. MayChange before n key (Some tuple)) c.in-288.is changes))

pub returns-in_default : goal.returns-in_default
returns-in_default c = λ before key holds fit bytes changes.
    let tuple = c.args.keyed.tuple in
    at_either c.put.result
    (both_ends _ _ c.put.result
    (c.put.ensures.ok (schema_of before) before changes.schema changes.primary key holds.spaces changes.described changes.there changes.fits.own fit bytes)
    (c.put.ensures.err (schema_of before) before holds.spaces))
    (λ put. held_after before c.args.state.now holds c.args.space.0 key fit (Some tuple) changes c.put.new.self
    (tuple_put (held c.put.new.self) before c.args.space.0 key (search rules) (search rules) tuple put))
    (λ kept. held_before before c.args.state.now c.put.new.self holds kept)
