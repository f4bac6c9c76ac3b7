use Rattle.std.proofs.Common.{rules, None, sym, subst}
use Rattle.std.specs.Prelude.{MatchResult}
use Rattle.mx_schema.specs.Catalogues.{schema_of}
use Rattle.mx_space.specs.Stored.{Holds}
use Rattle.mx_write.specs.Change.{state_after_change}
use Rattle.mx_write.specs.Installs.{MayChange, Stands}
use Rattle.mx_write.proofs.EachSpaceLaws.{change_of, tuple_removed}
use Rattle.mx_judge.proofs.InstallLaws.{at_either, both_ends, held, held_after, held_before}
use Rattle.mx_judge.proofs.install.remove.Goals as goal

pub returns-in-280 : goal.returns-in-280
returns-in-280 c = λ before key holds fit bytes changes stands.
    subst (λ n. MatchResult c.remove_space.result (λ x. Holds c.remove_space.new.state (state_after_change before (change_of n key None))) (λ x. Holds c.remove_space.new.state before))
    (sym c.in-280.is) (c.remove_space.ensures before key holds fit bytes (subst (λ n. MayChange before n key None) c.in-280.is changes)
    (subst (λ n. Stands before n key c.args.keyed.tuple) c.in-280.is stands))

pub returns-in-288 : goal.returns-in-288
returns-in-288 c = λ before key holds fit bytes changes stands.
    subst (λ n. MatchResult c.remove_index.result (λ x. Holds c.remove_index.new.state (state_after_change before (change_of n key None))) (λ x. Holds c.remove_index.new.state before))
    (sym c.in-288.is) (c.remove_index.ensures before key holds fit bytes (subst (λ n. MayChange before n key None) c.in-288.is changes)
    (subst (λ n. Stands before n key c.args.keyed.tuple) c.in-288.is stands))

pub returns : goal.returns
returns c = λ before key holds fit bytes changes stands.
    at_either c.remove.result
    (both_ends _ _ c.remove.result
    (c.remove.ensures.ok (schema_of before) before changes.schema changes.primary key holds.spaces changes.described changes.there fit bytes)
    (c.remove.ensures.err (schema_of before) before holds.spaces))
    (λ left. held_after before c.args.state.now holds c.args.space.0 key fit None changes c.remove.new.self
    (tuple_removed (held c.remove.new.self) before c.args.space.0 key (search rules) (search rules) left))
    (λ kept. held_before before c.args.state.now c.remove.new.self holds kept)
