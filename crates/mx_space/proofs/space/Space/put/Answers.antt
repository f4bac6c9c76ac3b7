use Rattle.std.proofs.Common.{refl}
use Rattle.std.specs.Vec.{with_items}
use Rattle.mx_space.specs.declared.space.Space.{Space}
use Rattle.mx_space.proofs.SpaceLaws.{put_to_all, space_with_alone}
use Rattle.mx_space.proofs.space.Space.put.Goals as goal

pub returns-then-has_one_index-clause-ok : goal.returns-then-has_one_index-clause-ok
returns-then-has_one_index-clause-ok c = λ schema all primary key stores there keyed fit is.
    let after : Space = record { schema = c.args.self.now.schema; tuples = c.insert.new.self; indexes = c.args.self.now.indexes } in
    space_with_alone schema c.args.self.now after all stores refl primary there key c.args.keyed.tuple c.args.keyed.key keyed fit is c.in_ok-insert.ensures.entries
    (c.has_one_index.ensures.0 c.if-has_one_index.true) refl

pub returns-clause-ok : goal.returns-clause-ok
returns-clause-ok c = λ schema all primary key stores there keyed fit is.
    let puts = c.in_ok-changes.ensures all key stores.holds.keeps fit is in
    let after : Space = record { schema = c.args.self.now.schema; tuples = c.put_all.new.tuples; indexes = with_items c.args.self.now.indexes c.put_all.new.indexes } in
    put_to_all schema c.args.self.now all stores primary there key c.args.keyed.tuple c.args.keyed.key keyed fit is c.in_ok-changes.changes.items puts c.put_all.result after
    c.put_all.new.indexes c.as_mut_slice.result.now c.as_slice.result.now refl refl c.as_mut_slice.ensures.value c.as_slice.ensures.value c.put_all.ensures.tuples c.put_all.ensures.indexes
