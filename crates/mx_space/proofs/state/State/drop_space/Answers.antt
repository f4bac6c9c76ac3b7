use Rattle.std.proofs.Common.{None, refl}
use Rattle.mx_schema.specs.SchemaChanges.{with_schema}
use Rattle.mx_space.proofs.HeldLaws.{description_changed, holds_described, nothing_there, still_none}
use Rattle.mx_space.proofs.state.State.drop_space.Goals as goal

pub returns-clause-drops : goal.returns-clause-drops
returns-clause-drops c = λ schemas state holds none.
    description_changed c.args.id.0 c.args.self.now.spaces.entries.items _ schemas state holds None None c.drop_space.ensures (record { none = refl; no_tuples = none })

pub returns-clause-absent : goal.returns-clause-absent
returns-clause-absent c = λ schemas state holds none.
    let id = c.args.id.0 in
    let spaces = c.args.self.now.spaces.entries.items in
    let empty = nothing_there id spaces schemas state holds none in
    holds_described (with_schema schemas id None) schemas (record { spaces = c.drop_space.new.self }) state (still_none schemas id none)
    (description_changed id spaces _ schemas state holds None None c.drop_space.ensures (record { none = refl; no_tuples = empty }))
