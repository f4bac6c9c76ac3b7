use Rattle.std.proofs.Common.{◌∙◌}
use Rattle.mx_entries.proofs.BytesLaws.{undone_so}
use Rattle.mx_space.proofs.change.add.Goals as goal

pub returns-clause-undo : goal.returns-clause-undo
returns-clause-undo c =
    undone_so c.args.index.now c.in-Some.key c.in_ok-key.key c.args.primary.now c.args.added.now c.insert.new.self c.insert.result
    c.in-Some.is (c.in_ok-key.ensures ∙ c.as_slice.ensures) c.insert.ensures.is_new c.insert.ensures.ok
