use Rattle.std.proofs.Common.{◌∷◌, sym, ap, ◌∙◌}
use Rattle.mx_schema.specs.Picks.{directed}
use Rattle.mx_entries.specs.Entries.{entries_split, entry_split}
use Rattle.mx_entries.proofs.WindowLaws.{map-directed, next_seen}
use Rattle.mx_space.proofs.scan.step_in_index.Goals as goal

pub returns-in-Some : goal.returns-in-Some
returns-in-Some c =
    next_seen entry_split c.args.down (c.in-Some.key.now, c.in-Some.begin.now) c.args.begins.now c.step.new.entries c.in-Some.ensures
    ∙ ap (λ rest. (c.in-Some.key.now, rest) ∷ directed c.args.down (entries_split c.step.new.entries)) (sym c.behind.ensures)

pub returns-in-None : goal.returns-in-None
returns-in-None c = (
  map-directed entry_split c.args.down c.args.begins.now ∙ ap entries_split c.in-None.ensures.0,
  map-directed entry_split c.args.down c.step.new.entries ∙ ap entries_split c.in-None.ensures.1,
)
