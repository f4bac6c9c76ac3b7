use Rattle.std.proofs.Common.{◌≡◌, List, [], ◌∷◌, map, take, drop, refl, ap, ◌∙◌}
use Rattle.mx_schema.specs.Picks.{directed}
use Rattle.mx_schema.specs.Stored.{StoredTuple}
use Rattle.mx_space.specs.declared.pick.Source.TheVariants as source
use Rattle.mx_space.specs.Selecting.{row_of}
use Rattle.mx_space.proofs.selection.collect_found.Goals as goal

-- entries that have their tuples stay as they are
entries_stay : (all : List StoredTuple) → map (row_of source.Entries) all ≡ all
entries_stay [] = refl
entries_stay (entry ∷ all) = ap (λ l. entry ∷ l) (entries_stay all)

pub returns : goal.returns
returns c =
    let wanted = c.args.wanted.now in
    let gone = ap (take wanted.limit) (entries_stay _ ∙ c.pass_over.ensures ∙ (λ i. drop wanted.offset (directed (c.descends-down.ensures i) (c.of_tuples-entries.ensures i)))) in
    rw gone at c.collect.ensures
