use Rattle.std.proofs.Common.{[], ◌∷◌, ◌++◌, List, drop, sym, ap, ◌∙◌, append-nil, append_assoc}
use Rattle.std.specs.FinMap.{entries}
use Rattle.mx_hash.specs.Views.{map_of}
use Rattle.mx_entries.specs.Entries.{IndexEntry, with_entry}
use Rattle.mx_space.specs.HashIndexes.{held_entries}
use Rattle.mx_space.proofs.HashIndexLaws.{entries_more, pushed}
use Rattle.mx_space.proofs.hash_index.add_held.Goals as goal

pub loop-entry-init : goal.loop-entry-init
loop-entry-init c = λ before is. ([], c.into_iter-entry-iterator.ensures.into_iter_gives.0, is ∙ ap (λ l. entries (map_of l)) (sym (append-nil before)))

pub loop-entry-preserved : goal.loop-entry-preserved
loop-entry-preserved c = λ before is.
    let (front, parts, added) = c.loop-entry.invariant before is in
    let entry = c.in-Some.entry.now in
    let place = c.in-Some.field-0-0.now in
    let rest = c.next.new.self in
    let kept : List IndexEntry = before ++ held_entries front in
    let primary = drop entry.begin entry.key in (
      front ++ (place, entry) ∷ [],
      append_assoc front ((place, entry) ∷ []) rest ∙ ap (λ l. front ++ l) (sym c.in-Some.ensures.steps) ∙ parts,
      c.in_ok-insert.ensures.ok
          ∙ (λ i. with_entry (c.in_ok-clone.ensures.cases i) (c.behind.ensures i) (added i))
          ∙ pushed kept entry.key primary
          ∙ ap (λ l. entries (map_of l)) (entries_more before front place entry),
    )

pub returns : goal.returns
returns c = λ before is.
    let (front, parts, added) = c.loop-entry.invariant before is in
    added ∙ ap (λ l. entries (map_of (before ++ held_entries l))) (sym (append-nil front) ∙ ap (λ l. front ++ l) (sym c.in-None.ensures.steps.0) ∙ parts)
