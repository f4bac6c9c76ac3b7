use Rattle.std.proofs.Common.{◌≡◌, [], ◌∷◌, ◌++◌, sym, ap, ◌∙◌, append-nil, append_assoc}
use Rattle.std.specs.BTreeMap.{insert_entry}
use Rattle.std.specs.Cmp.Lexicographic.{slice_cmp}
use Rattle.std.specs.Ordering.{nat_cmp}
use Rattle.mx_space.specs.HashViews.{hash_entries}
use Rattle.mx_space.proofs.FirstTupleLaws.{none_kept, one_further}
use Rattle.mx_space.proofs.hash_tuples.copies_of.Goals as goal

pub loop-key-init : goal.loop-key-init
loop-key-init c = ([], c.into_iter-key-iterator.ensures.into_iter_gives.0, c.new-ordered.ensures.empty ∙ sym none_kept)

pub loop-key-preserved : goal.loop-key-preserved
loop-key-preserved c =
    let (front, parts, copied) = c.loop-key.invariant in
    let key = c.in-Some.key.now in
    let tuple = c.in-Some.tuple.now in
    let rest = c.next.new.self in
    let here : front ++ (key, tuple) ∷ rest ≡ c.args.tuples.now.entries = ap (λ l. front ++ l) (sym c.in-Some.ensures.steps) ∙ parts in (
      front ++ (key, tuple) ∷ [],
      append_assoc front ((key, tuple) ∷ []) rest ∙ here,
      c.in_ok-set_entry.ensures
          ∙ (λ i. insert_entry (slice_cmp nat_cmp) (copied i) (c.in_ok-clone.ensures.cases i) (c.in_ok-clone-2.ensures.cases i))
          ∙ sym (one_further front rest c.args.tuples.now.entries key tuple here c.into_iter-key-iterator.ensures.into_iter_gives.4),
    )

pub returns : goal.returns
returns c =
    let (front, parts, copied) = c.loop-key.invariant in
    copied ∙ ap hash_entries (sym (append-nil front) ∙ ap (λ l. front ++ l) (sym c.in-None.ensures.steps.0) ∙ parts)
