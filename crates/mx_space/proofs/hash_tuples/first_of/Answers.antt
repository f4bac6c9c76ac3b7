use Rattle.std.proofs.Common.{◌≡◌, [], ◌∷◌, ◌++◌, take, sym, ap, ◌∙◌, append-nil, append_assoc}
use Rattle.mx_space.specs.HashViews.{hash_entries}
use Rattle.mx_space.proofs.FirstTupleLaws.{first_of_none, none_kept, one_further}
use Rattle.mx_space.proofs.hash_tuples.first_of.Goals as goal

pub loop-key-init : goal.loop-key-init
loop-key-init c =
    ([], c.into_iter-key-iterator.ensures.into_iter_gives.0, c.new-first.ensures.empty ∙ sym (ap (take c.args.count) none_kept ∙ first_of_none c.args.count))

pub loop-key-preserved : goal.loop-key-preserved
loop-key-preserved c =
    let (front, parts, are) = c.loop-key.invariant in
    let key = c.in-Some.key.now in
    let tuple = c.in-Some.tuple.now in
    let rest = c.next.new.self in
    let here : front ++ (key, tuple) ∷ rest ≡ c.args.tuples.now.entries = ap (λ l. front ++ l) (sym c.in-Some.ensures.steps) ∙ parts in (
      front ++ (key, tuple) ∷ [],
      append_assoc front ((key, tuple) ∷ []) rest ∙ here,
      c.in_ok-add_first.ensures.first (hash_entries front) are
          ∙ ap (take c.args.count) (sym (one_further front rest c.args.tuples.now.entries key tuple here c.into_iter-key-iterator.ensures.into_iter_gives.4)),
    )

pub returns : goal.returns
returns c =
    let (front, parts, are) = c.loop-key.invariant in
    are ∙ ap (λ l. take c.args.count (hash_entries l)) (sym (append-nil front) ∙ ap (λ l. front ++ l) (sym c.in-None.ensures.steps.0) ∙ parts)
