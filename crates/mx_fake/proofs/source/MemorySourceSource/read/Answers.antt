use Rattle.std.proofs.Common.{◌≡◌, ℕ, ◌+◌, List, ◌++◌, take, drop, ap, sym, ◌∙◌}
use Rattle.std.proofs.lemmas.List.{drop-drop}
use Rattle.mx_fake.proofs.Prefixes.{prefix_copied}
use Rattle.mx_fake.proofs.source.MemorySourceSource.read.Goals as goal

pub returns-clause-bytes : goal.returns-clause-bytes
returns-clause-bytes c =
    let rest = c.rest-rest.result.now in
    let at = c.args.self.now.at in
    let count = c.min-count.result in
    let bytes = c.args.self.now.bytes.items in
    let is : rest ≡ drop at bytes = cc (c.rest-rest.ensures) in
    let moved : drop count rest ≡ drop (at + count) bytes = ap (λ (l : List ℕ). drop count l) is ∙ drop-drop count at bytes in
    let copied = prefix_copied rest c.args.into.now c.copy_from_slice.new.self count c.min-count.ensures c.copy_from_slice.ensures.after in (
      sym is ∙ copied.0 ∙ ap (λ (l : List ℕ). take count (c.copy_from_slice.new.self ++ drop count c.args.into.now) ++ l) moved,
      λ none room. sym moved ∙ copied.1 none room,
    )
