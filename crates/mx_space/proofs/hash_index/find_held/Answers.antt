use Rattle.std.proofs.Common.{◌≡◌, not, length, drop, take, min, sym, ap, ◌∙◌, true≢false}
use Rattle.std.specs.Cmp.Lexicographic.{bytes_decides}
use Rattle.std.proofs.lemmas.List.{drop_min, take_min}
use Rattle.mx_msgpack.proofs.Options.{same_some}
use Rattle.mx_space.specs.declared.held_entry.HeldEntry.{HeldEntry}
use Rattle.mx_space.proofs.HashIndexLaws.{bytes_same}
use Rattle.mx_space.proofs.hash_index.find_held.Goals as goal

pub returns-then-ne : goal.returns-then-ne
returns-then-ne c = λ other found begun.
    let entry = c.in_ok-entry.entry.now in
    let same : entry ≡ other = same_some entry other (c.in_ok-entry.ensures.value ∙ found) in
    let size = c.min.ensures ∙ ap (λ bytes. min entry.begin (length bytes)) c.as_slice-whole.ensures in
    let own : c.split_at.result.0.now ≡ c.as_slice.result.now =
    c.split_at.ensures.front ∙ (λ i. take (size i) (c.as_slice-whole.ensures i)) ∙ take_min entry.begin entry.key
    ∙ ap (λ (one : HeldEntry). take one.begin one.key) same ∙ begun ∙ sym c.as_slice.ensures in
    true≢false (c.if-ne.ensures ∙ ap not ((bytes_decides c.split_at.result.0.now c.as_slice.result.now).1 own))

pub returns : goal.returns
returns c =
    let entry = c.in_ok-entry.entry.now in
    let size = c.min.ensures ∙ ap (λ bytes. min entry.begin (length bytes)) c.as_slice-whole.ensures in
    let own = bytes_same c.split_at.result.0.now c.as_slice.result.now c.if-ne.ensures ∙ c.as_slice.ensures in
    let front = c.split_at.ensures.front ∙ (λ i. take (size i) (c.as_slice-whole.ensures i)) ∙ take_min entry.begin entry.key in
    let back = c.split_at.ensures.back ∙ (λ i. drop (size i) (c.as_slice-whole.ensures i)) ∙ drop_min entry.begin entry.key in
    (entry, sym c.in_ok-entry.ensures.value, sym front ∙ own, own, back)
