use Rattle.std.proofs.Common.{◌≡◌, ◌++◌, List, ℕ, ap, ◌∙◌, subst}
use Rattle.std.specs.Prelude.{IfOk, codes, decimal}
use Rattle.mx_base.proofs.refusal_text.key_part_count.Goals as goal

pub returns : goal.returns
returns c =
    let between = codes " parts, index of " in
    subst (λ made. IfOk c.number-2.result (λ text. text ≡ made))
    (ap (λ (t : List ℕ). t ++ decimal c.from-2.result) c.in_ok-words-2.ensures
    ∙ ap (λ (t : List ℕ). t ++ between ++ decimal c.from-2.result) c.in_ok-text.ensures
    ∙ ap (λ (t : List ℕ). t ++ decimal c.from.result ++ between ++ decimal c.from-2.result) (c.in_ok-words.ensures ∙ ap (λ (t : List ℕ). t ++ codes "Key of ") c.new-text.ensures)
    ∙ (λ i. codes "Key of " ++ decimal (c.from.ensures i) ++ between ++ decimal (c.from-2.ensures i)))
    c.number-2.ensures
