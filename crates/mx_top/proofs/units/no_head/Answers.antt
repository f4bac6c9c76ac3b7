use Rattle.std.proofs.Common.{◌≡◌, ◌<◌, ℕ, List, length, ◌++◌, refl, ap, ◌∙◌, arith}
use Rattle.std.proofs.lemmas.List.{append-nil}
use Rattle.mx_top.specs.Units.{content_at}
use Rattle.mx_top.proofs.HeadLaws.{content_none}
use Rattle.mx_top.proofs.units.no_head.Goals as goal

pub returns-else-waiting-eq0-clause-told : goal.returns-else-waiting-eq0-clause-told
returns-else-waiting-eq0-clause-told c = λ bytes more same short none.
    let whole : bytes ++ more ≡ bytes = ap (λ (l : List ℕ). bytes ++ l) none ∙ append-nil bytes in
    let long = ap length whole in
    let some : 0 < length (bytes ++ more) = omega arith in
    (refl, ap (content_at c.args.place) whole ∙ content_none c.args.place bytes short, some)
