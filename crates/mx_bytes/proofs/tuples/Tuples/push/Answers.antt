use Rattle.std.proofs.Common.{◌++◌, ◌∷◌, [], length, ap, ◌∙◌}
use Rattle.mx_bytes.specs.Pieces.{pieces}
use Rattle.mx_bytes.proofs.CutLaws.{pieces-more}
use Rattle.mx_bytes.proofs.tuples.Tuples.push.Goals as goal

pub returns : goal.returns
returns c =
    let parts = c.self.inside in
    let more = c.args.tuple.now in
    let sizes = c.push_reserved.ensures.items ∙ ap (λ l. l ++ length more ∷ []) c.reserve.ensures.items in
    let bytes = c.in_ok-extend_from_slice.ensures.items in
    (λ i. pieces (sizes i) (bytes i)) ∙ pieces-more parts.sizes.items parts.bytes.items more c.self.invariant
    ∙ ap (λ l. l ++ more ∷ []) c.self.view_is
