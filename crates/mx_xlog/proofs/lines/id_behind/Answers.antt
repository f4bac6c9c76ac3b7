use Rattle.std.proofs.Common.{◌++◌, sym, ◌∙◌, ◌≡◌, ap, true≢false}
use Rattle.std.proofs.lemmas.List.{append_cancel_left}
use Rattle.uuid.specs.Text.{hyphenated_text, lower}
use Rattle.mx_xlog.proofs.BlockLaws.{same_bytes}
use Rattle.mx_xlog.proofs.ValueLaws.{id_text_parses, id_text_again, told_apart}
use Rattle.mx_xlog.proofs.lines.id_behind.Goals as goal

pub returns-in_default : goal.returns-in_default
returns-in_default c = λ id told.
    let text : c.in_ok-text.text.now ≡ hyphenated_text lower id = append_cancel_left c.args.prefix.now _ _ (sym c.in_ok-text.ensures ∙ told) in
    true≢false (sym (c.in_default.ensures.ok.1 (id_text_parses id c.in_ok-text.text.now text)))

pub returns-then-ne : goal.returns-then-ne
returns-then-ne c = λ id told.
    let text : c.in_ok-text.text.now ≡ hyphenated_text lower id = append_cancel_left c.args.prefix.now _ _ (sym c.in_ok-text.ensures ∙ told) in
    told_apart c.as_bytes.result.now c.in_ok-text.text.now c.if-ne.ensures
    (c.as_bytes.ensures.value ∙ c.encode_lower.ensures.text ∙ ap (hyphenated_text lower) c.hyphenated.ensures ∙ id_text_again id c.in-Ok.id c.in_ok-text.text.now text c.in-Ok.ensures.bytes)

pub returns : goal.returns
returns c =
    let text : c.in_ok-text.text.now ≡ hyphenated_text lower c.in-Ok.id =
    sym (same_bytes c.as_bytes.result.now c.in_ok-text.text.now c.if-ne.ensures) ∙ c.as_bytes.ensures.value ∙ c.encode_lower.ensures.text ∙ ap (hyphenated_text lower) c.hyphenated.ensures in
    c.in_ok-text.ensures ∙ ap (λ text. c.args.prefix.now ++ text) text
