use Rattle.std.proofs.Common.{Some, is_some, refl, sym, ap, ◌∙◌, subst}
use mathlib.Core.Bool.{true≢false}
use Rattle.std.specs.BTreeMap as tree
use Rattle.std.specs.String.{string_cmp}
use Rattle.std.proofs.lemmas.Map.Text.{text_cmp}
use Rattle.mx_fake.proofs.FileLaws.{found}
use Rattle.mx_fake.proofs.TableLaws.{nothing_there, saved_first, saved_already}
use Rattle.mx_fake.proofs.tables.Tables.save.Goals as goal

pub returns-then-contains_key : goal.returns-then-contains_key
returns-then-contains_key c disk is =
    let before = c.args.self.now.before in
    let name = c.args.name.now in
    saved_already disk c.args.self.now name is (λ none.
    true≢false (sym c.if-contains_key.true ∙ c.contains_key.ensures ∙ ap is_some (sym (found before name) ∙ none)))

pub returns : goal.returns
returns c disk is =
    let before = c.args.self.now.before in
    let after = c.insert.new.self in
    let name = c.args.name.now in
    let file = c.in_ok-file.file in
    saved_first disk c.args.self.now (record { files = c.args.self.now.files; before = after }) name file is refl
    (found before name ∙ nothing_there _ (sym c.contains_key.ensures ∙ c.if-contains_key.false)) c.in_ok-file.ensures
    (subst (λ bytes. tree.UpdatesBy string_cmp (text_cmp bytes) before after (Some file)) c.in_ok-from_str.ensures.ok c.in_ok-insert.ensures.updates)
    c.in_ok-insert.ensures.ordered
