use Rattle.std.proofs.Common.{ap, sym, ◌∙◌, ◌/◌, subst}
use Rattle.std.specs.BTreeMap as tree
use Rattle.std.specs.String.{string_cmp}
use Rattle.mx_fake.specs.FileMaps.{by_bytes}
use Rattle.mx_fake.specs.MemoryCrashes.{changed_names, crash_files, put_back}
use Rattle.mx_fake.proofs.TableLaws.{nothing_saved, saved_names}
use Rattle.mx_fake.proofs.tables.Tables.crash.Goals as goal

pub returns : goal.returns
returns c disk is =
    let choice = c.args.choice in
    let more = choice / 256 in
    let tables = c.args.self.now in
    nothing_saved (crash_files more (put_back choice 0 (changed_names disk) disk.now)) (record { files = c.in_ok-self.field-0; before = c.replace-before.new.dest })
    (c.in_ok-self.ensures ∙ ap (crash_files more) (c.replace-files.ensures.value ∙ c.in_ok-put_back.ensures
    ∙ ap (λ before. put_back choice 0 (by_bytes before.entries) tables.files) c.replace-before.ensures.value
    ∙ ap (λ names. put_back choice 0 names tables.files) (saved_names disk tables is) ∙ ap (put_back choice 0 (changed_names disk)) is.now))
    (ap (λ tree. tree.entries) c.replace-before.ensures.after ∙ c.new.ensures.empty)
    (subst (tree.IsOrdered string_cmp) (sym c.replace-before.ensures.after) c.new.ensures.ordered)
