use Rattle.std.proofs.Common.{rules, ◌≡◌, ◌+◌, ◌∙◌, refl, ap}
use Rattle.mx_row.specs.Limits.{saturated}
use Rattle.mx_transactions.specs.declared.work.ChangedKey.{ChangedKey}
use Rattle.mx_transactions.specs.declared.work.Work.{Work}
use Rattle.mx_transactions.proofs.WorkLaws.{none_written, one_written, spelled_key}
use Rattle.mx_transactions.proofs.work.Work.add.Goals as goal

pub returns-in-Ok : goal.returns-in-Ok
returns-in-Ok c = λ before run answer write to holds stands written elsewhere outcome makes row size answer_row changes.
    let (change, is, overlay, adds) = c.in-Ok.ensures.change before run write to holds stands written.overlay elsewhere outcome makes in
    let coded : ChangedKey = record { space = c.args.space; key = c.args.made.key } in
    let new : Work = record { overlay = c.write.new.self.overlay; rows = c.write.new.self.rows; size = c.saturating_add-self.result; puts = c.write.new.self.puts; changed = c.write.new.self.changed } in
    let added : c.saturating_add-self.result ≡ saturated (c.write.new.self.size + c.args.size) = search rules in
    let begins = c.write.ensures.begins before run write to holds stands written.overlay makes in
    one_written before run answer change c.args.row c.args.size coded c.args.self.now new stands written (changes ∙ is) (answer_row ∙ row) size (record {
      overlay = overlay;
      puts = adds;
      key = spelled_key run.state c.args.space write c.args.made to change makes is;
      changed = c.in-Ok.ensures.key;
      rows = c.in-Ok.ensures.row;
      size = added ∙ ap (λ n. saturated (n + c.args.size)) begins.size;
    })

pub returns-in-Err : goal.returns-in-Err
returns-in-Err c = λ before run answer write to holds stands written elsewhere outcome makes row size answer_row changes.
    let overlay = c.in-Err.ensures.change before run write to holds stands written.overlay elsewhere outcome makes in
    let begins = c.write.ensures.begins before run write to holds stands written.overlay makes in
    let new : Work = record { overlay = c.write.new.self.overlay; rows = c.truncate.new.self; size = c.write.new.self.size; puts = c.truncate-in-Err.new.self; changed = c.truncate-in-Err-2.new.self } in
    none_written before run c.args.self.now c.write.new.self new written begins overlay refl (search rules) refl (search rules) (search rules)
