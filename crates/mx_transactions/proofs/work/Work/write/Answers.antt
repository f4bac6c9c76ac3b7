use Rattle.std.proofs.Common.{take, length, refl, ap, ◌∙◌}
use Rattle.std.proofs.Math.Seq.{take-append_seam, take-length}
use Rattle.mx_space.specs.OwnChanges.{HoldsOwn}
use Rattle.mx_schema.specs.Catalogues.{schema_of}
use Rattle.mx_model.specs.RunTouches.{changes_of}
use Rattle.mx_transactions.proofs.WorkLaws.{puts_begin, staged_touched, view_holds}
use Rattle.mx_transactions.proofs.work.Work.write.Goals as goal

pub returns-in_err-touch_put-clause-begins : goal.returns-in_err-touch_put-clause-begins
returns-in_err-touch_put-clause-begins c = λ before run write to holds stands over makes.
    let shows = view_holds c.view_over-view.result before run stands (c.view_over-view.ensures before (changes_of run.answers) holds over) in
    record {
      rows = take-length c.args.self.now.rows;
      puts = puts_begin c.touch_put.result to.change run.state c.args.self.now.puts c.touch_put.new.keys (c.touch_put.ensures run.state write to shows makes);
      changed = take-length c.args.self.now.changed.items;
      size = refl;
    }

pub returns-in_err-key-clause-begins : goal.returns-in_err-key-clause-begins
returns-in_err-key-clause-begins c = λ before run write to holds stands over makes.
    let shows = view_holds c.view_over-view.result before run stands (c.view_over-view.ensures before (changes_of run.answers) holds over) in
    record {
      rows = take-length c.args.self.now.rows;
      puts = puts_begin c.touch_put.result to.change run.state c.args.self.now.puts c.touch_put.new.keys (c.touch_put.ensures run.state write to shows makes);
      changed = take-length c.args.self.now.changed.items;
      size = refl;
    }

pub returns-in_err-push-clause-begins : goal.returns-in_err-push-clause-begins
returns-in_err-push-clause-begins c = λ before run write to holds stands over makes.
    let shows = view_holds c.view_over-view.result before run stands (c.view_over-view.ensures before (changes_of run.answers) holds over) in
    record {
      rows = take-length c.args.self.now.rows;
      puts = puts_begin c.touch_put.result to.change run.state c.args.self.now.puts c.touch_put.new.keys (c.touch_put.ensures run.state write to shows makes);
      changed = ap (take (length c.args.self.now.changed.items)) c.in_err-push.ensures.items ∙ take-length c.args.self.now.changed.items;
      size = refl;
    }

pub returns-in_err-push-2-clause-begins : goal.returns-in_err-push-2-clause-begins
returns-in_err-push-2-clause-begins c = λ before run write to holds stands over makes.
    let shows = view_holds c.view_over-view.result before run stands (c.view_over-view.ensures before (changes_of run.answers) holds over) in
    record {
      rows = ap (take (length c.args.self.now.rows)) c.in_err-push-2.ensures.err ∙ take-length c.args.self.now.rows;
      puts = puts_begin c.touch_put.result to.change run.state c.args.self.now.puts c.touch_put.new.keys (c.touch_put.ensures run.state write to shows makes);
      changed = ap (take (length c.args.self.now.changed.items)) c.in_ok-push.ensures.items ∙ take-append_seam c.args.self.now.changed.items _;
      size = refl;
    }

pub returns-clause-change : goal.returns-clause-change
returns-clause-change c = λ before run write to holds stands over elsewhere outcome makes.
    let own = changes_of run.answers in
    let shows = view_holds c.view_over-view.result before run stands (c.view_over-view.ensures before own holds over) in
    staged_touched c.stage.result (HoldsOwn (schema_of before) c.stage.new.overlay) to.change own run.state c.args.self.now.puts c.touch_put.new.keys
    (c.stage.ensures before run.state own write to holds stands.own stands.plain over elsewhere outcome makes)
    (c.in_ok-touch_put.ensures run.state write to shows makes)

pub returns-clause-begins : goal.returns-clause-begins
returns-clause-begins c = λ before run write to holds stands over makes.
    let shows = view_holds c.view_over-view.result before run stands (c.view_over-view.ensures before (changes_of run.answers) holds over) in
    record {
      rows = ap (take (length c.args.self.now.rows)) c.in_ok-push-2.ensures.ok ∙ take-append_seam c.args.self.now.rows _;
      puts = puts_begin c.touch_put.result to.change run.state c.args.self.now.puts c.touch_put.new.keys (c.touch_put.ensures run.state write to shows makes);
      changed = ap (take (length c.args.self.now.changed.items)) c.in_ok-push.ensures.items ∙ take-append_seam c.args.self.now.changed.items _;
      size = refl;
    }
