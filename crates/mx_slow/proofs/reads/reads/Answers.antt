use Rattle.std.proofs.Common.{rules, ◌≡◌, [], sym, ap, ◌∙◌, subst}
use Rattle.std.specs.Prelude.{IfOk}
use Rattle.mx_model.specs.Answers.{answer_to}
use Rattle.mx_slow.specs.SlowReads.{HasRead, reads_view}
use Rattle.mx_slow.specs.SlowTouches.{AreFitReads}
use Rattle.mx_slow.proofs.SlowReadLaws.{selected_reads}
use Rattle.mx_slow.proofs.reads.reads.Goals as goal

pub returns-in-Select : goal.returns-in-Select
returns-in-Select c = λ before keeps.
    let s = c.in-Select in
    subst (λ r. IfOk c.select_reads.result (λ reads. HasRead reads r))
    (sym (selected_reads before c.args.request.now s.space s.index s.limit s.offset s.iterator s.key c.as_slice.result.now c.iterator_of.result s.is c.as_slice.ensures c.iterator_of.ensures))
    (c.select_reads.ensures before keeps)

pub returns-in-Insert : goal.returns-in-Insert
returns-in-Insert c = λ before keeps. c.write_reads.ensures before c.args.request.now keeps (search rules)

pub returns-in-Replace : goal.returns-in-Replace
returns-in-Replace c = λ before keeps. c.write_reads-in-Replace.ensures before c.args.request.now keeps (search rules)

pub returns-in-Update : goal.returns-in-Update
returns-in-Update c = λ before keeps. c.write_reads-in-Update.ensures before c.args.request.now keeps (search rules)

pub returns-in-Delete : goal.returns-in-Delete
returns-in-Delete c = λ before keeps. c.write_reads-in-Delete.ensures before c.args.request.now keeps (search rules)

pub returns-in-Upsert : goal.returns-in-Upsert
returns-in-Upsert c = λ before keeps. c.write_reads-in-Upsert.ensures before c.args.request.now keeps (search rules)

pub returns-in-Nop : goal.returns-in-Nop
unfolding answer_to
returns-in-Nop c = λ before keeps.
    let none : (answer_to before c.args.request.now).reads ≡ [] = search rules in
    (c.new.ensures ∙ ap reads_view (sym none), subst AreFitReads (sym none) tt)
