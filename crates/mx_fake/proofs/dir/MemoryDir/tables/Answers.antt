use Rattle.std.proofs.Common.{ap, sym, ◌∙◌, subst, arith, length}
use Rattle.std.proofs.lemmas.List.{take_all}
use Rattle.mx_fake.specs.Changes.{replay, no_files}
use Rattle.mx_fake.specs.Tables.{IsTablesOf}
use Rattle.mx_fake.proofs.DirLaws.{newest_after, step_taken}
use Rattle.mx_fake.proofs.dir.MemoryDir.tables.Goals as goal

pub loop-change-preserved : goal.loop-change-preserved
loop-change-preserved c =
    let all = c.args.self.now.changes.items in
    let before = c.loop-change.change-index in
    subst (λ disk. IsTablesOf disk c.apply.new.self) (sym (step_taken all before c.change-item.result (omega (arith, c.loop-change-test.true, ap length c.deref-change-items.ensures.value)) (rw c.deref-change-items.ensures.value at c.change-item.is))) (c.in_ok-apply.ensures _ c.loop-change.invariant)

pub returns : goal.returns
returns c disk past told =
    let all = c.args.self.now.changes.items in
    let ends = c.loop-change-test.false in
    let whole = take_all c.loop-change.change-index all (omega (arith, c.loop-change-test.false, ap length c.deref-change-items.ensures.value)) in
    subst (λ disk. IsTablesOf disk c.loop-change.tables) (ap (replay no_files) whole ∙ newest_after all disk past told) c.loop-change.invariant
