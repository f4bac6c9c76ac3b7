use Rattle.std.proofs.Common.{inr, refl, subst}
use Rattle.std.proofs.lemmas.Result.{err_from_is_err_and}
use Rattle.mx_row.specs.Views.{row_value}
use Rattle.mx_space.specs.Stored.{Holds}
use Rattle.mx_write.specs.declared.writable.Writer.TheVariants.{Journal}
use Rattle.mx_write.specs.Made.{nothing}
use Rattle.mx_write.specs.Views.{write_view}
use Rattle.mx_write.proofs.KeyNameLaws.{row_arrays}
use Rattle.mx_recover.proofs.AppliedLaws.{row_applied}
use Rattle.mx_recover.proofs.apply.apply_row.Goals as goal

pub judge-requires : goal.judge-requires
judge-requires c = record { arrays = row_arrays (row_value c.args.row.now) c.write_of-write.result c.requires.row c.write_of-write.ensures }

pub returns-in_err-install-in-Some : goal.returns-in_err-install-in-Some
returns-in_err-install-in-Some c = λ before holds.
    let p = err_from_is_err_and c.from_residual-in_err-install-in-Some.result c.from_residual-in_err-install-in-Some.ensures.1 in
    let write = write_view c.write_of-write.result in
    let (made, outcome, makes) = rw c.in-Some.is at (c.in_ok-made.ensures.judges before (record { holds = c.of.ensures.shown before holds; alone = λ _. c.of.ensures.no_writes })) in
    rw (p.1, p.2) (inr refl, c.in_err-install-in-Some.ensures before Journal write made holds outcome makes)

pub returns-in_ok-install-in-Some : goal.returns-in_ok-install-in-Some
returns-in_ok-install-in-Some c = λ before holds.
    let row = row_value c.args.row.now in
    let write = write_view c.write_of-write.result in
    let (made, outcome, makes) = rw c.in-Some.is at (c.in_ok-made.ensures.judges before (record { holds = c.of.ensures.shown before holds; alone = λ _. c.of.ensures.no_writes })) in
    let (takes, after) = row_applied before row write c.write_of-write.ensures made outcome in
    (takes, subst (Holds c.install.new.state) after (c.in_ok-install-in-Some.ensures before Journal write made holds outcome makes))

pub returns-in-None : goal.returns-in-None
returns-in-None c = λ before holds.
    let row = row_value c.args.row.now in
    let write = write_view c.write_of-write.result in
    let (takes, after) = row_applied before row write c.write_of-write.ensures nothing (rw c.in-None.is at (c.in_ok-made.ensures.judges before (record { holds = c.of.ensures.shown before holds; alone = λ _. c.of.ensures.no_writes }))) in
    (takes, subst (Holds c.args.state.now) after holds)
