use Rattle.std.proofs.Common.{Some, Ok, Err, ap, ◌∙◌}
use Rattle.std.specs.Option.{option_copied}
use Rattle.std.proofs.lemmas.Result.{err_from_is_err_and}
use Rattle.mx_write.specs.declared.writable.Writer.TheVariants.{Client}
use Rattle.mx_write.specs.Update.{update_found, updates}
use Rattle.mx_write.specs.Writes.{Update}
use Rattle.mx_slow_state.proofs.SlowMakeLaws.{entry_missing, entry_there, judged_at}
use Rattle.mx_slow_state.proofs.slow_state.SlowState.update.Goals as goal

pub returns-in_err-site : goal.returns-in_err-site
unfolding updates
returns-in_err-site c = λ before keeps.
    let p = err_from_is_err_and c.from_residual.result c.from_residual.ensures.1 in
    rw (p.1, p.2) (c.in_err-site.ensures before (update_found Client before c.args.space.0 c.args.index.0 c.args.base c.args.key.now c.args.operations.now) keeps)

pub returns-in_err-update_found-in-Some : goal.returns-in_err-update_found-in-Some
unfolding updates
returns-in_err-update_found-in-Some c = λ before keeps.
    let p = err_from_is_err_and c.from_residual-in_err-update_found-in-Some.result c.from_residual-in_err-update_found-in-Some.ensures.1 in
    let space = c.args.space in
    let index = c.args.index.0 in
    let base = c.args.base in
    let key = c.args.key.now in
    let operations = c.args.operations.now in
    let site = c.in_ok-site.site in
    let (same, is, entry, stands, reaches) = c.in_ok-site.ensures before (update_found Client before space.0 index base key operations) keeps in
    let (own, there, fit, bytes, has) = entry_there site.primary.now (option_copied c.in_ok-site.found) c.in-Some.one.now entry (ap option_copied c.in-Some.is) stands in
    rw (p.1, p.2) (judged_at before site.space space same (Update index base key operations) (updates Client before space.0 index base key operations) (λ s. update_found Client before s index base key operations site.schema.now site.primary.now (Some (own, c.in-Some.one.now.tuple)))
    (Err c.in_err-update_found-in-Some.field-0.0) (reaches ∙ ap (λ e. (update_found Client before space.0 index base key operations site.schema.now site.primary.now e).outcome) there) (c.in_err-update_found-in-Some.ensures before own is fit bytes has))

pub returns-in_ok-update_found-in-Some : goal.returns-in_ok-update_found-in-Some
unfolding updates
returns-in_ok-update_found-in-Some c = λ before keeps.
    let space = c.args.space in
    let index = c.args.index.0 in
    let base = c.args.base in
    let key = c.args.key.now in
    let operations = c.args.operations.now in
    let site = c.in_ok-site.site in
    let (same, is, entry, stands, reaches) = c.in_ok-site.ensures before (update_found Client before space.0 index base key operations) keeps in
    let (own, there, fit, bytes, has) = entry_there site.primary.now (option_copied c.in_ok-site.found) c.in-Some.one.now entry (ap option_copied c.in-Some.is) stands in
    judged_at before site.space space same (Update index base key operations) (updates Client before space.0 index base key operations) (λ s. update_found Client before s index base key operations site.schema.now site.primary.now (Some (own, c.in-Some.one.now.tuple)))
    (Ok c.in_ok-update_found-in-Some.field-0) (reaches ∙ ap (λ e. (update_found Client before space.0 index base key operations site.schema.now site.primary.now e).outcome) there) (c.in_ok-update_found-in-Some.ensures before own is fit bytes has)

pub returns-in-None : goal.returns-in-None
unfolding updates
returns-in-None c = λ before keeps.
    let space = c.args.space.0 in
    let index = c.args.index.0 in
    let base = c.args.base in
    let key = c.args.key.now in
    let operations = c.args.operations.now in
    let site = c.in_ok-site.site in
    let (same, is, entry, stands, reaches) = c.in_ok-site.ensures before (update_found Client before space index base key operations) keeps in
    reaches ∙ ap (λ e. (update_found Client before space index base key operations site.schema.now site.primary.now e).outcome) (entry_missing site.primary.now (option_copied c.in_ok-site.found) entry (ap option_copied c.in-None.is) stands)
