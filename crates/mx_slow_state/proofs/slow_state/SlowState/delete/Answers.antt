use Rattle.std.proofs.Common.{Some, Ok, Err, ap, ◌∙◌}
use Rattle.std.specs.Option.{option_copied}
use Rattle.std.proofs.lemmas.Result.{err_from_is_err_and}
use Rattle.mx_write.specs.declared.writable.Writer.TheVariants.{Client}
use Rattle.mx_write.specs.Delete.{delete_found, deletes}
use Rattle.mx_write.specs.Writes.{Delete}
use Rattle.mx_slow_state.proofs.SlowMakeLaws.{entry_missing, entry_there, judged_at}
use Rattle.mx_slow_state.proofs.slow_state.SlowState.delete.Goals as goal

pub returns-in_err-site : goal.returns-in_err-site
unfolding deletes
returns-in_err-site c = λ before keeps.
    let p = err_from_is_err_and c.from_residual.result c.from_residual.ensures.1 in
    rw (p.1, p.2) (c.in_err-site.ensures before (λ schema primary. delete_found Client before c.args.space.0 c.args.index.0 c.args.key.now) keeps)

pub returns-in_err-remove-in-Some : goal.returns-in_err-remove-in-Some
unfolding deletes
returns-in_err-remove-in-Some c = λ before keeps.
    let p = err_from_is_err_and c.from_residual-in_err-remove-in-Some.result c.from_residual-in_err-remove-in-Some.ensures.1 in
    let space = c.args.space in
    let index = c.args.index.0 in
    let key = c.args.key.now in
    let site = c.in_ok-site.site in
    let (same, is, entry, stands, reaches) = c.in_ok-site.ensures before (λ schema primary. delete_found Client before space.0 index key) keeps in
    let (own, there, fit, bytes, has) = entry_there site.primary.now (option_copied c.in_ok-site.found) c.in-Some.one.now entry (ap option_copied c.in-Some.is) stands in
    rw (p.1, p.2) (judged_at before site.space space same (Delete index key) (deletes Client before space.0 index key) (λ s. delete_found Client before s index key (Some (own, c.in-Some.one.now.tuple)))
    (Err c.in_err-remove-in-Some.field-0.0) (reaches ∙ ap (λ e. (delete_found Client before space.0 index key e).outcome) there) (c.in_err-remove-in-Some.ensures before own keeps is fit bytes has))

pub returns-in_ok-remove-in-Some : goal.returns-in_ok-remove-in-Some
unfolding deletes
returns-in_ok-remove-in-Some c = λ before keeps.
    let space = c.args.space in
    let index = c.args.index.0 in
    let key = c.args.key.now in
    let site = c.in_ok-site.site in
    let (same, is, entry, stands, reaches) = c.in_ok-site.ensures before (λ schema primary. delete_found Client before space.0 index key) keeps in
    let (own, there, fit, bytes, has) = entry_there site.primary.now (option_copied c.in_ok-site.found) c.in-Some.one.now entry (ap option_copied c.in-Some.is) stands in
    judged_at before site.space space same (Delete index key) (deletes Client before space.0 index key) (λ s. delete_found Client before s index key (Some (own, c.in-Some.one.now.tuple)))
    (Ok c.in_ok-remove-in-Some.field-0) (reaches ∙ ap (λ e. (delete_found Client before space.0 index key e).outcome) there) (c.in_ok-remove-in-Some.ensures before own keeps is fit bytes has)

pub returns-in-None : goal.returns-in-None
unfolding deletes
returns-in-None c = λ before keeps.
    let space = c.args.space.0 in
    let index = c.args.index.0 in
    let key = c.args.key.now in
    let site = c.in_ok-site.site in
    let (same, is, entry, stands, reaches) = c.in_ok-site.ensures before (λ schema primary. delete_found Client before space index key) keeps in
    reaches ∙ ap (λ e. (delete_found Client before space index key e).outcome) (entry_missing site.primary.now (option_copied c.in_ok-site.found) entry (ap option_copied c.in-None.is) stands)
