use Rattle.std.proofs.Common.{Some, refl, sym, ap, ◌∙◌, subst}
use Rattle.std.specs.Option.{option_copied}
use Rattle.std.proofs.lemmas.Result.{err_from_is_err_and}
use Rattle.mx_base.specs.declared.ids.SpaceId.{SpaceId}
use Rattle.mx_write.specs.declared.writable.Writer.TheVariants.{Client}
use Rattle.mx_write.specs.Update.{update_found, updates}
use Rattle.mx_slow_state.proofs.SlowMakeLaws.{entry_missing, entry_there}
use Rattle.mx_slow.proofs.SlowStageLaws.{Told, added_none, told_all}
use Rattle.mx_slow.proofs.write_reads.update_reads.Goals as goal

pub returns-in_err-site : goal.returns-in_err-site
unfolding updates
returns-in_err-site c = λ before keeps.
    let p = err_from_is_err_and c.from_residual.result c.from_residual.ensures.1 in
    rw (p.1, p.2) (c.in_err-site.ensures before (update_found Client before c.args.space.0 c.args.index.0 c.args.base c.args.key.now c.args.operations.now) keeps)

pub returns-in-Some : goal.returns-in-Some
unfolding updates
returns-in-Some c = λ before keeps.
    let space = c.args.space in
    let index = c.args.index.0 in
    let base = c.args.base in
    let key = c.args.key.now in
    let operations = c.args.operations.now in
    let site = c.in_ok-site.site in
    let mid = c.read_site_of_key.new.reads in
    let (same, is, entry, stands, upto) = c.in_ok-site.ensures before (update_found Client before space.0 index base key operations) keeps in
    let (own, there, fit, bytes, has) = entry_there site.primary.now (option_copied c.in_ok-site.found) c.in-Some.one.now entry (ap option_copied c.in-Some.is) stands in
    told_all c.read_update.result c.args.reads.now mid c.read_update.new.reads (update_found Client before space.0 index base key operations site.schema.now site.primary.now entry).reads
    (updates Client before space.0 index base key operations).reads upto
    (subst (Told c.read_update.result mid c.read_update.new.reads)
    (ap (λ (s : SpaceId). (update_found Client before s.0 index base key operations site.schema.now site.primary.now (Some (own, c.in-Some.one.now.tuple))).reads) same
    ∙ ap (λ e. (update_found Client before space.0 index base key operations site.schema.now site.primary.now e).reads) (sym there))
    (c.read_update.ensures before own index key is fit bytes))

pub returns-in-None : goal.returns-in-None
unfolding updates
returns-in-None c = λ before keeps.
    let space = c.args.space.0 in
    let index = c.args.index.0 in
    let base = c.args.base in
    let key = c.args.key.now in
    let operations = c.args.operations.now in
    let site = c.in_ok-site.site in
    let mid = c.read_site_of_key.new.reads in
    let (same, is, entry, stands, upto) = c.in_ok-site.ensures before (update_found Client before space index base key operations) keeps in
    added_none c.args.reads.now mid mid (update_found Client before space index base key operations site.schema.now site.primary.now entry).reads
    (updates Client before space index base key operations).reads upto refl
    (ap (λ e. (update_found Client before space index base key operations site.schema.now site.primary.now e).reads)
    (entry_missing site.primary.now (option_copied c.in_ok-site.found) entry (ap option_copied c.in-None.is) stands))
