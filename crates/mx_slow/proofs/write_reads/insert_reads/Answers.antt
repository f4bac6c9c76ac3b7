use Rattle.std.proofs.Common.{None, refl, sym, ap, ◌∙◌}
use Rattle.std.proofs.lemmas.Result.{err_from_is_err_and}
use Rattle.mx_base.specs.declared.ids.SpaceId.{SpaceId}
use Rattle.mx_write.specs.declared.writable.Writer.TheVariants.{Client}
use Rattle.mx_write.specs.Insert.{inserts, inserts_taken}
use Rattle.mx_write.specs.Lookup.{all_indexes}
use Rattle.mx_write.specs.Unique.{are_free}
use Rattle.mx_slow.proofs.SlowStageLaws.{added_all, added_none, by_refusal, insert_described_reads, insert_undescribed_reads}
use Rattle.mx_slow.proofs.write_reads.insert_reads.Goals as goal

pub returns-in_err-site : goal.returns-in_err-site
unfolding inserts
returns-in_err-site c = λ before keeps.
    let p = err_from_is_err_and c.from_residual.result c.from_residual.ensures.1 in
    rw (p.1, p.2) (c.in_err-site.ensures before (λ schema primary. inserts_taken before c.args.space.0 schema primary c.args.tuple.now) keeps)

pub returns-in_err-check_description : goal.returns-in_err-check_description
unfolding inserts
returns-in_err-check_description c = λ before keeps.
    let p = err_from_is_err_and c.from_residual-in_err-check_description.result c.from_residual-in_err-check_description.ensures.1 in
    let tuple = c.args.tuple.now in
    let space = c.args.space in
    let site = c.in_ok-site.site in
    let schema = site.schema.now in
    let primary = site.primary.now in
    let why = c.in_err-check_description.field-0.0 in
    let (same, is, has, upto) = c.in_ok-site.ensures before (λ schema primary. inserts_taken before space.0 schema primary tuple) keeps in
    let mid = c.read_site_of_tuple.new.reads in
    rw (p.1, p.2) (by_refusal why _ _
    (λ undescribed. added_none c.args.reads.now mid mid (inserts_taken before space.0 schema primary tuple).reads (inserts Client before space.0 tuple).reads upto refl
    (ap (λ (s : SpaceId). (inserts_taken before s.0 schema primary tuple).reads) (sym same) ∙ insert_undescribed_reads before site.space.0 schema primary tuple why undescribed))
    (c.in_err-check_description.ensures before keeps))

pub returns : goal.returns
unfolding inserts
returns c = λ before keeps.
    let tuple = c.args.tuple.now in
    let space = c.args.space in
    let site = c.in_ok-site.site in
    let schema = site.schema.now in
    let primary = site.primary.now in
    let (same, is, has, upto) = c.in_ok-site.ensures before (λ schema primary. inserts_taken before space.0 schema primary tuple) keeps in
    added_all c.args.reads.now c.read_site_of_tuple.new.reads c.read_duplicates.new.reads (inserts_taken before space.0 schema primary tuple).reads (inserts Client before space.0 tuple).reads upto
    (are_free before site.space.0 schema primary None tuple (all_indexes primary schema)).reads
    (ap (λ (s : SpaceId). (inserts_taken before s.0 schema primary tuple).reads) (sym same)
    ∙ insert_described_reads before site.space.0 schema primary tuple (c.in_ok-check_description.ensures before keeps))
    (c.in_ok-read_duplicates.ensures before is has)
