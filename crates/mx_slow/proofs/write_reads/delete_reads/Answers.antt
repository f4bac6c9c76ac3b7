use Rattle.std.proofs.Common.{refl}
use Rattle.std.proofs.lemmas.Result.{err_from_is_err_and}
use Rattle.mx_write.specs.declared.writable.Writer.TheVariants.{Client}
use Rattle.mx_write.specs.Delete.{delete_found, deletes}
use Rattle.mx_slow.proofs.SlowStageLaws.{added_none, delete_reads_no_more}
use Rattle.mx_slow.proofs.write_reads.delete_reads.Goals as goal

pub returns-in_err-read_site_of_key : goal.returns-in_err-read_site_of_key
unfolding deletes
returns-in_err-read_site_of_key c = λ before keeps.
    let p = err_from_is_err_and c.from_residual.result c.from_residual.ensures.1 in
    rw (p.1, p.2) (c.in_err-read_site_of_key.ensures before (λ schema primary. delete_found Client before c.args.space.0 c.args.index.0 c.args.key.now) keeps)

pub returns : goal.returns
unfolding deletes
returns c = λ before keeps.
    let space = c.args.space.0 in
    let index = c.args.index.0 in
    let key = c.args.key.now in
    let (same, is, entry, stands, upto) = c.in_ok-read_site_of_key.ensures before (λ schema primary. delete_found Client before space index key) keeps in
    added_none c.args.reads.now c.read_site_of_key.new.reads c.read_site_of_key.new.reads (delete_found Client before space index key entry).reads (deletes Client before space index key).reads upto
    refl (delete_reads_no_more before space index key entry)
