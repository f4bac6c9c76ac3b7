use Rattle.std.proofs.lemmas.Result.{err_from_is_err_and}
use Rattle.mx_write.specs.declared.writable.Writer.TheVariants.{Client}
use Rattle.mx_write.specs.Insert.{inserts, inserts_taken}
use Rattle.mx_write.specs.Writes.{Insert}
use Rattle.mx_slow_state.proofs.SlowMakeLaws.{judged_at}
use Rattle.mx_slow_state.proofs.slow_state.SlowState.insert.Goals as goal

pub returns-in_err-site : goal.returns-in_err-site
unfolding inserts
returns-in_err-site c = λ before keeps sound.
    let p = err_from_is_err_and c.from_residual.result c.from_residual.ensures.1 in
    rw (p.1, p.2) (c.in_err-site.ensures before (λ schema primary. inserts_taken before c.args.space.0 schema primary c.args.tuple.now) keeps)

pub returns : goal.returns
unfolding inserts
returns c = λ before keeps sound.
    let tuple = c.args.tuple.now in
    let space = c.args.space in
    let site = c.in_ok-site.site in
    let (same, is, has, reaches) = c.in_ok-site.ensures before (λ schema primary. inserts_taken before space.0 schema primary tuple) keeps in
    judged_at before site.space space same (Insert tuple) (inserts Client before space.0 tuple) (λ s. inserts_taken before s site.schema.now site.primary.now tuple) c.add.result reaches
    (c.add.ensures before keeps sound is has)
