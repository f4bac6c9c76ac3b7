use Rattle.std.proofs.Common.{[], ◌∷◌, ℕ, List, Some, refl, sym, ◌∙◌}
use Rattle.std.proofs.lemmas.Result.{err_from_is_err_and}
use Rattle.mx_schema.specs.declared.index_def.IndexDef.{IndexDef}
use Rattle.mx_schema.specs.declared.schema.Schema.{Schema}
use Rattle.mx_schema.specs.State.{State}
use Rattle.mx_write.specs.declared.writable.Writer.TheVariants.{Client}
use Rattle.mx_write.specs.Replace.{replaces}
use Rattle.mx_write.specs.Judged.{Judged, ◌>>=◌}
use Rattle.mx_write.specs.Lookup.{other_indexes, own_key}
use Rattle.mx_write.specs.Made.{Made, made}
use Rattle.mx_write.specs.Unique.{are_free}
use Rattle.mx_write.specs.Writes.{Replace}
use Rattle.mx_judge.proofs.TargetLaws.{own_bytes, own_fits}
use Rattle.mx_slow_state.proofs.SlowMakeLaws.{judged_free, refused_duplicate}
use Rattle.mx_slow_state.proofs.slow_state.SlowState.replace.Goals as goal

abbrev free : State → Schema → IndexDef → (tuple : List ℕ) → (space : ℕ) → Judged (Unit {0})
free before schema primary tuple space = are_free before space schema primary (Some (own_key primary tuple)) tuple (other_indexes schema.indexes)

abbrev last : IndexDef → (tuple : List ℕ) → (space : ℕ) → Judged Made
last primary tuple space = made space (Replace tuple) (own_key primary tuple) (Some tuple) (tuple ∷ [])

pub returns-in_err-site : goal.returns-in_err-site
unfolding replaces
returns-in_err-site c = λ before keeps.
    let p = err_from_is_err_and c.from_residual.result c.from_residual.ensures.1 in
    let tuple = c.args.tuple.now in
    let space = c.args.space.0 in
    rw (p.1, p.2) (c.in_err-site.ensures before (λ schema primary. free before schema primary tuple space >>= λ _. last primary tuple space) keeps)

pub returns-in-Some : goal.returns-in-Some
unfolding replaces
returns-in-Some c = λ before keeps.
    let tuple = c.args.tuple.now in
    let space = c.args.space in
    let site = c.in_ok-site.site in
    let (same, is, has, reaches) = c.in_ok-site.ensures before (λ schema primary. free before schema primary tuple space.0 >>= λ _. last primary tuple space.0) keeps in
    refused_duplicate before site.space space same (Replace tuple) (replaces Client before space.0 tuple) (free before site.schema.now site.primary.now tuple)
    (last site.primary.now tuple) reaches c.in-Some.refusal (sym c.in-Some.is ∙ c.in_ok-refusal.ensures before (Some (own_key site.primary.now tuple)) is (own_fits site.primary.now tuple _ has, own_bytes site.primary.now tuple _ has))

pub returns : goal.returns
unfolding replaces
returns c = λ before keeps.
    let tuple = c.args.tuple.now in
    let space = c.args.space in
    let site = c.in_ok-site.site in
    let (same, is, has, reaches) = c.in_ok-site.ensures before (λ schema primary. free before schema primary tuple space.0 >>= λ _. last primary tuple space.0) keeps in
    judged_free before site.space space same (Replace tuple) (replaces Client before space.0 tuple) (free before site.schema.now site.primary.now tuple)
    (last site.primary.now tuple) reaches c.put_copy.result (sym c.in_default.is ∙ c.in_ok-refusal.ensures before (Some (own_key site.primary.now tuple)) is (own_fits site.primary.now tuple _ has, own_bytes site.primary.now tuple _ has))
    (c.put_copy.ensures before is has refl)
