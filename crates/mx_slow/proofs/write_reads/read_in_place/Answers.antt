use Rattle.std.proofs.Common.{◌++◌, Some, sym, ap, ◌∙◌, subst}
use Rattle.mx_base.specs.declared.refusal.Refusal.TheVariants.{PrimaryKeyChanged}
use Rattle.mx_judge.proofs.PlaceLaws.{key_changes, key_stays}
use Rattle.mx_slow.specs.SlowReads.{reads_view}
use Rattle.mx_slow.specs.SlowTouches.{AreFitReads}
use Rattle.mx_slow.proofs.SlowStageLaws.{in_place, key_changed_reads, key_kept_reads, none_added}
use Rattle.mx_slow.proofs.write_reads.read_in_place.Goals as goal

pub returns-then-ne : goal.returns-then-ne
returns-then-ne c = λ before own write shown is fit bytes.
    let site = c.args.site.now in
    let schema = site.schema.now in
    let primary = site.primary.now in
    let tuple = c.args.tuple.now in
    let checked = c.in_ok-new_key.ensures in
    none_added c.args.reads.now (in_place before site.space.0 schema primary write own tuple shown).reads
    (key_changed_reads before site.space.0 schema primary write own tuple shown checked.0 (PrimaryKeyChanged schema.def.name)
    (key_changes schema primary tuple c.in_ok-new_key.new_key c.args.key.now own checked.1 fit bytes (sym c.ne.ensures ∙ c.if-ne.true)))

pub returns : goal.returns
returns c = λ before own write shown is fit bytes.
    let site = c.args.site.now in
    let schema = site.schema.now in
    let primary = site.primary.now in
    let tuple = c.args.tuple.now in
    let checked = c.in_ok-new_key.ensures in
    let same = sym (key_kept_reads before site.space.0 schema primary write own tuple shown checked.0
    (key_stays schema primary tuple c.in_ok-new_key.new_key c.args.key.now own checked.1 fit bytes (sym c.ne.ensures ∙ c.if-ne.false))) in
    let (adds, fits) = c.in_ok-read_duplicates_in_others.ensures before (Some own) is (fit, bytes) in
    (adds ∙ ap (λ r. c.args.reads.now ++ reads_view r) same, subst AreFitReads same fits)
