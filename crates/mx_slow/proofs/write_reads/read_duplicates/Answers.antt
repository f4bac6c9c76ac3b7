use Rattle.std.proofs.Common.{◌++◌, None, sym, ap, ◌∙◌, subst}
use Rattle.std.specs.Option.{option_copied, option_map}
use Rattle.mx_schema.specs.declared.keyed.Keyed.{Keyed}
use Rattle.mx_write.specs.Lookup.{other_indexes, own_key}
use Rattle.mx_judge.proofs.TargetLaws.{own_bytes, own_fits}
use Rattle.mx_slow.specs.SlowReads.{reads_view}
use Rattle.mx_slow.specs.SlowTouches.{AreFitReads}
use Rattle.mx_slow_state.proofs.SlowSiteLaws.{found_under}
use Rattle.mx_slow.proofs.SlowStageLaws.{primary_adds, primary_held}
use Rattle.mx_slow.proofs.write_reads.read_duplicates.Goals as goal

pub returns-in-Some : goal.returns-in-Some
returns-in-Some c = λ before is has.
    let site = c.args.site.now in
    let primary = site.primary.now in
    let tuple = c.args.tuple.now in
    let key = own_key primary tuple in
    let held =
    sym (found_under before site is c.args.key key (own_fits primary tuple _ has) (own_bytes primary tuple _ has) (option_copied c.find-found.result) c.find-found.ensures.tuple)
    ∙ ap (λ o. option_map (λ (one : Keyed). one.tuple) (option_copied o)) c.in-Some.is in
    let same = sym (primary_held before site.space.0 site.schema.now primary tuple is.primary (other_indexes site.schema.now.indexes) _ held) in
    let (adds, fit) = c.in_ok-push_key.ensures key (own_fits primary tuple _ has) (own_bytes primary tuple _ has) in
    (adds ∙ ap (λ r. c.args.reads.now ++ reads_view r) same, subst AreFitReads same fit)

pub returns-in-None : goal.returns-in-None
returns-in-None c = λ before is has.
    let site = c.args.site.now in
    let primary = site.primary.now in
    let tuple = c.args.tuple.now in
    let key = own_key primary tuple in
    let free =
    sym (found_under before site is c.args.key key (own_fits primary tuple _ has) (own_bytes primary tuple _ has) (option_copied c.find-found.result) c.find-found.ensures.tuple)
    ∙ ap (λ o. option_map (λ (one : Keyed). one.tuple) (option_copied o)) c.in-None.is in
    primary_adds before site.space.0 site.schema.now primary tuple is.primary (other_indexes site.schema.now.indexes) c.read_duplicates_in_others.result c.args.reads.now c.push_key.new.self
    c.read_duplicates_in_others.new.reads free (c.in_ok-push_key.ensures key (own_fits primary tuple _ has) (own_bytes primary tuple _ has)) (c.read_duplicates_in_others.ensures before None is tt)
