use Rattle.std.proofs.Common.{[], ◌∷◌, ◌++◌, refl, sym, ap, ◌∙◌, subst}
use Rattle.mx_schema.specs.Catalogues.{schema_of}
use Rattle.mx_space.specs.OwnChanges.{HoldsOwn}
use Rattle.mx_model.specs.Bases.{writable_node}
use Rattle.mx_model.specs.Overlaps.{statements_in}
use Rattle.mx_model.specs.RunTouches.{changes_of}
use Rattle.mx_model.proofs.RunTouchLaws.{run_is_own}
use Rattle.mx_transactions.specs.declared.work.Work.{Work}
use Rattle.mx_transactions.specs.Open.{newest_state}
use Rattle.mx_engine.specs.Steps.{newest_run}
use Rattle.mx_engine.proofs.OutcomeLaws.{same_work}
use Rattle.mx_engine.proofs.engine.Engine.reserve.Goals as goal

pub returns-in-Ok-clause-reserves : goal.returns-in-Ok-clause-reserves
returns-in-Ok-clause-reserves c = λ streams name one stand is.
    let before = newest_state streams in
    let own = changes_of (newest_run streams one).answers in
    let old = c.args.self.now in
    let same = same_work old.open.works c.args.slot is.is_open.kept.work c.work.result.now is.is_open.is.work c.work.ensures in
    let (all, spells, may, apart, makes) = c.in_ok-changes.ensures (schema_of before) own (subst (λ (w : Work). HoldsOwn (schema_of before) w.overlay own) same is.run.written.overlay) in
    record {
      all = all;
      reserved = c.in-Ok.ensures.ok (schema_of before) before all is.is_open.has.holds.spaces spells may apart;
      makes = makes before ∙ sym (run_is_own streams.base.ids before (statements_in one.steps) is.is_open.alone.plain).0;
      pending = c.in_ok-push.ensures.ok
          ∙ ap (λ rows. old.pending ++ record { replica = record { 0 = writable_node }; first = record { 0 = c.args.first }; rows = rows } ∷ []) c.new.ensures;
      clock = refl;
      ids = refl;
      commits = refl;
      schema = refl;
      same_open = refl;
    }
