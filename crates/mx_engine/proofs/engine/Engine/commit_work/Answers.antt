use Rattle.std.proofs.Common.{◌≡◌, suc, ◌+◌, ◌-◌, ◌<◌, ◌^◌, List, [], ◌∷◌, ◌++◌, sym, ap, ◌∙◌, arith}
use Rattle.std.specs.Option.{option_map}
use Rattle.std.specs.Prelude.{slice_get, slice_set}
use Rattle.std.proofs.lemmas.Result.{err_from_is_err_and}
use Rattle.mx_schema.specs.Catalogues.{schema_of}
use Rattle.mx_model.specs.Bases.{writable_node}
use Rattle.mx_transactions.specs.declared.work.Work.{Work}
use Rattle.mx_transactions.specs.Open.{Open, newest_state, slot_named}
use Rattle.mx_engine.proofs.CommitWorkLaws.{active_kept, commit_told, run_held}
use Rattle.mx_engine.proofs.ViewLaws.{others_moved}
use Rattle.mx_engine.proofs.OutcomeLaws.{has_beside, same_work}
use Rattle.mx_engine.proofs.engine.Engine.commit_work.Goals as goal

pub returns-in_err-marks-clause-answers : goal.returns-in_err-marks-clause-answers
returns-in_err-marks-clause-answers c = λ streams one row others stand is counts rows_are me count last_is.
    let p = err_from_is_err_and c.from_residual.result c.from_residual.ensures.1 in
    rw p.1 (c.in_err-marks.ensures.readies streams c.args.name one stand is)

pub returns-in_err-prepared-clause-answers : goal.returns-in_err-prepared-clause-answers
returns-in_err-prepared-clause-answers c = λ streams one row others stand is counts rows_are me count last_is.
    let old = c.args.self.now in
    let has = is.is_open.has in
    let p = err_from_is_err_and c.from_residual-in_err-prepared.result c.from_residual-in_err-prepared.ensures.1 in
    let ready = c.in_ok-marks.ensures in
    let between = c.ready_others.new.self in
    let found = ready.readies streams c.args.name one stand is in
    let has_again = has_beside old between streams streams.transactions has ready.keeps found.transactions in
    let keeps = c.in_err-prepared.ensures.reserves streams c.args.name one stand (active_kept old between streams c.args.name c.args.slot one has_again ready.more is) in
    rw p.1 (record { has = keeps.has; pending = keeps.pending ∙ ready.keeps.pending; schema = keeps.schema ∙ ready.keeps.schema })

pub remove-work-requires : goal.remove-work-requires
remove-work-requires c =
    ap (λ (o : Open). slot_named c.args.name o.names) c.in_ok-prepared.ensures.same
    ∙ ap (slot_named c.args.name) c.in_ok-marks.ensures.more.names ∙ c.requires.named

pub returns-clause-answers : goal.returns-clause-answers
returns-clause-answers c = λ streams one row others stand is counts rows_are me count last_is.
    let old = c.args.self.now in
    let name = c.args.name in
    let slot = c.args.slot in
    let before = newest_state streams in
    let has = is.is_open.has in
    let reserved = c.reserve.new.self in
    let ready = c.in_ok-marks.ensures in
    let removed = c.remove-work.ensures in
    let between = c.ready_others.new.self in
    let found = ready.readies streams name one stand is in
    let has_again = has_beside old between streams streams.transactions has ready.keeps found.transactions in
    let again = active_kept old between streams name slot one has_again ready.more is in
    let reserves = c.in_ok-prepared.ensures.reserves streams name one stand again in
    let few = counts.few in
    let bound = counts.bound in
    let commits = reserves.commits ∙ ready.keeps.commits in
    let low : reserved.commits < 2 ^ 63 = omega (arith, few, bound, commits) in
    let counted = c.saturating_add-self.ensures in
    let works = ap (λ (o : Open). o.works) c.in_ok-prepared.ensures.same ∙ ready.more.works in
    let work = same_work old.open.works slot c.remove-work.result is.is_open.kept.work (sym (ap (λ (all : List Work). slice_get all slot) works) ∙ removed.value) is.is_open.is.work in
    commit_told old _ streams name slot one row others c.args.rows c.args.last stand is counts.few rows_are me count last_is (record {
      holds = run_held streams one c.install.new.self reserves.all stand is.is_open.alone reserves.makes (c.install.ensures (schema_of before) before reserves.all reserves.reserved);
      clock = c.set.ensures ∙ ap (λ clock. slice_set clock writable_node c.args.last) (reserves.clock ∙ ready.keeps.clock);
      ids = reserves.ids ∙ ready.keeps.ids;
      commits = (let one_more : c.saturating_add-self.result ≡ suc reserved.commits = omega (arith, counted, low) in one_more) ∙ ap suc commits;
      count = c.in_ok-prepared.ensures.keeps.count ∙ ready.keeps.count;
      schema = reserves.schema ∙ ready.keeps.schema;
      written = c.remove-work.result.rows;
      pending = c.fill_last.ensures old.pending _ (reserves.pending ∙ ap (λ waiting. waiting ++ record { replica = record { 0 = writable_node }; first = record { 0 = c.args.last + 1 - c.args.rows }; rows = [] } ∷ []) ready.keeps.pending);
      wrote = ap (λ (w : Work). w.rows) work ∙ is.run.written.rows;
      transactions = others_moved streams name slot one old.open between.open reserved.open c.remove-work.new.self c.move_others.new.open (option_map (λ b. b.value) c.in_ok-marks.marks) old.commits reserved.commits
          stand is.is_open.alone has.commits commits found.marks c.requires.named ready.more found.transactions c.in_ok-prepared.ensures.same
          (removed.left streams) removed.names removed.gone removed.reads removed.others removed.kept
          c.move_others.ensures removed.whole;
    })
