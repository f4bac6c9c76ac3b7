use Rattle.std.proofs.Common.{◌≡◌, ◌<◌, ℕ, List, refl, sym, ◌∙◌, subst}
use Rattle.std.specs.Prelude.{slice_index}
use Rattle.mx_vclock.specs.Vclocks.{IsVclock}
use Rattle.mx_model.specs.declared.ids.Ids.{Ids}
use Rattle.mx_directory.specs.Directories.{ids_or}
use Rattle.mx_store.specs.Stores.{base_of}
use Rattle.mx_store.proofs.OpenLaws.{newest_told, kept_ids, known_few, begun}
use Rattle.mx_store.proofs.RecoveryLaws.{begins_survive}
use Rattle.mx_store.proofs.opening.begin.Goals as goal

pub create-requires-clause-newest : goal.create-requires-clause-newest
create-requires-clause-newest g c = newest_told _ c.args.reached c.requires.durable.0 c.requires.durable.1

pub create-requires-clause-fits : goal.create-requires-clause-fits
create-requires-clause-fits g c =
    let (found, s) = c.requires.durable in
    record {
      replica = subst (λ (ids : Ids). ids.me < 32) (sym c.unwrap_or-ids.ensures) (known_few c.args.ids.now c.args.reached.ids found.ids c.requires.whose s.stands.ids s.stands.whose);
      sound = subst IsVclock (sym s.stands.clock) s.stands.sound;
      nothing = subst (λ (clock : List ℕ). slice_index clock 0 ≡ 0) (sym s.stands.clock) s.stands.nothing;
    }

pub returns-clause-ready : goal.returns-clause-ready
returns-clause-ready g c = λ found s.
    let first = c.args.ids.now in
    let ids : c.unwrap_or-ids.result ≡ ids_or first found.ids =
    c.unwrap_or-ids.ensures ∙ kept_ids first c.args.reached.ids found.ids s.stands.ids in
    let begins = c.in_ok-journal.ensures.begins in (
      c.in_ok-engine.ensures (base_of first found) s.stands.holds s.stands.clock ids,
      begun first c.args.reached found _ _ c.in_ok-journal.journal _ s c.create.ensures.told c.in_ok-journal.ensures.created begins.0 begins.1 begins.2
          refl ids,
    )

pub returns-in_err-journal-clause-moments : goal.returns-in_err-journal-clause-moments
returns-in_err-journal-clause-moments g c = λ found origin earlier transactions s after front follow.
    begins_survive earlier transactions front follow c.args.reached found _ _ _ c.args.ids.now c.args.ids.now s refl refl
    c.unwrap_or-ids.ensures refl after c.create.ensures.moments

pub returns-in_err-engine-clause-moments : goal.returns-in_err-engine-clause-moments
returns-in_err-engine-clause-moments g c = λ found origin earlier transactions s after front follow.
    begins_survive earlier transactions front follow c.args.reached found _ _ _ c.args.ids.now c.args.ids.now s refl refl
    c.unwrap_or-ids.ensures refl after c.create.ensures.moments

pub returns-clause-moments : goal.returns-clause-moments
returns-clause-moments g c = λ found origin earlier transactions s after front follow.
    begins_survive earlier transactions front follow c.args.reached found _ _ _ c.args.ids.now c.args.ids.now s refl refl
    c.unwrap_or-ids.ensures refl after c.create.ensures.moments
