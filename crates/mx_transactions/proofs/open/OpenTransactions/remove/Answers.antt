use Rattle.std.proofs.Common.{rules, ◌≡◌, ◌<◌, [], length, Some, None, refl, sym, ap, ◌∙◌, subst}
use Rattle.std.specs.Prelude.{slice_get, slice_set}
use Rattle.std.proofs.lemmas.List.{length-set}
use Rattle.std.specs.FinMap.{get}
use Rattle.mx_tracker.specs.Tracks.{ChangesReads}
use Rattle.mx_txn.specs.Slots.{max_open}
use Rattle.mx_txn.proofs.StateLaws.{get-with_state_same}
use Rattle.mx_transactions.specs.Open.{HoldsOpen, Open, slot_named}
use Rattle.mx_transactions.specs.OpenSteps.{StaysAt}
use Rattle.mx_transactions.specs.declared.work.Work.{Work}
use Rattle.mx_transactions.proofs.EndLaws.{ended_open}
use Rattle.mx_transactions.proofs.MoveLaws.{item_there}
use Rattle.mx_transactions.proofs.OpenLaws.{found_live}
use Rattle.mx_transactions.proofs.TableLaws.{cleared_others, ended_table, keeps_same}
use Rattle.mx_transactions.proofs.open.OpenTransactions.remove.Goals as goal

pub end-requires : goal.end-requires
end-requires c =
    found_live c.self.inside.slots c.args.name c.self.inside.names c.self.invariant.live c.args.slot
    (subst (λ (all : Open). slot_named c.args.name all.names ≡ Some c.args.slot) (sym c.self.view_is) c.requires)

pub invariant_of-self : goal.invariant_of-self
invariant_of-self c =
    let within : c.args.slot < max_open = search rules in
    let items = c.self.inside.works.items in
    ended_table _ _ c.args.name c.args.slot c.self.invariant within
    (subst (λ (all : Open). slot_named c.args.name all.names ≡ Some c.args.slot) (sym c.self.view_is) c.requires) c.remove.ensures (record {
      slots = c.end.ensures;
      tracks = subst (λ n. ChangesReads c.self.inside.tracker c.forget.new.self n []) c.number.ensures.value c.forget.ensures;
      work = (
        c.new.result,
        c.new.ensures,
        ap (slice_set items c.number-2.result) c.replace-work.ensures.after ∙ ap (λ n. slice_set items n c.new.result) c.number-2.ensures.value,
      );
      keeps = keeps_same _ _ refl;
    })

pub returns-clause-value : goal.returns-clause-value
returns-clause-value c =
    ap (λ (all : Open). slice_get all.works c.args.slot) (sym c.self.view_is)
    ∙ item_there c.self.inside.works.items c.args.slot c.number-2.result c.index_mut.result.now c.number-2.ensures.value c.number-2.ensures.bounded c.self.invariant.whole
    c.index_mut.ensures.value
    ∙ ap (λ (work : Work). Some work) (sym c.replace-work.ensures.value)

pub returns-clause-left : goal.returns-clause-left
returns-clause-left c = λ streams holds.
    let items = c.self.inside.works.items in
    ended_open streams _ _ c.args.name c.args.slot c.self.invariant
    (subst (λ (all : Open). slot_named c.args.name all.names ≡ Some c.args.slot) (sym c.self.view_is) c.requires) c.remove.ensures (record {
      slots = c.end.ensures;
      tracks = subst (λ n. ChangesReads c.self.inside.tracker c.forget.new.self n []) c.number.ensures.value c.forget.ensures;
      work = (
        c.new.result,
        c.new.ensures,
        ap (slice_set items c.number-2.result) c.replace-work.ensures.after ∙ ap (λ n. slice_set items n c.new.result) c.number-2.ensures.value,
      );
      keeps = keeps_same _ _ refl;
    }) (subst (HoldsOpen streams) (sym c.self.view_is) holds)

pub returns-clause-gone : goal.returns-clause-gone
returns-clause-gone c =
    ap (λ slots. get slots c.args.slot) c.end.ensures ∙ get-with_state_same c.self.inside.slots c.args.slot None

pub returns-clause-others : goal.returns-clause-others
returns-clause-others c = λ other differs.
    let items = c.self.inside.works.items in
    let before : Open = record { names = c.self.inside.names; slots = c.self.inside.slots; tracks = c.self.inside.tracker; works = items; kept = c.self.inside.kept } in
    let after : Open = record {
      names = c.remove.new.self;
      slots = c.end.new.self;
      tracks = c.forget.new.self;
      works = slice_set items c.number-2.result c.replace-work.new.dest;
      kept = c.self.inside.kept;
    } in
    subst (λ (all : Open). StaysAt all after other) c.self.view_is (cleared_others before after c.args.slot None (record {
      slots = c.end.ensures;
      tracks = subst (λ n. ChangesReads c.self.inside.tracker c.forget.new.self n []) c.number.ensures.value c.forget.ensures;
      work = (
        c.new.result,
        c.new.ensures,
        ap (slice_set items c.number-2.result) c.replace-work.ensures.after ∙ ap (λ n. slice_set items n c.new.result) c.number-2.ensures.value,
      );
      keeps = keeps_same before after refl;
    }) other differs)

pub returns-clause-whole : goal.returns-clause-whole
returns-clause-whole c =
    ap length (ap (slice_set c.self.inside.works.items c.number-2.result) c.replace-work.ensures.after)
    ∙ length-set c.self.inside.works.items c.number-2.result c.new.result ∙ c.self.invariant.whole
