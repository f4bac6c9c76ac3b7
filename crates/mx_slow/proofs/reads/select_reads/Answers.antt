use Rattle.std.proofs.Common.{rules, ◌≡◌, ℕ, [], ◌∷◌, Some, None, nat_cmp, sym, ap, ◌∙◌, subst}
use Rattle.std.specs.BTreeMap.{get_by}
use Rattle.mx_schema.specs.Catalogues.{index_with, schema_of}
use Rattle.mx_schema.specs.State.{source_of, tuples_in}
use Rattle.mx_write.specs.Reads.{index_read, space_read}
use Rattle.mx_slow.specs.SlowReads.{read_view, reads_view}
use Rattle.mx_slow.specs.SlowTouches.{AreFitReads}
use Rattle.mx_slow_state.proofs.SlowLaws.{space_found}
use Rattle.mx_slow.proofs.SlowReadLaws.{select_fit, select_reads_none, select_reads_range}
use Rattle.mx_slow.proofs.reads.select_reads.Goals as goal

pub returns : goal.returns
returns c = λ state keeps.
    let space = c.args.space.0 in
    let pick = c.args.pick.now in
    let def = c.in-Some-index.def.now in
    let schema = c.in-Some.found.now.schema in
    let none : c.in_ok-key_refusal.field-0 ≡ None = search rules in
    let (taken, fitting, fits, fit) = rw none at c.in_ok-key_refusal.ensures in
    let stored = space_found (schema_of state space) (tuples_in state space) c.in-Some.found.now (get_by (nat_cmp space) c.args.state.now.spaces) c.in-Some.ensures.value (keeps space) in
    let there : index_with c.args.index.0 schema.indexes ≡ Some def = search rules in
    let read = c.in_ok-scanned.ensures (tuples_in state (source_of space)) fitting (c.tuples_of.ensures state keeps) fit (c.in_ok-range.ensures.picked fitting fits) in
    let scanned = sym c.in-Some-scanned.is ∙ read.0 in
    let pushed : c.push.new.self ≡ read_view (space_read space) ∷ read_view (index_read space) ∷ record { space = c.source_of.result; index = def.id; range = c.in-Some-scanned.range } ∷ [] =
    search rules in (
      pushed
          ∙ ap (λ (s : ℕ). read_view (space_read space) ∷ read_view (index_read space) ∷ record { space = record { 0 = s }; index = def.id; range = c.in-Some-scanned.range } ∷ []) c.source_of.ensures
          ∙ sym (select_reads_range state space c.args.index.0 pick schema stored.is def there taken fitting fits c.in-Some-scanned.range scanned),
      select_fit state space c.args.index.0 pick schema stored.is def there taken fitting fits (c.in_ok-push_rows.ensures.1.0, c.in_ok-push_rows-2.ensures.1) read.1,
    )

pub returns-in_default-scanned : goal.returns-in_default-scanned
returns-in_default-scanned c = λ state keeps.
    let space = c.args.space.0 in
    let pick = c.args.pick.now in
    let def = c.in-Some-index.def.now in
    let schema = c.in-Some.found.now.schema in
    let none : c.in_ok-key_refusal.field-0 ≡ None = search rules in
    let (taken, fitting, fits, fit) = rw none at c.in_ok-key_refusal.ensures in
    let stored = space_found (schema_of state space) (tuples_in state space) c.in-Some.found.now (get_by (nat_cmp space) c.args.state.now.spaces) c.in-Some.ensures.value (keeps space) in
    let there : index_with c.args.index.0 schema.indexes ≡ Some def = search rules in
    let read = c.in_ok-scanned.ensures (tuples_in state (source_of space)) fitting (c.tuples_of.ensures state keeps) fit (c.in_ok-range.ensures.picked fitting fits) in
    let same = sym (select_reads_none state space c.args.index.0 pick schema stored.is def there taken fitting fits (sym c.in_default-scanned.is ∙ read.0)) in
    let pushed : c.push_rows-2.new.self ≡ read_view (space_read space) ∷ read_view (index_read space) ∷ [] = search rules in
    (pushed ∙ ap reads_view same, subst AreFitReads same (c.in_ok-push_rows.ensures.1.0, c.in_ok-push_rows-2.ensures.1))
