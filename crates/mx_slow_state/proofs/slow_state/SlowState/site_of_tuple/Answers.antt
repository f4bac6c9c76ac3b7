use Rattle.std.proofs.Common.{refl, sym, subst, ◌∙◌}
use Rattle.mx_schema.specs.Catalogues.{schema_of}
use Rattle.mx_schema.specs.State.{tuples_in}
use Rattle.mx_schema.specs.Stored.{StoresSpace, stored_list}
use Rattle.mx_write.specs.Checks.{tuple_fault}
use Rattle.mx_write.specs.Judged.{unless, ◌>>=◌}
use Rattle.mx_write.specs.Lookup.{the_index}
use Rattle.mx_write.proofs.StageLaws.{goes_on, index_there, none_refuses}
use Rattle.mx_slow_state.proofs.slow_state.SlowState.site_of_tuple.Goals as goal

pub returns : goal.returns
returns c = λ before rest keeps.
    let tuple = c.args.tuple.now in
    let space = c.args.space.0 in
    let schema = c.in_ok-found.found.now.schema in
    let primary = c.in_ok-primary.primary.now in
    let (stored, reaches) = c.in_ok-found.ensures before (λ schema. the_index space schema 0 >>= λ primary. unless (tuple_fault schema primary tuple) >>= λ _. rest schema primary) keeps in (
      refl,
      record {
        stored = subst (λ kept. StoresSpace (schema_of before space) schema (stored_list kept) (tuples_in before space)) (sym c.as_slice.ensures.value) stored;
        primary = c.in_ok-primary.ensures;
      },
      c.in_ok-key.ensures.1,
      reaches ∙ goes_on (the_index space schema 0) (λ primary. unless (tuple_fault schema primary tuple) >>= λ _. rest schema primary) primary
          (index_there space schema (record { 0 = 0 }) primary c.in_ok-primary.ensures)
          ∙ goes_on (unless (tuple_fault schema primary tuple)) (λ _. rest schema primary) tt (none_refuses _ c.in_ok-key.ensures.0),
    )
