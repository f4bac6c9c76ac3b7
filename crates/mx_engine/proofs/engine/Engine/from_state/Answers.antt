use Rattle.std.proofs.Common.{arith, [], Some, None, ◌≡◌, refl, sym, ◌∙◌, subst}
use Rattle.std.specs.List.{AllZip}
use Rattle.mx_model.specs.Streams.{Streams}
use Rattle.mx_transactions.specs.Open.{IsOpen}
use Rattle.mx_engine.proofs.engine.Engine.from_state.Goals as goal

pub returns : goal.returns
returns c = λ base holds clock ids.
    let streams : Streams = record { base = base; journal = []; transactions = [] } in
    let all = c.in_ok-new.field-0 in
    record {
      legal = holds.sound;
      matches = record {
        has = record {
          holds = holds;
          clock = clock;
          ids = ids;
          commits = refl;
          few = omega arith;
          transactions = record {
            each = subst (λ names. AllZip (IsOpen streams all) names []) (sym c.in_ok-new.ensures.names) tt;
            kept = λ commits memory is. let both : None ≡ Some memory = sym (c.in_ok-new.ensures.kept commits) ∙ is in absurd cc;
          };
        };
        count = refl;
        durable = refl;
        pending = c.new-2.ensures;
        schema = refl;
      };
    }
