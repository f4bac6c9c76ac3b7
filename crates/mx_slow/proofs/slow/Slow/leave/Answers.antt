use Rattle.std.proofs.Common.{rules, refl, sym, subst}
use Rattle.std.specs.List.{AllZip}
use Rattle.std.proofs.lemmas.Fn.{filter_same}
use Rattle.mx_slow.specs.Slow.{KeepsTransaction}
use Rattle.mx_model.specs.Streams.{of_others}
use Rattle.mx_slow.proofs.SlowNameLaws.{connections_kept}
use Rattle.mx_slow.proofs.SlowStreamLaws.{is_beside}
use Rattle.mx_slow.proofs.slow.Slow.leave.Goals as goal

pub returns : goal.returns
returns c = λ streams is.
    let old = c.args.self.now in
    let others = of_others c.args.connection.0 streams.transactions in
    let kept = connections_kept c.args.connection.0 old.transactions.items streams.transactions is.transactions in
    is_beside old (record old { transactions = c.retain.new.self }) streams others is refl refl refl refl
    (subst (λ l. AllZip KeepsTransaction l others) (sym (filter_same _ _ _ (λ x b f' k. search rules) _ _ c.retain.ensures.filtered)) kept)
