use Rattle.std.proofs.Common.{rules, refl, sym, subst}
use Rattle.std.specs.List.{AllZip}
use Rattle.std.proofs.lemmas.Fn.{filter_same}
use Rattle.mx_slow.specs.Slow.{KeepsTransaction}
use Rattle.mx_model.specs.Streams.{without_named}
use Rattle.mx_slow.proofs.SlowNameLaws.{others_kept}
use Rattle.mx_slow.proofs.SlowStreamLaws.{is_beside}
use Rattle.mx_slow.proofs.slow.Slow.end.Goals as goal

pub returns : goal.returns
returns c = λ streams is.
    let old = c.args.self.now in
    let kept = others_kept c.args.name old.transactions.items streams.transactions is.transactions in
    is_beside old (record old { transactions = c.retain.new.self }) streams (without_named c.args.name streams.transactions) is refl refl refl refl
    (subst (λ l. AllZip KeepsTransaction l (without_named c.args.name streams.transactions)) (sym (filter_same _ _ _ (λ x b f' k. search rules) _ _ c.retain.ensures.filtered)) kept)
