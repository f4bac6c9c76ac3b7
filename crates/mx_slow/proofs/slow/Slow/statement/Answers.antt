use Rattle.std.proofs.Common.{sym, ap, subst}
use Rattle.std.specs.Prelude.{MatchResult}
use Rattle.std.specs.List.{AllZip}
use Rattle.mx_slow.specs.Slow.{IsSlow, KeepsTransaction, Tells}
use Rattle.mx_model.specs.Streams.{Outcome, states}
use Rattle.mx_slow.proofs.slow.Slow.statement.Goals as goal

pub returns-in-Some : goal.returns-in-Some
returns-in-Some c = λ streams statement is asked states_it.
    let (one, at) = c.in-Some.ensures.named streams.transactions (subst (λ l. AllZip KeepsTransaction l streams.transactions) (sym c.as_slice.ensures.value) is.transactions) in
    subst (λ (o : Outcome). MatchResult c.step.result (λ reply. Tells c.step.new.self streams c.args.name o reply) (λ _. IsSlow c.step.new.self streams))
    (ap (λ present. states streams present statement) (sym at.named)) (c.step.ensures streams c.args.name one statement is at asked states_it)

pub returns-in-None : goal.returns-in-None
returns-in-None c = λ streams statement is asked states_it.
    let none = c.in-None.ensures.named streams.transactions (subst (λ l. AllZip KeepsTransaction l streams.transactions) (sym c.as_slice.ensures.value) is.transactions) in
    subst (λ (o : Outcome). MatchResult c.alone.result (λ reply. Tells c.alone.new.self streams c.args.name o reply) (λ _. IsSlow c.alone.new.self streams))
    (ap (λ present. states streams present statement) (sym none)) (c.alone.ensures streams c.args.name statement is states_it)
