use Rattle.std.proofs.Common.{sym, ap, subst}
use Rattle.std.specs.Prelude.{MatchResult}
use Rattle.mx_slow.specs.Slow.{IsSlow, Tells}
use Rattle.mx_model.specs.Streams.{Outcome}
use Rattle.mx_model.specs.statements.Statement.{statement_of}
use Rattle.mx_model.proofs.BecomesLaws.{told_statement}
use Rattle.mx_slow.proofs.slow.Slow.ask.Goals as goal

pub returns-in-Select : goal.returns-in-Select
returns-in-Select c = λ streams is asked.
    let states_it = ap statement_of c.in-Select.is in
    subst (λ (o : Outcome). MatchResult c.statement.result (λ reply. Tells c.statement.new.self streams c.args.name o reply) (λ _. IsSlow c.statement.new.self streams))
    (sym (told_statement streams c.args.name c.args.request.now _ states_it)) (c.statement.ensures streams _ is asked states_it)

pub returns-in-Insert : goal.returns-in-Insert
returns-in-Insert c = λ streams is asked.
    let states_it = ap statement_of c.in-Insert.is in
    subst (λ (o : Outcome). MatchResult c.statement-in-Insert.result (λ reply. Tells c.statement-in-Insert.new.self streams c.args.name o reply) (λ _. IsSlow c.statement-in-Insert.new.self streams))
    (sym (told_statement streams c.args.name c.args.request.now _ states_it)) (c.statement-in-Insert.ensures streams _ is asked states_it)

pub returns-in-Replace : goal.returns-in-Replace
returns-in-Replace c = λ streams is asked.
    let states_it = ap statement_of c.in-Replace.is in
    subst (λ (o : Outcome). MatchResult c.statement-in-Replace.result (λ reply. Tells c.statement-in-Replace.new.self streams c.args.name o reply) (λ _. IsSlow c.statement-in-Replace.new.self streams))
    (sym (told_statement streams c.args.name c.args.request.now _ states_it)) (c.statement-in-Replace.ensures streams _ is asked states_it)

pub returns-in-Update : goal.returns-in-Update
returns-in-Update c = λ streams is asked.
    let states_it = ap statement_of c.in-Update.is in
    subst (λ (o : Outcome). MatchResult c.statement-in-Update.result (λ reply. Tells c.statement-in-Update.new.self streams c.args.name o reply) (λ _. IsSlow c.statement-in-Update.new.self streams))
    (sym (told_statement streams c.args.name c.args.request.now _ states_it)) (c.statement-in-Update.ensures streams _ is asked states_it)

pub returns-in-Delete : goal.returns-in-Delete
returns-in-Delete c = λ streams is asked.
    let states_it = ap statement_of c.in-Delete.is in
    subst (λ (o : Outcome). MatchResult c.statement-in-Delete.result (λ reply. Tells c.statement-in-Delete.new.self streams c.args.name o reply) (λ _. IsSlow c.statement-in-Delete.new.self streams))
    (sym (told_statement streams c.args.name c.args.request.now _ states_it)) (c.statement-in-Delete.ensures streams _ is asked states_it)

pub returns-in-Upsert : goal.returns-in-Upsert
returns-in-Upsert c = λ streams is asked.
    let states_it = ap statement_of c.in-Upsert.is in
    subst (λ (o : Outcome). MatchResult c.statement-in-Upsert.result (λ reply. Tells c.statement-in-Upsert.new.self streams c.args.name o reply) (λ _. IsSlow c.statement-in-Upsert.new.self streams))
    (sym (told_statement streams c.args.name c.args.request.now _ states_it)) (c.statement-in-Upsert.ensures streams _ is asked states_it)
