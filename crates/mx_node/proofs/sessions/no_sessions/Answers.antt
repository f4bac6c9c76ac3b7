use Rattle.std.proofs.Common.{◌≡◌, None, length, ap, ◌∙◌, arith}
use Rattle.std.proofs.lemmas.List.{length-replicate}
use Rattle.mx_node.specs.Tables.{session_at}
use Rattle.mx_node.proofs.TableLaws.{none_at}
use Rattle.mx_node.proofs.sessions.no_sessions.Goals as goal

pub returns-clause-table : goal.returns-clause-table
returns-clause-table c =
    let all : c.loop.counter ≡ 1024 = omega (arith, c.loop-test.false, c.loop.auto.counter-end) in
    ap length c.loop.invariant ∙ length-replicate c.loop.counter None ∙ all

pub returns-clause-none : goal.returns-clause-none
returns-clause-none c = λ connection. ap (λ l. session_at l connection) c.loop.invariant ∙ none_at c.loop.counter connection
