use Rattle.std.proofs.Common.{[], refl, sym, ap, ◌∙◌}
use Rattle.mx_reply.specs.Greeting.{greeting_of}
use Rattle.mx_node.proofs.single.Single.over.Goals as goal

pub returns : goal.returns
returns c = λ start states salted stands has.
    let instance = ap (λ i. greeting_of i.instance c.args.salt.now) (c.ids.ensures start.base [] stands) in
    record {
      greeting = c.in_ok-write_greeting.ensures ∙ instance ∙ ap (greeting_of start.base.ids.instance) (sym salted);
      ready = record { behind = record { stands = stands; has = has }; taken = refl; gate = tt };
      order = refl;
      table = c.in_ok-no_sessions.ensures.table;
      sessions = λ connection within. c.in_ok-no_sessions.ensures.none connection;
    }
