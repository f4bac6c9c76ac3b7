use Rattle.std.proofs.Common.{◌≡◌, ◌++◌, sym, subst}
use Rattle.std.specs.Prelude.{MatchResult}
use Rattle.mx_reply.specs.declared.body.ReplyBody.{ReplyBody}
use Rattle.mx_reply.specs.Replies.{ok_packet}
use Rattle.mx_reply.proofs.replies.write_ok.Goals as goal

pub returns-in-Tuples-clause-written : goal.returns-in-Tuples-clause-written
returns-in-Tuples-clause-written c =
    let out = c.args.out.now in
    subst (λ (body : ReplyBody). MatchResult c.write_tuples.result
    (λ _. c.write_tuples.new.out ≡ out ++ ok_packet c.args.schema c.args.sync.0 body) (λ _. c.write_tuples.new.out ≡ out))
    (sym c.in-Tuples.is) c.write_tuples.ensures.written
