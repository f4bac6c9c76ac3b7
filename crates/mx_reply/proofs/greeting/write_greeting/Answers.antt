use Rattle.std.proofs.Common.{◌≡◌, sym, ap, ◌∙◌, length, rules}
use Rattle.mx_reply.specs.Greeting.{greeting_of}
use Rattle.mx_reply.proofs.GreetingLaws.{greeting-length}
use Rattle.mx_reply.proofs.greeting.write_greeting.Goals as goal

pub copy_from_slice-requires : goal.copy_from_slice-requires
unfolding greeting_of
copy_from_slice-requires c =
    let whole : c.deref.result.now ≡ greeting_of c.args.instance.now c.args.salt.now = search rules in
    sym (ap length whole ∙ greeting-length c.args.instance.now c.args.salt.now c.told-salt)
