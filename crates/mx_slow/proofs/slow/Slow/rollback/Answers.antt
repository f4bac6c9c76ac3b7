use Rattle.std.proofs.Common.{refl}
use Rattle.std.proofs.lemmas.Bool.{ne_eqb}
use Rattle.mx_base.specs.Keys.{stream_key}
use Rattle.mx_base.specs.declared.refusal.Refusal.TheVariants.{IllegalValue}
use Rattle.mx_model.specs.declared.reply.Reply.TheVariants.{Empty, Refused}
use Rattle.mx_model.specs.Streams.{ends_told, in_stream}
use Rattle.mx_model.proofs.StreamOutcomes.{no_stream_test, with_stream, without_stream}
use Rattle.mx_slow.proofs.SlowStreamLaws.{ends_with, stays_told}
use Rattle.mx_slow.proofs.slow.Slow.rollback.Goals as goal

pub returns-then-name-eq0 : goal.returns-then-name-eq0
returns-then-name-eq0 c = λ streams is.
    stays_told c.args.self.now streams c.args.name (in_stream c.args.name (ends_told Empty)) c.no_stream.result (Refused (IllegalValue stream_key)) is
    (without_stream streams c.args.name (ends_told Empty) (no_stream_test c.args.name.stream.0 c.if-name-eq0.true)) c.no_stream.ensures

pub returns : goal.returns
returns c = λ streams is.
    ends_with c.end.new.self streams c.args.name (in_stream c.args.name (ends_told Empty)) Empty Empty (c.end.ensures streams is)
    (with_stream streams c.args.name (ends_told Empty) (ne_eqb c.args.name.stream.0 0 c.if-name-eq0.false)) refl
