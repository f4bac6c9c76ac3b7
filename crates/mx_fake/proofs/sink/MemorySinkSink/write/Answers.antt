use Rattle.std.proofs.Common.{Some, ap, ◌∙◌, take}
use Rattle.mx_fake.proofs.PassedLaws.{goes_on}
use Rattle.mx_fake.proofs.sink.MemorySinkSink.write.Goals as goal

pub returns-in-Ok-clause-passed : goal.returns-in-Ok-clause-passed
returns-in-Ok-clause-passed c =
    let passed = c.args.self.now.passed in
    let more = goes_on passed c.args.self.now.bytes.items c.args.bytes.now in
    (more.0, ap (λ bytes. Some (take passed bytes)) c.in-Ok.ensures.items ∙ ap (λ bytes. Some bytes) more.1)
