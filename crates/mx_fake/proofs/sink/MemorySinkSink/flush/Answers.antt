use Rattle.std.proofs.Common.{Some, ap, rules}
use Rattle.mx_fake.proofs.PassedLaws.{goes_to_end}
use Rattle.mx_fake.proofs.sink.MemorySinkSink.flush.Goals as goal

pub returns-clause-passed : goal.returns-clause-passed
returns-clause-passed c =
    let rest = goes_to_end c.args.self.now.passed c.len-self.result c.args.self.now.bytes.items (search rules) in
    (rest.0, ap (λ bytes. Some bytes) rest.1)
