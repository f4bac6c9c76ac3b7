use Rattle.mx_msgpack.specs.Owned.{value_view}
use Rattle.mx_msgpack.proofs.WriterLaws.{spelled_writable}
use Rattle.mx_msgpack.proofs.encode.write_value.Goals as goal

pub write_any-written-requires : goal.write_any-written-requires
write_any-written-requires c = spelled_writable 64 (value_view c.args.value.now) c.requires.0 c.requires.1 c.requires.2
