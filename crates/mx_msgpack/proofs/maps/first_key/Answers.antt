use Rattle.std.proofs.Common.{sym}
use Rattle.mx_msgpack.proofs.MapLaws.{key_passed}
use Rattle.mx_msgpack.proofs.maps.first_key.Goals as goal

pub returns-in-Some-clause-after : goal.returns-in-Some-clause-after
returns-in-Some-clause-after c = sym (key_passed c.args.bytes.now (c.in-Some.number, c.in-Some.rest.now) (sym c.in-Some.ensures))
