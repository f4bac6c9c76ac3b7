use Rattle.std.specs.Option.{option_copied}
use Rattle.mx_schema.specs.Catalogues.{schema_of}
use Rattle.mx_schema.specs.State.{tuples_in}
use Rattle.mx_schema.specs.Stored.{StoresSpace, stored_list}
use Rattle.mx_slow.proofs.SlowStageLaws.{writable_told}
use Rattle.mx_slow.proofs.write_reads.read_writable_space.Goals as goal

pub returns : goal.returns
returns c = λ before rest keeps.
    let space = c.args.space.0 in
    writable_told before space c.args.kind (option_copied c.args.named) c.args.reads.now c.push_rows.new.self c.in_ok-push_rows.ensures (λ found. found.now.schema)
    (λ found. StoresSpace (schema_of before space) found.now.schema (stored_list found.now.tuples.items) (tuples_in before space)) (λ found stored. stored.is)
    c.writable_space.result (λ other. c.writable_space.ensures before other keeps) rest
