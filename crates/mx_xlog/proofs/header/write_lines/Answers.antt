use Rattle.std.proofs.Common.{◌++◌, ◌∷◌, [], if◌then◌else◌}
use Rattle.std.specs.Prelude.{codes}
use Rattle.mx_xlog.specs.Headers.{replica_lines}
use Rattle.mx_vclock.specs.Text.{vclock_text}
use Rattle.uuid.specs.Text.{hyphenated_text, lower}
use Rattle.mx_xlog.proofs.LineLaws.{header_added}
use Rattle.mx_xlog.proofs.header.write_lines.Goals as goal

pub returns : goal.returns
returns c =
    let head = c.args.head.now in
    header_added ((if head.snapshot then codes "SNAP" else codes "XLOG") ∷ codes "0.13" ∷ [])
    (codes "Instance: " ++ hyphenated_text lower head.instance) (codes "ReplicaSet: " ++ hyphenated_text lower head.set)
    (replica_lines head.replica) ((codes "VClock: " ++ vclock_text head.clock) ∷ [] ∷ [])
    _ _ _ _ _ _ c.in_ok-write_file_type.ensures c.in_ok-write_id.ensures c.in_ok-write_id-2.ensures c.in_ok-write_replica.ensures c.in_ok-write_clock.ensures
