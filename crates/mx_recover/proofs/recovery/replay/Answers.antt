use Rattle.std.proofs.Common.{refl, ap, ◌∙◌, map, string_bytes, arith}
use Rattle.std.proofs.lemmas.List.{nil_from_length}
use Rattle.std.proofs.lemmas.Result.{err_from_is_err_and}
use Rattle.mx_directory.specs.Directories.{nothing_yet}
use Rattle.mx_recover.proofs.FileLaws.{begins, is_there, goes_on, ends, breaks, snapshot_breaks}
use Rattle.mx_recover.proofs.recovery.replay.Goals as goal

pub returns-in_err-refuse_snapshot-clause-damaged : goal.returns-in_err-refuse_snapshot-clause-damaged
returns-in_err-refuse_snapshot-clause-damaged g c = λ damage is.
    let p = err_from_is_err_and c.from_residual.result c.from_residual.ensures.1 in
    let from = p.1 in
    let same = p.2 in
    let was = c.in_err-refuse_snapshot.was in
    snapshot_breaks _ _ damage c.requires (λ journals. c.refuse_snapshot.ensures.damaged damage journals cc)

pub loop-name-init : goal.loop-name-init
loop-name-init g c = record { states = refl; later = omega arith; quiet = refl; way = (nothing_yet, c.in_ok-reached.ensures, begins _ _ c.requires) }

pub replay_name-requires : goal.replay_name-requires
replay_name-requires g c =
    let way = c.loop-name.invariant.way in
    is_there _ _ _ _ _ _ (ap (map string_bytes) c.in-Some.ensures.cases.0) c.deref.ensures c.loop-name.invariant.states way.0 way.2

pub returns-in_err-replay_name-clause-damaged : goal.returns-in_err-replay_name-clause-damaged
returns-in_err-replay_name-clause-damaged g c = λ damage is.
    let p = err_from_is_err_and c.from_residual-in_err-replay_name.result c.from_residual-in_err-replay_name.ensures.1 in
    let from = p.1 in
    let same = p.2 in
    let was = c.in_err-replay_name.was in
    let way = c.loop-name.invariant.way in
    breaks _ _ _ _ _ _ (ap (map string_bytes) c.in-Some.ensures.cases.0) c.deref.ensures c.loop-name.invariant.states way.0 way.2
    _ c.requires c.in_ok-refuse_snapshot.ensures.none damage (c.replay_name.ensures.damaged way.0 damage way.1 cc)

pub loop-name-preserved : goal.loop-name-preserved
loop-name-preserved g c =
    let way = c.loop-name.invariant.way in
    let next = c.in_ok-replay_name.ensures.passed way.0 way.1 in record {
      states = c.replay_name.ensures.states ∙ c.loop-name.invariant.states;
      later = omega arith;
      quiet = c.in_ok-replay_name.ensures.cause.done ∙ c.loop-name.invariant.quiet;
      way = (
        next.0,
        next.1,
        goes_on _ _ _ _ _ _ (ap (map string_bytes) c.in-Some.ensures.cases.0) c.deref.ensures c.loop-name.invariant.states way.0 way.2
            next.0 next.2,
      );
    }

pub returns-clause-stands : goal.returns-clause-stands
returns-clause-stands g c =
    let way = c.loop-name.invariant.way in (
      way.0,
      way.1,
      ends _ _ _ way.0 c.requires c.in_ok-refuse_snapshot.ensures.none (ap (map string_bytes) (nil_from_length _ c.in_default.ensures.cases)) way.2,
    )
