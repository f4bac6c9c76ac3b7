use Rattle.std.proofs.Common.{Ok, sym}
use Rattle.std.proofs.lemmas.Result.{err_from_is_err_and}
use Rattle.mx_msgpack.proofs.Measured.{measured_spelled}
use Rattle.mx_msgpack.proofs.Shown.{value_fails, value_bounds, value_seen, int_seen}
use Rattle.mx_msgpack.proofs.value_ref.read_behind.Goals as goal

pub returns-in_err-size : goal.returns-in_err-size
returns-in_err-size c =
    let p = err_from_is_err_and c.from_residual.result c.from_residual.ensures.1 in
    record {
      spelled = rw p.1 tt;
      exact = rw (p.1, p.2) (value_fails c.args.bytes.now c.args.head c.args.rest.now _ c.requires.head (sym c.in_err-size.ensures));
    }

pub split_at-requires : goal.split_at-requires
split_at-requires c = (measured_spelled c.args.bytes.now (Ok c.in_ok-size.size) c.in_ok-size.ensures).0

pub overflow_sub-size : goal.overflow_sub-size
overflow_sub-size c =
    (value_bounds c.args.bytes.now c.args.head c.args.rest.now c.in_ok-size.size c.requires.within
    c.requires.head (sym c.in_ok-size.ensures)).behind

pub split_at-requires-2 : goal.split_at-requires-2
split_at-requires-2 c =
    (value_bounds c.args.bytes.now c.args.head c.args.rest.now c.in_ok-size.size c.requires.within
    c.requires.head (sym c.in_ok-size.ensures)).within

pub returns-in-Int : goal.returns-in-Int
returns-in-Int c =
    let s =
    int_seen c.args.bytes.now c.in-Int.field-0 c.args.rest.now c.requires.within
    (rw c.in-Int.is at c.requires.head) _ (rw c.in-Int.is at c.value_of.ensures) in
    record { spelled = s.spelled; exact = s.exact }

pub returns : goal.returns
returns c =
    let s =
    value_seen c.args.bytes.now c.args.head c.args.rest.now c.in_ok-size.size c.requires.within
    c.requires.head (sym c.in_ok-size.ensures) _ c.split_at-2.result.0.now c.split_at.result.0.now c.split_at-2.ensures.front c.split_at.ensures.front c.value_of-2.ensures in
    record { spelled = s.spelled; exact = s.exact }
