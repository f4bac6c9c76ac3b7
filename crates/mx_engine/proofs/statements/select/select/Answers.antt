use Rattle.std.proofs.Common.{inr}
use Rattle.std.proofs.lemmas.Result.{err_from_is_err_and}
use Rattle.mx_write.proofs.NoteLaws.{as_result}
use Rattle.mx_engine.proofs.SelectLaws.{found_by_number, notes_fault, notes_no_index, notes_no_space, notes_refusal, notes_tuples, tells_fault, tells_no_space, tells_no_index, tells_refusal, tells_tuples}
use Rattle.mx_engine.proofs.statements.select.select.Goals as goal

pub returns-in_err-stored-clause-told : goal.returns-in_err-stored-clause-told
returns-in_err-stored-clause-told c = λ state holds.
    let p = err_from_is_err_and c.from_residual-in_err-stored.result c.from_residual-in_err-stored.ensures.1 in
    rw (p.1, p.2) (tells_no_space state c.args.space.0 c.args.index.0 c.args.pick.now _ (c.in_err-stored.ensures state holds))

pub returns-in_err-stored-clause-notes : goal.returns-in_err-stored-clause-notes
returns-in_err-stored-clause-notes c = λ state holds.
    inr (notes_no_space state c.args.space.0 c.args.index.0 c.args.pick.now c.args.notes.now _ c.in_ok-note_space.ensures _ (c.in_err-stored.ensures state holds))

pub returns-in_err-def-clause-told : goal.returns-in_err-def-clause-told
returns-in_err-def-clause-told c = λ state holds.
    let p = err_from_is_err_and c.from_residual-in_err-def.result c.from_residual-in_err-def.ensures.1 in
    let stored = c.in_ok-stored.ensures state holds in
    rw (p.1, p.2) (tells_no_index state c.args.space.0 c.args.index.0 c.args.pick.now c.in_ok-stored.stored.space.now.schema c.schema.result.now stored.sees.state.holds.is c.schema.ensures _ c.in_err-def.ensures)

pub returns-in_err-def-clause-notes : goal.returns-in_err-def-clause-notes
returns-in_err-def-clause-notes c = λ state holds.
    let p = err_from_is_err_and c.from_residual-in_err-def.result c.from_residual-in_err-def.ensures.1 in
    let stored = c.in_ok-stored.ensures state holds in
    rw (p.1, p.2) (as_result _ (notes_no_index state c.args.space.0 c.args.index.0 c.args.pick.now c.args.notes.now _ c.in_ok-note_space.ensures _ c.in_ok-note_indexes.ensures c.in_ok-stored.stored.space.now.schema c.schema.result.now stored.sees.state.holds.is c.schema.ensures _ c.in_err-def.ensures))

pub returns-in_err-check_key-clause-told : goal.returns-in_err-check_key-clause-told
returns-in_err-check_key-clause-told c = λ state holds.
    let p = err_from_is_err_and c.from_residual-in_err-check_key.result c.from_residual-in_err-check_key.ensures.1 in
    let stored = c.in_ok-stored.ensures state holds in
    rw (p.1, p.2) (tells_refusal state c.args.space.0 c.args.index.0 c.args.pick.now c.in_ok-stored.stored.space.now.schema c.schema.result.now stored.sees.state.holds.is c.schema.ensures c.in_ok-def.def.now c.in_ok-def.ensures _ c.in_err-check_key.ensures)

pub returns-in_err-check_key-clause-notes : goal.returns-in_err-check_key-clause-notes
returns-in_err-check_key-clause-notes c = λ state holds.
    let p = err_from_is_err_and c.from_residual-in_err-check_key.result c.from_residual-in_err-check_key.ensures.1 in
    let stored = c.in_ok-stored.ensures state holds in
    rw (p.1, p.2) (as_result _ (notes_refusal state c.args.space.0 c.args.index.0 c.args.pick.now c.args.notes.now _ c.in_ok-note_space.ensures _ c.in_ok-note_indexes.ensures c.in_ok-stored.stored.space.now.schema c.schema.result.now stored.sees.state.holds.is c.schema.ensures c.in_ok-def.def.now c.in_ok-def.ensures _ c.in_err-check_key.ensures))

pub returns-in_ok-note_read-in-Ok-clause-told : goal.returns-in_ok-note_read-in-Ok-clause-told
returns-in_ok-note_read-in-Ok-clause-told c = λ state holds.
    let stored = c.in_ok-stored.ensures state holds in
    let found = c.in-Ok.ensures state holds stored (found_by_number c.args.index.0 c.in_ok-stored.stored.space.now.schema c.schema.result.now c.in_ok-def.def.now c.schema.ensures c.in_ok-def.ensures) in
    tells_tuples state c.args.space.0 c.args.index.0 c.args.pick.now c.in_ok-stored.stored.space.now.schema c.schema.result.now stored.sees.state.holds.is c.schema.ensures c.in_ok-def.def.now c.in_ok-def.ensures c.in_ok-check_key.ensures _ c.in-Ok.read found

pub returns-in_ok-note_read-in-Ok-clause-notes : goal.returns-in_ok-note_read-in-Ok-clause-notes
returns-in_ok-note_read-in-Ok-clause-notes c = λ state holds.
    let stored = c.in_ok-stored.ensures state holds in
    let found = c.in-Ok.ensures state holds stored (found_by_number c.args.index.0 c.in_ok-stored.stored.space.now.schema c.schema.result.now c.in_ok-def.def.now c.schema.ensures c.in_ok-def.ensures) in
    inr (notes_tuples state c.args.space.0 c.args.index.0 c.args.pick.now c.args.notes.now _ c.in_ok-note_space.ensures _ c.in_ok-note_indexes.ensures c.in_ok-stored.stored.space.now.schema c.schema.result.now stored.sees.state.holds.is c.schema.ensures c.in_ok-def.def.now c.in_ok-def.ensures c.in_ok-check_key.ensures _ c.in-Ok.read _ found c.in_ok-note_read-in-Ok.ensures)

pub returns-in_ok-note_fault-in-Err-clause-told : goal.returns-in_ok-note_fault-in-Err-clause-told
returns-in_ok-note_fault-in-Err-clause-told c = λ state holds.
    let stored = c.in_ok-stored.ensures state holds in
    let found = c.in-Err.ensures state holds stored (found_by_number c.args.index.0 c.in_ok-stored.stored.space.now.schema c.schema.result.now c.in_ok-def.def.now c.schema.ensures c.in_ok-def.ensures) in
    tells_fault state c.args.space.0 c.args.index.0 c.args.pick.now c.in_ok-stored.stored.space.now.schema c.schema.result.now stored.sees.state.holds.is c.schema.ensures c.in_ok-def.def.now c.in_ok-def.ensures c.in_ok-check_key.ensures c.select.new.found c.in-Err.fault found c.fault_refusal.result c.fault_refusal.ensures

pub returns-in_ok-note_fault-in-Err-clause-notes : goal.returns-in_ok-note_fault-in-Err-clause-notes
returns-in_ok-note_fault-in-Err-clause-notes c = λ state holds.
    let stored = c.in_ok-stored.ensures state holds in
    let found = c.in-Err.ensures state holds stored (found_by_number c.args.index.0 c.in_ok-stored.stored.space.now.schema c.schema.result.now c.in_ok-def.def.now c.schema.ensures c.in_ok-def.ensures) in
    as_result _ (notes_fault state c.args.space.0 c.args.index.0 c.args.pick.now c.args.notes.now _ c.in_ok-note_space.ensures _ c.in_ok-note_indexes.ensures c.in_ok-stored.stored.space.now.schema c.schema.result.now stored.sees.state.holds.is c.schema.ensures c.in_ok-def.def.now c.in_ok-def.ensures c.in_ok-check_key.ensures c.select.new.found c.in-Err.fault found _ c.fault_refusal.result c.fault_refusal.ensures
    c.in_ok-note_fault-in-Err.ensures.long (λ other. (c.in_ok-note_fault-in-Err.ensures.other other).1))
