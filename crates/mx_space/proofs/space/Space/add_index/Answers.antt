use Rattle.std.proofs.Common.{◌≤◌, length, refl, sym, ap, ◌∙◌, subst}
use Rattle.std.specs.List.{remove}
use Rattle.std.proofs.lemmas.Result.{err_from_is_err_and}
use Rattle.std.proofs.lemmas.Slice.Zip.{AllZip-long}
use Rattle.mx_schema.specs.RowParts.{index_place}
use Rattle.mx_space.specs.declared.space.Space.{Space}
use Rattle.mx_entries.proofs.AlteredLaws.{put_back}
use Rattle.mx_space.proofs.HeldLaws.{space_with_index}
use Rattle.mx_entries.proofs.KeptLaws.{nothing_stored}
use Rattle.mx_space.proofs.SpaceLaws.{primary_long, space_same}
use Rattle.mx_space.proofs.space.Space.add_index.Goals as goal

pub returns-in_err-index-clause-builds : goal.returns-in_err-index-clause-builds
returns-in_err-index-clause-builds c = λ was all stores none first.
    let whole = primary_long was c.args.self.now all stores in
    let why = c.in_err-index.ensures all whole.0 stores.holds.keeps none (λ other. whole.1 (first other)) in
    let p = err_from_is_err_and c.from_residual.result c.from_residual.ensures.1 in
    rw (p.1, p.2) why

pub returns-in-Err-clause-err : goal.returns-in-Err-clause-err
returns-in-Err-clause-err c = λ was all stores.
    let within : c.place_behind-place.result ≤ length c.args.self.now.indexes.items =
    subst (λ n. c.place_behind-place.result ≤ n) (ap length c.as_slice.ensures ∙ sym (AllZip-long _ _ _ stores.indexes)) c.place_behind-place.ensures.bound in
    let after : Space = record { schema = record { def = c.args.self.now.schema.def; indexes = c.insert.new.self }; tuples = c.args.self.now.tuples; indexes = c.remove_index.new.indexes } in
    space_same was c.args.self.now after all stores (ap (λ defs. record { def = c.args.self.now.schema.def; indexes = defs }) c.in-Err.ensures.err) refl
    (c.remove_index.ensures ∙ ap (λ l. remove l c.place_behind-place.result) (c.in_ok-insert_index.ensures.ok within)
    ∙ put_back c.args.self.now.indexes.items c.place_behind-place.result c.in_ok-index.index within)

pub returns-else-is_primary-clause-builds : goal.returns-else-is_primary-clause-builds
returns-else-is_primary-clause-builds c = λ was all stores none first.
    let within : c.place_behind-place.result ≤ length c.args.self.now.indexes.items =
    subst (λ n. c.place_behind-place.result ≤ n) (ap length c.as_slice.ensures ∙ sym (AllZip-long _ _ _ stores.indexes)) c.place_behind-place.ensures.bound in
    let def = c.args.def in
    let whole = primary_long was c.args.self.now all stores in
    let made = c.in_ok-index.ensures all whole.0 stores.holds.keeps none (λ other. whole.1 (first other)) in
    let after : Space = record { schema = record { def = c.args.self.now.schema.def; indexes = c.insert.new.self }; tuples = c.args.self.now.tuples; indexes = c.insert_index.new.indexes } in (
      made.0,
      space_with_index was c.args.self.now after all stores refl def none (ap (λ defs. record { def = c.args.self.now.schema.def; indexes = defs }) c.in_default.ensures.ok)
          c.in_ok-index.index made.1 c.place_behind-place.result (c.place_behind-place.ensures.place ∙ ap (index_place def.id.0) c.as_slice.ensures)
          (c.in_ok-insert_index.ensures.ok within),
    )

pub returns-then-is_primary-clause-builds : goal.returns-then-is_primary-clause-builds
returns-then-is_primary-clause-builds c = λ was all stores none first.
    let within : c.place_behind-place.result ≤ length c.args.self.now.indexes.items =
    subst (λ n. c.place_behind-place.result ≤ n) (ap length c.as_slice.ensures ∙ sym (AllZip-long _ _ _ stores.indexes)) c.place_behind-place.ensures.bound in
    let def = c.args.def in
    let whole = primary_long was c.args.self.now all stores in
    let made = c.in_ok-index.ensures all whole.0 stores.holds.keeps none (λ other. whole.1 (first other)) in
    let after : Space = record { schema = record { def = c.args.self.now.schema.def; indexes = c.insert.new.self }; tuples = c.new.result; indexes = c.insert_index.new.indexes } in
    let same = c.new.ensures.empty ∙ sym (nothing_stored c.args.self.now.tuples.entries all stores.holds.keeps (none c.if-is_primary.true)) in (
      made.0,
      space_with_index was c.args.self.now after all stores same def none (ap (λ defs. record { def = c.args.self.now.schema.def; indexes = defs }) c.in_default.ensures.ok)
          c.in_ok-index.index made.1 c.place_behind-place.result (c.place_behind-place.ensures.place ∙ ap (index_place def.id.0) c.as_slice.ensures)
          (c.in_ok-insert_index.ensures.ok within),
    )
