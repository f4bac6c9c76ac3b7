use Rattle.std.proofs.Common.{◌≡◌, true, false, ◌++◌, inl, sym, ap, ◌∙◌, subst, true≢false}
use Rattle.std.specs.Prelude.{is_some}
use Rattle.std.specs.FinMap.{get}
use Rattle.mx_key.specs.Comparable.{comparable_of}
use Rattle.mx_key.specs.Keys.{AreFit}
use Rattle.mx_schema.specs.Picks.{tuples_by_index}
use Rattle.mx_schema.specs.State.{key_or_none}
use Rattle.mx_schema.proofs.StoredLaws.{fit_joined, keys_joined}
use Rattle.mx_entries.specs.Entries.{with_entry}
use Rattle.mx_entries.specs.KeptKeys.{kept_key}
use Rattle.mx_entries.proofs.BuildLaws.{is_duplicate, no_row_fault, one_built}
use Rattle.mx_space.proofs.build.add_row.Goals as goal
use Rattle.mx_space.proofs.build.add_row.Goals.{else-def-via-then-def+else-has_key, else-def-via-else-def}

pub returns-then-has_key : goal.returns-then-has_key
returns-then-has_key c = λ before long own built other absent is_long fit is.
    let k = rw c.as_slice.ensures at c.in_ok-key.ensures in
    inl (is_duplicate c.args.def.now long before c.args.index.now built other c.args.tuple.now k.0 k.1 c.if-def.true
    (sym c.if-has_key.true ∙ c.has_key.ensures c.args.def.now before long k.0 built other c.if-def.true k.2 k.3))

pub returns : goal.returns
returns c = λ before long own built other absent is_long fit is.
    let k = rw c.as_slice.ensures at c.in_ok-key.ensures in
    let def = c.args.def.now in
    let tuple = c.args.tuple.now in
    let parts = ap key_or_none k.1 in
    let new : def.unique ≡ true → false ≡ is_some (get (tuples_by_index def before) k.0) = elim c.else-def.branch [
      | else-def-via-then-def+else-has_key w ↦ λ unique. sym w.if-has_key.false ∙ w.has_key.ensures def before long k.0 built other unique k.2 k.3
      | else-def-via-else-def w ↦ λ unique. absurd (true≢false (sym unique ∙ w.if-def.false))
    ] in
    let key : c.extend_from_slice.new.self ≡ comparable_of (kept_key def own tuple) =
    c.in_ok-extend_from_slice.ensures ∙ (λ i. k.3 i ++ (c.as_slice-2.ensures ∙ is) i) ∙ sym (keys_joined k.0 own) ∙ ap (λ p. comparable_of (p ++ own)) (sym parts) in
    let its_own : c.as_slice-3.result.now ≡ comparable_of own = c.as_slice-3.ensures ∙ is in (
      no_row_fault def long before c.args.index.now built other own absent is_long tuple k.0 k.1 new,
      one_built def long before c.args.index.now built other own absent is_long tuple k.0 k.1 new
          (subst (λ p. AreFit (p ++ own)) (sym parts) (fit_joined k.0 own k.2 fit)) c.insert.new.self
          (c.in_ok-insert.ensures.ok ∙ (λ i. with_entry (key i) (its_own i) c.args.index.now)),
    )
