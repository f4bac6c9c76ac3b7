use Rattle.std.proofs.Common.{rules, ◌≡◌, true, false, ◌++◌, sym, ap, ◌∙◌, append-nil}
use Rattle.mx_key.specs.Comparable.{comparable_of}
use Rattle.mx_schema.specs.State.{key_in, key_or_none}
use Rattle.mx_schema.proofs.StoredLaws.{index_key_is}
use Rattle.mx_schema.proofs.keyed.index_tuple.Goals as goal
use Rattle.mx_schema.proofs.keyed.index_tuple.Goals.{then-not-def+in_ok-extend_from_slice, else-not-def}

pub returns : goal.returns
returns c = λ first fit is.
    let def = c.args.def.now in
    let tuple = c.args.tuple.now in
    let parts = comparable_of (key_or_none (key_in def.key tuple)) in
    elim c.if-not-def.branch [
      | then-not-def+in_ok-extend_from_slice w ↦
          let test : def.unique ≡ false = search rules in
          let all = index_key_is def first tuple c.if-not-def.key false test c.in_ok-key.ensures.1 fit
          (w.key-is ∙ w.in_ok-extend_from_slice.ensures ∙ ap (λ k. k ++ c.args.primary.now) c.in_ok-key.ensures.0 ∙ ap (λ l. parts ++ l) is) in
          (all.0, all.1, c.in_ok-tuple.ensures)
      | else-not-def w ↦
          let test : def.unique ≡ true = search rules in
          let all = index_key_is def first tuple c.if-not-def.key true test c.in_ok-key.ensures.1 fit
          (w.key-is ∙ c.in_ok-key.ensures.0 ∙ sym (append-nil parts)) in
          (all.0, all.1, c.in_ok-tuple.ensures)
    ]
