use Rattle.std.proofs.Common.{true, false, List, ◌++◌, sym, ap, ◌∙◌, append-nil}
use Rattle.std.specs.Prelude.{ℕ}
use Rattle.mx_key.specs.Comparable.{comparable_of}
use Rattle.mx_schema.specs.State.{key_in, key_or_none}
use Rattle.mx_schema.proofs.StoredLaws.{index_key_is}
use Rattle.mx_judge.proofs.touched.entry_key.Goals as goal

pub returns-then-def : goal.returns-then-def
returns-then-def c = λ first fit is.
    let def = c.args.def.now in
    let tuple = c.args.tuple.now in
    index_key_is def first tuple c.in_ok-key.key true c.if-def.true c.in_ok-key.ensures.1 fit
    (c.in_ok-key.ensures.0 ∙ sym (append-nil (comparable_of (key_or_none (key_in def.key tuple)))))

pub returns : goal.returns
returns c = λ first fit is.
    let def = c.args.def.now in
    let tuple = c.args.tuple.now in
    let parts = comparable_of (key_or_none (key_in def.key tuple)) in
    index_key_is def first tuple c.extend_from_slice.new.self false c.if-def.false c.in_ok-key.ensures.1 fit
    (c.in_ok-extend_from_slice.ensures ∙ ap (λ (k : List ℕ). k ++ c.args.primary.now) c.in_ok-key.ensures.0 ∙ ap (λ (l : List ℕ). parts ++ l) is)
