use Rattle.std.proofs.Common.{ne_eqb, sym, ◌∙◌, subst}
use Rattle.std.proofs.lemmas.Result.{MatchResult-weaker}
use Rattle.mx_schema.specs.State.{Tuples}
use Rattle.mx_schema.specs.Stored.{StoresTuples}
use Rattle.mx_entries.specs.KeptEntries.{StoresByNumber, StoresIndex}
use Rattle.mx_entries.proofs.AlteredLaws.{none_at_fault}
use Rattle.mx_entries.proofs.KeptLaws.{nothing_kept}
use Rattle.mx_space.proofs.build.new_entries.Goals as goal

pub returns-then-def-eq0 : goal.returns-then-def-eq0
returns-then-def-eq0 c = λ all long stores none whole.
    let def = c.args.def.now in
    let empty_all = none c.if-def-eq0.true in
    (none_at_fault def all empty_all, subst (λ (t : Tuples). StoresIndex t def c.new.result) (sym empty_all) (nothing_kept def c.new.result c.new.ensures))

pub returns : goal.returns
returns c = λ all long stores none whole.
    let def = c.args.def.now in
    let other = ne_eqb def.id.0 0 c.if-def-eq0.false in
    MatchResult-weaker c.build.result (c.build.ensures all long (subst (λ kept. StoresTuples kept all) (sym (c.as_map.ensures ∙ c.in_ok-ordered.ensures)) stores) (whole c.if-def-eq0.false) other)
    (λ index made. (made.0, subst (λ b. StoresByNumber b def all index) (sym other) made.1)) (λ why said. said)
