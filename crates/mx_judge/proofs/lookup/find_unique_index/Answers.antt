use Rattle.std.proofs.Common.{◌≡◌, true, ap, ◌∙◌, eqb-true}
use Rattle.std.specs.Prelude.{◌==◌, ◌||◌}
use Rattle.mx_schema.specs.Catalogues.{index_with}
use Rattle.mx_schema.specs.declared.index_def.IndexDef.{IndexDef}
use Rattle.mx_write.specs.Lookup.{is_unique}
use Rattle.mx_judge.proofs.EntryStageLaws.{unique_is}
use Rattle.mx_write.proofs.UniqueLaws.{number_is}
use Rattle.mx_judge.proofs.lookup.find_unique_index.Goals as goal
use Rattle.mx_judge.proofs.lookup.find_unique_index.Goals.{then-def-eq0-via-then-def-eq0, then-def-eq0-via-else-def-eq0+then-def}

first_is : (def : IndexDef) → def.id.0 ≡ 0 → is_unique def ≡ true
first_is def zero = ap (λ n. (n == 0) || def.unique) zero

pub returns-then-def-eq0-clause-found : goal.returns-then-def-eq0-clause-found
returns-then-def-eq0-clause-found c =
    let def = c.in_ok-def.def.now in
    let indexes = c.args.schema.now.indexes in
    let there = c.in_ok-def.ensures in
    let unique : is_unique def ≡ true = elim c.then-def-eq0.branch [
      | then-def-eq0-via-then-def-eq0 w ↦ first_is def w.if-def-eq0.true
      | then-def-eq0-via-else-def-eq0+then-def w ↦ unique_is def w.if-def.true
    ] in
    (ap (λ n. index_with n indexes) (eqb-true def.id.0 c.args.index.0 (number_is c.args.index.0 indexes def there)) ∙ there, unique)
