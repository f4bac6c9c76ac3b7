use Rattle.std.proofs.Common.{sym, ap, subst}
use Rattle.mx_schema.specs.Stored.{StoresTuples}
use Rattle.mx_schema.proofs.PartLaws.{own_whole}
use Rattle.mx_space.proofs.view_select.select_stored.Goals as goal

pub returns-then-def-eq0 : goal.returns-then-def-eq0
returns-then-def-eq0 c = λ schema all long stores whole there have one_each.
    c.select_from.ensures all (subst (λ s. StoresTuples s all) (sym (ap (λ t. t.entries) c.tuples.ensures)) stores.holds.keeps)
    (λ own first. own_whole c.args.space.now.schema all c.args.def.now stores.holds.stands there first)

pub returns : goal.returns
returns c = λ schema all long stores whole there have one_each.
    c.select.ensures schema all long stores whole there c.if-def-eq0.false have one_each
