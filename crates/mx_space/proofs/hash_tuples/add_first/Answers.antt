use Rattle.std.proofs.Common.{◌≡◌, length, arith, ap, ◌∙◌, subst}
use Rattle.std.specs.BTreeMap.{insert_entry}
use Rattle.std.specs.Cmp.Lexicographic.{slice_cmp}
use Rattle.std.specs.List.{AllByRecursion}
use Rattle.std.specs.Ordering.{nat_cmp}
use Rattle.std.specs.declared.cmp.Ordering.TheVariants.{Greater}
use Rattle.mx_schema.specs.Stored.{StoredTuple}
use Rattle.mx_space.proofs.FirstTupleLaws.{few_with, first_stay, popped}
use Rattle.mx_space.proofs.hash_tuples.add_first.Goals as goal

pub returns-then-is_above-clause-first : goal.returns-then-is_above-clause-first
returns-then-is_above-clause-first c = λ all are.
    let key = c.args.key.now in
    let long = ap length are in
    are
    ∙ first_stay key c.args.tuple.now c.args.count all (omega (arith, c.if-len-count.true, c.len.ensures.len, long))
    (subst (AllByRecursion (λ (entry : StoredTuple). slice_cmp nat_cmp key entry.0 ≡ Greater)) are (c.is_above.ensures.0 c.if-is_above.true))

pub returns-then-len-count-2-clause-first : goal.returns-then-len-count-2-clause-first
returns-then-len-count-2-clause-first c = λ all are.
    let added = c.in_ok-set_entry.ensures
    ∙ (λ i. insert_entry (slice_cmp nat_cmp) c.args.first.now.entries (c.in_ok-clone.ensures.cases i) (c.in_ok-clone-2.ensures.cases i)) in
    popped c.args.key.now c.args.tuple.now c.args.count c.args.first.now.entries all are c.pop_last.result c.set_entry-2.new.entries.entries c.pop_last.new.self.entries added
    c.pop_last.ensures.variant.1 c.pop_last.ensures.removal (omega (arith, c.if-len-count-2.true, c.len-2.ensures.len))

pub returns-else-len-count-2-clause-first : goal.returns-else-len-count-2-clause-first
returns-else-len-count-2-clause-first c = λ all are.
    let added = c.in_ok-set_entry.ensures
    ∙ (λ i. insert_entry (slice_cmp nat_cmp) c.args.first.now.entries (c.in_ok-clone.ensures.cases i) (c.in_ok-clone-2.ensures.cases i)) in
    few_with c.args.key.now c.args.tuple.now c.args.count c.args.first.now.entries all are c.set_entry-2.new.entries.entries added
    (omega (arith, c.if-len-count-2.false, c.len-2.ensures.len))
