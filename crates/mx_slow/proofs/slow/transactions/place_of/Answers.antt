use Rattle.std.proofs.Common.{rules, arith, ◌≡◌, ◌<◌, ◌≤◌, ◌+◌, suc, length, refl, sym, ap, ◌∙◌, subst, get_or}
use Rattle.mx_slow.specs.declared.slow.transactions.SlowTransaction.{SlowTransaction}
use Rattle.mx_slow.specs.Slow.{IsNamedAt}
use Rattle.mx_model.specs.Streams.{is_name}
use Rattle.mx_slow.proofs.SlowNameLaws.{PartFound, here_found, item_there, none_found, none_passed, one_passed, stands_there}
use Rattle.mx_slow.proofs.slow.transactions.place_of.Goals as goal

pub loop-one-init : goal.loop-one-init
loop-one-init c = (refl, λ plain keep. none_passed c.args.name plain)

pub loop-one-preserved : goal.loop-one-preserved
loop-one-preserved c =
    let items = c.args.all.now in
    let item : SlowTransaction = c.one-item.result in
    let place = c.loop-one.one-index in
    let within : place < length items = search rules in
    let is : item ≡ get_or items place item = search rules in
    let (counted, passed) = c.loop-one.invariant in
    let one_more : suc place ≡ place + 1 = omega arith in (
      ap (λ n. n + 1) counted,
      λ plain keep.
          let there = stands_there items plain place keep within in
          subst (PartFound c.args.name plain) one_more
          (one_passed c.args.name plain place there.one (passed plain keep) there.left
          (ap (λ n. is_name n c.args.name) (sym (ap (λ (t : SlowTransaction). t.name) (item_there items place item there.code is there.coded_there) ∙ there.keeps.name)) ∙ sym c.is_name.ensures ∙ c.if-is_name.false)),
    )

pub returns-then-is_name-clause-within : goal.returns-then-is_name-clause-within
returns-then-is_name-clause-within c =
    let within : c.loop-one.one-index < length c.args.all.now = search rules in
    let (counted, passed) = c.loop-one.invariant in
    subst (λ n. n < length c.args.all.now) (sym counted) within

pub returns-then-is_name-clause-named : goal.returns-then-is_name-clause-named
returns-then-is_name-clause-named c = λ plain keep.
    let items = c.args.all.now in
    let item : SlowTransaction = c.one-item.result in
    let place = c.loop-one.one-index in
    let within : place < length items = search rules in
    let is : item ≡ get_or items place item = search rules in
    let (counted, passed) = c.loop-one.invariant in
    let there = stands_there items plain place keep within in (
      there.one,
      subst (λ n. IsNamedAt c.args.name plain n there.one) (sym counted) (here_found c.args.name plain place there.one (passed plain keep) there.left
          (ap (λ n. is_name n c.args.name) (sym (ap (λ (t : SlowTransaction). t.name) (item_there items place item there.code is there.coded_there) ∙ there.keeps.name)) ∙ sym c.is_name.ensures ∙ c.if-is_name.true)),
    )

pub returns-clause-named : goal.returns-clause-named
returns-clause-named c = λ plain keep.
    let (counted, passed) = c.loop-one.invariant in
    let past : length c.args.all.now ≤ c.loop-one.one-index = search (rules, arith) in
    none_found c.args.name c.args.all.now plain c.loop-one.one-index keep past (passed plain keep)
