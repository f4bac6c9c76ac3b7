use Rattle.mx_judge.proofs.touched.push_tuple.Goals as goal

pub returns-in-Some-clause-adds : goal.returns-in-Some-clause-adds
returns-in-Some-clause-adds c = λ seen key sound described fit bytes. rw c.in-Some.is (c.push_keys.ensures.adds seen key sound described fit bytes)
