use Rattle.mx_judge.proofs.scope.Scope.judge.Goals as goal

pub returns-in_ok-insert-in-Insert-clause-judges : goal.returns-in_ok-insert-in-Insert-clause-judges
returns-in_ok-insert-in-Insert-clause-judges c = λ before sees. rw c.in-Insert.is (c.in_ok-insert-in-Insert.ensures.judges before sees)

pub returns-in_ok-replace-in-Replace-clause-judges : goal.returns-in_ok-replace-in-Replace-clause-judges
returns-in_ok-replace-in-Replace-clause-judges c = λ before sees. rw c.in-Replace.is (c.in_ok-replace-in-Replace.ensures.judges before sees)

pub returns-in_ok-upsert-in-Upsert-clause-judges : goal.returns-in_ok-upsert-in-Upsert-clause-judges
returns-in_ok-upsert-in-Upsert-clause-judges c = λ before sees. rw c.in-Upsert.is (c.in_ok-upsert-in-Upsert.ensures.judges before sees)
