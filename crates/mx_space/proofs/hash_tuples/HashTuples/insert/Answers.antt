use Rattle.std.proofs.Common.{ap, ◌∙◌}
use Rattle.std.specs.BTreeMap.{insert_entry, is_at}
use Rattle.std.specs.Cmp.Lexicographic.{slice_cmp}
use Rattle.std.specs.Map.{keys_of, lookup}
use Rattle.std.specs.Ordering.{nat_cmp}
use Rattle.mx_space.proofs.FirstTupleLaws.{keys_stay, looked_up, put_in}
use Rattle.mx_space.proofs.hash_tuples.HashTuples.insert.Goals as goal

pub returns-clause-old : goal.returns-clause-old
returns-clause-old c =
    c.in_ok-old.ensures.old ∙ looked_up c.self.inside.tuples.entries c.args.key
    ∙ ap (λ t. lookup (is_at (slice_cmp nat_cmp c.args.key)) t.entries) c.self.view_is

pub returns-clause-ok : goal.returns-clause-ok
returns-clause-ok c =
    put_in c.self.inside.tuples c.insert.new.self c.args.key c.args.tuple c.in_ok-old.ensures.updates
    ∙ ap (λ t. insert_entry (slice_cmp nat_cmp) t.entries c.args.key c.args.tuple) c.self.view_is

pub returns-clause-keys_stay : goal.returns-clause-keys_stay
returns-clause-keys_stay c = λ there.
    keys_stay c.self.inside.tuples c.insert.new.self c.args.key c.in_ok-old.old c.args.tuple c.in_ok-old.ensures.old there c.in_ok-old.ensures.updates
    ∙ ap (λ t. keys_of t.entries) c.self.view_is
