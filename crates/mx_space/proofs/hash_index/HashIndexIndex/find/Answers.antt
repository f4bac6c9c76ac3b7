use Rattle.std.proofs.Common.{◌++◌, drop, Some, None, sym, ap, ◌∙◌, subst}
use Rattle.std.specs.Prelude.{nat_eq}
use Rattle.std.specs.Cmp.Lexicographic.{slice_cmp}
use Rattle.std.specs.Map.{lookup}
use Rattle.std.specs.Option.{option_map}
use Rattle.std.specs.Ordering.{nat_cmp}
use Rattle.std.specs.Str.{bytes_eq}
use Rattle.std.proofs.lemmas.List.{nil_from_length}
use Rattle.mx_entries.specs.Entries.{LeadsOnce, LeadsTo}
use Rattle.mx_space.specs.HashIndexes.{hash_number}
use Rattle.mx_space.proofs.HashFindLaws.{held_leads, none_leads, others_lead}
use Rattle.mx_entries.proofs.IndexedLaws.{not_none}
use Rattle.mx_entries.proofs.SortedLaws.{ascending}
use Rattle.mx_space.proofs.hash_index.HashIndexIndex.find.Goals as goal

pub returns-in-Some-clause-primary : goal.returns-in-Some-clause-primary
returns-in-Some-clause-primary c = λ once.
    let key = c.args.key.now in
    let parts = c.self.inside.parts in
    let held = c.self.inside.held.entries in
    let others = c.self.inside.others in
    let (entry, found, begun, _, primary) = c.in-Some.ensures in
    let place = c.hash_number.ensures ∙ ap hash_number c.as_slice.ensures in
    let leads = held_leads parts held others c.self.invariant.0 c.self.invariant.1 c.self.invariant.2 key (subst (LeadsOnce key) (sym c.self.view_is) once) entry (ap (λ n. lookup (nat_eq n) held) (sym place) ∙ found) begun in
    subst (λ own. LeadsTo key c.args.self.now (Some own)) (sym primary) (subst (λ all. LeadsTo key all (Some (drop entry.begin entry.key))) c.self.view_is leads)

pub returns-then-len-eq0-clause-primary : goal.returns-then-len-eq0-clause-primary
returns-then-len-eq0-clause-primary c = λ once.
    let key = c.args.key.now in
    let parts = c.self.inside.parts in
    let held = c.self.inside.held.entries in
    let others = c.self.inside.others in
    let place = c.hash_number.ensures ∙ ap hash_number c.as_slice.ensures in
    let empty = nil_from_length others (sym c.len.ensures.len ∙ c.if-len-eq0.true) in
    let leads = none_leads parts held others c.self.invariant.0 c.self.invariant.1 c.self.invariant.2 key
    (λ entry found. c.in_default.ensures entry (ap (λ n. lookup (nat_eq n) held) place ∙ found))
    (λ own there. not_none own (sym there ∙ ap (lookup (bytes_eq (key ++ own))) empty)) in
    subst (λ all. LeadsTo key all None) c.self.view_is leads

pub returns-clause-primary : goal.returns-clause-primary
returns-clause-primary c = λ once.
    let key = c.args.key.now in
    let parts = c.self.inside.parts in
    let held = c.self.inside.held.entries in
    let others = c.self.inside.others in
    let place = c.hash_number.ensures ∙ ap hash_number c.as_slice.ensures in
    let leads = others_lead parts held others c.self.invariant.0 c.self.invariant.1 c.self.invariant.2 key (ascending (slice_cmp nat_cmp) others c.len.ensures.ordered)
    (subst (LeadsOnce key) (sym c.self.view_is) once)
    (λ entry found. c.in_default.ensures entry (ap (λ n. lookup (nat_eq n) held) place ∙ found))
    (λ entry. entry.1.now) c.whole_entry.result c.whole_entry.ensures.primary in
    subst (λ all. LeadsTo key all (option_map (λ entry. entry.1.now) c.whole_entry.result)) c.self.view_is leads
