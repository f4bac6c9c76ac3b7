use Rattle.std.proofs.Common.{rules, sym}
use denote.Enum.Bare.{same_true, same_false}
use Rattle.mx_completion.specs.contracts.leading.Kind.{the_type}
use Rattle.mx_completion.proofs.KindLaws.{kind_empty, kind_none, kind_differs, kind_same}
use Rattle.mx_completion.proofs.value.kind_completion.Goals as goal

pub returns-in_default : goal.returns-in_default
returns-in_default c = kind_empty c.args.kind c.args.room c.args.bytes.now c.requires.asked (search rules)

pub returns-in_default-leading_of : goal.returns-in_default-leading_of
returns-in_default-leading_of c =
    kind_none c.args.kind c.args.room c.in-Some.byte.now c.args.bytes.now c.requires.asked (search rules) (search rules)
    (sym c.in_default-leading_of.ensures.exact)

pub returns-then-eq : goal.returns-then-eq
returns-then-eq c =
    kind_same c.args.kind c.args.room c.in-Some.byte.now c.args.bytes.now c.requires.asked (search rules) (search rules)
    c.in-Some-leading_of.leading (sym c.in-Some-leading_of.ensures.exact) c.completed.result
    (same_true the_type (search rules) _ _ (sym c.if-eq.ensures)) c.completed.ensures.exact

pub returns-else-eq : goal.returns-else-eq
returns-else-eq c =
    kind_differs c.args.kind c.args.room c.in-Some.byte.now c.args.bytes.now c.requires.asked (search rules) (search rules)
    c.in-Some-leading_of.leading (sym c.in-Some-leading_of.ensures.exact) (same_false the_type _ _ (sym c.if-eq.ensures))
