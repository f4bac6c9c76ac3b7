use Rattle.std.proofs.Common.{arith, ◌≡◌, ◌<◌, Some, None, length, sym, ap, ◌∙◌, subst}
use Rattle.std.specs.Prelude.{◌==◌}
use Rattle.std.specs.List.{find}
use Rattle.mx_transactions.specs.declared.names.Named.{Named}
use Rattle.mx_transactions.specs.Open.{Open, slot_named}
use Rattle.mx_transactions.proofs.EndLaws.{all_left, all_read, first_of, none_left, none_unread, one_left}
use Rattle.mx_transactions.proofs.TableLaws.{ended, others_of}
use Rattle.mx_transactions.proofs.open.OpenTransactions.leave.Goals as goal

pub loop-named-init : goal.loop-named-init
loop-named-init c = record {
  left = λ streams holds. none_left c.args.connection.0 streams c.args.self.now holds;
  kept = λ commits one is. is;
  trimmed = λ trimmed. trimmed;
  unread = all_read c.args.self.now;
}

pub end-requires : goal.end-requires
end-requires c =
    let first = first_of c.args.connection.0 c.self.inside.names c.in-Some.named (sym c.find_of.ensures ∙ c.in-Some.is) in
    subst (λ (all : Open). slot_named c.in-Some.named.name all.names ≡ Some c.in-Some.named.slot) c.self.view_is first.slot

pub loop-named-smaller : goal.loop-named-smaller
loop-named-smaller c =
    let names = c.self.inside.names in
    let first = first_of c.args.connection.0 names c.in-Some.named (sym c.find_of.ensures ∙ c.in-Some.is) in
    let fewer = (ended c.in-Some.named.name names c.in-Some.named.slot c.self.invariant.apart first.slot).count in
    let before : length names ≡ length c.loop-named.self.names = ap (λ (all : Open). length all.names) c.self.view_is in
    let after = ap length c.end.ensures.names ∙ ap (λ (all : Open). length (others_of c.in-Some.named.name all.names)) (sym c.self.view_is) in
    let smaller : length c.end.new.self.names < length c.loop-named.self.names = omega (arith, fewer, before, after) in smaller

pub loop-named-preserved : goal.loop-named-preserved
loop-named-preserved c =
    let first = first_of c.args.connection.0 c.self.inside.names c.in-Some.named (sym c.find_of.ensures ∙ c.in-Some.is) in
    let ends = c.end.ensures in
    record {
      left = λ streams holds. one_left c.args.connection.0 streams _ _ c.in-Some.named.name first.of ends.left (c.loop-named.invariant.left streams holds);
      kept = λ commits one is. c.loop-named.invariant.kept commits one (ends.kept commits one is);
      trimmed = λ trimmed. ends.trimmed;
      unread = none_unread c.args.self.now c.loop-named.self c.end.new.self c.in-Some.named.slot ends.slots ends.kept ends.unread c.loop-named.invariant.unread;
    }

pub returns-clause-left : goal.returns-clause-left
returns-clause-left c = λ streams holds.
    all_left c.args.connection.0 streams _ (c.loop-named.invariant.left streams holds)
    (subst (λ (all : Open). find (λ (one : Named). one.name.conn.0 == c.args.connection.0) all.names ≡ None) c.self.view_is (sym c.find_of.ensures ∙ c.in_default.is))

pub returns-clause-kept : goal.returns-clause-kept
returns-clause-kept c = c.loop-named.invariant.kept

pub returns-clause-trimmed : goal.returns-clause-trimmed
returns-clause-trimmed c = c.loop-named.invariant.trimmed

pub returns-clause-unread : goal.returns-clause-unread
returns-clause-unread c = c.loop-named.invariant.unread
