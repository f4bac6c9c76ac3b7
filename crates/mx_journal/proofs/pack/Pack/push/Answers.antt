use Rattle.std.proofs.Common.{◌≡◌, ◌⊎◌, inl, inr, ◌<◌, [], ◌++◌, length, sym, ap, ◌∙◌}
use Rattle.std.proofs.lemmas.Result.{on_ok_weaker}
use mathlib.Core.Bool.{true≢false}
use Rattle.mx_xlog.specs.Blocks.{max_data_size}
use Rattle.mx_row.specs.Rows.{transaction_text}
use Rattle.mx_journal.specs.Groups.{whole_text}
use Rattle.mx_journal.proofs.PackLaws.{no_rows, pushed_begun, pushed_joined, some_rows}
use Rattle.mx_journal.proofs.pack.Pack.push.Goals as goal
use Rattle.mx_journal.proofs.pack.Pack.push.Goals.{else-not-is_empty-via-then-not-is_empty+in_ok-join+else-branch, else-not-is_empty-via-else-not-is_empty}

pub join-requires-clause-some : goal.join-requires-clause-some
join-requires-clause-some c = λ none.
    some_rows c.self.inside.last c.self.inside.bytes c.self.invariant
    (λ empty. true≢false (sym (c.is_empty.ensures.1 empty) ∙ c.if-not-is_empty.true)) (ap (λ pack. pack.rows) c.self.view_is ∙ none)

pub returns-then-branch-clause-packs : goal.returns-then-branch-clause-packs
returns-then-branch-clause-packs c = λ transactions packs.
    pushed_joined transactions c.args.tx.now c.args.self.now c.join.new.self c.requires.sound packs (rw c.if-branch.true at c.in_ok-join.ensures.joins)

pub returns-clause-packs : goal.returns-clause-packs
returns-clause-packs c = λ transactions packs.
    let before = c.args.self.now in
    let text = transaction_text c.args.tx.now in
    let why : (c.else-not-is_empty.self ≡ before) × ((before.rows ≡ []) ⊎ (max_data_size < length (before.rows ++ text))) =
    elim c.else-not-is_empty.branch [
      | else-not-is_empty-via-then-not-is_empty+in_ok-join+else-branch w ↦
          let over = rw w.if-branch.false at w.in_ok-join.ensures.joins in
          (w.self-is ∙ over.0, inr over.1)
      | else-not-is_empty-via-else-not-is_empty w ↦
          let empty = c.is_empty.ensures.0 w.if-not-is_empty.false in
          (w.self-is, inl (sym (ap (λ pack. pack.rows) c.self.view_is) ∙ no_rows c.self.inside.last c.self.inside.bytes empty))
    ] in
    on_ok_weaker c.begin.result
    (λ begun. pushed_begun transactions c.args.tx.now before c.begin.new.self c.requires.sound packs why.1
    (begun ∙ ap (λ pack. record { blocks = whole_text pack; rows = text }) why.0))
    c.begin.ensures.begun
