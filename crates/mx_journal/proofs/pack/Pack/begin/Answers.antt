use Rattle.std.proofs.Common.{◌+◌, take, drop, length, ap, ◌∙◌, arith}
use Rattle.std.proofs.lemmas.List.{nil_from_length}
use Rattle.std.proofs.lemmas.Result.{err_from_is_err_and}
use Rattle.mx_xlog.specs.Blocks.{head_size}
use Rattle.mx_row.specs.Rows.{transaction_text}
use Rattle.mx_journal.specs.Groups.{whole_text}
use Rattle.mx_journal.specs.Packing.{parts_of}
use Rattle.mx_journal.proofs.PackLaws.{LastEnded, begun_may, block_begun, block_ended, has_room, none_ended, transaction_data}
use Rattle.mx_journal.proofs.pack.Pack.begin.Goals as goal
use Rattle.mx_journal.proofs.pack.Pack.begin.Goals.{After-append_begun, then-before-gt0, else-before-gt0}

-- the last block is ended, where there is one
ended : (c : After-append_begun)
    → LastEnded c.self.inside.last c.self.inside.bytes c.if-before-gt0.self-inside.last c.if-before-gt0.self-inside.bytes
ended c =
    let parts = c.self.inside in
    elim c.if-before-gt0.branch [
      | then-before-gt0 w ↦
          rw w.self-inside-is
          (block_ended parts.last parts.bytes w.end_block.new.out c.self.invariant
          (λ none. omega (arith, ap length none, c.len-before.ensures, w.if-before-gt0.true)) w.end_block.ensures)
      | else-before-gt0 w ↦
          rw w.self-inside-is
          (none_ended parts.last parts.bytes (nil_from_length parts.bytes (omega (arith, c.len-before.ensures, w.if-before-gt0.false))))
    ]

pub end_block-requires : goal.end_block-requires
end_block-requires c =
    let parts = c.self.inside in (
      take parts.last parts.bytes,
      drop (parts.last + head_size) parts.bytes,
      has_room parts.last parts.bytes c.self.invariant (λ none. omega (arith, ap length none, c.len-before.ensures, c.if-before-gt0.true)),
    )

pub invariant_of-self : goal.invariant_of-self
invariant_of-self c = rw c.in_err-append_begun.ensures (ended (goal.at.invariant_of-self c).After-append_begun).may

pub returns-in_err-append_begun-clause-err : goal.returns-in_err-append_begun-clause-err
returns-in_err-append_begun-clause-err c =
    let failed = err_from_is_err_and c.from_residual.result c.from_residual.ensures.1 in
    rw failed.1
    (ap (parts_of c.if-before-gt0.self-inside.last) c.in_err-append_begun.ensures
    ∙ (ended (goal.at.returns-in_err-append_begun-clause-err c).After-append_begun).parts ∙ c.self.view_is)

pub invariant_of-self-2 : goal.invariant_of-self-2
invariant_of-self-2 c =
    let parts = c.self.inside in
    let after = c.if-before-gt0.self-inside in
    rw c.len-before.ensures
    (begun_may parts.last parts.bytes after.last after.bytes (transaction_text c.args.tx.now) c.append_begun.new.out
    (ended (goal.at.invariant_of-self-2 c).After-append_begun) c.in_ok-append_begun.ensures (transaction_data c.args.tx.now c.requires.sound))

pub returns-clause-begun : goal.returns-clause-begun
returns-clause-begun c =
    let parts = c.self.inside in
    let after = c.if-before-gt0.self-inside in
    ap (λ last. parts_of last c.append_begun.new.out) c.len-before.ensures
    ∙ block_begun parts.last parts.bytes after.last after.bytes (transaction_text c.args.tx.now) c.append_begun.new.out
    (ended (goal.at.returns-clause-begun c).After-append_begun) c.in_ok-append_begun.ensures
    ∙ ap (λ pack. record { blocks = whole_text pack; rows = transaction_text c.args.tx.now }) c.self.view_is
