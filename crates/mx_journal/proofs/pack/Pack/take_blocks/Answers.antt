use Rattle.std.proofs.Common.{◌+◌, take, drop, sym, ap, ◌∙◌}
use mathlib.Core.Bool.{true≢false}
use Rattle.mx_xlog.specs.Blocks.{head_size}
use Rattle.mx_journal.specs.Groups.{whole_text}
use Rattle.mx_journal.proofs.PackLaws.{LastEnded, block_ended, has_room, none_ended}
use Rattle.mx_journal.proofs.pack.Pack.take_blocks.Goals as goal
use Rattle.mx_journal.proofs.pack.Pack.take_blocks.Goals.{then-not-is_empty, else-not-is_empty}

pub end_block-requires : goal.end_block-requires
end_block-requires c =
    let parts = c.self.inside in
    let taken = c.replace-blocks.ensures.value in
    rw taken (
      take parts.last parts.bytes,
      drop (parts.last + head_size) parts.bytes,
      has_room parts.last parts.bytes c.self.invariant
          (λ none. true≢false (sym (c.is_empty.ensures.1 (taken ∙ none)) ∙ c.if-not-is_empty.true)),
    )

pub returns-clause-blocks : goal.returns-clause-blocks
returns-clause-blocks c =
    let parts = c.self.inside in
    let taken = c.replace-blocks.ensures.value in
    let ended : LastEnded parts.last parts.bytes parts.last c.if-not-is_empty.blocks = elim c.if-not-is_empty.branch [
      | then-not-is_empty w ↦
          rw w.blocks-is
          (block_ended parts.last parts.bytes w.end_block.new.out c.self.invariant
          (λ none. true≢false (sym (c.is_empty.ensures.1 (taken ∙ none)) ∙ w.if-not-is_empty.true)) (rw taken at w.end_block.ensures))
      | else-not-is_empty w ↦
          rw (w.blocks-is, taken) (none_ended parts.last parts.bytes (sym taken ∙ c.is_empty.ensures.0 w.if-not-is_empty.false))
    ] in
    ended.whole ∙ ap whole_text c.self.view_is
