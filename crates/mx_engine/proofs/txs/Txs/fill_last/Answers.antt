use Rattle.std.proofs.Common.{◌≡◌, ◌<◌, false, true, [], ◌∷◌, length, ap, ◌∙◌, arith}
use Rattle.std.proofs.lemmas.List.{length-append}
use Rattle.mx_engine.proofs.TxsLaws.{last_given}
use Rattle.mx_engine.proofs.txs.Txs.fill_last.Goals.{in-Some, in_default}
use Rattle.mx_engine.proofs.txs.Txs.fill_last.Goals as goal

pub returns : goal.returns
returns c = λ prefix last is. elim c.match-last_mut.branch [
  | in-Some w ↦
      ap (λ inside. inside.items.items) w.self-inside-is
      ∙ last_given c.self.inside.items.items prefix last (c.self.view_is ∙ is) c.self.inside.items.len c.self.inside.items.ok.0 w.in-Some.last.now c.args.rows w.in-Some.ensures.item.1
  | in_default w ↦
      let count = c.self.inside.items.ok.0 ∙ ap length (c.self.view_is ∙ is) ∙ length-append prefix (last ∷ []) in
      let some : 0 < c.self.inside.items.len = omega (arith, count) in
      let wrong : false ≡ true = w.in_default.ensures.variant.1 some in absurd cc
]
