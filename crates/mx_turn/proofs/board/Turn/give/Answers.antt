use Rattle.std.proofs.Common.{rules, ◌≡◌, true, Some, ◌∷◌, sym, refl, ap, ◌∙◌, subst}
use Rattle.atomic_table.specs.Table.{rest}
use Rattle.mx_turn.proofs.CallLaws.{gives_held}
use Rattle.mx_turn.proofs.board.Turn.give.Goals as goal

pub fetch_add-word-requires : goal.fetch_add-word-requires
fetch_add-word-requires g c = (
  search rules,
  search rules,
  gives_held _ g.T.Logged.stands g.T.Logged.is_alone g.T.Logged.is_call _ _ g.T.Logged.entry_of _ _ c.args.seat.now.me.0 _ record { value = c.args.held.value; note = Some c.of.result } c.of.result
      (c.exchange.ensures.3 ∙ ap (λ l. (c.args.seat.now.me.0, (0, Some record { value = c.args.held.value; note = Some c.of.result }) ∷ rest l)) c.requires.holding.1) c.requires.holding.0 c.requires.holding.2 refl
      (subst (λ z. g.T.Logged.stands c.args.seat.now.me.0.base c.args.held.value (g.T.Logged.entry_of z ∷ c.args.seat.now.me.0.seen)) (sym c.of.ensures) c.requires.stands)
      (subst (λ z. g.T.Logged.is_alone (g.T.Logged.entry_of z) ≡ true → c.args.seat.now.me.0.first ≡ true) (sym c.of.ensures) c.requires.alone),
)
