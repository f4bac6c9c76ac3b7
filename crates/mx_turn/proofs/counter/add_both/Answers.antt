use Rattle.std.proofs.Common.{true, sym, ap, ◌∙◌, subst}
use denote.Param.Send.{sendable, arg_send, param_send}
use denote.Exit.{yes}
use Rattle.mx_turn.specs.Views.{IsWhole, after_look, after_split, part_view}
use Rattle.mx_turn.specs.Counting.{HasCounted, HasAll}
use Rattle.mx_turn.proofs.Crossing.{captures_send}
use Rattle.mx_turn.proofs.CountingLaws.{has_all}
use Rattle.mx_turn.proofs.counter.add_both.Lts as lts
use Rattle.mx_turn.proofs.counter.add_both.Goals as goal

pub join-seat-requires-send-F : goal.join-seat-requires-send-F
join-seat-requires-send-F g c κs within = param_send 1 (lts.arg-1-1 g.row.R g.R.laws g.R.Threads-dict g.R.Wait-dict κs) (arg_send _ yes _ (captures_send _ _ g.row.R _ (search (sendable, c.type_bounds.sync-R))))

pub returns-clause-all : goal.returns-clause-all
returns-clause-all g c = let seen = c.front.ensures.seen in let both = c.join-seat.ensures in let fresh = c.requires.fresh in let base = c.args.seat.me.0.base in
    let left = ap (λ m. m.0) c.split-other.ensures.view ∙ ap (λ m. after_split m.0) fresh in let right = ap (λ m. m.0) c.split-other.ensures.new_view ∙ ap (λ m. part_view m.0) fresh in
    let view = ap (λ m. m.0) seen.view ∙ ap (λ m. after_look seen.since m.0) c.join.ensures.view in
    subst (HasAll c.args.first c.args.second) (sym view)
    (has_all base c.args.first c.args.second c.join-seat.result.0.me.0 c.join-seat.result.1.me.0 seen.since (subst (λ v. HasCounted c.args.first.amount c.args.first.times v c.join-seat.result.0.me.0) left both.first.2)
    (subst (λ v. HasCounted c.args.second.amount c.args.second.times v c.join-seat.result.1.me.0) right both.second.2) c.join.ensures.one (subst (IsWhole (λ _. true)) view seen.whole))
