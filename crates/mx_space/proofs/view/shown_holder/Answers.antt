use Rattle.std.proofs.Common.{sym, ◌∙◌}
use Rattle.mx_entries.specs.OwnWrites.{IsHolder}
use Rattle.mx_space.proofs.OverlayLaws.{hides_written}
use Rattle.mx_entries.proofs.SeenLaws.{hidden_holder, shown_holder, none_seen}
use Rattle.mx_space.proofs.view.shown_holder.Goals as goal

pub returns-in_default : goal.returns-in_default
returns-in_default c = λ schema all written long wanted stores writes whole there each each_seen apart fit is none.
    none_seen c.args.def.now apart written all each each_seen wanted none (rw c.in_default.is at (c.in_ok-primary.ensures schema all long wanted stores whole there each apart fit is))

pub returns-then-hides : goal.returns-then-hides
returns-then-hides c = λ schema all written long wanted stores writes whole there each each_seen apart fit is none.
    let holder : IsHolder c.args.def.now all wanted c.in-Some.primary = rw c.in-Some.is at (c.in_ok-primary.ensures schema all long wanted stores whole there each apart fit is) in
    let hidden = sym (hides_written schema c.args.over.now written holder.own c.in-Some.primary writes holder.fit holder.is) ∙ sym c.hides.ensures ∙ c.if-hides.true in
    hidden_holder c.args.def.now apart written all each each_seen wanted none c.in-Some.primary holder hidden

pub returns : goal.returns
returns c = λ schema all written long wanted stores writes whole there each each_seen apart fit is none.
    let holder : IsHolder c.args.def.now all wanted c.in-Some.primary = rw c.in-Some.is at (c.in_ok-primary.ensures schema all long wanted stores whole there each apart fit is) in
    let shown = sym (hides_written schema c.args.over.now written holder.own c.in-Some.primary writes holder.fit holder.is) ∙ sym c.hides.ensures ∙ c.if-hides.false in
    c.tuple.ensures all holder.own stores.holds.keeps holder.fit holder.is ∙ shown_holder c.args.def.now apart written all each each_seen wanted none c.in-Some.primary holder shown
