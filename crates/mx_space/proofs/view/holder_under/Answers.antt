use Rattle.std.proofs.Common.{sym, ap, ◌∙◌}
use Rattle.std.specs.FinMap as finite
use Rattle.std.specs.Option.{option_copied}
use Rattle.mx_entries.specs.OwnWrites.{under}
use Rattle.mx_space.proofs.OverlayLaws.{index_of_own, stores_own}
use Rattle.mx_entries.proofs.SeenLaws.{own_holds, own_one_each}
use Rattle.mx_space.proofs.view.holder_under.Goals as goal

pub returns-in-Some : goal.returns-in-Some
returns-in-Some c = λ schema all written long wanted stores writes whole own_whole there each each_seen apart fit is.
    let def = c.args.def.now in
    let over = c.args.over.now in
    let held = c.in_ok-tuple.ensures schema (under written finite.empty) long wanted (stores_own schema over written c.own.result.now writes c.own.ensures) own_whole
    (index_of_own schema c.args.space.now over all written def.id.0 def c.own.result.now stores writes c.own.ensures there) (own_one_each def written all each_seen) apart fit is in
    own_holds def apart written all each each_seen wanted c.in-Some.tuple.now (sym held ∙ ap option_copied c.in-Some.is)

pub returns-in-None : goal.returns-in-None
returns-in-None c = λ schema all written long wanted stores writes whole own_whole there each each_seen apart fit is.
    let def = c.args.def.now in
    let over = c.args.over.now in
    let held = c.in_ok-tuple.ensures schema (under written finite.empty) long wanted (stores_own schema over written c.own.result.now writes c.own.ensures) own_whole
    (index_of_own schema c.args.space.now over all written def.id.0 def c.own.result.now stores writes c.own.ensures there) (own_one_each def written all each_seen) apart fit is in
    c.shown_holder.ensures schema all written long wanted stores writes whole there each each_seen apart fit is (sym held ∙ ap option_copied c.in-None.is)
