use Rattle.std.proofs.Common.{ap, sym, ◌∙◌, subst}
use Rattle.std.specs.Option.{option_copied, option_map}
use Rattle.mx_entries.specs.Entries.{LeadsTo}
use Rattle.mx_entries.specs.OwnWrites.{IsHolder}
use Rattle.mx_space.proofs.HolderLaws.{leads_once_in, no_index, none_holds_key}
use Rattle.mx_space.proofs.OverlayLaws.{holder_is}
use Rattle.mx_space.proofs.view.holder_key.Goals as goal

pub returns-in_default : goal.returns-in_default
returns-in_default c = λ schema all long wanted stores whole there one_each apart fit is.
    absurd (no_index schema c.args.space.now all c.args.def.now wanted stores long whole there one_each fit apart (option_copied c.index.result) c.index.ensures
    (ap option_copied c.in_default.is))

pub returns-in_default-find : goal.returns-in_default-find
returns-in_default-find c = λ schema all long wanted stores whole there one_each apart fit is.
    let once = leads_once_in schema c.args.space.now all c.args.def.now wanted stores long whole there one_each fit apart (option_copied c.index.result) c.index.ensures
    c.in-Some.index.now (ap option_copied c.in-Some.is) c.args.key.now is in
    none_holds_key schema c.args.space.now all c.args.def.now wanted stores long whole there one_each fit apart (option_copied c.index.result) c.index.ensures
    c.in-Some.index.now (ap option_copied c.in-Some.is) c.args.key.now is
    (subst (LeadsTo c.args.key.now c.in-Some.index.now) (ap (option_map (λ entry. entry.1.now)) c.in_default-find.is) (c.find.ensures.primary once))

pub returns : goal.returns
returns c = λ schema all long wanted stores whole there one_each apart fit is.
    let once = leads_once_in schema c.args.space.now all c.args.def.now wanted stores long whole there one_each fit apart (option_copied c.index.result) c.index.ensures
    c.in-Some.index.now (ap option_copied c.in-Some.is) c.args.key.now is in
    subst (IsHolder c.args.def.now all wanted) (sym c.in_ok-from_slice.ensures)
    (holder_is schema c.args.space.now all c.args.def.now wanted stores long whole there one_each apart fit
    c.in-Some.index.now (ap option_copied (sym c.in-Some.is) ∙ c.index.ensures) c.args.key.now c.in-Some-find.primary.now is
    (subst (LeadsTo c.args.key.now c.in-Some.index.now) (ap (option_map (λ entry. entry.1.now)) c.in-Some-find.is) (c.find.ensures.primary once)))
