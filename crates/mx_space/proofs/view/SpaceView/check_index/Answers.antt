use Rattle.std.proofs.Common.{◌≡◌, None, Some, sym, ap, ◌∙◌, subst}
use Rattle.std.specs.Prelude.{◌⊎◌, MatchResult}
use Rattle.std.specs.Option.{option_copied}
use Rattle.mx_schema.specs.State.{Tuples}
use Rattle.mx_entries.specs.declared.build_fault.BuildFault.TheVariants.{NoMemory}
use Rattle.mx_entries.specs.Builds.{build_fault}
use Rattle.mx_space.proofs.OverlayLaws.{no_writes}
use Rattle.mx_space.proofs.view.SpaceView.check_index.Goals as goal

pub returns : goal.returns
returns c = λ schema tuples shows none first others.
    let def = c.args.def.now in
    let same : tuples ≡ shows.all = shows.is ∙ no_writes shows.all shows.written (option_copied c.args.self.over) schema shows.sees.over (ap option_copied none) in
    subst (λ (t : Tuples). MatchResult c.check_index.result (λ _. build_fault def t ≡ None) (λ why. (build_fault def t ≡ Some why) ⊎ (why ≡ NoMemory))) (sym same)
    (c.check_index.ensures schema shows.all shows.sees.state (λ zero. sym same ∙ first zero) others)
