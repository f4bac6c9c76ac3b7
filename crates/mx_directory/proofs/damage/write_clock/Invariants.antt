use Rattle.std.proofs.Common.{ℕ, List}
use Rattle.std.specs.Fmt.{HasWritten, IsPlainFormatter}
use denote.Text.{Utf8}
use denote.Shadow.{shadow}
use Rattle.mx_directory.proofs.DamageLaws.{Begins}
use Rattle.mx_directory.proofs.damage.write_clock.Given as goal

abbrev pub invariant-loop-id : goal.invariant-loop-id
invariant-loop-id g l = record {
  utf8 : shadow (Utf8 l.between);
  written : IsPlainFormatter l.fn.f → (text : List ℕ) × HasWritten g.W.Write.write_str_gives l.fn.f text l.f × Begins text l.between l.id-counter l.clock;
}
