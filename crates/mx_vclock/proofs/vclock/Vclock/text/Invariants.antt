use Rattle.std.proofs.Common.{◌≡◌, ◌++◌, drop}
use Rattle.std.specs.Prelude.{codes}
use Rattle.std.specs.String.{string_bytes}
use denote.Text.{Utf8}
use denote.Shadow.{shadow}
use Rattle.mx_vclock.specs.Text.{component_texts, join_with}
use Rattle.mx_vclock.proofs.TextLaws.{goes_on}
use Rattle.mx_vclock.proofs.vclock.Vclock.text.Given as goal

abbrev pub invariant-loop-id : goal.invariant-loop-id
invariant-loop-id l = record {
  utf8 : shadow (Utf8 l.between);
  written : string_bytes l.text ++ goes_on l.between (component_texts l.id-counter (drop l.id-counter l.self)) ≡ codes "{" ++ join_with (codes ", ") (component_texts 0 l.self);
}
