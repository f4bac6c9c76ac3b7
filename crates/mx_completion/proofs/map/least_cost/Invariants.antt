use Rattle.std.proofs.Common.{◌≡◌, length, take}
use Rattle.std.specs.Option.{option_map}
use Rattle.mx_msgpack.specs.Maps.{pairs_from}
use Rattle.mx_completion.specs.Choices.{AreChoices}
use Rattle.mx_completion.proofs.map.least_cost.Given as goal

-- so many of the choices are those of the fields
abbrev pub invariant-loop-place : goal.invariant-loop-place
invariant-loop-place l = record {
  long : length l.choices ≡ 8;
  each : AreChoices l.most (pairs_from l.begun.count l.begun.pairs.now) (option_map (λ cut. (cut.0, cut.1.now)) l.begun.cut) (take l.place l.fields) (take l.place l.choices);
}
