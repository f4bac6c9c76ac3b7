use Rattle.std.proofs.Common.{rules, ◌≡◌, [], ◌∷◌, pos, refl, sym, subst, ◌<◌, ◌^◌}
use Rattle.mx_key.specs.Comparable.{AreParts}
use Rattle.mx_key.specs.Keys.{Key, AreFit, Integer}
use Rattle.mx_msgpack.specs.declared.value.Value.{Int}
use Rattle.mx_msgpack.specs.Owned.{value_list}
use Rattle.mx_slow.proofs.ReadFitLaws.{with_fit}
use Rattle.mx_slow.proofs.read_ranges.number_key.Goals as goal

pub returns : goal.returns
returns c =
    let number = c.args.number in
    let key : Key = Integer (pos number) ∷ [] in
    let fits : number < 2 ^ 64 = search rules in
    let values : value_list c.push.new.self ≡ Int (pos number) ∷ [] = search rules in
    with_fit _ c.comparable.result (AreFit key) (fits, tt) (c.comparable.ensures key (subst (λ l. AreParts l key) (sym values) (refl, tt)) (fits, tt))
