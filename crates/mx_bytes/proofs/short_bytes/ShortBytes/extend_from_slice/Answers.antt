use Rattle.std.proofs.Common.{◌≡◌, ◌∙◌, ◌+◌, ◌-◌, length, sym, ap, arith}
use Rattle.std.proofs.lemmas.List.{length-take-le}
use Rattle.std.proofs.lemmas.Slice.{drop-put_mid}
use Rattle.mx_bytes.specs.Short.{max_short}
use Rattle.mx_bytes.proofs.OrderLaws.{zeros_later}
use Rattle.mx_bytes.proofs.short_bytes.ShortBytes.extend_from_slice.Goals as goal

pub invariant_of-self : goal.invariant_of-self
invariant_of-self c =
    let start = c.from-start.result in
    let end = start + length c.args.bytes.now in
    let is : length c.args.self.now ≡ c.self.inside.len = sym (ap length c.self.view_is) ∙ length-take-le c.self.inside.len c.self.inside.items (omega (arith, c.self.told, c.self.invariant.0)) in (
      omega (arith, is),
      drop-put_mid start (end - start) c.self.inside.items c.copy_from_slice.new.self end (omega arith) (omega (arith, is)) (omega (arith, is, c.copy_from_slice.ensures.len))
          ∙ zeros_later max_short c.self.inside.items start (length c.args.bytes.now) (rw c.from-start.ensures c.self.invariant.1),
    )
