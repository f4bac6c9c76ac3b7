use Rattle.std.proofs.Common.{◌≡◌, ◌+◌, ◌%◌, suc, sym, ◌∙◌, arith}
use Rattle.mx_fake.proofs.FileLaws.{one_back, none_back, nothing_left}
use Rattle.mx_fake.proofs.files.Files.put_back.Goals as goal

pub loop-name-preserved : goal.loop-name-preserved
loop-name-preserved c =
    let number = c.loop-name.invariant.left.0 in
    let bit = c.loop-name.bit in
    let counted : number % 8 ≡ bit = c.loop-name.invariant.left.1 in
    let next : suc number % 8 ≡ (bit + 1) % 8 = omega arith in record {
      small = omega arith;
      left = (
        suc number,
        next,
        one_back c.args.choice number bit c.loop-name.left.entries c.pop_first.new.self.entries c.in-Some.name c.in-Some.file c.loop-name.self c.set_if.new.self
            c.in-Some.ensures.removal counted c.in_ok-set_if.ensures
            ∙ c.loop-name.invariant.left.2,
      );
    }

pub returns : goal.returns
returns c =
    sym (none_back c.args.choice c.loop-name.invariant.left.0 c.loop-name.left.entries c.loop-name.self (nothing_left c.loop-name.left.entries c.in_default.ensures.variant.1))
    ∙ c.loop-name.invariant.left.2
