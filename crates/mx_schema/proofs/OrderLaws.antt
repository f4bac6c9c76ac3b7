-- What tests of an order and of two conditions say.
use Rattle.std.proofs.Common.{◌≡◌, Bool, true, false, ◌&&◌, T, refl, sym}
use Rattle.std.specs.declared.cmp.Ordering.{Ordering}
use Rattle.std.specs.declared.cmp.Ordering.TheVariants.{Less, Equal, Greater}
use Rattle.std.specs.Ordering.{is_eq, is_lt}
use mathlib.Core.Bool.{true≢false}

pub both : (b c : Bool) → T (b && c) → (b ≡ true) × T c
both true c h = (refl, h)
both false c h = absurd h

pub first_of : (b c : Bool) → T (b && c) → T b
first_of true c h = tt
first_of false c h = absurd h

pub lt_is : (o : Ordering) → is_lt o ≡ true → o ≡ Less
lt_is Less e = refl
lt_is Equal e = absurd (true≢false (sym e))
lt_is Greater e = absurd (true≢false (sym e))

pub eq_is : (o : Ordering) → is_eq o ≡ true → o ≡ Equal
eq_is Less e = absurd (true≢false (sym e))
eq_is Equal e = refl
eq_is Greater e = absurd (true≢false (sym e))
