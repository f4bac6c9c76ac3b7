-- A read that may fail, and the reads after it.
use Rattle.std.proofs.Common.{◌≡◌, Bool, true, false, cond, Result, Ok, Err, refl, ◌⊎◌, inl, inr}
use Rattle.mx_msgpack.specs.declared.bad.Bad.{Bad}
use Rattle.mx_msgpack.specs.Reading.{◌>>=◌}

-- the value of a step that did not fail
pub bind_ok : {A B E : Type 0} (r : Result A E) (f : A → Result B E) (y : B) → (r >>= f) ≡ Ok y → (x : A) × (r ≡ Ok x) × (f x ≡ Ok y)
bind_ok (Ok x) f y e = (x, refl, e)
bind_ok (Err d) f y e = absurd cc

-- a test that did not fail
pub guard_ok : {A : Type 0} (b : Bool) (d : Bad) (x y : A) → cond b (Err d) (Ok x) ≡ Ok y → (b ≡ false) × (x ≡ y)
guard_ok true d x y e = absurd cc
guard_ok false d x y e = (refl, cc)

-- the same before a step that may fail too
pub guard_then : {A : Type 0} (b : Bool) (d : Bad) (r : Result A Bad) (y : A) → cond b (Err d) r ≡ Ok y → (b ≡ false) × (r ≡ Ok y)
guard_then true d r y e = absurd cc
guard_then false d r y e = (refl, e)

-- which way a test went
pub chosen : {A : Type 0} (b : Bool) (x y z : A) → cond b x y ≡ z → ((b ≡ true) × (x ≡ z)) ⊎ ((b ≡ false) × (y ≡ z))
chosen true x y z e = inl (refl, e)
chosen false x y z e = inr (refl, e)

abbrev done : {A : Type 0} → A → Result A Bad
done x = Ok x

pub ok_is : {A : Type 0} (x y : A) → done x ≡ done y → x ≡ y
ok_is x y e = cc

pub bind_Ok : {A : Type 0} (r : Result A Bad) → (r >>= λ x. Ok x) ≡ r
bind_Ok (Ok x) = refl
bind_Ok (Err d) = refl

pub bind_bind : {A B C : Type 0} (r : Result A Bad) (f : A → Result B Bad) (g : B → Result C Bad) → ((r >>= f) >>= g) ≡ (r >>= λ x. (f x >>= g))
bind_bind (Ok x) f g = refl
bind_bind (Err d) f g = refl

-- a failure that the step after did not make
pub bind_err : {A B : Type 0} (r : Result A Bad) (f : A → B) (bad : Bad) → (r >>= λ x. Ok (f x)) ≡ Err bad → r ≡ Err bad
bind_err (Ok x) f bad e = absurd cc
bind_err (Err d) f bad e = cc

-- the step that failed
pub bind_failed : {A B : Type 0} (r : Result A Bad) (f : A → Result B Bad) (bad : Bad) → (r >>= f) ≡ Err bad → (r ≡ Err bad) ⊎ ((x : A) × (r ≡ Ok x) × (f x ≡ Err bad))
bind_failed (Ok x) f bad e = inr (x, refl, e)
bind_failed (Err d) f bad e = inl cc

abbrev failed : {A : Type 0} → Bad → Result A Bad
failed bad = Err bad

pub err_is : {A : Type 0} (one other : Bad) → failed {A = A} one ≡ failed other → one ≡ other
err_is one other e = cc
