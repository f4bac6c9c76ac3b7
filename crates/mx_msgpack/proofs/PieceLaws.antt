-- Small pieces take what they say, and stand whatever follows.
use Rattle.std.proofs.Common.{◌≡◌, ℕ, ◌+◌, ◌≤◌, false, List, ◌++◌, length, take, drop, Option, Some, None, refl, sym, ap, arith}
use Rattle.std.proofs.Common.{nat_lt}
use Rattle.std.specs.Option.{option_map}
use Rattle.std.proofs.lemmas.Bool.{ltb-false, le-ltb}
use Rattle.std.proofs.lemmas.List.{take-append-le, drop-append-le, length-drop, length-append}
use Rattle.byteorder.specs.Endian.{big_number}
use Rattle.mx_msgpack.specs.Readers.{◌>>=◌, number_at, bytes_at}
use Rattle.mx_msgpack.proofs.Options.{passed, same_some}

long_enough : (a b : ℕ) → nat_lt a b ≡ false → b ≤ a
long_enough a b e = ltb-false a b e

-- the bytes after a number, of which there are as many as its width
pub number_rest : (width : ℕ) (bytes : List ℕ) (found : ℕ × List ℕ) → number_at width bytes ≡ Some found → (found.1 ≡ drop width bytes) × (width ≤ length bytes)
number_rest width bytes found e =
    let p = passed (nat_lt (length bytes) width) (Some (big_number width (take width bytes), drop width bytes)) found e in
    let q = same_some (big_number width (take width bytes), drop width bytes) found p.1 in
    (sym (ap (λ (x : ℕ × List ℕ). x.1) q), long_enough (length bytes) width p.0)

pub number_at-shorter : (width : ℕ) (bytes : List ℕ) (found : ℕ × List ℕ) → number_at width bytes ≡ Some found → length found.1 + width ≡ length bytes
number_at-shorter width bytes found e =
    let p = number_rest width bytes found e in
    let l = ap length p.0 in
    let d = length-drop width bytes in
    let fits = p.1 in
    omega arith

pub bytes_at-shorter : (count : ℕ) (bytes : List ℕ) (found : List ℕ × List ℕ) → bytes_at count bytes ≡ Some found → length found.1 + count ≡ length bytes
bytes_at-shorter count bytes found e =
    let p = passed (nat_lt (length bytes) count) (Some (take count bytes, drop count bytes)) found e in
    let q = same_some (take count bytes, drop count bytes) found p.1 in
    let l = ap (λ (x : List ℕ × List ℕ). length x.1) q in
    let d = length-drop count bytes in
    let fits : count ≤ length bytes = long_enough (length bytes) count p.0 in
    omega arith

-- what a read found, and more bytes after it
abbrev pub and_more : {X : Type 0} → List ℕ → Option (X × List ℕ) → Option (X × List ℕ)
and_more more found = option_map (λ x. (x.0, x.1 ++ more)) found

pub number_at-front : (width : ℕ) (bytes more : List ℕ) → width ≤ length bytes → number_at width (bytes ++ more) ≡ and_more more (number_at width bytes)
number_at-front width bytes more fits =
    let fits' : width ≤ length (bytes ++ more) = omega (arith, length-append bytes more) in
    rw (le-ltb (length (bytes ++ more)) width fits', le-ltb (length bytes) width fits, take-append-le width bytes more fits, drop-append-le width bytes more fits) refl

-- a step after a read that found the same before more bytes
pub bind_more : {X Y : Type 0} (more : List ℕ) (o : Option (X × List ℕ)) (f : X × List ℕ → Option (Y × List ℕ))
    → ((x : X × List ℕ) → o ≡ Some x → f (x.0, x.1 ++ more) ≡ and_more more (f x)) → (and_more more o >>= f) ≡ and_more more (o >>= f)
bind_more more None f same = refl
bind_more more (Some x) f same = same x refl
