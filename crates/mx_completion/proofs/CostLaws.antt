-- The least cost of a value of each form that bytes can become.
use Rattle.std.proofs.Common.{◌≡◌, ℕ, zero, suc, ◌+◌, ◌-◌, ◌^◌, ◌≤◌, Bool, true, false, List, [], ◌∷◌, ◌++◌, length, Option, Some, None, Ok, refl, sym, ap, ◌∙◌, subst, arith}
use Rattle.std.specs.Prelude.{pos, nat_le, nat_lt, ◌==◌, ◌&&◌, if◌then◌else◌, is_some}
use Rattle.std.specs.Option.{option_map}
use Rattle.std.proofs.lemmas.Bool.{leb-true, leb-false, le-leb, ltb-true, ltb-false, eq-eqb, eqb-true, false≢true}
use Rattle.std.proofs.lemmas.Bool.Decides.{nat_tests}
use Rattle.std.proofs.lemmas.List.{append-nil, length-append, length-take}
use Rattle.byteorder.specs.Endian.{big_bytes}
use Rattle.mx_msgpack.specs.Grammar as grammar
use Rattle.mx_msgpack.specs.Items.{array_of}
use Rattle.mx_msgpack.specs.Readers.{unsigned_in}
use Rattle.mx_msgpack.specs.Projections.{as_array, first_as}
use Rattle.mx_msgpack.specs.Spelling.{AreBytes, shortest_unsigned}
use Rattle.mx_msgpack.proofs.FrontLaws.{roomier}
use Rattle.mx_msgpack.proofs.ItemLaws.{array_read, whole_array}
use Rattle.mx_msgpack.proofs.Options.{allowed, bind_some, mapped_some, passed, same_some}
use Rattle.mx_msgpack.proofs.ProjectionLaws.{array_is, first_as_read}
use Rattle.mx_request.specs.Operators.{shape_fault}
use Rattle.mx_request.specs.Spelling.{AreOperations}
use Rattle.mx_request.specs.Values.{array_in, number_32, number_to}
use Rattle.mx_request.proofs.InnerLaws.{array_inner}
use Rattle.mx_completion.specs.declared.completion.Completion.{Completion}
use Rattle.mx_completion.specs.declared.completion.Completion.TheVariants.{Whole, Missing, Impossible}
use Rattle.mx_completion.specs.declared.field.Form.{Form}
use Rattle.mx_completion.specs.declared.field.Form.TheVariants.{Number, NotOne, Space, Base, Array, Operations}
use Rattle.mx_completion.specs.declared.number.NumberRange.{NumberRange}
use Rattle.mx_completion.specs.Choices.{CostsAt}
use Rattle.mx_completion.specs.Completions.{Completes, IsArraySpelling, IsValueSpelling}
use Rattle.mx_completion.specs.Costs.{IsLeast, base_cost, cost_of, cost_unless_one, cost_within, operations_of}
use Rattle.mx_completion.specs.Numbers.{CanBecome, IsRange}
use Rattle.mx_completion.specs.Sums.{any_cost, least_base, long_cost, number_cost, space_cost, up_to}
use Rattle.mx_completion.proofs.KeyLaws.{alone_read, alone_spelled, any_key}

-- ---- numbers

-- a value that is this number can stand here
abbrev StandsAs : List ℕ → ℕ → Type 0
StandsAs bytes number =
    (missing : List ℕ) × AreBytes missing × (1 ≤ length missing) × IsValueSpelling 63 (bytes ++ missing) × (unsigned_in (bytes ++ missing) ≡ Some number)

becomes : (bytes : List ℕ) (number : ℕ) → StandsAs bytes number → CanBecome bytes number
becomes bytes number (missing, each, some, (value, s), e) = (missing, each, some, alone_spelled value (bytes ++ missing) number s e)

stands_as : (bytes : List ℕ) (number : ℕ) → CanBecome bytes number → StandsAs bytes number
stands_as bytes number (missing, each, some, s) = (missing, each, some, (grammar.Int (pos number), s), alone_read number (bytes ++ missing) s)

and_true : (a b : Bool) → (a && b) ≡ true → (a ≡ true) × (b ≡ true)
and_true true b e = (refl, e)
and_true false b e = absurd (false≢true e)

-- ---- a number in a range

number_within : (least greatest : ℕ) (o : Option ℕ) (cost : ℕ) → cost_within least greatest o ≡ Some cost
    → (number : ℕ) × (o ≡ Some number) × (least ≤ number) × (number ≤ greatest)
number_within least greatest None cost e = absurd cc
number_within least greatest (Some number) cost e =
    let a = allowed (nat_le least number && nat_le number greatest) (Some 0) cost e in
    let both = and_true (nat_le least number) (nat_le number greatest) a.0 in
    (number, refl, leb-true least number both.0, leb-true number greatest both.1)

is_within : (least greatest number : ℕ) (o : Option ℕ) → o ≡ Some number → least ≤ number → number ≤ greatest → cost_within least greatest o ≡ Some 0
is_within least greatest number o e low high = rw (e, le-leb least number low, le-leb number greatest high) refl

module _ (most least greatest : ℕ) (bytes : List ℕ) where
  number_here : (range : NumberRange) (number : ℕ) → IsRange bytes (Some range) → range.least ≤ number → number ≤ range.most → least ≤ number → number ≤ greatest
      → CostsAt most (Number least greatest) bytes 0
  number_here range number (order, each) a b c d =
      let (missing, are, some, value, e) = stands_as bytes number ((each number).1 (a, b)) in
      (missing, are, some, value, is_within least greatest number (unsigned_in (bytes ++ missing)) e c d, omega arith)

  number_lies : (range : NumberRange) (cost : ℕ) → IsRange bytes (Some range) → CostsAt most (Number least greatest) bytes cost
      → (least ≤ greatest) × (least ≤ range.most) × (range.least ≤ greatest)
  number_lies range cost (order, each) (missing, are, some, value, e, few) =
      let (number, is, low, high) = number_within least greatest (unsigned_in (bytes ++ missing)) cost e in
      let here = (each number).0 (becomes bytes number (missing, are, some, value, is)) in
      let a = here.0 in
      let b = here.1 in
      (omega arith, omega arith, omega arith)

  pub number_least : (range : Option NumberRange) → IsRange bytes range → IsLeast (CostsAt most (Number least greatest) bytes) (number_cost least greatest range)
  number_least None none = λ cost (missing, are, some, value, e, few).
      let (number, is, low, high) = number_within least greatest (unsigned_in (bytes ++ missing)) cost e in
      none number (becomes bytes number (missing, are, some, value, is))
  number_least (Some range) r = by_test (nat_le least greatest && nat_le least range.most && nat_le range.least greatest) refl
    where
      by_test : (b : Bool) → (nat_le least greatest && nat_le least range.most && nat_le range.least greatest) ≡ b
          → IsLeast (CostsAt most (Number least greatest) bytes) (if b then Some 0 else None)
      by_test true t =
          let one = and_true (nat_le least greatest && nat_le least range.most) (nat_le range.least greatest) t in
          let two = and_true (nat_le least greatest) (nat_le least range.most) one.0 in
          let a = leb-true least greatest two.0 in
          let b = leb-true least range.most two.1 in
          let d = leb-true range.least greatest one.1 in
          let order = r.0 in
          (by_order a b d order (nat_le least range.least) refl, λ cost costs. omega arith)
        where
          by_order : least ≤ greatest → least ≤ range.most → range.least ≤ greatest → range.least ≤ range.most → (b : Bool) → nat_le least range.least ≡ b
              → CostsAt most (Number least greatest) bytes 0
          by_order a b d order true t = let l = leb-true least range.least t in number_here range range.least r (omega arith) (omega arith) (omega arith) (omega arith)
          by_order a b d order false t = let l = leb-false least range.least t in number_here range least r (omega arith) (omega arith) (omega arith) (omega arith)
      by_test false t = λ cost costs.
          let (a, b, d) = number_lies range cost r costs in
          let all : (nat_le least greatest && nat_le least range.most && nat_le range.least greatest) ≡ true = rw (le-leb least greatest a, le-leb least range.most b, le-leb range.least greatest d) refl in
          false≢true (sym t ∙ all)

-- ---- a number up to a limit

number_up_to : (limit number : ℕ) (value : List ℕ) → number_to limit value ≡ Some number → (unsigned_in value ≡ Some number) × (number ≤ limit)
number_up_to limit number value e =
    let u = bind_some (unsigned_in value) (λ n. if nat_le n limit then Some n else None) number e in
    let a = allowed (nat_le u.0 limit) (Some u.0) number u.2 in
    let same = same_some u.0 number a.1 in
    (u.1 ∙ ap (λ (n : ℕ). Some n) same, subst (λ (n : ℕ). n ≤ limit) same (leb-true u.0 limit a.0))

is_up_to : (limit number : ℕ) (value : List ℕ) → unsigned_in value ≡ Some number → number ≤ limit → number_to limit value ≡ Some number
is_up_to limit number value e few = rw (e, le-leb number limit few) refl

size_by : ℕ → ℕ
size_by number = if nat_lt number 0x80 then 1 else if nat_lt number (2 ^ 8) then 2 else if nat_lt number (2 ^ 16) then 3 else if nat_lt number (2 ^ 32) then 5 else 9

size_is : (number : ℕ) → length (shortest_unsigned number) ≡ size_by number
unfolding shortest_unsigned size_by
size_is number = by_tests (nat_lt number 0x80) (nat_lt number (2 ^ 8)) (nat_lt number (2 ^ 16)) (nat_lt number (2 ^ 32))
  where
    by_tests : (a b c d : Bool)
        → length (if a then number ∷ [] else if b then 0xcc ∷ big_bytes 1 number else if c then 0xcd ∷ big_bytes 2 number else if d then 0xce ∷ big_bytes 4 number else 0xcf ∷ big_bytes 8 number)
        ≡ (if a then 1 else if b then 2 else if c then 3 else if d then 5 else 9)
    by_tests true b c d = refl
    by_tests false true c d = refl
    by_tests false false true d = refl
    by_tests false false false true = refl
    by_tests false false false false = refl

size_order : (a b : ℕ) → a ≤ b → size_by a ≤ size_by b
unfolding size_by
size_order a b less = grind (arith, nat_tests)

size_grows : (a b : ℕ) → a ≤ b → length (shortest_unsigned a) ≤ length (shortest_unsigned b)
size_grows a b less = let one = size_is a in let two = size_is b in let order = size_order a b less in omega arith

-- a cost that is one and no more than all others, up to the most
least_within : (most least : ℕ) (Costs : ℕ → Type 0) → (least ≤ most → Costs least) → ((cost : ℕ) → Costs cost → (least ≤ cost) × (cost ≤ most))
    → IsLeast Costs (up_to most (Some least))
least_within most least Costs one all = by_test (nat_le least most) refl
  where
    by_test : (b : Bool) → nat_le least most ≡ b → IsLeast Costs (if b then Some least else None)
    by_test true t = (one (leb-true least most t), λ cost costs. (all cost costs).0)
    by_test false t = λ cost costs.
        let high = leb-false least most t in
        let a = (all cost costs).0 in
        let b = (all cost costs).1 in
        omega (arith, a, b, high)

module _ (most : ℕ) (bytes : List ℕ) where
  -- what a space costs, and the number that it is
  space_is : (cost : ℕ) → CostsAt most Space bytes cost → (number : ℕ) × CanBecome bytes number × (number ≤ 2 ^ 32 - 1) × (length (shortest_unsigned number) ≡ cost)
  space_is cost (missing, are, some, value, e, few) =
      let m = mapped_some (λ (number : ℕ). length (shortest_unsigned number)) (number_32 (bytes ++ missing)) cost e in
      let u = number_up_to (2 ^ 32 - 1) m.0 (bytes ++ missing) m.1 in
      (m.0, becomes bytes m.0 (missing, are, some, value, u.0), u.1, m.2)

  space_here : (number : ℕ) → CanBecome bytes number → number ≤ 2 ^ 32 - 1 → length (shortest_unsigned number) ≤ most → CostsAt most Space bytes (length (shortest_unsigned number))
  space_here number can low few =
      let (missing, are, some, value, e) = stands_as bytes number can in
      (missing, are, some, value, ap (option_map (λ (n : ℕ). length (shortest_unsigned n))) (is_up_to (2 ^ 32 - 1) number (bytes ++ missing) e low), few)

  pub space_least : (range : Option NumberRange) → IsRange bytes range → IsLeast (CostsAt most Space bytes) (space_cost most range)
  space_least None none = λ cost costs. let s = space_is cost costs in none s.0 s.1
  space_least (Some range) (order, each) = by_test (nat_lt range.least 0x100000000) refl
    where
      by_test : (b : Bool) → nat_lt range.least 0x100000000 ≡ b
          → IsLeast (CostsAt most Space bytes) (if b then up_to most (Some (length (shortest_unsigned range.least))) else None)
      by_test true t =
          let low = ltb-true range.least 0x100000000 t in
          least_within most (length (shortest_unsigned range.least)) (CostsAt most Space bytes)
          (λ few. space_here range.least ((each range.least).1 (omega arith, order)) (omega arith) few)
          (λ cost costs.
          let (number, can, below, same) = space_is cost costs in
          let from = ((each number).0 can).0 in
          let grows = size_grows range.least number from in
          (omega arith, costs.5))
      by_test false t = λ cost costs.
          let high = ltb-false range.least 0x100000000 t in
          let (number, can, below, same) = space_is cost costs in
          let from = ((each number).0 can).0 in
          omega (arith, high, below, from)

  base_is : (cost : ℕ) → CostsAt most Base bytes cost → (number : ℕ) × CanBecome bytes number × (number ≤ 1) × (base_cost number ≡ cost)
  base_is cost (missing, are, some, value, e, few) =
      let m = mapped_some base_cost (number_to 1 (bytes ++ missing)) cost e in
      let u = number_up_to 1 m.0 (bytes ++ missing) m.1 in
      (m.0, becomes bytes m.0 (missing, are, some, value, u.0), u.1, m.2)

  base_here : (number : ℕ) → CanBecome bytes number → number ≤ 1 → base_cost number ≤ most → CostsAt most Base bytes (base_cost number)
  base_here number can low few =
      let (missing, are, some, value, e) = stands_as bytes number can in
      (missing, are, some, value, ap (option_map base_cost) (is_up_to 1 number (bytes ++ missing) e low), few)

  base_some : (number cost : ℕ) → base_cost number ≡ cost → 1 ≤ number → 2 ≤ cost
  base_some number cost e some = by_test (number == 0) refl e
    where
      by_test : (b : Bool) → (number == 0) ≡ b → (if b then 0 else 2) ≡ cost → 2 ≤ cost
      by_test true t e = let zero_is = eqb-true number 0 t in absurd (omega (arith, some))
      by_test false t e = omega arith

  pub base_least : (range : Option NumberRange) → IsRange bytes range → IsLeast (CostsAt most Base bytes) (least_base most range)
  base_least None none = λ cost costs. let s = base_is cost costs in none s.0 s.1
  base_least (Some range) (order, each) = by_zero (range.least == 0) refl
    where
      by_one : (b : Bool) → (range.least == 1) ≡ b → 1 ≤ range.least → IsLeast (CostsAt most Base bytes) (if b then up_to most (Some 2) else None)
      by_one true t some =
          let is = eqb-true range.least 1 t in
          least_within most 2 (CostsAt most Base bytes)
          (λ few. base_here 1 ((each 1).1 (omega arith, omega arith)) (omega arith) few)
          (λ cost costs.
          let (number, can, below, same) = base_is cost costs in
          let from = ((each number).0 can).0 in
          (base_some number cost same (omega arith), costs.5))
      by_one false t some = λ cost costs.
          let (number, can, below, same) = base_is cost costs in
          let from = ((each number).0 can).0 in
          let one : range.least ≡ 1 = omega arith in
          false≢true (sym t ∙ eq-eqb range.least 1 one)

      by_zero : (b : Bool) → (range.least == 0) ≡ b → IsLeast (CostsAt most Base bytes) (if b then Some 0 else if range.least == 1 then up_to most (Some 2) else None)
      by_zero true t =
          let is = eqb-true range.least 0 t in
          (base_here 0 ((each 0).1 (omega arith, omega arith)) (omega arith) (omega arith), λ cost costs. omega arith)
      by_zero false t = by_one (range.least == 1) refl (not_zero range.least t)
        where
          not_zero : (n : ℕ) → (n == 0) ≡ false → 1 ≤ n
          not_zero zero e = absurd cc
          not_zero (suc n) e = omega arith

-- ---- values that aren't numbers

-- where a form stands whole it can't go on
no_longer : (Is : List ℕ → Type 0) (bytes missing : List ℕ) (size : ℕ) → AreBytes missing → 1 ≤ length missing → Completes Is bytes (Whole size) → Is (bytes ++ missing) → ⊥
no_longer Is bytes missing size are some c is =
    let same = c.allows missing (bytes ++ missing) [] are (sym (append-nil (bytes ++ missing))) is in
    let long = ap length same in
    let l = length-append bytes missing in
    let within = c.stands.0 in
    let t = length-take size bytes in
    omega (arith, some)

never : (Is : List ℕ → Type 0) (bytes missing : List ℕ) → AreBytes missing → Completes Is bytes Impossible → Is (bytes ++ missing) → ⊥
never Is bytes missing are c is = c.allows missing (bytes ++ missing) [] are (sym (append-nil (bytes ++ missing))) is

at_least : (Is : List ℕ → Type 0) (bytes missing : List ℕ) (least : ℕ) → AreBytes missing → Completes Is bytes (Missing least) → Is (bytes ++ missing) → length bytes + least ≤ length (bytes ++ missing)
at_least Is bytes missing least are c is = c.allows missing (bytes ++ missing) [] are (sym (append-nil (bytes ++ missing))) is

module _ (most : ℕ) (bytes : List ℕ) (each : AreBytes bytes) where
  -- bytes that can become 1 can become 0
  not_one : (missing : List ℕ) → AreBytes missing → 1 ≤ length missing → IsValueSpelling 63 (bytes ++ missing) → CostsAt most NotOne bytes 0
  not_one missing are some (value, s) = by_number (unsigned_in (bytes ++ missing)) refl
    where
      by_one : (number : ℕ) (b : Bool) → (number == 1) ≡ b → unsigned_in (bytes ++ missing) ≡ Some number → CostsAt most NotOne bytes 0
      by_one number true t e =
          let is = eqb-true number 1 t in
          let k = any_key bytes number each (omega arith) (missing, are, some, alone_spelled value (bytes ++ missing) number s e) in
          let (more, fine, long, other, zero_is) = stands_as bytes 0 (k.0 0 (omega arith)) in
          (more, fine, long, other, ap cost_unless_one zero_is, omega arith)
      by_one number false t e = (missing, are, some, (value, s), ap cost_unless_one e ∙ rw t refl, omega arith)

      by_number : (o : Option ℕ) → unsigned_in (bytes ++ missing) ≡ o → CostsAt most NotOne bytes 0
      by_number None e = (missing, are, some, (value, s), ap cost_unless_one e, omega arith)
      by_number (Some number) e = by_one number (number == 1) refl e

  pub any_least : (completion : Completion) → Completes (IsValueSpelling 63) bytes completion → IsLeast (CostsAt most NotOne bytes) (any_cost completion)
  any_least (Whole size) c = λ cost (missing, are, some, value, e, few). no_longer (IsValueSpelling 63) bytes missing size are some c value
  any_least (Missing least) c =
      let (some, missing, are, long, value) = c.stands in
      (not_one missing are (omega arith) value, λ cost costs. omega arith)
  any_least Impossible c = λ cost (missing, are, some, value, e, few). never (IsValueSpelling 63) bytes missing are c value

module _ (most : ℕ) (form : Form) (Is : List ℕ → Type 0)
    (from : (bytes : List ℕ) (cost : ℕ) → IsValueSpelling 63 bytes → cost_of form (Some bytes) ≡ Some cost → Is bytes × (cost ≡ length bytes))
    (back : (bytes : List ℕ) → Is bytes → IsValueSpelling 63 bytes × (cost_of form (Some bytes) ≡ Some (length bytes)))
    (bytes : List ℕ)
  where
    long_least : (completion : Completion) → Completes Is bytes completion → IsLeast (CostsAt most form bytes) (long_cost most (length bytes) completion)
    long_least (Whole size) c = λ cost (missing, are, some, value, e, few). no_longer Is bytes missing size are some c (from (bytes ++ missing) cost value e).0
    long_least (Missing least) c =
        let (some, missing, are, long, is) = c.stands in
        let l : length (bytes ++ missing) ≡ length bytes + least = length-append bytes missing ∙ ap (λ (n : ℕ). length bytes + n) long in
        let v = back (bytes ++ missing) is in
        least_within most (length bytes + least) (CostsAt most form bytes)
        (λ few. (missing, are, omega arith, v.0, v.1 ∙ ap (λ (n : ℕ). Some n) l, few))
        (λ cost (other, fine, more, value, e, few).
        let f = from (bytes ++ other) cost value e in
        let least_is = at_least Is bytes other least fine c f.0 in
        let same = f.1 in
        (omega arith, few))
    long_least Impossible c = λ cost (missing, are, some, value, e, few). never Is bytes missing are c (from (bytes ++ missing) cost value e).0

-- ---- arrays

array_is_inner : (bytes : List ℕ) (found : List ℕ) → IsValueSpelling 63 bytes → array_in bytes ≡ Some found → IsArraySpelling 63 bytes × (found ≡ bytes)
array_is_inner bytes found value e =
    let m = mapped_some (λ (array : ℕ × List ℕ). bytes) (first_as as_array bytes) found e in
    let (what, size, read, shown) = first_as_read as_array bytes m.0 m.1 in
    (array_inner bytes m.0.0 m.0.1 size value (read ∙ (λ i. Ok (array_is what m.0 shown i, size))), sym m.2)

array_found : (bytes : List ℕ) → IsArraySpelling 63 bytes → array_in bytes ≡ Some bytes
array_found bytes (values, s) =
    let (head, content, h, few, e, each) = roomier 63 (grammar.Array values) bytes s in
    let read = whole_array bytes (grammar.value_count values, content) (ap array_of e ∙ array_read values head content h few each) in
    rw read refl

array_from : (bytes : List ℕ) (cost : ℕ) → IsValueSpelling 63 bytes → cost_of Array (Some bytes) ≡ Some cost → IsArraySpelling 63 bytes × (cost ≡ length bytes)
array_from bytes cost value e =
    let m = mapped_some length (array_in bytes) cost e in
    let a = array_is_inner bytes m.0 value m.1 in
    (a.0, sym m.2 ∙ ap length a.1)

array_back : (bytes : List ℕ) → IsArraySpelling 63 bytes → IsValueSpelling 63 bytes × (cost_of Array (Some bytes) ≡ Some (length bytes))
array_back bytes (values, s) = ((grammar.Array values, s), ap (option_map length) (array_found bytes (values, s)))

pub array_least : (most : ℕ) (bytes : List ℕ) (completion : Completion) → Completes (IsArraySpelling 63) bytes completion
    → IsLeast (CostsAt most Array bytes) (long_cost most (length bytes) completion)
array_least most bytes completion c = long_least most Array (IsArraySpelling 63) array_from array_back bytes completion c

no_fault : (bytes found : List ℕ) → operations_of bytes ≡ Some found → (array_in bytes ≡ Some found) × (shape_fault found ≡ None)
no_fault bytes found e =
    let a = bind_some (array_in bytes) (λ operations. if is_some (shape_fault operations) then None else Some operations) found e in
    let p = passed (is_some (shape_fault a.0)) (Some a.0) found a.2 in
    let same = same_some a.0 found p.1 in
    (a.1 ∙ ap (λ (l : List ℕ). Some l) same, subst (λ (l : List ℕ). shape_fault l ≡ None) same (none_is (shape_fault a.0) p.0))
  where
    none_is : {X : Type 0} (o : Option X) → is_some o ≡ false → o ≡ None
    none_is None e = refl
    none_is (Some x) e = absurd (false≢true (sym e))

operations_from : (bytes : List ℕ) (cost : ℕ) → IsValueSpelling 63 bytes → cost_of Operations (Some bytes) ≡ Some cost → AreOperations bytes × (cost ≡ length bytes)
operations_from bytes cost value e =
    let m = mapped_some length (operations_of bytes) cost e in
    let f = no_fault bytes m.0 m.1 in
    let a = array_is_inner bytes m.0 value f.0 in
    ((a.0, subst (λ (l : List ℕ). shape_fault l ≡ None) a.1 f.1), sym m.2 ∙ ap length a.1)

operations_back : (bytes : List ℕ) → AreOperations bytes → IsValueSpelling 63 bytes × (cost_of Operations (Some bytes) ≡ Some (length bytes))
operations_back bytes ((values, s), none) = ((grammar.Array values, s), rw (array_found bytes (values, s), none) refl)

pub operations_least : (most : ℕ) (bytes : List ℕ) (completion : Completion) → Completes AreOperations bytes completion
    → IsLeast (CostsAt most Operations bytes) (long_cost most (length bytes) completion)
operations_least most bytes completion c = long_least most Operations AreOperations operations_from operations_back bytes completion c
