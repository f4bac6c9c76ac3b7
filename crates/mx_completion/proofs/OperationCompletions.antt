-- Completions of update operations, by those of their parts.
use Rattle.std.proofs.Common.{◌≡◌, ◌⊎◌, inl, inr, ℕ, zero, suc, ◌+◌, ◌-◌, ◌*◌, ◌<◌, ◌≤◌, List, [], ◌∷◌, length, drop, Option, Some, refl, sym, ap, ◌∙◌, subst, arith}
use Rattle.std.specs.Prelude.{pos, ◌==◌}
use Rattle.std.proofs.lemmas.Bool.{cond_both}
use Rattle.std.proofs.lemmas.List.{length-append, length-drop}
use Rattle.mx_msgpack.specs.Grammar as grammar
use Rattle.mx_msgpack.specs.Spelling.{AreBytes}
use Rattle.mx_msgpack.proofs.FrontLaws.{spelled_some}
use Rattle.mx_msgpack.proofs.Options.{same_some}
use Rattle.mx_msgpack.proofs.ShortestLaws.{rest-bytes}
use Rattle.mx_operations.specs.Operations.{max_operations}
use Rattle.mx_completion.specs.declared.completion.Completion.{Completion}
use Rattle.mx_completion.specs.declared.completion.Completion.TheVariants.{Whole, Missing, Impossible}
use Rattle.mx_completion.specs.declared.leading.Kind.TheVariants as kind
use Rattle.mx_completion.specs.declared.operations.Operand.{Operand}
use Rattle.mx_completion.specs.declared.operations.Operand.TheVariants.{Number, Count, Bits, Any, Text}
use Rattle.mx_completion.specs.Completions.{Completes}
use Rattle.mx_completion.specs.Sequences.{InRow, longer}
use Rattle.mx_completion.specs.OperationForms.{Counted, IsOperand, AreOperands, operands_of, IsLettered, IsNamed, IsOperation, AreFewOperations}
use Rattle.mx_completion.specs.HeadForms.{IsFullHead, IsCutHead}
use Rattle.mx_completion.proofs.HeadLaws.{head_some}
use Rattle.mx_completion.proofs.SequenceLaws.{HasLeast, completes_same, completes_behind, impossible_first, least_in_turn, missing_first, whole_first}
use Rattle.mx_completion.proofs.ByteLaws.{bytes-append, one_byte}
use Rattle.mx_completion.proofs.CountedLaws.{counted_full, counted_full_none, counted_cut, counted_cut_none}

-- ---- operands

operand_least : (operand : Operand) → HasLeast (IsOperand operand) 1
operand_least Number = record {
  shortest = 0 ∷ [];
  bytes = one_byte 0 (omega arith);
  size = refl;
  spelled = (pos 0, inl (0, refl, inl (omega arith, refl)));
  bound = λ spelling each s. spelled_some 0 (grammar.Int s.0) spelling s.1;
}
operand_least Count = record {
  shortest = 1 ∷ [];
  bytes = one_byte 1 (omega arith);
  size = refl;
  spelled = (1, omega arith, inl (1, refl, inl (omega arith, refl)));
  bound = λ spelling each s. spelled_some 0 (grammar.Int (pos s.0)) spelling s.2;
}
operand_least Bits = record {
  shortest = 0 ∷ [];
  bytes = one_byte 0 (omega arith);
  size = refl;
  spelled = (0, omega arith, inl (0, refl, inl (omega arith, refl)));
  bound = λ spelling each s. spelled_some 0 (grammar.Int (pos s.0)) spelling s.2;
}
operand_least Any = record {
  shortest = 0xc0 ∷ [];
  bytes = one_byte 0xc0 (omega arith);
  size = refl;
  spelled = (grammar.Nil, refl);
  bound = λ spelling each s. spelled_some 61 s.0 spelling s.1;
}
operand_least Text = record {
  shortest = 0xa0 ∷ [];
  bytes = one_byte 0xa0 (omega arith);
  size = refl;
  spelled = ([], (0xa0 ∷ [], inl (omega arith, refl), omega arith, refl));
  bound = λ spelling each s. spelled_some 0 (grammar.Str s.0) spelling s.1;
}

pub operands_least : (operands : List Operand) → HasLeast (AreOperands operands) (length operands)
operands_least [] = record { shortest = []; bytes = λ i. omega arith; size = refl; spelled = refl; bound = λ spelling each s. omega arith }
operands_least (operand ∷ others) =
    let more : 1 + length others ≡ suc (length others) = omega arith in
    subst (HasLeast (AreOperands (operand ∷ others))) more
    (least_in_turn (IsOperand operand) (AreOperands others) 1 (length others) (operand_least operand) (operands_least others))

-- ---- the operator

-- a field number, and one argument or three
pub operands_many : (letter : ℕ) (operands : List Operand) → operands_of letter ≡ Some operands → (length operands ≡ 2) ⊎ (length operands ≡ 4)
operands_many letter operands known =
    let P = λ (o : Option (List Operand)). o ≡ Some operands → (length operands ≡ 2) ⊎ (length operands ≡ 4) in
    cond_both (letter == 61) _ _ P (λ _ e. two Any e) (λ _.
    cond_both (letter == 33) _ _ P (λ _ e. two Any e) (λ _.
    cond_both (letter == 35) _ _ P (λ _ e. two Count e) (λ _.
    cond_both (letter == 43) _ _ P (λ _ e. two Number e) (λ _.
    cond_both (letter == 45) _ _ P (λ _ e. two Number e) (λ _.
    cond_both (letter == 38) _ _ P (λ _ e. two Bits e) (λ _.
    cond_both (letter == 124) _ _ P (λ _ e. two Bits e) (λ _.
    cond_both (letter == 94) _ _ P (λ _ e. two Bits e) (λ _.
    cond_both (letter == 58) _ _ P (λ _ e. inr (sym (ap length (same_some (Number ∷ Number ∷ Number ∷ Text ∷ []) operands e)))) (λ _ e. absurd cc))))))))) known
  where
    two : (argument : Operand) → Some (Number ∷ argument ∷ []) ≡ Some operands → (length operands ≡ 2) ⊎ (length operands ≡ 4)
    two argument e = inl (sym (ap length (same_some (Number ∷ argument ∷ []) operands e)))

by_letter : (count letter : ℕ) (operands : List Operand) → operands_of letter ≡ Some operands → suc (length operands) ≡ count → letter < 256 → HasLeast (IsLettered count) count
by_letter count letter operands known many byte =
    let has = operands_least operands in
    let size = has.size in
    record {
      shortest = letter ∷ has.shortest;
      bytes = bytes-append (letter ∷ []) has.shortest (one_byte letter byte) has.bytes;
      size = omega arith;
      spelled = (letter, operands, has.shortest, refl, known, many, has.spelled);
      bound = bound;
    }
  where
    bound : (spelling : List ℕ) → AreBytes spelling → IsLettered count spelling → count ≤ length spelling
    bound spelling each (other, arguments, rest, parts, is, same, s) =
        let enough = (operands_least arguments).bound rest (rest-bytes (other ∷ []) rest (subst AreBytes parts each)) s in
        let size = ap length parts in
        omega arith

pub lettered_least : (count : ℕ) → (count ≡ 3) ⊎ (count ≡ 5) → HasLeast (IsLettered count) count
lettered_least count (inl is) = by_letter count 61 (Number ∷ Any ∷ []) refl (sym is) (omega arith)
lettered_least count (inr is) = by_letter count 58 (Number ∷ Number ∷ Number ∷ Text ∷ []) refl (sym is) (omega arith)

none_lettered : (count : ℕ) → IsLettered count [] → ⊥
none_lettered count (letter, operands, others, parts, known, many, s) = absurd cc

pub lettered : (count letter : ℕ) (rest : List ℕ) (operands : List Operand) (inside : Completion) → operands_of letter ≡ Some operands → suc (length operands) ≡ count
    → Completes (AreOperands operands) rest inside → Completes (IsLettered count) (letter ∷ rest) (longer 1 inside)
lettered count letter rest operands inside known many completes =
    completes_behind (IsLettered count) (AreOperands operands) letter rest inside to (λ l s. (letter, operands, l, refl, known, many, s)) (none_lettered count) completes
  where
    to : (l : List ℕ) → IsLettered count (letter ∷ l) → AreOperands operands l
    to l (other, arguments, others, parts, is, same, s) =
        let first : other ≡ letter = cc in
        let behind : others ≡ l = cc in
        let all : arguments ≡ operands = same_some arguments operands (sym is ∙ ap operands_of first ∙ known) in
        subst (λ (k : List ℕ). AreOperands operands k) behind (subst (λ (o : List Operand). AreOperands o others) all s)

-- ---- the values of an operation

abbrev pub OneLetter : (count size : ℕ) → List ℕ → Type 0
OneLetter count size rest = (size ≡ 1) × IsLettered count rest

named_many : (count : ℕ) (bytes : List ℕ) → IsNamed count bytes → (count ≡ 3) ⊎ (count ≡ 5)
named_many count bytes (size, head, rest, parts, h, (one, (letter, operands, others, behind, known, many, s))) =
    elim (operands_many letter operands known) [
      | inl two ↦ inl (omega arith)
      | inr four ↦ inr (omega arith)
    ]

named_least : (count : ℕ) → (count ≡ 3) ⊎ (count ≡ 5) → HasLeast (IsNamed count) (suc count)
named_least count which =
    let has = lettered_least count which in
    let size = has.size in
    record {
      shortest = 0xa1 ∷ has.shortest;
      bytes = bytes-append (0xa1 ∷ []) has.shortest (one_byte 0xa1 (omega arith)) has.bytes;
      size = omega arith;
      spelled = (1, 0xa1 ∷ [], has.shortest, refl, inl (omega arith, refl), (refl, has.spelled));
      bound = bound;
    }
  where
    bound : (spelling : List ℕ) → AreBytes spelling → IsNamed count spelling → suc count ≤ length spelling
    bound spelling each (size, head, rest, parts, h, (one, s)) =
        let enough = (lettered_least count which).bound rest (rest-bytes head rest (subst AreBytes parts each)) s in
        let some = head_some kind.Text size head h in
        let both = ap length parts ∙ length-append head rest in
        omega arith

module _ (count : ℕ) (which : (count ≡ 3) ⊎ (count ≡ 5)) (bytes : List ℕ) where
  pub named_cut : (missing : ℕ) → IsCutHead kind.Text bytes 0 missing → Completes (IsNamed count) bytes (Missing (missing + count))
  named_cut missing cut =
      let has = lettered_least count which in
      counted_cut kind.Text (OneLetter count) bytes 0 missing cut count 1 (omega arith) has.shortest has.bytes has.size (refl, has.spelled) (λ other rest each _ s. has.bound rest each s.1)

  pub named_full : (size : ℕ) (inside : Completion) → IsFullHead kind.Text bytes 1 size → Completes (IsLettered count) (drop size bytes) inside → Completes (IsNamed count) bytes (longer size inside)
  named_full size inside full completes =
      counted_full kind.Text (OneLetter count) bytes 1 size full inside
      (completes_same (IsLettered count) (OneLetter count 1) (drop size bytes) inside (λ l s. (refl, s)) (λ l s. s.1) completes)

pub named_not_cut : (count : ℕ) (bytes : List ℕ) (size missing : ℕ) → IsCutHead kind.Text bytes size missing → (size ≡ 0 → ⊥) → Completes (IsNamed count) bytes Impossible
named_not_cut count bytes size missing cut some = counted_cut_none kind.Text (OneLetter count) bytes size missing cut (λ other rest high s. none other rest high s cut.high)
  where
    none : (other : ℕ) (rest : List ℕ) → size ≤ other → OneLetter count other rest → (size ≡ 0) ⊎ (256 ≤ size) → ⊥
    none other rest high (one, s) (inl zeros) = some zeros
    none other rest high (one, s) (inr long) = omega arith

pub named_not_full : (count : ℕ) (bytes : List ℕ) (length size : ℕ) → IsFullHead kind.Text bytes length size → (length ≡ 1 → ⊥) → Completes (IsNamed count) bytes Impossible
named_not_full count bytes length size full other = counted_full_none kind.Text (OneLetter count) bytes length size full (λ rest s. other s.0)

-- ---- operations

operation_least : HasLeast IsOperation 5
operation_least =
    let has = named_least 3 (inl refl) in
    let size = has.size in
    record {
      shortest = 0x93 ∷ has.shortest;
      bytes = bytes-append (0x93 ∷ []) has.shortest (one_byte 0x93 (omega arith)) has.bytes;
      size = omega arith;
      spelled = (3, 0x93 ∷ [], has.shortest, refl, inl (omega arith, refl), has.spelled);
      bound = bound;
    }
  where
    bound : (spelling : List ℕ) → AreBytes spelling → IsOperation spelling → 5 ≤ length spelling
    bound spelling each (count, head, rest, parts, h, s) =
        let many = named_many count rest s in
        let enough = (named_least count many).bound rest (rest-bytes head rest (subst AreBytes parts each)) s in
        let some = head_some kind.Array count head h in
        let both = ap length parts ∙ length-append head rest in
        elim many [
          | inl three ↦ omega arith
          | inr five ↦ omega arith
        ]

pub operation_cut : (bytes : List ℕ) (missing : ℕ) → IsCutHead kind.Array bytes 0 missing → Completes IsOperation bytes (Missing (missing + 4))
operation_cut bytes missing cut =
    let has = named_least 3 (inl refl) in
    counted_cut kind.Array IsNamed bytes 0 missing cut 4 3 (omega arith) has.shortest has.bytes has.size has.spelled (λ other rest each _ s. bound other rest each s (named_many other rest s))
  where
    bound : (other : ℕ) (rest : List ℕ) → AreBytes rest → IsNamed other rest → (other ≡ 3) ⊎ (other ≡ 5) → 4 ≤ length rest
    bound other rest each s (inl three) = let enough = (named_least other (inl three)).bound rest each s in omega arith
    bound other rest each s (inr five) = let enough = (named_least other (inr five)).bound rest each s in omega arith

pub operation_not_cut : (bytes : List ℕ) (count missing : ℕ) → IsCutHead kind.Array bytes count missing → (count ≡ 0 → ⊥) → Completes IsOperation bytes Impossible
operation_not_cut bytes count missing cut some = counted_cut_none kind.Array IsNamed bytes count missing cut (λ other rest high s. none other high (named_many other rest s) cut.high)
  where
    none : (other : ℕ) → count ≤ other → (other ≡ 3) ⊎ (other ≡ 5) → (count ≡ 0) ⊎ (256 ≤ count) → ⊥
    none other high which (inl zeros) = some zeros
    none other high (inl three) (inr long) = omega arith
    none other high (inr five) (inr long) = omega arith

pub operation_not_full : (bytes : List ℕ) (count size : ℕ) → IsFullHead kind.Array bytes count size → ((count ≡ 3) ⊎ (count ≡ 5) → ⊥) → Completes IsOperation bytes Impossible
operation_not_full bytes count size full other = counted_full_none kind.Array IsNamed bytes count size full (λ rest s. other (named_many count rest s))

-- ---- operations in a row

row_least : (count : ℕ) → HasLeast (InRow IsOperation count) (5 * count)
row_least zero = record { shortest = []; bytes = λ i. omega arith; size = refl; spelled = refl; bound = λ spelling each s. omega arith }
row_least (suc count) =
    let more : 5 + 5 * count ≡ 5 * suc count = omega arith in
    subst (HasLeast (InRow IsOperation (suc count))) more (least_in_turn IsOperation (InRow IsOperation count) 5 (5 * count) operation_least (row_least count))

-- those that are left complete all
pub record Passed (count : ℕ) (bytes : List ℕ) (left : ℕ) (rest : List ℕ) : Type 0 where
  pub few : left ≤ count
  pub within : length rest ≤ length bytes
  pub completes : (inside : Completion) → Completes (InRow IsOperation left) rest inside → Completes (InRow IsOperation count) bytes (longer (length bytes - length rest) inside)

longer_twice : (inside : Completion) (one other both : ℕ) → one + other ≡ both → longer one (longer other inside) ≡ longer both inside
longer_twice (Whole size) one other both same = ap (λ (n : ℕ). Whole n) (omega arith)
longer_twice (Missing least) one other both same = refl
longer_twice Impossible one other both same = refl

module _ (count : ℕ) (bytes : List ℕ) (left : ℕ) (rest : List ℕ) (passed : Passed count bytes (suc left) rest) where
  pub one_passed : (size : ℕ) → Completes IsOperation rest (Whole size) → Passed count bytes left (drop size rest)
  one_passed size first =
      let few = passed.few in
      let within = passed.within in
      let stands = first.stands.0 in
      let behind = length-drop size rest in
      let both : (length bytes - length rest) + size ≡ length bytes - length (drop size rest) = omega arith in
      record {
        few = omega arith;
        within = omega arith;
        completes = λ inside c.
            subst (Completes (InRow IsOperation count) bytes) (longer_twice inside (length bytes - length rest) size (length bytes - length (drop size rest)) both)
            (passed.completes (longer size inside) (whole_first IsOperation (InRow IsOperation left) rest size first inside c));
      }

  pub cut_inside : (least : ℕ) → Completes IsOperation rest (Missing least) → Completes (InRow IsOperation count) bytes (Missing (least + 5 * left))
  cut_inside least first = passed.completes (Missing (least + 5 * left)) (missing_first IsOperation (InRow IsOperation left) rest least (5 * left) first (row_least left))

  pub impossible_inside : Completes IsOperation rest Impossible → Completes (InRow IsOperation count) bytes Impossible
  impossible_inside first = passed.completes Impossible (impossible_first IsOperation (InRow IsOperation left) rest first)

pub all_passed : (count : ℕ) (bytes rest : List ℕ) → Passed count bytes 0 rest → Completes (InRow IsOperation count) bytes (Whole (length bytes - length rest))
all_passed count bytes rest passed =
    let none : Completes (InRow IsOperation 0) rest (Whole 0) = record { stands = (omega arith, refl); allows = λ missing spelling rest each e s. s } in
    subst (Completes (InRow IsOperation count) bytes) (ap (λ (n : ℕ). Whole n) (omega arith)) (passed.completes (Whole 0) none)

-- ---- an array of operations

pub array_cut : (bytes : List ℕ) (count missing : ℕ) → IsCutHead kind.Array bytes count missing → count ≤ max_operations → Completes (Counted kind.Array AreFewOperations) bytes (Missing (missing + 5 * count))
array_cut bytes count missing cut few =
    let has = row_least count in
    let same : count ≡ count + 0 = omega arith in
    counted_cut kind.Array AreFewOperations bytes count missing cut (5 * count) 0 (omega arith) has.shortest has.bytes has.size
    (subst (λ (n : ℕ). AreFewOperations n has.shortest) same (few, has.spelled)) bound
  where
    bound : (other : ℕ) (rest : List ℕ) → AreBytes rest → count ≤ other → AreFewOperations other rest → 5 * count ≤ length rest
    bound other rest each high (few, row) = let enough = (row_least other).bound rest each row in omega arith

pub array_not_cut : (bytes : List ℕ) (count missing : ℕ) → IsCutHead kind.Array bytes count missing → max_operations < count → Completes (Counted kind.Array AreFewOperations) bytes Impossible
array_not_cut bytes count missing cut many = counted_cut_none kind.Array AreFewOperations bytes count missing cut (λ other rest high s. let few = s.0 in omega arith)

module _ (bytes : List ℕ) (count size : ℕ) (full : IsFullHead kind.Array bytes count size) where
  pub array_full : (inside : Completion) → count ≤ max_operations → Completes (InRow IsOperation count) (drop size bytes) inside
      → Completes (Counted kind.Array AreFewOperations) bytes (longer size inside)
  array_full inside few completes =
      counted_full kind.Array AreFewOperations bytes count size full inside
      (completes_same (InRow IsOperation count) (AreFewOperations count) (drop size bytes) inside (λ l s. (few, s)) (λ l s. s.1) completes)

  pub array_not_full : max_operations < count → Completes (Counted kind.Array AreFewOperations) bytes Impossible
  array_not_full many = counted_full_none kind.Array AreFewOperations bytes count size full (λ rest s. let few = s.0 in omega arith)
