-- Only private functions and proofs need these: the parts of an update operation, one after the other.
use Rattle.std.specs.Prelude.{◌≡◌, ℕ, suc, ◌≤◌, List, [], ◌∷◌, ◌++◌, length, Option, Some, None, ◌==◌, if◌then◌else◌}
use Rattle.mx_operations.specs.Operations.{max_operations}
use Rattle.mx_completion.specs.declared.leading.Kind.{Kind}
use Rattle.mx_completion.specs.declared.leading.Kind.TheVariants as kind
use Rattle.mx_completion.specs.declared.operations.Operand.{Operand}
use Rattle.mx_completion.specs.declared.operations.Operand.TheVariants.{Number, Count, Bits, Any, Text}
use Rattle.mx_completion.specs.Completions.{IsValueSpelling, IsTextSpelling, IsIntSpelling, IsUnsignedSpelling}
use Rattle.mx_completion.specs.HeadForms.{IsCountHead}
use Rattle.mx_completion.specs.Sequences.{InTurn, InRow}

-- a head, and behind it what the count allows
abbrev pub Counted : Kind → (Inside : (count : ℕ) → List ℕ → Type 0) → List ℕ → Type 0
Counted kind Inside bytes = (count : ℕ) × (head rest : List ℕ) × (bytes ≡ head ++ rest) × IsCountHead kind count head × Inside count rest

abbrev pub IsOperand : Operand → List ℕ → Type 0
IsOperand Number bytes = IsIntSpelling bytes
IsOperand Count bytes = IsUnsignedSpelling 1 bytes
IsOperand Bits bytes = IsUnsignedSpelling 0 bytes
IsOperand Any bytes = IsValueSpelling 61 bytes
IsOperand Text bytes = IsTextSpelling bytes

abbrev pub AreOperands : List Operand → List ℕ → Type 0
AreOperands [] bytes = bytes ≡ []
AreOperands (operand ∷ others) bytes = InTurn (IsOperand operand) (AreOperands others) bytes

-- what follows an operator's letter; none where no operator has the letter
abbrev pub operands_of : (letter : ℕ) → Option (List Operand)
operands_of letter =
    if letter == 61 then Some (Number ∷ Any ∷ [])
    else if letter == 33 then Some (Number ∷ Any ∷ [])
    else if letter == 35 then Some (Number ∷ Count ∷ [])
    else if letter == 43 then Some (Number ∷ Number ∷ [])
    else if letter == 45 then Some (Number ∷ Number ∷ [])
    else if letter == 38 then Some (Number ∷ Bits ∷ [])
    else if letter == 124 then Some (Number ∷ Bits ∷ [])
    else if letter == 94 then Some (Number ∷ Bits ∷ [])
    else if letter == 58 then Some (Number ∷ Number ∷ Number ∷ Text ∷ [])
    else None

-- the letter of an operator that has one operand less than so many, and its operands
abbrev pub IsLettered : (count : ℕ) → List ℕ → Type 0
IsLettered count bytes =
    (letter : ℕ) × (operands : List Operand) × (others : List ℕ) × (bytes ≡ letter ∷ others)
    × (operands_of letter ≡ Some operands) × (suc (length operands) ≡ count) × AreOperands operands others

-- the values of an operation, so many
abbrev pub IsNamed : (count : ℕ) → List ℕ → Type 0
IsNamed count bytes = Counted kind.Text (λ size rest. (size ≡ 1) × IsLettered count rest) bytes

abbrev pub IsOperation : List ℕ → Type 0
IsOperation bytes = Counted kind.Array IsNamed bytes

abbrev pub AreFewOperations : (count : ℕ) → List ℕ → Type 0
AreFewOperations count bytes = (count ≤ max_operations) × InRow IsOperation count bytes
