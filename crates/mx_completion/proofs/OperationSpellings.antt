-- An array of update operations is a head and, one after the other, the parts of each operation.
use Rattle.std.proofs.Common.{◌≡◌, ◌⊎◌, inl, inr, ℕ, zero, suc, ◌+◌, ◌<◌, ◌≤◌, Bool, true, false, List, [], ◌∷◌, ◌++◌, length, Option, Some, None, Result, Ok, Err, refl, sym, ap, ◌∙◌, subst, append_assoc, arith}
use Rattle.std.specs.Prelude.{nat_lt, if◌then◌else◌, ◌==◌}
use Rattle.std.specs.Option.{option_and_then, option_map}
use Rattle.std.proofs.lemmas.Bool.{ltb-true, lt-ltb}
use Rattle.mx_msgpack.specs.Grammar as grammar
use Rattle.mx_msgpack.specs.Grammar.{Value, Values, NoValue, MoreValues, value_count, max_length, StrHead, ArrayHead, Spells, SpellsAll}
use Rattle.mx_msgpack.specs.Items as items
use Rattle.mx_msgpack.specs.Items.{first_value, values_from, array_of, items_of}
use Rattle.mx_msgpack.specs.Projections.{as_array, as_text, first_as, shown_first}
use Rattle.mx_msgpack.specs.Reading.{Shown}
use Rattle.mx_msgpack.proofs.FrontLaws.{roomier}
use Rattle.mx_msgpack.proofs.ItemLaws.{first_is, array_read, items_spelled, values_count}
use Rattle.mx_msgpack.proofs.Options.{bind_some, allowed, same_some}
use Rattle.mx_msgpack.proofs.PrefixLaws.{one_value}
use Rattle.mx_operations.specs.declared.fault.ShapeFault.{ShapeFault}
use Rattle.mx_operations.specs.declared.fault.ShapeFault.TheVariants.{BadArgument}
use Rattle.mx_operations.specs.declared.fault.OperationFault.{OperationFault}
use Rattle.mx_operations.specs.Operations.{Operation, operation_by, operation_by_name, operation_in, operation_and_others, operations_from, max_operations}
use Rattle.mx_request.specs.Operators.{refused, shape_fault}
use Rattle.mx_request.specs.Spelling.{AreOperations}
use Rattle.mx_completion.specs.declared.completion.Completion.{Completion}
use Rattle.mx_completion.specs.declared.leading.Kind.TheVariants as kind
use Rattle.mx_completion.specs.declared.operations.Operand.{Operand}
use Rattle.mx_completion.specs.OperationForms.{Counted, IsNamed, IsOperation, AreFewOperations}
use Rattle.mx_completion.specs.Completions.{Completes}
use Rattle.mx_completion.specs.Sequences.{InRow}
use Rattle.mx_completion.proofs.LetterLaws.{ReadBy, IsRead, IsUnread, any_letter}
use Rattle.mx_completion.proofs.OperandLaws.{ReadsAll, reads_many, operands_spelled, operands_read, text_from, text_read_as, more_room}
use Rattle.mx_completion.proofs.OperationCompletions.{operands_many}
use Rattle.mx_completion.proofs.SequenceLaws.{completes_same}

-- ---- the values of an operation

-- the name and the operands, by the first value
named_by : (name : Value) (operands : Values) (front rest content : List ℕ) → content ≡ front ++ rest → Spells 61 name front
    → operation_by (Some (values_from (suc (value_count operands)) content)) ≡ operation_by_name (first_as as_text front) (values_from (value_count operands) rest)
named_by name operands front rest content parts s =
    let first = first_is name front rest (roomier 62 name front (roomier 61 name front s)) in
    let front_is : first_value content ≡ front = ap first_value parts ∙ first.0 in
    let rest_is : items.after_value content ≡ rest = ap items.after_value parts ∙ first.1 in
    (λ i. operation_by_name (first_as as_text (front_is i)) (values_from (value_count operands) (rest_is i)))

letter_is : (name : Option (List ℕ)) (spellings : List (List ℕ)) (operation : Operation) → operation_by_name name spellings ≡ Ok operation
    → (letter : ℕ) × (name ≡ Some (letter ∷ [])) × (ReadBy letter spellings ≡ Ok operation)
letter_is None spellings operation e = absurd cc
letter_is (Some []) spellings operation e = absurd cc
letter_is (Some (letter ∷ [])) spellings operation e = (letter, refl, e)
letter_is (Some (letter ∷ other ∷ others)) spellings operation e = absurd cc

values_named : (values : Values) (content : List ℕ) (operation : Operation) → SpellsAll 61 values content → operation_by (Some (values_from (value_count values) content)) ≡ Ok operation
    → IsNamed (value_count values) content
values_named NoValue content operation s e = absurd cc
values_named (MoreValues name operands) content operation (front, rest, parts, s, ss) e =
    let (letter, text, read) = letter_is (first_as as_text front) (values_from (value_count operands) rest) operation (sym (named_by name operands front rest content parts s) ∙ e) in
    by letter (text_from name front (more_room name front s) (letter ∷ []) text) (any_letter letter) read
  where
    by : (letter : ℕ) → Spells 64 (grammar.Str (letter ∷ [])) front → ((wanted : List Operand) × IsRead letter wanted) ⊎ IsUnread letter
        → ReadBy letter (values_from (value_count operands) rest) ≡ Ok operation → IsNamed (suc (value_count operands)) content
    by letter text (inr unread) read = absurd (unread.never (values_from (value_count operands) rest) operation read)
    by letter (head, h, few, spelled) (inl (wanted, reads)) read =
        let all = reads.reads (values_from (value_count operands) rest) operation read in
        let many = sym (reads_many wanted (values_from (value_count operands) rest) all) ∙ values_count (value_count operands) rest in
        let whole : content ≡ head ++ (letter ∷ rest) = parts ∙ ap (λ (l : List ℕ). l ++ rest) spelled ∙ append_assoc head (letter ∷ []) rest in
        (1, head, letter ∷ rest, whole, h, (refl, (letter, wanted, rest, refl, reads.known, ap suc many, operands_spelled wanted operands rest ss all)))

named_values : (count : ℕ) (content : List ℕ) → IsNamed count content
    → (values : Values) × (value_count values ≡ count) × (count ≤ max_length) × SpellsAll 61 values content
    × (operation : Operation) × (operation_by (Some (values_from (value_count values) content)) ≡ Ok operation)
named_values count content (size, head, rest, parts, h, (one, (letter, wanted, others, behind, known, many, s))) = by (any_letter letter)
  where
    by : ((operands : List Operand) × IsRead letter operands) ⊎ IsUnread letter
        → (values : Values) × (value_count values ≡ count) × (count ≤ max_length) × SpellsAll 61 values content
        × (operation : Operation) × (operation_by (Some (values_from (value_count values) content)) ≡ Ok operation)
    by (inr unread) = let none = sym known ∙ unread.unknown in absurd cc
    by (inl (operands, reads)) =
        let same : operands ≡ wanted = same_some operands wanted (sym reads.known ∙ known) in
        let (values, as_many, all, read_all) = operands_read wanted others s in
        let front = head ++ letter ∷ [] in
        let text : Spells 61 (grammar.Str (letter ∷ [])) front = (head, subst (λ (n : ℕ). StrHead n head) one h, omega arith, refl) in
        let whole : content ≡ front ++ others = parts ∙ ap (λ (l : List ℕ). head ++ l) behind ∙ sym (append_assoc head (letter ∷ []) others) in
        let named = named_by (grammar.Str (letter ∷ [])) values front others content whole text in
        let text_is : first_as as_text front ≡ Some (letter ∷ []) = text_read_as (letter ∷ []) front (more_room (grammar.Str (letter ∷ [])) front text) in
        let reads_so : ReadsAll operands (values_from (value_count values) others) =
        subst (λ (o : List Operand). ReadsAll o (values_from (value_count values) others)) (sym same)
        (subst (λ (n : ℕ). ReadsAll wanted (values_from n others)) (sym as_many) read_all) in
        let (operation, made) = reads.read (values_from (value_count values) others) reads_so in
        let two = operands_many letter wanted known in (
          MoreValues (grammar.Str (letter ∷ [])) values,
          ap suc as_many ∙ many,
          elim two [ inl two ↦ omega arith | inr four ↦ omega arith ],
          (front, others, whole, text, all),
          operation,
          named ∙ ap (λ (o : Option (List ℕ)). operation_by_name o (values_from (value_count values) others)) text_is ∙ made,
        )

-- ---- an operation

all_roomier : (room : ℕ) (values : Values) (bytes : List ℕ) → SpellsAll room values bytes → SpellsAll (suc room) values bytes
all_roomier room NoValue bytes e = e
all_roomier room (MoreValues value others) bytes (front, rest, e, s, ss) = (front, rest, e, roomier room value front s, all_roomier room others rest ss)

-- how an array of these values is read
items_are : (values : Values) (head content : List ℕ) → ArrayHead (value_count values) head → value_count values ≤ max_length → SpellsAll 61 values content
    → items_of (head ++ content) ≡ Some (values_from (value_count values) content)
items_are values head content h few s =
    ap (option_map (λ (array : ℕ × List ℕ). values_from array.0 array.1))
    (array_read values head content h few (all_roomier 62 values content (all_roomier 61 values content s)))

operation_spelled : (value : Value) (bytes : List ℕ) (operation : Operation) → Spells 62 value bytes → operation_in bytes ≡ Ok operation → IsOperation bytes
unfolding operation_in
operation_spelled value bytes operation s e = by (items_of bytes) refl
  where
    by_array : (values : Values) → Spells 62 (grammar.Array values) bytes → IsOperation bytes
    by_array values (head, content, h, few, parts, ss) =
        let read : operation_by (Some (values_from (value_count values) content)) ≡ Ok operation =
        ap operation_by (sym (ap items_of parts ∙ items_are values head content h few ss)) ∙ e in
        (value_count values, head, content, parts, h, values_named values content operation ss read)

    by : (spellings : Option (List (List ℕ))) → items_of bytes ≡ spellings → IsOperation bytes
    by None is = let none = ap operation_by (sym is) ∙ e in absurd cc
    by (Some spellings) is =
        let (values, array) = items_spelled bytes spellings is in
        let same : value ≡ grammar.Array values = one_value 64 value (grammar.Array values) bytes (roomier 63 value bytes (roomier 62 value bytes s)) array in
        by_array values (subst (λ (v : Value). Spells 62 v bytes) same s)

operation_read : (bytes : List ℕ) → IsOperation bytes → (value : Value) × Spells 62 value bytes × (operation : Operation) × (operation_in bytes ≡ Ok operation)
unfolding operation_in
operation_read bytes (count, head, content, parts, h, named) =
    let (values, many, few, all, operation, read) = named_values count content named in
    let array : ArrayHead (value_count values) head = subst (λ (n : ℕ). ArrayHead n head) (sym many) h in
    let little : value_count values ≤ max_length = omega arith in
    (grammar.Array values, (head, content, array, little, parts, all), operation, ap operation_by (ap items_of parts ∙ items_are values head content array little all) ∙ read)

-- ---- operations in a row

judged_here : (b : Bool) (whole : Result (List Operation) OperationFault) (fault : OperationFault) (all : List Operation) → (if b then whole else Err fault) ≡ Ok all
    → (b ≡ true) × (whole ≡ Ok all)
judged_here true whole fault all e = (refl, e)
judged_here false whole fault all e = absurd cc

first_of : (place : ℕ) (first : Result Operation ShapeFault) (others : Result (List Operation) OperationFault) (all : List Operation) → operation_and_others place first others ≡ Ok all
    → ((operation : Operation) × (first ≡ Ok operation)) × ((rest : List Operation) × (others ≡ Ok rest))
first_of place (Err fault) others all e = absurd cc
first_of place (Ok operation) (Err fault) all e = absurd cc
first_of place (Ok operation) (Ok rest) all e = ((operation, refl), (rest, refl))

-- the operation that stands first, and the others
row_from : (place : ℕ) (value : Value) (values : Values) (front rest content : List ℕ) → content ≡ front ++ rest → Spells 62 value front
    → operations_from place (values_from (suc (value_count values)) content)
    ≡ (if nat_lt place max_operations then operation_and_others place (operation_in front) (operations_from (suc place) (values_from (value_count values) rest))
    else Err (record { place = place; fault = BadArgument }))
row_from place value values front rest content parts s =
    let first = first_is value front rest (roomier 62 value front s) in
    let front_is : first_value content ≡ front = ap first_value parts ∙ first.0 in
    let rest_is : items.after_value content ≡ rest = ap items.after_value parts ∙ first.1 in
    (λ i. if nat_lt place max_operations then operation_and_others place (operation_in (front_is i)) (operations_from (suc place) (values_from (value_count values) (rest_is i)))
    else Err (record { place = place; fault = BadArgument }))

row_spelled : (values : Values) (place : ℕ) (content : List ℕ) (all : List Operation) → SpellsAll 62 values content → operations_from place (values_from (value_count values) content) ≡ Ok all
    → ((value_count values ≡ 0) ⊎ (place + value_count values ≤ max_operations)) × InRow IsOperation (value_count values) content
row_spelled NoValue place content all s e = (inl refl, s)
row_spelled (MoreValues value values) place content all (front, rest, parts, s, ss) e =
    let (early, whole) = judged_here (nat_lt place max_operations) _ _ all (sym (row_from place value values front rest content parts s) ∙ e) in
    let ((operation, first), (others, behind)) = first_of place (operation_in front) (operations_from (suc place) (values_from (value_count values) rest)) all whole in
    let (few, row) = row_spelled values (suc place) rest others ss behind in
    let low : place < max_operations = ltb-true place max_operations early in
    (inr (elim few [ inl none ↦ omega arith | inr few ↦ omega arith ]), (front, rest, parts, operation_spelled value front operation s first, row))

row_read : (count place : ℕ) (content : List ℕ) → InRow IsOperation count content → place + count ≤ max_operations
    → (values : Values) × (value_count values ≡ count) × SpellsAll 62 values content
    × (all : List Operation) × (operations_from place (values_from (value_count values) content) ≡ Ok all)
row_read zero place content e few = (NoValue, refl, e, [], refl)
row_read (suc count) place content (front, rest, parts, is, row) few =
    let (value, s, operation, first) = operation_read front is in
    let (values, many, ss, others, behind) = row_read count (suc place) rest row (omega arith) in
    let low : nat_lt place max_operations ≡ true = lt-ltb place max_operations (omega arith) in (
      MoreValues value values,
      ap suc many,
      (front, rest, parts, s, ss),
      operation ∷ others,
      row_from place value values front rest content parts s
          ∙ ap (λ (b : Bool). if b then operation_and_others place (operation_in front) (operations_from (suc place) (values_from (value_count values) rest)) else Err (record { place = place; fault = BadArgument })) low
          ∙ (λ i. operation_and_others place (first i) (behind i)),
    )

-- ---- an array of operations

array_first : (bytes : List ℕ) (array : ℕ × List ℕ) → array_of bytes ≡ Some array → first_as as_array bytes ≡ Some array
unfolding array_of
array_first bytes array e =
    let first = bind_some (shown_first bytes) _ array e in
    let held = bind_some (as_array first.0.0) _ array first.2 in
    let whole = allowed (first.0.1 == length bytes) (Some held.0) array held.2 in
    ap (option_and_then (λ (f : Shown × ℕ). as_array f.0)) first.1 ∙ held.1 ∙ whole.1

fault_of : (values : Values) (head content bytes : List ℕ) → ArrayHead (value_count values) head → value_count values ≤ max_length → bytes ≡ head ++ content → SpellsAll 62 values content
    → shape_fault bytes ≡ refused (operations_from 0 (values_from (value_count values) content))
fault_of values head content bytes h few parts s =
    let read = array_first bytes (value_count values, content) (ap array_of parts ∙ array_read values head content h few (all_roomier 62 values content s)) in
    ap (λ (o : Option (ℕ × List ℕ)). option_and_then (λ (spellings : List (List ℕ)). refused (operations_from 0 spellings)) (option_map (λ (array : ℕ × List ℕ). values_from array.0 array.1) o)) read

not_refused : (all : Result (List Operation) OperationFault) → refused all ≡ None → (operations : List Operation) × (all ≡ Ok operations)
not_refused (Ok operations) e = (operations, refl)
not_refused (Err fault) e = absurd cc

operations_spelled : (bytes : List ℕ) → AreOperations bytes → Counted kind.Array AreFewOperations bytes
operations_spelled bytes ((values, (head, content, h, few, parts, s)), fault) =
    let (all, read) = not_refused (operations_from 0 (values_from (value_count values) content)) (sym (fault_of values head content bytes h few parts s) ∙ fault) in
    let (many, row) = row_spelled values 0 content all s read in
    (value_count values, head, content, parts, h, (elim many [ inl none ↦ omega arith | inr few ↦ omega arith ], row))

operations_read : (bytes : List ℕ) → Counted kind.Array AreFewOperations bytes → AreOperations bytes
operations_read bytes (count, head, content, parts, h, (few, row)) =
    let (values, many, s, all, read) = row_read count 0 content row (omega arith) in
    let array : ArrayHead (value_count values) head = subst (λ (n : ℕ). ArrayHead n head) (sym many) h in
    let little : value_count values ≤ max_length = omega arith in
    ((values, (head, content, array, little, parts, s)), fault_of values head content bytes array little parts s ∙ ap refused read)

pub operations_complete : (bytes : List ℕ) (completion : Completion) → Completes (Counted kind.Array AreFewOperations) bytes completion → Completes AreOperations bytes completion
operations_complete bytes completion completes = completes_same (Counted kind.Array AreFewOperations) AreOperations bytes completion operations_read operations_spelled completes
