-- What an operator's letter wants behind it is what is read as its operation.
use Rattle.std.proofs.Common.{◌≡◌, ◌⊎◌, inl, inr, ℕ, Bool, true, false, List, [], ◌∷◌, Option, Some, None, Result, Ok, refl, sym, ap, ◌∙◌, subst}
use Rattle.std.specs.Prelude.{ℤ, nat_le, ◌==◌, if◌then◌else◌}
use Rattle.std.specs.Option.{ok_or, option_map}
use Rattle.std.proofs.lemmas.Bool.{eqb-true, cases_Bool, leb-true, le-leb}
use Rattle.mx_msgpack.specs.Projections.{as_int, as_text, first_as}
use Rattle.mx_msgpack.specs.Readers.{◌>>=◌, unsigned_in}
use Rattle.mx_msgpack.proofs.Options.{bind_some, allowed, mapped_some}
use Rattle.mx_operations.specs.declared.fault.ShapeFault.{ShapeFault}
use Rattle.mx_operations.specs.declared.fault.ShapeFault.TheVariants.{BadArgument}
use Rattle.mx_operations.specs.Operations.{Operation, Assign, Insert, Delete, Add, Subtract, And, Or, Xor, Splice, one_or_more, splice_of, operation_by_name}
use Rattle.mx_completion.specs.declared.operations.Operand.{Operand}
use Rattle.mx_completion.specs.declared.operations.Operand.TheVariants.{Number, Count, Bits, Any, Text}
use Rattle.mx_completion.specs.OperationForms.{operands_of}
use Rattle.mx_completion.proofs.OperandLaws.{Reads, ReadsAll}

-- what a letter makes of the values behind it
abbrev pub ReadBy : (letter : ℕ) → List (List ℕ) → Result Operation ShapeFault
ReadBy letter spellings = operation_by_name (Some (letter ∷ [])) spellings

abbrev judged : (field : Option ℤ) → (ℤ → Option Operation) → Result Operation ShapeFault
judged field rest = ok_or (field >>= rest) BadArgument

judged_ok : (field : Option ℤ) (rest : ℤ → Option Operation) (operation : Operation) → judged field rest ≡ Ok operation
    → (number : ℤ) × (field ≡ Some number) × (rest number ≡ Some operation)
judged_ok None rest operation e = absurd cc
judged_ok (Some number) rest operation e = (number, refl, by (rest number) e)
  where
    by : (found : Option Operation) → ok_or found BadArgument ≡ Ok operation → found ≡ Some operation
    by None e = absurd cc
    by (Some other) e = cc

never_ok : (field : Option ℤ) (operation : Operation) → judged field (λ number. None) ≡ Ok operation → ⊥
never_ok field operation e = let (number, is, none) = judged_ok field (λ number. None) operation e in absurd cc

judged_some : (field : Option ℤ) (rest : ℤ → Option Operation) (number : ℤ) (operation : Operation) → field ≡ Some number → rest number ≡ Some operation
    → judged field rest ≡ Ok operation
judged_some field rest number operation is made =
    ap (λ (o : Option ℤ). judged o rest) is ∙ ap (λ (o : Option Operation). ok_or o BadArgument) made

-- ---- a letter with one argument

record OneArgument (letter : ℕ) (operand : Operand) : Type 0 where
  with : ℤ → List ℕ → Option Operation
  none : (operation : Operation) → ReadBy letter [] ≡ Ok operation → ⊥
  alone : (field : List ℕ) → ReadBy letter (field ∷ []) ≡ judged (first_as as_int field) (λ number. None)
  one : (field argument : List ℕ) → ReadBy letter (field ∷ argument ∷ []) ≡ judged (first_as as_int field) (λ number. with number argument)
  more : (field one other : List ℕ) (others : List (List ℕ)) → ReadBy letter (field ∷ one ∷ other ∷ others) ≡ judged (first_as as_int field) (λ number. None)
  reads : (number : ℤ) (argument : List ℕ) (operation : Operation) → with number argument ≡ Some operation → Reads operand argument
  read : (number : ℤ) (argument : List ℕ) → Reads operand argument → (operation : Operation) × (with number argument ≡ Some operation)

module _ (letter : ℕ) (operand : Operand) (by : OneArgument letter operand) where
  one_reads : (spellings : List (List ℕ)) (operation : Operation) → ReadBy letter spellings ≡ Ok operation → ReadsAll (Number ∷ operand ∷ []) spellings
  one_reads [] operation e = absurd (by.none operation e)
  one_reads (field ∷ []) operation e = absurd (never_ok (first_as as_int field) operation (sym (by.alone field) ∙ e))
  one_reads (field ∷ argument ∷ []) operation e =
      let (number, is, made) = judged_ok (first_as as_int field) (λ number. by.with number argument) operation (sym (by.one field argument) ∙ e) in
      ((number, is), (by.reads number argument operation made, tt))
  one_reads (field ∷ one ∷ other ∷ others) operation e = absurd (never_ok (first_as as_int field) operation (sym (by.more field one other others) ∙ e))

  one_read : (spellings : List (List ℕ)) → ReadsAll (Number ∷ operand ∷ []) spellings → (operation : Operation) × (ReadBy letter spellings ≡ Ok operation)
  one_read [] reads = absurd reads
  one_read (field ∷ []) (first, reads) = absurd reads
  one_read (field ∷ argument ∷ []) ((number, is), (reads, _)) =
      let (operation, made) = by.read number argument reads in
      (operation, by.one field argument ∙ judged_some (first_as as_int field) (λ number. by.with number argument) number operation is made)
  one_read (field ∷ one ∷ other ∷ others) (first, (second, reads)) = absurd reads

assign : OneArgument 61 Any
assign = record {
  with = λ number argument. Some (Assign number argument);
  none = λ operation e. absurd cc;
  alone = λ field. refl;
  one = λ field argument. refl;
  more = λ field one other others. refl;
  reads = λ number argument operation e. tt;
  read = λ number argument reads. (Assign number argument, refl);
}

insert : OneArgument 33 Any
insert = record {
  with = λ number argument. Some (Insert number argument);
  none = λ operation e. absurd cc;
  alone = λ field. refl;
  one = λ field argument. refl;
  more = λ field one other others. refl;
  reads = λ number argument operation e. tt;
  read = λ number argument reads. (Insert number argument, refl);
}

delete : OneArgument 35 Count
delete = record {
  with = λ number argument. option_map (Delete number) (unsigned_in argument >>= one_or_more);
  none = λ operation e. absurd cc;
  alone = λ field. refl;
  one = λ field argument. refl;
  more = λ field one other others. refl;
  reads = λ number argument operation e.
      let (count, made, same) = mapped_some (Delete number) (unsigned_in argument >>= one_or_more) operation e in
      let (read, is, enough) = bind_some (unsigned_in argument) one_or_more count made in
      let (some, whole) = allowed (nat_le 1 read) (Some read) count enough in
      (read, is, leb-true 1 read some);
  read = λ number argument reads.
      let (count, is, some) = reads in (
        Delete number count,
        ap (λ (o : Option ℕ). option_map (Delete number) (o >>= one_or_more)) is
            ∙ ap (λ (b : Bool). option_map (Delete number) (if b then Some count else None)) (le-leb 1 count some),
      );
}

-- a number as the operand
abbrev with_int : (ℤ → ℤ → Operation) → ℤ → List ℕ → Option Operation
with_int make number argument = option_map (make number) (first_as as_int argument)

int_reads : (make : ℤ → ℤ → Operation) (number : ℤ) (argument : List ℕ) (operation : Operation) → with_int make number argument ≡ Some operation → Reads Number argument
int_reads make number argument operation e = let (operand, is, same) = mapped_some (make number) (first_as as_int argument) operation e in (operand, is)

int_read : (make : ℤ → ℤ → Operation) (number : ℤ) (argument : List ℕ) → Reads Number argument → (operation : Operation) × (with_int make number argument ≡ Some operation)
int_read make number argument (operand, is) = (make number operand, ap (option_map (make number)) is)

add : OneArgument 43 Number
add = record {
  with = with_int Add;
  none = λ operation e. absurd cc;
  alone = λ field. refl;
  one = λ field argument. refl;
  more = λ field one other others. refl;
  reads = int_reads Add;
  read = int_read Add;
}

subtract : OneArgument 45 Number
subtract = record {
  with = with_int Subtract;
  none = λ operation e. absurd cc;
  alone = λ field. refl;
  one = λ field argument. refl;
  more = λ field one other others. refl;
  reads = int_reads Subtract;
  read = int_read Subtract;
}

-- a number of 0 or more as the operand
abbrev with_bits : (ℤ → ℕ → Operation) → ℤ → List ℕ → Option Operation
with_bits make number argument = option_map (make number) (unsigned_in argument)

bits_reads : (make : ℤ → ℕ → Operation) (number : ℤ) (argument : List ℕ) (operation : Operation) → with_bits make number argument ≡ Some operation → Reads Bits argument
bits_reads make number argument operation e = let (operand, is, same) = mapped_some (make number) (unsigned_in argument) operation e in (operand, is)

bits_read : (make : ℤ → ℕ → Operation) (number : ℤ) (argument : List ℕ) → Reads Bits argument → (operation : Operation) × (with_bits make number argument ≡ Some operation)
bits_read make number argument (operand, is) = (make number operand, ap (option_map (make number)) is)

and : OneArgument 38 Bits
and = record {
  with = with_bits And;
  none = λ operation e. absurd cc;
  alone = λ field. refl;
  one = λ field argument. refl;
  more = λ field one other others. refl;
  reads = bits_reads And;
  read = bits_read And;
}

or : OneArgument 124 Bits
or = record {
  with = with_bits Or;
  none = λ operation e. absurd cc;
  alone = λ field. refl;
  one = λ field argument. refl;
  more = λ field one other others. refl;
  reads = bits_reads Or;
  read = bits_read Or;
}

xor : OneArgument 94 Bits
xor = record {
  with = with_bits Xor;
  none = λ operation e. absurd cc;
  alone = λ field. refl;
  one = λ field argument. refl;
  more = λ field one other others. refl;
  reads = bits_reads Xor;
  read = bits_read Xor;
}

-- ---- the letter with three

splice_parts : (number : ℤ) (position cut text : List ℕ) (operation : Operation) → splice_of number position cut text ≡ Some operation
    → Reads Number position × Reads Number cut × Reads Text text
splice_parts number position cut text operation e =
    let (from, first, more) = bind_some (first_as as_int position) _ operation e in
    let (size, second, last) = bind_some (first_as as_int cut) _ operation more in
    let (inserted, third, same) = bind_some (first_as as_text text) _ operation last in
    ((from, first), (size, second), (inserted, third))

splice_from : (number from size : ℤ) (position cut text inserted : List ℕ) → first_as as_int position ≡ Some from → first_as as_int cut ≡ Some size → first_as as_text text ≡ Some inserted
    → splice_of number position cut text ≡ Some (Splice number from size inserted)
splice_from number from size position cut text inserted first second third =
    ap (λ (o : Option ℤ). o >>= (λ from. first_as as_int cut >>= (λ size. first_as as_text text >>= (λ inserted. Some (Splice number from size inserted))))) first
    ∙ ap (λ (o : Option ℤ). o >>= (λ size. first_as as_text text >>= (λ inserted. Some (Splice number from size inserted)))) second
    ∙ ap (λ (o : Option (List ℕ)). o >>= (λ inserted. Some (Splice number from size inserted))) third

abbrev splice_operands : List Operand
splice_operands = Number ∷ Number ∷ Number ∷ Text ∷ []

splice_reads : (spellings : List (List ℕ)) (operation : Operation) → ReadBy 58 spellings ≡ Ok operation → ReadsAll splice_operands spellings
splice_reads [] operation e = absurd cc
splice_reads (field ∷ []) operation e = absurd (never_ok (first_as as_int field) operation e)
splice_reads (field ∷ position ∷ []) operation e = absurd (never_ok (first_as as_int field) operation e)
splice_reads (field ∷ position ∷ cut ∷ []) operation e = absurd (never_ok (first_as as_int field) operation e)
splice_reads (field ∷ position ∷ cut ∷ text ∷ []) operation e =
    let (number, is, made) = judged_ok (first_as as_int field) (λ number. splice_of number position cut text) operation e in
    let (first, second, third) = splice_parts number position cut text operation made in
    ((number, is), (first, (second, (third, tt))))
splice_reads (field ∷ position ∷ cut ∷ text ∷ other ∷ others) operation e = absurd (never_ok (first_as as_int field) operation e)

splice_read : (spellings : List (List ℕ)) → ReadsAll splice_operands spellings → (operation : Operation) × (ReadBy 58 spellings ≡ Ok operation)
splice_read [] reads = absurd reads
splice_read (field ∷ []) reads = absurd reads.1
splice_read (field ∷ position ∷ []) reads = absurd reads.1.1
splice_read (field ∷ position ∷ cut ∷ []) reads = absurd reads.1.1.1
splice_read (field ∷ position ∷ cut ∷ text ∷ []) ((number, is), ((from, first), ((size, second), ((inserted, third), _)))) = (
  Splice number from size inserted,
  judged_some (first_as as_int field) (λ number. splice_of number position cut text) number (Splice number from size inserted) is
      (splice_from number from size position cut text inserted first second third),
)
splice_read (field ∷ position ∷ cut ∷ text ∷ other ∷ others) reads = absurd reads.1.1.1.1

-- ---- all letters

-- it wants these operands, and is read with them alone
pub record IsRead (letter : ℕ) (operands : List Operand) : Type 0 where
  pub known : operands_of letter ≡ Some operands
  pub reads : (spellings : List (List ℕ)) (operation : Operation) → ReadBy letter spellings ≡ Ok operation → ReadsAll operands spellings
  pub read : (spellings : List (List ℕ)) → ReadsAll operands spellings → (operation : Operation) × (ReadBy letter spellings ≡ Ok operation)

-- no operator has the letter
pub record IsUnread (letter : ℕ) : Type 0 where
  pub unknown : operands_of letter ≡ None
  pub never : (spellings : List (List ℕ)) (operation : Operation) → ReadBy letter spellings ≡ Ok operation → ⊥

one_is_read : (letter : ℕ) (operand : Operand) → operands_of letter ≡ Some (Number ∷ operand ∷ []) → OneArgument letter operand → IsRead letter (Number ∷ operand ∷ [])
one_is_read letter operand known by = record { known = known; reads = one_reads letter operand by; read = one_read letter operand by }

abbrev IsAny : ℕ → Type 0
IsAny letter = ((operands : List Operand) × IsRead letter operands) ⊎ IsUnread letter

at : (letter byte : ℕ) (operands : List Operand) → (letter == byte) ≡ true → IsRead byte operands → IsAny letter
at letter byte operands t read = inl (operands, subst (λ (n : ℕ). IsRead n operands) (sym (eqb-true letter byte t)) read)

pub any_letter : (letter : ℕ) → IsAny letter
any_letter letter = elim (cases_Bool (letter == 61)) [
  | inl t ↦ at letter 61 _ t (one_is_read 61 Any refl assign)
  | inr f1 ↦ elim (cases_Bool (letter == 33)) [
    | inl t ↦ at letter 33 _ t (one_is_read 33 Any refl insert)
    | inr f2 ↦ elim (cases_Bool (letter == 35)) [
      | inl t ↦ at letter 35 _ t (one_is_read 35 Count refl delete)
      | inr f3 ↦ elim (cases_Bool (letter == 43)) [
        | inl t ↦ at letter 43 _ t (one_is_read 43 Number refl add)
        | inr f4 ↦ elim (cases_Bool (letter == 45)) [
          | inl t ↦ at letter 45 _ t (one_is_read 45 Number refl subtract)
          | inr f5 ↦ elim (cases_Bool (letter == 38)) [
            | inl t ↦ at letter 38 _ t (one_is_read 38 Bits refl and)
            | inr f6 ↦ elim (cases_Bool (letter == 124)) [
              | inl t ↦ at letter 124 _ t (one_is_read 124 Bits refl or)
              | inr f7 ↦ elim (cases_Bool (letter == 94)) [
                | inl t ↦ at letter 94 _ t (one_is_read 94 Bits refl xor)
                | inr f8 ↦ elim (cases_Bool (letter == 58)) [
                  | inl t ↦ at letter 58 splice_operands t (record { known = refl; reads = splice_reads; read = splice_read })
                  | inr f9 ↦ inr (unread f1 f2 f3 f4 f5 f6 f7 f8 f9)
                ]
              ]
            ]
          ]
        ]
      ]
    ]
  ]
]
  where
    unread : (letter == 61) ≡ false → (letter == 33) ≡ false → (letter == 35) ≡ false → (letter == 43) ≡ false → (letter == 45) ≡ false → (letter == 38) ≡ false
        → (letter == 124) ≡ false → (letter == 94) ≡ false → (letter == 58) ≡ false → IsUnread letter
    unread f1 f2 f3 f4 f5 f6 f7 f8 f9 = record {
      unknown = rw (f1, f2, f3, f4, f5, f6, f7, f8, f9) refl;
      never = λ spellings operation e. let read = rw (f1, f2, f3, f4, f5, f6, f7, f8, f9) at e in absurd cc;
    }
