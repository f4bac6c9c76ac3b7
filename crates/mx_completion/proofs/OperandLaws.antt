-- An operand is read as its type where it is spelled as that.
use Rattle.std.proofs.Common.{◌≡◌, ℕ, suc, ◌-◌, ◌≤◌, List, [], ◌∷◌, ◌++◌, length, take, Some, Result, Ok, refl, sym, ap, ◌∙◌, subst, arith}
use Rattle.std.specs.Prelude.{⊤, ℤ, pos}
use Rattle.std.specs.Option.{option_map, option_and_then}
use Rattle.std.specs.Result.{result_ok}
use Rattle.std.proofs.lemmas.List.{append-nil, take_all, length-append}
use Rattle.mx_msgpack.specs.declared.bad.Bad.{Bad}
use Rattle.mx_msgpack.specs.Grammar as grammar
use Rattle.mx_msgpack.specs.Grammar.{Value, Values, NoValue, MoreValues, value_count, SpellsInt, Spells, SpellsAll}
use Rattle.mx_msgpack.specs.Items as items
use Rattle.mx_msgpack.specs.Items.{first_value, values_from}
use Rattle.mx_msgpack.specs.Projections.{as_int, as_text, first_as}
use Rattle.mx_msgpack.specs.Readers.{unsigned_at, unsigned_in}
use Rattle.mx_msgpack.specs.Reading.{Shown, ShownNil, ShownBool, ShownInt, ShownStr, ShownBin, ShownArray, ShownMap, ShownOpaque, shown, head_at, after_first, reading_of, measured}
use Rattle.mx_msgpack.specs.View.{Shows}
use Rattle.mx_msgpack.proofs.FrontLaws.{roomier, measured_again}
use Rattle.mx_msgpack.proofs.GrammarLaws.{value_again, value_stands}
use Rattle.mx_msgpack.proofs.Heads.{head_spelled}
use Rattle.mx_msgpack.proofs.ItemLaws.{first_is}
use Rattle.mx_msgpack.proofs.Options.{mapped_some}
use Rattle.mx_msgpack.proofs.PrefixLaws.{no_prefix_of_another, one_value}
use Rattle.mx_msgpack.proofs.ProjectionLaws.{first_as_read, int_is, text_is}
use Rattle.mx_msgpack.proofs.Results.{ok_is}
use Rattle.mx_msgpack.proofs.Shown.{value_seen}
use Rattle.mx_msgpack.proofs.UnsignedLaws.{unsigned_spelled, int_read}
use Rattle.mx_completion.specs.declared.operations.Operand.{Operand}
use Rattle.mx_completion.specs.declared.operations.Operand.TheVariants.{Number, Count, Bits, Any, Text}
use Rattle.mx_completion.specs.OperationForms.{IsOperand, AreOperands}

-- ---- a value that is spelled is shown

module _ (value : Value) (bytes : List ℕ) (s : Spells 64 value bytes) where
  shown_of : (what : Shown) × (reading_of bytes ≡ Ok (what, length bytes)) × Shows what value
  shown_of =
      let size = length bytes in
      let alone : after_first size 64 bytes ≡ Ok [] = ap (after_first size 64) (sym (append-nil bytes)) ∙ value_again size 64 value bytes [] s in
      let stands = value_stands size 64 bytes [] alone in
      let none : 0 ≡ size - size = omega arith in
      let head : head_at 0 bytes ≡ Ok (stands.head, stands.after) = ap (λ (k : ℕ). head_at k bytes) none ∙ stands.begins in
      let parts = head_spelled 0 bytes stands.head stands.after head in
      let both = ap length parts.1 ∙ length-append parts.0 stands.after in
      let whole : measured bytes ≡ Ok size = ap measured (sym (append-nil bytes)) ∙ measured_again value bytes [] s in
      let content = take (size - (size - length stands.after)) stands.after in
      let what = shown stands.head content (take size bytes) in
      let seen = value_seen bytes stands.head stands.after size (omega arith) head whole what content (take size bytes) refl refl refl in
      let all : take size bytes ≡ bytes = take_all size bytes (omega arith) in
      let same : seen.spelled.1 ≡ value = one_value 64 seen.spelled.1 value bytes (subst (Spells 64 seen.spelled.1) all seen.spelled.2) s in
      (what, seen.exact, subst (Shows what) {x = seen.spelled.1} same seen.spelled.3)

  -- what is read is what is shown
  read_shows : (what : Shown) (size : ℕ) → reading_of bytes ≡ Ok (what, size) → Shows what value
  read_shows what size read =
      let (seen, is, shows) = shown_of in
      let same = ok_is (seen, length bytes) (what, size) (sym is ∙ read) in
      subst (λ (w : Shown). Shows w value) (ap (λ (x : Shown × ℕ). x.0) same) shows

  int_from : (number : ℤ) → first_as as_int bytes ≡ Some number → SpellsInt number bytes
  int_from number e =
      let (what, size, read, is) = first_as_read as_int bytes number e in
      let value_is : value ≡ grammar.Int number = subst (λ (w : Shown). Shows w value) (int_is what number is) (read_shows what size read) in
      subst (λ (v : Value). Spells 64 v bytes) value_is s

  pub text_from : (text : List ℕ) → first_as as_text bytes ≡ Some text → Spells 64 (grammar.Str text) bytes
  text_from text e =
      let (what, size, read, is) = first_as_read as_text bytes text e in
      let value_is : value ≡ grammar.Str text = subst (λ (w : Shown). Shows w value) (text_is what text is) (read_shows what size read) in
      subst (λ (v : Value). Spells 64 v bytes) value_is s

  unsigned_from : (number : ℕ) → unsigned_in bytes ≡ Some number → SpellsInt (pos number) bytes
  unsigned_from number e =
      let (found, read, same) = mapped_some (λ (x : ℕ × List ℕ). x.0) (unsigned_at bytes) number e in
      let (front, parts, spelled) = unsigned_spelled bytes found read in
      let none = no_prefix_of_another (grammar.Int (pos found.0)) value front found.1 spelled (subst (Spells 64 value) parts s) in
      let all : front ≡ bytes = sym (append-nil front) ∙ (λ i. front ++ sym none i) ∙ sym parts in
      subst (λ (n : ℕ). SpellsInt (pos n) bytes) same (subst (SpellsInt (pos found.0)) all spelled)

shows_int : (what : Shown) (number : ℤ) → Shows what (grammar.Int number) → as_int what ≡ Some number
shows_int ShownNil number e = absurd cc
shows_int (ShownBool truth) number e = absurd cc
shows_int (ShownInt other) number e = cc
shows_int (ShownStr text) number e = absurd cc
shows_int (ShownBin content) number e = absurd cc
shows_int (ShownArray count inside) number (values, e, many, s) = absurd cc
shows_int (ShownMap count inside) number (pairs, e, many, s) = absurd cc
shows_int (ShownOpaque spelling) number e = absurd cc

shows_text : (what : Shown) (text : List ℕ) → Shows what (grammar.Str text) → as_text what ≡ Some text
shows_text ShownNil text e = absurd cc
shows_text (ShownBool truth) text e = absurd cc
shows_text (ShownInt other) text e = absurd cc
shows_text (ShownStr other) text e = cc
shows_text (ShownBin content) text e = absurd cc
shows_text (ShownArray count inside) text (values, e, many, s) = absurd cc
shows_text (ShownMap count inside) text (pairs, e, many, s) = absurd cc
shows_text (ShownOpaque spelling) text e = absurd cc

int_read_as : (number : ℤ) (bytes : List ℕ) → SpellsInt number bytes → first_as as_int bytes ≡ Some number
int_read_as number bytes s =
    let (what, read, shows) = shown_of (grammar.Int number) bytes s in
    ap (λ (r : Result (Shown × ℕ) Bad). option_and_then (λ (first : Shown × ℕ). as_int first.0) (result_ok r)) read ∙ shows_int what number shows

pub text_read_as : (text bytes : List ℕ) → Spells 64 (grammar.Str text) bytes → first_as as_text bytes ≡ Some text
text_read_as text bytes s =
    let (what, read, shows) = shown_of (grammar.Str text) bytes s in
    ap (λ (r : Result (Shown × ℕ) Bad). option_and_then (λ (first : Shown × ℕ). as_text first.0) (result_ok r)) read ∙ shows_text what text shows

unsigned_read_as : (number : ℕ) (bytes : List ℕ) → SpellsInt (pos number) bytes → unsigned_in bytes ≡ Some number
unsigned_read_as number bytes s =
    let read = ap unsigned_at (sym (append-nil bytes)) ∙ int_read number bytes [] s in
    ap (option_map (λ (x : ℕ × List ℕ). x.0)) read

-- ---- operands

pub more_room : (value : Value) (bytes : List ℕ) → Spells 61 value bytes → Spells 64 value bytes
more_room value bytes s = roomier 63 value bytes (roomier 62 value bytes (roomier 61 value bytes s))

-- the operand is read as its type
abbrev pub Reads : Operand → List ℕ → Type 0
Reads Number bytes = (number : ℤ) × (first_as as_int bytes ≡ Some number)
Reads Count bytes = (number : ℕ) × (unsigned_in bytes ≡ Some number) × (1 ≤ number)
Reads Bits bytes = (number : ℕ) × (unsigned_in bytes ≡ Some number)
Reads Any bytes = ⊤
Reads Text bytes = (text : List ℕ) × (first_as as_text bytes ≡ Some text)

abbrev pub ReadsAll : List Operand → List (List ℕ) → Type 0
ReadsAll [] [] = ⊤
ReadsAll (operand ∷ operands) (spelling ∷ others) = Reads operand spelling × ReadsAll operands others
ReadsAll _ _ = ⊥

operand_spelled : (operand : Operand) (value : Value) (bytes : List ℕ) → Spells 61 value bytes → Reads operand bytes → IsOperand operand bytes
operand_spelled Number value bytes s (number, e) = (number, int_from value bytes (more_room value bytes s) number e)
operand_spelled Count value bytes s (number, e, some) = (number, some, unsigned_from value bytes (more_room value bytes s) number e)
operand_spelled Bits value bytes s (number, e) = (number, omega arith, unsigned_from value bytes (more_room value bytes s) number e)
operand_spelled Any value bytes s e = (value, s)
operand_spelled Text value bytes s (text, e) = (text, text_from value bytes (more_room value bytes s) text e)

operand_read : (operand : Operand) (bytes : List ℕ) → IsOperand operand bytes → (value : Value) × Spells 61 value bytes × Reads operand bytes
operand_read Number bytes (number, s) = (grammar.Int number, s, (number, int_read_as number bytes s))
operand_read Count bytes (number, some, s) = (grammar.Int (pos number), s, (number, unsigned_read_as number bytes s, some))
operand_read Bits bytes (number, some, s) = (grammar.Int (pos number), s, (number, unsigned_read_as number bytes s))
operand_read Any bytes (value, s) = (value, s, tt)
operand_read Text bytes (text, s) = (grammar.Str text, s, (text, text_read_as text bytes s))

pub operands_spelled : (operands : List Operand) (values : Values) (bytes : List ℕ) → SpellsAll 61 values bytes → ReadsAll operands (values_from (value_count values) bytes)
    → AreOperands operands bytes
operands_spelled [] NoValue bytes e reads = e
operands_spelled [] (MoreValues value values) bytes s reads = absurd reads
operands_spelled (operand ∷ operands) NoValue bytes e reads = absurd reads
operands_spelled (operand ∷ operands) (MoreValues value values) bytes (front, rest, parts, s, ss) reads =
    let first = first_is value front rest (roomier 62 value front (roomier 61 value front s)) in
    let front_is : first_value bytes ≡ front = ap first_value parts ∙ first.0 in
    let rest_is : items.after_value bytes ≡ rest = ap items.after_value parts ∙ first.1 in (
      front,
      rest,
      parts,
      operand_spelled operand value front s (subst (Reads operand) front_is reads.0),
      operands_spelled operands values rest ss (subst (λ (l : List ℕ). ReadsAll operands (values_from (value_count values) l)) rest_is reads.1),
    )

pub operands_read : (operands : List Operand) (bytes : List ℕ) → AreOperands operands bytes
    → (values : Values) × (value_count values ≡ length operands) × SpellsAll 61 values bytes × ReadsAll operands (values_from (length operands) bytes)
operands_read [] bytes e = (NoValue, refl, e, tt)
operands_read (operand ∷ operands) bytes (front, rest, parts, s, ss) =
    let (value, spelled, reads) = operand_read operand front s in
    let (values, many, all, read) = operands_read operands rest ss in
    let first = first_is value front rest (roomier 62 value front (roomier 61 value front spelled)) in
    let front_is : first_value bytes ≡ front = ap first_value parts ∙ first.0 in
    let rest_is : items.after_value bytes ≡ rest = ap items.after_value parts ∙ first.1 in (
      MoreValues value values,
      ap suc many,
      (front, rest, parts, spelled, all),
      (subst (Reads operand) (sym front_is) reads, subst (λ (l : List ℕ). ReadsAll operands (values_from (length operands) l)) (sym rest_is) read),
    )

pub reads_many : (operands : List Operand) (spellings : List (List ℕ)) → ReadsAll operands spellings → length spellings ≡ length operands
reads_many [] [] reads = refl
reads_many [] (spelling ∷ others) reads = absurd reads
reads_many (operand ∷ operands) [] reads = absurd reads
reads_many (operand ∷ operands) (spelling ∷ others) reads = ap suc (reads_many operands others reads.1)
