-- The completion of a value of one type, by the leading byte.
use Rattle.std.proofs.Common.{◌≡◌, inl, inr, ℕ, zero, suc, ◌-◌, ◌≤◌, ◌<◌, pos, List, [], ◌∷◌, ◌++◌, Option, Some, None, length, get_or, take, Ok, refl, sym, ap, ◌∙◌, subst, arith}
use Rattle.std.proofs.lemmas.List.{append-nil}
use Rattle.mx_msgpack.specs.Grammar.{Value, NoValue, Spells}
use Rattle.mx_msgpack.specs.Grammar as grammar
use Rattle.mx_msgpack.specs.Spelling.{AreBytes}
use Rattle.mx_msgpack.specs.Reading.{after_first, Shown, ShownNil, ShownBool, ShownInt, ShownStr, ShownBin, ShownArray, ShownMap, ShownOpaque, shown}
use Rattle.mx_msgpack.proofs.ValueLaws.{inside_of}
use Rattle.mx_msgpack.proofs.GrammarLaws.{ShowsIn, value_again, value_stands}
use Rattle.mx_msgpack.proofs.PrefixLaws.{one_value}
use Rattle.mx_completion.specs.declared.completion.Completion.{Completion}
use Rattle.mx_completion.specs.declared.completion.Completion.TheVariants.{Whole, Missing, Impossible}
use Rattle.mx_completion.specs.declared.leading.Kind.{Kind}
use Rattle.mx_completion.specs.declared.leading.Kind.TheVariants.{Int, Text, Array, Map, Extension, Other}
use Rattle.mx_completion.specs.declared.leading.Leading.{Leading}
use Rattle.mx_completion.specs.Completions.{Completes, IsReached, IsArraySpelling, IsIntSpelling, IsTextSpelling, IsValueSpelling}
use Rattle.mx_completion.specs.LeadingBytes.{leading_of}
use Rattle.mx_completion.specs.ValueCompletions.{IsAsked, IsOfKind, completed, value_kind}
use Rattle.mx_completion.proofs.ByteLaws.{one_byte}
use Rattle.mx_completion.proofs.SequenceLaws.{completes_same}
use Rattle.mx_completion.proofs.LeadingLaws.{Agrees, plain_kind, shown_kind, tells}
use Rattle.mx_completion.proofs.ValueLaws.{completed_completes, some_value}

-- ---- the leading byte tells a value's type

kind_shown : (room : ℕ) (what : Shown) (value : Value) → ShowsIn room what value → shown_kind what ≡ value_kind value
kind_shown room ShownNil value s = rw s refl
kind_shown room (ShownBool truth) value s = rw s refl
kind_shown room (ShownInt number) value s = rw s refl
kind_shown room (ShownStr text) value s = rw s refl
kind_shown room (ShownBin content) value s = rw s refl
kind_shown zero (ShownArray count items) value s = absurd s
kind_shown (suc room) (ShownArray count items) value (values, is, many, s) = rw is refl
kind_shown zero (ShownMap count items) value s = absurd s
kind_shown (suc room) (ShownMap count items) value (pairs, is, many, s) = rw is refl
kind_shown room (ShownOpaque spelling) value s = rw s refl

-- the leading byte says this type
abbrev pub Leads : Option Leading → Kind → Type 0
Leads None kind = ⊥
Leads (Some leading) kind = kind ≡ plain_kind leading.kind

head_leads : {Head : Type 0} (shows : Head → List ℕ → List ℕ → Shown) (leading : Option Leading) (found : Head × List ℕ) (content whole : List ℕ) (kind : Kind)
    → Agrees shows leading (Ok found) → shown_kind (shows found.0 content whole) ≡ kind → Leads leading kind
head_leads shows None found content whole kind a e = a
head_leads shows (Some leading) found content whole kind a e = sym e ∙ a content whole

value_leads : (room byte : ℕ) (rest : List ℕ) (value : Value) → Spells room value (byte ∷ rest) → Leads (leading_of byte) (value_kind value)
value_leads room byte rest value s =
    let bytes : List ℕ = byte ∷ rest in
    let at : ℕ = 0 - length bytes in
    let read : after_first 0 room bytes ≡ Ok [] = ap (after_first 0 room) (sym (append-nil bytes)) ∙ value_again 0 room value bytes [] s in
    let stands = value_stands 0 room bytes [] read in
    let same : stands.value ≡ value =
    one_value room stands.value value bytes (subst (λ (l : List ℕ). Spells room stands.value l) (sym (stands.whole ∙ append-nil stands.front)) stands.spelled) s in
    let kind = kind_shown room (shown stands.head stands.content stands.front) stands.value stands.shows ∙ ap value_kind same in
    let agrees = rw stands.begins at (tells (inside_of 0 room) at byte rest).kind in
    head_leads shown (leading_of byte) (stands.head, stands.after) stands.content stands.front (value_kind value) agrees kind

-- ---- values of one type

-- these types are shown as they are, and as no other
asked_plain : (kind : Kind) (room : ℕ) → IsAsked kind room → plain_kind kind ≡ kind
asked_plain kind room (inl e) = rw e refl
asked_plain kind room (inr (inl e)) = rw e refl
asked_plain kind room (inr (inr (e, some))) = rw e refl

asked_other : (kind : Kind) (room : ℕ) → IsAsked kind room → kind ≡ Other → ⊥
asked_other kind room (inl e) f = absurd cc
asked_other kind room (inr (inl e)) f = absurd cc
asked_other kind room (inr (inr (e, some))) f = absurd cc

plain_only : (kind other : Kind) → (kind ≡ Other → ⊥) → kind ≡ plain_kind other → kind ≡ other
plain_only kind Int differs e = e
plain_only kind Text differs e = e
plain_only kind Array differs e = e
plain_only kind Map differs e = e
plain_only kind Extension differs e = absurd (differs e)
plain_only kind Other differs e = e

some_kind : (kind : Kind) (room : ℕ) (bytes : List ℕ) → IsOfKind kind room bytes → 1 ≤ length bytes
some_kind kind room bytes (value, s, e) = some_value room bytes (value, s)

not_empty : (kind : Kind) (room : ℕ) → IsOfKind kind room [] → ⊥
not_empty kind room s = omega (arith, some_kind kind room [] s)

-- where another leading byte begins the bytes, they become no value of the type
kind_impossible : (kind : Kind) (room byte : ℕ) (rest : List ℕ) → (Leads (leading_of byte) kind → ⊥) → Completes (IsOfKind kind room) (byte ∷ rest) Impossible
kind_impossible kind room byte rest other = record { stands = tt; allows = allows }
  where
    allows : (missing spelling back : List ℕ) → AreBytes missing → byte ∷ (rest ++ missing) ≡ spelling ++ back → IsOfKind kind room spelling → ⊥
    allows missing [] back each e s = not_empty kind room s
    allows missing (first ∷ spelling) back each e (value, s, k) =
        let same : first ≡ byte = cc in
        other (subst (Leads (leading_of byte)) k (value_leads room byte spelling value (rw (← same) s)))

-- where one of its own does, they become a value
module _ (kind : Kind) (room byte : ℕ) (rest : List ℕ) (asked : IsAsked kind room) (leads : Leads (leading_of byte) kind) where
  value_kinded : (l : List ℕ) → IsValueSpelling room (byte ∷ l) → IsOfKind kind room (byte ∷ l)
  value_kinded l (value, s) = (value, s, same_led (leading_of byte) (value_leads room byte l value s) leads)
    where
      same_led : (leading : Option Leading) → Leads leading (value_kind value) → Leads leading kind → value_kind value ≡ kind
      same_led None a b = absurd a
      same_led (Some leading) a b = a ∙ sym b

  kind_possible : (completion : Completion) → Completes (IsValueSpelling room) (byte ∷ rest) completion → Completes (IsOfKind kind room) (byte ∷ rest) completion
  kind_possible completion c = record { stands = stands completion c.stands; allows = λ missing spelling back each e s. c.allows missing spelling back each e (s.0, s.1) }
    where
      stands : (completion : Completion) → IsReached (IsValueSpelling room) (byte ∷ rest) completion → IsReached (IsOfKind kind room) (byte ∷ rest) completion
      stands (Whole zero) (few, s) = absurd (omega (arith, some_value room [] s))
      stands (Whole (suc size)) (few, s) = (few, value_kinded (take size rest) s)
      stands (Missing least) (some, missing, each, many, s) = (some, missing, each, many, value_kinded (rest ++ missing) s)
      stands Impossible s = tt

-- no bytes become the shortest value of the type
shortest_kind : (kind : Kind) (room : ℕ) → IsAsked kind room → (byte : ℕ) × (byte < 0x100) × IsOfKind kind room (byte ∷ [])
shortest_kind kind room (inl e) = (0, omega arith, (grammar.Int (pos 0), inl (0, refl, inl (omega arith, refl)), sym e))
shortest_kind kind room (inr (inl e)) = (0xa0, omega arith, (grammar.Str [], (0xa0 ∷ [], inl (omega arith, refl), omega arith, refl), sym e))
shortest_kind kind zero (inr (inr (e, some))) = absurd (omega arith)
shortest_kind kind (suc room) (inr (inr (e, some))) =
    (0x90, omega arith, (grammar.Array NoValue, (0x90 ∷ [], [], inl (omega arith, refl), omega arith, refl, refl), sym e))

pub kind_empty : (kind : Kind) (room : ℕ) (bytes : List ℕ) → IsAsked kind room → length bytes ≡ 0 → Completes (IsOfKind kind room) bytes (Missing 1)
kind_empty kind room (byte ∷ rest) asked e = absurd (omega arith)
kind_empty kind room [] asked e =
    let shortest = shortest_kind kind room asked in
    record {
      stands = (omega arith, shortest.0 ∷ [], one_byte shortest.0 shortest.1, refl, shortest.2);
      allows = λ missing spelling rest each e s. omega (arith, some_kind kind room spelling s);
    }

-- ---- what the code asks of the first byte

begun : (bytes : List ℕ) (byte : ℕ) → 0 < length bytes → byte ≡ get_or bytes 0 byte → (rest : List ℕ) × (bytes ≡ byte ∷ rest)
begun [] byte some e = absurd (omega arith)
begun (first ∷ rest) byte some e = (rest, ap (λ (x : ℕ). x ∷ rest) (sym e))

module _ (kind : Kind) (room byte : ℕ) (bytes : List ℕ) (asked : IsAsked kind room) (some : 0 < length bytes) (first : byte ≡ get_or bytes 0 byte) where
  pub kind_none : leading_of byte ≡ None → Completes (IsOfKind kind room) bytes Impossible
  kind_none e =
      let b = begun bytes byte some first in
      rw b.1 (kind_impossible kind room byte b.0 (λ l. subst (λ (o : Option Leading). Leads o kind) e l))

  module _ (leading : Leading) (is : leading_of byte ≡ Some leading) where
    pub kind_differs : (leading.kind ≡ kind → ⊥) → Completes (IsOfKind kind room) bytes Impossible
    kind_differs differs =
        let b = begun bytes byte some first in
        rw b.1
        (kind_impossible kind room byte b.0
        (λ l. differs (sym (plain_only kind leading.kind (asked_other kind room asked) (subst (λ (o : Option Leading). Leads o kind) is l)))))

    pub kind_same : (completion : Completion) → leading.kind ≡ kind → completion ≡ completed room bytes → Completes (IsOfKind kind room) bytes completion
    kind_same completion same e =
        let b = begun bytes byte some first in
        let leads : Leads (Some leading) kind = sym (ap plain_kind same ∙ asked_plain kind room asked) in
        let value : Completes (IsValueSpelling room) bytes completion = rw e (completed_completes room bytes) in
        subst (λ (l : List ℕ). Completes (IsOfKind kind room) l completion) (sym b.1)
        (kind_possible kind room byte b.0 asked (subst (λ (o : Option Leading). Leads o kind) (sym is) leads) completion
        (subst (λ (l : List ℕ). Completes (IsValueSpelling room) l completion) b.1 value))

-- ---- arrays, texts and numbers

pub array_kind : (room : ℕ) (bytes : List ℕ) (completion : Completion) → Completes (IsOfKind Array room) bytes completion → Completes (IsArraySpelling room) bytes completion
array_kind room bytes completion c = completes_same (IsOfKind Array room) (IsArraySpelling room) bytes completion to (λ l s. (grammar.Array s.0, s.1, refl)) c
  where
    to : (l : List ℕ) → IsOfKind Array room l → IsArraySpelling room l
    to l (grammar.Array values, s, e) = (values, s)
    to l (grammar.Nil, s, e) = absurd cc
    to l (grammar.Boolean truth, s, e) = absurd cc
    to l (grammar.Int number, s, e) = absurd cc
    to l (grammar.Str text, s, e) = absurd cc
    to l (grammar.Bin content, s, e) = absurd cc
    to l (grammar.Map pairs, s, e) = absurd cc
    to l (grammar.Opaque spelling, s, e) = absurd cc

pub text_kind : (bytes : List ℕ) (completion : Completion) → Completes (IsOfKind Text 0) bytes completion → Completes IsTextSpelling bytes completion
text_kind bytes completion c = completes_same (IsOfKind Text 0) IsTextSpelling bytes completion to (λ l s. (grammar.Str s.0, s.1, refl)) c
  where
    to : (l : List ℕ) → IsOfKind Text 0 l → IsTextSpelling l
    to l (grammar.Str text, s, e) = (text, s)
    to l (grammar.Nil, s, e) = absurd cc
    to l (grammar.Boolean truth, s, e) = absurd cc
    to l (grammar.Int number, s, e) = absurd cc
    to l (grammar.Bin content, s, e) = absurd cc
    to l (grammar.Array values, s, e) = absurd cc
    to l (grammar.Map pairs, s, e) = absurd cc
    to l (grammar.Opaque spelling, s, e) = absurd cc

pub int_kind : (bytes : List ℕ) (completion : Completion) → Completes (IsOfKind Int 0) bytes completion → Completes IsIntSpelling bytes completion
int_kind bytes completion c = completes_same (IsOfKind Int 0) IsIntSpelling bytes completion to (λ l s. (grammar.Int s.0, s.1, refl)) c
  where
    to : (l : List ℕ) → IsOfKind Int 0 l → IsIntSpelling l
    to l (grammar.Int number, s, e) = (number, s)
    to l (grammar.Nil, s, e) = absurd cc
    to l (grammar.Boolean truth, s, e) = absurd cc
    to l (grammar.Str text, s, e) = absurd cc
    to l (grammar.Bin content, s, e) = absurd cc
    to l (grammar.Array values, s, e) = absurd cc
    to l (grammar.Map pairs, s, e) = absurd cc
    to l (grammar.Opaque spelling, s, e) = absurd cc
