-- Bytes that begin with the first lines of a header, and whether they go on with the next one.
use Rattle.std.proofs.Common.{◌≡◌, ℕ, suc, ◌+◌, ◌<◌, ◌≤◌, Bool, true, false, if◌then◌else◌, ◌==◌, List, [], ◌∷◌, ◌++◌, length, take, drop, inl, inr}
use Rattle.std.proofs.Common.{refl, sym, ap, subst, ◌∙◌, append_assoc, arith, length-append}
use Rattle.std.specs.Prelude.{⊤, codes, decimal}
use Rattle.std.proofs.Math.Seq.{take-append_seam}
use Rattle.std.proofs.lemmas.Bool.{eqb-false, cases_lt}
use Rattle.std.proofs.lemmas.List.{take-append-drop}
use mathlib.Core.Logic.{◌⊎◌}
use Rattle.mx_vclock.specs.Text.{vclock_text}
use Rattle.mx_xlog.specs.declared.head.Head.{Head}
use Rattle.mx_xlog.specs.Headers.{lines_text, header_lines, replica_lines, IsHead, BeginsHeader, IsHeader, IsFaultLine}
use Rattle.mx_xlog.specs.Lines.{IsLine, BeginsLine}
use Rattle.mx_xlog.specs.HeaderParts.{file_type, BeginsNone}
use Rattle.mx_xlog.proofs.LineLaws.{ended-append, same_line}
use Rattle.mx_xlog.proofs.PlainLaws.{line-append, decimal_line, id_line, clock_line}

-- no line has a newline in it
abbrev pub AreLines : List (List ℕ) → Type 0
AreLines [] = ⊤
AreLines (line ∷ lines) = IsLine line × AreLines lines

abbrev plain : List ℕ → Bool
plain [] = true
plain (byte ∷ bytes) = if byte == 10 then false else plain bytes

plain_line : (bytes : List ℕ) → plain bytes ≡ true → IsLine bytes
plain_line [] is = tt
plain_line (byte ∷ bytes) is = by_test (byte == 10) refl is (plain_line bytes)
  where
    by_test : (test : Bool) → (byte == 10) ≡ test → (if test then false else plain bytes) ≡ true → (plain bytes ≡ true → IsLine bytes)
        → IsLine (byte ∷ bytes)
    by_test true e told others = cc
    by_test false e told others = (eqb-false byte 10 e, others told)

kind_is_line : (snapshot : Bool) → IsLine (file_type snapshot)
kind_is_line true = plain_line (codes "SNAP") refl
kind_is_line false = plain_line (codes "XLOG") refl

are-append : (lines more : List (List ℕ)) → AreLines lines → AreLines more → AreLines (lines ++ more)
are-append [] more l m = m
are-append (line ∷ lines) more l m = (l.0, are-append lines more l.1 m)

are_front : (lines more : List (List ℕ)) → AreLines (lines ++ more) → AreLines lines
are_front [] more l = tt
are_front (line ∷ lines) more l = (l.0, are_front lines more l.1)

are_back : (lines more : List (List ℕ)) → AreLines (lines ++ more) → AreLines more
are_back [] more l = l
are_back (line ∷ lines) more l = are_back lines more l.1

replica_are : (first : Bool) (id : ℕ) → id < 32 → AreLines (if first then [] else (codes "Replica: " ++ decimal id) ∷ [])
replica_are true id small = tt
replica_are false id small = (line-append (codes "Replica: ") (decimal id) (plain_line (codes "Replica: ") refl) (decimal_line id (omega arith)), tt)

pub header_are : (head : Head) → IsHead head → AreLines (header_lines head)
header_are head fits =
    let clock : AreLines ((codes "VClock: " ++ vclock_text head.clock) ∷ [] ∷ []) =
    (line-append (codes "VClock: ") (vclock_text head.clock) (plain_line (codes "VClock: ") refl) (clock_line head.clock fits.sound), (tt, tt)) in
    let behind = are-append (replica_lines head.replica) _ (replica_are (head.replica == 1) head.replica fits.replica) clock in
    let instance = line-append (codes "Instance: ") _ (plain_line (codes "Instance: ") refl) (id_line head.instance) in
    let set = line-append (codes "ReplicaSet: ") _ (plain_line (codes "ReplicaSet: ") refl) (id_line head.set) in
    (kind_is_line head.snapshot, (plain_line (codes "0.13") refl, (instance, (set, behind))))

pub ended_first : (line : List ℕ) (lines : List (List ℕ)) (rest : List ℕ) → lines_text (line ∷ lines) ++ rest ≡ line ++ 10 ∷ (lines_text lines ++ rest)
ended_first line lines rest = append_assoc (line ++ 10 ∷ []) (lines_text lines) rest ∙ append_assoc line (10 ∷ []) (lines_text lines ++ rest)

-- where the bytes begin with one line more, it is the next one
next_line : (known lines : List (List ℕ)) (rest tail : List ℕ) → AreLines known → AreLines lines → suc (length known) ≤ length lines
    → lines_text known ++ rest ≡ lines_text (take (suc (length known)) lines) ++ tail
    → (line : List ℕ) × (others : List (List ℕ)) × (lines ≡ known ++ line ∷ others) × (rest ≡ line ++ 10 ∷ tail)
next_line known [] rest tail k l enough is = absurd (omega arith)
next_line [] (line ∷ lines) rest tail k l enough is = (line, lines, refl, is ∙ ended_first line [] tail)
next_line (first ∷ known) (line ∷ lines) rest tail k l enough is =
    let same = same_line first line (lines_text known ++ rest) (lines_text (take (suc (length known)) lines) ++ tail) k.0 l.0
    (sym (ended_first first known rest) ∙ is ∙ ended_first line (take (suc (length known)) lines) tail) in
    let next = next_line known lines rest tail k.1 l.1 (omega arith) same.1 in
    (next.0, next.1, both first line lines (known ++ next.0 ∷ next.1) same.0 next.2, next.3)
  where
    both : (first line : List ℕ) (lines more : List (List ℕ)) → first ≡ line → lines ≡ more → line ∷ lines ≡ first ∷ more
    both first line lines more same next = cc

-- no header that has these lines has a next one with which the bytes begin
abbrev pub NoneGoesOn : List (List ℕ) → List ℕ → Type 0
NoneGoesOn known rest =
    (head : Head) (line : List ℕ) (more : List (List ℕ)) (tail : List ℕ) → IsHead head → header_lines head ≡ known ++ line ∷ more → IsLine line
    → ¬ (rest ≡ line ++ 10 ∷ tail)

pub none_goes_on : {X : Type 0} (Tells : X → List ℕ → Type 0) (known : List (List ℕ)) (rest : List ℕ) → BeginsNone Tells rest
    → ((head : Head) (line : List ℕ) (more : List (List ℕ)) → IsHead head → header_lines head ≡ known ++ line ∷ more → (value : X) × Tells value line)
    → NoneGoesOn known rest
none_goes_on Tells known rest none told = λ head line more tail fits are is_line.
    let value = told head line more fits are in
    none value.0 line tail is_line value.1

-- bytes that begin with some lines and with no fewer others begin with a prefix of the others
pub front_lines : (lines known : List (List ℕ)) (rest tail : List ℕ) → AreLines lines → AreLines known → length lines ≤ length known
    → lines_text lines ++ rest ≡ lines_text known ++ tail → (more : List (List ℕ)) × (known ≡ lines ++ more)
front_lines [] known rest tail l k enough is = (known, refl)
front_lines (line ∷ lines) [] rest tail l k enough is = absurd (omega arith)
front_lines (line ∷ lines) (first ∷ known) rest tail l k enough is =
    let same = same_line line first (lines_text lines ++ rest) (lines_text known ++ tail) l.0 k.0
    (sym (ended_first line lines rest) ∙ is ∙ ended_first first known tail) in
    let others = front_lines lines known rest tail l.1 k.1 (omega arith) same.1 in
    (others.0, both first line known (lines ++ others.0) (sym same.0) others.1)
  where
    both : (first line : List ℕ) (known more : List (List ℕ)) → first ≡ line → known ≡ more → first ∷ known ≡ line ∷ more
    both first line known more same next = cc

pub same_behind_four : (a b c d e f g h : List ℕ) (lines more : List (List ℕ)) → a ∷ b ∷ c ∷ d ∷ lines ≡ e ∷ f ∷ g ∷ h ∷ more → lines ≡ more
same_behind_four a b c d e f g h lines more is = cc

no_more : (first other : Bool) (mine its : List ℕ) (byte : ℕ) (clock its_clock : List ℕ) (more : List (List ℕ))
    → (if first then [] else mine ∷ []) ++ (byte ∷ clock) ∷ [] ∷ [] ≡ ((if other then [] else its ∷ []) ++ its_clock ∷ [] ∷ []) ++ more → more ≡ []
no_more true true mine its byte clock its_clock more is = cc
no_more true false mine its byte clock its_clock more is = absurd cc
no_more false true mine its byte clock its_clock more is = absurd cc
no_more false false mine its byte clock its_clock more is = cc

-- a header's lines are no proper prefix of another one's
pub no_longer : (head other : Head) (more : List (List ℕ)) → header_lines head ≡ header_lines other ++ more → more ≡ []
no_longer head other more is =
    no_more (head.replica == 1) (other.replica == 1) (codes "Replica: " ++ decimal head.replica) (codes "Replica: " ++ decimal other.replica)
    86 _ (codes "VClock: " ++ vclock_text other.clock) more (same_behind_four _ _ _ _ _ _ _ _ _ _ is)

-- bytes that begin with a header begin with its first lines
begins_front : (count : ℕ) (head : Head) (size : ℕ) (bytes : List ℕ) → IsHeader bytes head size → count ≤ length (header_lines head) → BeginsHeader count bytes
begins_front count head size bytes header enough =
    let lines = header_lines head in
    let split : lines_text lines ≡ lines_text (take count lines) ++ lines_text (drop count lines) =
    ap lines_text (sym (take-append-drop count lines)) ∙ ended-append (take count lines) (drop count lines) in (
      head,
      lines_text (drop count lines) ++ header.begins.0,
      header.fits,
      enough,
      header.begins.1
          ∙ ap (λ l. l ++ header.begins.0) split
          ∙ append_assoc (lines_text (take count lines)) (lines_text (drop count lines)) header.begins.0,
    )

-- the first line that isn't the one of a header
pub fault_behind : (known : List (List ℕ)) (next : List ℕ) (others : List (List ℕ)) (head : Head) (rest bytes : List ℕ) (line : ℕ) → IsHead head
    → header_lines head ≡ known ++ next ∷ others → bytes ≡ lines_text known ++ rest → NoneGoesOn known rest → line ≡ suc (length known)
    → IsFaultLine bytes line
fault_behind known next others head rest bytes line fits are is none place =
    let counts : length (header_lines head) ≡ length known + length (next ∷ others) = ap length are ∙ length-append known (next ∷ others) in
    let front : take (length known) (header_lines head) ≡ known = ap (take (length known)) are ∙ take-append_seam known (next ∷ others) in
    let begins : BeginsHeader (length known) bytes = (head, rest, fits, omega arith, is ∙ ap (λ lines. lines_text lines ++ rest) (sym front)) in
    (length known, place, begins, subst (λ n. BeginsHeader n bytes → ⊥) (sym place) refused, no_header)
  where
    known_are : AreLines known
    known_are = are_front known (next ∷ others) (subst AreLines are (header_are head fits))

    refused : BeginsHeader (suc (length known)) bytes → ⊥
    refused begins =
        let all_are = header_are begins.0 begins.2 in
        let found = next_line known (header_lines begins.0) rest begins.1 known_are all_are begins.3 (sym is ∙ begins.4) in
        none begins.0 found.0 found.1 begins.1 begins.2 found.2 (are_back known (found.0 ∷ found.1) (subst AreLines found.2 all_are)).0 found.3

    no_header : (other : Head) (size : ℕ) → ¬ IsHeader bytes other size
    no_header other size header = by_order (cases_lt (length known) (length (header_lines other)))
      where
        by_order : (length known < length (header_lines other)) ⊎ (length (header_lines other) ≤ length known) → ⊥
        by_order (inl longer) = refused (begins_front (suc (length known)) other size bytes header longer)
        by_order (inr shorter) =
            let found = front_lines (header_lines other) known header.begins.0 rest (header_are other header.fits) known_are shorter (sym header.begins.1 ∙ is) in
            let whole : header_lines head ≡ header_lines other ++ (found.0 ++ next ∷ others) =
            are ∙ ap (λ lines. lines ++ next ∷ others) found.1 ∙ append_assoc (header_lines other) found.0 (next ∷ others) in
            let none_left = ap length (no_longer head other (found.0 ++ next ∷ others) whole) in
            omega (arith, length-append found.0 (next ∷ others))

-- bytes whose first line has no value
pub none_found : {X : Type 0} (Tells : X → List ℕ → Type 0) (line rest bytes : List ℕ) → BeginsLine line rest bytes
    → ((value : X) → ¬ Tells value line) → BeginsNone Tells bytes
none_found Tells line rest bytes begins none = λ value other more is_line told is.
    none value (subst (Tells value) (sym (same_line line other rest more begins.0 is_line (sym begins.1 ∙ is)).0) told)

-- lines, and more of them
pub lines_behind : (known lines : List (List ℕ)) (rest more bytes : List ℕ) → bytes ≡ lines_text known ++ rest → rest ≡ lines_text lines ++ more
    → bytes ≡ lines_text (known ++ lines) ++ more
lines_behind known lines rest more bytes is next =
    is ∙ ap (λ l. lines_text known ++ l) next ∙ sym (append_assoc (lines_text known) (lines_text lines) more) ∙ ap (λ l. l ++ more) (sym (ended-append known lines))

pub one_line_more : (known : List (List ℕ)) (line text rest more bytes : List ℕ) → bytes ≡ lines_text known ++ rest → line ≡ text
    → rest ≡ line ++ 10 ∷ more → bytes ≡ lines_text (known ++ text ∷ []) ++ more
one_line_more known line text rest more bytes is told next =
    lines_behind known (text ∷ []) rest more bytes is (next ∙ ap (λ l. l ++ 10 ∷ more) told ∙ sym (ended_first text [] more))
