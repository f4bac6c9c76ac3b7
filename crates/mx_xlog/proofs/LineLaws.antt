-- Lines that each end with a newline, one after the other.
use Rattle.std.proofs.Common.{◌≡◌, ℕ, zero, suc, ◌<◌, false, nat_eq, length, take, drop, get_or, arith, List, [], ◌∷◌, ◌++◌, refl, sym, ap, ◌∙◌, append_assoc}
use Rattle.std.proofs.lemmas.List.{take_at}
use Rattle.std.specs.Cmp.Lexicographic.{other_text}
use Rattle.std.specs.List.{starts_with}
use Rattle.mx_xlog.specs.Headers.{lines_text}
use Rattle.mx_xlog.specs.Lines.{IsLine}

pub ended-append : (lines more : List (List ℕ)) → lines_text (lines ++ more) ≡ lines_text lines ++ lines_text more
ended-append [] more = refl
ended-append (line ∷ lines) more =
    ap (λ l. (line ++ 10 ∷ []) ++ l) (ended-append lines more) ∙ sym (append_assoc (line ++ 10 ∷ []) (lines_text lines) (lines_text more))

-- lines that were added, before more of them
pub lines_added : (lines more : List (List ℕ)) (old new : List ℕ) → new ≡ old ++ lines_text lines → old ++ lines_text (lines ++ more) ≡ new ++ lines_text more
lines_added lines more old new added =
    ap (λ l. old ++ l) (ended-append lines more) ∙ sym (append_assoc old (lines_text lines) (lines_text more)) ∙ ap (λ l. l ++ lines_text more) (sym added)

-- the lines of a header, added part by part
pub header_added : (type : List (List ℕ)) (instance set : List ℕ) (replica clock : List (List ℕ)) (out a b c d e : List ℕ) → a ≡ out ++ lines_text type
    → b ≡ a ++ lines_text (instance ∷ []) → c ≡ b ++ lines_text (set ∷ []) → d ≡ c ++ lines_text replica → e ≡ d ++ lines_text clock
    → e ≡ out ++ lines_text (type ++ instance ∷ set ∷ (replica ++ clock))
header_added type instance set replica clock out a b c d e to_a to_b to_c to_d to_e =
    sym (
    lines_added type (instance ∷ set ∷ (replica ++ clock)) out a to_a
    ∙ lines_added (instance ∷ []) (set ∷ (replica ++ clock)) a b to_b
    ∙ lines_added (set ∷ []) (replica ++ clock) b c to_c
    ∙ lines_added replica clock c d to_d
    ∙ sym to_e
    )

pub line_longer : (bytes : List ℕ) (at : ℕ) → at < length bytes → (get_or bytes at 0 ≡ 10 → ⊥) → IsLine (take at bytes) → IsLine (take (suc at) bytes)
line_longer [] at within other line = absurd (omega arith)
line_longer (byte ∷ bytes) zero within other line = (other, tt)
line_longer (byte ∷ bytes) (suc at) within other line = (line.0, line_longer bytes at (omega arith) other line.1)

-- the bytes before a newline and after it
pub around_newline : (bytes : List ℕ) (at : ℕ) → at < length bytes → get_or bytes at 0 ≡ 10 → bytes ≡ take at bytes ++ 10 ∷ drop (suc at) bytes
around_newline [] at within is = absurd (omega arith)
around_newline (byte ∷ bytes) zero within is = ap (λ b. b ∷ bytes) is
around_newline (byte ∷ bytes) (suc at) within is = ap (λ l. byte ∷ l) (around_newline bytes at (omega arith) is)

pub no_newline : (line rest : List ℕ) → IsLine (line ++ 10 ∷ rest) → ⊥
no_newline [] rest l = l.0 refl
no_newline (byte ∷ line) rest l = no_newline line rest l.1

-- the bytes begin with one line only
pub same_line : (line other rest more : List ℕ) → IsLine line → IsLine other → line ++ 10 ∷ rest ≡ other ++ 10 ∷ more → (line ≡ other) × (rest ≡ more)
same_line [] [] rest more l o e = (refl, cc)
same_line [] (byte ∷ other) rest more l o e = absurd (o.0 cc)
same_line (byte ∷ line) [] rest more l o e = absurd (l.0 cc)
same_line (byte ∷ line) (next ∷ other) rest more l o e =
    let first : byte ≡ next = cc in
    let found = same_line line other rest more l.1 o.1 cc in
    (ap (λ b. b ∷ line) first ∙ ap (λ bs. next ∷ bs) found.0, found.1)

-- bytes of which a comparison found that they don't begin so
pub no_prefix : (line prefix : List ℕ) → false ≡ starts_with nat_eq line prefix → (value : List ℕ) → ¬ (line ≡ prefix ++ value)
no_prefix line prefix other value is =
    other_text prefix (take (length prefix) line) other (sym (ap (take (length prefix)) is ∙ take_at prefix value (length prefix) refl))
