-- What the writers of several pieces have written.
use Rattle.std.proofs.Common.{◌≡◌, ℕ, ◌+◌, List, [], ◌∷◌, ◌++◌, length, refl, sym, ap, ◌∙◌, append_assoc, length-append, arith}
use Rattle.std.specs.Prelude.{map}
use Rattle.std.specs.List.{concat}
use Rattle.std.proofs.lemmas.List.{append-nil, map-append}
use Rattle.std.proofs.lemmas.List.Folds.{concat-append}
use Rattle.uuid.specs.Text.{hyphenated_text, lower}
use Rattle.uuid.proofs.TextLemmas.{by_index_length}
use Rattle.mx_msgpack.specs.Spelling.{str_head, map_head}
use Rattle.mx_request.specs.Spelling.{Written, entry_text, map_text, uuid_str}

-- a UUID's text has 36 bytes
pub uuid_length : (id : List ℕ) → length (hyphenated_text lower id) ≡ 36
uuid_length id = by_index_length 36 _

-- a key, and the head and the text of a UUID
pub uuid_written : (out first second third text id : List ℕ) (key : ℕ) → first ≡ out ++ key ∷ [] → second ≡ first ++ str_head (length text) → third ≡ second ++ text
    → text ≡ hyphenated_text lower id → third ≡ out ++ entry_text (key, uuid_str id)
uuid_written out first second third text id key e f g same =
    let size : length text ≡ 36 = ap length same ∙ uuid_length id in
    rw (g, f, e, size, same) (simp append_assoc)

abbrev pub pairs_text : List Written → List ℕ
pairs_text pairs = concat (map entry_text pairs)

pub pairs_text-append : (first second : List Written) → pairs_text (first ++ second) ≡ pairs_text first ++ pairs_text second
pairs_text-append first second = ap concat (map-append entry_text first second) ∙ concat-append (map entry_text first) (map entry_text second)

in_parts : (out head first a b c d last : List ℕ) → (((((((out ++ head) ++ first) ++ a) ++ b) ++ c) ++ d) ++ last) ≡ out ++ (head ++ (first ++ ((((a ++ b) ++ c) ++ d) ++ last)))
in_parts out head first a b c d last = simp append_assoc

-- the pairs of a selection, four of which may be omitted
module _ (first last : Written) (a b c d : List Written) where
  abbrev selected : List Written
  selected = first ∷ (a ++ b ++ c ++ d ++ last ∷ [])

  selected_text : pairs_text selected ≡ entry_text first ++ (((((pairs_text a ++ pairs_text b) ++ pairs_text c) ++ pairs_text d)) ++ entry_text last)
  selected_text =
      let e = pairs_text-append (a ++ b ++ c ++ d) (last ∷ []) in
      let f = pairs_text-append (a ++ b ++ c) d in
      let g = pairs_text-append (a ++ b) c in
      let h = pairs_text-append a b in
      rw (e, f, g, h, append-nil (entry_text last)) refl

  selected_count : length selected ≡ 2 + (length a + length b + length c + length d)
  selected_count =
      let e = length-append (a ++ b ++ c ++ d) (last ∷ []) in
      let f = length-append (a ++ b ++ c) d in
      let g = length-append (a ++ b) c in
      let h = length-append a b in
      omega arith

  pub select_written : (out headed one two three four five after : List ℕ) (count : ℕ)
      → headed ≡ out ++ map_head count → count ≡ 2 + (length a + length b + length c + length d)
      → one ≡ headed ++ entry_text first → two ≡ one ++ pairs_text a → three ≡ two ++ pairs_text b → four ≡ three ++ pairs_text c → five ≡ four ++ pairs_text d
      → after ≡ five ++ entry_text last → after ≡ out ++ map_text selected
  select_written out headed one two three four five after count h n e f g i j k =
      rw (k, j, i, g, f, e, h)
      (in_parts out (map_head count) (entry_text first) (pairs_text a) (pairs_text b) (pairs_text c) (pairs_text d) (entry_text last)
      ∙ ap (λ (l : List ℕ). out ++ (map_head count ++ l)) (sym selected_text)
      ∙ ap (λ (m : ℕ). out ++ (map_head m ++ pairs_text selected)) (n ∙ sym selected_count))
