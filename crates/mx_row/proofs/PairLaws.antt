-- The maps of a row as lists of pairs: what is written is read again, whatever follows.
use Rattle.std.proofs.Common.{◌≡◌, ℕ, suc, ◌+◌, ◌<◌, List, ◌∷◌, ◌++◌, length, map, Some, Ok, sym, ap, ◌∙◌, subst, arith}
use Rattle.std.proofs.lemmas.List.{take_at, drop_at}
use Rattle.mx_msgpack.specs.Reading.{ShownMap, reading_of}
use Rattle.mx_msgpack.specs.Readers.{Advances}
use Rattle.mx_msgpack.specs.Maps.{pairs_in, map_at}
use Rattle.mx_msgpack.proofs.FrontLaws.{map_read, read_shorter}
use Rattle.mx_request.specs.Spelling.{Written, map_text}
use Rattle.mx_request.proofs.MapTextLaws.{AreWhole, as_read, pairs_again, spelled_so}
use Rattle.mx_request.proofs.WriterLaws.{pairs_text}
use Rattle.mx_completion.proofs.MapLaws.{map_known, map_parts, pairs_known}
use Rattle.mx_row.proofs.SizeLaws.{short_text}

-- ---- a map that stands first

pub map_at-Advances : Advances map_at
map_at-Advances bytes found e =
    let p = map_parts bytes found e in
    let less = read_shorter bytes (ShownMap p.count p.items) p.size p.read in
    let l = ap length p.rest in
    omega arith

-- ---- a map that was written

module _ (pairs : List Written) (rest : List ℕ) (few : length pairs < 0x10) (whole : AreWhole pairs) where
  written_read : reading_of (map_text pairs ++ rest) ≡ Ok (ShownMap (length pairs) (pairs_text pairs), suc (length (pairs_text pairs)))
  written_read =
      let s = spelled_so 63 pairs whole in
      let content = pairs_text pairs in
      rw (short_text pairs few)
      (subst (λ (n : ℕ). reading_of ((0x80 + n) ∷ (content ++ rest)) ≡ Ok (ShownMap n content, suc (length content))) s.many
      (map_read s.all content rest (omega (arith, s.many)) s.spelled))

  size_is : suc (length (pairs_text pairs)) ≡ length (map_text pairs)
  size_is = sym (ap length (short_text pairs few))

  pub map_again : map_at (map_text pairs ++ rest) ≡ Some (map_text pairs, rest)
  map_again =
      map_known (map_text pairs ++ rest) (length pairs) (pairs_text pairs) (suc (length (pairs_text pairs))) written_read
      ∙ (λ i. Some (take_at (map_text pairs) rest _ (sym size_is) i, drop_at (map_text pairs) rest _ (sym size_is) i))

  pub pairs_again_in : pairs_in (map_text pairs ++ rest) ≡ map as_read pairs
  pairs_again_in =
      pairs_known (map_text pairs ++ rest) (length pairs) (pairs_text pairs) (suc (length (pairs_text pairs))) written_read
      ∙ pairs_again pairs whole
