-- An array that stands in a map is spelled with room for one container less than the map.
use Rattle.std.proofs.Common.{◌≡◌, ℕ, List, [], Ok, sym, ap, ◌∙◌}
use Rattle.std.proofs.lemmas.List.{append-nil}
use Rattle.mx_msgpack.specs.Reading.{after_first, reading_of, ShownArray}
use Rattle.mx_msgpack.proofs.GrammarLaws.{value_again}
use Rattle.mx_msgpack.proofs.ContainerLaws.{array_spelled}
use Rattle.mx_msgpack.proofs.InnerLaws.{IsInner}
use Rattle.mx_request.specs.Spelling.{IsInnerArray}

pub array_inner : (bytes : List ℕ) (count : ℕ) (items : List ℕ) (size : ℕ) → IsInner bytes → reading_of bytes ≡ Ok (ShownArray count items, size) → IsInnerArray bytes
array_inner bytes count items size (value, s) e =
    let alone : after_first 0 63 bytes ≡ Ok [] = ap (after_first 0 63) (sym (append-nil bytes)) ∙ value_again 0 63 value bytes [] s in
    array_spelled 0 62 bytes count items size alone e
