use Rattle.std.proofs.Common.{◌≡◌, ℕ, true, List, [], ◌∷◌, ◌++◌, map, refl, sym, ap, ◌∙◌, Option, Some, None}
use Rattle.std.specs.List.{filter, last_or}
use Rattle.std.specs.String.{string_bytes}
use Rattle.std.proofs.lemmas.List.Elements.{filter-append}
use Rattle.std.proofs.lemmas.List.{map_push}
use Rattle.mx_files.specs.Names.{is_snapshot}
use Rattle.mx_files.proofs.file_kind.newest_snapshot.Goals as goal

last_or-push : (earlier : Option (List ℕ)) (names : List (List ℕ)) (last : List ℕ) → last_or earlier (names ++ last ∷ []) ≡ Some last
last_or-push earlier [] last = refl
last_or-push earlier (name ∷ names) last = last_or-push (Some name) names last

kept : (name : List ℕ) → is_snapshot name ≡ true → filter is_snapshot (name ∷ []) ≡ name ∷ []
kept name is = rw is refl

newest : (names : List (List ℕ)) (last : List ℕ) → is_snapshot last ≡ true → last_or None (filter is_snapshot (names ++ last ∷ [])) ≡ Some last
newest names last is =
    ap (last_or None) (filter-append is_snapshot names (last ∷ []) ∙ ap (λ more. filter is_snapshot names ++ more) (kept last is))
    ∙ last_or-push None (filter is_snapshot names) last

pub returns-then-is_snapshot : goal.returns-then-is_snapshot
returns-then-is_snapshot c =
    let last = c.in-Some.last.now in
    let earlier = c.in-Some.earlier.now in
    let is : is_snapshot (string_bytes last) ≡ true = ap is_snapshot (sym c.deref.ensures) ∙ sym c.is_snapshot.ensures ∙ c.if-is_snapshot.true in
    sym (newest (map string_bytes earlier) (string_bytes last) is)
    ∙ ap (λ names. last_or None (filter is_snapshot names)) (sym (map_push string_bytes earlier last))
    ∙ ap (λ rest. last_or None (filter is_snapshot (map string_bytes rest))) (sym c.in-Some.ensures.cases.0)
    ∙ c.loop-last.invariant
