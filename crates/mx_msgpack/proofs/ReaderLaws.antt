-- As many in a row as there are: how a first one, nothing, and more bytes change the list.
use Rattle.std.proofs.Common.{◌≡◌, ℕ, zero, suc, ◌≤◌, List, [], ◌++◌, length, Option, Some, None, refl, sym, ap, ◌∙◌, arith}
use Rattle.mx_msgpack.specs.Readers.{Reader, Advances, IsStable, in_front, first_and_others, some_from, all_from}

module _ {X : Type 0} (read : Reader X) (advances : Advances read) where
  -- more than enough turns change nothing
  pub some_from_enough : (m n : ℕ) (bytes : List ℕ) → length bytes ≤ m → length bytes ≤ n → some_from read m bytes ≡ some_from read n bytes
  some_from_enough zero zero bytes p q = refl
  some_from_enough zero (suc n) bytes p q = sym (step (read bytes) refl)
    where
      step : (found : Option (X × List ℕ)) → read bytes ≡ found → first_and_others bytes found (some_from read n) ≡ ([], bytes)
      step None e = refl
      step (Some x) e = let less = advances bytes x e in absurd (omega arith)
  some_from_enough (suc m) zero bytes p q = step (read bytes) refl
    where
      step : (found : Option (X × List ℕ)) → read bytes ≡ found → first_and_others bytes found (some_from read m) ≡ ([], bytes)
      step None e = refl
      step (Some x) e = let less = advances bytes x e in absurd (omega arith)
  some_from_enough (suc m) (suc n) bytes p q = step (read bytes) refl (some_from_enough m n)
    where
      step : (found : Option (X × List ℕ)) → read bytes ≡ found → ((rest : List ℕ) → length rest ≤ m → length rest ≤ n → some_from read m rest ≡ some_from read n rest)
          → first_and_others bytes found (some_from read m) ≡ first_and_others bytes found (some_from read n)
      step None e same = refl
      step (Some x) e same =
          let less = advances bytes x e in
          let short : length x.1 ≤ m = omega arith in
          let short' : length x.1 ≤ n = omega arith in
          ap (in_front x.0) (same x.1 short short')

  -- nothing stands first
  pub all_from_none : (bytes : List ℕ) → read bytes ≡ None → all_from read bytes ≡ ([], bytes)
  all_from_none bytes e =
      some_from_enough (length bytes) (suc (length bytes)) bytes (omega arith) (omega arith)
      ∙ ap (λ (found : Option (X × List ℕ)). first_and_others bytes found (some_from read (length bytes))) e

  -- one stands first, and then the others
  pub all_from_some : (bytes : List ℕ) (found : X × List ℕ) → read bytes ≡ Some found → all_from read bytes ≡ in_front found.0 (all_from read found.1)
  all_from_some bytes found e =
      let less = advances bytes found e in
      let enough : length found.1 ≤ length bytes = omega arith in
      some_from_enough (length bytes) (suc (length bytes)) bytes (omega arith) (omega arith)
      ∙ ap (λ (o : Option (X × List ℕ)). first_and_others bytes o (some_from read (length bytes))) e
      ∙ ap (in_front found.0) (some_from_enough (length bytes) (length found.1) found.1 enough (omega arith))

abbrev pub and_then : {X : Type 0} → Reader X → List X × List ℕ → List ℕ → List X × List ℕ
and_then read first more = let others = all_from read (first.1 ++ more) in (first.0 ++ others.0, others.1)

module _ {X : Type 0} (read : Reader X) (advances : Advances read) (stable : IsStable read) where
  joined_none : (bytes more : List ℕ) → read bytes ≡ None → all_from read (bytes ++ more) ≡ and_then read (all_from read bytes) more
  joined_none bytes more e = sym (ap (λ (first : List X × List ℕ). and_then read first more) (all_from_none read advances bytes e))

  joined_some : (bytes more : List ℕ) (x : X × List ℕ) → read bytes ≡ Some x → all_from read (x.1 ++ more) ≡ and_then read (all_from read x.1) more
      → all_from read (bytes ++ more) ≡ and_then read (all_from read bytes) more
  joined_some bytes more x e rest =
      all_from_some read advances (bytes ++ more) (x.0, x.1 ++ more) (stable bytes more x e)
      ∙ ap (in_front x.0) rest
      ∙ sym (ap (λ (first : List X × List ℕ). and_then read first more) (all_from_some read advances bytes x e))

  joined : (n : ℕ) (bytes more : List ℕ) → length bytes ≤ n → all_from read (bytes ++ more) ≡ and_then read (all_from read bytes) more
  joined zero bytes more p = step (read bytes) refl
    where
      step : (found : Option (X × List ℕ)) → read bytes ≡ found → all_from read (bytes ++ more) ≡ and_then read (all_from read bytes) more
      step None e = joined_none bytes more e
      step (Some x) e = let less = advances bytes x e in absurd (omega arith)
  joined (suc n) bytes more p = step (read bytes) refl (λ rest h. joined n rest more h)
    where
      step : (found : Option (X × List ℕ)) → read bytes ≡ found
          → ((rest : List ℕ) → length rest ≤ n → all_from read (rest ++ more) ≡ and_then read (all_from read rest) more)
          → all_from read (bytes ++ more) ≡ and_then read (all_from read bytes) more
      step None e others = joined_none bytes more e
      step (Some x) e others =
          let less = advances bytes x e in
          let short : length x.1 ≤ n = omega arith in
          joined_some bytes more x e (others x.1 short)

  -- what stands in the bytes, and then what stands in their rest and the bytes after them
  pub all_from-append : (bytes more : List ℕ) → all_from read (bytes ++ more) ≡ and_then read (all_from read bytes) more
  all_from-append bytes more = joined (length bytes) bytes more (omega arith)
