-- Each tuple of a space has a key in each index, and in a unique one it has it alone: where that stays so.
use Rattle.std.proofs.Common.{◌≡◌, ℕ, Bool, true, false, cond, List, Some, None, Result, Ok, refl, sym, ap, ◌∙◌, [], ◌∷◌}
use Rattle.std.specs.FinMap.{get, get-insert, get-remove, insert, remove}
use Rattle.std.specs.List.{AllByRecursion}
use Rattle.std.specs.Ordering.{eq_by_cmp, is_eq}
use Rattle.std.specs.declared.cmp.Ordering.{Ordering}
use Rattle.std.specs.declared.cmp.Ordering.TheVariants.{Less, Equal, Greater}
use Rattle.mx_key.specs.declared.fault.NoKey.{NoKey}
use Rattle.mx_key.specs.Keys.{Key, key_cmp}
use Rattle.mx_key.proofs.KeyLaws.{key_cmp-IsAntisymmetric, key_cmp_total}
use Rattle.mx_schema.specs.declared.index_def.IndexDef.{IndexDef}
use Rattle.mx_schema.specs.declared.schema.Schema.{Schema}
use Rattle.mx_schema.specs.Catalogues.{index_with}
use Rattle.mx_schema.specs.Sound.{AreIndexed, AreUnique, HaveKeys}
use Rattle.mx_schema.specs.State.{Tuples, key_in}
use Rattle.mx_schema.proofs.StoredLaws.{each_put}
use Rattle.mx_schema.proofs.TakenLaws.{each_left, none_left}

-- what follows of each element
pub each_follows : {X : Type 0} (P Q : X → Type 0) → ((x : X) → P x → Q x) → (xs : List X) → AllByRecursion P xs → AllByRecursion Q xs
each_follows P Q follows [] have = tt
each_follows P Q follows (x ∷ xs) have = (follows x have.0, each_follows P Q follows xs have.1)

pub both_follow : {X : Type 0} (P Q R : X → Type 0) → ((x : X) → P x → Q x → R x) → (xs : List X) → AllByRecursion P xs → AllByRecursion Q xs → AllByRecursion R xs
both_follow P Q R follows [] have has = tt
both_follow P Q R follows (x ∷ xs) have has = (follows x have.0 has.0, both_follow P Q R follows xs have.1 has.1)

-- the tuples of an index that is unique
abbrev pub Alone : Tuples → IndexDef → Type 0
Alone tuples def = def.unique ≡ true → AreUnique def tuples

-- ---- a tuple less

module _ (schema : Schema) (tuples : Tuples) (key : Key) (indexed : AreIndexed schema tuples) where
  was_there : (one : Key) (tuple : List ℕ) → get (remove tuples key) one ≡ Some tuple → get tuples one ≡ Some tuple
  was_there one tuple e = by_test (eq_by_cmp key_cmp one key) (sym (get-remove key_cmp_total tuples key one) ∙ e)
    where
      by_test : (b : Bool) → cond b None (get tuples one) ≡ Some tuple → get tuples one ≡ Some tuple
      by_test true e = absurd cc
      by_test false e = e

  pub indexed_left : AreIndexed schema (remove tuples key)
  indexed_left = record {
    apart = indexed.apart;
    have = each_follows (λ def. HaveKeys def tuples) (λ def. HaveKeys def (remove tuples key))
        (λ def. each_left key (λ row. (k : Key) × (key_in def.key row.1 ≡ Ok k)) tuples) schema.indexes indexed.have;
    unique = each_follows (Alone tuples) (Alone (remove tuples key))
        (λ def alone u one other first second k here there. alone u one other first second k (was_there one first here) (was_there other second there)) schema.indexes indexed.unique;
    primary = λ none. none_left key tuples (indexed.primary none);
  }

-- ---- a tuple more, or one in the place of another

-- an index takes a tuple under a primary key: the tuple has a key in it, which in a unique one no other tuple has
abbrev pub Takes : Tuples → (primary : Key) → (tuple : List ℕ) → IndexDef → Type 0
Takes tuples primary tuple def =
    (key : Key) × (key_in def.key tuple ≡ Ok key)
    × (def.unique ≡ true → (other : Key) (held : List ℕ) → get tuples other ≡ Some held → key_in def.key held ≡ Ok key → other ≡ primary)

pub same_key : (one other : Key) → ◌≡◌ {A = Result Key NoKey} (Ok one) (Ok other) → one ≡ other
same_key one other e = cc

eq_is : (o : Ordering) → is_eq o ≡ true → o ≡ Equal
eq_is Less e = absurd cc
eq_is Equal e = refl
eq_is Greater e = absurd cc

-- keys that tie are one
pub tied_is : (one other : Key) → eq_by_cmp key_cmp one other ≡ true → one ≡ other
tied_is one other tied = key_cmp-IsAntisymmetric one other (eq_is (key_cmp one other) tied)

same_tuple : (one other : List ℕ) → Some one ≡ Some other → one ≡ other
same_tuple one other e = cc

module _ (tuples : Tuples) (primary : Key) (put : List ℕ) where
  alone_after : (def : IndexDef) → Alone tuples def → Takes tuples primary put def → Alone (insert tuples primary put) def
  alone_after def alone takes u one other first second k here there has had =
      by_tests (eq_by_cmp key_cmp one primary) refl (eq_by_cmp key_cmp other primary) refl
      (sym (get-insert key_cmp_total tuples primary put one) ∙ here) (sym (get-insert key_cmp_total tuples primary put other) ∙ there)
    where
      -- the key of the tuple that is put
      its : (tuple : List ℕ) → put ≡ tuple → key_in def.key tuple ≡ Ok k → takes.0 ≡ k
      its tuple same is = same_key takes.0 k (sym takes.1 ∙ ap (key_in def.key) same ∙ is)

      by_tests : (b : Bool) → eq_by_cmp key_cmp one primary ≡ b → (c : Bool) → eq_by_cmp key_cmp other primary ≡ c
          → cond b (Some put) (get tuples one) ≡ Some first → cond c (Some put) (get tuples other) ≡ Some second → one ≡ other
      by_tests true tied true also h t = tied_is one primary tied ∙ sym (tied_is other primary also)
      by_tests true tied false apart h t =
          tied_is one primary tied ∙ sym (takes.2 u other second t (had ∙ ap (λ x. Ok x) (sym (its first (same_tuple put first h) has))))
      by_tests false apart true also h t =
          takes.2 u one first h (has ∙ ap (λ x. Ok x) (sym (its second (same_tuple put second t) had))) ∙ sym (tied_is other primary also)
      by_tests false apart false other_apart h t = alone u one other first second k h t has had

  pub indexed_put : (schema : Schema) (def : IndexDef) → index_with 0 schema.indexes ≡ Some def → AreIndexed schema tuples → AllByRecursion (Takes tuples primary put) schema.indexes
      → AreIndexed schema (insert tuples primary put)
  indexed_put schema first there indexed takes = record {
    apart = indexed.apart;
    have = both_follow (λ def. HaveKeys def tuples) (Takes tuples primary put) (λ def. HaveKeys def (insert tuples primary put))
        (λ def have its. each_put (λ row. (k : Key) × (key_in def.key row.1 ≡ Ok k)) tuples primary put (its.0, its.1) have) schema.indexes indexed.have takes;
    unique = both_follow (Alone tuples) (Takes tuples primary put) (Alone (insert tuples primary put)) alone_after schema.indexes indexed.unique takes;
    primary = λ none. let no : Some first ≡ None = sym there ∙ none in absurd cc;
  }
