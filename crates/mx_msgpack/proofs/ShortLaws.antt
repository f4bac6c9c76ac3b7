-- Bytes that begin a spelling and don't end it end inside a value: another fault would stay, whatever follows.
use Rattle.std.proofs.Common.{◌≡◌, ℕ, ◌≤◌, List, [], ◌∷◌, ◌++◌, length, take, drop, refl, sym, ap, ◌∙◌, subst, append_assoc, inl, inr, ◌⊎◌, arith}
use Rattle.std.proofs.lemmas.List.{append-nil, take-append-drop}
use Rattle.mx_msgpack.specs.declared.bad.Bad.{Bad}
use Rattle.mx_msgpack.specs.declared.bad.Bad.TheVariants.{Short}
use Rattle.mx_msgpack.specs.Grammar.{Value, max_nesting, Spells}
use Rattle.mx_msgpack.specs.Faults.{IsFault, begins_none, ends_in_head, too_deep, too_many, inside, too_long, ends_in_content}
use Rattle.mx_msgpack.proofs.FaultLaws.{never_both, one_of_both}
use Rattle.mx_msgpack.proofs.PrefixLaws.{no_prefix_of_another}

longer : (bytes head rest more : List ℕ) → bytes ≡ head ++ rest → bytes ++ more ≡ head ++ (rest ++ more)
longer bytes head rest more parts = ap (λ (l : List ℕ). l ++ more) parts ∙ append_assoc head rest more

-- a fault stays whatever follows, or the bytes end inside a value
pub fault_stays : {room at : ℕ} {bytes : List ℕ} {bad : Bad} (more : List ℕ) → IsFault room at bytes bad → IsFault room at (bytes ++ more) bad ⊎ (bad ≡ Short)
fault_stays more (begins_none unused) = inl (begins_none unused)
fault_stays more (ends_in_head cut) = inr refl
fault_stays more (too_deep {bytes = bytes} count follow head rest h parts) = inl (too_deep count follow head (rest ++ more) h (longer bytes head rest more parts))
fault_stays more (too_many {bytes = bytes} count follow head rest h parts many) = inl (too_many count follow head (rest ++ more) h (longer bytes head rest more parts) many)
fault_stays more (inside {bytes = bytes} count follow head front rest values h parts few s fewer fault) =
    elim (fault_stays more fault) [
      | inl stays ↦ inl (inside count follow head front (rest ++ more) values h (longer bytes head (front ++ rest) more parts ∙ ap (λ (l : List ℕ). head ++ l) (append_assoc front rest more)) few s fewer stays)
      | inr short ↦ inr short
    ]
fault_stays more (too_long {bytes = bytes} size follow head rest h parts long) = inl (too_long size follow head (rest ++ more) h (longer bytes head rest more parts) long)
fault_stays more (ends_in_content size follow head rest h parts few short) = inr refl

pub prefix_short : (value : Value) (bytes missing : List ℕ) → Spells max_nesting value (bytes ++ missing) → 1 ≤ length missing → IsFault max_nesting 0 bytes Short
prefix_short value bytes missing s some =
    elim (one_of_both bytes) [
      | inl (size, within, other, t) ↦
          let parts = take-append-drop size bytes in
          let whole : bytes ++ missing ≡ take size bytes ++ (drop size bytes ++ missing) = longer bytes (take size bytes) (drop size bytes) missing (sym parts) in
          let none = no_prefix_of_another other value (take size bytes) (drop size bytes ++ missing) t (rw (← whole) s) in
          absurd (nothing_more (drop size bytes) missing none some)
      | inr (bad, fault) ↦
          elim (fault_stays missing fault) [
            | inl stays ↦ absurd (never_both value (bytes ++ missing) [] bad s (subst (λ (l : List ℕ). IsFault max_nesting 0 l bad) (sym (append-nil (bytes ++ missing))) stays))
            | inr short ↦ subst (λ (b : Bad). IsFault max_nesting 0 bytes b) short fault
          ]
    ]
  where
    nothing_more : (rest missing : List ℕ) → rest ++ missing ≡ [] → 1 ≤ length missing → ⊥
    nothing_more [] [] e some = omega (arith, some)
    nothing_more [] (byte ∷ bytes) e some = absurd cc
    nothing_more (byte ∷ bytes) missing e some = absurd cc
