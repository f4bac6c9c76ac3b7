-- How more bytes of the input, and one unit more, change how far it was read: what stands in the bytes that were read stands
-- there whatever follows.
use Rattle.std.proofs.Common.{◌≡◌, ℕ, zero, suc, ◌+◌, ◌-◌, ◌≤◌, List, [], ◌∷◌, ◌++◌, length, Option, Some, None, refl, sym, ap, ◌∙◌, subst, append_assoc, arith, length-append}
use Rattle.mx_msgpack.specs.Readers.{Reader, Advances, in_front, all_from}
use Rattle.mx_msgpack.proofs.ReaderLaws.{all_from_none, all_from_some}
use Rattle.mx_node.specs.Inputs.{InputUnit}
use Rattle.mx_top.specs.Units.{content_at, unit_at, units_of}
use Rattle.mx_top.specs.Progress.{ReadTo, Consumed, after_units}
use Rattle.mx_top.proofs.UnitLaws.{append_longer, unit_at-Advances, unit_some, units_of-some}
use Rattle.mx_top.proofs.HeadLaws.{content_at-IsStable}

-- ---- two readers, of which the second finds what the first one does before more bytes

module _ {X : Type 0} (first second : Reader X) (more : List ℕ) (first_advances : Advances first) (second_advances : Advances second)
    (stands : (bytes : List ℕ) (found : X × List ℕ) → first bytes ≡ Some found → second (bytes ++ more) ≡ Some (found.0, found.1 ++ more)) where
  -- what the first one found, and then what the second one finds in the rest and in more bytes
  abbrev then_more : List X × List ℕ → List X × List ℕ
  then_more read = let others = all_from second (read.1 ++ more) in (read.0 ++ others.0, others.1)

  more_none : (bytes : List ℕ) → first bytes ≡ None → all_from second (bytes ++ more) ≡ then_more (all_from first bytes)
  more_none bytes e = sym (ap then_more (all_from_none first first_advances bytes e))

  more_some : (bytes : List ℕ) (x : X × List ℕ) → first bytes ≡ Some x → all_from second (x.1 ++ more) ≡ then_more (all_from first x.1)
      → all_from second (bytes ++ more) ≡ then_more (all_from first bytes)
  more_some bytes x e rest =
      all_from_some second second_advances (bytes ++ more) (x.0, x.1 ++ more) (stands bytes x e)
      ∙ ap (in_front x.0) rest
      ∙ sym (ap then_more (all_from_some first first_advances bytes x e))

  more_from : (n : ℕ) (bytes : List ℕ) → length bytes ≤ n → all_from second (bytes ++ more) ≡ then_more (all_from first bytes)
  more_from zero bytes p = step (first bytes) refl
    where
      step : (found : Option (X × List ℕ)) → first bytes ≡ found → all_from second (bytes ++ more) ≡ then_more (all_from first bytes)
      step None e = more_none bytes e
      step (Some x) e = let less = first_advances bytes x e in absurd (omega arith)
  more_from (suc n) bytes p = step (first bytes) refl (λ rest h. more_from n rest h)
    where
      step : (found : Option (X × List ℕ)) → first bytes ≡ found
          → ((rest : List ℕ) → length rest ≤ n → all_from second (rest ++ more) ≡ then_more (all_from first rest))
          → all_from second (bytes ++ more) ≡ then_more (all_from first bytes)
      step None e others = more_none bytes e
      step (Some x) e others =
          let less = first_advances bytes x e in
          let short : length x.1 ≤ n = omega arith in
          more_some bytes x e (others x.1 short)

  pub all_from-more : (bytes : List ℕ) → all_from second (bytes ++ more) ≡ then_more (all_from first bytes)
  all_from-more bytes = more_from (length bytes) bytes (omega arith)

-- ---- more bytes behind those that were read

-- a unit stands at the same place, counted from the start, when more bytes follow
unit_at-more : (total : ℕ) (more bytes : List ℕ) (found : InputUnit × List ℕ) → unit_at total bytes ≡ Some found
    → unit_at (total + length more) (bytes ++ more) ≡ Some (found.0, found.1 ++ more)
unfolding unit_at
unit_at-more total more bytes found e =
    let same : (total + length more) - length (bytes ++ more) ≡ total - length bytes = omega (arith, length-append bytes more) in
    ap (λ place. content_at place (bytes ++ more)) same ∙ content_at-IsStable (total - length bytes) bytes more found e

abbrev and_more : (total : ℕ) (more : List ℕ) → List InputUnit × List ℕ → List InputUnit × List ℕ
and_more total more read = let others = all_from (unit_at total) (read.1 ++ more) in (read.0 ++ others.0, others.1)

units_more : (total later : ℕ) (more bytes : List ℕ) → later ≡ total + length more
    → all_from (unit_at later) (bytes ++ more) ≡ and_more later more (all_from (unit_at total) bytes)
units_more total later more bytes is =
    all_from-more (unit_at total) (unit_at later) more (unit_at-Advances total) (unit_at-Advances later)
    (λ bytes found e. ap (λ n. unit_at n (bytes ++ more)) is ∙ unit_at-more total more bytes found e) bytes

-- more bytes were read, and wait
read_more : (bytes waiting more : List ℕ) (place : ℕ) (units : List InputUnit) → ReadTo bytes waiting place units
    → ReadTo (bytes ++ more) (waiting ++ more) place units
unfolding units_of
read_more bytes waiting more place units read =
    let total = length (bytes ++ more) in
    let long = length-append bytes more in
    let first = all_from (unit_at (length bytes)) waiting in
    let others = all_from (unit_at total) (first.1 ++ more) in
    record {
      all = units_more (length bytes) total more bytes long
          ∙ ap (and_more total more) read.all
          ∙ ap (λ (u : List InputUnit). (u, others.1)) (append_assoc units first.0 others.0)
          ∙ sym (ap (after_units units) (units_more (length bytes) total more waiting long));
      at = omega (arith, length-append waiting more, read.at);
    }

-- ---- how far the input was read

-- what was read and what is left are the input
pub consumed_all : (input waiting left : List ℕ) (place : ℕ) (units : List InputUnit) → Consumed input waiting left place units
    → ReadTo input (waiting ++ left) place units
consumed_all input waiting left place units consumed =
    subst (λ l. ReadTo l (waiting ++ left) place units) (sym consumed.all) (read_more consumed.bytes waiting left place units consumed.read)

-- more of it was read, and waits
pub consumed_more : (input waiting left now more : List ℕ) (place : ℕ) (units : List InputUnit) → Consumed input waiting left place units
    → waiting ++ left ≡ now ++ more → length waiting ≤ length now → Consumed input now more place units
consumed_more input waiting left now more place units consumed same longer =
    let (chunk, grown, rest) = append_longer waiting left now more same longer in
    record {
      bytes = consumed.bytes ++ chunk;
      all = consumed.all ∙ ap (λ (l : List ℕ). consumed.bytes ++ l) rest ∙ sym (append_assoc consumed.bytes chunk more);
      read = subst (λ l. ReadTo (consumed.bytes ++ chunk) l place units) (sym grown) (read_more consumed.bytes waiting chunk place units consumed.read);
    }

-- the unit that stands first in what waits was taken
pub consumed_on : (input waiting left behind : List ℕ) (place next : ℕ) (units : List InputUnit) (unit : InputUnit) → Consumed input waiting left place units
    → content_at place waiting ≡ Some (unit, behind) → next + length behind ≡ place + length waiting
    → Consumed input behind left next (units ++ unit ∷ [])
consumed_on input waiting left behind place next units unit consumed found moved = record {
  bytes = consumed.bytes;
  all = consumed.all;
  read = record {
    all = units_of-some consumed.bytes waiting behind units unit consumed.read.all (unit_some consumed.bytes waiting behind unit place consumed.read.at found);
    at = moved ∙ consumed.read.at;
  };
}
