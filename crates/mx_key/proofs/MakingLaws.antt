-- Keys that are made part by part.
use Rattle.std.proofs.Common.{◌≡◌, ℕ, suc, ◌+◌, ◌-◌, ◌<◌, ◌≤◌, get_or, List, [], ◌∷◌, ◌++◌, length, drop, Option, Some, None, Result, Ok, Err, refl, sym, ap, subst, ◌∙◌, append_assoc, arith}
use Rattle.std.specs.List.{slice_get}
use Rattle.std.specs.Option.{ok_or}
use Rattle.std.proofs.lemmas.List.{append-nil, at_drop_more}
use Rattle.mx_msgpack.specs.declared.value.Value.{Value}
use Rattle.mx_msgpack.specs.Items.{first_value, after_value, values_from}
use Rattle.mx_key.specs.declared.part.Part.{Part}
use Rattle.mx_key.specs.declared.fault.NoKey.{NoKey}
use Rattle.mx_key.specs.declared.fault.Misfit.{Misfit}
use Rattle.mx_key.specs.declared.fault.Misfit.TheVariants.{WrongPart}
use Rattle.mx_key.specs.Keys.{Key, KeyPart, IsFit, AreFit}
use Rattle.mx_key.specs.Parts.{◌>>=◌, part_of, part_in, parts_of_items, key_of}
use Rattle.mx_key.specs.Comparable.{part_bytes, comparable_of, part_of_value, AreParts}

pub comparable_of-append : (parts others : Key) → comparable_of (parts ++ others) ≡ comparable_of parts ++ comparable_of others
comparable_of-append [] others = refl
comparable_of-append (part ∷ parts) others =
    ap (λ (l : List ℕ). part_bytes part ++ l) (comparable_of-append parts others) ∙ sym (append_assoc (part_bytes part) (comparable_of parts) (comparable_of others))

-- one more part at the end
pub comparable_of-push : (parts : Key) (part : KeyPart) → comparable_of (parts ++ part ∷ []) ≡ comparable_of parts ++ part_bytes part
comparable_of-push parts part = comparable_of-append parts (part ∷ []) ∙ ap (λ (l : List ℕ). comparable_of parts ++ l) (append-nil (part_bytes part))

pub AreFit-push : (parts : Key) (part : KeyPart) → AreFit parts → IsFit part → AreFit (parts ++ part ∷ [])
AreFit-push [] part fit fits = (fits, tt)
AreFit-push (first ∷ parts) part fit fits = (fit.0, AreFit-push parts part fit.1 fits)

-- ---- what makes a key or fails, seen after some of its parts

-- the whole key is these parts and then the remaining ones
pub record IsSoFar {E : Type 0} (whole left : Result Key E) (out : List ℕ) : Type 0 where
  pub done : Key
  pub fit : AreFit done
  pub bytes : out ≡ comparable_of done
  pub same : whole ≡ (left >>= λ rest. Ok (done ++ rest))

module _ {E : Type 0} (whole : Result Key E) where
  bind_Ok : (r : Result Key E) → r ≡ (r >>= λ rest. Ok rest)
  bind_Ok (Ok key) = refl
  bind_Ok (Err e) = refl

  pub regroup : (done : Key) (part : KeyPart) (others : Result Key E)
      → ((others >>= λ rest. Ok (part ∷ rest)) >>= λ rest. Ok (done ++ rest)) ≡ (others >>= λ rest. Ok ((done ++ part ∷ []) ++ rest))
  regroup done part (Ok rest) = ap (λ (k : Key). Ok k) (sym (append_assoc done (part ∷ []) rest))
  regroup done part (Err e) = refl

  pub made_more : (left others : Result Key E) (out more : List ℕ) (part : KeyPart) → IsSoFar whole left out → IsFit part
      → left ≡ (others >>= λ rest. Ok (part ∷ rest)) → more ≡ out ++ part_bytes part → IsSoFar whole others more
  made_more left others out more part made fits next written = record {
    done = made.done ++ part ∷ [];
    fit = AreFit-push made.done part made.fit fits;
    bytes = written ∙ ap (λ (l : List ℕ). l ++ part_bytes part) made.bytes ∙ sym (comparable_of-push made.done part);
    same = made.same ∙ ap (λ (r : Result Key E). r >>= λ rest. Ok (made.done ++ rest)) next ∙ regroup made.done part others;
  }

  pub made_none : (left : Result Key E) (out : List ℕ) (fault : E) → IsSoFar whole left out → left ≡ Err fault → whole ≡ Err fault
  made_none left out fault made fails = made.same ∙ ap (λ (r : Result Key E). r >>= λ rest. Ok (made.done ++ rest)) fails

-- ---- by a tuple's fields

module _ (fields : List (List ℕ)) where
  pub next_field : (part : Part) (parts : List Part) (found : KeyPart) → part_of part (slice_get fields part.field) ≡ Ok found
      → key_of (part ∷ parts) fields ≡ (key_of parts fields >>= λ rest. Ok (found ∷ rest))
  next_field part parts found e = ap (λ (r : Result KeyPart NoKey). r >>= λ first. (key_of parts fields >>= λ others. Ok (first ∷ others))) e

  pub no_field : (part : Part) (parts : List Part) (why : NoKey) → part_of part (slice_get fields part.field) ≡ Err why → key_of (part ∷ parts) fields ≡ Err why
  no_field part parts why e = ap (λ (r : Result KeyPart NoKey). r >>= λ first. (key_of parts fields >>= λ others. Ok (first ∷ others))) e

-- ---- by the items of an array

-- the items from this place on, of as many as there are
abbrev pub parts_left : List Part → (count place : ℕ) → List ℕ → Result Key Misfit
parts_left def count place rest = parts_of_items place (drop place def) (values_from (count - place) rest)

next_left : (def others : List Part) (part : Part) (count place : ℕ) (rest : List ℕ) → place < count → drop place def ≡ part ∷ others
    → parts_left def count place rest
    ≡ (ok_or (part_in part.kind (first_value rest)) (WrongPart place part.kind) >>= λ first. (parts_of_items (suc place) others (values_from (count - suc place) (after_value rest)) >>= λ last. Ok (first ∷ last)))
next_left def others part count place rest below parts =
    let step : count - place ≡ suc (count - suc place) = omega arith in
    rw (parts, step) refl

pub next_item : (def : List Part) (part : Part) (count place next : ℕ) (rest after : List ℕ) (found : KeyPart) → place < count → next ≡ suc place
    → drop place def ≡ part ∷ drop next def → part_in part.kind (first_value rest) ≡ Some found → after ≡ after_value rest
    → parts_left def count place rest ≡ (parts_left def count next after >>= λ last. Ok (found ∷ last))
next_item def part count place next rest after found below is parts e behind =
    next_left def (drop next def) part count place rest below parts
    ∙ ap (λ (o : Option KeyPart). ok_or o (WrongPart place part.kind) >>= λ first. (parts_of_items (suc place) (drop next def) (values_from (count - suc place) (after_value rest)) >>= λ last. Ok (first ∷ last))) e
    ∙ (λ i. parts_of_items (sym is i) (drop next def) (values_from (count - sym is i) (sym behind i)) >>= λ last. Ok (found ∷ last))

pub bad_item : (def others : List Part) (part : Part) (count place : ℕ) (rest : List ℕ) → place < count
    → drop place def ≡ part ∷ others → part_in part.kind (first_value rest) ≡ None
    → parts_left def count place rest ≡ Err (WrongPart place part.kind)
bad_item def others part count place rest below parts e =
    next_left def others part count place rest below parts
    ∙ ap (λ (o : Option KeyPart). ok_or o (WrongPart place part.kind) >>= λ first. (parts_of_items (suc place) others (values_from (count - suc place) (after_value rest)) >>= λ last. Ok (first ∷ last))) e

-- ---- by owned values

-- some parts are written, and the remaining values are the others
pub record IsWritten (left : List Value) (out : List ℕ) (key : Key) : Type 0 where
  pub rest : Key
  pub parts : AreParts left rest
  pub fit : AreFit rest
  pub whole : out ++ comparable_of rest ≡ comparable_of key

pub written_more : (left others : List Value) (value : Value) (out more : List ℕ) (key : Key) → IsWritten left out key → left ≡ value ∷ others
    → ((part : KeyPart) → part_of_value value ≡ Some part → IsFit part → more ≡ out ++ part_bytes part) → IsWritten others more key
written_more left others value out more key written next adds = by_rest written.rest (subst (λ (l : List Value). AreParts l written.rest) next written.parts) written.fit written.whole
  where
    by_rest : (rest : Key) → AreParts (value ∷ others) rest → AreFit rest → out ++ comparable_of rest ≡ comparable_of key → IsWritten others more key
    by_rest [] parts fit whole = absurd parts
    by_rest (part ∷ rest) parts fit whole = record {
      rest = rest;
      parts = parts.1;
      fit = fit.1;
      whole = ap (λ (l : List ℕ). l ++ comparable_of rest) (adds part parts.0 fit.0) ∙ append_assoc out (part_bytes part) (comparable_of rest) ∙ whole;
    }

-- ---- an item, by the part in its place

module _ (def : List Part) (any : Part) (count place : ℕ) (rest : List ℕ) (below : place < count) (within : count ≤ length def) where
  pub item_taken : (after : List ℕ) (found : KeyPart) → part_in (get_or def place any).kind (first_value rest) ≡ Some found → after ≡ after_value rest
      → parts_left def count place rest ≡ (parts_left def count (place + 1) after >>= λ last. Ok (found ∷ last))
  item_taken after found some behind =
      next_item def (get_or def place any) count place (place + 1) rest after found below (omega arith)
      (at_drop_more (λ (l : List Part). l) def place any (omega arith)) some behind

  pub item_refused : part_in (get_or def place any).kind (first_value rest) ≡ None → parts_left def count place rest ≡ Err (WrongPart place (get_or def place any).kind)
  item_refused none =
      bad_item def (drop (place + 1) def) (get_or def place any) count place rest below
      (at_drop_more (λ (l : List Part). l) def place any (omega arith)) none
