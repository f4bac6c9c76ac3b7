-- What the plain slow program keeps after the change that a write came to.
use Rattle.std.proofs.Common.{◌≡◌, ℕ, List, Option, Some, Result, Ok, Err, sym, subst}
use Rattle.std.specs.Prelude.{IfSome, MatchResult, OnErr, OnOk}
use Rattle.mx_key.specs.Keys.{Key}
use Rattle.mx_schema.specs.declared.index_def.IndexDef.{IndexDef}
use Rattle.mx_schema.specs.Catalogues.{index_with}
use Rattle.mx_schema.specs.State.{State, key_in}
use Rattle.mx_write.specs.Installs.{MayChange}
use Rattle.mx_write.proofs.EachSpaceLaws.{OfSpace}
use Rattle.mx_slow_state.specs.declared.slow_state.SlowSpace.{SlowSpace}
use Rattle.mx_slow_state.specs.SlowState.{KeepsSpace}

-- what the program has of each space
abbrev pub kept : (spaces : ℕ → Option SlowSpace) → OfSpace
kept spaces = λ space schema tuples. KeepsSpace schema (spaces space) tuples

-- what both ends of a call tell
pub at_ends : {X E : Type 0} (P Q : Type 0) (result : Result X E) → OnOk result P → OnErr result Q → MatchResult result (λ _. P) (λ _. Q)
at_ends P Q (Ok x) ok err = ok
at_ends P Q (Err e) ok err = err

-- a tuple that is put has the key under which it is put
pub put_under : (before : State) (space : ℕ) (key : Key) (tuple : List ℕ) (changes : MayChange before space key (Some tuple))
    → IfSome (index_with 0 changes.schema.indexes) (λ def. key_in def.key tuple ≡ Ok key)
put_under before space key tuple changes = subst (λ (o : Option IndexDef). IfSome o (λ def. key_in def.key tuple ≡ Ok key)) (sym changes.there) changes.fits.own
