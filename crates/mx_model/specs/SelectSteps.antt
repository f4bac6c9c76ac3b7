-- Only private functions and proofs need these: whether an index takes the key of a SELECT, before the types of its parts are looked at.
use Rattle.std.specs.Prelude.{◌≡◌, ◌⊎◌, ℕ, true, false, List, length, Err}
use Rattle.mx_base.specs.declared.kinds.Unsupported.TheVariants.{HashIterator}
use Rattle.mx_base.specs.declared.refusal.Refusal.{Refusal}
use Rattle.mx_base.specs.declared.refusal.Refusal.TheVariants.{Unsupported}
use Rattle.mx_key.specs.declared.fault.Misfit.{Misfit}
use Rattle.mx_key.specs.declared.iterator.IterKind.{IterKind}
use Rattle.mx_key.specs.Parts.{key_of_array}
use Rattle.mx_schema.specs.declared.index_def.IndexDef.{IndexDef}
use Rattle.mx_write.specs.Lookup.{misfit_refusal}
use Rattle.mx_model.specs.statements.Select.{asked_key, part_count, takes_iterator}

-- the index takes the iterator, and is asked for the key that a tree index would be asked for
abbrev pub TakesKey : IndexDef → IterKind → (key : List ℕ) → Type 0
TakesKey def iterator key = (takes_iterator def.kind iterator (part_count key) ≡ true) × (asked_key def key ≡ key_of_array def.key key)

-- the index doesn't take the iterator, or the key, and this is the refusal
abbrev pub RefusesKey : IndexDef → IterKind → (key : List ℕ) → Refusal → Type 0
RefusesKey def iterator key refusal =
    ((takes_iterator def.kind iterator (part_count key) ≡ false) × (refusal ≡ Unsupported HashIterator))
    ⊎ ((misfit : Misfit) × (takes_iterator def.kind iterator (part_count key) ≡ true) × (asked_key def key ≡ Err misfit)
    × (refusal ≡ misfit_refusal (length def.key) misfit))
