-- How many parts a key has.
use Rattle.std.proofs.Common.{◌≡◌, ℕ, suc, List, [], ◌∷◌, length, Some, Result, Ok, Err, refl, sym, ap, ◌∙◌, subst}
use Rattle.std.specs.Prelude.{IfSome}
use Rattle.std.specs.FinMap.{entries}
use Rattle.std.specs.List.{AllByRecursion, slice_get}
use Rattle.mx_tuple.specs.Fields.{tuple_of}
use Rattle.mx_key.specs.declared.part.Part.{Part}
use Rattle.mx_key.specs.Keys.{Key, KeyPart}
use Rattle.mx_key.specs.Parts.{◌>>=◌, key_of, part_of}
use Rattle.mx_schema.specs.declared.index_def.IndexDef.{IndexDef}
use Rattle.mx_schema.specs.declared.schema.Schema.{Schema}
use Rattle.mx_schema.specs.Catalogues.{StandByKey, index_with}
use Rattle.mx_schema.specs.Picks.{Indexed}
use Rattle.mx_schema.specs.State.{Tuples, key_in}
use Rattle.mx_schema.specs.Stored.{StandByPrimary}

-- a key of some parts is its first one before the others
pub first_part : {E : Type 0} (first : Result KeyPart E) (others : Result Key E) (key : Key) → (first >>= λ part. (others >>= λ parts. Ok (part ∷ parts))) ≡ Ok key
    → (part : KeyPart) × (parts : Key) × (others ≡ Ok parts) × (part ∷ parts ≡ key)
first_part (Ok part) (Ok parts) key e = (part, parts, refl, cc)
first_part (Ok part) (Err why) key e = absurd cc
first_part (Err why) others key e = absurd cc

-- a key that is read has all parts
pub key_length : (def : List Part) (fields : List (List ℕ)) (key : Key) → key_of def fields ≡ Ok key → length key ≡ length def
key_length [] fields [] e = refl
key_length [] fields (part ∷ parts) e = absurd cc
key_length (part ∷ def) fields key e =
    let m = first_part (part_of part (slice_get fields part.field)) (key_of def fields) key e in
    ap length (sym m.3) ∙ ap suc (key_length def fields m.1 m.2)

-- keys by which tuples stand have all parts
pub stand_whole : (parts : List Part) (all : List Indexed) → AllByRecursion (λ (entry : Indexed). key_in parts entry.1 ≡ Ok entry.0) all
    → AllByRecursion (λ (entry : Indexed). length entry.0 ≡ length parts) all
stand_whole parts [] stands = tt
stand_whole parts (entry ∷ all) (first, others) = (key_length parts (tuple_of entry.1).fields entry.0 first, stand_whole parts all others)

-- the keys of a space's own tuples have all parts of the index of the number 0
pub own_whole : (schema : Schema) (tuples : Tuples) (def : IndexDef) → StandByPrimary schema tuples → index_with def.id.0 schema.indexes ≡ Some def → def.id.0 ≡ 0
    → AllByRecursion (λ (entry : Indexed). length entry.0 ≡ length def.key) (entries tuples)
own_whole schema tuples def stands is first =
    stand_whole def.key (entries tuples)
    (subst (λ o. IfSome o (λ def. StandByKey def.key tuples)) (sym (ap (λ id. index_with id schema.indexes) first) ∙ is) stands)
