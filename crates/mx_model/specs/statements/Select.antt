-- SELECT.
use Rattle.std.specs.Prelude.{ℕ, Bool, true, false, List, [], ◌∷◌, ◌++◌, length, Option, Some, None, Result, Ok, Err, nat_lt, ◌==◌, if◌then◌else◌}
use Rattle.std.specs.Option.{unwrap_or}
use Rattle.mx_base.specs.declared.kinds.Unsupported.TheVariants.{HashIterator}
use Rattle.mx_base.specs.declared.refusal.Refusal.TheVariants.{ResultTooLong, Unsupported}
use Rattle.mx_msgpack.specs.Items.{items_of}
use Rattle.mx_key.specs.declared.fault.Misfit.{Misfit}
use Rattle.mx_key.specs.declared.iterator.IterKind.{IterKind}
use Rattle.mx_key.specs.declared.iterator.IterKind.TheVariants as iterator
use Rattle.mx_key.specs.declared.part.Part.{Part}
use Rattle.mx_key.specs.Keys.{Key}
use Rattle.mx_key.specs.Parts.{key_of_array, whole_key}
use Rattle.mx_key.specs.Ranges.{Range, range_of}
use Rattle.mx_schema.specs.declared.index_def.IndexDef.{IndexDef}
use Rattle.mx_schema.specs.declared.index_def.IndexKind.{IndexKind}
use Rattle.mx_schema.specs.declared.index_def.IndexKind.TheVariants.{Tree, Hash}
use Rattle.mx_schema.specs.declared.schema.Schema.{Schema}
use Rattle.mx_schema.specs.State.{State, source_of}
use Rattle.mx_schema.specs.Picks.{Selection, pick, entries_of, total_bytes, max_result_size}
use Rattle.mx_write.specs.Reads.{Read, schema_reads}
use Rattle.mx_model.specs.statements.Answer.{Answer, refusal_after, tuples_after}
use Rattle.mx_write.specs.Lookup.{misfit_refusal}
use Rattle.mx_model.specs.statements.Lookup.{in_index, in_space}

-- the iterator of this number
abbrev pub iterator_of : ℕ → IterKind
iterator_of number =
    if number == 0 then iterator.Eq
    else if number == 1 then iterator.Req
    else if number == 2 then iterator.All
    else if number == 3 then iterator.Lt
    else if number == 4 then iterator.Le
    else if number == 5 then iterator.Ge
    else iterator.Gt

-- how many parts a key has, which is an array; bytes that aren't one have none
abbrev pub part_count : (key : List ℕ) → ℕ
part_count key = length (unwrap_or (items_of key) [])

-- whether an index takes an iterator, with a key of so many parts: a hash index finds the tuple of a whole key, or gives all
abbrev pub takes_iterator : IndexKind → IterKind → (parts : ℕ) → Bool
takes_iterator Tree iterator parts = true
takes_iterator Hash iterator.Eq parts = true
takes_iterator Hash iterator.All parts = parts == 0
takes_iterator Hash other parts = false

abbrev pub key_by_kind : IndexKind → List Part → (key : List ℕ) → Result Key Misfit
key_by_kind Tree parts key = key_of_array parts key
key_by_kind Hash parts key = if part_count key == 0 then Ok [] else whole_key parts key

-- the key that an index is asked for: a hash index needs a whole one, unless all is asked for
abbrev pub asked_key : IndexDef → (key : List ℕ) → Result Key Misfit
asked_key def key = key_by_kind def.kind def.key key

-- a range of an index's keys, where one is read
abbrev pub range_reads : (space index : ℕ) → Option Range → List Read
range_reads space index None = []
range_reads space index (Some range) = record { space = space; index = index; range = range } ∷ []

-- The tuples that were picked, or a refusal where they have too many bytes; then all of this range was read. It is one of the index
-- whose entries these are.
abbrev pub select_found : (space : ℕ) (source index : ℕ) → Range → Selection → Answer
select_found space source index whole found =
    if nat_lt max_result_size (total_bytes found.tuples)
    then refusal_after (schema_reads space ++ range_reads source index (Some whole)) ResultTooLong
    else tuples_after (schema_reads space ++ range_reads source index found.read) found.tuples

-- a SELECT by a key that fits, or not
abbrev pub select_by_key : State → (space limit offset : ℕ) → IterKind → IndexDef → Result Key Misfit → Answer
select_by_key before space limit offset iterator def (Err misfit) = refusal_after (schema_reads space) (misfit_refusal (length def.key) misfit)
select_by_key before space limit offset iterator def (Ok key) =
    select_found space (source_of space) def.id.0 (range_of iterator key) (pick (entries_of before space def) iterator key offset limit)

-- a SELECT on an index of a space
abbrev pub select_in_index : State → (space limit offset : ℕ) → IterKind → (key : List ℕ) → IndexDef → Answer
select_in_index before space limit offset iterator key def =
    if takes_iterator def.kind iterator (part_count key)
    then select_by_key before space limit offset iterator def (asked_key def key)
    else refusal_after (schema_reads space) (Unsupported HashIterator)

abbrev pub select_answer : State → (space index limit offset : ℕ) → IterKind → (key : List ℕ) → Schema → Answer
select_answer before space index limit offset iterator key schema =
    in_index space schema index (select_in_index before space limit offset iterator key)

-- a SELECT in this state
abbrev pub select_answer_in : State → (space index limit offset : ℕ) → IterKind → (key : List ℕ) → Answer
select_answer_in before space index limit offset iterator key =
    in_space before space (select_answer before space index limit offset iterator key)
