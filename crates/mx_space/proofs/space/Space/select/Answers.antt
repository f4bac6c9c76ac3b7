use Rattle.std.proofs.Common.{◌≡◌, ◌≢◌, List, Option, Some, ne_eqb, sym, ap, ◌∙◌, subst}
use Rattle.std.specs.FinMap as finite
use Rattle.std.specs.Option.{option_copied}
use Rattle.mx_msgpack.proofs.Options.{same_some}
use Rattle.mx_schema.specs.declared.index_def.IndexDef.{IndexDef}
use Rattle.mx_schema.specs.declared.schema.Schema.{Schema}
use Rattle.mx_schema.specs.Catalogues.{index_with}
use Rattle.mx_schema.specs.Picks.{tuples_by_index}
use Rattle.mx_schema.specs.State.{Tuples}
use Rattle.mx_space.specs.declared.space.Space as coded
use Rattle.mx_entries.specs.EntryChanges.{index_kept}
use Rattle.mx_entries.specs.Entries.{IndexEntry}
use Rattle.mx_entries.specs.KeptEntries.{StoresByNumber, StoresEntries, kept_entries}
use Rattle.mx_space.specs.Kept.{StoresIndexed}
use Rattle.mx_entries.specs.Windows.{keys_read}
use Rattle.mx_entries.proofs.KeptLaws.{index_there}
use Rattle.mx_entries.proofs.PickLaws.{selects_told}
use Rattle.mx_space.proofs.space.Space.select.Goals as goal

module _ (schema : Option Schema) (space : coded.Space) (all : Tuples) (def : IndexDef) (stores : StoresIndexed schema space all) (there : index_with def.id.0 space.schema.indexes ≡ Some def)
    (apart : def.id.0 ≢ 0) (found : Option (List IndexEntry)) (is : found ≡ index_kept def.id.0 space.schema.indexes space.indexes.items) where
  -- the entries that were found are those of the tuples
  kept_of : (kept : List IndexEntry) → found ≡ Some kept → StoresEntries kept (kept_entries def all)
  kept_of kept has =
      let (one, kept_is, keeps) = index_there all def.id.0 space.schema.indexes space.indexes.items def stores.indexes there in
      subst (λ l. StoresEntries l (kept_entries def all)) (same_some one kept (sym kept_is ∙ sym is ∙ has)) (subst (λ b. StoresByNumber b def all one) (ne_eqb def.id.0 0 apart) keeps)

pub returns : goal.returns
returns c = λ schema all long stores whole there apart have one_each.
    let def = c.args.def.now in
    let call = c.select_by-is_read in
    let (key, fits, fit, edges) = c.in_ok-range.ensures.picked in
    let kept = kept_of schema c.args.self.now all def stores there apart (option_copied c.index.result) c.index.ensures c.in-Some.index.now (ap option_copied c.in-Some.is) in
    selects_told (finite.entries (tuples_by_index def all)) def c.args.wanted.now call.new.found key fits fit (keys_read call.result call.new.range) c.keys_read.result c.keys_read.ensures
    (call.ensures schema all long key stores whole there apart have one_each kept fits fit edges)
