-- What the statements of an active transaction have written, after one write more, and after one that failed.
use Rattle.std.proofs.Common.{◌≡◌, ◌≢◌, ℕ, List, [], ◌∷◌, ◌++◌, length, take, refl, sym, ap, ◌∙◌, arith, ◌+◌, ◌||◌, map, Option, Some, Result, Ok, Err, subst}
use Rattle.std.specs.Prelude.{slice_set, MatchResult}
use Rattle.std.proofs.lemmas.Option.{slice_get_within}
use Rattle.std.proofs.Math.Seq.{take-append_seam, take-length}
use Rattle.std.specs.FinMap.{get}
use Rattle.std.specs.List.{AllZip, AllByRecursion, list_any, sum}
use Rattle.std.proofs.lemmas.List.Folds.{list_any-append}
use Rattle.std.proofs.lemmas.List.Sums.{fold-append}
use Rattle.std.specs.Option.{option_to_list}
use Rattle.mx_schema.specs.State.{State}
use Rattle.mx_tracker.specs.Tracks.{ChangesReads, Tracks, noted_reads}
use Rattle.mx_txn.specs.Slots.{IsLive}
use Rattle.mx_write.specs.Notes.{SpellsRead}
use Rattle.mx_model.specs.RunAlone.{Run, run_with}
use Rattle.mx_transactions.specs.declared.work.Work.{Work}
use Rattle.mx_transactions.specs.Open.{HasSlot, HasWritten, AreInSlots, Open, SlotHas, reads_made, SpellsKey, in_order}
use Rattle.mx_transactions.specs.OpenSteps.{ComesTo, BeginsAs, StandsOn}
use Rattle.mx_transactions.proofs.MoveLaws.{set_changes, set_table, sets_work}
use Rattle.mx_base.specs.declared.ids.SpaceId.{SpaceId}
use Rattle.mx_key.specs.Comparable.{comparable_of}
use Rattle.mx_key.specs.Keys.{AreFit}
use Rattle.mx_row.specs.declared.row.Row.{Row}
use Rattle.mx_row.specs.Limits.{row_size, rows_size, saturated}
use Rattle.mx_schema.specs.Catalogues.{schema_of}
use Rattle.mx_schema.specs.Sound.{IsSound}
use Rattle.mx_space.specs.declared.state_view.StateView.{StateView}
use Rattle.mx_entries.specs.OwnStates.{AreNoDescriptions, state_with_own}
use Rattle.mx_space.specs.OwnChanges.{HoldsOwn, HoldsView}
use Rattle.mx_entries.proofs.OwnStateLaws.{schema_with_own}
use Rattle.mx_tracker.specs.Overlaps.{lies_in_read}
use Rattle.mx_write.specs.Change.{Change}
use Rattle.mx_write.specs.Made.{Made}
use Rattle.mx_judge.specs.Makes.{MakesWrite, tuple_after}
use Rattle.mx_write.specs.Touches.{AddsTouched, SpellsTouched, Touched, is_met, touched_at}
use Rattle.mx_write.specs.Writes.{Write}
use Rattle.mx_model.specs.RunTouches.{changes_of, puts_of}
use Rattle.mx_model.specs.statements.Answer.{Answer}
use Rattle.mx_model.proofs.RunTouchLaws.{carried_meets}
use Rattle.mx_transactions.specs.declared.work.ChangedKey.{ChangedKey}
use Rattle.mx_tracker.specs.declared.read.Read as noted
use Rattle.mx_tracker.specs.declared.touched.Touched as coded
use Rattle.mx_judge.specs.declared.made.Made as code

-- ---- a slot after a write was added to what its transaction has done, and after that failed

pub zip_append : {A B : Type 0} (R : A → B → Type 0) (ones : List A) (others : List B) (more : List A) (further : List B) → AllZip R ones others → AllZip R more further
    → AllZip R (ones ++ more) (others ++ further)
zip_append R [] [] more further each rest = rest
zip_append R [] (b ∷ others) more further each rest = absurd each
zip_append R (a ∷ ones) [] more further each rest = absurd each
zip_append R (a ∷ ones) (b ∷ others) more further each rest = (each.0, zip_append R ones others more further each.1 rest)

-- ---- reads

-- reads that were noted and dropped again
pub reads_dropped : (old mid new : Tracks) (slot : ℕ) (more : List noted.Read) (count : ℕ) → ChangesReads old mid slot (noted_reads old slot ++ more) → count ≡ length (noted_reads old slot)
    → ChangesReads mid new slot (take count (noted_reads mid slot)) → ChangesReads old new slot (noted_reads old slot)
reads_dropped old mid new slot more count adds is drops = record {
  here = drops.here ∙ ap (λ n. take n (noted_reads mid slot)) is ∙ ap (take (length (noted_reads old slot))) adds.here ∙ take-append_seam (noted_reads old slot) more;
  others = λ other differs. drops.others other differs ∙ adds.others other differs;
}

-- ---- a slot

-- the work and the reads of a live slot are others
pub added_table : (all : Open) (slot place : ℕ) (work : Work) (tracks : Tracks) → AreInSlots all → IsLive all.slots slot → place ≡ slot
    → ((other : ℕ) → other ≢ slot → noted_reads tracks other ≡ noted_reads all.tracks other) → AreInSlots (record all { tracks = tracks; works = slice_set all.works place work })
added_table all slot place work tracks table live same others =
    let now : SlotHas = record { state = get all.slots slot; work = work; reads = noted_reads tracks slot } in
    let new : Open = record all { tracks = tracks; works = slice_set all.works place work } in
    set_table all new slot now
    (sets_work all new slot now refl refl refl refl (ap (λ n. slice_set all.works n work) same) (record { here = refl; others = others })) table live

-- what its transaction has come to
pub comes_to : (all : Open) (slot place : ℕ) (has : SlotHas) (work : Work) (tracks : Tracks) (readings : List noted.Read) (before : State) (run : Run) → HasSlot all slot has → place ≡ slot
    → ChangesReads all.tracks tracks slot readings → HasWritten before run work → AllZip SpellsRead readings (reads_made run.answers)
    → ComesTo all (record all { tracks = tracks; works = slice_set all.works place work }) slot has before run
comes_to all slot place has work tracks readings before run is same changes written spelled =
    let now : SlotHas = record { state = has.state; work = work; reads = readings } in
    let new : Open = record all { tracks = tracks; works = slice_set all.works place work } in (
      now,
      refl,
      record { written = written; reads = spelled },
      set_changes all new slot now
          (sets_work all new slot now (sym is.state) refl refl refl (ap (λ n. slice_set all.works n work) same) changes) (slice_get_within all.works slot has.work is.work),
    )

-- ---- what the statements of an active transaction have written, after one write more, and after one that failed

-- a view of a state under a run's changes shows what the run has come to
pub view_holds : (view : StateView) (before : State) (run : Run) → StandsOn before run
    → (IsSound (state_with_own before (changes_of run.answers)) → AreNoDescriptions (changes_of run.answers) → HoldsView view (state_with_own before (changes_of run.answers)))
    → HoldsView view run.state
view_holds view before run stands shows = subst (HoldsView view) (sym stands.own) (shows (subst IsSound stands.own stands.sound) stands.plain)

-- ---- keys that are added

-- keys were at most added
pub puts_begin : {X E : Type 0} (result : Result X E) (made : Option Change) (seen : State) (old new : List coded.Touched)
    → MatchResult result (λ _. (change : Change) × (made ≡ Some change) × AddsTouched seen (touched_at change.space change.key change.tuple) old new) (λ _. new ≡ old)
    → take (length old) new ≡ old
puts_begin (Ok done) made seen old new (change, is, (more, adds, spells)) = ap (take (length old)) adds ∙ take-append_seam old more
puts_begin (Err fault) made seen old new same = ap (take (length old)) same ∙ take-length old

-- what is touched stands under the same keys, seen from the state before the run
pub puts_more : (before : State) (run : Run) (change : Change) (old new : List coded.Touched) → StandsOn before run → SpellsTouched before (puts_of (changes_of run.answers)) old
    → AddsTouched run.state (touched_at change.space change.key change.tuple) old new → SpellsTouched before (puts_of (change ∷ changes_of run.answers)) new
puts_more before run change old new stands puts (more, adds, spells) read reading spelled =
    let own = changes_of run.answers in
    let at = touched_at change.space change.key change.tuple in
    ap (list_any (lies_in_read reading)) adds
    ∙ list_any-append (lies_in_read reading) old more
    ∙ ap (λ b. b || list_any (lies_in_read reading) more) (puts read reading spelled)
    ∙ ap (λ b. list_any (is_met before read) (puts_of own) || b)
    (spells read reading spelled ∙ carried_meets run.state before read at (everywhere (λ (t : Touched). ap (λ s. schema_of s t.space) stands.own ∙ schema_with_own before own stands.plain t.space) at))
    ∙ sym (list_any-append (is_met before read) (puts_of own) at)
  where
    everywhere : {P : Touched → Type 0} → ((t : Touched) → P t) → (touched : List Touched) → AllByRecursion P touched
    everywhere each [] = tt
    everywhere each (first ∷ touched) = (each first, everywhere each touched)

-- ---- one write more

zip_more : {A B : Type 0} (R : A → B → Type 0) (ones : List A) (others : List B) (one : A) (other : B) → AllZip R ones others → R one other
    → AllZip R (ones ++ one ∷ []) (others ++ other ∷ [])
zip_more R [] [] one other each last = (last, tt)
zip_more R [] (b ∷ others) one other each last = absurd each
zip_more R (a ∷ ones) [] one other each last = absurd each
zip_more R (a ∷ ones) (b ∷ others) one other each last = (each.0, zip_more R ones others one other each.1 last)

sum_more : (sizes : List ℕ) (size : ℕ) → sum (sizes ++ size ∷ []) ≡ sum sizes + size
sum_more sizes size = fold-append (λ a x. a + x) 0 sizes (size ∷ [])

map_more : (rows : List Row) (row : Row) → map row_size (rows ++ row ∷ []) ≡ map row_size rows ++ row_size row ∷ []
map_more [] row = refl
map_more (first ∷ rows) row = ap (λ l. row_size first ∷ l) (map_more rows row)

rows_more : (rows : List Row) (row : Row) → rows_size (rows ++ row ∷ []) ≡ rows_size rows + row_size row
rows_more rows row = ap sum (map_more rows row) ∙ sum_more (map row_size rows) (row_size row)

both_saturated : (a b : ℕ) → saturated (saturated a + saturated b) ≡ saturated (a + b)
both_saturated a b = omega arith

-- the key of a change that a write made
pub spelled_key : (before : State) (space : SpaceId) (write : Write) (found : code.Made) (made : Made) (change : Change) → MakesWrite before space.0 write found made
    → made.change ≡ Some change → SpellsKey (record { space = space; key = found.key }) change
spelled_key before space write found made change makes is =
    let same : record { space = space.0; key = makes.key; tuple = tuple_after found.effect } ≡ change = cc in
    record { space = ap (λ (c : Change). c.space) same; key = makes.bytes ∙ ap (λ (c : Change). comparable_of c.key) same; fit = subst (λ (c : Change). AreFit c.key) same makes.fit }

-- what a write adds to what was written
pub record AddsWrite (before : State) (run : Run) (change : Change) (row : Row) (more : ℕ) (coded : ChangedKey) (old new : Work) : Type 0 where
  pub overlay : HoldsOwn (schema_of before) new.overlay (change ∷ changes_of run.answers)
  pub puts : AddsTouched run.state (touched_at change.space change.key change.tuple) old.puts new.puts
  pub key : SpellsKey coded change
  pub changed : new.changed.items ≡ old.changed.items ++ coded ∷ []
  pub rows : new.rows ≡ old.rows ++ row ∷ []
  pub size : new.size ≡ saturated (old.size + more)

pub one_written : (before : State) (run : Run) (answer : Answer) (change : Change) (row : Row) (size : ℕ) (coded : ChangedKey) (old new : Work) → StandsOn before run
    → HasWritten before run old → answer.change ≡ Some change → answer.row ≡ Some row → size ≡ saturated (row_size row) → AddsWrite before run change row size coded old new
    → HasWritten before (run_with run answer) new
one_written before run answer change row size coded old new stands written changes row_is size_is adds =
    let own = changes_of run.answers in
    let all : change ∷ own ≡ option_to_list answer.change ++ own = ap (λ (c : Option Change). option_to_list c ++ own) (sym changes) in
    let rows : new.rows ≡ run.rows ++ option_to_list answer.row =
    adds.rows ∙ ap (λ l. l ++ row ∷ []) written.rows ∙ ap (λ (r : Option Row). run.rows ++ option_to_list r) (sym row_is) in
    record {
      overlay = subst (HoldsOwn (schema_of before) new.overlay) all adds.overlay;
      rows = rows;
      size = adds.size ∙ ap (λ n. saturated (n + size)) written.size ∙ ap (λ n. saturated (saturated (rows_size run.rows) + n)) size_is
          ∙ both_saturated (rows_size run.rows) (row_size row) ∙ ap saturated (sym (rows_more run.rows row))
          ∙ ap (λ (r : Option Row). saturated (rows_size (run.rows ++ option_to_list r))) (sym row_is);
      puts = subst (λ l. SpellsTouched before (puts_of l) new.puts) all (puts_more before run change old.puts new.puts stands written.puts adds.puts);
      changed = subst (λ l. AllZip SpellsKey new.changed.items (in_order l)) all
          (subst (λ l. AllZip SpellsKey l (in_order own ++ change ∷ [])) (sym adds.changed) (zip_more SpellsKey old.changed.items (in_order own) coded change written.changed adds.key));
    }

-- what is staged, and what is touched by it, are of one change
pub staged_touched : {X E : Type 0} (result : Result X E) (Holding : List Change → Type 0) (made : Option Change) (own : List Change) (seen : State) (old new : List coded.Touched)
    → MatchResult result (λ _. (change : Change) × (made ≡ Some change) × Holding (change ∷ own)) (λ _. Holding own)
    → (change : Change) × (made ≡ Some change) × AddsTouched seen (touched_at change.space change.key change.tuple) old new
    → MatchResult result
    (λ _. (change : Change) × (made ≡ Some change) × Holding (change ∷ own) × AddsTouched seen (touched_at change.space change.key change.tuple) old new)
    (λ _. Holding own)
staged_touched (Ok done) Holding made own seen old new (staged, is, holds) (change, same, adds) =
    let one : change ≡ staged = cc in
    (staged, is, holds, subst (λ (c : Change). AddsTouched seen (touched_at c.space c.key c.tuple) old new) one adds)
staged_touched (Err fault) Holding made own seen old new holds touched = holds

-- ---- a write that failed

-- what was added is cut off again
pub none_written : (before : State) (run : Run) (old mid new : Work) → HasWritten before run old → BeginsAs old mid → HoldsOwn (schema_of before) mid.overlay (changes_of run.answers)
    → new.overlay ≡ mid.overlay → new.rows ≡ take (length old.rows) mid.rows → new.size ≡ mid.size → new.puts ≡ take (length old.puts) mid.puts
    → new.changed.items ≡ take (length old.changed.items) mid.changed.items → HasWritten before run new
none_written before run old mid new written begins holds overlay rows size puts changed = record {
  overlay = subst (λ o. HoldsOwn (schema_of before) o (changes_of run.answers)) (sym overlay) holds;
  rows = rows ∙ begins.rows ∙ written.rows;
  size = size ∙ begins.size ∙ written.size;
  puts = subst (SpellsTouched before (puts_of (changes_of run.answers))) (sym (puts ∙ begins.puts)) written.puts;
  changed = subst (λ l. AllZip SpellsKey l (in_order (changes_of run.answers))) (sym (changed ∙ begins.changed)) written.changed;
}
