-- The rule of the table behind a turn: one word, which is twice the number of entries and one more while the turn is held, and one slot for the value.
use Rattle.std.specs.Prelude.{◌≡◌, ℕ, ◌+◌, ◌*◌, ◌<◌, Bool, true, false, List, [], length, slice_index, count_by, sum_by, Option, Some}
use mathlib.Core.Option.{none, some}
use lib.ListN.{get_elem?}
use Rattle.atomic_table.specs.Table.{State}
use Rattle.mx_turn.specs.declared.view.View.{View}
use Rattle.mx_turn.specs.declared.rule.SlotValue.{SlotValue}
use Rattle.mx_turn.specs.Views.{places, all_places, times, Extends}

-- from this many entries on the turn counts as held for good
abbrev pub max_count : ℕ
max_count = 9223372036854775807

-- What the rule says of one view
pub record Agrees {B E : Type 0} (is_alone : E → Bool) (start : B) (all : ℕ) (log : List E) (out : Bool) (who number : ℕ) (v : View B E) : Type 0 where
  -- what it has seen is an earlier history
  pub seen : Extends log v.seen
  pub told : Extends log v.told
  -- all views that aren't spent have one base and one number of parts
  pub live : 0 < v.parts → (v.base ≡ start) × (v.seats ≡ all)
  -- a spent view knows nothing
  pub spent : v.parts ≡ 0 → (v.seen ≡ []) × (v.told ≡ []) × (v.mine ≡ []) × (v.own ≡ []) × (v.holds ≡ false) × (v.first ≡ false)
  -- the holder is one seat, which has seen all
  pub holder : v.holds ≡ true → (out ≡ true) × (number ≡ who) × (v.seen ≡ log)
  -- the first seat has seen each entry that it alone may add
  pub first : v.first ≡ true → (number ≡ 0) × (count_by is_alone log ≡ count_by is_alone v.seen)

-- The rule: there is one history, for which the value stands while it is at home, and each of its entries is one seat's
pub record IsTurn {B E T N : Type 0} (Stands : T → List E → Type 0) (is_alone is_call : E → Bool) (start : B) (all : ℕ) (s : State (Option (SlotValue T N)) (View B E)) : Type 0 where
  -- the history; 1 while the word says held; whether the slot is out, and with whom
  pub log : List E
  pub held : ℕ
  pub out : Bool
  pub who : ℕ
  -- the word
  pub one_word : length s.words ≡ 1
  pub bit : held < 2
  pub counted : slice_index s.words 0 ≡ 2 * length log + held
  -- the slot is out exactly while the word says held, below the last count
  pub out_only : out ≡ true → (held ≡ 1) × (length log < max_count)
  pub out_always : held ≡ 1 → length log < max_count → out ≡ true
  pub away : out ≡ true → get_elem? s.homes 0 ≡ some none
  -- some seat holds it while it is out, and at home it stands for the history
  pub holding : out ≡ true → (v : View B E) × (get_elem? s.views who ≡ some v) × (v.holds ≡ true)
  pub home : out ≡ false → (kept : SlotValue T N) × (get_elem? s.homes 0 ≡ some (some (Some kept))) × Stands kept.value log
  -- each view
  pub agrees : (number : ℕ) (v : View B E) → get_elem? s.views number ≡ some v → Agrees is_alone start all log out who number v
  -- all parts, and whose each place is: each call in one `mine`, each entry in one `own`
  pub parts : sum_by (λ v. v.parts) s.views ≡ all
  pub calls : (x : ℕ) → sum_by (λ v. times x v.mine) s.views ≡ times x (places is_call log)
  pub entries : (x : ℕ) → sum_by (λ v. times x v.own) s.views ≡ times x (all_places log)
