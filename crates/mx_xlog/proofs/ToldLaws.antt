-- What a line tells, or that it tells nothing.
use Rattle.std.proofs.Common.{◌≡◌, ℕ, zero, suc, ◌+◌, ◌<◌, ◌≤◌, Bool, true, false, nat_eq, ◌==◌, List, [], ◌∷◌, ◌++◌, length, get_or, take, drop, replicate}
use Rattle.std.proofs.Common.{Option, Some, None, refl, sym, ap, ◌∙◌, subst, arith, length-append, inl, inr}
use mathlib.Core.Logic.{◌⊎◌}
use Rattle.std.specs.Prelude.{All, codes, decimal, slice_index}
use Rattle.std.specs.Cmp.Lexicographic.{pointwise, same_text, other_text}
use Rattle.std.proofs.lemmas.Bool.{eqb-true, eqb-false, cases_lt}
use Rattle.std.proofs.lemmas.List.{append_cancel_left, take_at, take-append-drop}
use Rattle.std.proofs.lemmas.List.Elements.{All-nil, All-cons, All-head, All-tail}
use Rattle.uuid.specs.Text.{hyphenated_text, lower, parsed}
use Rattle.mx_vclock.specs.Vclocks.{IsVclock, max_lsn}
use Rattle.mx_vclock.specs.Places.{next_place}
use Rattle.mx_vclock.specs.Text.{vclock_text, IsText, IsFaultAt}
use Rattle.mx_vclock.proofs.Fitting.{noted}
use Rattle.mx_vclock.proofs.ReadLaws.{Leads, nothing_leads, step_leads, read_whole, fault_inside, fault_at_end}
use Rattle.mx_vclock.proofs.OneClock.{text_tells}
use Rattle.mx_xlog.specs.Lines.{BeginsLine, BeginsNoLine, TellsId, TellsReplica, TellsClock}
use Rattle.mx_xlog.specs.HeaderParts.{file_type, BeginsWith, BeginsNone, TellsFileType}
use Rattle.mx_xlog.proofs.ValueLaws.{id_text_parses, id_text_again, faulty, one_more}
use Rattle.mx_xlog.proofs.HeaderLaws.{none_found}

-- a value is found, or none is
abbrev pub Told : {X : Type 0} → (X → Type 0) → Type 0
Told {X} P = ((value : X) × P value) ⊎ ((value : X) → ¬ P value)

same_or_other : (xs ys : List ℕ) → (xs ≡ ys) ⊎ ¬ (xs ≡ ys)
same_or_other xs ys = by_test (pointwise nat_eq xs ys) refl
  where
    by_test : (test : Bool) → test ≡ pointwise nat_eq xs ys → (xs ≡ ys) ⊎ ¬ (xs ≡ ys)
    by_test true is = inl (same_text xs ys is)
    by_test false is = inr (other_text xs ys is)

-- the bytes after a prefix
pub behind_prefix : (bytes prefix : List ℕ) → Told (λ (rest : List ℕ). bytes ≡ prefix ++ rest)
behind_prefix bytes prefix =
    elim (same_or_other (take (length prefix) bytes) prefix) [
      | inl same ↦
          inl (drop (length prefix) bytes, sym (take-append-drop (length prefix) bytes) ∙ ap (λ (l : List ℕ). l ++ drop (length prefix) bytes) same)
      | inr other ↦ inr (λ rest is. other (ap (take (length prefix)) is ∙ take_at prefix rest (length prefix) refl))
    ]

pub file_type_told : (line : List ℕ) → Told (λ (snapshot : Bool). TellsFileType snapshot line)
file_type_told line = by_text (same_or_other line (file_type true)) (same_or_other line (file_type false))
  where
    by_text : (line ≡ file_type true) ⊎ ¬ (line ≡ file_type true) → (line ≡ file_type false) ⊎ ¬ (line ≡ file_type false)
        → Told (λ (snapshot : Bool). TellsFileType snapshot line)
    by_text (inl is) second = inl (true, is)
    by_text (inr other) (inl is) = inl (false, is)
    by_text (inr other) (inr neither) = inr (λ snapshot. elim snapshot as (λ s. ¬ (line ≡ file_type s)) [ true ↦ other | false ↦ neither ])

-- ---- identifiers

module _ (prefix text line : List ℕ) (is : line ≡ prefix ++ text) where
  id_text : (id : List ℕ) → TellsId prefix id line → text ≡ hyphenated_text lower id
  id_text id told = append_cancel_left prefix text (hyphenated_text lower id) (sym is ∙ told)

  by_parse : (found : Option (List ℕ)) → parsed text ≡ found → Told (λ (id : List ℕ). TellsId prefix id line)
  by_parse None none = inr (λ id told.
      let found = id_text_parses id text (id_text id told) in
      let both : None ≡ Some found.0 = sym none ∙ found.1 in
      cc)
  by_parse (Some found) parses =
      elim (same_or_other (hyphenated_text lower found) text) [
        | inl same ↦ inl (found, is ∙ ap (λ (l : List ℕ). prefix ++ l) (sym same))
        | inr other ↦ inr (λ id told. other (id_text_again id found text (id_text id told) (sym parses)))
      ]

pub id_told : (prefix line : List ℕ) → Told (λ (id : List ℕ). TellsId prefix id line)
id_told prefix line =
    elim (behind_prefix line prefix) [
      | inl (text, is) ↦ by_parse prefix text line is (parsed text) refl
      | inr none ↦ inr (λ id told. none (hyphenated_text lower id) told)
    ]

-- ---- replica ids

abbrev IsOfReplica : List ℕ → ℕ → Type 0
IsOfReplica line id = (id ≡ 1 → ⊥) × (line ≡ codes "Replica: " ++ decimal id)

replica_or_other : (line : List ℕ) (id : ℕ) → IsOfReplica line id ⊎ ¬ IsOfReplica line id
replica_or_other line id = by_test (id == 1) refl (same_or_other line (codes "Replica: " ++ decimal id))
  where
    by_test : (first : Bool) → (id == 1) ≡ first → (line ≡ codes "Replica: " ++ decimal id) ⊎ ¬ (line ≡ codes "Replica: " ++ decimal id)
        → IsOfReplica line id ⊎ ¬ IsOfReplica line id
    by_test true is text = inr (λ told. told.0 (eqb-true id 1 is))
    by_test false is (inl text) = inl (eqb-false id 1 is, text)
    by_test false is (inr other) = inr (λ told. other told.1)

-- the line is of a replica id below the limit, or of none of these
abbrev ReplicaBelow : List ℕ → ℕ → Type 0
ReplicaBelow line limit = ((id : ℕ) × (id < limit) × IsOfReplica line id) ⊎ ((id : ℕ) → id < limit → ¬ IsOfReplica line id)

replica_step : (line : List ℕ) (limit : ℕ) → ReplicaBelow line limit → IsOfReplica line limit ⊎ ¬ IsOfReplica line limit → ReplicaBelow line (suc limit)
replica_step line limit (inl (id, below, told)) last = inl (id, omega arith, told)
replica_step line limit (inr before) (inl last) = inl (limit, omega arith, last)
replica_step line limit (inr before) (inr last) = inr (λ id below. one_more (IsOfReplica line) limit before last id (omega arith))

replica_below : (line : List ℕ) (limit : ℕ) → ReplicaBelow line limit
replica_below line zero = inr (λ id below told. omega arith)
replica_below line (suc limit) = replica_step line limit (replica_below line limit) (replica_or_other line limit)

pub replica_told : (line : List ℕ) → Told (λ (id : ℕ). TellsReplica id line)
replica_told line =
    elim (replica_below line 32) [
      | inl (id, below, told) ↦ inl (id, record { below = below; other = told.0; is = told.1 })
      | inr none ↦ inr (λ id told. none id told.below (told.other, told.is))
    ]

-- ---- vclocks

-- so many bytes lead to a place in a vclock's text
abbrev ReadTo : List ℕ → ℕ → Type 0
ReadTo bytes index = (place : _) × (lsns : List ℕ) × Leads bytes index place lsns

some_or_none : {X : Type 0} (found : Option X) → ((x : X) × (found ≡ Some x)) ⊎ (found ≡ None)
some_or_none None = inr refl
some_or_none (Some x) = inl (x, refl)

text_from : (bytes : List ℕ) (left index : ℕ) → ReadTo bytes index → index + left ≡ length bytes → ReadTo bytes (length bytes) ⊎ ((at : ℕ) × IsFaultAt bytes at)
text_from bytes zero index read same =
    let whole : index ≡ length bytes = omega arith in
    inl (subst (ReadTo bytes) whole read)
text_from bytes (suc left) index (place, lsns, leads) same =
    elim (some_or_none (next_place place (get_or bytes index 0))) [
      | inl (next, is) ↦
          text_from bytes left (index + 1) (next, noted next lsns, step_leads bytes index place lsns (get_or bytes index 0) next leads (omega arith) refl is) (omega arith)
      | inr none ↦ inr (index, fault_inside bytes index place lsns (get_or bytes index 0) leads (omega arith) refl none)
    ]

bounded_or_other : (lsns : List ℕ) → All (λ lsn. lsn ≤ max_lsn) lsns ⊎ ¬ All (λ lsn. lsn ≤ max_lsn) lsns
bounded_or_other [] = inl (All-nil (λ lsn. lsn ≤ max_lsn))
bounded_or_other (lsn ∷ lsns) = by_first (cases_lt max_lsn lsn) (bounded_or_other lsns)
  where
    by_first : (max_lsn < lsn) ⊎ (lsn ≤ max_lsn) → All (λ lsn. lsn ≤ max_lsn) lsns ⊎ ¬ All (λ lsn. lsn ≤ max_lsn) lsns
        → All (λ lsn. lsn ≤ max_lsn) (lsn ∷ lsns) ⊎ ¬ All (λ lsn. lsn ≤ max_lsn) (lsn ∷ lsns)
    by_first (inl above) others = inr (λ all. omega (arith, All-head (λ lsn. lsn ≤ max_lsn) lsn lsns all))
    by_first (inr below) (inl all) = inl (All-cons (λ lsn. lsn ≤ max_lsn) lsn lsns below all)
    by_first (inr below) (inr other) = inr (λ all. other (All-tail (λ lsn. lsn ≤ max_lsn) lsn lsns all))

vclock_or_other : (clock : List ℕ) → IsVclock clock ⊎ ¬ IsVclock clock
vclock_or_other clock = by_length (length clock == 32) refl (bounded_or_other clock)
  where
    by_length : (whole : Bool) → (length clock == 32) ≡ whole → All (λ lsn. lsn ≤ max_lsn) clock ⊎ ¬ All (λ lsn. lsn ≤ max_lsn) clock → IsVclock clock ⊎ ¬ IsVclock clock
    by_length true is (inl all) = inl (record { whole = eqb-true (length clock) 32 is; bounded = all })
    by_length true is (inr other) = inr (λ sound. other sound.bounded)
    by_length false is bounded = inr (λ sound. eqb-false (length clock) 32 is sound.whole)

-- the bytes are the text of a vclock, or of none
abbrev TextTold : List ℕ → Type 0
TextTold bytes = IsText bytes ⊎ ¬ IsText bytes

text_told : (bytes : List ℕ) → TextTold bytes
text_told bytes = by_reading (text_from bytes (length bytes) 0 (_, replicate 32 0, nothing_leads bytes) (omega arith))
  where
    by_reading : ReadTo bytes (length bytes) ⊎ ((at : ℕ) × IsFaultAt bytes at) → TextTold bytes
    by_reading (inr (at, fault)) = inr (faulty bytes at fault)
    by_reading (inl (place, lsns, leads)) = by_lsns (same_or_other bytes (vclock_text lsns)) (vclock_or_other lsns)
      where
        refuted : ¬ (IsVclock lsns × (bytes ≡ vclock_text lsns)) → ¬ IsText bytes
        refuted none = faulty bytes (length bytes)
            (fault_at_end bytes (length bytes) place lsns leads (omega arith) (omega arith) (λ done.
            none (read_whole bytes (length bytes) place lsns leads (omega arith) (omega arith) done)))

        by_lsns : (bytes ≡ vclock_text lsns) ⊎ ¬ (bytes ≡ vclock_text lsns) → IsVclock lsns ⊎ ¬ IsVclock lsns → TextTold bytes
        by_lsns (inl is) (inl sound) = inl (lsns, sound, is)
        by_lsns (inl is) (inr unsound) = inr (refuted (λ both. unsound both.0))
        by_lsns (inr other) sound = inr (refuted (λ both. other both.1))

module _ (text line : List ℕ) (is : line ≡ codes "VClock: " ++ text) where
  clock_text : (clock : List ℕ) → TellsClock clock line → text ≡ vclock_text clock
  clock_text clock told = append_cancel_left (codes "VClock: ") text (vclock_text clock) (sym is ∙ told.is)

  by_first : (clock : List ℕ) → IsVclock clock → text ≡ vclock_text clock → (nothing : Bool) → (slice_index clock 0 == 0) ≡ nothing
      → Told (λ (clock : List ℕ). TellsClock clock line)
  by_first clock sound same true none =
      inl (clock, record { sound = sound; nothing = eqb-true (slice_index clock 0) 0 none; is = is ∙ ap (λ (l : List ℕ). codes "VClock: " ++ l) same })
  by_first clock sound same false some = inr (λ other told.
      let one = text_tells clock other sound told.sound (sym same ∙ clock_text other told) in
      eqb-false (slice_index clock 0) 0 some (ap (λ (c : List ℕ). slice_index c 0) one ∙ told.nothing))

  by_text : TextTold text → Told (λ (clock : List ℕ). TellsClock clock line)
  by_text (inl (clock, sound, same)) = by_first clock sound same (slice_index clock 0 == 0) refl
  by_text (inr other) = inr (λ clock told. other (clock, told.sound, clock_text clock told))

pub clock_told : (line : List ℕ) → Told (λ (clock : List ℕ). TellsClock clock line)
clock_told line =
    elim (behind_prefix line (codes "VClock: ")) [
      | inl (text, is) ↦ by_text text line is (text_told text)
      | inr none ↦ inr (λ clock told. none (vclock_text clock) told.is)
    ]

-- ---- the first line

abbrev FirstLine : List ℕ → Type 0
FirstLine bytes = ((line rest : List ℕ) × BeginsLine line rest bytes) ⊎ BeginsNoLine bytes

no_line : (byte : ℕ) (bytes : List ℕ) → (byte ≡ 10 → ⊥) → BeginsNoLine bytes → BeginsNoLine (byte ∷ bytes)
no_line byte bytes other none [] rest is = other cc
no_line byte bytes other none (first ∷ line) rest is = none line rest cc

line_step : (byte : ℕ) (bytes : List ℕ) (ends : Bool) → (byte == 10) ≡ ends → FirstLine bytes → FirstLine (byte ∷ bytes)
line_step byte bytes true is others = inl ([], bytes, (tt, ap (λ (b : ℕ). b ∷ bytes) (eqb-true byte 10 is)))
line_step byte bytes false is (inl (line, rest, begins)) = inl (byte ∷ line, rest, ((eqb-false byte 10 is, begins.0), ap (λ (l : List ℕ). byte ∷ l) begins.1))
line_step byte bytes false is (inr none) = inr (no_line byte bytes (eqb-false byte 10 is) none)

line_first : (bytes : List ℕ) → FirstLine bytes
line_first [] = inr (λ line rest is. omega (arith, length-append line (10 ∷ rest), ap length is))
line_first (byte ∷ bytes) = line_step byte bytes (byte == 10) refl (line_first bytes)

-- the first line tells a value, or none does that could
abbrev pub FirstTold : {X : Type 0} → (X → List ℕ → Type 0) → List ℕ → Type 0
FirstTold {X} Tells bytes = ((value : X) × (rest : List ℕ) × BeginsWith Tells value rest bytes) ⊎ BeginsNone Tells bytes

pub first_told : {X : Type 0} (Tells : X → List ℕ → Type 0) → ((line : List ℕ) → Told (λ (value : X). Tells value line)) → (bytes : List ℕ) → FirstTold Tells bytes
first_told {X} Tells told bytes = by_line (line_first bytes)
  where
    by_value : (line rest : List ℕ) → BeginsLine line rest bytes → Told (λ (value : X). Tells value line) → FirstTold Tells bytes
    by_value line rest begins (inl (value, tells)) = inl (value, rest, (line, tells, begins.1))
    by_value line rest begins (inr none) = inr (none_found Tells line rest bytes begins none)

    by_line : FirstLine bytes → FirstTold Tells bytes
    by_line (inl (line, rest, begins)) = by_value line rest begins (told line)
    by_line (inr none) = inr (λ value line rest plain tells is. none line rest is)
