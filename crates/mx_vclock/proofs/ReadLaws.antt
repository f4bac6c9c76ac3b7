-- What a prefix of the bytes was read as.
use Rattle.std.proofs.Common.{◌≡◌, ℕ, suc, ◌+◌, ◌<◌, ◌≤◌, Option, Some, None, List, [], ◌∷◌, ◌++◌, length, take, get_or, replicate, refl, sym, ap, subst, ◌∙◌, append_assoc, ◌⊎◌, inl, inr, arith}
use Rattle.std.specs.Fmt.{decimal}
use Rattle.std.proofs.Math.ListN.{set}
use Rattle.std.proofs.Math.Seq.{take-suc}
use Rattle.std.proofs.lemmas.List.{append-nil, length-append, take_all}
use Rattle.mx_vclock.specs.declared.place.Place.{Place}
use Rattle.mx_vclock.specs.declared.place.Place.TheVariants.{Start, Open, Comma, Next, Id, Colon, Named, Lsn, Done}
use Rattle.mx_vclock.specs.Vclocks.{IsVclock}
use Rattle.mx_vclock.specs.Places.{next_place}
use Rattle.mx_vclock.specs.Text.{vclock_text, BeginsText, IsFaultAt}
use Rattle.mx_vclock.proofs.Tails.{named, more, first, split, Blank, Split, text_is_first}
use Rattle.mx_vclock.proofs.Fitting.{lsns_at, noted, Stands, Fits, Outcome}
use Rattle.mx_vclock.proofs.Steps.{Taking}
use Rattle.mx_vclock.proofs.StepLaws.{law, viable}

-- so many bytes lead to this place, with these lsns: the texts that begin with the bytes are the ones that go on from it
pub record Leads (bytes : List ℕ) (index : ℕ) (place : Place) (lsns : List ℕ) : Type 0 where
  pub front : List ℕ
  pub same : lsns_at place front ≡ lsns
  pub stands : Stands place front
  pub goes_on : (clock text : List ℕ) → IsVclock clock → vclock_text clock ≡ take index bytes ++ text → Fits place front clock text
  pub comes : (clock text : List ℕ) → Fits place front clock text → IsVclock clock × (vclock_text clock ≡ take index bytes ++ text)

pub nothing_leads : (bytes : List ℕ) → Leads bytes 0 Start (replicate 32 0)
nothing_leads bytes = record {
  front = [];
  same = refl;
  stands = tt;
  goes_on = λ clock text sound e. (sound, e);
  comes = λ clock text f. f;
}

one_longer : (bytes : List ℕ) (index byte : ℕ) (text : List ℕ) → index < length bytes → byte ≡ get_or bytes index 0 → take (index + 1) bytes ++ text ≡ take index bytes ++ byte ∷ text
one_longer bytes index byte text within is =
    let n : index + 1 ≡ suc index = omega arith in
    ap (λ n. take n bytes ++ text) n
    ∙ ap (λ l. l ++ text) (take-suc bytes index 0 within ∙ ap (λ b. take index bytes ++ b ∷ []) (sym is))
    ∙ append_assoc (take index bytes) (byte ∷ []) text

outcome : (bytes : List ℕ) (index : ℕ) (place : Place) (lsns : List ℕ) (byte : ℕ) (step : Option Place) (l : Leads bytes index place lsns) → next_place place byte ≡ step → Outcome (Taking place l.front byte) lsns step
outcome bytes index place lsns byte step l e = subst (λ a. Outcome (Taking place l.front byte) a step) l.same (subst (λ s. Outcome (Taking place l.front byte) (lsns_at place l.front) s) e (law place l.front byte l.stands))

pub step_leads : (bytes : List ℕ) (index : ℕ) (place : Place) (lsns : List ℕ) (byte : ℕ) (next : Place) → Leads bytes index place lsns → index < length bytes → byte ≡ get_or bytes index 0 → next_place place byte ≡ Some next
    → Leads bytes (index + 1) next (noted next lsns)
step_leads bytes index place lsns byte next l within is e =
    let o = outcome bytes index place lsns byte (Some next) l e in
    record {
      front = o.0;
      same = o.1;
      stands = o.2;
      goes_on = λ clock text sound t. o.3 clock text (l.goes_on clock (byte ∷ text) sound (t ∙ one_longer bytes index byte text within is));
      comes = λ clock text f. let c = l.comes clock (byte ∷ text) (o.4 clock text f) in (c.0, c.1 ∙ sym (one_longer bytes index byte text within is));
    }

-- the lsns stay at a place that isn't inside an lsn
noted_other : (place : Place) (lsns : List ℕ) → ((id lsn : ℕ) → place ≡ Lsn id lsn → ⊥) → noted place lsns ≡ lsns
noted_other (Lsn id lsn) lsns other = absurd (other id lsn refl)
noted_other Start lsns other = refl
noted_other Open lsns other = refl
noted_other (Comma least) lsns other = refl
noted_other (Next least) lsns other = refl
noted_other (Id least id) lsns other = refl
noted_other (Colon id) lsns other = refl
noted_other (Named id) lsns other = refl
noted_other Done lsns other = refl

-- the step that a loop's turn made, inside an lsn and elsewhere
pub leads_inside : (bytes : List ℕ) (index : ℕ) (next place : Place) (old lsns : List ℕ) (id lsn : ℕ) → Leads bytes index next (noted next old) → next ≡ Lsn id lsn → place ≡ Lsn id lsn → lsns ≡ set old id lsn → Leads bytes index place lsns
leads_inside bytes index next place old lsns id lsn l is p q =
    subst (λ k. Leads bytes index place k) (ap (λ n. noted n old) is ∙ sym q) (subst (λ n. Leads bytes index n (noted next old)) (is ∙ sym p) l)

pub leads_elsewhere : (bytes : List ℕ) (index : ℕ) (next place : Place) (old lsns : List ℕ) → Leads bytes index next (noted next old) → ((id lsn : ℕ) → next ≡ Lsn id lsn → ⊥) → place ≡ next → lsns ≡ old → Leads bytes index place lsns
leads_elsewhere bytes index next place old lsns l other p q =
    subst (λ k. Leads bytes index place k) (noted_other next old other ∙ sym q) (subst (λ n. Leads bytes index n (noted next old)) (sym p) l)

-- an id that was read
pub id_within : (bytes : List ℕ) (index id lsn : ℕ) (lsns : List ℕ) → Leads bytes index (Lsn id lsn) lsns → id < 32
id_within bytes index id lsn lsns l = let h = l.stands.0.high in omega arith

begins_text : (bytes : List ℕ) (index : ℕ) (place : Place) (lsns : List ℕ) → Leads bytes index place lsns → BeginsText (take index bytes)
begins_text bytes index place lsns l =
    let v = viable place l.front l.stands in
    let c = l.comes v.0 v.1 v.2 in
    (v.0, v.1, c.0, c.1)

pub fault_inside : (bytes : List ℕ) (index : ℕ) (place : Place) (lsns : List ℕ) (byte : ℕ) → Leads bytes index place lsns → index < length bytes → byte ≡ get_or bytes index 0 → next_place place byte ≡ None → IsFaultAt bytes index
fault_inside bytes index place lsns byte l within is e =
    let o = outcome bytes index place lsns byte None l e in
    let n : suc index ≡ index + 1 = omega arith in
    record {
      within = omega arith;
      before = begins_text bytes index place lsns l;
      stops = λ _ b. o b.0 b.1 (l.goes_on b.0 (byte ∷ b.1) b.2 (b.3 ∙ ap (λ n. take n bytes ++ b.1) n ∙ one_longer bytes index byte b.1 within is));
      unfinished = λ same. absurd (omega arith);
    }

all_taken : (bytes : List ℕ) → take (length bytes) bytes ++ [] ≡ bytes
all_taken bytes = append-nil (take (length bytes) bytes) ∙ take_all (length bytes) bytes (omega arith)

to_end : (bytes : List ℕ) (index : ℕ) (place : Place) (lsns : List ℕ) → Leads bytes index place lsns → length bytes ≤ index → index ≤ length bytes → Leads bytes (length bytes) place lsns
to_end bytes index place lsns l low high = subst (λ n. Leads bytes n place lsns) (omega arith) l

pub read_whole : (bytes : List ℕ) (index : ℕ) (place : Place) (lsns : List ℕ) → Leads bytes index place lsns → length bytes ≤ index → index ≤ length bytes → place ≡ Done → IsVclock lsns × (bytes ≡ vclock_text lsns)
read_whole bytes index place lsns leads low high done =
    let l = subst (λ p. Leads bytes (length bytes) p lsns) done (to_end bytes index place lsns leads low high) in
    let c = l.comes l.front [] (l.stands, refl, refl) in
    subst (λ k. IsVclock k × (bytes ≡ vclock_text k)) l.same (c.0, sym (c.1 ∙ all_taken bytes))

-- ---- no text ends before its bracket

not_empty : (front back : List ℕ) (byte : ℕ) → front ++ byte ∷ back ≡ [] → ⊥
not_empty front back byte e = omega (arith, length-append front (byte ∷ back), ap length e)

more_not_empty : (front : List ℕ) (id : ℕ) (lsns : List ℕ) → front ++ more id lsns ≡ [] → ⊥
more_not_empty front id lsns e = by_split (split id lsns)
  where
    by_split : Blank id lsns ⊎ Split id lsns → ⊥
    by_split (inl b) = not_empty front [] 125 (ap (λ l. front ++ l) (sym b.as_more) ∙ e)
    by_split (inr s) = not_empty front (32 ∷ named (id + s.zeros) (suc s.lsn) (more (suc (id + s.zeros)) s.others)) 44 (ap (λ l. front ++ l) (sym s.as_more) ∙ e)

first_not_empty : (id : ℕ) (lsns : List ℕ) → first id lsns ≡ [] → ⊥
first_not_empty id lsns e = by_split (split id lsns)
  where
    by_split : Blank id lsns ⊎ Split id lsns → ⊥
    by_split (inl b) = not_empty [] [] 125 (sym b.as_first ∙ e)
    by_split (inr s) = not_empty (decimal (id + s.zeros)) (32 ∷ (decimal (suc s.lsn) ++ more (suc (id + s.zeros)) s.others)) 58 (sym s.as_first ∙ e)

only_done : (place : Place) (front clock : List ℕ) → Fits place front clock [] → place ≡ Done
only_done Start front clock f = absurd (not_empty [] (first 0 clock) 123 (sym (text_is_first clock) ∙ f.1))
only_done Open front clock f = absurd (first_not_empty 0 clock f.1)
only_done (Comma least) front clock f = absurd (not_empty [] f.0 32 f.1)
only_done (Next least) front clock f = absurd (not_empty (decimal (least + f.zeros)) (32 ∷ (decimal f.lsn ++ more (suc (least + f.zeros)) f.others)) 58 f.spelled)
only_done (Id least id) front clock f = absurd (not_empty f.digits (32 ∷ (decimal f.lsn ++ more (suc (least + f.zeros)) f.others)) 58 f.spelled)
only_done (Colon id) front clock f = absurd (not_empty [] f.0 32 f.1)
only_done (Named id) front clock f = absurd (more_not_empty (decimal f.lsn) (suc id) f.others f.spelled)
only_done (Lsn id lsn) front clock f = absurd (more_not_empty f.digits (suc id) f.others f.spelled)
only_done Done front clock f = refl

pub fault_at_end : (bytes : List ℕ) (index : ℕ) (place : Place) (lsns : List ℕ) → Leads bytes index place lsns → length bytes ≤ index → index ≤ length bytes → (place ≡ Done → ⊥) → IsFaultAt bytes (length bytes)
fault_at_end bytes index place lsns leads low high other =
    let l = to_end bytes index place lsns leads low high in
    record {
      within = omega arith;
      before = begins_text bytes (length bytes) place lsns l;
      stops = λ below. absurd (omega arith);
      unfinished = λ _ t. other (only_done place l.front t.0 (l.goes_on t.0 [] t.1 (sym t.2 ∙ sym (all_taken bytes))));
    }
