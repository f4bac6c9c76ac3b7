-- What the blocks of groups say of their transactions, and what a transaction more makes of those that wait.
use Rattle.std.proofs.Common.{◌≡◌, ℕ, zero, suc, ◌+◌, ◌≤◌, List, [], ◌∷◌, ◌++◌, map, take, drop, refl, sym, ap, ◌∙◌, arith, length, append_assoc}
use Rattle.std.proofs.lemmas.List.{length-append, length_push, take_at, take-append-drop}
use Rattle.std.specs.List.{AllByRecursion}
use mathlib.Core.Bool.{true≢false}
use Rattle.mx_xlog.specs.Blocks.{IsData}
use Rattle.mx_row.specs.declared.tx.Tx.{Tx}
use Rattle.mx_row.specs.Rows.{IsTransaction, transaction_text, transactions_text, transactions_of}
use Rattle.mx_row.specs.Clocks.{clock_after, clock_after_one}
use Rattle.mx_row.proofs.GroupLaws.{transactions_of-append}
use Rattle.mx_row.proofs.ClockLaws.{clock_after-append}
use Rattle.mx_journal.specs.declared.journal.Journal.{Journal}
use Rattle.mx_journal.specs.Groups.{AreGroups, Packs, blocks_text, whole_text}
use Rattle.mx_journal.specs.Written.{Waits}
use Rattle.mx_journal.proofs.PackLaws.{all_joined, block_text, is_none, transaction_data, waiting_blocks}
use Rattle.mx_xlog.specs.Reading.{blocks_of}
use Rattle.mx_xlog.proofs.ReadingLaws.{blocks_of_block}

-- blocks of groups, and after them no block
pub blocks_again : (groups : List (List Tx)) (tail : List ℕ) → AllByRecursion (λ group. IsData (transactions_text group)) groups
    → blocks_of tail ≡ [] → blocks_of (blocks_text groups ++ tail) ≡ map transactions_text groups
blocks_again [] tail fit ends = ends
blocks_again (group ∷ others) tail (is, fit) ends =
    let rest = blocks_text others in
    ap blocks_of (append_assoc (block_text group) rest tail)
    ∙ blocks_of_block (transactions_text group) (rest ++ tail) is
    ∙ ap (λ (blocks : List (List ℕ)). transactions_text group ∷ blocks) (blocks_again others tail fit ends)

-- no bytes are the blocks of no group
pub no_group : (groups : List (List Tx)) → [] ≡ blocks_text groups → groups ≡ []
no_group [] none = refl
no_group (group ∷ groups) none = absurd (true≢false (ap is_none none))

-- ---- groups of transactions

-- transactions, and others after them
pub all_sound : (xs ys : List Tx) → AllByRecursion IsTransaction xs → AllByRecursion IsTransaction ys → AllByRecursion IsTransaction (xs ++ ys)
all_sound = all_joined IsTransaction

-- no group is without a transaction
pub none_grouped : (groups : List (List Tx)) → AreGroups groups [] → groups ≡ []
none_grouped [] are = refl
none_grouped ([] ∷ groups) are = absurd (omega (arith, are.fit.0.some))
none_grouped ((tx ∷ txs) ∷ groups) are = absurd (omega (arith, ap length are.together))

-- where no transaction waits, there is nothing to write
pub none_waits : (journal : Journal) → Waits journal [] → whole_text journal.waiting ≡ []
none_waits journal waits =
    waiting_blocks [] journal.waiting waits.packs ∙ ap blocks_text (none_grouped waits.packs.groups waits.packs.packed.grouped)

-- the first groups have the first transactions
pub groups_front : (groups : List (List Tx)) (all : List Tx) (count : ℕ) → AreGroups groups all
    → AreGroups (take count groups) (take (length (transactions_of (take count groups))) all) × (length (transactions_of (take count groups)) ≤ length all)
groups_front groups all count are =
    let front = take count groups in
    let behind = drop count groups in
    let whole : all ≡ transactions_of front ++ transactions_of behind =
    sym are.together ∙ ap transactions_of (sym (take-append-drop count groups)) ∙ transactions_of-append front behind in (
      record {
        together = sym (take_at (transactions_of front) (transactions_of behind) (length (transactions_of front)) refl)
            ∙ ap (take (length (transactions_of front))) (sym whole);
        fit = fit_front groups count are.fit;
      },
      omega (arith, ap length whole, length-append (transactions_of front) (transactions_of behind)),
    )
  where
    fit_front : (some : List (List Tx)) (n : ℕ) → AllByRecursion (λ group. IsData (transactions_text group)) some
        → AllByRecursion (λ group. IsData (transactions_text group)) (take n some)
    fit_front some zero fit = tt
    fit_front [] (suc n) fit = tt
    fit_front (group ∷ some) (suc n) (is, fit) = (is, fit_front some n fit)

-- more groups have no fewer transactions
pub groups_rise : (groups : List (List Tx)) (few many : ℕ) → few ≤ many → length (transactions_of (take few groups)) ≤ length (transactions_of (take many groups))
groups_rise groups zero many less = omega arith
groups_rise [] (suc few) zero less = absurd (omega arith)
groups_rise [] (suc few) (suc many) less = omega arith
groups_rise (group ∷ groups) (suc few) zero less = absurd (omega arith)
groups_rise (group ∷ groups) (suc few) (suc many) less =
    let rest = groups_rise groups few many (omega arith) in
    omega (arith, rest, length-append group (transactions_of (take few groups)), length-append group (transactions_of (take many groups)))

-- the length of the rows tells how many transactions there are
pub counted_by_rows : (transactions : List Tx) (m n : ℕ) → AllByRecursion IsTransaction transactions → m ≤ length transactions
    → length (transactions_text (take m transactions)) ≡ length (transactions_text (take n transactions)) → m ≤ n
counted_by_rows transactions zero n sound within same = omega arith
counted_by_rows [] (suc m) n sound within same = absurd (omega arith)
counted_by_rows (tx ∷ txs) (suc m) zero (is, sound) within same =
    let some = (transaction_data tx is).some in
    absurd (omega (arith, some, same, length-append (transaction_text tx) (transactions_text (take m txs))))
counted_by_rows (tx ∷ txs) (suc m) (suc n) (is, sound) within same =
    let rest = counted_by_rows txs m n sound (omega arith)
    (omega (arith, same, length-append (transaction_text tx) (transactions_text (take m txs)), length-append (transaction_text tx) (transactions_text (take n txs)))) in
    omega (arith, rest)

-- one more waits
pub waits_pushed : (before after : Journal) (waits : List Tx) (tx : Tx) → Waits before waits → IsTransaction tx
    → Packs (waits ++ tx ∷ []) after.waiting → after.next ≡ clock_after_one before.next tx
    → after.pushed ≡ before.pushed + 1 → after.clock ≡ before.clock → after.synced ≡ before.synced → Waits after (waits ++ tx ∷ [])
waits_pushed before after waits tx waiting is packs next pushed clock synced = record {
  packs = packs;
  next = next ∙ ap (λ c. clock_after_one c tx) waiting.next ∙ sym (clock_after-append before.clock waits (tx ∷ []))
      ∙ ap (λ c. clock_after c (waits ++ tx ∷ [])) (sym clock);
  pushed = let l = length_push waits tx in omega (arith, waiting.pushed);
  sound = all_sound waits (tx ∷ []) waiting.sound (is, tt);
}
