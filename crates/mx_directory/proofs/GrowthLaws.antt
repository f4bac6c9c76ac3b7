-- What a file, a block and a transaction make of what was reached: the sum of the lsns never falls, and where it
-- stays nothing changed.
use Rattle.std.proofs.Common.{◌≡◌, ℕ, zero, suc, ◌+◌, ◌<◌, ◌≤◌, Bool, true, false, ◌&&◌, List, [], ◌∷◌, length, sum, refl, ◌∙◌, subst, arith}
use Rattle.std.specs.Prelude.{slice_index, Option, Some, None, Result, Ok, if◌then◌else◌}
use Rattle.std.specs.List.{AllByRecursion}
use Rattle.std.proofs.lemmas.Bool.{eqb-true, leb-true}
use Rattle.std.proofs.Math.ListN.{length-set}
use Rattle.std.proofs.lemmas.List.Sums.{sum_by-set}
use Rattle.std.proofs.lemmas.List.Elements.{All-set}
use Rattle.mx_vclock.specs.Vclocks.{IsVclock, max_lsn}
use Rattle.mx_msgpack.specs.Readers.{first_and_others, some_from, all_from}
use Rattle.mx_msgpack.proofs.Options.{same_some}
use Rattle.mx_row.specs.declared.tx.Tx.{Tx}
use Rattle.mx_directory.specs.declared.damage.Damage.{Damage}
use Rattle.mx_row.specs.Clocks.{last_lsn, clock_after_one}
use Rattle.mx_row.specs.Rows.{transaction_at, transactions_in, only_whole}
use Rattle.mx_directory.specs.Directories.{Reached, after_transaction, then_all, after_transactions, after_read, after_block, block_reached, after_blocks}
use Rattle.mx_row.proofs.BehindLaws.{transaction_is}

-- a transaction as a journal gives it: some rows, of one of the replicas
pub record IsRead (transaction : Tx) : Type 0 where
  pub replica : transaction.replica.0 < 32
  pub some : 1 ≤ length transaction.rows

transaction_at-reads : (bytes : List ℕ) (found : Tx × List ℕ) → transaction_at bytes ≡ Some found → IsRead found.0
transaction_at-reads bytes found is = let sound = transaction_is bytes found is in record { replica = sound.replica; some = sound.some }

abbrev pub AllRead : List Tx → Type 0
AllRead = AllByRecursion IsRead

-- what was reached only grows
pub record Grows (before after : Reached) : Type 0 where
  pub sound : IsVclock after.clock
  pub ids : after.ids ≡ before.ids
  pub at_least : sum before.clock ≤ sum after.clock
  pub same : sum after.clock ≤ sum before.clock → after ≡ before

pub grows_not : (reached : Reached) → IsVclock reached.clock → Grows reached reached
grows_not reached is = record { sound = is; ids = refl; at_least = omega arith; same = λ below. refl }

pub grows_on : (before between after : Reached) → Grows before between → Grows between after → Grows before after
grows_on before between after first second = record {
  sound = second.sound;
  ids = second.ids ∙ first.ids;
  at_least = omega (arith, first.at_least, second.at_least);
  same = λ below. second.same (omega (arith, first.at_least)) ∙ first.same (omega (arith, second.at_least));
}

some_from-reads : (most : ℕ) (bytes : List ℕ) → AllRead (some_from transaction_at most bytes).0
some_from-reads zero bytes = tt
some_from-reads (suc most) bytes = by_found (some_from-reads most) (transaction_at bytes) refl
  where
    by_found : ((rest : List ℕ) → AllRead (some_from transaction_at most rest).0) → (o : Option (Tx × List ℕ)) → transaction_at bytes ≡ o
        → AllRead (first_and_others bytes o (some_from transaction_at most)).0
    by_found others None is = tt
    by_found others (Some found) is = (transaction_at-reads bytes found is, others found.1)

all_whole : (found : List Tx × List ℕ) (transactions : List Tx) → AllRead found.0 → only_whole found ≡ Some transactions → AllRead transactions
all_whole (found, []) transactions all is = subst AllRead (same_some found transactions is) all
all_whole (found, byte ∷ rest) transactions all is = absurd cc

-- the transactions that a block has
pub transactions_in-read : (bytes : List ℕ) (transactions : List Tx) → transactions_in bytes ≡ Some transactions → AllRead transactions
unfolding transactions_in
transactions_in-read bytes transactions is = all_whole (all_from transaction_at bytes) transactions (some_from-reads (length bytes) bytes) is

-- A transaction.

follows_is : (s a b l c : Bool) (next reached : Reached) → (if ((s && (a && b)) && l) && c then Some next else None) ≡ Some reached
    → (a ≡ true) × (b ≡ true) × (next ≡ reached)
follows_is true true true true true next reached is = (refl, refl, same_some next reached is)
follows_is true true true true false next reached is = absurd cc
follows_is true true true false c next reached is = absurd cc
follows_is true true false l c next reached is = absurd cc
follows_is true false b l c next reached is = absurd cc
follows_is false a b l c next reached is = absurd cc

pub after_transaction-grows : (transaction : Tx) (before after : Reached) → IsRead transaction → IsVclock before.clock
    → after_transaction transaction before ≡ Some after → Grows before after
after_transaction-grows transaction before after read sound is =
    let f = follows_is _ _ _ _ _ _ _ is in
    let first : transaction.first.0 ≡ suc (slice_index before.clock transaction.replica.0) = eqb-true _ _ f.0 in
    let most : last_lsn transaction ≤ max_lsn = leb-true _ _ f.1 in
    let whole = sound.whole in
    let low = read.replica in
    let some = read.some in
    let now : List ℕ = clock_after_one before.clock transaction in
    let sums : sum now + slice_index before.clock transaction.replica.0 ≡ sum before.clock + last_lsn transaction =
    sum_by-set (λ x. x) before.clock transaction.replica.0 (last_lsn transaction) 0 (omega arith) in
    let more : sum before.clock < sum (clock_after_one before.clock transaction) = omega arith in
    subst (Grows before) f.2 (record {
      sound = record {
        whole = length-set before.clock transaction.replica.0 (last_lsn transaction) ∙ whole;
        bounded = All-set (λ lsn. lsn ≤ max_lsn) before.clock transaction.replica.0 (last_lsn transaction) most sound.bounded;
      };
      ids = refl;
      at_least = omega arith;
      same = λ below. absurd (omega arith);
    })

-- Transactions, blocks.

pub after_transactions-grows : (transactions : List Tx) (before after : Reached) → AllRead transactions → IsVclock before.clock
    → after_transactions transactions before ≡ Some after → Grows before after
after_transactions-grows [] before after read sound is = subst (Grows before) (same_some before after is) (grows_not before sound)
after_transactions-grows (transaction ∷ others) before after read sound is =
    by_first (λ next sound. after_transactions-grows others next after read.1 sound) (after_transaction transaction before) refl is
  where
    by_first : ((next : Reached) → IsVclock next.clock → after_transactions others next ≡ Some after → Grows next after) → (o : Option Reached)
        → after_transaction transaction before ≡ o → then_all (after_transactions others) o ≡ Some after → Grows before after
    by_first rest None step is = absurd cc
    by_first rest (Some next) step is =
        let first = after_transaction-grows transaction before next read.0 sound step in
        grows_on before next after first (rest next first.sound is)

pub after_block-grows : (bytes : List ℕ) (before after : Reached) → IsVclock before.clock → after_block bytes before ≡ Some after → Grows before after
unfolding after_block
after_block-grows bytes before after sound is = by_read (transactions_in bytes) refl is
  where
    by_read : (o : Option (List Tx)) → transactions_in bytes ≡ o → after_read o before ≡ Some after → Grows before after
    by_read None read is = absurd cc
    by_read (Some transactions) read is = after_transactions-grows transactions before after (transactions_in-read bytes transactions read) sound is

abbrev ok : Reached → Result Reached Damage
ok reached = Ok reached

pub same_ok : (one other : Reached) → ok one ≡ ok other → one ≡ other
same_ok one other is = cc

pub after_blocks-grows : (name : List ℕ) (at : ℕ) (blocks : List (List ℕ)) (before after : Reached) → IsVclock before.clock
    → after_blocks name at blocks before ≡ Ok after → Grows before after
after_blocks-grows name at [] before after sound is = subst (Grows before) (same_ok before after is) (grows_not before sound)
after_blocks-grows name at (bytes ∷ blocks) before after sound is =
    let later = (at + 19) + length bytes in
    by_block later (λ next sound. after_blocks-grows name later blocks next after sound) (after_block bytes before) refl is
  where
    by_block : (later : ℕ) → ((next : Reached) → IsVclock next.clock → after_blocks name later blocks next ≡ Ok after → Grows next after)
        → (o : Option Reached) → after_block bytes before ≡ o
        → block_reached name at (after_blocks name later blocks) o ≡ Ok after → Grows before after
    by_block later rest None step is = absurd cc
    by_block later rest (Some next) step is =
        let first = after_block-grows bytes before next sound step in
        grows_on before next after first (rest next first.sound is)
