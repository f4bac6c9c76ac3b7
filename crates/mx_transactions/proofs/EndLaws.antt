-- Where a transaction ends, and where all of a connection do.
use Rattle.std.proofs.Common.{◌≡◌, ◌≢◌, ◌⊎◌, ℕ, Bool, true, false, not, ◌&&◌, List, [], ◌∷◌, Option, Some, None, inl, inr, refl, sym, ap, ◌∙◌, subst, arith}
use Rattle.std.specs.Prelude.{◌==◌, if◌then◌else◌}
use Rattle.std.specs.FinMap.{get, remove}
use Rattle.std.proofs.lemmas.Bool.{cases_eq, eqb-true}
use Rattle.std.specs.List.{AllZip, find}
use Rattle.mx_base.specs.declared.ids.TxnName.{TxnName}
use Rattle.mx_model.specs.Overlaps.{Transaction}
use Rattle.mx_model.specs.Streams.{Streams, is_name, of_others, without_named}
use Rattle.mx_space.specs.declared.state.State as memory
use Rattle.mx_space.specs.KeptStates.{kept_at}
use Rattle.mx_txn.specs.declared.state.TxnState.{TxnState}
use Rattle.mx_txn.specs.declared.state.TxnState.TheVariants as txn
use Rattle.mx_txn.proofs.StateLaws.{get-with_state_other}
use Rattle.mx_transactions.specs.declared.names.Named.{Named}
use Rattle.mx_transactions.specs.Open.{HoldsOpen, IsOpen, AreInSlots, Open, slot_named}
use Rattle.mx_transactions.specs.OpenSteps.{KeepsNoOthers, KeepsNoUnread, beside}
use Rattle.mx_transactions.proofs.BeginLaws.{beside_open}
use Rattle.mx_transactions.proofs.OpenLaws.{all_stay, some_open}
use Rattle.mx_transactions.proofs.TableLaws.{Clears, ended_stay, others_of}

-- the others are kept where one ends
pub ended_open : (streams : Streams) (old new : Open) (name : TxnName) (slot : ℕ) → AreInSlots old → slot_named name old.names ≡ Some slot → new.names ≡ others_of name old.names
    → Clears old new slot None → HoldsOpen streams old → HoldsOpen (beside streams (without_named name streams.transactions)) new
ended_open streams old new name slot table e names clears holds =
    let others = without_named name streams.transactions in
    record {
      each = subst (λ list. AllZip (IsOpen (beside streams others) new) list others) (sym names)
          (beside_open streams others new (others_of name old.names) others
          (all_stay streams old new (others_of name old.names) others (ended_stay old new name slot table e clears)
          (some_open streams old (λ n. not (is_name n name)) old.names streams.transactions holds.each)));
      kept = λ commits memory is. holds.kept commits memory (clears.keeps.states commits memory is);
    }

-- ---- those of a connection

-- the first of a connection is the first of its name
pub record FirstOf (connection : ℕ) (names : List Named) (named : Named) : Type 0 where
  pub of : named.name.conn.0 ≡ connection
  pub slot : slot_named named.name names ≡ Some named.slot

both_true : (a b : Bool) → a ≡ true → b ≡ true → (a && b) ≡ true
both_true true true first second = refl
both_true true false first second = second
both_true false b first second = first

first_true : (a b : Bool) → (a && b) ≡ true → a ≡ true
first_true true b e = refl
first_true false b e = absurd cc

same_number : (n : ℕ) → (n == n) ≡ true
same_number n = grind arith

pub first_of : (connection : ℕ) (names : List Named) (named : Named) → find (λ one. one.name.conn.0 == connection) names ≡ Some named → FirstOf connection names named
first_of connection [] named e = absurd cc
first_of connection (one ∷ names) named e = by_test (one.name.conn.0 == connection) refl e (first_of connection names named)
  where
    by_test : (b : Bool) → (one.name.conn.0 == connection) ≡ b → (if b then Some one else find (λ other. other.name.conn.0 == connection) names) ≡ Some named
        → (find (λ other. other.name.conn.0 == connection) names ≡ Some named → FirstOf connection names named) → FirstOf connection (one ∷ names) named
    by_test true is e later =
        subst (FirstOf connection (one ∷ names)) (same_some one named e) (record {
          of = eqb-true one.name.conn.0 connection is;
          slot = ap (λ b. if b then Some one.slot else slot_named one.name names)
              (both_true (one.name.conn.0 == one.name.conn.0) (one.name.stream.0 == one.name.stream.0) (same_number one.name.conn.0) (same_number one.name.stream.0));
        })
      where
        same_some : (a b : Named) → Some a ≡ Some b → a ≡ b
        same_some a b e = cc
    by_test false is e later =
        let rest = later e in
        record {
          of = rest.of;
          slot = by_name rest.of rest.slot (is_name one.name named.name) refl;
        }
      where
        by_name : named.name.conn.0 ≡ connection → slot_named named.name names ≡ Some named.slot → (b : Bool) → is_name one.name named.name ≡ b
            → slot_named named.name (one ∷ names) ≡ Some named.slot
        by_name of found true same =
            let here : (one.name.conn.0 == connection) ≡ true =
            ap (λ n. one.name.conn.0 == n) (sym of) ∙ first_true (one.name.conn.0 == named.name.conn.0) (one.name.stream.0 == named.name.stream.0) same in
            absurd (cc)
        by_name of found false same = ap (λ b. if b then Some one.slot else slot_named named.name names) same ∙ found

-- those of other connections stay where one of this connection ends
pub without_same : (connection : ℕ) (name : TxnName) → name.conn.0 ≡ connection → (ones : List Transaction) → of_others connection (without_named name ones) ≡ of_others connection ones
without_same connection name of [] = refl
without_same connection name of (one ∷ ones) = by_test (is_name one.name name) refl (without_same connection name of ones)
  where
    by_test : (b : Bool) → is_name one.name name ≡ b → of_others connection (without_named name ones) ≡ of_others connection ones
        → of_others connection (without_named name (one ∷ ones)) ≡ of_others connection (one ∷ ones)
    by_test true same rest =
        let here : (one.name.conn.0 == connection) ≡ true =
        ap (λ n. one.name.conn.0 == n) (sym of) ∙ first_true (one.name.conn.0 == name.conn.0) (one.name.stream.0 == name.stream.0) same in
        ap (λ b. of_others connection (if not b then one ∷ without_named name ones else without_named name ones)) same
        ∙ rest
        ∙ ap (λ b. if not b then one ∷ of_others connection ones else of_others connection ones) (sym here)
    by_test false same rest =
        ap (λ b. of_others connection (if not b then one ∷ without_named name ones else without_named name ones)) same
        ∙ ap (λ list. if not (one.name.conn.0 == connection) then one ∷ list else list) rest

-- where none is of a connection, all are of others
pub none_of : (streams : Streams) (all : Open) (connection : ℕ) (names : List Named) (ones : List Transaction) → AllZip (IsOpen streams all) names ones
    → find (λ one. one.name.conn.0 == connection) names ≡ None → of_others connection ones ≡ ones
none_of streams all connection [] [] keep e = refl
none_of streams all connection [] (one ∷ ones) keep e = absurd keep
none_of streams all connection (named ∷ names) [] keep e = absurd keep
none_of streams all connection (named ∷ names) (one ∷ ones) (first, keep) e = by_test (named.name.conn.0 == connection) refl e (none_of streams all connection names ones keep)
  where
    by_test : (b : Bool) → (named.name.conn.0 == connection) ≡ b → (if b then Some named else find (λ other. other.name.conn.0 == connection) names) ≡ None
        → (find (λ other. other.name.conn.0 == connection) names ≡ None → of_others connection ones ≡ ones) → of_others connection (one ∷ ones) ≡ one ∷ ones
    by_test true is e later = absurd cc
    by_test false is e later =
        ap (λ b. if not b then one ∷ of_others connection ones else of_others connection ones) (ap (λ (n : TxnName). n.conn.0 == connection) (sym first.name) ∙ is)
        ∙ ap (λ list. one ∷ list) (later e)

-- ---- the states that those of a connection read

-- a transaction has a view of this state, or none
reads_or_not : (state : Option TxnState) (at : ℕ) → (state ≡ Some (txn.View at)) ⊎ (state ≢ Some (txn.View at))
reads_or_not None at = inr (λ is. absurd cc)
reads_or_not (Some (txn.Active since)) at = inr (λ is. absurd cc)
reads_or_not (Some (txn.Aborted by)) at = inr (λ is. absurd cc)
reads_or_not (Some (txn.View place)) at = by_place (cases_eq place at)
  where
    same_place : Some (txn.View place) ≡ Some (txn.View at) → place ≡ at
    same_place is = cc

    by_place : (place ≡ at) ⊎ (place ≡ at → ⊥) → (Some (txn.View place) ≡ Some (txn.View at)) ⊎ (Some (txn.View place) ≢ Some (txn.View at))
    by_place (inl same) = inl (ap (λ p. Some (txn.View p)) same)
    by_place (inr differs) = inr (λ is. differs (same_place is))

-- at first each that was read is read still
pub all_read : (all : Open) (slot : ℕ) → KeepsNoUnread all all slot
all_read all slot at view none = absurd (none slot view)

-- and where one more ends, none is kept that nobody reads
pub none_unread : (first old new : Open) (ended : ℕ) → new.slots ≡ remove old.slots ended → KeepsNoOthers old.kept new.kept → KeepsNoUnread old new ended
    → ((slot : ℕ) → KeepsNoUnread first old slot) → (slot : ℕ) → KeepsNoUnread first new slot
none_unread first old new ended freed kept own earlier slot at view none = by_reading (reads_or_not (get old.slots ended) at)
  where
    none_stays : (before after : Option memory.State) → ((one : memory.State) → after ≡ Some one → before ≡ Some one) → before ≡ None → after ≡ None
    none_stays before None was gone = refl
    none_stays before (Some one) was gone = let there : Some one ≡ None = sym (was one refl) ∙ gone in absurd cc

    none_before : (get old.slots ended ≢ Some (txn.View at)) → (other : ℕ) → get old.slots other ≢ Some (txn.View at)
    none_before differs other is = by_slot (cases_eq other ended)
      where
        by_slot : (other ≡ ended) ⊎ (other ≡ ended → ⊥) → ⊥
        by_slot (inl same) = differs (ap (get old.slots) (sym same) ∙ is)
        by_slot (inr apart) = none other (ap (λ slots. get slots other) freed ∙ get-with_state_other old.slots ended None other apart ∙ is)

    by_reading : (get old.slots ended ≡ Some (txn.View at)) ⊎ (get old.slots ended ≢ Some (txn.View at)) → kept_at at new.kept ≡ None
    by_reading (inl read) = own at read none
    by_reading (inr differs) = none_stays (kept_at at old.kept) (kept_at at new.kept) (kept at) (earlier slot at view (none_before differs))

-- ---- which are left

-- some of a connection have ended
pub record HasLeft (connection : ℕ) (streams : Streams) (all : Open) : Type 0 where
  pub left : List Transaction
  pub holds : HoldsOpen (beside streams left) all
  pub others : of_others connection left ≡ of_others connection streams.transactions

pub none_left : (connection : ℕ) (streams : Streams) (all : Open) → HoldsOpen streams all → HasLeft connection streams all
none_left connection streams all holds =
    record {
      left = streams.transactions;
      holds = record { each = beside_open streams streams.transactions all all.names streams.transactions holds.each; kept = holds.kept };
      others = refl;
    }

pub one_left : (connection : ℕ) (streams : Streams) (old new : Open) (name : TxnName) → name.conn.0 ≡ connection
    → ((before : Streams) → HoldsOpen before old → HoldsOpen (beside before (without_named name before.transactions)) new) → HasLeft connection streams old → HasLeft connection streams new
one_left connection streams old new name of ends has = record {
  left = without_named name has.left;
  holds = ends (beside streams has.left) has.holds;
  others = without_same connection name of has.left ∙ has.others;
}

pub all_left : (connection : ℕ) (streams : Streams) (all : Open) → HasLeft connection streams all → find (λ (one : Named). one.name.conn.0 == connection) all.names ≡ None
    → HoldsOpen (beside streams (of_others connection streams.transactions)) all
all_left connection streams all has none =
    subst (λ list. HoldsOpen (beside streams list) all) (sym (none_of (beside streams has.left) all connection all.names has.left has.holds.each none) ∙ has.others) has.holds
