-- Open transactions have names of their own, also as they go on, begin and end.
use Rattle.std.proofs.Common.{Bool, List, None, Some, [], ap, arith, eqb-true, false, length, not, refl, suc, sym, true, ℕ, ◌≡◌, ◌+◌, ◌∷◌, ◌∙◌}
use Rattle.std.specs.List.{AllByRecursion, filter}
use Rattle.std.specs.Option.{option_to_list}
use Rattle.std.specs.Prelude.{if◌then◌else◌, ◌==◌, ◌&&◌}
use Rattle.mx_base.specs.declared.ids.TxnName.{TxnName}
use Rattle.mx_model.specs.Overlaps.{TransactionStep, Transaction}
use Rattle.mx_model.specs.StreamHistories.{HaveOwnNames}
use Rattle.mx_model.specs.Streams.{is_name, of_connection, of_others, transaction_named, transaction_with, with_step, without_named}
use Rattle.mx_model.proofs.AloneStreams.{each_with_step, named_has}
use Rattle.mx_model.proofs.EachLaws.{each_kept, each_like}

-- ---- names

-- equal names
same_as : (one name : TxnName) → is_name one name ≡ true → (other : TxnName) → is_name other name ≡ is_name other one
same_as one name same other =
    let parts = and_true (one.conn.0 == name.conn.0) (one.stream.0 == name.stream.0) same in
    let conn : one.conn.0 ≡ name.conn.0 = eqb-true _ _ parts.0 in
    let stream : one.stream.0 ≡ name.stream.0 = eqb-true _ _ parts.1 in
    λ i. (other.conn.0 == sym conn i) && (other.stream.0 == sym stream i)
  where
    and_true : (a b : Bool) → (a && b) ≡ true → (a ≡ true) × (b ≡ true)
    and_true true b both = (refl, both)
    and_true false b both = absurd cc

-- none of these has the name
abbrev LackName : TxnName → List Transaction → Type 0
LackName name all = AllByRecursion (λ (one : Transaction). is_name one.name name ≡ false) all

pub lack_unnamed : (name : TxnName) (all : List Transaction) → transaction_named name all ≡ None → LackName name all
lack_unnamed name [] none = tt
lack_unnamed name (one ∷ others) none = by_test (is_name one.name name) refl none (lack_unnamed name others)
  where
    by_test : (b : Bool) → is_name one.name name ≡ b → (if b then Some one else transaction_named name others) ≡ None → (transaction_named name others ≡ None → LackName name others)
        → LackName name (one ∷ others)
    by_test true is none rest = absurd cc
    by_test false is none rest = (is, rest none)

without_lacking : (name : TxnName) (all : List Transaction) → LackName name all → without_named name all ≡ all
without_lacking name [] lack = refl
without_lacking name (one ∷ others) lack =
    ap (λ (b : Bool). if not b then one ∷ without_named name others else without_named name others) lack.0 ∙ ap (λ rest. one ∷ rest) (without_lacking name others lack.1)

lack_like : (one name : TxnName) → is_name one name ≡ true → (all : List Transaction) → LackName one all → LackName name all
lack_like one name same all lack =
    each_like (λ (other : Transaction). is_name other.name one ≡ false) _ (λ other differs. same_as one name same other.name ∙ differs) all lack

-- ---- what open transactions become

pub own_kept : (passes : Transaction → Bool) (all : List Transaction) → HaveOwnNames all → HaveOwnNames (filter passes all)
own_kept passes [] own = tt
own_kept passes (one ∷ others) own = by_test (passes one) (own_kept passes others own.1)
  where
    by_test : (b : Bool) → HaveOwnNames (filter passes others) → HaveOwnNames (if b then one ∷ filter passes others else filter passes others)
    by_test true rest = (each_kept (λ (other : Transaction). is_name other.name one.name ≡ false) passes others own.0, rest)
    by_test false rest = rest

pub own_with_step : (name : TxnName) (step : TransactionStep) (all : List Transaction) → HaveOwnNames all → HaveOwnNames (with_step name step all)
own_with_step name step [] own = tt
own_with_step name step (one ∷ others) own = by_test (is_name one.name name) (own_with_step name step others own.1)
  where
    Differs : Transaction → Type 0
    Differs other = is_name other.name one.name ≡ false

    by_test : (b : Bool) → HaveOwnNames (with_step name step others)
        → HaveOwnNames (if b then transaction_with step one ∷ others else one ∷ with_step name step others)
    by_test true rest = own
    by_test false rest = (each_with_step Differs name step others own.0 (λ transaction named. named_has Differs name others transaction own.0 named), rest)

pub length_with_step : (name : TxnName) (step : TransactionStep) (all : List Transaction) → length (with_step name step all) ≡ length all
length_with_step name step [] = refl
length_with_step name step (one ∷ others) = by_test (is_name one.name name) (length_with_step name step others)
  where
    by_test : (b : Bool) → length (with_step name step others) ≡ length others → length (if b then transaction_with step one ∷ others else one ∷ with_step name step others) ≡ suc (length others)
    by_test true rest = refl
    by_test false rest = ap suc rest

-- the one of a name and the others are all
pub named_count : (name : TxnName) (all : List Transaction) → HaveOwnNames all → length (option_to_list (transaction_named name all)) + length (without_named name all) ≡ length all
named_count name [] own = refl
named_count name (one ∷ others) own = by_test (is_name one.name name) refl (named_count name others own.1)
  where
    by_test : (b : Bool) → is_name one.name name ≡ b → length (option_to_list (transaction_named name others)) + length (without_named name others) ≡ length others
        → length (option_to_list (if b then Some one else transaction_named name others)) + length (if not b then one ∷ without_named name others else without_named name others)
        ≡ suc (length others)
    by_test true is rest =
        let same : length (without_named name others) ≡ length others = ap (λ (all : List Transaction). length all) (without_lacking name others (lack_like one.name name is others own.0)) in
        let more : 1 + length (without_named name others) ≡ suc (length others) = omega (arith, same) in more
    by_test false is rest =
        let more : length (option_to_list (transaction_named name others)) + suc (length (without_named name others)) ≡ suc (length others) = omega (arith, rest) in more

-- those of a connection and those of the others are all
pub connection_count : (connection : ℕ) (all : List Transaction) → length (of_connection connection all) + length (of_others connection all) ≡ length all
connection_count connection [] = refl
connection_count connection (one ∷ others) = by_test (one.name.conn.0 == connection) (connection_count connection others)
  where
    by_test : (b : Bool) → length (of_connection connection others) + length (of_others connection others) ≡ length others
        → length (if b then one ∷ of_connection connection others else of_connection connection others)
        + length (if not b then one ∷ of_others connection others else of_others connection others) ≡ suc (length others)
    by_test true rest =
        let more : suc (length (of_connection connection others)) + length (of_others connection others) ≡ suc (length others) = omega (arith, rest) in more
    by_test false rest =
        let more : length (of_connection connection others) + suc (length (of_others connection others)) ≡ suc (length others) = omega (arith, rest) in more
