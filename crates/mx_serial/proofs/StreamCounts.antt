-- In a legal history no transaction is lost: as many ended or are open as were begun.
use Rattle.std.proofs.Common.{Bool, List, [], ap, arith, false, length, map, not, refl, subst, suc, sym, true, ℕ, ◌≡◌, ◌+◌, ◌∷◌, ◌∙◌}
use Rattle.std.proofs.lemmas.List.{length-append, length-map}
use Rattle.std.specs.Option.{option_to_list}
use Rattle.std.specs.Prelude.{if◌then◌else◌, ◌==◌}
use Rattle.mx_base.specs.declared.ids.TxnName.{TxnName}
use Rattle.mx_model.specs.Bases.{Base, is_out_of_memory}
use Rattle.mx_model.specs.Overlaps.{Transaction}
use Rattle.mx_model.specs.StreamHistories.{Disconnected, EndedTransaction, FollowsStreams, HaveOwnNames, IsLegalStreams, Requested, StreamEntry, StreamHistory, begun_by, begun_in, ended_as, ended_by, ended_in, ended_where, ends_now, is_commit, streams_of, streams_with}
use Rattle.mx_model.specs.Streams.{Becomes, Ends, Goes, IsTold, Opens, Outcome, Stays, Streams, is_name, of_connection, of_others, open_after, outcome_of, streams_after, told_as, transaction_named, with_step, without_named}
use Rattle.mx_model.specs.declared.reply.Reply.{Reply}
use Rattle.mx_model.specs.declared.reply.Reply.TheVariants.{Empty}
use Rattle.mx_request.specs.declared.request.Request.{Request}
use Rattle.mx_model.proofs.RecordedReplies.{told_demanded, told_well}
use Rattle.mx_serial.proofs.StreamBegins.{Begins, outcome_begun}
use Rattle.mx_serial.proofs.StreamNames.{connection_count, lack_unnamed, length_with_step, named_count, own_kept, own_with_step}
use Rattle.mx_request.specs.declared.request.Request.TheVariants as request

module _ (streams : Streams) (own : HaveOwnNames streams.transactions) where
  abbrev all : List Transaction
  all = streams.transactions

  -- ---- a request

  module _ (name : TxnName) (asked : Request) (reply : Reply) where
    becomes_own : (becomes : Becomes) → Begins streams name asked reply becomes → HaveOwnNames (open_after streams.journal name becomes all)
    becomes_own Stays begins = own
    becomes_own Opens begins = (lack_unnamed name all begins.0, own)
    becomes_own (Goes step) begins = own_with_step name step all own
    becomes_own Ends begins = own_kept (λ one. not (is_name one.name name)) all own

    becomes_count : (by_commit : Bool) (outcome : Outcome) (becomes : Becomes) → Begins streams name asked reply becomes
        → length (ended_where streams by_commit outcome becomes (transaction_named name all)) + length (open_after streams.journal name becomes all)
        ≡ begun_by (Requested name asked reply) + length all
    becomes_count by_commit outcome Stays begins = ap (λ (begun : ℕ). begun + length all) (sym begins)
    becomes_count by_commit outcome Opens begins =
        let one : begun_by (Requested name asked reply) ≡ 1 = begins.1 in
        let more : 0 + suc (length all) ≡ begun_by (Requested name asked reply) + length all = omega (arith, one) in more
    becomes_count by_commit outcome (Goes step) begins =
        let none : begun_by (Requested name asked reply) ≡ 0 = begins in
        let kept = length_with_step name step all in
        let same : 0 + length (with_step name step all) ≡ begun_by (Requested name asked reply) + length all = omega (arith, none, kept) in same
    becomes_count by_commit outcome Ends begins =
        let none : begun_by (Requested name asked reply) ≡ 0 = begins in
        let some = length-map (option_to_list (transaction_named name all)) (ends_now streams by_commit outcome.reply outcome.rows) in
        let kept = named_count name all own in
        let same : length (map (ends_now streams by_commit outcome.reply outcome.rows) (option_to_list (transaction_named name all))) + length (without_named name all)
        ≡ begun_by (Requested name asked reply) + length all = omega (arith, none, some, kept) in same

  -- ---- an entry

  -- after it too all have names of their own, and none was lost
  abbrev IsCounted : StreamEntry → Streams → List EndedTransaction → Type 0
  IsCounted entry after ended = HaveOwnNames after.transactions × (length ended + length after.transactions ≡ begun_by entry + length all)

  -- what was told out of memory began none
  lacking_begins : (name : TxnName) (asked : Request) (reply : Reply) → is_out_of_memory reply ≡ true → begun_by (Requested name asked reply) ≡ 0
  lacking_begins name request.Begin reply lacks = by_reply reply lacks
    where
      by_reply : (told : Reply) → is_out_of_memory told ≡ true → begun_by (Requested name request.Begin told) ≡ 0
      by_reply Empty lacks = absurd cc
      by_reply other lacks = refl
  lacking_begins name other reply lacks = refl

  requested : (name : TxnName) (asked : Request) (reply : Reply) → IsTold streams name asked reply
      → IsCounted (Requested name asked reply) (streams_with streams (Requested name asked reply)) (ended_by streams (Requested name asked reply))
  requested name asked reply told = by_test (is_out_of_memory reply) refl
    where
      outcome : Outcome
      outcome = outcome_of streams name asked

      -- what an outcome comes to
      CountsAfter : Outcome → Type 0
      CountsAfter one = IsCounted (Requested name asked reply) (streams_after streams name one) (ended_as streams name (is_commit asked) one)

      demanded : is_out_of_memory reply ≡ false → CountsAfter outcome
      demanded has =
          let begins = outcome_begun streams name asked in (
            becomes_own name asked outcome.reply outcome.becomes begins,
            becomes_count name asked outcome.reply (is_commit asked) outcome outcome.becomes begins
                ∙ ap (λ (one : Reply). begun_by (Requested name asked one) + length all) (sym (told_demanded streams name asked reply told has)),
          )

      by_test : (b : Bool) → is_out_of_memory reply ≡ b
          → IsCounted (Requested name asked reply) (if b then streams else streams_after streams name (told_as reply outcome))
          (if b then [] else ended_as streams name (is_commit asked) (told_as reply outcome))
      by_test true lacks = (own, ap (λ (begun : ℕ). begun + length all) (sym (lacking_begins name asked reply lacks)))
      by_test false has = subst CountsAfter (sym (told_well streams name asked reply told has)) (demanded has)

  pub entry_counted : (entry : StreamEntry) → FollowsStreams streams entry → IsCounted entry (streams_with streams entry) (ended_by streams entry)
  entry_counted (Requested name asked reply) follows = requested name asked reply follows.1
  entry_counted (Disconnected connection) follows =
      let some = length-map (of_connection connection all) (ends_now streams false Empty []) in
      let kept = connection_count connection all in
      let same : length (map (ends_now streams false Empty []) (of_connection connection all)) + length (of_others connection all) ≡ 0 + length all = omega (arith, some, kept) in
      (own_kept (λ one. not (one.name.conn.0 == connection)) all own, same)

-- whole histories
pub history_counted : (base : Base) (history : StreamHistory) → IsLegalStreams base history
    → HaveOwnNames (streams_of base history).transactions × (begun_in history ≡ length (ended_in base history) + length (streams_of base history).transactions)
history_counted base [] legal = (tt, refl)
history_counted base (entry ∷ earlier) legal =
    let before = history_counted base earlier legal.0 in
    let now = entry_counted (streams_of base earlier) before.0 entry legal.1 in
    let long = length-append (ended_by (streams_of base earlier) entry) (ended_in base earlier) in
    let counts : begun_by entry + begun_in earlier ≡ length (ended_in base (entry ∷ earlier)) + length (streams_of base (entry ∷ earlier)).transactions =
    omega (arith, before.1, now.1, long) in (now.0, counts)
