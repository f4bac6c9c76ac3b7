use Rattle.std.proofs.Common.{rules, ◌≡◌, ◌<◌, ◌+◌, drop, length, get_or, Err, true, false, true≢false, refl, sym, ap, ◌∙◌, subst}
use Rattle.std.specs.Prelude.{MatchResult}
use Rattle.mx_schema.specs.State.{key_in}
use Rattle.mx_schema.specs.Stored.{stored_list}
use Rattle.mx_write.specs.Stages.{HasOwnKey}
use Rattle.mx_slow_state.proofs.SlowBuildLaws.{all_seen, is_duplicate, is_seen, lacks_key, listed_all, listed_next, none_seen, one_more_seen, PartSeen}
use Rattle.mx_slow_state.proofs.slow_state.descriptions.find_fault.Goals as goal
use Rattle.mx_slow_state.proofs.slow_state.descriptions.find_fault.Goals.{else-def-via-then-def+else-contains, else-def-via-else-def}

pub loop-one-init : goal.loop-one-init
loop-one-init c = λ all stores may.
    none_seen c.args.def.now all c.new-seen.result.items (stored_list c.args.kept.now) (stored_list c.args.kept.now) c.new-seen.ensures.items refl stores may

pub returns-in-Err : goal.returns-in-Err
returns-in-Err c = λ all stores may.
    let def = c.args.def.now in
    let kept = c.args.kept.now in
    let place = c.loop-one.one-index in
    let one = c.one-item.result in
    let within : place < length kept = search rules in
    let is : one ≡ get_or kept place one = search rules in
    let read = subst (λ r. MatchResult r (λ bytes. HasOwnKey def c.as_slice.result.now bytes) (λ why. key_in def.key c.as_slice.result.now ≡ Err why)) c.in-Err.is c.in_ok-key.ensures in
    sym (lacks_key def all c.loop-one.seen.items (stored_list (drop place kept)) (stored_list (drop (place + 1) kept)) one.key one.tuple (listed_next kept place one within is)
    (c.loop-one.invariant all stores may) c.in-Err.why (ap (key_in def.key) (sym c.as_slice.ensures) ∙ read))

pub returns-then-contains : goal.returns-then-contains
returns-then-contains c = λ all stores may.
    let def = c.args.def.now in
    let kept = c.args.kept.now in
    let place = c.loop-one.one-index in
    let one = c.one-item.result in
    let within : place < length kept = search rules in
    let is : one ≡ get_or kept place one = search rules in
    let bytes = c.in-Ok.key in
    let (key, has, fit, are) = subst (λ r. MatchResult r (λ bytes. HasOwnKey def c.as_slice.result.now bytes) (λ why. key_in def.key c.as_slice.result.now ≡ Err why)) c.in-Ok.is c.in_ok-key.ensures in
    sym (is_duplicate def all c.loop-one.seen.items (stored_list (drop place kept)) (stored_list (drop (place + 1) kept)) one.key one.tuple (listed_next kept place one within is)
    (c.loop-one.invariant all stores may) bytes key (ap (key_in def.key) (sym c.as_slice.ensures) ∙ has) fit are c.if-def.true
    (ap (is_seen bytes) (sym c.as_slice-then-def.ensures.value) ∙ sym c.contains.ensures.value ∙ c.if-contains.true))

pub loop-one-preserved : goal.loop-one-preserved
loop-one-preserved c = λ all stores may.
    let def = c.args.def.now in
    let kept = c.args.kept.now in
    let place = c.loop-one.one-index in
    let one = c.one-item.result in
    let within : place < length kept = search rules in
    let is : one ≡ get_or kept place one = search rules in
    let seen = c.loop-one.seen.items in
    let bytes = c.in-Ok.key in
    let (key, has, fit, are) = subst (λ r. MatchResult r (λ bytes. HasOwnKey def c.as_slice.result.now bytes) (λ why. key_in def.key c.as_slice.result.now ≡ Err why)) c.in-Ok.is c.in_ok-key.ensures in
    let alone : def.unique ≡ true → is_seen bytes seen ≡ false = elim c.else-def.branch [
      | else-def-via-then-def+else-contains w ↦ λ unique. ap (is_seen bytes) (sym w.as_slice-then-def.ensures.value) ∙ sym w.contains.ensures.value ∙ w.if-contains.false
      | else-def-via-else-def w ↦ λ unique. absurd (true≢false (sym unique ∙ w.if-def.false))
    ] in
    subst (λ s. PartSeen def all s (stored_list (drop (place + 1) kept))) (sym c.in_ok-push.ensures.items)
    (one_more_seen def all seen (stored_list (drop place kept)) (stored_list (drop (place + 1) kept)) one.key one.tuple (listed_next kept place one within is)
    (c.loop-one.invariant all stores may) bytes key (ap (key_in def.key) (sym c.as_slice.ensures) ∙ has) fit are alone)

pub returns : goal.returns
returns c = λ all stores may.
    let kept = c.args.kept.now in
    let place = c.loop-one.one-index in
    sym (all_seen c.args.def.now all c.loop-one.seen.items (stored_list (drop place kept)) (listed_all kept place c.loop-one-test.false) (c.loop-one.invariant all stores may))
