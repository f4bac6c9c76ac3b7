-- What the calls of an outbox make of its buffer and its queue.
use Rattle.std.proofs.Common.{◌≡◌, ℕ, ◌+◌, ◌-◌, ◌<◌, ◌≤◌, List, [], ◌∷◌, ◌++◌, length, take, drop, get_or, refl, sym, ap, subst, ◌∙◌, arith}
use Rattle.std.specs.Prelude.{nat_le, sum_by, true, false}
use Rattle.std.proofs.lemmas.Bool.{le-leb, lt-leb}
use Rattle.std.proofs.lemmas.List.{append-nil, append_assoc, length-drop, length-take-le, take_all, take-append-le, drop-append-le, drop-drop, drop-take}
use Rattle.std.proofs.lemmas.List.Sums.{sum_by-cons}
use Rattle.std.proofs.Math.Seq.{take-add}
use Rattle.mx_session.specs.declared.outbox.Held.{Held}
use Rattle.mx_session.specs.Sessions.{Waiting, unsent_length}
use Rattle.mx_session.specs.Outboxes.{OutboxState, held_length, held_replies, outbox_of, after_release}

-- ---- a reply more

held_length-cons : (first : Held) (others : List Held) → held_length (first ∷ others) ≡ first.size + held_length others
held_length-cons = sum_by-cons (λ (held : Held). held.size)

held_replies-push : (queue : List Held) (bytes : List ℕ) (front : ℕ) (reply : List ℕ) → held_length queue ≡ length bytes
    → held_replies (queue ++ record { front = front; size = length reply } ∷ []) (bytes ++ reply) ≡ held_replies queue bytes ++ record { front = front; reply = reply } ∷ []
held_replies-push [] [] front reply whole =
    ap (λ (l : List ℕ). record { front = front; reply = l } ∷ []) (take_all (length reply) reply (omega arith))
held_replies-push [] (byte ∷ bytes) front reply whole = absurd (omega arith)
held_replies-push (first ∷ others) bytes front reply whole =
    let all = held_length-cons first others in
    let fits : first.size ≤ length bytes = omega arith in
    let left : held_length others ≡ length (drop first.size bytes) = omega (arith, length-drop first.size bytes) in
    rw (take-append-le first.size bytes reply fits, drop-append-le first.size bytes reply fits)
    (ap (λ (l : List Waiting). record { front = first.front; reply = take first.size bytes } ∷ l) (held_replies-push others (drop first.size bytes) front reply left))

-- an outbox with a reply more
abbrev pub with_reply : (front : ℕ) → (reply : List ℕ) → OutboxState → OutboxState
with_reply front reply outbox = record outbox { waiting = outbox.waiting ++ record { front = front; reply = reply } ∷ [] }

pub outbox_of-push : (start end : ℕ) (buffer : List ℕ) (queue : List Held) (front : ℕ) (reply : List ℕ) → end + held_length queue ≡ length buffer
    → outbox_of start end (buffer ++ reply) (queue ++ record { front = front; size = length reply } ∷ []) ≡ with_reply front reply (outbox_of start end buffer queue)
outbox_of-push start end buffer queue front reply whole =
    let fits : end ≤ length buffer = omega arith in
    let left : held_length queue ≡ length (drop end buffer) = omega (arith, length-drop end buffer) in
    rw (take-append-le end buffer reply fits, drop-append-le end buffer reply fits, held_replies-push queue (drop end buffer) front reply left) refl

-- ---- what was sent is dropped

pub outbox_of-drop : (start end dropped : ℕ) (buffer : List ℕ) (queue : List Held) → dropped ≤ start → start ≤ end
    → outbox_of (start - dropped) (end - dropped) (drop dropped buffer) queue ≡ outbox_of start end buffer queue
outbox_of-drop start end dropped buffer queue less order =
    let start_is : dropped + (start - dropped) ≡ start = omega arith in
    let end_is : dropped + (end - dropped) ≡ end = omega arith in
    let waits : drop (end - dropped) (drop dropped buffer) ≡ drop end buffer =
    drop-drop (end - dropped) dropped buffer ∙ ap (λ (n : ℕ). drop n buffer) end_is in
    let leaves : take (end - dropped) (drop dropped buffer) ≡ drop dropped (take end buffer) =
    sym (drop-take dropped (end - dropped) buffer) ∙ ap (λ (n : ℕ). drop dropped (take n buffer)) end_is in
    let out : drop (start - dropped) (take (end - dropped) (drop dropped buffer)) ≡ drop start (take end buffer) =
    ap (drop (start - dropped)) leaves ∙ drop-drop (start - dropped) dropped (take end buffer) ∙ ap (λ (n : ℕ). drop n (take end buffer)) start_is in
    rw (waits, out) refl

-- ---- replies that may be sent

-- no reply waits
pub release_none : (durable start end : ℕ) (buffer : List ℕ) (queue : List Held) → ¬ (0 < length queue)
    → after_release durable (outbox_of start end buffer queue) ≡ outbox_of start end buffer queue
release_none durable start end buffer [] none = rw (append-nil (drop start (take end buffer))) refl
release_none durable start end buffer (first ∷ others) none = absurd (none (omega arith))

-- the first of a queue
front_and_others : (queue : List Held) (first : Held) → 0 < length queue → first ≡ get_or queue 0 first → queue ≡ first ∷ drop 1 queue
front_and_others [] first some is = absurd (omega arith)
front_and_others (held ∷ others) first some is = cc

-- this reply waits first
module _ (queue others : List Held) (first : Held) (some : 0 < length queue) (is : first ≡ get_or queue 0 first) (rest : others ≡ drop 1 queue) where
  front_is : queue ≡ first ∷ others
  front_is = front_and_others queue first some is ∙ ap (λ (q : List Held). first ∷ q) (sym rest)

  pub held_length-first : held_length queue ≡ first.size + held_length others
  held_length-first = ap held_length front_is ∙ held_length-cons first others

  -- it may be sent
  pub release_first : (durable start end : ℕ) (buffer : List ℕ) → start ≤ end → end ≤ length buffer → first.front ≤ durable
      → after_release durable (outbox_of start (end + first.size) buffer others) ≡ after_release durable (outbox_of start end buffer queue)
  release_first durable start end buffer order within free =
      let leaves : nat_le first.front durable ≡ true = le-leb _ _ free in
      let size = length-take-le end buffer within in
      let enough : start ≤ length (take end buffer) = omega arith in
      let taken : drop start (take (end + first.size) buffer) ≡ drop start (take end buffer) ++ take first.size (drop end buffer) =
      ap (drop start) (take-add end first.size buffer) ∙ drop-append-le start (take end buffer) (take first.size (drop end buffer)) enough in
      let front_leaves : after_release durable (outbox_of start (end + first.size) buffer others)
      ≡ after_release durable (outbox_of start end buffer (first ∷ others)) =
      rw (leaves, drop-drop first.size end buffer, taken, append_assoc) refl in
      front_leaves ∙ ap (λ (q : List Held). after_release durable (outbox_of start end buffer q)) (sym front_is)

  -- it may not be sent
  pub release_not : (durable start end : ℕ) (buffer : List ℕ) → durable < first.front
      → after_release durable (outbox_of start end buffer queue) ≡ outbox_of start end buffer queue
  release_not durable start end buffer waits =
      let stays : nat_le first.front durable ≡ false = lt-leb _ _ waits in
      let P = λ (q : List Held). after_release durable (outbox_of start end buffer q) ≡ outbox_of start end buffer q in
      subst P (sym front_is) (rw (stays, append-nil (drop start (take end buffer))) refl)

-- ---- how many bytes wait

held_bytes : (queue : List Held) (bytes : List ℕ) → held_length queue ≡ length bytes
    → sum_by (λ (waiting : Waiting). length waiting.reply) (held_replies queue bytes) ≡ length bytes
held_bytes [] bytes whole = whole
held_bytes (first ∷ others) bytes whole =
    let all = held_length-cons first others in
    let fits : first.size ≤ length bytes = omega arith in
    let left : held_length others ≡ length (drop first.size bytes) = omega (arith, length-drop first.size bytes) in
    let waiting : Waiting = record { front = first.front; reply = take first.size bytes } in
    omega (
      arith,
      sum_by-cons (λ (w : Waiting). length w.reply) waiting (held_replies others (drop first.size bytes)),
      held_bytes others (drop first.size bytes) left,
      length-take-le first.size bytes fits,
      length-drop first.size bytes,
    )

pub unsent_of : (start end : ℕ) (buffer : List ℕ) (queue : List Held) → start ≤ end → end + held_length queue ≡ length buffer
    → length buffer - start ≡ unsent_length (outbox_of start end buffer queue).out (outbox_of start end buffer queue).waiting
unsent_of start end buffer queue order whole =
    let fits : end ≤ length buffer = omega arith in
    let left : held_length queue ≡ length (drop end buffer) = omega (arith, length-drop end buffer) in
    omega (arith, length-drop start (take end buffer), length-take-le end buffer fits, held_bytes queue (drop end buffer) left, length-drop end buffer)
