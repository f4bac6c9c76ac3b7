-- The header and the body of a request are whole as they are written, and short enough to be read.
use Rattle.std.proofs.Common.{ℕ, ◌-◌, ◌^◌, ◌<◌, ◌≤◌, List, [], ◌∷◌, ◌++◌, length, length-append, arith}
use Rattle.std.specs.Prelude.{◌==◌}
use Rattle.std.proofs.lemmas.Bool.{cond_both}
use Rattle.mx_vclock.specs.Spelling.{clock_map}
use Rattle.mx_request.specs.declared.request.Head3.{Head3}
use Rattle.mx_request.specs.declared.request.Request.{Request}
use Rattle.mx_request.specs.declared.request.Request.TheVariants.{Select, Insert, Replace, Update, Delete, Upsert, Nop, Ping, Begin, Commit, Rollback, Id, Join, Subscribe, Ack}
use Rattle.mx_request.specs.Spelling.{Written, unless_default, uuid_str, body_pairs, header_pairs, IsRequestHead, IsAskable, IsShared}
use Rattle.mx_msgpack.proofs.InnerLaws.{IsInner}
use Rattle.mx_request.proofs.MapTextLaws.{AreWhole}
use Rattle.mx_request.proofs.ValueTextLaws.{number_inner, array_inner_value, uuid_inner}
use Rattle.mx_request.proofs.ClockTextLaws.{clock_inner}

whole-append : (a b : List Written) → AreWhole a → AreWhole b → AreWhole (a ++ b)
whole-append [] b w v = v
whole-append (pair ∷ others) b (low, value, rest) v = (low, value, whole-append others b rest v)

unless_whole : (key default number : ℕ) → key < 0x80 → number < 2 ^ 64 → AreWhole (unless_default key default number)
unless_whole key default number low fits = cond_both (number == default) _ _ AreWhole (λ _. tt) (λ _. (low, number_inner number fits, tt))

unless_few : (key default number : ℕ) → length (unless_default key default number) ≤ 1
unless_few key default number = cond_both (number == default) _ _ (λ (pairs : List Written). length pairs ≤ 1) (λ _. omega arith) (λ _. omega arith)

one_whole : (key : ℕ) (value : List ℕ) → key < 0x80 → IsInner value → AreWhole ((key, value) ∷ [])
one_whole key value low inner = (low, inner, tt)

pub body_whole : (request : Request) → IsAskable request → IsShared request → AreWhole (body_pairs request)
body_whole (Select space index limit offset iterator key) (s, i, l, o, t, k) shared =
    let a = unless_whole 0x11 0 index.0 (omega arith) (omega arith) in
    let b = unless_whole 0x12 (2 ^ 32 - 1) limit (omega arith) (omega arith) in
    let c = unless_whole 0x13 0 offset (omega arith) (omega arith) in
    let d = unless_whole 0x14 0 iterator (omega arith) (omega arith) in
    let last = one_whole 0x20 key (omega arith) (array_inner_value key k) in
    (omega arith, number_inner space.0 (omega arith), whole-append _ _ (whole-append _ _ (whole-append _ _ (whole-append _ _ a b) c) d) last)
body_whole (Insert space tuple) (s, t) shared = (omega arith, number_inner space.0 (omega arith), one_whole 0x21 tuple (omega arith) (array_inner_value tuple t))
body_whole (Replace space tuple) (s, t) shared = (omega arith, number_inner space.0 (omega arith), one_whole 0x21 tuple (omega arith) (array_inner_value tuple t))
body_whole (Update space index base key operations) (s, i, o, k, each) shared =
    let a = unless_whole 0x11 0 index.0 (omega arith) (omega arith) in
    let b = unless_whole 0x15 0 base (omega arith) (omega arith) in
    let last : AreWhole ((0x20, key) ∷ (0x21, operations) ∷ []) =
    (omega arith, array_inner_value key k, one_whole 0x21 operations (omega arith) (array_inner_value operations each.0)) in
    (omega arith, number_inner space.0 (omega arith), whole-append _ _ (whole-append _ _ a b) last)
body_whole (Delete space index key) (s, i, k) shared =
    let a = unless_whole 0x11 0 index.0 (omega arith) (omega arith) in
    (omega arith, number_inner space.0 (omega arith), whole-append _ _ a (one_whole 0x20 key (omega arith) (array_inner_value key k)))
body_whole (Upsert space base tuple operations) (s, o, t, each) shared =
    let b = unless_whole 0x15 0 base (omega arith) (omega arith) in
    let last : AreWhole ((0x21, tuple) ∷ (0x28, operations) ∷ []) =
    (omega arith, array_inner_value tuple t, one_whole 0x28 operations (omega arith) (array_inner_value operations each.0)) in
    (omega arith, number_inner space.0 (omega arith), whole-append _ _ b last)
body_whole Nop ask shared = tt
body_whole Ping ask shared = tt
body_whole Begin ask shared = tt
body_whole Commit ask shared = tt
body_whole Rollback ask shared = tt
body_whole Id ask shared = tt
body_whole (Join instance) ask shared = one_whole 0x24 (uuid_str instance) (omega arith) (uuid_inner instance)
body_whole (Subscribe instance set clock) (i, s, c) shared =
    (omega arith, uuid_inner instance, (omega arith, uuid_inner set, one_whole 0x26 (clock_map clock) (omega arith) (clock_inner clock c shared)))
body_whole (Ack clock) ask shared = one_whole 0x26 (clock_map clock) (omega arith) (clock_inner clock ask shared)

pub body_few : (request : Request) → length (body_pairs request) < 2 ^ 16
body_few (Select space index limit offset iterator key) =
    let a = unless_default 0x11 0 index.0 in
    let b = unless_default 0x12 (2 ^ 32 - 1) limit in
    let c = unless_default 0x13 0 offset in
    let d = unless_default 0x14 0 iterator in
    let all = length-append (a ++ b ++ c ++ d) ((0x20, key) ∷ []) in
    let three = length-append (a ++ b ++ c) d in
    let two = length-append (a ++ b) c in
    let one = length-append a b in
    omega (arith, unless_few 0x11 0 index.0, unless_few 0x12 (2 ^ 32 - 1) limit, unless_few 0x13 0 offset, unless_few 0x14 0 iterator)
body_few (Insert space tuple) = omega arith
body_few (Replace space tuple) = omega arith
body_few (Update space index base key operations) =
    let a = unless_default 0x11 0 index.0 in
    let b = unless_default 0x15 0 base in
    let all = length-append (a ++ b) ((0x20, key) ∷ (0x21, operations) ∷ []) in
    let one = length-append a b in
    omega (arith, unless_few 0x11 0 index.0, unless_few 0x15 0 base)
body_few (Delete space index key) =
    let all = length-append (unless_default 0x11 0 index.0) ((0x20, key) ∷ []) in
    omega (arith, unless_few 0x11 0 index.0)
body_few (Upsert space base tuple operations) =
    let all = length-append (unless_default 0x15 0 base) ((0x21, tuple) ∷ (0x28, operations) ∷ []) in
    omega (arith, unless_few 0x15 0 base)
body_few Nop = omega arith
body_few Ping = omega arith
body_few Begin = omega arith
body_few Commit = omega arith
body_few Rollback = omega arith
body_few Id = omega arith
body_few (Join instance) = omega arith
body_few (Subscribe instance set clock) = omega arith
body_few (Ack clock) = omega arith

pub header_whole : (head : Head3) → IsRequestHead head → head.kind < 0x80 → AreWhole (header_pairs head)
header_whole head h low =
    let sync = unless_whole 0x01 0 head.sync.0 (omega arith) h.sync in
    let stream = unless_whole 0x0a 0 head.stream.0 (omega arith) h.stream in
    (omega arith, number_inner head.kind (omega arith), whole-append _ _ sync stream)

pub header_few : (head : Head3) → length (header_pairs head) < 2 ^ 16
header_few head =
    let both = length-append (unless_default 0x01 0 head.sync.0) (unless_default 0x0a 0 head.stream.0) in
    omega (arith, unless_few 0x01 0 head.sync.0, unless_few 0x0a 0 head.stream.0)
