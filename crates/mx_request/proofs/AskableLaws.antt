-- What is read can be asked: its numbers are in their ranges, its arrays are whole, its operations have their shape.
use Rattle.std.proofs.Common.{◌≡◌, ℕ, ◌-◌, ◌*◌, ◌+◌, ◌^◌, ◌<◌, ◌≤◌, List, [], ◌∷◌, length, get_or, Option, Some, None, Result, Ok, refl, sym, ap, ◌∙◌, subst, inl, inr, length-set, arith}
use Rattle.std.specs.Prelude.{true, nat_lt, nat_le, ◌==◌, ◌&&◌, if◌then◌else◌, replicate, slice_set, slice_index}
use Rattle.std.specs.List.{list_all}
use Rattle.std.proofs.lemmas.Bool.{and_parts, cases_lt, cond_both, eqb-true, leb-true}
use Rattle.std.proofs.lemmas.Bool.Decides.{nat_tests}
use Rattle.std.proofs.lemmas.List.{get_or_past}
use Rattle.std.proofs.lemmas.List.Elements.{All-set, All-replicate}
use Rattle.std.proofs.lemmas.List.Sums.{AllPass-from_list_all}
use Rattle.uuid.specs.Text.{by_index, parsed_simple, parsed_hyphenated, digits_of, has_hyphens, is_hex_digit, value_of, byte_of_digits}
use Rattle.uuid.proofs.TextLemmas.{by_index_length, by_index_at}
use Rattle.mx_base.specs.declared.refusal.Refusal.{Refusal}
use Rattle.mx_msgpack.specs.Reading.{reading_of, ShownArray}
use Rattle.mx_msgpack.specs.Projections.{as_text, as_array, as_map, first_as}
use Rattle.mx_msgpack.proofs.ProjectionLaws.{first_as_read, array_is}
use Rattle.mx_msgpack.proofs.Results.{bind_ok}
use Rattle.mx_msgpack.proofs.Options.{bind_some, allowed, mapped_some, same_some}
use Rattle.mx_vclock.specs.Vclocks.{replicas, max_lsn, IsVclock}
use Rattle.mx_request.specs.declared.request.Head3.{Head3}
use Rattle.mx_request.specs.declared.request.Request.{Request}
use Rattle.mx_request.specs.declared.request.Request.TheVariants.{Nop, Ping, Commit, Rollback, Id}
use Rattle.mx_msgpack.specs.Maps.{Pair, pairs_from, pairs_in, value_under}
use Rattle.mx_request.specs.Values.{number_to, number_32, array_in, uuid_in, vclock_from, vclock_in}
use Rattle.mx_msgpack.specs.Readers.{unsigned_in}
use Rattle.mx_request.specs.Operators.{shape_fault}
use Rattle.mx_request.specs.Requests.{legal_value, required_value, optional_value, required, optional, shaped, shaped_operations, select_in, insert_in, replace_in, update_in, delete_in, upsert_in, begin_in, join_in, subscribe_in, ack_in, zero_type, request_type_of, body_request, request_in}
use Rattle.mx_request.specs.declared.request_type.RequestType.{RequestType}
use Rattle.mx_request.specs.declared.request_type.RequestType.TheVariants as type
use Rattle.mx_request.specs.Spelling.{IsInnerArray, IsUuid, AreOperations, IsAskable, type_number}
use Rattle.mx_msgpack.proofs.InnerLaws.{IsInner, AreInner, under_inner, body_inner}
use Rattle.mx_request.proofs.InnerLaws.{array_inner}

-- ---- steps that may refuse

abbrev done : {A : Type 0} → A → Result A Refusal
done x = Ok x

ok_is : {A : Type 0} (x y : A) → done x ≡ done y → x ≡ y
ok_is x y e = cc

right_is : {X : Type 0} (key : ℕ) (o : Option X) (x : X) → legal_value key o ≡ Ok x → o ≡ Some x
right_is key None x e = absurd cc
right_is key (Some y) x e = cc

-- what a value has in common with each of its kind, where it is there
required_is : {X : Type 0} (P : X → Type 0) (key : ℕ) (kind : List ℕ → Option X) (found : Option (List ℕ)) (x : X)
    → ((value : List ℕ) → found ≡ Some value → kind value ≡ Some x → P x) → required_value key kind found ≡ Ok x → P x
required_is P key kind None x each e = absurd cc
required_is P key kind (Some value) x each e = each value refl (right_is key (kind value) x e)

optional_is : {X : Type 0} (P : X → Type 0) (key : ℕ) (default : X) (kind : List ℕ → Option X) (found : Option (List ℕ)) (x : X) → P default
    → ((value : List ℕ) → kind value ≡ Some x → P x) → optional_value key default kind found ≡ Ok x → P x
optional_is P key default kind None x given each e = subst P (ok_is default x e) given
optional_is P key default kind (Some value) x given each e = each value (right_is key (kind value) x e)

-- ---- the request types

number_most : (most : ℕ) (value : List ℕ) (x : ℕ) → number_to most value ≡ Some x → x ≤ most
number_most most value x e =
    let b = bind_some (unsigned_in value) (λ number. if nat_le number most then Some number else None) x e in
    let t = allowed (nat_le b.0 most) (Some b.0) x b.2 in
    subst (λ (n : ℕ). n ≤ most) (same_some b.0 x t.1) (leb-true b.0 most t.0)

required_number : (most key : ℕ) (pairs : List Pair) (x : ℕ) → required key (number_to most) pairs ≡ Ok x → x ≤ most
required_number most key pairs x e =
    required_is (λ (n : ℕ). n ≤ most) key (number_to most) (value_under key pairs) x (λ value _ k. number_most most value x k) e

optional_number : (most key default : ℕ) (pairs : List Pair) (x : ℕ) → default ≤ most → optional key default (number_to most) pairs ≡ Ok x → x ≤ most
optional_number most key default pairs x given e =
    optional_is (λ (n : ℕ). n ≤ most) key default (number_to most) (value_under key pairs) x given (λ value k. number_most most value x k) e

array_inside : (value x : List ℕ) → IsInner value → array_in value ≡ Some x → IsInnerArray x
array_inside value x inner e =
    let array = mapped_some (λ (array : ℕ × List ℕ). value) (first_as as_array value) x e in
    let first = first_as_read as_array value array.0 array.1 in
    let what = array_is first.0 array.0 first.3 in
    let read : reading_of value ≡ Ok (ShownArray array.0.0 array.0.1, first.1) = first.2 ∙ (λ i. Ok (what i, first.1)) in
    subst IsInnerArray array.2 (array_inner value array.0.0 array.0.1 first.1 inner read)

required_array : (key : ℕ) (pairs : List Pair) (x : List ℕ) → AreInner pairs → required key array_in pairs ≡ Ok x → IsInnerArray x
required_array key pairs x inner e =
    required_is IsInnerArray key array_in (value_under key pairs) x
    (λ value u k. array_inside value x (under_inner key pairs value inner u) k) e

shaped_is : (operations x : List ℕ) → shaped_operations operations ≡ Ok x → (shape_fault operations ≡ None) × (operations ≡ x)
shaped_is operations x e = by_fault (shape_fault operations) refl e
  where
    by_fault : (fault : Option Refusal) → shape_fault operations ≡ fault → shaped operations fault ≡ Ok x → (shape_fault operations ≡ None) × (operations ≡ x)
    by_fault None f e = (f, ok_is operations x e)
    by_fault (Some refusal) f e = absurd cc

operations_are : (operations x : List ℕ) → IsInnerArray operations → shaped_operations operations ≡ Ok x → AreOperations x
operations_are operations x inner e = let s = shaped_is operations x e in subst AreOperations s.1 (inner, s.0)

-- a digit of sixteen
digit_small : (c : ℕ) → is_hex_digit c ≡ true → value_of c < 16
digit_small c e = grind (arith, nat_tests)

digits_small : (text : List ℕ) (i : ℕ) → list_all is_hex_digit text ≡ true → i < length text → value_of (slice_index text i) < 16
digits_small text i e within = digit_small (slice_index text i) (AllPass-from_list_all is_hex_digit text e i 0 within)

simple_bytes : (text : List ℕ) (i : ℕ) → length text ≡ 32 → list_all is_hex_digit text ≡ true → get_or (by_index 16 (byte_of_digits text)) i 0 < 2 ^ 8
simple_bytes text i len e =
    elim (cases_lt i 16) [
      | inl under ↦
          let high = digits_small text (2 * i) e (omega arith) in
          let low = digits_small text (2 * i + 1) e (omega arith) in
          let at = by_index_at 16 (byte_of_digits text) i 0 under in
          omega arith
      | inr over ↦
          let len = by_index_length 16 (byte_of_digits text) in
          let at = get_or_past (by_index 16 (byte_of_digits text)) i 0 (omega arith) in
          omega arith
    ]

simple_is : (text x : List ℕ) → parsed_simple text ≡ Some x → IsUuid x
simple_is text x e =
    let t = allowed ((length text == 32) && list_all is_hex_digit text) (Some (by_index 16 (byte_of_digits text))) x e in
    let p = and_parts (length text == 32) (list_all is_hex_digit text) t.0 in
    let len = eqb-true (length text) 32 p.0 in
    subst IsUuid (same_some (by_index 16 (byte_of_digits text)) x t.1) (by_index_length 16 (byte_of_digits text), λ i. simple_bytes text i len p.1)

hyphenated_is : (text x : List ℕ) → parsed_hyphenated text ≡ Some x → IsUuid x
hyphenated_is text x e = simple_is (digits_of text) x (allowed ((length text == 36) && has_hyphens text) (parsed_simple (digits_of text)) x e).1

uuid_is : (value x : List ℕ) → uuid_in value ≡ Some x → IsUuid x
uuid_is value x e = let text = bind_some (first_as as_text value) parsed_hyphenated x e in hyphenated_is text.0 x text.2

required_uuid : (key : ℕ) (pairs : List Pair) (x : List ℕ) → required key uuid_in pairs ≡ Ok x → IsUuid x
required_uuid key pairs x e = required_is IsUuid key uuid_in (value_under key pairs) x (λ value _ k. uuid_is value x k) e

clock_set : (clock : List ℕ) (id lsn : ℕ) → IsVclock clock → lsn ≤ max_lsn → IsVclock (slice_set clock id lsn)
clock_set clock id lsn c most = record {
  whole = length-set clock id lsn ∙ c.whole;
  bounded = All-set (λ n. n ≤ max_lsn) clock id lsn most c.bounded;
}

clock_more : (clock : List ℕ) (pairs : List Pair) (x : List ℕ) → IsVclock clock → vclock_from clock pairs ≡ Some x → IsVclock x
clock_more clock [] x c e = subst (λ (l : List ℕ). IsVclock l) (same_some clock x e) c
clock_more clock (pair ∷ others) x c e =
    let id = bind_some pair.key _ x e in
    let lsn = bind_some (number_to max_lsn pair.value) (λ lsn. if nat_lt id.0 replicas then vclock_from (slice_set clock id.0 lsn) others else None) x id.2 in
    let t = allowed (nat_lt id.0 replicas) (vclock_from (slice_set clock id.0 lsn.0) others) x lsn.2 in
    clock_more (slice_set clock id.0 lsn.0) others x (clock_set clock id.0 lsn.0 c (number_most max_lsn pair.value lsn.0 lsn.1)) t.1

clock_empty : IsVclock (replicate replicas 0)
clock_empty = record { whole = refl; bounded = All-replicate (λ n. n ≤ max_lsn) replicas 0 (omega arith) }

clock_is : (value x : List ℕ) → vclock_in value ≡ Some x → IsVclock x
clock_is value x e =
    let pairs = bind_some (first_as as_map value) _ x e in
    clock_more (replicate replicas 0) (pairs_from pairs.0.0 pairs.0.1) x clock_empty pairs.2

required_clock : (key : ℕ) (pairs : List Pair) (x : List ℕ) → required key vclock_in pairs ≡ Ok x → IsVclock x
required_clock key pairs x e =
    required_is (λ (l : List ℕ). IsVclock l) key vclock_in (value_under key pairs) x (λ value _ k. clock_is value x k) e

-- ---- the requests

-- it can be asked, and has this number
abbrev Asks : ℕ → Request → Type 0
Asks number request = IsAskable request × (number ≡ type_number request)

-- so is what is read, where it is this request
asks : (number : ℕ) (one request : Request) → done one ≡ done request → Asks number one → Asks number request
asks number one request e a = subst (Asks number) (ok_is one request e) a

module _ (body : List Pair) (request : Request) (inner : AreInner body) where
  select_askable : select_in body ≡ Ok request → Asks 1 request
  unfolding select_in
  select_askable e =
      let space = bind_ok (required 0x10 number_32 body) _ request e in
      let index = bind_ok (optional 0x11 0 number_32 body) _ request space.2 in
      let limit = bind_ok (optional 0x12 (2 ^ 32 - 1) number_32 body) _ request index.2 in
      let offset = bind_ok (optional 0x13 0 number_32 body) _ request limit.2 in
      let iterator = bind_ok (optional 0x14 0 (number_to 6) body) _ request offset.2 in
      let key = bind_ok (required 0x20 array_in body) _ request iterator.2 in
      asks 1 _ request key.2 (
        (
          omega (arith, required_number (2 ^ 32 - 1) 0x10 body space.0 space.1),
          omega (arith, optional_number (2 ^ 32 - 1) 0x11 0 body index.0 (omega arith) index.1),
          omega (arith, optional_number (2 ^ 32 - 1) 0x12 (2 ^ 32 - 1) body limit.0 (omega arith) limit.1),
          omega (arith, optional_number (2 ^ 32 - 1) 0x13 0 body offset.0 (omega arith) offset.1),
          optional_number 6 0x14 0 body iterator.0 (omega arith) iterator.1,
          required_array 0x20 body key.0 inner key.1,
        ),
        refl,
      )

  insert_askable : insert_in body ≡ Ok request → Asks 2 request
  unfolding insert_in
  insert_askable e =
      let space = bind_ok (required 0x10 number_32 body) _ request e in
      let tuple = bind_ok (required 0x21 array_in body) _ request space.2 in
      asks 2 _ request tuple.2 ((omega (arith, required_number (2 ^ 32 - 1) 0x10 body space.0 space.1), required_array 0x21 body tuple.0 inner tuple.1), refl)

  replace_askable : replace_in body ≡ Ok request → Asks 3 request
  unfolding replace_in
  replace_askable e =
      let space = bind_ok (required 0x10 number_32 body) _ request e in
      let tuple = bind_ok (required 0x21 array_in body) _ request space.2 in
      asks 3 _ request tuple.2 ((omega (arith, required_number (2 ^ 32 - 1) 0x10 body space.0 space.1), required_array 0x21 body tuple.0 inner tuple.1), refl)

  update_askable : update_in body ≡ Ok request → Asks 4 request
  unfolding update_in
  update_askable e =
      let space = bind_ok (required 0x10 number_32 body) _ request e in
      let index = bind_ok (optional 0x11 0 number_32 body) _ request space.2 in
      let base = bind_ok (optional 0x15 0 (number_to 1) body) _ request index.2 in
      let key = bind_ok (required 0x20 array_in body) _ request base.2 in
      let array = bind_ok (required 0x21 array_in body) _ request key.2 in
      let operations = bind_ok (shaped_operations array.0) _ request array.2 in
      asks 4 _ request operations.2 (
        (
          omega (arith, required_number (2 ^ 32 - 1) 0x10 body space.0 space.1),
          omega (arith, optional_number (2 ^ 32 - 1) 0x11 0 body index.0 (omega arith) index.1),
          optional_number 1 0x15 0 body base.0 (omega arith) base.1,
          required_array 0x20 body key.0 inner key.1,
          operations_are array.0 operations.0 (required_array 0x21 body array.0 inner array.1) operations.1,
        ),
        refl,
      )

  delete_askable : delete_in body ≡ Ok request → Asks 5 request
  unfolding delete_in
  delete_askable e =
      let space = bind_ok (required 0x10 number_32 body) _ request e in
      let index = bind_ok (optional 0x11 0 number_32 body) _ request space.2 in
      let key = bind_ok (required 0x20 array_in body) _ request index.2 in
      asks 5 _ request key.2 (
        (
          omega (arith, required_number (2 ^ 32 - 1) 0x10 body space.0 space.1),
          omega (arith, optional_number (2 ^ 32 - 1) 0x11 0 body index.0 (omega arith) index.1),
          required_array 0x20 body key.0 inner key.1,
        ),
        refl,
      )

  upsert_askable : upsert_in body ≡ Ok request → Asks 9 request
  unfolding upsert_in
  upsert_askable e =
      let space = bind_ok (required 0x10 number_32 body) _ request e in
      let base = bind_ok (optional 0x15 0 (number_to 1) body) _ request space.2 in
      let tuple = bind_ok (required 0x21 array_in body) _ request base.2 in
      let array = bind_ok (required 0x28 array_in body) _ request tuple.2 in
      let operations = bind_ok (shaped_operations array.0) _ request array.2 in
      asks 9 _ request operations.2 (
        (
          omega (arith, required_number (2 ^ 32 - 1) 0x10 body space.0 space.1),
          optional_number 1 0x15 0 body base.0 (omega arith) base.1,
          required_array 0x21 body tuple.0 inner tuple.1,
          operations_are array.0 operations.0 (required_array 0x28 body array.0 inner array.1) operations.1,
        ),
        refl,
      )

  begin_askable : begin_in body ≡ Ok request → Asks 14 request
  unfolding begin_in
  begin_askable e =
      let level = bind_ok (optional 0x59 0 (number_to 4) body) _ request e in
      asks 14 _ request level.2 (tt, refl)

  join_askable : join_in body ≡ Ok request → Asks 65 request
  unfolding join_in
  join_askable e =
      let instance = bind_ok (required 0x24 uuid_in body) _ request e in
      asks 65 _ request instance.2 (required_uuid 0x24 body instance.0 instance.1, refl)

  subscribe_askable : subscribe_in body ≡ Ok request → Asks 66 request
  unfolding subscribe_in
  subscribe_askable e =
      let instance = bind_ok (required 0x24 uuid_in body) _ request e in
      let set = bind_ok (required 0x25 uuid_in body) _ request instance.2 in
      let clock = bind_ok (required 0x26 vclock_in body) _ request set.2 in
      asks 66 _ request clock.2 (
        (
          required_uuid 0x24 body instance.0 instance.1,
          required_uuid 0x25 body set.0 set.1,
          required_clock 0x26 body clock.0 clock.1,
        ),
        refl,
      )

  ack_askable : ack_in body ≡ Ok request → Asks 0 request
  unfolding ack_in
  ack_askable e =
      let clock = bind_ok (required 0x26 vclock_in body) _ request e in
      asks 0 _ request clock.2 (required_clock 0x26 body clock.0 clock.1, refl)

-- the number of a request type
abbrev number_of_type : RequestType → ℕ
number_of_type type.Ack = 0
number_of_type type.Select = 1
number_of_type type.Insert = 2
number_of_type type.Replace = 3
number_of_type type.Update = 4
number_of_type type.Delete = 5
number_of_type type.Upsert = 9
number_of_type type.Nop = 12
number_of_type type.Begin = 14
number_of_type type.Commit = 15
number_of_type type.Rollback = 16
number_of_type type.Ping = 64
number_of_type type.Join = 65
number_of_type type.Subscribe = 66
number_of_type type.Id = 73

ask_askable : (kind : RequestType) (body : List Pair) (request : Request) → AreInner body → body_request kind body ≡ Ok request → Asks (number_of_type kind) request
ask_askable type.Ack body request inner e = ack_askable body request inner e
ask_askable type.Select body request inner e = select_askable body request inner e
ask_askable type.Insert body request inner e = insert_askable body request inner e
ask_askable type.Replace body request inner e = replace_askable body request inner e
ask_askable type.Update body request inner e = update_askable body request inner e
ask_askable type.Delete body request inner e = delete_askable body request inner e
ask_askable type.Upsert body request inner e = upsert_askable body request inner e
ask_askable type.Nop body request inner e = asks 12 Nop request e (tt, refl)
ask_askable type.Begin body request inner e = begin_askable body request inner e
ask_askable type.Commit body request inner e = asks 15 Commit request e (tt, refl)
ask_askable type.Rollback body request inner e = asks 16 Rollback request e (tt, refl)
ask_askable type.Ping body request inner e = asks 64 Ping request e (tt, refl)
ask_askable type.Join body request inner e = join_askable body request inner e
ask_askable type.Subscribe body request inner e = subscribe_askable body request inner e
ask_askable type.Id body request inner e = asks 73 Id request e (tt, refl)

-- ---- the type

zero_is : (found : Option (List ℕ)) (kind : RequestType) → zero_type found ≡ Ok kind → number_of_type kind ≡ 0
zero_is None kind e = absurd cc
zero_is (Some clock) kind e = ap number_of_type (sym (ok_is type.Ack kind e))

-- the number that was tested is this request type's
picked : (number : ℕ) (one kind : RequestType) → (number == number_of_type one) ≡ true → done one ≡ done kind → number ≡ number_of_type kind
picked number one kind t e = eqb-true number (number_of_type one) t ∙ ap number_of_type (ok_is one kind e)

kind_is : (number : ℕ) (body : List Pair) (kind : RequestType) → request_type_of number body ≡ Ok kind → number ≡ number_of_type kind
unfolding request_type_of
kind_is number body kind e =
    let P = λ (r : Result RequestType Refusal). r ≡ Ok kind → number ≡ number_of_type kind in
    (cond_both (number == 0) _ _ P (λ t k. eqb-true number 0 t ∙ sym (zero_is (value_under 0x26 body) kind k)) (λ _.
    cond_both (number == 1) _ _ P (picked number type.Select kind) (λ _.
    cond_both (number == 2) _ _ P (picked number type.Insert kind) (λ _.
    cond_both (number == 3) _ _ P (picked number type.Replace kind) (λ _.
    cond_both (number == 4) _ _ P (picked number type.Update kind) (λ _.
    cond_both (number == 5) _ _ P (picked number type.Delete kind) (λ _.
    cond_both (number == 7) _ _ P (λ _ k. absurd cc) (λ _.
    cond_both (number == 9) _ _ P (picked number type.Upsert kind) (λ _.
    cond_both (number == 12) _ _ P (picked number type.Nop kind) (λ _.
    cond_both (number == 14) _ _ P (picked number type.Begin kind) (λ _.
    cond_both (number == 15) _ _ P (picked number type.Commit kind) (λ _.
    cond_both (number == 16) _ _ P (picked number type.Rollback kind) (λ _.
    cond_both (number == 64) _ _ P (picked number type.Ping kind) (λ _.
    cond_both (number == 65) _ _ P (picked number type.Join kind) (λ _.
    cond_both (number == 66) _ _ P (picked number type.Subscribe kind) (λ _.
    cond_both (number == 73) _ _ P (picked number type.Id kind) (λ _ k. absurd cc))))))))))))))))) e

-- ---- the law

pub pairs_askable : (header body : List Pair) (head : Head3) (request : Request) → AreInner body → request_in header body ≡ Ok (head, request)
    → IsAskable request × (head.kind ≡ type_number request)
unfolding request_in
pairs_askable header body head request inner e =
    let number = bind_ok (optional 0x00 0 unsigned_in header) _ (head, request) e in
    let kind = bind_ok (request_type_of number.0 body) _ (head, request) number.2 in
    let sync = bind_ok (optional 0x01 0 unsigned_in header) _ (head, request) kind.2 in
    let stream = bind_ok (optional 0x0a 0 unsigned_in header) _ (head, request) sync.2 in
    let asked = bind_ok (body_request kind.0 body) _ (head, request) stream.2 in
    let same = ok_is _ (head, request) asked.2 in
    let a = ask_askable kind.0 body asked.0 inner asked.1 in
    let is = ap (λ (x : Head3 × Request). x.1) same in
    let number-is : head.kind ≡ number.0 = sym (ap (λ (x : Head3 × Request). x.0.kind) same) in
    (subst (λ (r : Request). IsAskable r) is a.0, number-is ∙ kind_is number.0 body kind.0 kind.1 ∙ a.1 ∙ ap (λ (r : Request). type_number r) is)

pub asked_is_askable : (header body : List ℕ) (head : Head3) (request : Request) → request_in (pairs_in header) (pairs_in body) ≡ Ok (head, request)
    → IsAskable request × (head.kind ≡ type_number request)
asked_is_askable header body head request e = pairs_askable (pairs_in header) (pairs_in body) head request (body_inner body) e
