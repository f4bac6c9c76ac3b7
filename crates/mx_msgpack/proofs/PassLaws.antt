-- A map that is read pair by pair, from its head on, is the map that stands first, and its pairs are the map's.
use Rattle.std.proofs.Common.{[], ◌≡◌, ℕ, suc, ◌-◌, ◌*◌, ◌<◌, ◌≤◌, List, ◌∷◌, ◌++◌, length, map, take, drop, Option, Some, None, Result, Ok, Err, refl, sym, ap, ◌∙◌, subst, append_assoc, arith}
use Rattle.std.specs.Prelude.{ℤ, pos, negsuc, zero, Bool, true, false, cond, nat_le}
use Rattle.std.specs.Option.{option_map}
use Rattle.std.specs.Result.{result_ok}
use Rattle.std.proofs.lemmas.List.{take_at, drop_at, length-append}
use Rattle.mx_msgpack.specs.declared.bad.Bad.{Bad}
use Rattle.mx_msgpack.specs.declared.head.Head.{Head}
use Rattle.mx_msgpack.specs.declared.head.Head.TheVariants.{Nil, Bool as Boolean, Int, Str, Bin, Array, Map, Fixed, Extension}
use Rattle.mx_msgpack.specs.Grammar as grammar
use Rattle.mx_msgpack.specs.Grammar.{Value, Pairs, NoPair, MorePairs, pair_count, max_length, Spells, SpellsPairs}
use Rattle.mx_msgpack.specs.Reading as reading
use Rattle.mx_msgpack.specs.Reading.{head_at, after_all, after_first, reading_of, Shown, ShownMap, shown}
use Rattle.mx_msgpack.specs.Projections.{as_int, as_map, shown_first}
use Rattle.mx_msgpack.specs.Readers.{◌>>=◌, as_unsigned, unsigned_at, unsigned_in}
use Rattle.mx_msgpack.specs.Steps.{after_inner, after_inners}
use Rattle.mx_msgpack.specs.Items.{after_value, first_value}
use Rattle.mx_msgpack.specs.Maps.{Pair, map_at, pairs_from, pairs_in, value_under}
use Rattle.mx_msgpack.proofs.LookupLaws.{nones}
use Rattle.std.specs.Option.{option_and_then, option_map_or}
use Rattle.mx_msgpack.proofs.FrontLaws.{roomier}
use Rattle.mx_msgpack.proofs.GrammarLaws.{value_again, value_spelled, value_stands}
use Rattle.mx_msgpack.proofs.InnerLaws.{shown_value}
use Rattle.mx_msgpack.proofs.ItemLaws.{first_is}
use Rattle.mx_msgpack.proofs.MapLaws.{read_alone}
use Rattle.mx_msgpack.proofs.Shown.{one_head, reads}
use Rattle.mx_msgpack.proofs.Measured.{front_is}
use Rattle.mx_msgpack.proofs.UnsignedLaws.{unsigned_spelled}
use Rattle.mx_msgpack.proofs.Stack.{first_inside, first_long}
use Rattle.mx_msgpack.proofs.InnerSteps.{anywhere, found_ok, inner_found}
use Rattle.mx_msgpack.proofs.Options.{allowed, same_some}
use Rattle.mx_msgpack.proofs.Results.{bind_Ok, bind_ok, ok_is}
use Rattle.mx_msgpack.specs.Lookups.{map_announced, map_head}
use Rattle.std.proofs.lemmas.Bool.{leb-true, leb-false}
use Rattle.mx_msgpack.proofs.StepLaws.{headed_steps}

-- ---- a key is read alone as with what follows it

-- the number that an Int is, where that is 0 or more
abbrev number_of : Option ℤ → Option ℕ
number_of None = None
number_of (Some number) = as_unsigned number

-- a key without the bytes after it
number_found : (number : Option ℤ) (bytes : List ℕ)
    → option_map (λ (found : ℕ × List ℕ). found.0) (number >>= λ n. as_unsigned n >>= λ unsigned. Some (unsigned, bytes)) ≡ number_of number
number_found None bytes = refl
number_found (Some (pos n)) bytes = refl
number_found (Some (negsuc n)) bytes = refl

key_shown : (bytes : List ℕ) (what : Shown) (size : ℕ) → reading_of bytes ≡ Ok (what, size) → unsigned_in bytes ≡ number_of (as_int what)
unfolding unsigned_at
key_shown bytes what size e = rw e (number_found (as_int what) (drop size bytes))

reads_some : (bytes rest : List ℕ) → after_first (length bytes) 64 bytes ≡ Ok rest → (what : Shown) × (reading_of bytes ≡ Ok (what, length bytes - length rest))
reads_some bytes rest e =
    let s = value_stands (length bytes) 64 bytes rest e in
    let at : 0 ≡ length bytes - length bytes = omega arith in
    (shown s.head (take (length s.after - length rest) s.after) (take (length bytes - length rest) bytes), reads bytes s.head s.after rest (ap (λ (k : ℕ). head_at k bytes) at ∙ s.begins) e)

key_alone : (value : Value) (front more : List ℕ) → Spells 63 value front → unsigned_in (front ++ more) ≡ unsigned_in front
key_alone value front more s =
    let bytes = front ++ more in
    let l = length-append front more in
    let r = reads_some bytes more (value_again (length bytes) 64 value front more (roomier 63 value front s)) in
    let size : length bytes - length more ≡ length front = omega arith in
    let read : reading_of bytes ≡ Ok (r.0, length front) = r.1 ∙ (λ i. Ok (r.0, size i)) in
    let alone : reading_of front ≡ Ok (r.0, length front) = ap reading_of (sym (take_at front more (length front) refl)) ∙ read_alone bytes r.0 (length front) read in
    key_shown bytes r.0 (length front) read ∙ sym (key_shown front r.0 (length front) alone)

-- pairs are the same whatever follows them
pairs_before : (pairs : Pairs) (content rest : List ℕ) → SpellsPairs 63 pairs content → pairs_from (pair_count pairs) (content ++ rest) ≡ pairs_from (pair_count pairs) content
pairs_before NoPair content rest e = refl
pairs_before (MorePairs key value others) content rest (front, middle, more, e, s, t, ss) =
    let alone : content ≡ front ++ (middle ++ more) = e ∙ append_assoc front middle more in
    let followed : content ++ rest ≡ front ++ (middle ++ (more ++ rest)) =
    ap (λ (l : List ℕ). l ++ rest) alone ∙ append_assoc front (middle ++ more) rest ∙ ap (λ (l : List ℕ). front ++ l) (append_assoc middle more rest) in
    let keys : unsigned_in (front ++ (middle ++ (more ++ rest))) ≡ unsigned_in (front ++ (middle ++ more)) =
    key_alone key front (middle ++ (more ++ rest)) s ∙ sym (key_alone key front (middle ++ more) s) in
    let one = first_is key front (middle ++ (more ++ rest)) s in
    let two = first_is value middle (more ++ rest) t in
    let three = first_is key front (middle ++ more) s in
    let four = first_is value middle more t in
    let inside = pairs_before others more rest ss in
    rw (followed, alone) (rw (keys, one.1, two.0, two.1, three.1, four.0, four.1, inside) refl)

-- ---- a pair

-- a value that stands in a container is parted from the bytes after it
inner_parted : (bytes rest : List ℕ) → after_inner bytes ≡ Some rest
    → (first_value bytes ≡ take (length bytes - length rest) bytes) × (after_value bytes ≡ rest) × (drop (length bytes - length rest) bytes ≡ rest)
inner_parted bytes rest e =
    let v = value_spelled 0 63 bytes rest (inner_found 0 bytes rest e) in
    let p = first_is v.0 v.1 rest v.3 in
    let l = ap length v.2 ∙ length-append v.1 rest in
    let size : length v.1 ≡ length bytes - length rest = omega arith in (
      ap first_value v.2 ∙ p.0 ∙ sym (ap (take (length bytes - length rest)) v.2 ∙ take_at v.1 rest (length bytes - length rest) size),
      ap after_value v.2 ∙ p.1,
      ap (drop (length bytes - length rest)) v.2 ∙ drop_at v.1 rest (length bytes - length rest) size,
    )

-- a number of 0 or more stands in a container too
pub key_inner : (bytes : List ℕ) (found : ℕ × List ℕ) → unsigned_at bytes ≡ Some found → after_inner bytes ≡ Some found.1
key_inner bytes found e =
    let s = unsigned_spelled bytes found e in
    ap after_inner s.1 ∙ ap result_ok (value_again 0 63 (grammar.Int (pos found.0)) s.0 found.1 s.2)

-- a value after a key
two_inner : (bytes behind : List ℕ) → after_inner bytes ≡ Some behind → after_inners 2 bytes ≡ after_inner behind
two_inner bytes behind k =
    ap (λ (r : Result (List ℕ) Bad). result_ok (reading.◌>>=◌ r (after_all (after_first 0 63) 1))) (inner_found 0 bytes behind k)
    ∙ ap result_ok (bind_Ok (after_first 0 63 behind))

pub pair_after : (bytes behind rest others : List ℕ) → after_inner bytes ≡ Some behind → after_inner behind ≡ Some rest
    → others ≡ drop (length behind - length rest) behind → Some others ≡ after_inners 2 bytes
pair_after bytes behind rest others k r o = ap (λ (l : List ℕ). Some l) (o ∙ (inner_parted behind rest r).2) ∙ sym (two_inner bytes behind k ∙ r)

-- no key, and none after a key
pub no_key : (bytes : List ℕ) → after_inner bytes ≡ None → None ≡ after_inners 2 bytes
no_key bytes e = by_read (after_first 0 63 bytes) e
  where
    by_read : (r : Result (List ℕ) Bad) → result_ok r ≡ None → None ≡ result_ok (reading.◌>>=◌ r (after_all (after_first 0 63) 1))
    by_read (Ok rest) e = absurd cc
    by_read (Err bad) e = refl

pub no_value : (bytes behind : List ℕ) → after_inner bytes ≡ Some behind → after_inner behind ≡ None → None ≡ after_inners 2 bytes
no_value bytes behind k e = sym (two_inner bytes behind k ∙ e)

-- a key and a value are the first pair
pub pair_parts : (bytes behind rest : List ℕ) (key : Option ℕ) (value others : List ℕ) → key ≡ unsigned_in bytes → after_inner bytes ≡ Some behind → after_inner behind ≡ Some rest
    → value ≡ take (length behind - length rest) behind → others ≡ drop (length behind - length rest) behind
    → (count : ℕ) → pairs_from (suc count) bytes ≡ record { key = key; value = value } ∷ pairs_from count others
pair_parts bytes behind rest key value others k r s v o count =
    let one = inner_parted bytes behind r in
    let two = inner_parted behind rest s in
    let rest_is : others ≡ rest = o ∙ two.2 in
    let value_is : value ≡ first_value behind = v ∙ sym two.0 in
    rw (one.1, two.1, k, value_is, rest_is) refl

-- ---- the pairs of a map

after_two : (count : ℕ) (bytes : List ℕ) → after_inners (suc (suc count)) bytes ≡ (after_inners 2 bytes >>= after_inners count)
after_two count bytes = by_key (after_first 0 63 bytes)
  where
    one : List ℕ → Result (List ℕ) Bad
    one = after_first 0 63

    by_value : (r : Result (List ℕ) Bad) → result_ok (reading.◌>>=◌ r (after_all one count)) ≡ (result_ok (reading.◌>>=◌ r (λ x. Ok x)) >>= after_inners count)
    by_value (Ok rest) = refl
    by_value (Err bad) = refl

    by_key : (r : Result (List ℕ) Bad) → result_ok (reading.◌>>=◌ r (after_all one (suc count))) ≡ (result_ok (reading.◌>>=◌ r (after_all one 1)) >>= after_inners count)
    by_key (Ok behind) = by_value (one behind)
    by_key (Err bad) = refl

-- a turn of the loop over the pairs
pub pair_passed : (left : ℕ) (bytes rest : List ℕ) (whole : Option (List ℕ)) → 0 < left → Some rest ≡ after_inners 2 bytes
    → after_inners (2 * left) bytes ≡ whole → after_inners (2 * (left - 1)) rest ≡ whole
pair_passed left bytes rest whole some pair e =
    let more : 2 * left ≡ suc (suc (2 * (left - 1))) = omega arith in
    ap (λ (o : Option (List ℕ)). o >>= after_inners (2 * (left - 1))) pair ∙ sym (after_two (2 * (left - 1)) bytes)
    ∙ sym (ap (λ (n : ℕ). after_inners n bytes) more) ∙ e

-- no pair stands first
pub pair_missing : (left : ℕ) (bytes : List ℕ) (whole : Option (List ℕ)) → 0 < left → None ≡ after_inners 2 bytes → after_inners (2 * left) bytes ≡ whole → whole ≡ None
pair_missing left bytes whole some pair e =
    let more : 2 * left ≡ suc (suc (2 * (left - 1))) = omega arith in
    sym e ∙ ap (λ (n : ℕ). after_inners n bytes) more ∙ after_two (2 * (left - 1)) bytes
    ∙ sym (ap (λ (o : Option (List ℕ)). o >>= after_inners (2 * (left - 1))) pair)

-- no pair remains
pub pairs_passed : (left : ℕ) (rest : List ℕ) (whole : Option (List ℕ)) → left ≤ 0 → after_inners (2 * left) rest ≡ whole → whole ≡ Some rest
pairs_passed left rest whole none e =
    let over : 2 * left ≡ 0 = omega arith in
    sym e ∙ ap (λ (n : ℕ). after_inners n rest) over

-- ---- a map

-- the map that stands first, and its pairs
pub record Passed (bytes : List ℕ) (count : ℕ) (behind rest : List ℕ) : Type 0 where
  pub after : Some rest ≡ option_map (λ (x : List ℕ × List ℕ). x.1) (map_at bytes)
  pub pairs : pairs_from count behind ≡ pairs_in bytes

-- values in a row are read so whatever their place
inners_anywhere : (total other count : ℕ) (bytes rest : List ℕ) → after_all (after_first total 63) count bytes ≡ Ok rest → after_all (after_first other 63) count bytes ≡ Ok rest
inners_anywhere total other zero bytes rest e = e
inners_anywhere total other (suc count) bytes rest e =
    let b = bind_ok (after_first total 63 bytes) (after_all (after_first total 63) count) rest e in
    ap (λ (r : Result (List ℕ) Bad). reading.◌>>=◌ r (after_all (after_first other 63) count)) (anywhere total other bytes b.0 b.1)
    ∙ inners_anywhere total other count b.0 rest b.2

-- what a reading shows, and where it ends
reading_shows : (bytes : List ℕ) (first : Shown × ℕ) → reading_of bytes ≡ Ok first
    → (head : Head × List ℕ) × (rest : List ℕ) × (head_at 0 bytes ≡ Ok head) × (after_first (length bytes) 64 bytes ≡ Ok rest)
    × (first ≡ (shown head.0 (take (length head.1 - length rest) head.1) (take (length bytes - length rest) bytes), length bytes - length rest))
unfolding reading_of
reading_shows bytes first e =
    let a = bind_ok (head_at 0 bytes) _ first e in
    let b = bind_ok (after_first (length bytes) 64 bytes) (λ rest. Ok (shown a.0.0 (take (length a.0.1 - length rest) a.0.1) (take (length bytes - length rest) bytes), length bytes - length rest)) first a.2 in
    (a.0, b.0, a.1, b.1, sym (ok_is (shown a.0.0 (take (length a.0.1 - length b.0) a.0.1) (take (length bytes - length b.0) bytes), length bytes - length b.0) first b.2))

reading_ends : (bytes : List ℕ) (first : Shown × ℕ) → reading_of bytes ≡ Ok first → (rest : List ℕ) × (after_first (length bytes) 64 bytes ≡ Ok rest)
reading_ends bytes first e = let r = reading_shows bytes first e in (r.1, r.3)

-- a head with more pairs than a map may have
refused_count : (count : ℕ) (after : List ℕ) → map_announced (Ok (Map count, after)) ≡ None → max_length < count
refused_count count after e = by_test (nat_le count max_length) refl e
  where
    by_test : (b : Bool) → nat_le count max_length ≡ b → cond {A = Option (ℕ × List ℕ)} b (Some (count, after)) None ≡ None → max_length < count
    by_test true t e = absurd cc
    by_test false t e = leb-false count max_length t

-- the head of a map
map_begins : (bytes : List ℕ) (count : ℕ) (behind : List ℕ) → Some (count, behind) ≡ map_head bytes → (head_at 0 bytes ≡ Ok (Map count, behind)) × (count ≤ max_length)
map_begins bytes count behind e = by_head (head_at 0 bytes) refl (sym e)
  where
    by_head : (read : Result (Head × List ℕ) Bad) → head_at 0 bytes ≡ read → map_announced read ≡ Some (count, behind)
        → (head_at 0 bytes ≡ Ok (Map count, behind)) × (count ≤ max_length)
    by_head (Ok (Map other, after)) h e =
        let few = allowed (nat_le other max_length) (Some (other, after)) (count, behind) e in
        let same = same_some (other, after) (count, behind) few.1 in
        let many : other ≡ count = ap (λ (x : ℕ × List ℕ). x.0) same in
        (h ∙ ap (λ (x : ℕ × List ℕ). Ok (Map x.0, x.1)) same, subst (λ (n : ℕ). n ≤ max_length) many (leb-true other max_length few.0))
    by_head (Ok (_, after)) h e = absurd cc
    by_head (Err bad) h e = absurd cc

pub map_passed : (bytes : List ℕ) (count : ℕ) (behind rest : List ℕ) → Some (count, behind) ≡ map_head bytes → after_inners (2 * count) behind ≡ Some rest
    → Passed bytes count behind rest
unfolding map_at
map_passed bytes count behind rest announced e =
    let m = map_begins bytes count behind announced in
    let h : head_at 0 bytes ≡ Ok (Map count, behind) = m.0 in
    let whole : after_first (length bytes) 64 bytes ≡ Ok rest =
    first_inside bytes (record { announced = count; each = 2 }) behind m.1 (headed_steps 0 bytes (Map count) behind h)
    ∙ inners_anywhere 0 (length bytes) (2 * count) behind rest (found_ok (after_all (after_first 0 63) (2 * count) behind) rest e) in
    let size = length bytes - length rest in
    let content = take (length behind - length rest) behind in
    let read : reading_of bytes ≡ Ok (ShownMap count content, size) = reads bytes (Map count) behind rest h whole in
    let s = value_stands (length bytes) 64 bytes rest whole in
    let same = one_head (length bytes) bytes (Map count) s.head behind s.after refl h s.begins in
    let inside : behind ≡ s.content ++ rest = same.1 ∙ s.parts in
    let content_is : content ≡ s.content = front_is behind s.content rest (length behind - length rest) inside refl in
    let v = shown_value bytes (ShownMap count content) size read in
    let l = ap length s.whole ∙ length-append s.front rest in
    let front : length s.front ≡ size = omega arith in
    let rest_is : drop size bytes ≡ rest = ap (drop size) s.whole ∙ drop_at s.front rest size front in
    let same_pairs : pairs_from count behind ≡ pairs_from count content =
    ap (λ (l : List ℕ). pairs_from count l) (inside ∙ ap (λ (l : List ℕ). l ++ rest) (sym content_is))
    ∙ subst (λ (n : ℕ). pairs_from n (content ++ rest) ≡ pairs_from n content) (sym v.1.2) (pairs_before v.1.0 content rest v.1.3) in
    record {
      after = rw read (ap (λ (l : List ℕ). Some l) (sym rest_is));
      pairs = rw read same_pairs;
    }

-- the bytes after the map that a reading gives
abbrev map_in : List ℕ → Option (Shown × ℕ) → Option (List ℕ)
map_in bytes first = option_map (λ (x : List ℕ × List ℕ). x.1) (first >>= λ first. as_map first.0 >>= λ map. Some (take first.1 bytes, drop first.1 bytes))

abbrev map_by : List ℕ → Result (Shown × ℕ) Bad → Option (List ℕ)
map_by bytes read = map_in bytes (result_ok read)

map_is : (bytes : List ℕ) → option_map (λ (x : List ℕ × List ℕ). x.1) (map_at bytes) ≡ map_by bytes (reading_of bytes)
unfolding map_at
map_is bytes = refl

-- no map where one of its pairs is missing
pub pairs_missing : (bytes : List ℕ) (count : ℕ) (behind : List ℕ) → Some (count, behind) ≡ map_head bytes → after_inners (2 * count) behind ≡ None
    → None ≡ option_map (λ (x : List ℕ × List ℕ). x.1) (map_at bytes)
pairs_missing bytes count behind announced missing = sym (map_is bytes ∙ by_reading (reading_of bytes) refl)
  where
    by_reading : (read : Result (Shown × ℕ) Bad) → reading_of bytes ≡ read → map_by bytes read ≡ None
    by_reading (Ok first) e =
        let m = map_begins bytes count behind announced in
        let r = reading_ends bytes first e in
        let inside = sym (first_inside bytes (record { announced = count; each = 2 }) behind m.1 (headed_steps 0 bytes (Map count) behind m.0)) ∙ r.1 in
        let found = ap result_ok (inners_anywhere (length bytes) 0 (2 * count) behind r.0 inside) in
        absurd cc
    by_reading (Err bad) e = refl

-- no map where none begins
pub map_missing : (bytes : List ℕ) → None ≡ map_head bytes → None ≡ option_map (λ (x : List ℕ × List ℕ). x.1) (map_at bytes)
map_missing bytes announced = sym (map_is bytes ∙ by_reading (reading_of bytes) refl)
  where
    by_head : (head : Head) (after content whole : List ℕ) (size : ℕ) (rest : List ℕ) → head_at 0 bytes ≡ Ok (head, after) → after_first (length bytes) 64 bytes ≡ Ok rest
        → None ≡ map_announced (Ok (head, after)) → map_by bytes (Ok (shown head content whole, size)) ≡ None
    by_head (Map count) after content whole size rest h v announced =
        let many = refused_count count after (sym announced) in
        let long = first_long bytes (record { announced = count; each = 2 }) after many (headed_steps 0 bytes (Map count) after h) in
        absurd cc
    by_head Nil after content whole size rest h v announced = refl
    by_head (Boolean truth) after content whole size rest h v announced = refl
    by_head (Int number) after content whole size rest h v announced = refl
    by_head (Str _) after content whole size rest h v announced = refl
    by_head (Bin _) after content whole size rest h v announced = refl
    by_head (Array count) after content whole size rest h v announced = refl
    by_head (Fixed _) after content whole size rest h v announced = refl
    by_head (Extension _) after content whole size rest h v announced = refl

    by_reading : (read : Result (Shown × ℕ) Bad) → reading_of bytes ≡ read → map_by bytes read ≡ None
    by_reading (Ok first) e =
        let r = reading_shows bytes first e in
        ap (map_by bytes) (ap (λ (x : Shown × ℕ). Ok x) r.4) ∙ by_head r.0.0 r.0.1 _ _ _ r.1 r.2 r.3 (announced ∙ ap map_announced r.2)
    by_reading (Err bad) e = refl

-- no pairs, and so no value under a key
no_pairs : (bytes : List ℕ) → None ≡ option_map (λ (x : List ℕ × List ℕ). x.1) (map_at bytes) → pairs_in bytes ≡ []
no_pairs bytes missing = by_first (shown_first bytes) (missing ∙ map_is bytes)
  where
    by_first : (first : Option (Shown × ℕ)) → None ≡ map_in bytes first → option_map_or (λ (map : ℕ × List ℕ). pairs_from map.0 map.1) (option_and_then (λ (f : Shown × ℕ). as_map f.0) first) [] ≡ []
    by_first None e = refl
    by_first (Some (ShownMap count items, size)) e = absurd cc
    by_first (Some (_, size)) e = refl

pub none_under : {X : Type 0} (keys bytes : List ℕ) (values : List X) → None ≡ option_map (λ (x : List ℕ × List ℕ). x.1) (map_at bytes) → length values ≡ length keys
    → map (λ value. None) values ≡ map (λ key. value_under key (pairs_in bytes)) keys
none_under keys bytes values missing long =
    nones values keys long ∙ ap (λ (pairs : List Pair). map (λ key. value_under key pairs) keys) (sym (no_pairs bytes missing))
