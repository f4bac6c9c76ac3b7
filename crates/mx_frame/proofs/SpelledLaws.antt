-- What bytes begin with is what the grammar of MessagePack says.
use Rattle.std.proofs.Common.{◌≡◌, ℕ, ◌<◌, ◌≤◌, ◌-◌, true, false, nat_lt, List, [], ◌∷◌, ◌++◌, length, take, drop, Option, Some, None, ◌↔◌, refl, sym, ap, subst, ◌∙◌, inl, inr, ◌⊎◌, arith}
use Rattle.std.specs.Prelude.{replicate}
use Rattle.std.proofs.lemmas.Bool.{cond_both, cases_lt, ltb-true, ltb-false, lt-ltb, le-ltb}
use Rattle.std.proofs.lemmas.List.{take_at, drop_at, take-append-drop, length-append, length-take-le, length-replicate}
use Rattle.mx_msgpack.specs.Grammar.{SpellsUnsigned}
use Rattle.mx_frame.specs.Packets.{Size, Whole, Part, Wrong, max_packet_size, width_behind, size_in_limit, size_at, First, Packet, NeedMore, Broken, first_behind, first_frame}
use Rattle.mx_frame.specs.Spelled.{BeginsWithPacket, BeginsWithNoPacket, EndsInSize, EndsTooSoon}
use Rattle.mx_frame.proofs.SizeLaws.{Leads, leads, number_of, digits_spell, enough_read, few_read, none_read, number_read, front_read, no_width, no_number}

-- the grammar's words for what bytes begin with
abbrev Describes : List ℕ → First → Type 0
Describes bytes (Packet packet rest) = BeginsWithPacket bytes packet rest
Describes bytes NeedMore = EndsTooSoon bytes
Describes bytes Broken = BeginsWithNoPacket bytes

first_from : (bytes : List ℕ) (size : Size) → size_at bytes ≡ size → first_frame bytes ≡ first_behind size
unfolding first_frame
first_from bytes size e = ap first_behind e

-- ---- what is found is described

-- a number is spelled first
number_described : (number : ℕ) (bytes front rest : List ℕ) → SpellsUnsigned number front → bytes ≡ front ++ rest
    → Describes bytes (first_behind (size_in_limit number rest))
number_described number bytes front rest spelled parts =
    let P = λ (size : Size). Describes bytes (first_behind size) in
    cond_both (nat_lt max_packet_size number) Wrong (Whole number rest) P
    (λ t. inr (record { number = number; size = front; rest = rest; spelled = spelled; long = ltb-true _ _ t; parts = parts }))
    (λ f.
    let short = ltb-false max_packet_size number f in
    cond_both (nat_lt (length rest) number) NeedMore (Packet (take number rest) (drop number rest)) (Describes bytes)
    (λ t. inr (record { number = number; size = front; rest = rest; spelled = spelled; short = short; fewer = ltb-true _ _ t; parts = parts }))
    (λ f. whole short (ltb-false _ _ f)))
  where
    whole : number ≤ max_packet_size → number ≤ length rest → BeginsWithPacket bytes (take number rest) (drop number rest)
    whole short enough =
        let long : length (take number rest) ≡ number = length-take-le number rest enough in
        record {
          size = front;
          spelled = subst (λ (n : ℕ). SpellsUnsigned n front) (sym long) spelled;
          short = omega arith;
          parts = parts ∙ ap (λ (l : List ℕ). front ++ l) (sym (take-append-drop number rest));
        }

-- bytes of a number are missing
size_described : (leading width : ℕ) (rest : List ℕ) → Leads leading width → length rest < width → EndsInSize (leading ∷ rest)
size_described leading width rest l few =
    let missing = replicate (width - length rest) 0 in
    let count : length missing ≡ width - length rest = length-replicate (width - length rest) 0 in
    let long : length (rest ++ missing) ≡ width = omega (arith, length-append rest missing) in
    record {
      number = number_of leading width (rest ++ missing);
      missing = missing;
      some = omega arith;
      spelled = digits_spell leading width (rest ++ missing) l long;
    }

-- a byte stands first that begins a number
leading_described : (leading width : ℕ) (rest : List ℕ) → Leads leading width → Describes (leading ∷ rest) (first_frame (leading ∷ rest))
leading_described leading width rest l = by_length (cases_lt (length rest) width)
  where
    by_length : (length rest < width) ⊎ (width ≤ length rest) → Describes (leading ∷ rest) (first_frame (leading ∷ rest))
    by_length (inl few) =
        rw (first_from (leading ∷ rest) Part (few_read leading width rest l few)) (inl (size_described leading width rest l few))
    by_length (inr enough) =
        let digits = take width rest in
        let number = number_of leading width digits in
        rw (first_from (leading ∷ rest) (size_in_limit number (drop width rest)) (enough_read leading width rest l enough))
        (number_described number (leading ∷ rest) (leading ∷ digits) (drop width rest)
        (digits_spell leading width digits l (length-take-le width rest enough))
        (ap (λ (bytes : List ℕ). leading ∷ bytes) (sym (take-append-drop width rest))))

described : (bytes : List ℕ) → Describes bytes (first_frame bytes)
described [] =
    let zero_is : SpellsUnsigned 0 (0 ∷ []) = inl (omega arith, refl) in
    rw (first_from [] Part (front_read 0 [] (0 ∷ []) (omega arith) zero_is))
    (inl (record { number = 0; missing = 0 ∷ []; some = omega arith; spelled = zero_is }))
described (leading ∷ rest) = by_width (width_behind leading) refl
  where
    by_width : (o : Option ℕ) → width_behind leading ≡ o → Describes (leading ∷ rest) (first_frame (leading ∷ rest))
    by_width None e =
        rw (first_from (leading ∷ rest) Wrong (none_read leading rest e))
        (inl (record { leading = leading; others = rest; parts = refl; none = no_number leading e }))
    by_width (Some width) e = leading_described leading width rest (leads leading width e)

-- ---- what is described is found

-- a number is spelled first
number_found : (number : ℕ) (bytes front rest : List ℕ) → SpellsUnsigned number front → bytes ≡ front ++ rest
    → first_frame bytes ≡ first_behind (size_in_limit number rest)
number_found number bytes front rest spelled parts =
    first_from bytes (size_in_limit number rest) (ap size_at parts ∙ number_read number front rest spelled)

packet_found : (bytes packet rest : List ℕ) → BeginsWithPacket bytes packet rest → first_frame bytes ≡ Packet packet rest
packet_found bytes packet rest b =
    let l = length-append packet rest in
    let short : nat_lt max_packet_size (length packet) ≡ false = le-ltb _ _ b.short in
    let enough : nat_lt (length (packet ++ rest)) (length packet) ≡ false = le-ltb _ _ (omega arith) in
    number_found (length packet) bytes b.size (packet ++ rest) b.spelled b.parts
    ∙ rw (short, enough, take_at packet rest (length packet) refl, drop_at packet rest (length packet) refl) refl

none_found : (bytes : List ℕ) → BeginsWithNoPacket bytes → first_frame bytes ≡ Broken
none_found bytes (inl b) =
    first_from bytes Wrong (ap size_at b.parts ∙ none_read b.leading b.others (no_width b.leading b.none))
none_found bytes (inr b) =
    let long : nat_lt max_packet_size b.number ≡ true = lt-ltb _ _ b.long in
    number_found b.number bytes b.size b.rest b.spelled b.parts ∙ rw long refl

end_found : (bytes : List ℕ) → EndsTooSoon bytes → first_frame bytes ≡ NeedMore
end_found bytes (inl b) = first_from bytes Part (front_read b.number bytes b.missing b.some b.spelled)
end_found bytes (inr b) =
    let short : nat_lt max_packet_size b.number ≡ false = le-ltb _ _ b.short in
    let fewer : nat_lt (length b.rest) b.number ≡ true = lt-ltb _ _ b.fewer in
    number_found b.number bytes b.size b.rest b.spelled b.parts ∙ rw (short, fewer) refl

-- ---- both ways

-- what is found is described in the grammar's words
found_described : (bytes : List ℕ) (first : First) → first_frame bytes ≡ first → Describes bytes first
found_described bytes first e = subst (Describes bytes) e (described bytes)

pub packet_spelled : (bytes packet rest : List ℕ) → (first_frame bytes ≡ Packet packet rest) ↔ BeginsWithPacket bytes packet rest
packet_spelled bytes packet rest = (found_described bytes (Packet packet rest), packet_found bytes packet rest)

pub none_spelled : (bytes : List ℕ) → (first_frame bytes ≡ Broken) ↔ BeginsWithNoPacket bytes
none_spelled bytes = (found_described bytes Broken, none_found bytes)

pub end_spelled : (bytes : List ℕ) → (first_frame bytes ≡ NeedMore) ↔ EndsTooSoon bytes
end_spelled bytes = (found_described bytes NeedMore, end_found bytes)
