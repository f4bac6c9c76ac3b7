-- Completions of a number in so many bytes and of what it counts behind it.
use Rattle.std.proofs.Common.{◌≡◌, inl, inr, ℕ, zero, suc, ◌+◌, ◌-◌, ◌*◌, ◌^◌, ◌≤◌, ◌<◌, List, [], ◌∷◌, ◌++◌, length, replicate, take, drop, slice_index, refl, sym, ap, ◌∙◌, subst, append_assoc, arith}
use Rattle.std.proofs.lemmas.Bool.{cases_lt}
use Rattle.std.proofs.lemmas.List.{get_or-replicate, get_or_past, take_at, take-append-le, take-append-drop, length-append, length-replicate, length-take}
use Rattle.std.proofs.Math.Nat.{mul-le-mul_right}
use Rattle.byteorder.specs.Endian.{big_from, big_number}
use Rattle.byteorder.specs.Numbers.{big_from-take}
use Rattle.mx_msgpack.specs.Grammar.{max_length}
use Rattle.mx_msgpack.specs.Spelling.{AreBytes}
use Rattle.mx_completion.specs.declared.completion.Completion.{Completion}
use Rattle.mx_completion.specs.declared.completion.Completion.TheVariants.{Whole, Missing, Impossible}
use Rattle.mx_completion.specs.Completions.{Completes}
use Rattle.mx_completion.specs.Sequences.{InTurn, longer}
use Rattle.mx_completion.proofs.SequenceLaws.{HasLeast, completes_here, whole_first}
use Rattle.mx_completion.proofs.ByteLaws.{behind_bytes, bytes-append}

-- ---- a number whose last bytes are missing

digit_grows : (xs ys : List ℕ) (i : ℕ) → slice_index xs i ≤ slice_index (xs ++ ys) i
digit_grows [] ys i = omega arith
digit_grows (x ∷ xs) ys zero = omega arith
digit_grows (x ∷ xs) ys (suc i) = digit_grows xs ys i

number_grows : (i width : ℕ) (xs ys : List ℕ) → big_from i width xs ≤ big_from i width (xs ++ ys)
number_grows i zero xs ys = omega arith
number_grows i (suc width) xs ys =
    let first : slice_index xs i * 256 ^ width ≤ slice_index (xs ++ ys) i * 256 ^ width = mul-le-mul_right (256 ^ width) (digit_grows xs ys i) in
    let others = number_grows (suc i) width xs ys in
    omega arith

zeros : (count i : ℕ) → slice_index (replicate count 0) i ≡ 0
zeros count i =
    elim (cases_lt i count) [
      | inl low ↦ get_or-replicate count i 0 0 low
      | inr high ↦ get_or_past (replicate count 0) i 0 (omega (arith, length-replicate {A = ℕ} count 0))
    ]

digit_padded : (xs : List ℕ) (count i : ℕ) → slice_index (xs ++ replicate count 0) i ≡ slice_index xs i
digit_padded [] count i = zeros count i
digit_padded (x ∷ xs) count zero = refl
digit_padded (x ∷ xs) count (suc i) = digit_padded xs count i

pub number_padded : (i width : ℕ) (xs : List ℕ) (count : ℕ) → big_from i width (xs ++ replicate count 0) ≡ big_from i width xs
number_padded i zero xs count = refl
number_padded i (suc width) xs count = rw (digit_padded xs count i, number_padded (suc i) width xs count) refl

-- what stands behind the number is no part of it
number_before : (width : ℕ) (digits rest : List ℕ) → length digits ≡ width → big_number width (digits ++ rest) ≡ big_number width digits
number_before width digits rest len =
    sym (big_from-take 0 width width (digits ++ rest) (omega arith)) ∙ ap (big_number width) (take_at digits rest width len)

pub zeros-bytes : (count : ℕ) → AreBytes (replicate count 0)
zeros-bytes count i = omega (arith, zeros count i)

-- ---- a number and what it counts

-- the number in so many bytes, from a base on, and what it counts
abbrev pub Numbered : (width base : ℕ) → (Inside : ℕ → List ℕ → Type 0) → List ℕ → Type 0
Numbered width base Inside bytes =
    (digits content : List ℕ) × (bytes ≡ digits ++ content) × (length digits ≡ width) × (base + big_number width digits ≤ max_length)
    × Inside (base + big_number width digits) content

module _ (width base : ℕ) (Inside : ℕ → List ℕ → Type 0) (bytes : List ℕ) where
  abbrev size : ℕ
  size = base + big_number width bytes

  -- the number of a spelling is no less than that of the bytes
  no_less : (missing spelling rest digits content : List ℕ) → bytes ++ missing ≡ spelling ++ rest → spelling ≡ digits ++ content → length digits ≡ width → size ≤ base + big_number width digits
  no_less missing spelling rest digits content e parts len =
      let whole : bytes ++ missing ≡ digits ++ (content ++ rest) = e ∙ ap (λ (l : List ℕ). l ++ rest) parts ∙ append_assoc digits content rest in
      let same : big_number width (bytes ++ missing) ≡ big_number width digits = ap (big_number width) whole ∙ number_before width digits (content ++ rest) len in
      omega (arith, number_grows 0 width bytes missing)

  pub number_large : max_length < size → Completes (Numbered width base Inside) bytes Impossible
  number_large large = record { stands = tt; allows = allows }
    where
      allows : (missing spelling rest : List ℕ) → AreBytes missing → bytes ++ missing ≡ spelling ++ rest → Numbered width base Inside spelling → ⊥
      allows missing spelling rest each e (digits, content, parts, len, few, s) = omega (arith, no_less missing spelling rest digits content e parts len)

  pub number_cut : (least : ℕ → ℕ) → ((number : ℕ) → HasLeast (Inside number) (least number)) → ((one other : ℕ) → one ≤ other → least one ≤ least other) → size ≤ max_length
      → length bytes < width → Completes (Numbered width base Inside) bytes (Missing (width - length bytes + least size))
  number_cut least has grows few short = record { stands = stands; allows = allows }
    where
      stands : (1 ≤ width - length bytes + least size) × (missing : List ℕ) × AreBytes missing × (length missing ≡ width - length bytes + least size) × Numbered width base Inside (bytes ++ missing)
      stands =
          let pad : List ℕ = replicate (width - length bytes) 0 in
          let many : length pad ≡ width - length bytes = length-replicate (width - length bytes) 0 in
          let content = (has size).shortest in
          let same : big_number width (bytes ++ pad) ≡ big_number width bytes = number_padded 0 width bytes (width - length bytes) in
          let number : size ≡ base + big_number width (bytes ++ pad) = omega arith in (
            omega arith,
            pad ++ content,
            bytes-append pad content (zeros-bytes (width - length bytes)) (has size).bytes,
            omega (arith, length-append pad content, (has size).size),
            (bytes ++ pad, content, sym (append_assoc bytes pad content), omega (arith, length-append bytes pad), omega arith, subst (λ (n : ℕ). Inside n content) number (has size).spelled),
          )

      allows : (missing spelling rest : List ℕ) → AreBytes missing → bytes ++ missing ≡ spelling ++ rest → Numbered width base Inside spelling → length bytes + (width - length bytes + least size) ≤ length spelling
      allows missing spelling rest each e (digits, content, parts, len, fits, s) =
          let whole : bytes ++ missing ≡ digits ++ (content ++ rest) = e ∙ ap (λ (l : List ℕ). l ++ rest) parts ∙ append_assoc digits content rest in
          let number = base + big_number width digits in
          let inside : least number ≤ length content = (has number).bound content (behind_bytes bytes missing digits content rest whole (omega arith) each) s in
          let more : least size ≤ least number = grows size number (no_less missing spelling rest digits content e parts len) in
          omega (arith, ap length parts, length-append digits content)

  -- its digits
  abbrev IsThis : List ℕ → Type 0
  IsThis digits = (length digits ≡ width) × (base + big_number width digits ≡ size)

  module _ (long : width ≤ length bytes) where
    these : (missing digits rest : List ℕ) → bytes ++ missing ≡ digits ++ rest → length digits ≡ width → digits ≡ take width bytes
    these missing digits rest e len = sym (take_at digits rest width len) ∙ ap (take width) (sym e) ∙ take-append-le width bytes missing long

    these_number : (digits : List ℕ) → digits ≡ take width bytes → length digits ≡ width → base + big_number width digits ≡ size
    these_number digits e len =
        let parts : bytes ≡ digits ++ drop width bytes = sym (take-append-drop width bytes) ∙ ap (λ (l : List ℕ). l ++ drop width bytes) (sym e) in
        ap (λ (n : ℕ). base + n) (sym (ap (big_number width) parts ∙ number_before width digits (drop width bytes) len))

    digits_whole : Completes IsThis bytes (Whole width)
    digits_whole = record { stands = (long, (len, these_number (take width bytes) refl len)); allows = λ missing spelling rest each e s. these missing spelling rest e s.0 }
      where
        len : length (take width bytes) ≡ width
        len = omega (arith, length-take width bytes)

    pub number_whole : size ≤ max_length → (completion : Completion) → Completes (Inside size) (drop width bytes) completion → Completes (Numbered width base Inside) bytes (longer width completion)
    number_whole few completion c =
        completes_here (InTurn IsThis (Inside size)) (Numbered width base Inside) bytes (longer width completion) to from
        (whole_first IsThis (Inside size) bytes width digits_whole completion c)
      where
        to : (l : List ℕ) → InTurn IsThis (Inside size) l → Numbered width base Inside l
        to l (digits, content, parts, (len, number), s) = (digits, content, parts, len, omega arith, subst (λ (n : ℕ). Inside n content) (sym number) s)

        from : (missing spelling rest : List ℕ) → bytes ++ missing ≡ spelling ++ rest → Numbered width base Inside spelling → InTurn IsThis (Inside size) spelling
        from missing spelling rest e (digits, content, parts, len, fits, s) =
            let whole : bytes ++ missing ≡ digits ++ (content ++ rest) = e ∙ ap (λ (l : List ℕ). l ++ rest) parts ∙ append_assoc digits content rest in
            let number = these_number digits (these missing digits (content ++ rest) whole len) len in
            (digits, content, parts, (len, number), subst (λ (n : ℕ). Inside n content) number s)
