-- Each step inside an lsn keeps the texts that go on with the byte.
use Rattle.std.proofs.Common.{◌≡◌, ℕ, zero, suc, ◌+◌, ◌*◌, ◌-◌, ◌/◌, ◌^◌, ◌<◌, ◌≤◌, cond, eqb, ltb, Option, Some, None, List, [], ◌∷◌, ◌++◌, length, replicate, refl, sym, ap, subst, ◌∙◌, append_assoc, ◌⊎◌, inl, inr, arith}
use Rattle.std.specs.Fmt.{decimal}
use Rattle.std.proofs.Math.ListN.{set}
use Rattle.std.proofs.Math.Seq.{set-append_seam}
use Rattle.std.proofs.lemmas.Bool.{eqb-true, eqb-false, ltb-true, ltb-false}
use Rattle.std.proofs.lemmas.Fmt.{decimal_digit}
use Rattle.std.proofs.lemmas.List.{append-nil, length-append}
use Rattle.std.proofs.lemmas.List.Elements.{All-append, All-cons, All-nil}
use Rattle.mx_vclock.specs.declared.place.Place.{Place}
use Rattle.mx_vclock.specs.declared.place.Place.TheVariants.{Comma, Named, Lsn, Done}
use Rattle.mx_vclock.specs.Vclocks.{IsVclock, max_lsn}
use Rattle.mx_msgpack.specs.Readers.{◌>>=◌}
use Rattle.mx_vclock.specs.Places.{after_lsn, digit}
use Rattle.mx_vclock.proofs.Decimals.{IsDigit, GoesOn, begins, ends_or_goes_on, some_before, with_digit, not_below}
use Rattle.mx_vclock.proofs.Tails.{named, more, split, Blank, Split, more-zeros}
use Rattle.mx_vclock.proofs.Steps.{Taking, by_test, by_digit, one_more}
use Rattle.mx_vclock.proofs.Fitting.{Part, part_bounds, padded, Before, Stands, FitsNext, FitsNamed, FitsLsn, AfterBlank, Outcome}

-- the first digit of an lsn
named_to : (id byte : ℕ) (front clock text : List ℕ) → FitsNamed id front clock (byte ∷ text) → IsDigit byte × (48 < byte) × FitsLsn id (byte - 48) front clock text
named_to id byte front clock text f =
    let p = part_bounds front 0 f.lsn f.others clock f.part in
    let some = f.part.some in
    let most = p.most in
    let b = begins f.lsn (omega arith) in
    let behind : List ℕ = more (suc id) f.others in
    let o = one_more b.0 byte (b.1 ++ behind) text (ap (λ l. l ++ behind) (sym b.2.is) ∙ f.spelled) in
    let is_digit : IsDigit byte = subst IsDigit o.0 b.2.digit in
    let back : 48 + (byte - 48) ≡ byte = omega (arith, is_digit.0) in (
      is_digit,
      subst (λ n. 48 < n) o.0 (b.2.low some),
      record {
        lsn = f.lsn;
        others = f.others;
        digits = b.1;
        part = f.part;
        goes_on = b.2.is ∙ ap (λ n. n ∷ b.1) (o.0 ∙ sym back) ∙ ap (λ l. l ++ b.1) (sym (decimal_digit (byte - 48) (omega (arith, is_digit.1))));
        spelled = o.1;
      },
    )

named_from : (id byte : ℕ) (front clock text : List ℕ) → IsDigit byte → FitsLsn id (byte - 48) front clock text → FitsNamed id front clock (byte ∷ text)
named_from id byte front clock text is_digit f =
    let back : 48 + (byte - 48) ≡ byte = omega (arith, is_digit.0) in
    let behind : List ℕ = more (suc id) f.others in
    record {
      lsn = f.lsn;
      others = f.others;
      part = f.part;
      spelled =
          ap (λ l. l ++ behind) (f.goes_on ∙ ap (λ l. l ++ f.digits) (decimal_digit (byte - 48) (omega (arith, is_digit.1))) ∙ ap (λ n. n ∷ f.digits) back)
          ∙ ap (λ l. byte ∷ l) f.spelled;
    }

set_first : (front : List ℕ) (id lsn : ℕ) → length front ≡ id → id ≤ 31 → front ++ lsn ∷ replicate (31 - id) 0 ≡ set (front ++ replicate (32 - id) 0) id lsn
set_first front id lsn long high =
    let n : 32 - id ≡ suc (31 - id) = omega arith in
    sym (ap (λ n. set (front ++ replicate n 0) id lsn) n ∙ ap (λ n. set (front ++ 0 ∷ replicate (31 - id) 0) n lsn) (sym long) ∙ set-append_seam front 0 (replicate (31 - id) 0) lsn)

set_again : (front : List ℕ) (id old lsn : ℕ) → length front ≡ id → front ++ lsn ∷ replicate (31 - id) 0 ≡ set (front ++ old ∷ replicate (31 - id) 0) id lsn
set_again front id old lsn long = sym (ap (λ n. set (front ++ old ∷ replicate (31 - id) 0) n lsn) (sym long) ∙ set-append_seam front old (replicate (31 - id) 0) lsn)

pub named_law : (id byte : ℕ) (front : List ℕ) → Before id front → Outcome (Taking (Named id) front byte) (front ++ replicate (32 - id) 0) (cond (eqb byte 48) None (digit byte >>= λ d. Some (Lsn id d)))
named_law id byte front before = by_test O (eqb byte 48) None (digit byte >>= λ d. Some (Lsn id d))
    (λ t clock text g. let e = eqb-true byte 48 t in omega (arith, (named_to id byte front clock text g).1))
    (λ t. by_digit O byte (λ d. Some (Lsn id d))
    (λ d.
    let other = eqb-false byte 48 t in (
      front,
      set_first front id (byte - 48) before.long before.high,
      (before, omega (arith, d.0, other), omega (arith, d.1)),
      λ clock text g. (named_to id byte front clock text g).2,
      λ clock text f. named_from id byte front clock text d f,
    ))
    (λ d clock text g. d (named_to id byte front clock text g).0))
  where
    O : Option Place → Type 0
    O = Outcome (Taking (Named id) front byte) (front ++ replicate (32 - id) 0)

-- how an lsn goes on: it ends here, or has a digit more
record Ends (id number byte : ℕ) (front clock text : List ℕ) : Type 0 where
  pub others : List ℕ
  pub part : Part front 0 number others clock
  pub spelled : more (suc id) others ≡ byte ∷ text

record HasDigit (id number byte : ℕ) (front clock text : List ℕ) : Type 0 where
  pub digit : IsDigit byte
  pub most : 10 * number + (byte - 48) ≤ max_lsn
  pub fits : FitsLsn id (10 * number + (byte - 48)) front clock text

lsn_to : (id number byte : ℕ) (front clock text : List ℕ) → number ≤ max_lsn → FitsLsn id number front clock (byte ∷ text) → Ends id number byte front clock text ⊎ HasDigit id number byte front clock text
lsn_to id number byte front clock text small f = by_end (ends_or_goes_on number byte f.lsn f.digits (more (suc id) f.others) text (omega arith) (omega (arith, top)) f.goes_on f.spelled)
  where
    top : f.lsn ≤ max_lsn
    top = (part_bounds front 0 f.lsn f.others clock f.part).most

    by_end : ((f.lsn ≡ number) × (more (suc id) f.others ≡ byte ∷ text)) ⊎ ((more' : List ℕ) × IsDigit byte × GoesOn number (byte ∷ more') f.lsn × (more' ++ more (suc id) f.others ≡ text))
        → Ends id number byte front clock text ⊎ HasDigit id number byte front clock text
    by_end (inl (same, e)) = inl (record { others = f.others; part = subst (λ n. Part front 0 n f.others clock) same f.part; spelled = e })
    by_end (inr (digits, is_digit, e, spelled)) =
        let some : 0 < number = some_before number byte digits f.lsn (omega (arith, top)) e in
        let fits : 10 * number + (byte - 48) < 2 ^ 64 = omega (arith, is_digit.1) in
        let g : GoesOn (10 * number + (byte - 48)) digits f.lsn = e ∙ sym (with_digit number byte digits some is_digit fits) in
        let low = not_below (10 * number + (byte - 48)) digits f.lsn fits (omega (arith, top)) g in
        inr (record {
          digit = is_digit;
          most = omega (arith, top);
          fits = record { lsn = f.lsn; others = f.others; digits = digits; part = f.part; goes_on = g; spelled = spelled };
        })

lsn_from : (id number byte : ℕ) (front clock text : List ℕ) → 0 < number → IsDigit byte → 10 * number + (byte - 48) ≤ max_lsn → FitsLsn id (10 * number + (byte - 48)) front clock text → FitsLsn id number front clock (byte ∷ text)
lsn_from id number byte front clock text some is_digit most f = record {
  lsn = f.lsn;
  others = f.others;
  digits = byte ∷ f.digits;
  part = f.part;
  goes_on = f.goes_on ∙ with_digit number byte f.digits some is_digit (omega (arith, most));
  spelled = ap (λ l. byte ∷ l) f.spelled;
}

ends_from : (id number byte : ℕ) (front clock text : List ℕ) → Ends id number byte front clock text → FitsLsn id number front clock (byte ∷ text)
ends_from id number byte front clock text e = record {
  lsn = number;
  others = e.others;
  digits = [];
  part = e.part;
  goes_on = sym (append-nil (decimal number));
  spelled = e.spelled;
}

-- a comma after an lsn
comma_to : (id number : ℕ) (front clock text : List ℕ) → length front ≡ id → Ends id number 44 front clock text → (id < 31) × AfterBlank (FitsNext (suc id) (front ++ number ∷ []) clock) text
comma_to id number front clock text long e = by_split (split (suc id) e.others)
  where
    by_split : Blank (suc id) e.others ⊎ Split (suc id) e.others → (id < 31) × AfterBlank (FitsNext (suc id) (front ++ number ∷ []) clock) text
    by_split (inl b) = let o = one_more 125 44 [] text (sym b.as_more ∙ e.spelled) in absurd (omega (arith, o.0))
    by_split (inr s) =
        let rest : List ℕ = named (suc id + s.zeros) (suc s.lsn) (more (suc (suc id + s.zeros)) s.others) in
        let o = one_more 44 44 (32 ∷ rest) text (sym s.as_more ∙ e.spelled) in
        let part : Part (front ++ number ∷ []) s.zeros (suc s.lsn) s.others clock = record {
          sound = e.part.sound;
          is = e.part.is ∙ ap (λ l. front ++ number ∷ l) s.is ∙ sym (append_assoc front (number ∷ []) (replicate s.zeros 0 ++ suc s.lsn ∷ s.others));
          some = omega arith;
        } in
        let p = part_bounds (front ++ number ∷ []) s.zeros (suc s.lsn) s.others clock part in
        let l : length (front ++ number ∷ []) ≡ length front + 1 = length-append front (number ∷ []) in (
          omega (arith, p.id),
          (rest, o.1, record { zeros = s.zeros; lsn = suc s.lsn; others = s.others; part = part; spelled = refl }),
        )

comma_from : (id number : ℕ) (front clock text : List ℕ) → 0 < number → AfterBlank (FitsNext (suc id) (front ++ number ∷ []) clock) text → Ends id number 44 front clock text
comma_from id number front clock text some (rest, e, f) = by_lsn f.lsn f.part f.spelled
  where
    by_lsn : (lsn : ℕ) → Part (front ++ number ∷ []) f.zeros lsn f.others clock → named (suc id + f.zeros) lsn (more (suc (suc id + f.zeros)) f.others) ≡ rest → Ends id number 44 front clock text
    by_lsn zero part spelled = let s = part.some in absurd (omega arith)
    by_lsn (suc lsn) part spelled = record {
      others = replicate f.zeros 0 ++ suc lsn ∷ f.others;
      part = record {
        sound = part.sound;
        is = part.is ∙ append_assoc front (number ∷ []) (replicate f.zeros 0 ++ suc lsn ∷ f.others);
        some = some;
      };
      spelled = more-zeros f.zeros (suc id) (suc lsn ∷ f.others) ∙ ap (λ l. 44 ∷ 32 ∷ l) spelled ∙ ap (λ l. 44 ∷ l) e;
    }

-- the end after an lsn
end_to : (id number : ℕ) (front clock text : List ℕ) → length front ≡ id → Ends id number 125 front clock text → IsVclock clock × (clock ≡ front ++ number ∷ replicate (31 - id) 0) × ([] ≡ text)
end_to id number front clock text long e = by_split (split (suc id) e.others)
  where
    by_split : Blank (suc id) e.others ⊎ Split (suc id) e.others → IsVclock clock × (clock ≡ front ++ number ∷ replicate (31 - id) 0) × ([] ≡ text)
    by_split (inl b) =
        let p = part_bounds front 0 number e.others clock e.part in
        let l : length e.others ≡ 31 - id = omega (arith, p.long) in (
          e.part.sound,
          e.part.is ∙ ap (λ k. front ++ number ∷ k) (b.is ∙ ap (λ n. replicate n 0) l),
          (one_more 125 125 [] text (sym b.as_more ∙ e.spelled)).1,
        )
    by_split (inr s) =
        let o = one_more 44 125 (32 ∷ named (suc id + s.zeros) (suc s.lsn) (more (suc (suc id + s.zeros)) s.others)) text (sym s.as_more ∙ e.spelled) in
        absurd (omega (arith, o.0))

more_none : (id zeros : ℕ) → more id (replicate zeros 0) ≡ 125 ∷ []
more_none id zero = refl
more_none id (suc zeros) = more_none (suc id) zeros

end_from : (id number : ℕ) (front clock text : List ℕ) → 0 < number → IsVclock clock × (clock ≡ front ++ number ∷ replicate (31 - id) 0) × ([] ≡ text) → Ends id number 125 front clock text
end_from id number front clock text some (sound, same, empty) = record {
  others = replicate (31 - id) 0;
  part = record { sound = sound; is = same; some = some };
  spelled = more_none (suc id) (31 - id) ∙ ap (λ l. 125 ∷ l) empty;
}

whole : (id number : ℕ) (front : List ℕ) → Before id front → 0 < number → number ≤ max_lsn → IsVclock (front ++ number ∷ replicate (31 - id) 0)
whole id number front before some most =
    let l = before.long in
    let h = before.high in
    let n : 31 - (length front + 0) ≡ 31 - id = omega arith in
    subst (λ k. IsVclock (front ++ number ∷ replicate k 0)) n (padded front 0 number before.bounded (omega arith) some most).sound

not_digit : (id number byte : ℕ) (front clock text : List ℕ) → number ≤ max_lsn → (IsDigit byte → ⊥) → FitsLsn id number front clock (byte ∷ text) → Ends id number byte front clock text
not_digit id number byte front clock text small other f = by_end (lsn_to id number byte front clock text small f)
  where
    by_end : Ends id number byte front clock text ⊎ HasDigit id number byte front clock text → Ends id number byte front clock text
    by_end (inl e) = e
    by_end (inr h) = absurd (other h.digit)

-- what ends an lsn
more_ends : (id byte : ℕ) (others text : List ℕ) → more id others ≡ byte ∷ text → (byte ≡ 44) ⊎ (byte ≡ 125)
more_ends id byte others text e = by_split (split id others)
  where
    by_split : Blank id others ⊎ Split id others → (byte ≡ 44) ⊎ (byte ≡ 125)
    by_split (inl b) = inr (sym (one_more 125 byte [] text (sym b.as_more ∙ e)).0)
    by_split (inr s) = inl (sym (one_more 44 byte (32 ∷ named (id + s.zeros) (suc s.lsn) (more (suc (id + s.zeros)) s.others)) text (sym s.as_more ∙ e)).0)

not_end : (id number byte : ℕ) (front clock text : List ℕ) → number ≤ max_lsn → (byte ≡ 44 → ⊥) → (byte ≡ 125 → ⊥) → FitsLsn id number front clock (byte ∷ text) → HasDigit id number byte front clock text
not_end id number byte front clock text small comma end f = by_end (lsn_to id number byte front clock text small f)
  where
    by_end : Ends id number byte front clock text ⊎ HasDigit id number byte front clock text → HasDigit id number byte front clock text
    by_end (inl e) = by_mark (more_ends (suc id) byte e.others text e.spelled)
      where
        by_mark : (byte ≡ 44) ⊎ (byte ≡ 125) → HasDigit id number byte front clock text
        by_mark (inl c) = absurd (comma c)
        by_mark (inr c) = absurd (end c)
    by_end (inr h) = h

pub lsn_law : (id number byte : ℕ) (front : List ℕ) → Stands (Lsn id number) front → Outcome (Taking (Lsn id number) front byte) (front ++ number ∷ replicate (31 - id) 0) (after_lsn id number byte)
lsn_law id number byte front (before, some, most) = by_test O (eqb byte 44) (cond (ltb id 31) (Some (Comma (id + 1))) None) (cond (eqb byte 125) (Some Done) (digit byte >>= longer))
    (λ t.
    let is = eqb-true byte 44 t in
    let to : (clock text : List ℕ) → FitsLsn id number front clock (byte ∷ text) → (id < 31) × AfterBlank (FitsNext (suc id) (front ++ number ∷ []) clock) text =
    λ clock text g. comma_to id number front clock text before.long (not_digit id number 44 front clock text most (λ d. omega (arith, d.0)) (subst (λ n. FitsLsn id number front clock (n ∷ text)) is g)) in
    by_test O (ltb id 31) (Some (Comma (id + 1))) None
    (λ u.
    let low = ltb-true id 31 u in
    let next : suc id ≡ id + 1 = omega arith in
    let l : length (front ++ number ∷ []) ≡ length front + 1 = length-append front (number ∷ []) in
    let long : length front ≡ id = before.long in
    let n : 32 - (id + 1) ≡ 31 - id = omega arith in (
      front ++ number ∷ [],
      append_assoc front (number ∷ []) (replicate (32 - (id + 1)) 0) ∙ ap (λ k. front ++ number ∷ replicate k 0) n,
      record {
        long = omega arith;
        high = omega arith;
        bounded = All-append (λ n. n ≤ max_lsn) front (number ∷ []) before.bounded (All-cons (λ n. n ≤ max_lsn) number [] most (All-nil (λ n. n ≤ max_lsn)));
      },
      λ clock text g. subst (λ n. AfterBlank (FitsNext n (front ++ number ∷ []) clock) text) next (to clock text g).1,
      λ clock text f.
          subst (λ n. FitsLsn id number front clock (n ∷ text)) (sym is)
          (ends_from id number 44 front clock text (comma_from id number front clock text some (subst (λ n. AfterBlank (FitsNext n (front ++ number ∷ []) clock) text) (sym next) f))),
    ))
    (λ u clock text g. let high = ltb-false id 31 u in omega (arith, (to clock text g).0)))
    (λ t. by_test O (eqb byte 125) (Some Done) (digit byte >>= longer)
    (λ u.
    let is = eqb-true byte 125 u in (
      front ++ number ∷ replicate (31 - id) 0,
      refl,
      whole id number front before some most,
      λ clock text g. end_to id number front clock text before.long (not_digit id number 125 front clock text most (λ d. omega (arith, d.1)) (subst (λ n. FitsLsn id number front clock (n ∷ text)) is g)),
      λ clock text f. subst (λ n. FitsLsn id number front clock (n ∷ text)) (sym is) (ends_from id number 125 front clock text (end_from id number front clock text some f)),
    ))
    (λ u.
    let to : (clock text : List ℕ) → FitsLsn id number front clock (byte ∷ text) → HasDigit id number byte front clock text =
    λ clock text g. not_end id number byte front clock text most (eqb-false byte 44 t) (eqb-false byte 125 u) g in
    by_digit O byte longer
    (λ d. by_test O (ltb (max_lsn / 10) number) None (cond (ltb max_lsn (10 * number + (byte - 48))) None (Some (Lsn id (10 * number + (byte - 48)))))
    (λ v clock text g. let w = ltb-true (max_lsn / 10) number v in omega (arith, (to clock text g).most))
    (λ v. by_test O (ltb max_lsn (10 * number + (byte - 48))) None (Some (Lsn id (10 * number + (byte - 48))))
    (λ x clock text g. let w = ltb-true max_lsn (10 * number + (byte - 48)) x in omega (arith, (to clock text g).most))
    (λ x.
    let fits : 10 * number + (byte - 48) ≤ max_lsn = ltb-false max_lsn (10 * number + (byte - 48)) x in (
      front,
      set_again front id number (10 * number + (byte - 48)) before.long,
      (before, omega arith, fits),
      λ clock text g. (to clock text g).fits,
      λ clock text f. lsn_from id number byte front clock text some d fits f,
    ))))
    (λ d clock text g. d (to clock text g).digit)))
  where
    O : Option Place → Type 0
    O = Outcome (Taking (Lsn id number) front byte) (front ++ number ∷ replicate (31 - id) 0)

    longer : ℕ → Option Place
    longer = λ d. cond (ltb (max_lsn / 10) number) None (cond (ltb max_lsn (10 * number + d)) None (Some (Lsn id (10 * number + d))))
