-- What the fields of a header say of it, and which header has them.
use Rattle.std.proofs.Common.{◌≡◌, ℕ, suc, ◌-◌, ◌≤◌, Bool, true, false, List, [], ◌∷◌, Option, Some, None, refl, sym, ap, ◌∙◌, subst, arith}
use Rattle.std.specs.Prelude.{⊤, ◌==◌, ◌&&◌, nat_le, if◌then◌else◌}
use Rattle.std.proofs.lemmas.Bool.{and_parts, eqb-true, eq-eqb, leb-true, le-leb, ne_eqb}
use Rattle.mx_msgpack.specs.Maps.{Pair, value_under}
use Rattle.mx_msgpack.specs.Readers.{unsigned_in}
use Rattle.mx_msgpack.proofs.Options.{allowed, bind_some, passed, same_some}
use Rattle.mx_base.specs.Keys.{type_key, replica_key, lsn_key, row_number_key, is_last_key}
use Rattle.mx_request.specs.Values.{number_to}
use Rattle.mx_vclock.specs.Vclocks.{max_lsn}
use Rattle.mx_completion.specs.declared.field.Field.{Field}
use Rattle.mx_completion.specs.declared.field.Form.TheVariants.{Absent, Number}
use Rattle.mx_completion.specs.Costs.{cost_of, cost_unless_one, cost_within, total_cost}
use Rattle.mx_row.specs.declared.header.Header.{Header}
use Rattle.mx_row.specs.declared.header.Place.{Place}
use Rattle.mx_row.specs.declared.header.Place.TheVariants.{Alone, Numbered}
use Rattle.mx_row.specs.declared.progress.Progress.{Progress}
use Rattle.mx_row.specs.Cuts.{may_follow}
use Rattle.mx_row.specs.Rows.{ends_transaction, header_in, is_number, row_number, row_place_by}
use Rattle.mx_row.specs.Stops.{IsNumbered, IsNumberedBy, header_fields, last_form, lowest_lsn, lowest_replica, highest_lsn, highest_replica, place_fields}
use Rattle.mx_row.specs.Values.{lsn_in, value_held}
use Rattle.mx_row.proofs.BehindLaws.{next_is}
use Rattle.mx_row.proofs.ReadLaws.{header_from, header_parts, held_some, lsn_parts}

-- ---- numbers

pub within_costs : (least most number : ℕ) (value : Option (List ℕ)) → value_held unsigned_in value ≡ Some number → least ≤ number → number ≤ most
    → cost_of (Number least most) value ≡ Some 0
within_costs least most number None e low high = absurd cc
within_costs least most number (Some value) e low high = rw (e, le-leb _ _ low, le-leb _ _ high) refl

pub costs_within : (least most cost : ℕ) (value : Option (List ℕ)) → cost_of (Number least most) value ≡ Some cost
    → (number : ℕ) × (value_held unsigned_in value ≡ Some number) × (least ≤ number) × (number ≤ most) × (cost ≡ 0)
costs_within least most cost None e = absurd cc
costs_within least most cost (Some value) e = by_number (unsigned_in value) refl e
  where
    by_number : (found : Option ℕ) → unsigned_in value ≡ found → cost_within least most found ≡ Some cost
        → (number : ℕ) × (unsigned_in value ≡ Some number) × (least ≤ number) × (number ≤ most) × (cost ≡ 0)
    by_number None is e = absurd cc
    by_number (Some number) is e =
        let a = allowed (nat_le least number && nat_le number most) (Some 0) cost e in
        let b = and_parts _ _ a.0 in
        (number, is, leb-true _ _ b.0, leb-true _ _ b.1, sym (same_some 0 cost a.1))

pub number_held : (most number : ℕ) (value : Option (List ℕ)) → value_held unsigned_in value ≡ Some number → number ≤ most → value_held (number_to most) value ≡ Some number
number_held most number None e high = absurd cc
number_held most number (Some value) e high = rw (e, le-leb _ _ high) refl

pub held_number : (most number : ℕ) (value : Option (List ℕ)) → value_held (number_to most) value ≡ Some number → (value_held unsigned_in value ≡ Some number) × (number ≤ most)
held_number most number None e = absurd cc
held_number most number (Some value) e =
    let b = bind_some (unsigned_in value) (λ n. if nat_le n most then Some n else None) number e in
    let t = allowed (nat_le b.0 most) (Some b.0) number b.2 in
    (b.1 ∙ t.1, subst (λ (n : ℕ). n ≤ most) (same_some b.0 number t.1) (leb-true b.0 most t.0))

lsn_held : (number : ℕ) (value : Option (List ℕ)) → value_held unsigned_in value ≡ Some number → 1 ≤ number → number ≤ max_lsn → value_held lsn_in value ≡ Some number
lsn_held number None e some most = absurd cc
lsn_held number (Some value) e some most = rw (e, le-leb _ _ most, ne_eqb number 0 (λ z. omega (arith, z, some))) refl

held_lsn : (number : ℕ) (value : Option (List ℕ)) → value_held lsn_in value ≡ Some number → (value_held unsigned_in value ≡ Some number) × (1 ≤ number) × (number ≤ max_lsn)
held_lsn number value e =
    let h = held_some lsn_in value number e in
    let p = lsn_parts h.0 number h.2 in
    (ap (value_held unsigned_in) h.1 ∙ p.0, p.1, p.2)

-- ---- the place

-- what says that a row is the last one, or isn't
last_costs : (value : Option (List ℕ)) → cost_of (last_form (is_number 1 (value_held unsigned_in value))) value ≡ Some 0
last_costs None = refl
last_costs (Some value) = by_number (unsigned_in value) refl
  where
    by_test : (number : ℕ) → unsigned_in value ≡ Some number → (one : Bool) → (number == 1) ≡ one → cost_of (last_form (number == 1)) (Some value) ≡ Some 0
    by_test number is true one = let n = eqb-true number 1 one in rw (one, is, n) refl
    by_test number is false one = rw (one, is, one) refl

    by_number : (found : Option ℕ) → unsigned_in value ≡ found → cost_of (last_form (is_number 1 found)) (Some value) ≡ Some 0
    by_number None is = rw is refl
    by_number (Some number) is = by_test number is (number == 1) refl

costs_last : (is_last : Bool) (value : Option (List ℕ)) (cost : ℕ) → cost_of (last_form is_last) value ≡ Some cost → is_number 1 (value_held unsigned_in value) ≡ is_last
costs_last true value cost e =
    let w = costs_within 1 1 cost value e in
    let one : w.0 ≡ 1 = let low = w.2 in let high = w.3 in omega (arith, low, high) in
    rw (w.1, one) refl
costs_last false None cost e = refl
costs_last false (Some value) cost e = by_number (unsigned_in value) refl e
  where
    by_number : (found : Option ℕ) → unsigned_in value ≡ found → cost_unless_one found ≡ Some cost → is_number 1 found ≡ false
    by_number None is e = refl
    by_number (Some number) is e = (passed (number == 1) (Some 0) cost e).0

-- ---- totals

-- every field costs nothing
abbrev pub CostNothing : List Field → List Pair → Type 0
CostNothing [] pairs = ⊤
CostNothing (field ∷ fields) pairs = (cost_of field.form (value_under field.key pairs) ≡ Some 0) × CostNothing fields pairs

pub total_nothing : (fields : List Field) (pairs : List Pair) → CostNothing fields pairs → total_cost fields pairs ≡ Some 0
total_nothing [] pairs none = refl
total_nothing (field ∷ fields) pairs (none, others) = rw (none, total_nothing fields pairs others) refl

-- every field costs something
abbrev pub CostSome : List Field → List Pair → Type 0
CostSome [] pairs = ⊤
CostSome (field ∷ fields) pairs = ((cost : ℕ) × (cost_of field.form (value_under field.key pairs) ≡ Some cost)) × CostSome fields pairs

pub total_some : (fields : List Field) (pairs : List Pair) (cost : ℕ) → total_cost fields pairs ≡ Some cost → CostSome fields pairs
total_some [] pairs cost e = tt
total_some (field ∷ fields) pairs cost e =
    let a = bind_some (cost_of field.form (value_under field.key pairs)) _ cost e in
    let b = bind_some (total_cost fields pairs) _ cost a.2 in
    ((a.0, a.1), total_some fields pairs b.0 b.1)

-- ---- the header

-- a header that a further row may have
pub record IsNextHeader (rows : Progress) (header : Header) : Type 0 where
  pub follows : may_follow rows.last header ≡ true
  pub low : 1 ≤ header.lsn.0
  pub high : header.lsn.0 ≤ (if ends_transaction header.place then max_lsn else max_lsn - 1)
  pub replica : header.replica.0 ≤ 31

replica_within : (last : Option Header) (header : Header) → may_follow last header ≡ true → header.replica.0 ≤ 31 → (lowest_replica last ≤ header.replica.0) × (header.replica.0 ≤ highest_replica last)
replica_within None header on few = (omega arith, few)
replica_within (Some last) header on few = let n = (next_is last header on).0 in (omega (arith, n), omega (arith, n))

lsn_within : (last : Option Header) (ends : Bool) (header : Header) → may_follow last header ≡ true → 1 ≤ header.lsn.0
    → header.lsn.0 ≤ (if ends then max_lsn else max_lsn - 1) → (lowest_lsn last ≤ header.lsn.0) × (header.lsn.0 ≤ highest_lsn ends last)
lsn_within None ends header on low high = (low, high)
lsn_within (Some last) ends header on low high = let n = (next_is last header on).1 in (omega (arith, n), omega (arith, n, high))

place_costs : (place : Place) (row_number is_last : Option (List ℕ)) → row_place_by row_number is_last ≡ Some place → (pairs : List Pair) → value_under row_number_key pairs ≡ row_number
    → value_under is_last_key pairs ≡ is_last → CostNothing (place_fields place) pairs
place_costs place None is_last e pairs none last =
    subst (λ (p : Place). CostNothing (place_fields p) pairs) (same_some Alone place e) (ap (cost_of Absent) none, tt)
place_costs place (Some value) is_last e pairs some last =
    let n = bind_some (unsigned_in value) (λ number. Some (Numbered number (is_number 1 (value_held unsigned_in is_last)))) place e in
    subst (λ (p : Place). CostNothing (place_fields p) pairs) (same_some (Numbered n.0 (is_number 1 (value_held unsigned_in is_last))) place n.2) (
      within_costs n.0 n.0 n.0 (value_under row_number_key pairs) (ap (value_held unsigned_in) some ∙ n.1) (omega arith) (omega arith),
      (ap (cost_of (last_form (is_number 1 (value_held unsigned_in is_last)))) last ∙ last_costs is_last, tt),
    )

pub header_costs : (rows : Progress) (header : Header) (pairs : List Pair) → header_in pairs ≡ Some header → IsNextHeader rows header
    → total_cost (header_fields rows header.kind header.place) pairs ≡ Some 0
header_costs rows header pairs e next =
    let p = header_parts _ _ _ _ _ header e in
    let id = held_number 31 header.replica.0 (value_under replica_key pairs) p.replica_is in
    let lsn = held_lsn header.lsn.0 (value_under lsn_key pairs) p.lsn_is in
    let ids = replica_within rows.last header next.follows id.1 in
    let lsns = lsn_within rows.last (ends_transaction header.place) header next.follows lsn.1 next.high in
    total_nothing (header_fields rows header.kind header.place) pairs (
      within_costs header.kind header.kind header.kind (value_under type_key pairs) p.kind (omega arith) (omega arith),
      (
        within_costs (lowest_replica rows.last) (highest_replica rows.last) header.replica.0 (value_under replica_key pairs) id.0 ids.0 ids.1,
        (
          within_costs (lowest_lsn rows.last) (highest_lsn (ends_transaction header.place) rows.last) header.lsn.0 (value_under lsn_key pairs) lsn.0 lsns.0 lsns.1,
          place_costs header.place (value_under row_number_key pairs) (value_under is_last_key pairs) p.place_is pairs refl refl,
        ),
      ),
    )

-- the place that the fields of a place say
costs_place : (place : Place) (pairs : List Pair) → CostSome (place_fields place) pairs → row_place_by (value_under row_number_key pairs) (value_under is_last_key pairs) ≡ Some place
costs_place Alone pairs ((cost, e), rest) = none (value_under row_number_key pairs) e
  where
    none : (value : Option (List ℕ)) → cost_of Absent value ≡ Some cost → row_place_by value (value_under is_last_key pairs) ≡ Some Alone
    none None e = refl
    none (Some value) e = absurd cc
costs_place (Numbered number is_last) pairs ((cost, e), ((other, f), rest)) =
    let w = costs_within number number cost (value_under row_number_key pairs) e in
    let same : w.0 ≡ number = let low = w.2 in let high = w.3 in omega (arith, low, high) in
    let held = held_some unsigned_in (value_under row_number_key pairs) w.0 w.1 in
    let last = costs_last is_last (value_under is_last_key pairs) other f in
    rw (held.1, held.2, last, same) refl

replica_from : (last : Option Header) (count replica : ℕ) → IsNumberedBy count last → lowest_replica last ≤ replica → replica ≤ highest_replica last → replica ≤ 31
replica_from None count replica numbered low high = high
replica_from (Some last) count replica numbered low high = let few = numbered.1 in omega (arith, few, high)

lsn_from : (last : Option Header) (ends : Bool) (lsn : ℕ) → lowest_lsn last ≤ lsn → lsn ≤ highest_lsn ends last → (1 ≤ lsn) × (lsn ≤ (if ends then max_lsn else max_lsn - 1))
lsn_from None ends lsn low high = (low, high)
lsn_from (Some last) ends lsn low high = (omega (arith, low), omega (arith, high))

at_most : (ends : Bool) (lsn : ℕ) → lsn ≤ (if ends then max_lsn else max_lsn - 1) → lsn ≤ max_lsn
at_most true lsn high = high
at_most false lsn high = omega (arith, high)

follows_from : (last : Option Header) (count : ℕ) (ends : Bool) (header : Header) → IsNumberedBy count last → row_number header.place ≡ count → lowest_replica last ≤ header.replica.0
    → header.replica.0 ≤ highest_replica last → lowest_lsn last ≤ header.lsn.0 → header.lsn.0 ≤ highest_lsn ends last → may_follow last header ≡ true
follows_from None count ends header numbered number a b c d = eq-eqb (row_number header.place) 0 (number ∙ numbered)
follows_from (Some last) count ends header numbered number a b c d =
    let replica : header.replica.0 ≡ last.replica.0 = omega (arith, a, b) in
    let lsn : header.lsn.0 ≡ suc last.lsn.0 = omega (arith, c, d) in
    rw (eq-eqb _ _ replica, eq-eqb _ _ lsn, eq-eqb _ _ (number ∙ numbered.0)) refl

pub costs_header : (rows : Progress) (kind : ℕ) (place : Place) (pairs : List Pair) (cost : ℕ) → IsNumbered rows → row_number place ≡ rows.count
    → total_cost (header_fields rows kind place) pairs ≡ Some cost
    → (header : Header) × (header_in pairs ≡ Some header) × IsNextHeader rows header × (header.kind ≡ kind) × (header.place ≡ place)
costs_header rows kind place pairs cost numbered number e =
    let (first, (replica, (lsn, others))) = total_some (header_fields rows kind place) pairs cost e in
    let k = costs_within kind kind first.0 (value_under type_key pairs) first.1 in
    let r = costs_within (lowest_replica rows.last) (highest_replica rows.last) replica.0 (value_under replica_key pairs) replica.1 in
    let l = costs_within (lowest_lsn rows.last) (highest_lsn (ends_transaction place) rows.last) lsn.0 (value_under lsn_key pairs) lsn.1 in
    let ends = ends_transaction place in
    let same : k.0 ≡ kind = let low = k.2 in let high = k.3 in omega (arith, low, high) in
    let id = replica_from rows.last rows.count r.0 numbered r.2 r.3 in
    let lsns = lsn_from rows.last ends l.0 l.2 l.3 in
    let header : Header = record { kind = kind; replica = record { 0 = r.0 }; lsn = record { 0 = l.0 }; place = place } in (
      header,
      header_from (value_under type_key pairs) (value_under replica_key pairs) (value_under lsn_key pairs) (value_under row_number_key pairs) (value_under is_last_key pairs) header
          (record {
            kind = k.1 ∙ ap (λ (n : ℕ). Some n) same;
            replica_is = number_held 31 r.0 (value_under replica_key pairs) r.1 id;
            lsn_is = lsn_held l.0 (value_under lsn_key pairs) l.1 lsns.0 (at_most ends l.0 lsns.1);
            place_is = costs_place place pairs others;
          }),
      record { follows = follows_from rows.last rows.count ends header numbered number r.2 r.3 l.2 l.3; low = lsns.0; high = lsns.1; replica = id },
      refl,
      refl,
    )
