-- What one unit more brings to its connection: bytes, jobs, and perhaps the end.
use Rattle.std.proofs.Common.{◌≡◌, ◌≢◌, ℕ, Bool, true, false, List, [], ◌∷◌, ◌++◌, length, refl, sym, ap, ◌∙◌, arith}
use Rattle.std.specs.Prelude.{not, ◌&&◌, if◌then◌else◌}
use Rattle.std.proofs.lemmas.Bool.{eq-eqb, ne_eqb}
use Rattle.std.proofs.lemmas.List.{append-nil, drop_at, drop_all}
use Rattle.mx_frame.specs.Packets.{rest_of}
use Rattle.mx_session.specs.Jobs.{jobs_of, ends}
use Rattle.mx_session.proofs.JobLaws.{nothing_after_the_end, in_pieces}
use Rattle.mx_node.specs.Inputs.{InputUnit, Bytes, Close, connection_of}
use Rattle.mx_node.specs.Connections.{came_after, came_from, came_on, gained, jobs_by, is_ended_by}
use Rattle.mx_link.proofs.PieceLaws.{ends-piece}

-- ---- one unit more

came_from-push : (connection : ℕ) (came : List ℕ) (units : List InputUnit) (unit : InputUnit)
    → came_from connection came (units ++ unit ∷ []) ≡ came_after connection (came_from connection came units) unit
came_from-push connection came [] unit = refl
came_from-push connection came (first ∷ units) unit = came_from-push connection (came_after connection came first) units unit

pub came_on-push : (connection : ℕ) (units : List InputUnit) (unit : InputUnit)
    → came_on connection (units ++ unit ∷ []) ≡ came_after connection (came_on connection units) unit
came_on-push connection units unit = came_from-push connection [] units unit

pub came_elsewhere : (unit : InputUnit) (connection : ℕ) (came : List ℕ) → connection ≢ connection_of unit → came_after connection came unit ≡ came
came_elsewhere (Bytes on bytes) connection came other =
    ap (λ (b : Bool). if b then came ++ bytes else came) (ne_eqb on connection (λ same. other (sym same)))
came_elsewhere (Close on) connection came other = ap (λ (b : Bool). if b then [] else came) (ne_eqb on connection (λ same. other (sym same)))

pub came_here : (on : ℕ) (came bytes : List ℕ) → came_after on came (Bytes on bytes) ≡ came ++ bytes
came_here on came bytes = ap (λ (b : Bool). if b then came ++ bytes else came) (eq-eqb on on refl)

pub none_came : (on : ℕ) (came : List ℕ) → came_after on came (Close on) ≡ []
none_came on came = ap (λ (b : Bool). if b then [] else came) (eq-eqb on on refl)

-- ---- the jobs of a unit, and the end that it brings

pub gained-append : {X : Type 0} (xs ys : List X) → gained xs (xs ++ ys) ≡ ys
gained-append xs ys = drop_at xs ys (length xs) refl

pub gained-nothing : {X : Type 0} (xs : List X) → gained xs xs ≡ []
gained-nothing xs = drop_all (length xs) xs (omega arith)

test_same : (b : Bool) → (not b && b) ≡ false
test_same true = refl
test_same false = refl

module _ (earlier : List InputUnit) (on : ℕ) (came bytes : List ℕ) (same : came ≡ came_on on earlier) where
  brings : jobs_by earlier (Bytes on bytes) ≡ gained (jobs_of on came) (jobs_of on (came ++ bytes))
  brings = ap (λ (l : List ℕ). gained (jobs_of on l) (jobs_of on (l ++ bytes))) (sym same)

  ends_so : is_ended_by earlier (Bytes on bytes) ≡ (not (ends on came) && ends on (came ++ bytes))
  ends_so = ap (λ (l : List ℕ). not (ends on l) && ends on (l ++ bytes)) (sym same)

  -- before the end: the jobs of what was left, with the unit's bytes after it
  pub jobs_by-open : ends on came ≡ false → jobs_by earlier (Bytes on bytes) ≡ jobs_of on (rest_of came ++ bytes)
  jobs_by-open goes_on =
      brings ∙ ap (gained (jobs_of on came)) (in_pieces on came bytes goes_on)
      ∙ gained-append (jobs_of on came) (jobs_of on (rest_of came ++ bytes))

  -- after the end: none
  pub jobs_by-ended : ends on came ≡ true → jobs_by earlier (Bytes on bytes) ≡ []
  jobs_by-ended ended =
      brings ∙ ap (gained (jobs_of on came)) (nothing_after_the_end on came bytes ended) ∙ gained-nothing (jobs_of on came)

  pub is_ended_by-open : ends on came ≡ false → is_ended_by earlier (Bytes on bytes) ≡ ends on (rest_of came ++ bytes)
  is_ended_by-open goes_on = ends_so ∙ ap (λ (b : Bool). not b && ends on (came ++ bytes)) goes_on ∙ ends-piece on came bytes goes_on

  pub is_ended_by-ended : ends on came ≡ true → is_ended_by earlier (Bytes on bytes) ≡ false
  is_ended_by-ended ended = ends_so ∙ ap (λ (b : Bool). not b && ends on (came ++ bytes)) ended

-- a unit without bytes brings nothing
pub jobs_by-nothing : (earlier : List InputUnit) (on : ℕ) → jobs_by earlier (Bytes on []) ≡ []
jobs_by-nothing earlier on =
    let came = came_on on earlier in
    ap (λ (l : List ℕ). gained (jobs_of on came) (jobs_of on l)) (append-nil came) ∙ gained-nothing (jobs_of on came)

pub is_ended_by-nothing : (earlier : List InputUnit) (on : ℕ) → is_ended_by earlier (Bytes on []) ≡ false
is_ended_by-nothing earlier on =
    let came = came_on on earlier in
    ap (λ (l : List ℕ). not (ends on came) && ends on l) (append-nil came) ∙ test_same (ends on came)
