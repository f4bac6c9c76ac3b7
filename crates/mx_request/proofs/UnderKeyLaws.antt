-- Which value stands under a key of the pairs that are written.
use Rattle.std.proofs.Common.{◌≡◌, ℕ, List, [], ◌∷◌, ◌++◌, Option, Some, None, Ok, refl, sym, ap, ◌∙◌}
use Rattle.std.specs.Prelude.{false, map, ◌==◌}
use Rattle.std.proofs.lemmas.Bool.{cond_both, eqb-true, eq-eqb}
use Rattle.mx_msgpack.specs.Spelling.{shortest_unsigned}
use Rattle.mx_msgpack.specs.Maps.{value_under}
use Rattle.mx_msgpack.proofs.LookupLaws.{later, later_none, later_assoc}
use Rattle.mx_request.specs.Requests.{optional_value, required, optional}
use Rattle.mx_request.specs.Spelling.{Written, unless_default}
use Rattle.mx_request.proofs.MapTextLaws.{as_read}

-- the value of a key, as it is read
abbrev pub found : ℕ → List Written → Option (List ℕ)
found key pairs = value_under key (map as_read pairs)

found-append : (key : ℕ) (a b : List Written) → found key (a ++ b) ≡ later (found key a) (found key b)
found-append key [] b = sym (later_none (found key b))
found-append key (pair ∷ others) b = rw (found-append key others b) (later_assoc _ (found key others) (found key b))

-- no pair has another key
abbrev pub OnlyKey : ℕ → List Written → Type 0
OnlyKey key pairs = (other : ℕ) → (key == other) ≡ false → found other pairs ≡ None

pub only_key : (key default number : ℕ) → OnlyKey key (unless_default key default number)
only_key key default number other differ =
    cond_both (number == default) _ _ (λ (pairs : List Written). found other pairs ≡ None) (λ _. refl) (λ _. rw differ refl)

-- a key that is omitted where its number is the default
pub optional_again : (key default number : ℕ) (kind : List ℕ → Option ℕ) (pairs : List Written) → found key pairs ≡ found key (unless_default key default number)
    → kind (shortest_unsigned number) ≡ Some number → optional key default kind (map as_read pairs) ≡ Ok number
optional_again key default number kind pairs e k =
    ap (optional_value key default kind) e
    ∙ cond_both (number == default) _ _ (λ (ps : List Written). optional_value key default kind (found key ps) ≡ Ok number)
    (λ t. ap Ok (sym (eqb-true number default t))) (λ _. rw (eq-eqb key key refl, k) refl)

pub required_again : {X : Type 0} (key : ℕ) (kind : List ℕ → Option X) (pairs : List Written) (value : List ℕ) (x : X) → found key pairs ≡ Some value
    → kind value ≡ Some x → required key kind (map as_read pairs) ≡ Ok x
required_again key kind pairs value x e k = rw (e, k) refl

-- ---- the pairs of each body

-- a space, four optional keys, and a key
module _ (space key : List ℕ) (a b c d : List Written) (ka : OnlyKey 0x11 a) (kb : OnlyKey 0x12 b) (kc : OnlyKey 0x13 c) (kd : OnlyKey 0x14 d) where
  abbrev selection : List Written
  selection = (0x10, space) ∷ a ++ b ++ c ++ d ++ (0x20, key) ∷ []

  pub space_found : found 0x10 selection ≡ Some space
  space_found = simp (found-append, ka 0x10 refl, kb 0x10 refl, kc 0x10 refl, kd 0x10 refl)

  pub index_found : found 0x11 selection ≡ found 0x11 a
  index_found = simp (found-append, later_none, kb 0x11 refl, kc 0x11 refl, kd 0x11 refl)

  pub limit_found : found 0x12 selection ≡ found 0x12 b
  limit_found = simp (found-append, later_none, ka 0x12 refl, kc 0x12 refl, kd 0x12 refl)

  pub offset_found : found 0x13 selection ≡ found 0x13 c
  offset_found = simp (found-append, later_none, ka 0x13 refl, kb 0x13 refl, kd 0x13 refl)

  pub iterator_found : found 0x14 selection ≡ found 0x14 d
  iterator_found = simp (found-append, later_none, ka 0x14 refl, kb 0x14 refl, kc 0x14 refl)

  pub key_found : found 0x20 selection ≡ Some key
  key_found = simp found-append

-- a space, two optional keys, a key and operations
module _ (space key operations : List ℕ) (a b : List Written) (ka : OnlyKey 0x11 a) (kb : OnlyKey 0x15 b) where
  abbrev change : List Written
  change = (0x10, space) ∷ a ++ b ++ (0x20, key) ∷ (0x21, operations) ∷ []

  pub change_space : found 0x10 change ≡ Some space
  change_space = simp (found-append, ka 0x10 refl, kb 0x10 refl)

  pub change_index : found 0x11 change ≡ found 0x11 a
  change_index = simp (found-append, later_none, kb 0x11 refl)

  pub change_base : found 0x15 change ≡ found 0x15 b
  change_base = simp (found-append, later_none, ka 0x15 refl)

  pub change_key : found 0x20 change ≡ Some key
  change_key = simp found-append

  pub change_operations : found 0x21 change ≡ Some operations
  change_operations = simp found-append

-- a space, an optional key, and a key
module _ (space key : List ℕ) (a : List Written) (ka : OnlyKey 0x11 a) where
  abbrev removal : List Written
  removal = (0x10, space) ∷ a ++ (0x20, key) ∷ []

  pub removal_space : found 0x10 removal ≡ Some space
  removal_space = simp (found-append, ka 0x10 refl)

  pub removal_index : found 0x11 removal ≡ found 0x11 a
  removal_index = simp (found-append, later_none)

  pub removal_key : found 0x20 removal ≡ Some key
  removal_key = simp found-append

-- a space, an optional key, a tuple and operations
module _ (space tuple operations : List ℕ) (b : List Written) (kb : OnlyKey 0x15 b) where
  abbrev upsertion : List Written
  upsertion = (0x10, space) ∷ b ++ (0x21, tuple) ∷ (0x28, operations) ∷ []

  pub upsertion_space : found 0x10 upsertion ≡ Some space
  upsertion_space = simp (found-append, kb 0x10 refl)

  pub upsertion_base : found 0x15 upsertion ≡ found 0x15 b
  upsertion_base = simp (found-append, later_none)

  pub upsertion_tuple : found 0x21 upsertion ≡ Some tuple
  upsertion_tuple = simp found-append

  pub upsertion_operations : found 0x28 upsertion ≡ Some operations
  upsertion_operations = simp found-append

-- a type and two optional keys
module _ (kind : List ℕ) (a b : List Written) (ka : OnlyKey 0x01 a) (kb : OnlyKey 0x0a b) where
  abbrev header : List Written
  header = (0x00, kind) ∷ a ++ b

  pub header_kind : found 0x00 header ≡ Some kind
  header_kind = simp (found-append, ka 0x00 refl, kb 0x00 refl)

  pub header_sync : found 0x01 header ≡ found 0x01 a
  header_sync = simp (found-append, later_none, kb 0x01 refl)

  pub header_stream : found 0x0a header ≡ found 0x0a b
  header_stream = simp (found-append, later_none, ka 0x0a refl)
