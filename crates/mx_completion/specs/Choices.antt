-- Only private functions and proofs need these: what a value can cost that these bytes begin, and a map that bytes begin.
use Rattle.std.specs.Prelude.{◌≡◌, ◌⊎◌, ⊤, ℕ, ◌<◌, ◌≤◌, List, [], ◌∷◌, ◌++◌, length, Option, Some, None, ◌==◌, IfSome, MatchBool}
use Rattle.std.specs.Option.{option_map}
use Rattle.mx_msgpack.specs.Maps.{Pair, map_at, pairs_from, pairs_in, value_under}
use Rattle.mx_msgpack.specs.Readers.{unsigned_in}
use Rattle.mx_msgpack.specs.Spelling.{AreBytes}
use Rattle.mx_completion.specs.Completions.{IsValueSpelling}
use Rattle.mx_completion.specs.Costs.{IsLeast, cost_of}
use Rattle.mx_completion.specs.Numbers.{CanBecome}
use Rattle.mx_completion.specs.Sums.{up_to}
use Rattle.mx_completion.specs.declared.field.Field.{Field}
use Rattle.mx_completion.specs.declared.field.Form.{Form}
use Rattle.mx_completion.specs.declared.sums.Choice.{Choice}
use Rattle.mx_completion.specs.declared.pairs.Begun.{Begun}
use Rattle.mx_completion.specs.declared.pairs.Next.{Next}
use Rattle.mx_completion.specs.declared.pairs.Next.TheVariants.{Whole, InKey, InValue, Never}

-- ---- a value

-- with one more byte or more they can become a value that costs this much
abbrev pub CostsAt : (most : ℕ) → Form → (bytes : List ℕ) → (cost : ℕ) → Type 0
CostsAt most form bytes cost =
    (missing : List ℕ) × AreBytes missing × (1 ≤ length missing) × IsValueSpelling 63 (bytes ++ missing)
    × (cost_of form (Some (bytes ++ missing)) ≡ Some cost) × (cost ≤ most)

-- a key, and the bytes that its value begins with
abbrev pub Cut : Type 0
Cut = Option (ℕ × List ℕ)

-- the cut of a pair whose value begins so, where its key is a number
abbrev pub cut_under : (begun : List ℕ) → (key : Option ℕ) → Cut
cut_under begun key = option_map (λ number. (number, begun)) key

-- the least cost of a field as these pairs have it, and then perhaps one that is cut
abbrev pub IsKept : (most : ℕ) → List Pair → Cut → Field → Option ℕ → Type 0
IsKept most stands None field kept = kept ≡ up_to most (cost_of field.form (value_under field.key stands))
IsKept most stands (Some (key, value)) field kept =
    MatchBool (key == field.key) (IsLeast (CostsAt most field.form value) kept) (kept ≡ up_to most (cost_of field.form (value_under field.key stands)))

abbrev pub IsChoice : (most : ℕ) → List Pair → Cut → Field → Choice → Type 0
IsChoice most stands cut field choice = IsKept most stands cut field choice.kept × IsLeast (CostsAt most field.form []) choice.anew

abbrev pub AreChoices : (most : ℕ) → List Pair → Cut → List Field → List Choice → Type 0
AreChoices most stands cut [] [] = ⊤
AreChoices most stands cut (field ∷ fields) (choice ∷ choices) = IsChoice most stands cut field choice × AreChoices most stands cut fields choices
AreChoices most stands cut _ _ = ⊥

-- ---- a map

-- keys below 80 have the same values
abbrev pub SamePairs : List Pair → List Pair → Type 0
SamePairs one other = (key : ℕ) → key < 0x80 → value_under key one ≡ value_under key other

-- each value may stand in a map
abbrev pub AreValued : List Pair → Type 0
AreValued [] = ⊤
AreValued (pair ∷ others) = AreBytes pair.value × IsValueSpelling 63 pair.value × AreValued others

-- and each key is a byte, or no number
abbrev pub AreWritten : List Pair → Type 0
AreWritten [] = ⊤
AreWritten (pair ∷ others) = IfSome pair.key (λ key. key < 0x80) × AreBytes pair.value × IsValueSpelling 63 pair.value × AreWritten others

-- the bytes can become one map of these pairs
abbrev pub BecomesMap : (bytes : List ℕ) → List Pair → Type 0
BecomesMap bytes pairs =
    (missing : List ℕ) × AreBytes missing × (1 ≤ length missing) × (map_at (bytes ++ missing) ≡ Some (bytes ++ missing, []))
    × (pairs_in (bytes ++ missing) ≡ pairs)

-- the pair that is cut, with its whole value
abbrev pub IsCut : Cut → List Pair → Type 0
IsCut None first = first ≡ []
IsCut (Some (key, value)) first =
    (missing : List ℕ) × AreBytes missing × (1 ≤ length missing) × IsValueSpelling 63 (value ++ missing)
    × (first ≡ record { key = Some key; value = value ++ missing } ∷ [])

-- In all lists of pairs that can become these stand, then perhaps one that is cut, and then so many of any keys and values; or as
-- many as there are fields, and more.
pub record IsBegunMap (fields : ℕ) (Becomes : List Pair → Type 0) (stands : List Pair) (cut : Cut) (free : ℕ) : Type 0 where
  pub reaches : (pairs : List Pair) → Becomes pairs
      → (first last : List Pair) × SamePairs pairs (stands ++ first ++ last) × IsCut cut first × AreValued last × ((length last ≤ free) ⊎ (fields ≤ free))
  pub goes_on : (first : List Pair) × IsCut cut first
  pub allows : (first last : List Pair) → IsCut cut first → AreWritten last → length last ≡ free
      → (pairs : List Pair) × Becomes pairs × SamePairs pairs (stands ++ first ++ last)

-- ---- the bytes after a map's head

-- the bytes are these pairs, one after the other
abbrev pub AreContent : List Pair → List ℕ → Type 0
AreContent [] bytes = bytes ≡ []
AreContent (pair ∷ others) bytes =
    (key value rest : List ℕ) × (bytes ≡ key ++ (value ++ rest)) × IsValueSpelling 63 key × IsValueSpelling 63 value
    × (pair ≡ record { key = unsigned_in key; value = value }) × AreContent others rest

-- the bytes can become so many pairs
abbrev pub BecomesContent : (count : ℕ) → (bytes : List ℕ) → List Pair → Type 0
BecomesContent count bytes pairs = (missing : List ℕ) × AreBytes missing × (1 ≤ length missing) × (length pairs ≡ count) × AreContent pairs (bytes ++ missing)

-- so many pairs stand first, before the rest
pub record IsPassed (bytes : List ℕ) (passed : ℕ) (rest : List ℕ) : Type 0 where
  pub stands : List Pair
  pub front : List ℕ
  pub parts : bytes ≡ front ++ rest
  pub content : AreContent stands front
  pub many : length stands ≡ passed

-- the bytes end inside a value
pub record EndsIn (bytes : List ℕ) : Type 0 where
  pub missing : List ℕ
  pub each : AreBytes missing
  pub some : 1 ≤ length missing
  pub value : IsValueSpelling 63 (bytes ++ missing)
  pub only : (more front rest : List ℕ) → AreBytes more → bytes ++ more ≡ front ++ rest → IsValueSpelling 63 front
      → (others : List ℕ) × (front ≡ bytes ++ others) × (1 ≤ length others) × (more ≡ others ++ rest)

-- what stands where a pair begins, or is to
abbrev pub IsNextPair : (bytes : List ℕ) → Next → Type 0
IsNextPair bytes (Whole rest) = (key value : List ℕ) × (bytes ≡ key ++ (value ++ rest.now)) × IsValueSpelling 63 key × IsValueSpelling 63 value
IsNextPair bytes (InKey any) = EndsIn bytes × MatchBool any ((number : ℕ) × (number < 0x80) × CanBecome bytes number) ((number : ℕ) → number < 0x80 → ¬ CanBecome bytes number)
IsNextPair bytes (InValue key begun) = (front : List ℕ) × (bytes ≡ front ++ begun.now) × IsValueSpelling 63 front × (key ≡ unsigned_in front) × EndsIn begun.now
IsNextPair bytes Never = (missing key value rest : List ℕ) → AreBytes missing → bytes ++ missing ≡ key ++ (value ++ rest) → IsValueSpelling 63 key → IsValueSpelling 63 value → ⊥

-- what the code found of a map that is begun; or that none can be
abbrev pub BeginsMapAs : (fields : ℕ) (Becomes : List Pair → Type 0) → Option Begun → Type 0
BeginsMapAs fields Becomes None = (pairs : List Pair) → ¬ Becomes pairs
BeginsMapAs fields Becomes (Some begun) =
    IsBegunMap fields Becomes (pairs_from begun.count begun.pairs.now) (option_map (λ cut. (cut.0, cut.1.now)) begun.cut) begun.free
