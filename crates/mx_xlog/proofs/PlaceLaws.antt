-- The first four lines: at which one bytes stop to be a header.
use Rattle.std.proofs.Common.{◌≡◌, ℕ, ◌^◌, ◌<◌, ◌≤◌, Bool, true, List, [], ◌∷◌, ◌++◌, replicate, refl, ap, ◌∙◌, arith}
use Rattle.std.specs.Prelude.{codes}
use Rattle.std.proofs.lemmas.List.Elements.{All-replicate}
use Rattle.uuid.specs.Text.{hyphenated_text, lower}
use Rattle.mx_vclock.specs.Vclocks.{IsVclock}
use Rattle.mx_xlog.specs.declared.head.Head.{Head}
use Rattle.mx_xlog.specs.Headers.{lines_text, IsHead, IsFaultLine}
use Rattle.mx_xlog.specs.Lines.{TellsId}
use Rattle.mx_xlog.specs.HeaderParts.{file_type, opening_lines, BeginsWith, BeginsNone, TellsFileType}
use Rattle.mx_xlog.proofs.HeaderLaws.{none_goes_on, fault_behind, one_line_more}

-- a head that says this
abbrev pub head_told : Bool → List ℕ → List ℕ → ℕ → List ℕ → Head
head_told snapshot instance set replica clock =
    record { snapshot = snapshot; instance = instance; set = set; replica = replica; clock = clock }

-- a vclock that every header may have
abbrev none_reached : List ℕ
none_reached = replicate 32 0

-- some head that says this
abbrev pub some_head : Bool → List ℕ → List ℕ → ℕ → Head
some_head snapshot instance set replica = head_told snapshot instance set replica none_reached

pub some_fits : (snapshot : Bool) (instance set : List ℕ) (replica : ℕ) → replica < 32 → IsHead (some_head snapshot instance set replica)
some_fits snapshot instance set replica small =
    let sound : IsVclock none_reached = record { whole = refl; bounded = All-replicate (λ lsn. lsn ≤ 2 ^ 58) 32 0 (omega arith) } in
    record { replica = small; sound = sound; nothing = refl }

first_fits : (snapshot : Bool) (instance set : List ℕ) → IsHead (some_head snapshot instance set 1)
first_fits snapshot instance set = some_fits snapshot instance set 1 (omega arith)

-- what stands first isn't the kind
pub no_kind : (bytes : List ℕ) → BeginsNone TellsFileType bytes → IsFaultLine bytes 1
no_kind bytes none =
    fault_behind [] _ _ (some_head true [] [] 1) bytes bytes 1 (first_fits true [] []) refl refl
    (none_goes_on TellsFileType [] bytes none (λ head line more fits are. (head.snapshot, cc))) refl

-- the bytes begin with a kind, and this is the rest
module _ (snapshot : Bool) (a bytes : List ℕ) (kind : BeginsWith TellsFileType snapshot a bytes) where
  abbrev kind_known : List (List ℕ)
  kind_known = file_type snapshot ∷ []

  kind_told : bytes ≡ lines_text kind_known ++ a
  kind_told = one_line_more [] kind.0 (file_type snapshot) bytes a bytes refl kind.1 kind.2

  -- what stands second isn't the version
  pub no_version : ((rest : List ℕ) → ¬ (a ≡ codes "0.13" ++ 10 ∷ rest)) → IsFaultLine bytes 2
  no_version none =
      fault_behind kind_known _ _ (some_head snapshot [] [] 1) a bytes 2 (first_fits snapshot [] []) refl kind_told
      (λ head line more tail fits are is_line is.
      let version : line ≡ codes "0.13" = cc in
      none tail (is ∙ ap (λ l. l ++ 10 ∷ tail) version)) refl

  -- then comes the version, and this is the rest
  module _ (b : List ℕ) (version : a ≡ codes "0.13" ++ 10 ∷ b) where
    abbrev version_known : List (List ℕ)
    version_known = file_type snapshot ∷ codes "0.13" ∷ []

    version_told : bytes ≡ lines_text version_known ++ b
    version_told = one_line_more kind_known (codes "0.13") (codes "0.13") a b bytes kind_told refl version

    -- what stands third isn't the instance
    pub no_instance : BeginsNone (TellsId (codes "Instance: ")) b → IsFaultLine bytes 3
    no_instance none =
        fault_behind version_known _ _ (some_head snapshot [] [] 1) b bytes 3 (first_fits snapshot [] []) refl version_told
        (none_goes_on (TellsId (codes "Instance: ")) version_known b none (λ head line more fits are. (head.instance, cc))) refl

    -- then comes the instance, and this is the rest
    module _ (instance c : List ℕ) (told : BeginsWith (TellsId (codes "Instance: ")) instance c b) where
      abbrev instance_known : List (List ℕ)
      instance_known = file_type snapshot ∷ codes "0.13" ∷ (codes "Instance: " ++ hyphenated_text lower instance) ∷ []

      instance_told : bytes ≡ lines_text instance_known ++ c
      instance_told = one_line_more version_known told.0 _ b c bytes version_told told.1 told.2

      -- what stands fourth isn't the replica set
      pub no_set : BeginsNone (TellsId (codes "ReplicaSet: ")) c → IsFaultLine bytes 4
      no_set none =
          fault_behind instance_known _ _ (some_head snapshot instance [] 1) c bytes 4 (first_fits snapshot instance []) refl instance_told
          (none_goes_on (TellsId (codes "ReplicaSet: ")) instance_known c none (λ head line more fits are. (head.set, cc))) refl

      -- all the first four lines
      pub opening_told : (set d : List ℕ) → BeginsWith (TellsId (codes "ReplicaSet: ")) set d c
          → bytes ≡ lines_text (opening_lines snapshot instance set) ++ d
      opening_told set d told_set = one_line_more instance_known told_set.0 _ c d bytes instance_told told_set.1 told_set.2
