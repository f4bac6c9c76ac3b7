-- Each list of bytes reads as a file, and as one only.
use Rattle.std.proofs.Common.{◌≡◌, ℕ, ◌+◌, ◌-◌, ◌<◌, ◌≤◌, Bool, true, false, if◌then◌else◌, ◌==◌, List, [], ◌∷◌, ◌++◌, length, take, drop}
use Rattle.std.proofs.Common.{Option, Some, None, refl, sym, ap, ◌∙◌, append_assoc, arith, inl, inr}
use mathlib.Core.Logic.{◌⊎◌}
use Rattle.std.specs.Prelude.{codes, decimal}
use Rattle.std.proofs.lemmas.Bool.{eqb-true, cases_lt}
use Rattle.std.proofs.lemmas.List.{take-append-drop, take-take}
use Rattle.mx_xlog.specs.declared.head.Head.{Head}
use Rattle.mx_xlog.specs.Headers.{lines_text, header_lines, replica_lines, BeginsHeader, IsFaultLine, IsHeader}
use Rattle.mx_xlog.specs.Lines.{TellsId, TellsReplica, TellsClock}
use Rattle.mx_xlog.specs.HeaderParts.{opening_lines, BeginsWith, BeginsNone, TellsFileType}
use Rattle.mx_xlog.specs.Reading.{blocks_of}
use Rattle.mx_xlog.specs.Files.{FileRead, ReadsAs, SameRead}
use Rattle.mx_xlog.proofs.LineLaws.{ended-append}
use Rattle.mx_xlog.proofs.HeaderLaws.{ended_first}
use Rattle.mx_xlog.proofs.PlaceLaws.{head_told, no_kind, no_version, no_instance, no_set, opening_told}
use Rattle.mx_xlog.proofs.LastLaws.{no_clock, no_end, header_told}
use Rattle.mx_xlog.proofs.OneLaws.{one_header}
use Rattle.mx_xlog.proofs.ToldLaws.{Told, FirstTold, behind_prefix, file_type_told, id_told, replica_told, clock_told, first_told}

-- ---- the whole file

abbrev Reads : List ℕ → Type 0
Reads bytes = (file : Option FileRead) × ReadsAs bytes file

fails_at : (bytes : List ℕ) (line : ℕ) → IsFaultLine bytes line → Reads bytes
fails_at bytes line fault = (None, (line, fault))

reads_whole : (bytes : List ℕ) (head : Head) (size : ℕ) → IsHeader bytes head size → Reads bytes
reads_whole bytes head size header = (Some (record { head = head; size = size; blocks = blocks_of (drop size bytes) }), (header, refl))

module _ (snapshot : Bool) (instance set : List ℕ) (replica : ℕ) (a b bytes : List ℕ) (small : replica < 32)
    (opening : bytes ≡ lines_text (opening_lines snapshot instance set) ++ a) (behind : a ≡ lines_text (replica_lines replica) ++ b) where
  end_reads : (clock c : List ℕ) → BeginsWith TellsClock clock c b → Told (λ (d : List ℕ). c ≡ 10 ∷ d) → Reads bytes
  end_reads clock c told (inl (d, is)) =
      reads_whole bytes (head_told snapshot instance set replica clock) (length bytes - length d)
      (header_told snapshot instance set replica a b bytes small opening behind clock c told d is)
  end_reads clock c told (inr none) =
      let line = 6 + length (replica_lines replica) in
      fails_at bytes line (no_end snapshot instance set replica a b bytes small opening behind clock c told line none refl)

  clock_reads : (replica ≡ 1 → BeginsNone TellsReplica b) → FirstTold TellsClock b → Reads bytes
  clock_reads other (inl (clock, c, told)) = end_reads clock c told (behind_prefix c (10 ∷ []))
  clock_reads other (inr none) =
      let line = 5 + length (replica_lines replica) in
      fails_at bytes line (no_clock snapshot instance set replica a b bytes small opening behind line other none refl)

replica_line : (id : ℕ) (line rest bytes : List ℕ) → TellsReplica id line → bytes ≡ line ++ 10 ∷ rest → bytes ≡ lines_text (replica_lines id) ++ rest
replica_line id line rest bytes told parts = by_test (id == 1) refl
  where
    by_test : (first : Bool) → (id == 1) ≡ first → bytes ≡ lines_text (if first then [] else (codes "Replica: " ++ decimal id) ∷ []) ++ rest
    by_test true is = absurd (told.other (eqb-true id 1 is))
    by_test false is = parts ∙ ap (λ (l : List ℕ). l ++ 10 ∷ rest) told.is ∙ sym (ended_first (codes "Replica: " ++ decimal id) [] rest)

replica_reads : (snapshot : Bool) (instance set a bytes : List ℕ) → bytes ≡ lines_text (opening_lines snapshot instance set) ++ a → FirstTold TellsReplica a → Reads bytes
replica_reads snapshot instance set a bytes opening (inl (id, rest, (line, told, parts))) =
    clock_reads snapshot instance set id a rest bytes told.below opening (replica_line id line rest a told parts)
    (λ is. absurd (told.other is)) (first_told TellsClock clock_told rest)
replica_reads snapshot instance set a bytes opening (inr none) =
    clock_reads snapshot instance set 1 a a bytes (omega arith) opening refl (λ is. none) (first_told TellsClock clock_told a)

module _ (snapshot : Bool) (a bytes : List ℕ) (kind : BeginsWith TellsFileType snapshot a bytes) where
  set_reads : (b : List ℕ) (version : a ≡ codes "0.13" ++ 10 ∷ b) (instance c : List ℕ) → BeginsWith (TellsId (codes "Instance: ")) instance c b
      → FirstTold (TellsId (codes "ReplicaSet: ")) c → Reads bytes
  set_reads b version instance c told (inl (set, d, told_set)) =
      replica_reads snapshot instance set d bytes (opening_told snapshot a bytes kind b version instance c told set d told_set) (first_told TellsReplica replica_told d)
  set_reads b version instance c told (inr none) = fails_at bytes 4 (no_set snapshot a bytes kind b version instance c told none)

  instance_reads : (b : List ℕ) (version : a ≡ codes "0.13" ++ 10 ∷ b) → FirstTold (TellsId (codes "Instance: ")) b → Reads bytes
  instance_reads b version (inl (instance, c, told)) = set_reads b version instance c told (first_told (TellsId (codes "ReplicaSet: ")) (id_told (codes "ReplicaSet: ")) c)
  instance_reads b version (inr none) = fails_at bytes 3 (no_instance snapshot a bytes kind b version none)

  version_reads : Told (λ (b : List ℕ). a ≡ codes "0.13" ++ 10 ∷ b) → Reads bytes
  version_reads (inl (b, version)) = instance_reads b version (first_told (TellsId (codes "Instance: ")) (id_told (codes "Instance: ")) b)
  version_reads (inr none) = fails_at bytes 2 (no_version snapshot a bytes kind none)

kind_reads : (bytes : List ℕ) → FirstTold TellsFileType bytes → Reads bytes
kind_reads bytes (inl (snapshot, a, kind)) = version_reads snapshot a bytes kind (behind_prefix a (codes "0.13" ++ 10 ∷ []))
kind_reads bytes (inr none) = fails_at bytes 1 (no_kind bytes none)

pub some_reading : (bytes : List ℕ) → (file : Option FileRead) × ReadsAs bytes file
some_reading bytes = kind_reads bytes (first_told TellsFileType file_type_told bytes)

-- ---- one reading only

pub one_reading : (bytes : List ℕ) (one other : Option FileRead) → ReadsAs bytes one → ReadsAs bytes other → SameRead one other
one_reading bytes None None first second = tt
one_reading bytes None (Some file) (line, fault) second = fault.4 file.head file.size second.0
one_reading bytes (Some file) None first (line, fault) = fault.4 file.head file.size first.0
one_reading bytes (Some one) (Some other) first second =
    let same = one_header bytes one.head other.head one.size other.size first.0 second.0 in
    record {
      head = record { snapshot = same.1; clock = same.2; replica = same.3; instance = same.4; set = same.5 };
      size = same.0;
      blocks = first.1 ∙ ap (λ (size : ℕ). blocks_of (drop size bytes)) same.0 ∙ sym second.1;
    }

-- bytes that begin with some lines of a header begin with fewer of them
begins_fewer : (count more : ℕ) (bytes : List ℕ) → count ≤ more → BeginsHeader more bytes → BeginsHeader count bytes
begins_fewer count more bytes fewer (head, rest, fits, enough, is) =
    let lines = take more (header_lines head) in
    let split : lines_text lines ≡ lines_text (take count (header_lines head)) ++ lines_text (drop count lines) =
    ap lines_text (sym (take-append-drop count lines)) ∙ ended-append (take count lines) (drop count lines)
    ∙ ap (λ (l : List (List ℕ)). lines_text l ++ lines_text (drop count lines)) (take-take count more (header_lines head) fewer) in (
      head,
      lines_text (drop count lines) ++ rest,
      fits,
      omega arith,
      is ∙ ap (λ (l : List ℕ). l ++ rest) split ∙ append_assoc (lines_text (take count (header_lines head))) (lines_text (drop count lines)) rest,
    )

-- no line after a fault is one
no_later_fault : (bytes : List ℕ) (one other : ℕ) → IsFaultLine bytes one → IsFaultLine bytes other → other ≤ one
no_later_fault bytes one other (before, is, begins, ends, none) (reached, same, goes_on, stops, neither) = by_order (cases_lt one other)
  where
    by_order : (one < other) ⊎ (other ≤ one) → other ≤ one
    by_order (inl later) = absurd (ends (begins_fewer one reached bytes (omega arith) goes_on))
    by_order (inr no_later) = no_later

pub one_fault_line : (bytes : List ℕ) (one other : ℕ) → IsFaultLine bytes one → IsFaultLine bytes other → one ≡ other
one_fault_line bytes one other first second =
    let least = no_later_fault bytes one other first second in
    let most = no_later_fault bytes other one second first in
    omega arith
