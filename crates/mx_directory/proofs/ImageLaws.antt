-- Crash images of files that are durable: they read as before.
use Rattle.std.proofs.Common.{◌≡◌, ℕ, ◌+◌, Bool, true, false, ◌||◌, List, [], ◌∷◌, ◌++◌, length, take, drop, Option, Some, None, Result, Ok, Err, refl, sym, ap, ◌∙◌, subst, arith}
use Rattle.std.specs.Prelude.{is_some, IfSome}
use Rattle.std.specs.List.{Any, AllByRecursion}
use Rattle.std.specs.FinMap as finite
use Rattle.std.proofs.lemmas.List.{append_assoc, drop-append-le, length-append, length-take, take_all, take_at}
use Rattle.mx_outside.specs.Disks.{Disk, File, Files, Leaves, synced_file, or_none}
use Rattle.mx_xlog.specs.declared.head.Head.{Head}
use Rattle.mx_xlog.specs.Headers.{IsHeader, header_of}
use Rattle.mx_xlog.specs.Reading.{blocks_of}
use Rattle.mx_directory.specs.declared.damage.Damage.{Damage}
use Rattle.mx_directory.specs.Directories.{Named, Reached, after_head, after_files, and_then}
use Rattle.mx_xlog.specs.Files.{FileRead, ReadsAs}
use Rattle.mx_files.specs.Names.{is_journal, is_snapshot, counts}
use Rattle.mx_images.specs.Fair.{IsFairEnd, IsFair}
use Rattle.mx_images.proofs.DiskLaws.{only_one}
use Rattle.mx_images.proofs.FairLaws.{front_of_blocks}

-- ---- a file in a crash image

-- a name that is durable is what it is now
pub fair_now : (now : Disk) (image : Files) (name : List ℕ) → finite.get now.older name ≡ None → IsFair now image → counts name ≡ true
    → Leaves IsFairEnd (finite.get now.now name) (finite.get image name)
fair_now now image name no_older fair is =
    only_one (λ was. Leaves IsFairEnd was (finite.get image name)) (finite.get now.now name)
    (subst (λ older. Any (λ was. Leaves IsFairEnd was (finite.get image name)) (finite.get now.now name ∷ or_none older)) no_older (fair name is))

pub leaves_some : (was image : Option File) → Leaves IsFairEnd was image → is_some image ≡ is_some was
leaves_some None image is = ap is_some is
leaves_some (Some file) image (end, fair, is) = ap is_some is

-- lists that begin one another are the same
same_fronts : {X : Type 0} (xs ys : List X) (m n : ℕ) → xs ≡ take m ys → ys ≡ take n xs → xs ≡ ys
same_fronts xs ys m n first second =
    let one = ap length first ∙ length-take m ys in
    let other = ap length second ∙ length-take n xs in
    first ∙ take_all m ys (omega arith)

-- a fair end adds no block, and hides none
fair_blocks : (file : File) (end : List ℕ) (head : Head) (size : ℕ) → file.synced ≡ length file.bytes → IsHeader file.bytes head size
    → IsFairEnd file end → blocks_of (drop size (file.bytes ++ end)) ≡ blocks_of (drop size file.bytes)
fair_blocks file end head size synced is fair =
    let (count, front) = fair head size is in
    let whole : take file.synced file.bytes ≡ file.bytes = take_all file.synced file.bytes (omega arith) in
    let here : blocks_of (drop size (file.bytes ++ end)) ≡ take count (blocks_of (drop size file.bytes)) =
    ap (λ bytes. blocks_of (drop size (bytes ++ end))) (sym whole) ∙ front in
    let long : length file.bytes ≡ length (header_of head) + length is.begins.0 =
    ap length is.begins.1 ∙ length-append (header_of head) is.begins.0 in
    let sized : size ≡ length (header_of head) = is.sized in
    let rest = drop size file.bytes in
    let parts : drop size (file.bytes ++ end) ≡ rest ++ end = drop-append-le size file.bytes end (omega arith) in
    let (n, back) = front_of_blocks (length rest) (drop size (file.bytes ++ end)) in
    let there : blocks_of rest ≡ take n (blocks_of (drop size (file.bytes ++ end))) =
    ap blocks_of (sym (ap (take (length rest)) parts ∙ take_at rest end (length rest) refl)) ∙ back in
    same_fronts (blocks_of (drop size (file.bytes ++ end))) (blocks_of rest) count n here there

-- so the file reads as before
pub reads_again : (file : File) (read : FileRead) (end : List ℕ) → file.synced ≡ length file.bytes → ReadsAs file.bytes (Some read)
    → IsFairEnd file end → ReadsAs (file.bytes ++ end) (Some read)
reads_again file read end synced (is, blocks) fair = (
  record {
    fits = is.fits;
    sized = is.sized;
    begins = (is.begins.0 ++ end, ap (λ bytes. bytes ++ end) is.begins.1 ∙ append_assoc (header_of read.head) is.begins.0 end);
  },
  blocks ∙ sym (fair_blocks file end read.head read.size synced is fair),
)

-- the bytes of a durable file in a crash image
pub left_whole : (file : File) (end : List ℕ) (image : Option File) → file.synced ≡ length file.bytes
    → image ≡ Some (synced_file (take file.synced file.bytes ++ end)) → image ≡ Some (synced_file (file.bytes ++ end))
left_whole file end image synced is =
    is ∙ ap (λ bytes. Some (synced_file (bytes ++ end))) (take_all file.synced file.bytes (omega arith))

pub read_in_image : (was image : Option File) (read : FileRead) → IfSome was (λ (file : File). file.synced ≡ length file.bytes)
    → IfSome was (λ (file : File). ReadsAs file.bytes (Some read)) → Leaves IsFairEnd was image
    → IfSome image (λ (file : File). ReadsAs file.bytes (Some read))
read_in_image None image read synced reads is = subst (λ found. IfSome found (λ (file : File). ReadsAs file.bytes (Some read))) (sym is) tt
read_in_image (Some file) image read synced reads (end, fair, is) =
    subst (λ found. IfSome found (λ (file : File). ReadsAs file.bytes (Some read))) (sym (left_whole file end image synced is))
    (reads_again file read end synced reads fair)

either_way : (b : Bool) → (b || true) ≡ true
either_way true = refl
either_way false = refl

pub journal_counts : (name : List ℕ) → is_journal name ≡ true → counts name ≡ true
journal_counts name is = ap (λ b. b || is_snapshot name) is

pub snapshot_counts : (name : List ℕ) → is_snapshot name ≡ true → counts name ≡ true
snapshot_counts name is = ap (λ b. is_journal name || b) is ∙ either_way (is_journal name)

abbrev pub WasRead : Named → Type 0
WasRead file = (read : FileRead) × (file.1 ≡ Some read)

-- each of the files that are recovered from was read
pub all_were_read : (files : List Named) (before reached : Reached) → after_files files before ≡ Ok reached → AllByRecursion WasRead files
all_were_read [] before reached is = tt
all_were_read ((name, None) ∷ files) before reached is = absurd cc
all_were_read ((name, Some read) ∷ files) before reached is = ((read, refl), by_next (all_were_read files) (after_head name read before) is)
  where
    by_next : ((next last : Reached) → after_files files next ≡ Ok last → AllByRecursion WasRead files) → (outcome : Result Reached Damage)
        → and_then (after_files files) outcome ≡ Ok reached → AllByRecursion WasRead files
    by_next others (Ok next) is = others next reached is
    by_next others (Err damage) is = absurd cc
