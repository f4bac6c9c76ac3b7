-- Which files have the same contents, and that the files as they read are a crash image.
use Rattle.std.proofs.Common.{◌≡◌, ℕ, Bool, true, false, cond, List, [], ◌∷◌, length, map, drop, Option, Some, None, refl, sym, ap, ◌∙◌, arith}
use Rattle.std.specs.Option.{option_map}
use Rattle.std.specs.Ordering.{nat_cmp, eq_by_cmp}
use Rattle.std.specs.Cmp.Lexicographic.{slice_cmp, nat_list_cmp_total}
use Rattle.std.specs.FinMap as finite
use Rattle.std.specs.FinMap.{get-entries, get-from_entries}
use Rattle.std.specs.FinMap.Entries.{find}
use Rattle.std.proofs.lemmas.List.{take_all, take-append-drop}
use mathlib.Core.Path.{subst}
use Rattle.mx_outside.specs.Disks.{Disk, File, Files, Leaves, or_none, synced_file}
use Rattle.mx_xlog.specs.Reading.{blocks_of}
use Rattle.mx_images.specs.Changes.{SameContents}
use Rattle.mx_images.specs.Fair.{IsFair, IsFairEnd}
use Rattle.mx_images.proofs.DiskLaws.{first_one}

pub contents_itself : (files : Files) → SameContents files files
contents_itself files name counted = refl

pub contents_then : (first second third : Files) → SameContents first second → SameContents second third → SameContents first third
contents_then first second third one other name counted = other name counted ∙ one name counted

pub contents_back : (older newer : Files) → SameContents older newer → SameContents newer older
contents_back older newer same name counted = sym (same name counted)

-- ---- the files as they read, all of them durable

-- the file with all its bytes durable
abbrev pub whole : Option File → Option File
whole file = option_map (λ f. synced_file f.bytes) file

pub whole_contents : (file : Option File) → option_map (λ (f : File). f.bytes) (whole file) ≡ option_map (λ (f : File). f.bytes) file
whole_contents None = refl
whole_contents (Some file) = refl

abbrev all_whole : List (List ℕ × File) → List (List ℕ × File)
all_whole es = map (λ (e : List ℕ × File). (e.0, synced_file e.1.bytes)) es

abbrev pub as_read : Files → Files
as_read files = finite.from_entries (all_whole (finite.entries files))

find_whole : (es : List (List ℕ × File)) (name : List ℕ) → find (slice_cmp nat_cmp) name (all_whole es) ≡ whole (find (slice_cmp nat_cmp) name es)
find_whole [] name = refl
find_whole (e ∷ es) name = by_test (find_whole es name) (eq_by_cmp (slice_cmp nat_cmp) name e.0)
  where
    by_test : find (slice_cmp nat_cmp) name (all_whole es) ≡ whole (find (slice_cmp nat_cmp) name es) → (test : Bool)
        → cond test (Some (synced_file e.1.bytes)) (find (slice_cmp nat_cmp) name (all_whole es)) ≡ whole (cond test (Some e.1) (find (slice_cmp nat_cmp) name es))
    by_test others true = refl
    by_test others false = others

pub get_as_read : (files : Files) (name : List ℕ) → finite.get (as_read files) name ≡ whole (finite.get files name)
get_as_read files name =
    get-from_entries nat_list_cmp_total (all_whole (finite.entries files)) name ∙ find_whole (finite.entries files) name
    ∙ ap whole (sym (get-entries files name))

pub same_as_read : (files : Files) → SameContents files (as_read files)
same_as_read files name counted =
    ap (option_map (λ (f : File). f.bytes)) (get_as_read files name) ∙ whole_contents (finite.get files name)

-- a crash may leave all bytes of a file
leaves_whole : (was : Option File) → Leaves IsFairEnd was (whole was)
leaves_whole None = refl
leaves_whole (Some file) = (
  drop file.synced file.bytes,
  λ head size header.
      let blocks = blocks_of (drop size file.bytes) in (
        length blocks,
        ap (λ bytes. blocks_of (drop size bytes)) (take-append-drop file.synced file.bytes) ∙ sym (take_all (length blocks) blocks (omega arith)),
      ),
  ap (λ bytes. Some (synced_file bytes)) (sym (take-append-drop file.synced file.bytes)),
)

-- a crash may leave the files as they read
pub fair_as_read : (disk : Disk) → IsFair disk (as_read disk.now)
fair_as_read disk name counted =
    first_one (λ was. Leaves IsFairEnd was (finite.get (as_read disk.now) name)) (finite.get disk.now name) (or_none (finite.get disk.older name))
    (subst (Leaves IsFairEnd (finite.get disk.now name)) (sym (get_as_read disk.now name)) (leaves_whole (finite.get disk.now name)))
