-- What recovers again: a directory all of which is durable, as a new one, or one after a crash; and one after a kill.
use Rattle.std.proofs.Common.{◌≡◌, ℕ, ◌≤◌, List, [], ◌∷◌, ◌++◌, length, map, take, Option, Some, None, refl, sym, ap, ◌∙◌, subst, arith}
use Rattle.std.specs.Ordering.{nat_cmp}
use Rattle.std.specs.Cmp.Lexicographic.{slice_cmp}
use Rattle.std.specs.FinMap as finite
use Rattle.std.specs.FinMap.{get-empty, len-empty, len-entries}
use Rattle.std.specs.List.{filter}
use Rattle.std.proofs.lemmas.List.{length-take, nil_from_length, take-take}
use Rattle.mx_msgpack.proofs.Options.{same_some}
use Rattle.mx_outside.specs.Disks.{Disk, File, Leaves, IsImage, synced_file}
use Rattle.mx_row.specs.declared.tx.Tx.{Tx}
use Rattle.mx_directory.specs.Directories.{Origin, directory_state, new_database, nothing_yet}
use Rattle.mx_files.specs.Names.{is_journal, is_snapshot}
use Rattle.mx_images.specs.Fair.{IsFairEnd, AllDurable}
use Rattle.mx_directory.specs.Survival.{FollowFrom, ReadsMost, Recovers, StandsAfter, Survive}
use Rattle.mx_directory.proofs.ReadLaws.{least_read}
use Rattle.mx_directory.proofs.WalkLaws.{nothing_is_sound}
use Rattle.mx_store.proofs.OpenLaws.{none_older}
use Rattle.mx_store.proofs.RecoveryLaws.{all_taken, found_again}
use Rattle.mx_store.proofs.WritingLaws.{all_follow-take}

-- a directory all of which is durable recovers all of its transactions
pub recovers_all : {origin : Origin} (transactions : List Tx) (disk : Disk) → FollowFrom origin transactions → AllDurable disk → disk.older ≡ finite.empty
    → StandsAfter origin transactions disk.now → (past : List Disk) → Recovers origin transactions (Some (disk ∷ past))
recovers_all {origin} transactions disk follow whole no_older after past = record {
  follow = follow;
  told = (
    after,
    λ image fair. (
      length transactions,
      omega arith,
      omega arith,
      subst (λ txs. StandsAfter origin txs image) (sym (all_taken transactions)) (record {
        reached = after.reached;
        stands = found_again disk after.reached whole no_older after.stands image fair;
        made = after.made;
        state = after.state;
        clock = after.clock;
      }),
    ),
  );
}

-- what follows from the origin has prefixes that do
follow-take : {origin : Origin} (transactions : List Tx) (count : ℕ) → FollowFrom origin transactions → FollowFrom origin (take count transactions)
follow-take {origin} transactions count follow = record {
  clock = follow.clock;
  each = all_follow-take origin.state origin.clock transactions count follow.each;
}

-- ---- a new directory

abbrev no_files : Disk
no_files = record { now = finite.empty; older = finite.empty }

none_on_disk : AllDurable no_files
none_on_disk name file kind there = let none : finite.get no_files.now name ≡ None = get-empty (slice_cmp nat_cmp) name in absurd cc

no_names : finite.keys no_files.now ≡ []
no_names =
    ap (map (λ (e : List ℕ × File). e.0))
    (nil_from_length (finite.entries no_files.now) (sym (len-entries no_files.now) ∙ len-empty (slice_cmp nat_cmp) File))

pub none_recovers : Recovers new_database [] (Some (no_files ∷ []))
none_recovers = recovers_all [] no_files (record { clock = nothing_is_sound; each = tt }) none_on_disk refl (record {
  reached = nothing_yet;
  stands = record {
    journals = [];
    names = ap (filter is_journal) (sym no_names);
    each = tt;
    is = ap (λ names. directory_state (filter is_snapshot names) []) (sym no_names);
  };
  made = refl;
  state = refl;
  clock = refl;
})
    []

-- ---- after a crash

-- after a crash all bytes of a file are durable
left_synced : (was found : Option File) (file : File) → Leaves IsFairEnd was found → found ≡ Some file → file.synced ≡ length file.bytes
left_synced None found file is there = absurd cc
left_synced (Some old) found file (end, fair, is) there =
    let left = take old.synced old.bytes ++ end in
    subst (λ (f : File). f.synced ≡ length f.bytes) (same_some (synced_file left) file (sym is ∙ there)) refl

left_on_disk : (disk image : Disk) → IsImage IsFairEnd disk image → AllDurable image
left_on_disk disk image left name file kind there =
    let (place, was, below, is, leaves) = left.each name in
    (left_synced was (finite.get image.now name) file leaves there, none_older image name left.durable)

pub left_recovers : (origin : Origin) (transactions : List Tx) (least : ℕ) (disk image : Disk) → FollowFrom origin transactions
    → Survive origin transactions least disk → IsImage IsFairEnd disk image
    → (count : ℕ) × (least ≤ count) × (count ≤ length transactions) × Recovers origin (take count transactions) (Some (image ∷ []))
left_recovers origin transactions least disk image follow survive left =
    let (count, enough, short, after) = survive image.now (λ name counted. left.each name) in (
      count,
      enough,
      short,
      recovers_all (take count transactions) image (follow-take transactions count follow) (left_on_disk disk image left) left.durable after [],
    )

-- ---- after a kill

pub read_recovers : (origin : Origin) (transactions : List Tx) (least : ℕ) (disk : Disk) (past : List Disk) → FollowFrom origin transactions
    → Survive origin transactions least disk → ReadsMost origin transactions disk
    → (count : ℕ) × (least ≤ count) × (count ≤ length transactions) × Recovers origin (take count transactions) (Some (disk ∷ past))
read_recovers origin transactions least disk past follow survive m = (
  m.count,
  least_read transactions least disk survive m,
  m.within,
  record {
    follow = follow-take transactions m.count follow;
    told = (
      m.reads,
      λ image fair.
          let (fewer, few, after) = m.most image fair in (
            fewer,
            omega arith,
            omega (arith, few, m.within, length-take m.count transactions),
            subst (λ txs. StandsAfter origin txs image) (sym (take-take fewer m.count transactions few)) after,
          ),
    );
  },
)
