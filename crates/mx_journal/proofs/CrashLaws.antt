-- Crash images of a journal's file while bytes are appended to it.
use Rattle.std.proofs.Common.{◌≡◌, ℕ, ◌+◌, ◌≤◌, ◌<◌, Bool, true, false, cond, List, [], ◌∷◌, ◌++◌, length, map, take, drop, Option, Some, None, Any, Result, MatchResult, string_bytes, refl, sym, ap, ◌∙◌, append_assoc, arith, ◌⊎◌, inl, inr}
use Rattle.std.specs.Prelude.{⊤}
use Rattle.std.specs.List.{concat, AllByRecursion}
use Rattle.std.proofs.lemmas.Bool.{cases_lt}
use Rattle.std.proofs.lemmas.List.{append-nil, take_at, drop_at, take_all, take-take, take_min, take-map, length-take, length-map, length-append}
use Rattle.std.proofs.Math.Seq.{take-append-add}
use mathlib.Core.Path.{subst}
use Rattle.std.specs.FinMap as finite
use Rattle.mx_msgpack.specs.Readers.{all_from}
use Rattle.mx_msgpack.proofs.Options.{same_some}
use Rattle.mx_msgpack.proofs.ReaderLaws.{all_from-append}
use Rattle.mx_outside.specs.Disks.{File, Files, Disk, Leaves, IfKnown, Became, Stayed, synced_file, outcomes, or_none, appended, longer_by}
use Rattle.mx_outside.specs.Moments.{Moments}
use Rattle.mx_xlog.specs.declared.head.Head.{Head}
use Rattle.mx_xlog.specs.Headers.{IsHead, IsHeader, header_of}
use Rattle.mx_xlog.specs.Blocks.{IsData, end_marker}
use Rattle.mx_xlog.specs.Reading.{block_at, blocks_of}
use Rattle.mx_xlog.proofs.ReadingLaws.{block_at-Advances, block_at-IsStable, blocks_of_nothing, blocks_of_marker}
use Rattle.mx_row.specs.declared.tx.Tx.{Tx}
use Rattle.mx_row.specs.Rows.{IsTransaction, transactions_text, transactions_of}
use Rattle.mx_row.proofs.GroupLaws.{transactions_of-append, groups_joined as rows_joined}
use Rattle.mx_xlog.specs.Files.{ReadsAs}
use Rattle.mx_files.specs.Names.{is_ours, same_bytes}
use Rattle.mx_journal.specs.Groups.{AreGroups, blocks_text, whole_text}
use Rattle.mx_journal.proofs.PackLaws.{blocks_text-append, groups_joined, waiting_blocks}
use Rattle.mx_journal.proofs.BlockLaws.{blocks_again, all_sound, counted_by_rows, groups_front, groups_rise}
use Rattle.mx_journal.specs.declared.journal.Journal.{Journal}
use Rattle.mx_images.specs.Fair.{IsFairEnd, IsFair}
use Rattle.mx_journal.specs.Crashes.{read_of, HasAtLeast, HasMost, NoFewer}
use Rattle.mx_journal.specs.Making.{AppendsSynced}
use Rattle.mx_images.specs.Changes.{Changed, KeepsOthers, with_appended, IsNow, SameOthers}
use Rattle.mx_journal.specs.Written.{IsWritten, Waits, name_of, file_text}
use Rattle.mx_images.proofs.DiskLaws.{same_self, same_name, get_inserted, get_changed, only_one, first_one}
use Rattle.mx_images.proofs.MomentLaws.{Steps, while_appended}
use Rattle.mx_images.proofs.OtherLaws.{append_others}
use Rattle.mx_images.proofs.ToldLaws.{told_both, told_weaker, where_told, now_changed}
use Rattle.mx_journal.proofs.WrittenLaws.{bytes_extended, nothing_waits, extended_as, others_extended}
use Rattle.mx_images.proofs.FairLaws.{fair_nothing, front_of_blocks}
use Rattle.mx_journal.proofs.MakeLaws.{name_counts, name_ours}

-- ---- prefixes of lists

-- a prefix of a prefix is a prefix
two_fronts : {X : Type 0} (k n : ℕ) (xs : List X) → (m : ℕ) × (take k (take n xs) ≡ take m xs)
two_fronts k n xs = by_less (cases_lt k n)
  where
    by_less : (k < n) ⊎ (n ≤ k) → (m : ℕ) × (take k (take n xs) ≡ take m xs)
    by_less (inl less) = (k, take-take k n xs (omega arith))
    by_less (inr above) = (n, take_all k (take n xs) (omega (arith, length-take n xs)))

-- a prefix is the one of its own length
own_front : {X : Type 0} (m : ℕ) (xs ys : List X) → ys ≡ take m xs → (ys ≡ take (length ys) xs) × (length ys ≤ length xs)
own_front m xs ys is = (
  is ∙ sym (take_min m xs) ∙ ap (λ n. take n xs) (sym (length-take m xs) ∙ sym (ap length is)),
  omega (arith, ap length is, length-take m xs),
)

-- ---- the blocks of a file

-- the blocks of these bytes come first, whatever follows
blocks_first : (body end : List ℕ) → (rest : List (List ℕ)) × (blocks_of (body ++ end) ≡ blocks_of body ++ rest)
blocks_first body end = (
  blocks_of ((all_from block_at body).1 ++ end),
  ap (λ (x : List (List ℕ) × List ℕ). x.0) (all_from-append block_at block_at-Advances block_at-IsStable body end),
)

-- where a prefix of the bytes that follow was put after them, the blocks are a prefix of all
front_put : (body more : List ℕ) (count : ℕ) (all : List (List ℕ)) → blocks_of (body ++ more) ≡ all
    → (n : ℕ) × (blocks_of (body ++ take count more) ≡ take n all)
front_put body more count all is =
    let (n, front) = front_of_blocks (length body + count) (body ++ more) in
    (n, ap blocks_of (sym (take-append-add body more count)) ∙ front ∙ ap (take n) is)

-- a file of this header and body, which are durable, and of more bytes
abbrev pub kept : Head → List ℕ → List ℕ → File
kept head body more = record { bytes = (header_of head ++ body) ++ more; synced = length (header_of head ++ body) }

behind_header : (head : Head) (body end : List ℕ) → drop (length (header_of head)) ((header_of head ++ body) ++ end) ≡ body ++ end
behind_header head body end =
    ap (drop (length (header_of head))) (append_assoc (header_of head) body end) ∙ drop_at (header_of head) (body ++ end) (length (header_of head)) refl

header_is : (head : Head) (body end : List ℕ) → IsHead head → IsHeader ((header_of head ++ body) ++ end) head (length (header_of head))
header_is head body end fits = record { fits = fits; sized = refl; begins = (body ++ end, append_assoc (header_of head) body end) }

-- the file is there, and has these groups of transactions
abbrev FileHas : Head → List (List Tx) → Option File → Type 0
FileHas head groups image = (file : File) × (image ≡ Some file) × ReadsAs file.bytes (Some (read_of head groups))

-- it has these transactions in groups
abbrev HasGroups : Head → List Tx → Option File → Type 0
HasGroups head txs image = (groups : List (List Tx)) × AreGroups groups txs × FileHas head groups image

-- it has a prefix of them, of so many at least
abbrev HasSome : Head → List Tx → ℕ → Option File → Type 0
HasSome head all least image = (count : ℕ) × (least ≤ count) × (count ≤ length all) × HasGroups head (take count all) image

-- how many transactions the first groups have
abbrev number_of : List (List Tx) → ℕ → ℕ
number_of groups count = length (transactions_of (take count groups))

-- a file whose blocks are those of a prefix of all groups has that prefix
front_read : (head : Head) (body end : List ℕ) (groups : List (List Tx)) (m : ℕ) → IsHead head → blocks_of (body ++ end) ≡ take m (map transactions_text groups)
    → ReadsAs ((header_of head ++ body) ++ end) (Some (read_of head (take (length (blocks_of (body ++ end))) groups)))
front_read head body end groups m fits front =
    let found = blocks_of (body ++ end) in
    let (same, short) = own_front m (map transactions_text groups) found front in
    let blocks : map transactions_text (take (length found) groups) ≡ blocks_of (drop (length (header_of head)) ((header_of head ++ body) ++ end)) =
    sym (take-map transactions_text (length found) groups) ∙ sym same ∙ ap blocks_of (sym (behind_header head body end)) in
    (header_is head body end fits, blocks)

-- so many at least, where the blocks begin with those of a prefix
read_back : (head : Head) (body end : List ℕ) (groups later : List (List Tx)) (txs all : List Tx) (m : ℕ) (image : Option File) → IsHead head
    → AreGroups groups txs → AreGroups (groups ++ later) all → blocks_of body ≡ map transactions_text groups
    → blocks_of (body ++ end) ≡ take m (map transactions_text (groups ++ later))
    → image ≡ Some (synced_file ((header_of head ++ body) ++ end)) → HasSome head all (length txs) image
read_back head body end groups later txs all m image fits are all_are first front is =
    let found = blocks_of (body ++ end) in
    let read = front_read head body end (groups ++ later) m fits front in
    let (rest, joined) = blocks_first body end in
    let long : length found ≡ length groups + length rest =
    ap length joined ∙ length-append (blocks_of body) rest ∙ ap (λ (blocks : List (List ℕ)). length blocks + length rest) first
    ∙ ap (λ n. n + length rest) (length-map groups transactions_text) in
    let whole : take (length groups) (groups ++ later) ≡ groups = take_at groups later (length groups) refl in
    let least : length txs ≡ number_of (groups ++ later) (length groups) =
    ap length (sym are.together) ∙ ap (λ some. length (transactions_of some)) (sym whole) in
    let enough = groups_rise (groups ++ later) (length groups) (length found) (omega (arith, long)) in
    let (prefix, short) = groups_front (groups ++ later) all (length found) all_are in (
      number_of (groups ++ later) (length found),
      omega (arith, least, enough),
      short,
      (take (length found) (groups ++ later), prefix, (synced_file ((header_of head ++ body) ++ end), is, read)),
    )

-- the blocks of a crash image of such a file are a prefix of those that it has
record Left (head : Head) (body more : List ℕ) (image : Option File) : Type 0 where
  pub end : List ℕ
  pub count : ℕ
  pub blocks : blocks_of (body ++ end) ≡ take count (blocks_of (body ++ more))
  pub is : image ≡ Some (synced_file ((header_of head ++ body) ++ end))

file_left : (head : Head) (body more : List ℕ) (image : Option File) → IsHead head → Leaves IsFairEnd (Some (kept head body more)) image
    → Left head body more image
file_left head body more image fits (end, fair, is) =
    let synced : take (length (header_of head ++ body)) ((header_of head ++ body) ++ more) ≡ header_of head ++ body =
    take_at (header_of head ++ body) more (length (header_of head ++ body)) refl in
    let (k, read) = fair head (length (header_of head)) (header_is head body more fits) in
    record {
      end = end;
      count = k;
      blocks = ap blocks_of (sym (behind_header head body end)) ∙ ap (λ front. blocks_of (drop (length (header_of head)) (front ++ end))) (sym synced)
          ∙ read ∙ ap (λ bytes. take k (blocks_of bytes)) (behind_header head body more);
      is = is ∙ ap (λ front. Some (synced_file (front ++ end))) synced;
    }

-- they are a prefix of all groups, where those that it has are
left_front : (head : Head) (body more : List ℕ) (groups : List (List Tx)) (n : ℕ) (image : Option File) → blocks_of (body ++ more) ≡ take n (map transactions_text groups)
    → (left : Left head body more image) → (m : ℕ) × (blocks_of (body ++ left.end) ≡ take m (map transactions_text groups))
left_front head body more groups n image front left =
    let (m, both) = two_fronts left.count n (map transactions_text groups) in
    (m, left.blocks ∙ ap (take left.count) front ∙ both)

-- ---- a directory with such a file

-- this body of the journal's file is durable, and so is its name; more bytes follow
pub record Keeps (head : Head) (body more : List ℕ) (disk : Disk) : Type 0 where
  pub file : finite.get disk.now (name_of head) ≡ Some (kept head body more)
  pub no_older : finite.get disk.older (name_of head) ≡ None

-- it is nothing else after a crash
one_outcome : (head : Head) (body more : List ℕ) (disk : Disk) → Keeps head body more disk → outcomes (name_of head) disk ≡ Some (kept head body more) ∷ []
one_outcome head body more disk keeps =
    ap (λ file. file ∷ or_none (finite.get disk.older (name_of head))) keeps.file ∙ ap (λ older. Some (kept head body more) ∷ or_none older) keeps.no_older

-- what a crash leaves of it
left_in : (head : Head) (body more : List ℕ) (disk : Disk) (image : Files) → IsHead head → Keeps head body more disk → IsFair disk image
    → Left head body more (finite.get image (name_of head))
left_in head body more disk image fits keeps fair =
    let found = finite.get image (name_of head) in
    let left = λ (was : Option File). Leaves IsFairEnd was found in
    file_left head body more found fits
    (only_one left (Some (kept head body more)) (subst (Any left) (one_outcome head body more disk keeps) (fair (name_of head) (name_counts head))))

pub left_at_least : (head : Head) (body more : List ℕ) (groups later : List (List Tx)) (txs all : List Tx) (n : ℕ) (disk : Disk) → IsHead head
    → AreGroups groups txs → AreGroups (groups ++ later) all → blocks_of body ≡ map transactions_text groups
    → blocks_of (body ++ more) ≡ take n (map transactions_text (groups ++ later)) → Keeps head body more disk → HasAtLeast head all (length txs) disk
left_at_least head body more groups later txs all n disk fits are all_are first front keeps image fair =
    let left = left_in head body more disk image fits keeps fair in
    let (m, blocks) = left_front head body more (groups ++ later) n (finite.get image (name_of head)) front left in
    let (count, enough, short, (some, prefix, has)) =
    read_back head body left.end groups later txs all m (finite.get image (name_of head)) fits are all_are first blocks left.is in
    (count, enough, short, (some, prefix, has.0, has.1, has.2))

-- the file as it reads has at least what a crash leaves of it
pub has_most : (head : Head) (body more : List ℕ) (groups : List (List Tx)) (all : List Tx) (n : ℕ) (disk : Disk) → IsHead head → AreGroups groups all
    → blocks_of (body ++ more) ≡ take n (map transactions_text groups) → Keeps head body more disk → HasMost head all disk
has_most head body more groups all n disk fits are front keeps =
    let now = blocks_of (body ++ more) in
    let (prefix, within) = groups_front groups all (length now) are in
    record {
      count = number_of groups (length now);
      within = within;
      has = (take (length now) groups, prefix, kept head body more, keeps.file, front_read head body more groups n fits front);
      most = λ image fair.
          let left = left_in head body more disk image fits keeps fair in
          let (m, blocks) = left_front head body more groups n (finite.get image (name_of head)) front left in
          let found = blocks_of (body ++ left.end) in
          let few : length found ≤ length now = omega (arith, ap length left.blocks, length-take left.count now) in
          let some = groups_front groups all (length found) are in (
            number_of groups (length found),
            groups_rise groups (length found) (length now) few,
            (take (length found) groups, some.0, synced_file ((header_of head ++ body) ++ left.end), left.is, front_read head body left.end groups m fits blocks),
          );
    }

-- ---- no fewer than before

same_outcomes : (name q : List ℕ) (older newer : Disk) → SameOthers name older newer → same_bytes q name ≡ false → outcomes q newer ≡ outcomes q older
same_outcomes name q older newer same differs =
    ap (λ file. file ∷ or_none (finite.get newer.older q)) (same.files q differs) ∙ ap (λ files. finite.get older.now q ∷ or_none (finite.get files q)) same.older

-- the files, of the journal's file only what is durable
abbrev put_back : Head → List ℕ → Files → Files
put_back head body image = finite.insert image (name_of head) (synced_file (header_of head ++ body))

-- they were a crash image before
fair_back : (head : Head) (body more : List ℕ) (older newer : Disk) (image : Files) → Keeps head body more older
    → SameOthers (name_of head) older newer → IsFair newer image → IsFair older (put_back head body image)
fair_back head body more older newer image keeps same fair q counted = by_name (same_bytes q (name_of head)) refl
  where
    got : finite.get (put_back head body image) q
        ≡ cond (same_bytes q (name_of head)) (Some (synced_file (header_of head ++ body))) (finite.get image q)
    got = get_inserted image (name_of head) (synced_file (header_of head ++ body)) q

    synced : take (length (header_of head ++ body)) ((header_of head ++ body) ++ more) ++ [] ≡ header_of head ++ body
    synced =
        append-nil (take (length (header_of head ++ body)) ((header_of head ++ body) ++ more))
        ∙ take_at (header_of head ++ body) more (length (header_of head ++ body)) refl

    by_name : (is : Bool) → same_bytes q (name_of head) ≡ is
        → Any (λ was. Leaves IsFairEnd was (finite.get (put_back head body image) q)) (outcomes q older)
    by_name true is =
        let left = λ (was : Option File). Leaves IsFairEnd was (finite.get (put_back head body image) q) in
        let alone = ap (λ name. outcomes name older) (same_name q (name_of head) is) ∙ one_outcome head body more older keeps in
        let now = got ∙ ap (λ b. cond b (Some (synced_file (header_of head ++ body))) (finite.get image q)) is
        ∙ ap (λ bytes. Some (synced_file bytes)) (sym synced) in
        subst (Any left) (sym alone) (first_one left (Some (kept head body more)) [] ([], fair_nothing (kept head body more), now))
    by_name false differs =
        let now = got ∙ ap (λ b. cond b (Some (synced_file (header_of head ++ body))) (finite.get image q)) differs in
        subst (λ file. Any (λ was. Leaves IsFairEnd was file) (outcomes q older)) (sym now)
        (subst (Any (λ was. Leaves IsFairEnd was (finite.get image q))) (same_outcomes (name_of head) q older newer same differs) (fair q counted))

-- a bound is at most what is durable of the file
bounded : (head : Head) (body : List ℕ) (groups : List (List Tx)) (txs all : List Tx) (least : ℕ) (disk : Disk) (files : Files) → AreGroups groups txs
    → txs ≡ take (length txs) all → AllByRecursion IsTransaction all → blocks_of body ≡ map transactions_text groups
    → HasAtLeast head all least disk → IsFair disk files → finite.get files (name_of head) ≡ Some (synced_file (header_of head ++ body)) → least ≤ length txs
bounded head body groups txs all least disk files are prefix sound first has fair is =
    let (count, enough, short, (some, some_are, file, found, (header, read))) = has files fair in
    let same : file ≡ synced_file (header_of head ++ body) = same_some file (synced_file (header_of head ++ body)) (sym found ∙ is) in
    let blocks : map transactions_text some ≡ map transactions_text groups =
    read ∙ ap (λ (f : File). blocks_of (drop (length (header_of head)) f.bytes)) same
    ∙ ap blocks_of (drop_at (header_of head) body (length (header_of head)) refl) ∙ first in
    let rows : transactions_text (take count all) ≡ transactions_text (take (length txs) all) =
    ap transactions_text (sym some_are.together) ∙ sym (rows_joined some) ∙ ap concat blocks ∙ rows_joined groups
    ∙ ap transactions_text are.together ∙ ap transactions_text prefix in
    let few = counted_by_rows all count (length txs) sound short (ap length rows) in
    omega (arith, enough, few)

-- where the newer file has those that are durable of the older one, each bound still holds
pub no_fewer : (head : Head) (body more : List ℕ) (groups : List (List Tx)) (txs all : List Tx) (older newer : Disk) → AreGroups groups txs
    → txs ≡ take (length txs) all → AllByRecursion IsTransaction all → blocks_of body ≡ map transactions_text groups
    → Keeps head body more older → SameOthers (name_of head) older newer → HasAtLeast head all (length txs) newer → NoFewer head all older newer
no_fewer head body more groups txs all older newer are prefix sound first keeps same now least before image fair =
    let file = synced_file (header_of head ++ body) in
    let there : finite.get (put_back head body image) (name_of head) ≡ Some file =
    get_inserted image (name_of head) file (name_of head) ∙ ap (λ b. cond b (Some file) (finite.get image (name_of head))) (same_self (name_of head)) in
    let below = bounded head body groups txs all least older (put_back head body image) are prefix sound first before
    (fair_back head body more older newer image keeps same fair) there in
    let (count, enough, short, has) = now image fair in
    (count, omega (arith, below, enough), short, has)

pub at_least_weaker : (head : Head) (all : List Tx) (least fewer : ℕ) (disk : Disk) → fewer ≤ least → HasAtLeast head all least disk → HasAtLeast head all fewer disk
at_least_weaker head all least fewer disk less has image fair =
    let (count, enough, short, there) = has image fair in
    (count, omega (arith, less, enough), short, there)

-- ---- bytes that are put after a journal's file

-- blocks of groups alone
groups_alone : (groups : List (List Tx)) → AllByRecursion (λ group. IsData (transactions_text group)) groups
    → blocks_of (blocks_text groups) ≡ map transactions_text groups
groups_alone groups fit = ap blocks_of (sym (append-nil (blocks_text groups))) ∙ blocks_again groups [] fit blocks_of_nothing

-- the file has these transactions and all of it is durable, and with these bytes more it has all of those
pub record Puts (head : Head) (more : List ℕ) (txs all : List Tx) (disk : Disk) : Type 0 where
  pub fits : IsHead head
  pub groups : List (List Tx)
  pub later : List (List Tx)
  pub grouped : AreGroups groups txs
  pub all_grouped : AreGroups (groups ++ later) all
  pub sound : AllByRecursion IsTransaction all
  pub file : finite.get disk.now (name_of head) ≡ Some (synced_file (file_text head groups))
  pub no_older : finite.get disk.older (name_of head) ≡ None
  pub after : blocks_of (blocks_text groups ++ more) ≡ map transactions_text (groups ++ later)

keeps_synced : (head : Head) (body : List ℕ) (disk : Disk) → finite.get disk.now (name_of head) ≡ Some (synced_file (header_of head ++ body))
    → finite.get disk.older (name_of head) ≡ None → Keeps head body [] disk
keeps_synced head body disk file no_older = record {
  file = file ∙ ap (λ bytes. Some (record { bytes = bytes; synced = length (header_of head ++ body) })) (sym (append-nil (header_of head ++ body)));
  no_older = no_older;
}

others_appended : (name more : List ℕ) (disk : Disk) (file : File) → finite.get disk.now name ≡ Some file → SameOthers name disk (appended name more disk)
others_appended name more disk file is = record {
  files = λ other differs. get_changed (longer_by more) name disk.now file other is
      ∙ ap (λ same. cond same (Some (longer_by more file)) (finite.get disk.now other)) differs;
  older = refl;
}

-- syncing changes no other file
others_synced : (name more : List ℕ) (disk : Disk) (file : File) → finite.get disk.now name ≡ Some file
    → SameOthers name (appended name more disk) (with_appended name more disk)
others_synced name more disk file is = record {
  files = λ other differs. (others_extended name more disk file is).files other differs ∙ sym ((others_appended name more disk file is).files other differs);
  older = refl;
}

module _ (head : Head) (more : List ℕ) (txs all : List Tx) (disk : Disk) (puts : Puts head more txs all disk) where
  abbrev body : List ℕ
  body = blocks_text puts.groups

  abbrev all_groups : List (List Tx)
  all_groups = puts.groups ++ puts.later

  abbrev texts : List (List ℕ)
  texts = map transactions_text all_groups

  before : blocks_of body ≡ map transactions_text puts.groups
  before = groups_alone puts.groups puts.grouped.fit

  -- the transactions are a prefix of all
  whole : all ≡ txs ++ transactions_of puts.later
  whole =
      sym puts.all_grouped.together ∙ transactions_of-append puts.groups puts.later ∙ ap (λ (l : List Tx). l ++ transactions_of puts.later) puts.grouped.together

  prefix : txs ≡ take (length txs) all
  prefix = sym (take_at txs (transactions_of puts.later) (length txs) refl) ∙ ap (take (length txs)) (sym whole)

  no_less : length txs ≤ length all
  no_less = omega (arith, ap length whole, length-append txs (transactions_of puts.later))

  keeps_before : Keeps head body [] disk
  keeps_before = keeps_synced head body disk puts.file puts.no_older

  keeps_appended : (front : List ℕ) → Keeps head body front (appended (name_of head) front disk)
  keeps_appended front = record {
    file = get_changed (longer_by front) (name_of head) disk.now (synced_file (file_text head puts.groups)) (name_of head) puts.file
        ∙ ap (λ same. cond same (Some (kept head body front)) (finite.get disk.now (name_of head))) (same_self (name_of head));
    no_older = puts.no_older;
  }

  -- nothing was put
  pub has_before : HasAtLeast head all (length txs) disk
  has_before =
      let (n, front) = front_put body more 0 texts puts.after in
      left_at_least head body [] puts.groups puts.later txs all n disk puts.fits puts.grouped puts.all_grouped before front keeps_before

  -- all was put, and synced
  all_front : blocks_of ((body ++ more) ++ []) ≡ take (length texts) texts
  all_front = ap blocks_of (append-nil (body ++ more)) ∙ puts.after ∙ sym (take_all (length texts) texts (omega arith))

  keeps_all : Keeps head (body ++ more) [] (with_appended (name_of head) more disk)
  keeps_all =
      keeps_synced head (body ++ more) (with_appended (name_of head) more disk)
      (bytes_extended (name_of head) more (file_text head puts.groups) disk puts.file
      ∙ ap (λ bytes. Some (synced_file bytes)) (append_assoc (header_of head) body more))
      puts.no_older

  pub has_all : HasAtLeast head all (length all) (with_appended (name_of head) more disk)
  has_all =
      let none : all_groups ++ [] ≡ all_groups = append-nil all_groups in
      left_at_least head (body ++ more) [] all_groups [] all all (length texts) (with_appended (name_of head) more disk) puts.fits puts.all_grouped
      (subst (λ groups. AreGroups groups all) (sym none) puts.all_grouped) puts.after
      (all_front ∙ ap (λ groups. take (length texts) (map transactions_text groups)) (sym none)) keeps_all

  -- the states in between: no other file changes, and this one has no fewer each time
  abbrev IsBetween : Disk → Type 0
  IsBetween now = SameOthers (name_of head) disk now × HasAtLeast head all (length txs) now

  put_some : (count : ℕ) → IsBetween (appended (name_of head) (take count more) disk) × NoFewer head all disk (appended (name_of head) (take count more) disk)
  put_some count =
      let next = appended (name_of head) (take count more) disk in
      let (n, front) = front_put body more count texts puts.after in
      let has = left_at_least head body (take count more) puts.groups puts.later txs all n next puts.fits puts.grouped puts.all_grouped before front
      (keeps_appended (take count more)) in
      let others = others_appended (name_of head) (take count more) disk (synced_file (file_text head puts.groups)) puts.file in
      ((others, has), no_fewer head body [] puts.groups txs all disk next puts.grouped prefix puts.sound before keeps_before others has)

  put_all : IsBetween (with_appended (name_of head) more disk)
      × NoFewer head all (appended (name_of head) more disk) (with_appended (name_of head) more disk)
  put_all =
      let file = synced_file (file_text head puts.groups) in
      let last = with_appended (name_of head) more disk in
      let has = at_least_weaker head all (length all) (length txs) last no_less has_all in (
        (others_extended (name_of head) more disk file puts.file, has),
        no_fewer head body more puts.groups txs all (appended (name_of head) more disk) last puts.grouped prefix puts.sound before (keeps_appended more)
            (others_synced (name_of head) more disk file puts.file) has,
      )

  -- and it has at least what a crash leaves of it
  part_reads : (count : ℕ) → HasMost head all (appended (name_of head) (take count more) disk)
  part_reads count =
      let (n, front) = front_put body more count texts puts.after in
      has_most head body (take count more) all_groups all n (appended (name_of head) (take count more) disk) puts.fits puts.all_grouped front
      (keeps_appended (take count more))

  whole_reads : HasMost head all (with_appended (name_of head) more disk)
  whole_reads =
      has_most head (body ++ more) [] all_groups all (length texts) (with_appended (name_of head) more disk) puts.fits puts.all_grouped all_front keeps_all

  module _ {T E : Type 0} (wanted bytes : List ℕ) (after : Option (List Disk)) (past : List Disk) (result : Result T E) (named : wanted ≡ name_of head)
      (same : bytes ≡ more) (appends : MatchResult result (λ value. after ≡ Some (with_appended wanted bytes disk ∷ appended wanted bytes disk ∷ disk ∷ past))
      (λ error. Stayed after disk past ⊎ ((count : ℕ) × Became after (appended wanted (take count bytes) disk) disk past))) where
    appends_more : MatchResult result
        (λ value. after ≡ Some (with_appended (name_of head) more disk ∷ appended (name_of head) more disk ∷ disk ∷ past))
        (λ error. Stayed after disk past ⊎ ((count : ℕ) × Became after (appended (name_of head) (take count more) disk) disk past))
    appends_more = subst (λ b. Put (name_of head) b) same (subst (λ n. Put n bytes) named appends)
      where
        Put : List ℕ → List ℕ → Type 0
        Put n b = MatchResult result (λ value. after ≡ Some (with_appended n b disk ∷ appended n b disk ∷ disk ∷ past))
            (λ error. Stayed after disk past ⊎ ((count : ℕ) × Became after (appended n (take count b) disk) disk past))

    pub grew : Moments IsBetween (NoFewer head all) after disk past
    grew = while_appended IsBetween (NoFewer head all) (name_of head) more disk put_some put_all after past result appends_more

    pub grew_most : Moments (HasMost head all) (λ older newer. ⊤) after disk past
    grew_most =
        while_appended (HasMost head all) (λ older newer. ⊤) (name_of head) more disk (λ count. (part_reads count, tt)) (whole_reads, tt) after past result appends_more

-- ---- what a journal's calls put

-- what waits
pub puts_waiting : (journal : Journal) (disk : Disk) (txs waits : List Tx) → IsWritten journal disk txs → Waits journal waits
    → Puts journal.head (whole_text journal.waiting) txs (txs ++ waits) disk
puts_waiting journal disk txs waits written waiting =
    let groups = waiting.packs.groups in
    let all = groups_joined written.groups groups txs waits written.grouped waiting.packs.packed.grouped in
    record {
      fits = written.fits;
      groups = written.groups;
      later = groups;
      grouped = written.grouped;
      all_grouped = all;
      sound = all_sound txs waits written.sound waiting.sound;
      file = written.file;
      no_older = written.no_older;
      after = ap (λ bytes. blocks_of (blocks_text written.groups ++ bytes)) (waiting_blocks waits journal.waiting waiting.packs)
          ∙ ap blocks_of (sym (blocks_text-append written.groups groups)) ∙ groups_alone (written.groups ++ groups) all.fit;
    }

-- the marker of the end
pub puts_marker : (journal : Journal) (disk : Disk) (txs : List Tx) → IsWritten journal disk txs → Puts journal.head end_marker txs txs disk
puts_marker journal disk txs written =
    let none : written.groups ++ [] ≡ written.groups = append-nil written.groups in
    record {
      fits = written.fits;
      groups = written.groups;
      later = [];
      grouped = written.grouped;
      all_grouped = subst (λ groups. AreGroups groups txs) (sym none) written.grouped;
      sound = written.sound;
      file = written.file;
      no_older = written.no_older;
      after = blocks_again written.groups end_marker written.grouped.fit blocks_of_marker ∙ ap (map transactions_text) (sym none);
    }

pub wrote_moments : {T E : Type 0} (journal : Journal) (name bytes : List ℕ) (before after : Option (List Disk)) (result : Result T E) (txs waits : List Tx)
    → name ≡ string_bytes journal.name → bytes ≡ whole_text journal.waiting → AppendsSynced name bytes before after result
    → IfKnown before (λ disk past. IsWritten journal disk txs → Waits journal waits
    → Moments (λ now. SameOthers (name_of journal.head) disk now × HasAtLeast journal.head (txs ++ waits) (length txs) now)
    (NoFewer journal.head (txs ++ waits)) after disk past)
wrote_moments journal name bytes before after result txs waits named same =
    told_weaker before (λ disk past appends written waiting.
    grew journal.head (whole_text journal.waiting) txs (txs ++ waits) disk (puts_waiting journal disk txs waits written waiting) name bytes after past result
    (named ∙ written.named) same appends)

pub wrote_reads : {T E : Type 0} (journal : Journal) (name bytes : List ℕ) (before after : Option (List Disk)) (result : Result T E) (txs waits : List Tx)
    → name ≡ string_bytes journal.name → bytes ≡ whole_text journal.waiting → AppendsSynced name bytes before after result
    → IfKnown before (λ disk past. IsWritten journal disk txs → Waits journal waits
    → Moments (HasMost journal.head (txs ++ waits)) (λ older newer. ⊤) after disk past)
wrote_reads journal name bytes before after result txs waits named same =
    told_weaker before (λ disk past appends written waiting.
    grew_most journal.head (whole_text journal.waiting) txs (txs ++ waits) disk (puts_waiting journal disk txs waits written waiting) name bytes after past result
    (named ∙ written.named) same appends)

pub ended_moments : {T E : Type 0} (journal : Journal) (name bytes : List ℕ) (before after : Option (List Disk)) (result : Result T E) (txs : List Tx)
    → name ≡ string_bytes journal.name → bytes ≡ end_marker → AppendsSynced name bytes before after result
    → IfKnown before (λ disk past. IsWritten journal disk txs
    → Moments (λ now. SameOthers (name_of journal.head) disk now × HasAtLeast journal.head txs (length txs) now) (NoFewer journal.head txs) after disk past)
ended_moments journal name bytes before after result txs named same =
    told_weaker before (λ disk past appends written.
    grew journal.head end_marker txs txs disk (puts_marker journal disk txs written) name bytes after past result (named ∙ written.named) same appends)

pub ended_reads : {T E : Type 0} (journal : Journal) (name bytes : List ℕ) (before after : Option (List Disk)) (result : Result T E) (txs : List Tx)
    → name ≡ string_bytes journal.name → bytes ≡ end_marker → AppendsSynced name bytes before after result
    → IfKnown before (λ disk past. IsWritten journal disk txs → Moments (HasMost journal.head txs) (λ older newer. ⊤) after disk past)
ended_reads journal name bytes before after result txs named same =
    told_weaker before (λ disk past appends written.
    grew_most journal.head end_marker txs txs disk (puts_marker journal disk txs written) name bytes after past result (named ∙ written.named) same appends)

-- all that was pushed
counted : (journal : Journal) (disk : Disk) (txs waits : List Tx) → IsWritten journal disk txs → Waits journal waits → journal.pushed ≡ length (txs ++ waits)
counted journal disk txs waits written waiting =
    waiting.pushed ∙ ap (λ n. n + length waits) written.synced ∙ sym (length-append txs waits)

pub wrote_synced : (journal : Journal) (name bytes : List ℕ) (before after : Option (List Disk)) (count : ℕ) (txs waits : List Tx)
    → name ≡ string_bytes journal.name → bytes ≡ whole_text journal.waiting → count ≡ journal.pushed → Changed (with_appended name bytes) before after
    → IfKnown before (λ disk past. IsWritten journal disk txs → Waits journal waits
    → (count ≡ length (txs ++ waits)) × IsNow after (HasAtLeast journal.head (txs ++ waits) count))
wrote_synced journal name bytes before after count txs waits named same pushed =
    told_weaker before (λ disk past changed written waiting.
    let total = pushed ∙ counted journal disk txs waits written waiting in
    let is = extended_as name (name_of journal.head) bytes (whole_text journal.waiting) disk (named ∙ written.named) same in
    let has = has_all journal.head (whole_text journal.waiting) txs (txs ++ waits) disk (puts_waiting journal disk txs waits written waiting) in (
      total,
      now_changed (with_appended name bytes disk) after changed
          (subst (λ n. HasAtLeast journal.head (txs ++ waits) n (with_appended name bytes disk)) (sym total)
          (subst (HasAtLeast journal.head (txs ++ waits) (length (txs ++ waits))) (sym is) has)),
    ))

pub caught_up_synced : (journal : Journal) (states : Option (List Disk)) (count : ℕ) (txs waits : List Tx) → whole_text journal.waiting ≡ []
    → count ≡ journal.pushed → IfKnown states (λ disk past. IsWritten journal disk txs → Waits journal waits
    → (count ≡ length (txs ++ waits)) × IsNow states (HasAtLeast journal.head (txs ++ waits) count))
caught_up_synced journal states count txs waits none pushed =
    where_told states _ (λ disk past told written waiting.
    let total = pushed ∙ counted journal disk txs waits written waiting in
    let nothing : waits ≡ [] = nothing_waits journal waits none waiting in
    let same : length txs ≡ count = sym (ap length (ap (λ more. txs ++ more) nothing ∙ append-nil txs)) ∙ sym total in
    let has = has_before journal.head (whole_text journal.waiting) txs (txs ++ waits) disk (puts_waiting journal disk txs waits written waiting) in
    (total, (disk, past, told, subst (λ n. HasAtLeast journal.head (txs ++ waits) n disk) same has)))

-- the calls change no file that isn't ours
pub put_others : {T E : Type 0} (journal : Journal) (name bytes : List ℕ) (before after : Option (List Disk)) (result : Result T E)
    → name ≡ string_bytes journal.name → IfKnown before (λ disk past. (txs : List Tx) × IsWritten journal disk txs)
    → AppendsSynced name bytes before after result → Steps KeepsOthers before after
put_others journal name bytes before after result named =
    told_both before (λ disk past (txs, written).
    append_others name bytes (Some (disk ∷ past)) after result (ap is_ours (named ∙ written.named) ∙ name_ours journal.head))
