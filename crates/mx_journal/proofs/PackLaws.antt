-- Groups of transactions packed into blocks, and what a transaction more makes of them.
use Rattle.std.proofs.Common.{◌≡◌, ◌⊎◌, inl, inr, ℕ, ◌+◌, ◌≤◌, ◌<◌, Bool, true, false, List, [], ◌∷◌, ◌++◌, map, take, drop, refl, sym, ap, ◌∙◌, arith, length, append_assoc}
use Rattle.std.proofs.lemmas.List.{append-nil, map-append, length-append, length-drop, length-take-le, take_all, drop_all, take_at, drop_at, take-append-drop, drop-drop}
use mathlib.Core.Path.{subst}
use mathlib.Core.Bool.{true≢false}
use Rattle.std.proofs.lemmas.List.Folds.{concat-append}
use Rattle.std.specs.List.{concat, AllByRecursion}
use Rattle.mx_xlog.specs.Blocks.{HasRoom, IsData, block_of, head_size, max_data_size}
use Rattle.mx_xlog.specs.Checksums.{checksum_of}
use Rattle.mx_xlog.specs.Heads.{block_head}
use Rattle.mx_row.specs.declared.tx.Tx.{Tx}
use Rattle.mx_row.specs.Rows.{IsTransaction, transaction_text, transactions_text, transactions_of}
use Rattle.mx_row.proofs.GroupLaws.{transactions_of-append, transactions_text-append}
use Rattle.mx_row.proofs.TextLaws.{transaction_length}
use Rattle.mx_journal.specs.Groups.{AllFull, AreGroups, HasLast, IsFull, Packed, Packs, blocks_text, last_block, whole_text}
use Rattle.mx_journal.specs.Packing.{IsBegunWith, Joins, MayEnd, parts_of}

-- a transaction fits into a block
pub transaction_data : (transaction : Tx) → IsTransaction transaction → IsData (transaction_text transaction)
transaction_data transaction is = let l = transaction_length transaction is in record { some = l.0; bounded = l.1 }

-- ---- groups of transactions

-- the rows of a group fit into a block
abbrev Fits : List Tx → Type 0
Fits group = IsData (transactions_text group)

pub all_joined : {X : Type 0} (P : X → Type 0) (xs ys : List X) → AllByRecursion P xs → AllByRecursion P ys → AllByRecursion P (xs ++ ys)
all_joined P [] ys first second = second
all_joined P (x ∷ xs) ys (is, first) second = (is, all_joined P xs ys first second)

all_parted : {X : Type 0} (P : X → Type 0) (xs ys : List X) → AllByRecursion P (xs ++ ys) → AllByRecursion P xs × AllByRecursion P ys
all_parted P [] ys all = (tt, all)
all_parted P (x ∷ xs) ys (is, all) = let (first, second) = all_parted P xs ys all in ((is, first), second)

pub groups_joined : (some more : List (List Tx)) (xs ys : List Tx) → AreGroups some xs → AreGroups more ys → AreGroups (some ++ more) (xs ++ ys)
groups_joined some more xs ys first second = record {
  together = transactions_of-append some more ∙ ap (λ l. l ++ transactions_of more) first.together ∙ ap (λ l. xs ++ l) second.together;
  fit = all_joined Fits some more first.fit second.fit;
}

-- a group of one transaction
abbrev alone : Tx → List (List Tx)
alone tx = (tx ∷ []) ∷ []

alone_fits : (tx : Tx) → IsTransaction tx → AreGroups (alone tx) (tx ∷ [])
alone_fits tx is = record {
  together = refl;
  fit = (subst IsData (sym (append-nil (transaction_text tx))) (transaction_data tx is), tt);
}

-- the rows of a group that got a transaction more
rows_grown : (group : List Tx) (tx : Tx) → transactions_text (group ++ tx ∷ []) ≡ transactions_text group ++ transaction_text tx
rows_grown group tx = transactions_text-append group (tx ∷ []) ∙ ap (λ rows. transactions_text group ++ rows) (append-nil (transaction_text tx))

-- the last group got a transaction more, which fits
last_grown : (earlier : List (List Tx)) (group transactions : List Tx) (tx : Tx) → AreGroups (earlier ++ group ∷ []) transactions
    → length (transactions_text group ++ transaction_text tx) ≤ max_data_size → AreGroups (earlier ++ (group ++ tx ∷ []) ∷ []) (transactions ++ tx ∷ [])
last_grown earlier group transactions tx are short =
    let before = transactions_of earlier in
    let fit = all_parted Fits earlier (group ∷ []) are.fit in
    let some : 1 ≤ length (transactions_text group) = fit.1.0.some in
    let fits : IsData (transactions_text group ++ transaction_text tx) =
    record { some = omega (arith, length-append (transactions_text group) (transaction_text tx)); bounded = short } in
    let was : before ++ group ≡ transactions =
    ap (λ l. before ++ l) (sym (append-nil group)) ∙ sym (transactions_of-append earlier (group ∷ [])) ∙ are.together in
    record {
      together = transactions_of-append earlier ((group ++ tx ∷ []) ∷ []) ∙ ap (λ l. before ++ l) (append-nil (group ++ tx ∷ []))
          ∙ sym (append_assoc before group (tx ∷ [])) ∙ ap (λ l. l ++ tx ∷ []) was;
      fit = all_joined Fits earlier ((group ++ tx ∷ []) ∷ []) fit.0 (subst IsData (sym (rows_grown group tx)) fits, tt);
    }

-- ---- full blocks

-- what doesn't fit into a block before is the first transaction of the next one
full_grown : (first : List Tx) (between : List (List Tx)) (group more : List Tx) → Fits group → IsFull first (between ++ group ∷ [])
    → IsFull first (between ++ (group ++ more) ∷ [])
full_grown first [] [] more fits full = absurd (omega (arith, fits.some))
full_grown first [] (tx ∷ txs) more fits full = full
full_grown first ([] ∷ between) group more fits full = tt
full_grown first ((tx ∷ txs) ∷ between) group more fits full = full

all_full_grown : (earlier : List (List Tx)) (group more : List Tx) → Fits group → AllFull (earlier ++ group ∷ []) → AllFull (earlier ++ (group ++ more) ∷ [])
all_full_grown [] group more fits full = (tt, tt)
all_full_grown (first ∷ earlier) group more fits (full, others) =
    (full_grown first earlier group more fits full, all_full_grown earlier group more fits others)

full_followed : (first : List Tx) (between : List (List Tx)) (group : List Tx) (more : List (List Tx)) → IsFull first (between ++ group ∷ [])
    → IsFull first (between ++ group ∷ [] ++ more)
full_followed first [] [] more full = tt
full_followed first [] (tx ∷ txs) more full = full
full_followed first ([] ∷ between) group more full = tt
full_followed first ((tx ∷ txs) ∷ between) group more full = full

all_full_followed : (earlier : List (List Tx)) (group : List Tx) (tx : Tx) → max_data_size < length (transactions_text (group ++ tx ∷ []))
    → AllFull (earlier ++ group ∷ []) → AllFull (earlier ++ group ∷ [] ++ alone tx)
all_full_followed [] group tx over full = (over, (tt, tt))
all_full_followed (first ∷ earlier) group tx over (full, others) =
    (full_followed first earlier group (alone tx) full, all_full_followed earlier group tx over others)

-- ---- the blocks of groups

abbrev pub block_text : List Tx → List ℕ
block_text group = block_of (transactions_text group)

pub blocks_text-append : (xs ys : List (List Tx)) → blocks_text (xs ++ ys) ≡ blocks_text xs ++ blocks_text ys
blocks_text-append xs ys = ap concat (map-append block_text xs ys) ∙ concat-append (map block_text xs) (map block_text ys)

-- a group more
blocks_text-push : (groups : List (List Tx)) (group : List Tx) → blocks_text (groups ++ group ∷ []) ≡ blocks_text groups ++ block_text group
blocks_text-push groups group = blocks_text-append groups (group ∷ []) ∙ ap (λ bytes. blocks_text groups ++ bytes) (append-nil (block_text group))

last_ended : (rows : List ℕ) → IsData rows → last_block rows ≡ block_of rows
last_ended [] is = absurd (omega (arith, is.some))
last_ended (byte ∷ bytes) is = refl

-- the groups of what is packed, a block each
pub waiting_blocks : (transactions : List Tx) (pack : Packed) (packs : Packs transactions pack) → whole_text pack ≡ blocks_text packs.groups
waiting_blocks transactions pack packs = by_parts packs.parts
  where
    by_parts : ((packs.groups ≡ []) × (whole_text pack ≡ [])) ⊎ HasLast packs.groups pack → whole_text pack ≡ blocks_text packs.groups
    by_parts (inl (none, nothing)) = nothing ∙ ap blocks_text (sym none)
    by_parts (inr last) =
        let fit = all_parted Fits last.earlier (last.group ∷ []) (subst (AllByRecursion Fits) last.whole packs.packed.grouped.fit) in
        ap (λ blocks. blocks ++ last_block pack.rows) last.blocks ∙ ap (λ rows. blocks_text last.earlier ++ last_block rows) last.rows
        ∙ ap (λ block. blocks_text last.earlier ++ block) (last_ended (transactions_text last.group) fit.1.0)
        ∙ sym (blocks_text-push last.earlier last.group) ∙ ap blocks_text (sym last.whole)

-- ---- a transaction more

abbrev pub is_none : List ℕ → Bool
is_none [] = true
is_none (byte ∷ bytes) = false

-- where all is nothing, no part is anything
no_parts : (blocks rows : List ℕ) → blocks ++ last_block rows ≡ [] → (blocks ≡ []) × (rows ≡ [])
no_parts [] [] none = (refl, refl)
no_parts [] (byte ∷ rows) none = absurd (true≢false (ap is_none (sym none)))
no_parts (byte ∷ blocks) rows none = absurd (true≢false (ap is_none (sym none)))

-- the first one
pushed_first : (transactions : List Tx) (tx : Tx) (groups : List (List Tx)) (after : Packed) → IsTransaction tx → AreGroups groups transactions → groups ≡ []
    → after ≡ record { blocks = []; rows = transaction_text tx } → Packs (transactions ++ tx ∷ []) after
pushed_first transactions tx groups after is are none made = record {
  groups = alone tx;
  packed = record {
    grouped = groups_joined [] (alone tx) transactions (tx ∷ []) (subst (λ some. AreGroups some transactions) none are) (alone_fits tx is);
    full = (tt, tt);
  };
  parts = inr (record {
    earlier = [];
    group = tx ∷ [];
    whole = refl;
    blocks = ap (λ pack. pack.blocks) made;
    rows = ap (λ pack. pack.rows) made ∙ sym (append-nil (transaction_text tx));
  });
}

-- one that was put behind the last block's rows
pub pushed_joined : (transactions : List Tx) (tx : Tx) (before after : Packed) → IsTransaction tx → Packs transactions before
    → Joins (transaction_text tx) before after true → Packs (transactions ++ tx ∷ []) after
pushed_joined transactions tx before after is packs (made, short) = by_parts packs.parts
  where
    by_parts : ((packs.groups ≡ []) × (whole_text before ≡ [])) ⊎ HasLast packs.groups before → Packs (transactions ++ tx ∷ []) after
    by_parts (inl (none, nothing)) =
        let (blocks, rows) = no_parts before.blocks before.rows nothing in
        pushed_first transactions tx packs.groups after is packs.packed.grouped none
        (made ∙ (λ i. record { blocks = blocks i; rows = rows i ++ transaction_text tx }))
    by_parts (inr last) =
        let are : AreGroups (last.earlier ++ last.group ∷ []) transactions = subst (λ groups. AreGroups groups transactions) last.whole packs.packed.grouped in
        let fit = all_parted Fits last.earlier (last.group ∷ []) are.fit in
        record {
          groups = last.earlier ++ (last.group ++ tx ∷ []) ∷ [];
          packed = record {
            grouped = last_grown last.earlier last.group transactions tx are
                (subst (λ rows. length (rows ++ transaction_text tx) ≤ max_data_size) last.rows short);
            full = all_full_grown last.earlier last.group (tx ∷ []) fit.1.0 (subst AllFull last.whole packs.packed.full);
          };
          parts = inr (record {
            earlier = last.earlier;
            group = last.group ++ tx ∷ [];
            whole = refl;
            blocks = ap (λ pack. pack.blocks) made ∙ last.blocks;
            rows = ap (λ pack. pack.rows) made ∙ ap (λ rows. rows ++ transaction_text tx) last.rows ∙ sym (rows_grown last.group tx);
          });
        }

-- where a block has rows, it is too full for these
over_last : (groups : List (List Tx)) (pack : Packed) (text : List ℕ) (last : HasLast groups pack) → Fits last.group
    → (pack.rows ≡ []) ⊎ (max_data_size < length (pack.rows ++ text)) → max_data_size < length (transactions_text last.group ++ text)
over_last groups pack text last fits (inl none) = absurd (omega (arith, fits.some, ap length (sym last.rows ∙ none)))
over_last groups pack text last fits (inr over) = subst (λ rows. max_data_size < length (rows ++ text)) last.rows over

-- one with which a block was begun, where there was no block, or it doesn't fit into the last one
pub pushed_begun : (transactions : List Tx) (tx : Tx) (before after : Packed) → IsTransaction tx → Packs transactions before
    → (before.rows ≡ []) ⊎ (max_data_size < length (before.rows ++ transaction_text tx))
    → after ≡ record { blocks = whole_text before; rows = transaction_text tx } → Packs (transactions ++ tx ∷ []) after
pushed_begun transactions tx before after is packs why made = by_parts packs.parts
  where
    by_parts : ((packs.groups ≡ []) × (whole_text before ≡ [])) ⊎ HasLast packs.groups before → Packs (transactions ++ tx ∷ []) after
    by_parts (inl (none, nothing)) =
        pushed_first transactions tx packs.groups after is packs.packed.grouped none
        (made ∙ ap (λ blocks. record { blocks = blocks; rows = transaction_text tx }) nothing)
    by_parts (inr last) =
        let fit = all_parted Fits last.earlier (last.group ∷ []) (subst (AllByRecursion Fits) last.whole packs.packed.grouped.fit) in
        record {
          groups = packs.groups ++ alone tx;
          packed = record {
            grouped = groups_joined packs.groups (alone tx) transactions (tx ∷ []) packs.packed.grouped (alone_fits tx is);
            full = subst (λ groups. AllFull (groups ++ alone tx)) (sym last.whole)
                (all_full_followed last.earlier last.group tx
                (subst (λ rows. max_data_size < length rows) (sym (rows_grown last.group tx))
                (over_last packs.groups before (transaction_text tx) last fit.1.0 why))
                (subst AllFull last.whole packs.packed.full));
          };
          parts = inr (record {
            earlier = packs.groups;
            group = tx ∷ [];
            whole = refl;
            blocks = ap (λ pack. pack.blocks) made ∙ waiting_blocks transactions before packs;
            rows = ap (λ pack. pack.rows) made ∙ sym (append-nil (transaction_text tx));
          });
        }

-- ---- the bytes of a pack

rows_within : (last : ℕ) (bytes : List ℕ) → MayEnd last bytes → ¬ (bytes ≡ [])
    → (last + head_size < length bytes) × (length bytes ≤ last + head_size + max_data_size)
rows_within last bytes (inl none) some = absurd (some none)
rows_within last bytes (inr within) some = within

-- behind the whole blocks, room for the last one's head and its rows
pub has_room : (last : ℕ) (bytes : List ℕ) → MayEnd last bytes → ¬ (bytes ≡ [])
    → HasRoom last (take last bytes) (drop (last + head_size) bytes) bytes
has_room last bytes may some =
    let within = rows_within last bytes may some in
    let front = take last bytes in
    let behind = drop last bytes in
    let room = take head_size behind in
    record {
      room = room;
      parts = sym (take-append-drop last bytes)
          ∙ ap (λ l. front ++ l) (sym (take-append-drop head_size behind) ∙ ap (λ l. room ++ l) (drop-drop head_size last bytes));
      place = length-take-le last bytes (omega (arith, within.0));
      size = length-take-le head_size behind (omega (arith, within.0, length-drop last bytes));
      sound = record {
        some = omega (arith, within.0, length-drop (last + head_size) bytes);
        bounded = omega (arith, within.1, length-drop (last + head_size) bytes);
      };
    }

-- where there are bytes, the last block has rows
pub some_rows : (last : ℕ) (bytes : List ℕ) → MayEnd last bytes → ¬ (bytes ≡ []) → ¬ (drop (last + head_size) bytes ≡ [])
some_rows last bytes may some none =
    let within = rows_within last bytes may some in
    omega (arith, within.0, ap length none, length-drop (last + head_size) bytes)

pub no_rows : (last : ℕ) (bytes : List ℕ) → bytes ≡ [] → drop (last + head_size) bytes ≡ []
no_rows last bytes none = drop_all (last + head_size) bytes (omega (arith, ap length none))

-- where nothing is packed there are no bytes
pub no_bytes : (last : ℕ) (bytes : List ℕ) → MayEnd last bytes → whole_text (parts_of last bytes) ≡ [] → bytes ≡ []
no_bytes last bytes (inl none) nothing = none
no_bytes last bytes (inr within) nothing = absurd (by_rows (drop (last + head_size) bytes) refl)
  where
    by_rows : (rows : List ℕ) → drop (last + head_size) bytes ≡ rows → ⊥
    by_rows [] is = some_rows last bytes (inr within) (λ none. omega (arith, within.0, ap length none)) is
    by_rows (row ∷ rows) is =
        let whole : take last bytes ++ block_of (row ∷ rows) ≡ [] = ap (λ l. take last bytes ++ last_block l) (sym is) ∙ nothing in
        omega (arith, ap length whole, length-append (take last bytes) (block_of (row ∷ rows)))

-- these are the bytes once the last block is ended, where there is one, and where it begins
pub record LastEnded (last : ℕ) (bytes : List ℕ) (at : ℕ) (ended : List ℕ) : Type 0 where
  pub whole : ended ≡ whole_text (parts_of last bytes)
  pub parts : parts_of at ended ≡ parts_of last bytes
  pub may : MayEnd at ended
  pub long : length ended ≡ length bytes

pub none_ended : (last : ℕ) (bytes : List ℕ) → bytes ≡ [] → LastEnded last bytes last bytes
none_ended last bytes none =
    let nothing : parts_of last bytes ≡ record { blocks = []; rows = [] } =
    λ i. record { blocks = (take_all last bytes (omega (arith, ap length none)) ∙ none) i; rows = no_rows last bytes none i } in
    record {
      whole = none ∙ sym (ap whole_text nothing);
      parts = refl;
      may = inl none;
      long = refl;
    }

pub nothing_packed : (last : ℕ) (bytes : List ℕ) → bytes ≡ [] → whole_text (parts_of last bytes) ≡ []
nothing_packed last bytes none = sym (none_ended last bytes none).whole ∙ none

pub block_ended : (last : ℕ) (bytes ended : List ℕ) → MayEnd last bytes → ¬ (bytes ≡ [])
    → ((before rows : List ℕ) → HasRoom last before rows bytes → ended ≡ before ++ block_of rows) → LastEnded last bytes last ended
block_ended last bytes ended may some ends =
    let within = rows_within last bytes may some in
    let front = take last bytes in
    let rows = drop (last + head_size) bytes in
    let head = block_head (length rows) (checksum_of rows) in
    let has = has_room last bytes may some in
    let made : ended ≡ front ++ (head ++ rows) = ends front rows has in
    let sized : length (front ++ head) ≡ last + head_size = length-append front head ∙ ap (λ n. n + head_size) has.place in
    let long : length ended ≡ length bytes =
    ap length (made ∙ sym (append_assoc front head rows)) ∙ length-append (front ++ head) rows
    ∙ omega (arith, within.0, sized, length-drop (last + head_size) bytes) in
    record {
      whole = made ∙ ap (λ block. front ++ block) (sym (last_ended rows has.sound));
      parts = ap (parts_of last) made ∙ (λ i. record {
        blocks = take_at front (head ++ rows) last has.place i;
        rows = (ap (drop (last + head_size)) (sym (append_assoc front head rows)) ∙ drop_at (front ++ head) rows (last + head_size) sized) i;
      });
      may = inr (omega (arith, within.0, long), omega (arith, within.1, long));
      long = long;
    }

-- another block that was begun behind them
pub block_begun : (last : ℕ) (bytes : List ℕ) (at : ℕ) (ended text after : List ℕ) → LastEnded last bytes at ended → IsBegunWith ended text after
    → parts_of (length bytes) after ≡ record { blocks = whole_text (parts_of last bytes); rows = text }
block_begun last bytes at ended text after is (room, sized, made) = λ i. record {
  blocks = (ap (take (length bytes)) made ∙ take_at ended (room ++ text) (length bytes) is.long ∙ is.whole) i;
  rows = (ap (drop (length bytes + head_size)) (made ∙ sym (append_assoc ended room text))
      ∙ drop_at (ended ++ room) text (length bytes + head_size) (length-append ended room ∙ omega (arith, is.long, sized))) i;
}

pub begun_may : (last : ℕ) (bytes : List ℕ) (at : ℕ) (ended text after : List ℕ) → LastEnded last bytes at ended → IsBegunWith ended text after → IsData text
    → MayEnd (length bytes) after
begun_may last bytes at ended text after is (room, sized, made) fits =
    let long : length after ≡ length bytes + head_size + length text =
    ap length made ∙ length-append ended (room ++ text) ∙ omega (arith, is.long, sized, length-append room text) in
    inr (omega (arith, long, fits.some), omega (arith, long, fits.bounded))
