-- What making a directory durable does.
use Rattle.std.proofs.Common.{◌≡◌, ℕ, Bool, true, false, cond, ◌&&◌, ◌||◌, List, ◌∷◌, refl, sym, ap, ◌∙◌, subst}
use Rattle.std.specs.Prelude.{Option, Some, None, is_some, Result, Ok, Err, MatchResult, OnOk, codes}
use Rattle.std.specs.FinMap as finite
use Rattle.mx_outside.specs.Disks.{File, Disk, IfKnown, KnownAlike, Makes, Became, Stayed, file_synced, names_synced, removed}
use Rattle.mx_files.specs.Names.{is_journal, is_draft, is_numbered}
use Rattle.mx_files.proofs.NameLaws.{one_ending, draft_is_no_journal}
use Rattle.mx_images.specs.Changes.{IsNow}
use Rattle.mx_images.proofs.ContentLaws.{whole}
use Rattle.mx_recover.specs.Durability.{MadeDurable}
use Rattle.mx_recover.specs.Turns.{after_turns, AreThere}
use Rattle.mx_recover.proofs.PassingLaws.{Reached, where_told, at_told, at_now}
use Rattle.mx_recover.proofs.TurnLaws.{among, among_keys, keys_apart, IsApart, are_there, at_turns, whole_again, at_synced, gone, at_removed}

journal_is_no_draft : (name : List ℕ) → is_journal name ≡ true → is_draft name ≡ false
journal_is_no_draft name is =
    ap (λ b. b || is_numbered (codes ".snap.inprogress") name) (one_ending (codes ".xlog") (codes ".xlog.inprogress") name is refl)
    ∙ one_ending (codes ".xlog") (codes ".snap.inprogress") name is refl

whole_where_some : (file : Option File) → cond (is_some file) (whole file) file ≡ whole file
whole_where_some None = refl
whole_where_some (Some file) = refl

none_where_some : (file : Option File) → cond (is_some file) None file ≡ None
none_where_some None = refl
none_where_some (Some file) = refl

some_still : (b : Bool) (file : Option File) → is_some (cond b (whole file) file) ≡ is_some file
some_still true None = refl
some_still true (Some file) = refl
some_still false file = refl

module _ (disk : Disk) (names : List (List ℕ)) (all : names ≡ finite.keys disk.now) where
  abbrev synced : Disk
  synced = after_turns is_journal file_synced names disk

  abbrev emptied : Disk
  emptied = after_turns is_draft removed names synced

  named : (q : List ℕ) → among q names ≡ is_some (finite.get disk.now q)
  named q = ap (among q) all ∙ sym (among_keys disk.now q)

  apart : IsApart names
  apart = subst IsApart (sym all) (keys_apart disk.now)

  in_synced : (q : List ℕ) → finite.get synced.now q
      ≡ cond (is_journal q && is_some (finite.get disk.now q)) (whole (finite.get disk.now q)) (finite.get disk.now q)
  in_synced q =
      at_turns is_journal file_synced whole at_synced whole_again names q disk
      ∙ ap (λ b. cond (is_journal q && b) (whole (finite.get disk.now q)) (finite.get disk.now q)) (named q)

  in_emptied : (q : List ℕ) → finite.get emptied.now q ≡ cond (is_draft q && is_some (finite.get disk.now q)) None (finite.get synced.now q)
  in_emptied q =
      at_turns is_draft removed gone at_removed (λ file. refl) names q synced
      ∙ ap (λ b. cond (is_draft q && b) None (finite.get synced.now q)) (named q)

  -- a file that is no draft stays, and one that is no journal is as it was
  no_draft : (q : List ℕ) → is_draft q ≡ false → finite.get emptied.now q ≡ finite.get synced.now q
  no_draft q is = in_emptied q ∙ ap (λ b. cond (b && is_some (finite.get disk.now q)) None (finite.get synced.now q)) is

  no_journal : (q : List ℕ) → is_journal q ≡ false → finite.get synced.now q ≡ finite.get disk.now q
  no_journal q is =
      in_synced q ∙ ap (λ b. cond (b && is_some (finite.get disk.now q)) (whole (finite.get disk.now q)) (finite.get disk.now q)) is

  a_journal : (q : List ℕ) → is_journal q ≡ true → finite.get synced.now q ≡ whole (finite.get disk.now q)
  a_journal q is =
      in_synced q ∙ ap (λ b. cond (b && is_some (finite.get disk.now q)) (whole (finite.get disk.now q)) (finite.get disk.now q)) is
      ∙ whole_where_some (finite.get disk.now q)

  a_draft : (q : List ℕ) → is_draft q ≡ true → finite.get emptied.now q ≡ None
  a_draft q is =
      in_emptied q
      ∙ ap (λ b. cond (b && is_some (finite.get disk.now q)) None (finite.get synced.now q)) is
      ∙ ap (λ file. cond (is_some (finite.get disk.now q)) None file) (no_journal q (draft_is_no_journal q is))
      ∙ none_where_some (finite.get disk.now q)

  pub durable : MadeDurable disk (names_synced emptied)
  durable = record {
    journals = λ q is. no_draft q (journal_is_no_draft q is) ∙ a_journal q is;
    drafts = a_draft;
    others = λ q journal draft. no_draft q draft ∙ no_journal q journal;
    older = refl;
  }

  pub journals_there : AreThere is_journal file_synced names disk
  journals_there = are_there is_journal file_synced whole at_synced names disk apart (λ q is. sym (named q) ∙ is)

  pub drafts_there : AreThere is_draft removed names synced
  drafts_there = are_there is_draft removed gone at_removed names synced apart
      (λ q is. ap is_some (in_synced q) ∙ some_still _ (finite.get disk.now q) ∙ sym (named q) ∙ is)

-- The same of what is known.
module _ (names : List (List ℕ)) (before : Option (List Disk)) (all : IfKnown before (λ disk past. names ≡ finite.keys disk.now)) where
  pub journals_come : IfKnown before (λ disk past. AreThere is_journal file_synced names disk)
  journals_come = where_told before (λ disk past told. journals_there disk names (at_told _ before disk past told all))

  pub drafts_come : (now : Option (List Disk)) → KnownAlike before now → Reached (after_turns is_journal file_synced names) before now
      → IfKnown now (λ disk past. AreThere is_draft removed names disk)
  drafts_come now alike reached = where_told now (λ next later told.
      let was = alike.1 (next, later, told) in
      let is = at_now now next later told (at_told _ before was.0 was.1 was.2 reached) in
      subst (AreThere is_draft removed names) (sym is) (drafts_there was.0 names (at_told _ before was.0 was.1 was.2 all)))

  pub makes_durable : {T E : Type 0} → (now next last : Option (List Disk)) (result : Result T E)
      → Reached (after_turns is_journal file_synced names) before now → Reached (after_turns is_draft removed names) now next
      → Makes names_synced next last result → IfKnown before (λ disk past. OnOk result (IsNow last (MadeDurable disk)))
  makes_durable {T} {E} now next last result synced emptied makes = where_told before (λ disk past told.
      let first = at_told _ before disk past told synced in
      let second = at_told _ now first.0 first.1 first.2 emptied in
      let is : second.0 ≡ after_turns is_draft removed names (after_turns is_journal file_synced names disk) =
      second.3 ∙ ap (after_turns is_draft removed names) first.3 in
      by_result disk second.0 second.1 result
      (subst (λ d. MadeDurable disk (names_synced d)) (sym is) (durable disk names (at_told _ before disk past told all)))
      (at_told _ next second.0 second.1 second.2 makes))
    where
      by_result : (disk d : Disk) (past : List Disk) (r : Result T E) → MadeDurable disk (names_synced d)
          → MatchResult r (λ value. Became last (names_synced d) d past) (λ error. Stayed last d past)
          → OnOk r (IsNow last (MadeDurable disk))
      by_result disk d past (Ok value) is became = (names_synced d, d ∷ past, became, is)
      by_result disk d past (Err error) is stayed = tt
