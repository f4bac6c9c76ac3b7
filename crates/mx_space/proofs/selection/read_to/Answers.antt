use Rattle.std.proofs.Common.{rules, ◌≡◌, ◌≢◌, ◌<◌, ℕ, List, Some, Option, length, map, refl, sym, ap, ◌∙◌, [], is_some}
use mathlib.Core.Bool.{true≢false}
use Rattle.std.specs.Option.{IfSome, option_map, unwrap_or}
use Rattle.mx_key.specs.declared.edge.KeyRange.{KeyRange}
use Rattle.mx_key.specs.Comparable.{comparable_of, edges_of}
use Rattle.mx_key.specs.Keys.{Key, AreFit}
use Rattle.mx_key.specs.Ranges.{AreFitEnds, descends, range_of, range_until}
use Rattle.mx_key.proofs.RangeLaws.{range_holds}
use Rattle.mx_schema.specs.Picks.{Indexed}
use Rattle.mx_schema.specs.Stored.{StoredTuple, stored_tuple}
use Rattle.mx_entries.specs.declared.pick.Pick.{Pick}
use Rattle.mx_entries.specs.Scans.{picked_of}
use Rattle.mx_entries.specs.Windows.{AreFitEntries, IsCollected, found_in, last_key_of}
use Rattle.mx_entries.proofs.PickLaws.{HoldsItsKeys, ReadsTo, fit_ends, reads_to_end, reads_to_last, tuples_are_picked, read_fit}
use Rattle.mx_space.proofs.selection.read_to.Goals as goal

module _ (all : List Indexed) (wanted : Pick) (key : Key) (fits : AreFitEntries all) (fit : AreFit key) (range : KeyRange) (edges : range ≡ edges_of (range_of wanted.iterator key))
    (tuples : List (List ℕ)) (end : Option (List ℕ)) (found : IsCollected tuples (found_in (map stored_tuple all) range wanted.iterator wanted.offset wanted.limit) end) where
  law : HoldsItsKeys (range_of wanted.iterator key)
  law = λ sought f. range_holds (range_of wanted.iterator key) sought (fit_ends wanted.iterator key fit) f

  gone : found_in (map stored_tuple all) range wanted.iterator wanted.offset wanted.limit ≡ found_in (map stored_tuple all) (edges_of (range_of wanted.iterator key)) wanted.iterator wanted.offset wanted.limit
  gone = ap (λ r. found_in (map stored_tuple all) r wanted.iterator wanted.offset wanted.limit) edges

  are_picked : tuples ≡ (picked_of all wanted key).tuples
  are_picked = found.0 ∙ ap (map (λ (entry : StoredTuple). entry.1)) gone
      ∙ tuples_are_picked wanted.iterator key law all fits (map stored_tuple all) refl wanted.offset wanted.limit

  ends_fit : IfSome (picked_of all wanted key).read AreFitEnds
  ends_fit = read_fit wanted.iterator key wanted.offset wanted.limit all fit fits

  module _ (more : 0 < wanted.limit) where
    -- where as many were found as were asked for, the last one's key is there
    ended : length tuples ≡ wanted.limit → ReadsTo (found_in (map stored_tuple all) (edges_of (range_of wanted.iterator key)) wanted.iterator wanted.offset wanted.limit)
        (descends wanted.iterator) (range_of wanted.iterator key) (picked_of all wanted key).read
    ended full = reads_to_last wanted.iterator key law all fits (map stored_tuple all) refl wanted.offset wanted.limit more (ap length (sym are_picked) ∙ full)

    to_end : length tuples ≢ wanted.limit → (picked_of all wanted key).read ≡ Some (range_of wanted.iterator key)
    to_end short = reads_to_end wanted.iterator key law all fits (map stored_tuple all) refl wanted.offset wanted.limit more (λ full. short (ap length are_picked ∙ full))

pub returns-in_ok-end_with : goal.returns-in_ok-end_with
returns-in_ok-end_with c all key fits fit edges found =
    let wanted = c.args.wanted.now in
    let range = c.args.range.now in
    let tuples = c.args.found.now in
    let end = option_map (λ key. key.now) c.args.last in
    let to = ended all wanted key fits fit range edges tuples end found c.requires (search rules) in
    let last : end ≡ Some (comparable_of to.last) =
    found.2 ∙ ap last_key_of (gone all wanted key fits fit range edges tuples end found) ∙ to.is in
    let told : c.in-Some.last.now ≡ comparable_of to.last = ap (λ o. unwrap_or (option_map (λ key. key.now) o) []) (sym c.in-Some.is) ∙ ap (λ o. unwrap_or o []) last in
    let ended_is = c.in_ok-end_with.ensures.ended (range_of wanted.iterator key) to.last edges told in (
      are_picked all wanted key fits fit range edges tuples end found,
      found.1,
      ap Some (ended_is ∙ ap (λ d. edges_of (range_until d to.last (range_of wanted.iterator key))) c.descends.ensures) ∙ ap (option_map edges_of) (sym to.read_is),
      ends_fit all wanted key fits fit range edges tuples end found,
    )

pub returns-in_default : goal.returns-in_default
returns-in_default c all key fits fit edges found =
    let wanted = c.args.wanted.now in
    let range = c.args.range.now in
    let tuples = c.args.found.now in
    let end = option_map (λ key. key.now) c.args.last in
    let to = ended all wanted key fits fit range edges tuples end found c.requires (search rules) in
    let last = found.2 ∙ ap last_key_of (gone all wanted key fits fit range edges tuples end found) ∙ to.is in
    absurd (true≢false (ap is_some (sym last) ∙ ap (λ o. is_some (option_map (λ key. key.now) o)) c.in_default.is))

pub returns-else-len-wanted : goal.returns-else-len-wanted
returns-else-len-wanted c all key fits fit edges found =
    let wanted = c.args.wanted.now in
    let range = c.args.range.now in
    let tuples = c.args.found.now in
    let end = option_map (λ key. key.now) c.args.last in
    let to = to_end all wanted key fits fit range edges tuples end found c.requires (search rules) in (
      are_picked all wanted key fits fit range edges tuples end found,
      found.1,
      ap Some edges ∙ ap (option_map edges_of) (sym to),
      ends_fit all wanted key fits fit range edges tuples end found,
    )
