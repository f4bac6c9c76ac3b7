use Rattle.std.proofs.Common.{rules, ◌≡◌, ◌<◌, ◌≤◌, true, false, length, take, insert, slice_get, slice_index_or, IfSome, All, subst, ap, ◌∙◌}
use Rattle.std.specs.Ordering.{nat_cmp, is_eq}
use Rattle.std.specs.Cmp.Lexicographic.{slice_cmp}
use Rattle.std.proofs.lemmas.Map.Text.{is_eq-slice_cmp}
use Rattle.mx_schema.specs.Stored.{stored_list}
use Rattle.mx_entries.proofs.WindowLaws.{IsBelow, IsNotBelow, IsOther, put_replaces, put_adds, there, none_past, set_same}
use Rattle.mx_slow_state.proofs.slow_state.put.Goals as goal
use Rattle.mx_slow_state.proofs.slow_state.put.Goals.{in_default-via-in-Some+else-eq, in_default-via-in-None-1}

pub returns-in-Some : goal.returns-in-Some
returns-in-Some c =
    let key = c.args.keyed.key in
    let within : c.place_of-place.result < length c.args.kept.now.items = search rules in
    let is : c.in-Some.found.now ≡ slice_index_or c.args.kept.now.items c.place_of-place.result c.in-Some.found.now = search rules in
    let tied : is_eq (slice_cmp nat_cmp c.in-Some.found.now.key key) ≡ true = search (rules, is_eq-slice_cmp) in
    let below : All (IsBelow key) (take c.place_of-place.result c.args.kept.now.items) =
    subst (λ l. All (IsBelow key) (take c.place_of-place.result l)) c.deref.ensures.value c.place_of-place.ensures.below in
    put_replaces key c.args.keyed.tuple c.args.kept.now.items c.place_of-place.result c.in-Some.found.now within is below tied

pub returns-in_ok-insert-in_default : goal.returns-in_ok-insert-in_default
returns-in_ok-insert-in_default c =
    let key = c.args.keyed.key in
    let items = c.args.kept.now.items in
    let place = c.place_of-place.result in
    let below : All (IsBelow key) (take place items) = subst (λ l. All (IsBelow key) (take place l)) c.deref.ensures.value c.place_of-place.ensures.below in
    let lower : IfSome (slice_get items place) (IsNotBelow key) =
    subst (λ l. IfSome (slice_get l place) (IsNotBelow key)) c.deref.ensures.value c.place_of-place.ensures.there in
    let added : c.insert.new.self.items ≡ insert c.in_default.kept.items place c.args.keyed = search rules in
    let same : c.in_default.kept.items ≡ items = elim c.in_default.branch [
      | in_default-via-in-Some+else-eq w ↦
          let is : w.in-Some.found.now ≡ slice_index_or items place w.in-Some.found.now = search rules in
          ap (λ vector. vector.items) w.kept-is ∙ set_same items place w.in-Some.found.now is
      | in_default-via-in-None-1 w ↦ search rules
    ] in
    let other : IfSome (slice_get items place) (IsOther key) = elim c.in_default.branch [
      | in_default-via-in-Some+else-eq w ↦
          let within : place < length items = search rules in
          let is : w.in-Some.found.now ≡ slice_index_or items place w.in-Some.found.now = search rules in
          let apart : is_eq (slice_cmp nat_cmp w.in-Some.found.now.key key) ≡ false = search (rules, is_eq-slice_cmp) in
          there (IsOther key) items place w.in-Some.found.now within is apart
      | in_default-via-in-None-1 w ↦
          let past : length items ≤ place = search rules in
          none_past (IsOther key) items place past
    ] in
    ap stored_list (added ∙ ap (λ l. insert l place c.args.keyed) same) ∙ put_adds key c.args.keyed.tuple items place below lower other
