use Rattle.std.proofs.Common.{◌≡◌, ◌++◌, ℕ, Some, Result, Ok, Err, drop, length, take, sym, ap, ◌∙◌, subst}
use Rattle.std.specs.Prelude.{MatchResult}
use Rattle.std.specs.BTreeMap.{is_at}
use Rattle.std.specs.Cmp.Lexicographic.{slice_cmp}
use Rattle.std.specs.Map.{lookup}
use Rattle.std.specs.Ordering.{nat_cmp}
use Rattle.std.specs.Result.{OkIff, result_ok}
use Rattle.std.proofs.Math.Seq.{drop-append_seam, take-append_seam}
use Rattle.mx_msgpack.proofs.Options.{same_some}
use Rattle.mx_entries.specs.Entries.{LeadsTo}
use Rattle.mx_space.proofs.HashFindLaws.{first_found}
use Rattle.mx_entries.proofs.SortedLaws.{ascending}
use Rattle.mx_space.proofs.hash_index.waiting.Goals as goal

match_ok : {A E : Type 0} (P : A → Type 0) (Q : E → Type 0) (r : Result A E) (a : A) → Some a ≡ result_ok r → MatchResult r P Q → P a
match_ok P Q (Ok x) a is holds = subst P (sym (same_some a x is)) holds
match_ok P Q (Err why) a is holds = absurd cc

fits_ok : (P : Type 0) (n : ℕ) {E : Type 0} (r : Result ℕ E) (a : ℕ) → Some a ≡ result_ok r → OkIff r P n → a ≡ n
fits_ok P n (Ok x) a is fits = same_some a x is ∙ fits.1
fits_ok P n (Err why) a is fits = absurd cc

pub returns-clause-waits : goal.returns-clause-waits
returns-clause-waits c =
    let key = c.args.key.now in
    let own = take c.args.begin key in
    let primary = c.in_ok-primary.primary.now in
    let copied : c.in_ok-own.own ≡ key = match_ok (λ copy. copy ≡ key) _ c.clone.result c.in_ok-own.own c.in_ok-own.ensures.value c.clone.ensures.cases in
    let begun : c.truncate.new.self ≡ own = c.truncate.ensures ∙ ap (take c.args.begin) copied in
    let leads : LeadsTo c.truncate.new.self c.args.others.now (Some primary) = c.in_ok-primary.ensures.primary in
    let first = first_found c.truncate.new.self c.args.others.now (ascending (slice_cmp nat_cmp) c.args.others.now c.len.ensures.ordered) (c.truncate.new.self ++ primary, primary) leads in
    let joined : c.extend_from_slice.new.self ≡ c.truncate.new.self ++ primary = match_ok _ _ c.extend_from_slice.result c.in_ok-ok.field-0 c.in_ok-ok.ensures.value c.extend_from_slice.ensures in
    let size : c.in_ok-begin.begin ≡ length c.truncate.new.self = fits_ok _ _ c.try_from.result c.in_ok-begin.begin c.in_ok-begin.ensures.value c.try_from.ensures ∙ c.len-2.ensures in (
      size ∙ ap length begun,
      (λ i. take (size i) (joined i)) ∙ take-append_seam c.truncate.new.self primary ∙ begun,
      ap (λ k. lookup (is_at (slice_cmp nat_cmp k)) c.args.others.now) joined ∙ first.0
          ∙ ap Some (sym ((λ i. drop (size i) (joined i)) ∙ drop-append_seam c.truncate.new.self primary)),
    )
