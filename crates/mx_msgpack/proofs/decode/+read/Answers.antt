use Rattle.std.proofs.Common.{rules, ◌≡◌, ◌+◌, ◌-◌, ◌*◌, suc, Err, length, sym, ap, ◌∙◌, subst, arith, SFits}
use Rattle.std.specs.Int.{w128}
use Rattle.std.proofs.lemmas.Int.{to_z-of_z}
use Rattle.std.proofs.lemmas.Result.{err_from_is_err_and}
use Rattle.mx_msgpack.specs.declared.head.Head.TheVariants.{Str, Bin, Array, Map, Fixed, Extension}
use Rattle.mx_msgpack.specs.Reading.{after_bytes}
use Rattle.mx_msgpack.specs.Owned.{list_view, pair_list_view, value_list, pair_list, SpelledUpTo}
use Rattle.mx_msgpack.proofs.OwnedLaws.{array_view, map_view, count_list, count_pair_list}
use Rattle.mx_msgpack.proofs.TakingLaws.{nil_found, bool_found, int_found, str_found, bin_found, fixed_found, extension_found, array_found, map_found, told_bad, told_read_bad, head_fault, content_fault, room_fault, inside_fault, came_on, pairs_came_on, member_fault}
use Rattle.mx_msgpack.proofs.decode.+read.Goals as goal

-- ---- what was read

pub read_any-returns-in-Nil-clause-found : goal.read_any-returns-in-Nil-clause-found
read_any-returns-in-Nil-clause-found t c = nil_found c.args.room _ c.args.bytes.now c.in_ok-head.after.now (rw c.in-Nil.is at c.in_ok-head.ensures.exact)

pub read_any-returns-in-Bool-clause-found : goal.read_any-returns-in-Bool-clause-found
read_any-returns-in-Bool-clause-found t c =
    bool_found c.args.room _ c.in-Bool.truth c.args.bytes.now c.in_ok-head.after.now (rw c.in-Bool.is at c.in_ok-head.ensures.exact)

pub read_any-returns-in-Int-clause-found : goal.read_any-returns-in-Int-clause-found
read_any-returns-in-Int-clause-found t c =
    let fits : SFits w128 c.in-Int.number = search rules in
    rw (to_z-of_z w128 c.in-Int.number fits)
    (int_found c.args.room _ c.in-Int.number c.args.bytes.now c.in_ok-head.after.now (rw c.in-Int.is at c.in_ok-head.ensures.exact))

pub read_any-returns-in_ok-text-in-Str-clause-found : goal.read_any-returns-in_ok-text-in-Str-clause-found
read_any-returns-in_ok-text-in-Str-clause-found t c =
    let f = c.in_ok-text-in-Str.ensures.found in
    str_found c.args.room _ c.in-Str.size c.args.bytes.now c.in_ok-head.after.now c.in_ok-text-in-Str.text c.in_ok-text-in-Str.rest.now
    (rw c.in-Str.is at c.in_ok-head.ensures.exact) f.0 f.1 f.2 f.3

pub read_any-returns-in_ok-content-in-Bin-clause-found : goal.read_any-returns-in_ok-content-in-Bin-clause-found
read_any-returns-in_ok-content-in-Bin-clause-found t c =
    let f = c.in_ok-content-in-Bin.ensures.found in
    bin_found c.args.room _ c.in-Bin.size c.args.bytes.now c.in_ok-head.after.now c.in_ok-content-in-Bin.content c.in_ok-content-in-Bin.rest.now
    (rw c.in-Bin.is at c.in_ok-head.ensures.exact) f.0 f.1 f.2 f.3

pub read_any-returns-in_ok-values-in-Array-clause-found : goal.read_any-returns-in_ok-values-in-Array-clause-found
read_any-returns-in_ok-values-in-Array-clause-found t c =
    let values = c.in_ok-values-in-Array.values in
    let rest = c.in_ok-values-in-Array.rest.now in
    let inner = c.in_ok-inner-in-Array.ensures.found in
    let f = c.in_ok-values-in-Array.ensures.found in
    subst (λ v. SpelledUpTo c.args.room v c.args.bytes.now rest) (sym (array_view values))
    (array_found c.args.room c.in_ok-inner-in-Array.inner _ c.in-Array.count c.args.bytes.now c.in_ok-head.after.now rest (list_view (value_list values))
    (rw c.in-Array.is at c.in_ok-head.ensures.exact) inner.0 inner.1 (count_list (value_list values) ∙ f.0) f.1)

pub read_any-returns-in_ok-pairs-in-Map-clause-found : goal.read_any-returns-in_ok-pairs-in-Map-clause-found
read_any-returns-in_ok-pairs-in-Map-clause-found t c =
    let pairs = c.in_ok-pairs-in-Map.pairs in
    let rest = c.in_ok-pairs-in-Map.rest.now in
    let inner = c.in_ok-inner-in-Map.ensures.found in
    let f = c.in_ok-pairs-in-Map.ensures.found in
    subst (λ v. SpelledUpTo c.args.room v c.args.bytes.now rest) (sym (map_view pairs))
    (map_found c.args.room c.in_ok-inner-in-Map.inner _ c.in-Map.count c.args.bytes.now c.in_ok-head.after.now rest (pair_list_view (pair_list pairs))
    (rw c.in-Map.is at c.in_ok-head.ensures.exact) inner.0 inner.1 (count_pair_list (pair_list pairs) ∙ f.0) f.1)

pub read_any-returns-in_ok-spelling-in-Fixed-clause-found : goal.read_any-returns-in_ok-spelling-in-Fixed-clause-found
read_any-returns-in_ok-spelling-in-Fixed-clause-found t c =
    let f = rw c.from-in-Fixed.ensures at c.in_ok-spelling-in-Fixed.ensures.found in
    fixed_found c.args.room _ c.in-Fixed.size c.args.bytes.now c.in_ok-head.after.now c.in_ok-spelling-in-Fixed.spelling c.in_ok-spelling-in-Fixed.rest.now
    (rw c.in-Fixed.is at c.in_ok-head.ensures.exact) f.1 f.2 f.3

pub read_any-returns-in_ok-spelling-in-Extension-clause-found : goal.read_any-returns-in_ok-spelling-in-Extension-clause-found
read_any-returns-in_ok-spelling-in-Extension-clause-found t c =
    let f = c.in_ok-spelling-in-Extension.ensures.found in
    extension_found c.args.room _ c.in-Extension.size c.args.bytes.now c.in_ok-head.after.now c.in_ok-spelling-in-Extension.spelling c.in_ok-spelling-in-Extension.rest.now
    (rw c.in-Extension.is at c.in_ok-head.ensures.exact) f.0 f.1 f.2 f.3

-- ---- faults

pub read_any-returns-in_err-head-clause-fault : goal.read_any-returns-in_err-head-clause-fault
read_any-returns-in_err-head-clause-fault t c = λ bad e.
    let p = err_from_is_err_and c.from_residual.result c.from_residual.ensures.1 in
    let same = told_bad c.from_residual.result p.0 c.in_err-head.field-0.0 bad p.1 p.2 e in
    head_fault c.args.total c.args.room c.args.bytes.now bad (rw same at c.in_err-head.ensures.exact)

pub read_any-returns-in_err-text-in-Str-clause-fault : goal.read_any-returns-in_err-text-in-Str-clause-fault
read_any-returns-in_err-text-in-Str-clause-fault t c = λ bad e.
    let r = c.from_residual-in_err-text-in-Str in
    let p = err_from_is_err_and r.result r.ensures.1 in
    let same = told_read_bad r.result p.0 c.in_err-text-in-Str.field-0.0 bad p.1 p.2 e in
    content_fault c.args.total c.args.room c.args.bytes.now c.in_ok-head.after.now (Str c.in-Str.size) bad
    (rw c.in-Str.is at c.in_ok-head.ensures.exact) (c.in_err-text-in-Str.ensures.fault bad (ap (λ x. Err x) same))

pub read_any-returns-in_err-content-in-Bin-clause-fault : goal.read_any-returns-in_err-content-in-Bin-clause-fault
read_any-returns-in_err-content-in-Bin-clause-fault t c = λ bad e.
    let r = c.from_residual-in_err-content-in-Bin in
    let p = err_from_is_err_and r.result r.ensures.1 in
    let same = told_read_bad r.result p.0 c.in_err-content-in-Bin.field-0.0 bad p.1 p.2 e in
    content_fault c.args.total c.args.room c.args.bytes.now c.in_ok-head.after.now (Bin c.in-Bin.size) bad
    (rw c.in-Bin.is at c.in_ok-head.ensures.exact) (c.in_err-content-in-Bin.ensures.fault bad (ap (λ x. Err x) same))

pub read_any-returns-in_err-inner-in-Array-clause-fault : goal.read_any-returns-in_err-inner-in-Array-clause-fault
read_any-returns-in_err-inner-in-Array-clause-fault t c = λ bad e.
    let r = c.from_residual-in_err-inner-in-Array in
    let p = err_from_is_err_and r.result r.ensures.1 in
    let same = told_bad r.result p.0 c.in_err-inner-in-Array.field-0.0 bad p.1 p.2 e in
    let at = c.args.total - length c.args.bytes.now in
    let why = rw same at c.in_err-inner-in-Array.ensures.fault in
    content_fault c.args.total c.args.room c.args.bytes.now c.in_ok-head.after.now (Array c.in-Array.count) bad
    (rw c.in-Array.is at c.in_ok-head.ensures.exact) (room_fault c.args.total c.args.room at c.in-Array.count c.in-Array.count c.in_ok-head.after.now bad why)

pub read_any-returns-in_err-values-in-Array-clause-fault : goal.read_any-returns-in_err-values-in-Array-clause-fault
read_any-returns-in_err-values-in-Array-clause-fault t c = λ bad e.
    let r = c.from_residual-in_err-values-in-Array in
    let p = err_from_is_err_and r.result r.ensures.1 in
    let same = told_read_bad r.result p.0 c.in_err-values-in-Array.field-0.0 bad p.1 p.2 e in
    let at = c.args.total - length c.args.bytes.now in
    let inner = c.in_ok-inner-in-Array.ensures.found in
    content_fault c.args.total c.args.room c.args.bytes.now c.in_ok-head.after.now (Array c.in-Array.count) bad
    (rw c.in-Array.is at c.in_ok-head.ensures.exact)
    (inside_fault c.args.total c.args.room c.in_ok-inner-in-Array.inner at c.in-Array.count c.in-Array.count c.in_ok-head.after.now bad inner.0 inner.1
    (c.in_err-values-in-Array.ensures.fault bad (ap (λ x. Err x) same)))

pub read_any-returns-in_err-inner-in-Map-clause-fault : goal.read_any-returns-in_err-inner-in-Map-clause-fault
read_any-returns-in_err-inner-in-Map-clause-fault t c = λ bad e.
    let r = c.from_residual-in_err-inner-in-Map in
    let p = err_from_is_err_and r.result r.ensures.1 in
    let same = told_bad r.result p.0 c.in_err-inner-in-Map.field-0.0 bad p.1 p.2 e in
    let at = c.args.total - length c.args.bytes.now in
    let why = rw same at c.in_err-inner-in-Map.ensures.fault in
    content_fault c.args.total c.args.room c.args.bytes.now c.in_ok-head.after.now (Map c.in-Map.count) bad
    (rw c.in-Map.is at c.in_ok-head.ensures.exact) (room_fault c.args.total c.args.room at c.in-Map.count (2 * c.in-Map.count) c.in_ok-head.after.now bad why)

pub read_any-returns-in_err-pairs-in-Map-clause-fault : goal.read_any-returns-in_err-pairs-in-Map-clause-fault
read_any-returns-in_err-pairs-in-Map-clause-fault t c = λ bad e.
    let r = c.from_residual-in_err-pairs-in-Map in
    let p = err_from_is_err_and r.result r.ensures.1 in
    let same = told_read_bad r.result p.0 c.in_err-pairs-in-Map.field-0.0 bad p.1 p.2 e in
    let at = c.args.total - length c.args.bytes.now in
    let inner = c.in_ok-inner-in-Map.ensures.found in
    content_fault c.args.total c.args.room c.args.bytes.now c.in_ok-head.after.now (Map c.in-Map.count) bad
    (rw c.in-Map.is at c.in_ok-head.ensures.exact)
    (inside_fault c.args.total c.args.room c.in_ok-inner-in-Map.inner at c.in-Map.count (2 * c.in-Map.count) c.in_ok-head.after.now bad inner.0 inner.1
    (c.in_err-pairs-in-Map.ensures.fault bad (ap (λ x. Err x) same)))

pub read_any-returns-in_err-spelling-in-Fixed-clause-fault : goal.read_any-returns-in_err-spelling-in-Fixed-clause-fault
read_any-returns-in_err-spelling-in-Fixed-clause-fault t c = λ bad e.
    let r = c.from_residual-in_err-spelling-in-Fixed in
    let p = err_from_is_err_and r.result r.ensures.1 in
    let same = told_read_bad r.result p.0 c.in_err-spelling-in-Fixed.field-0.0 bad p.1 p.2 e in
    content_fault c.args.total c.args.room c.args.bytes.now c.in_ok-head.after.now (Fixed c.in-Fixed.size) bad
    (rw c.in-Fixed.is at c.in_ok-head.ensures.exact)
    (rw (c.from-in-Fixed.ensures, c.from.ensures) at c.in_err-spelling-in-Fixed.ensures.fault bad (ap (λ x. Err x) same))

pub read_any-returns-in_err-spelling-in-Extension-clause-fault : goal.read_any-returns-in_err-spelling-in-Extension-clause-fault
read_any-returns-in_err-spelling-in-Extension-clause-fault t c = λ bad e.
    let r = c.from_residual-in_err-spelling-in-Extension in
    let p = err_from_is_err_and r.result r.ensures.1 in
    let same = told_read_bad r.result p.0 c.in_err-spelling-in-Extension.field-0.0 bad p.1 p.2 e in
    let more : suc c.in-Extension.size ≡ c.in-Extension.size + 1 = omega arith in
    content_fault c.args.total c.args.room c.args.bytes.now c.in_ok-head.after.now (Extension c.in-Extension.size) bad
    (rw c.in-Extension.is at c.in_ok-head.ensures.exact)
    (ap (λ n. after_bytes (c.args.total - length c.args.bytes.now) c.in-Extension.size n c.in_ok-head.after.now) more
    ∙ c.in_err-spelling-in-Extension.ensures.fault bad (ap (λ x. Err x) same))

-- ---- values and pairs in a row

pub read_values-loop-left-preserved : goal.read_values-loop-left-preserved
read_values-loop-left-preserved t c = (
  came_on c.args.total c.args.room c.args.count c.args.bytes.now c.loop-left.left (value_list c.loop-left.values) (value_list c.push.new.self) c.in_ok-value.value
      c.loop-left.rest.now c.in_ok-value.after.now c.loop-left.invariant.0 (omega (arith, c.loop-left-test.true)) c.in_ok-push.ensures.ok c.in_ok-value.ensures.found,
  omega (arith, c.loop-left.invariant.1, c.in_ok-value.ensures.shorter),
)

pub read_pairs-loop-left-preserved : goal.read_pairs-loop-left-preserved
read_pairs-loop-left-preserved t c = (
  pairs_came_on c.args.total c.args.room c.args.count c.args.bytes.now c.loop-left.left (pair_list c.loop-left.pairs) (pair_list c.push.new.self)
      (c.in_ok-key.key, c.in_ok-value.value) c.loop-left.rest.now c.in_ok-key.middle.now c.in_ok-value.after.now c.loop-left.invariant.0
      (omega (arith, c.loop-left-test.true)) c.in_ok-push.ensures.ok c.in_ok-key.ensures.found c.in_ok-value.ensures.found,
  omega (arith, c.loop-left.invariant.1, c.in_ok-key.ensures.shorter, c.in_ok-value.ensures.shorter),
)

pub read_pairs-returns-in_err-value-clause-fault : goal.read_pairs-returns-in_err-value-clause-fault
read_pairs-returns-in_err-value-clause-fault t c = λ bad e.
    let r = c.from_residual-in_err-value in
    let p = err_from_is_err_and r.result r.ensures.1 in
    let same = told_read_bad r.result p.0 c.in_err-value.field-0.0 bad p.1 p.2 e in
    member_fault c.args.total c.args.room c.args.count c.args.bytes.now c.loop-left.left (pair_list c.loop-left.pairs) c.in_ok-key.key c.loop-left.rest.now
    c.in_ok-key.middle.now bad c.loop-left.invariant.0 (omega (arith, c.loop-left-test.true)) c.in_ok-key.ensures.found
    (c.in_err-value.ensures.fault bad (ap (λ x. Err x) same))
