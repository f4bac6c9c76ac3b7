use Rattle.std.proofs.Common.{Some, sym, ap, ◌∙◌, subst}
use Rattle.mx_msgpack.specs.Spelling.{AreBytes}
use Rattle.mx_request.specs.Spelling.{IsAskable}
use Rattle.mx_write.specs.Writes.{Insert, Replace, Update, Delete, Upsert, TupleIsBytes, write_in}
use Rattle.mx_write.proofs.KeyNameLaws.{as_sent}
use Rattle.mx_write.proofs.write.write_of_request.Goals as goal

pub returns-in-Insert-clause-value : goal.returns-in-Insert-clause-value
returns-in-Insert-clause-value c = λ can.
    let s = c.in-Insert in
    let same = as_sent s.tuple _ _ (c.known_bytes.ensures.value ∙ c.as_slice.ensures) c.array_or_empty-tuple.ensures.same (subst IsAskable s.is can).1 in
    ap (λ tuple. Some (s.space.0, Insert tuple)) same ∙ sym (ap write_in s.is)

pub returns-in-Replace-clause-value : goal.returns-in-Replace-clause-value
returns-in-Replace-clause-value c = λ can.
    let s = c.in-Replace in
    let same = as_sent s.tuple _ _ (c.known_bytes-in-Replace.ensures.value ∙ c.as_slice-in-Replace.ensures) c.array_or_empty-tuple-in-Replace.ensures.same (subst IsAskable s.is can).1 in
    ap (λ tuple. Some (s.space.0, Replace tuple)) same ∙ sym (ap write_in s.is)

pub returns-in-Update-clause-value : goal.returns-in-Update-clause-value
returns-in-Update-clause-value c = λ can.
    let s = c.in-Update in
    let same = as_sent s.key _ _ c.as_slice-in-Update.ensures c.array_or_empty.ensures.same (subst IsAskable s.is can).3 in
    ap (λ key. Some (s.space.0, Update s.index.0 s.base key c.as_slice-in-Update-2.result.now)) same
    ∙ ap (λ operations. Some (s.space.0, Update s.index.0 s.base s.key operations)) c.as_slice-in-Update-2.ensures
    ∙ sym (ap write_in s.is)

pub returns-in-Delete-clause-value : goal.returns-in-Delete-clause-value
returns-in-Delete-clause-value c = λ can.
    let s = c.in-Delete in
    let same = as_sent s.key _ _ c.as_slice-in-Delete.ensures c.array_or_empty-in-Delete.ensures.same (subst IsAskable s.is can).2 in
    ap (λ key. Some (s.space.0, Delete s.index.0 key)) same ∙ sym (ap write_in s.is)

pub returns-in-Upsert-clause-value : goal.returns-in-Upsert-clause-value
returns-in-Upsert-clause-value c = λ can.
    let s = c.in-Upsert in
    let same = as_sent s.tuple _ _ (c.known_bytes-in-Upsert.ensures.value ∙ c.as_slice-in-Upsert.ensures) c.array_or_empty-in-Upsert.ensures.same (subst IsAskable s.is can).2 in
    ap (λ tuple. Some (s.space.0, Upsert s.base tuple c.as_slice-in-Upsert-2.result.now)) same
    ∙ ap (λ operations. Some (s.space.0, Upsert s.base s.tuple operations)) c.as_slice-in-Upsert-2.ensures
    ∙ sym (ap write_in s.is)

pub returns-in-Insert-clause-bytes : goal.returns-in-Insert-clause-bytes
returns-in-Insert-clause-bytes c =
    let s = c.in-Insert in
    subst TupleIsBytes (sym (ap write_in s.is)) (subst AreBytes c.as_slice.ensures c.known_bytes.ensures.each)

pub returns-in-Replace-clause-bytes : goal.returns-in-Replace-clause-bytes
returns-in-Replace-clause-bytes c =
    let s = c.in-Replace in
    subst TupleIsBytes (sym (ap write_in s.is)) (subst AreBytes c.as_slice-in-Replace.ensures c.known_bytes-in-Replace.ensures.each)

pub returns-in-Upsert-clause-bytes : goal.returns-in-Upsert-clause-bytes
returns-in-Upsert-clause-bytes c =
    let s = c.in-Upsert in
    subst TupleIsBytes (sym (ap write_in s.is)) (subst AreBytes c.as_slice-in-Upsert.ensures c.known_bytes-in-Upsert.ensures.each)
