use Rattle.std.proofs.Common.{◌++◌, sym, ap, ◌∙◌}
use Rattle.mx_key.specs.Comparable.{comparable_of}
use Rattle.mx_schema.specs.State.{key_in, key_or_none}
use Rattle.mx_schema.proofs.StoredLaws.{fit_joined, keys_joined}
use Rattle.mx_space.proofs.changes.entry_key.Goals as goal

pub returns : goal.returns
returns c = λ key fit is.
    let parts = key_or_none (key_in c.args.def.now.key c.args.tuple.now) in (
      c.in_ok-extend_from_slice.ensures ∙ ap (λ k. k ++ c.args.primary.now) c.in_ok-key.ensures.0 ∙ ap (λ l. comparable_of parts ++ l) is ∙ sym (keys_joined parts key),
      fit_joined parts key c.in_ok-key.ensures.1 fit,
    )
