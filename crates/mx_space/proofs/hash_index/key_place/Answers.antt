use Rattle.mx_space.proofs.HashIndexLaws.{place_is}
use Rattle.mx_space.proofs.hash_index.key_place.Goals as goal

pub returns-clause-place : goal.returns-clause-place
returns-clause-place c =
    place_is c.args.parts c.prefix_size-begin.result c.hash_number.result c.args.key.now c.as_slice.result.now c.as_slice-2.result.now c.split_at.result.0.now c.hash_number.ensures
    c.split_at.ensures.front c.as_slice-2.ensures c.prefix_size-begin.ensures.size c.as_slice.ensures
