-- Ranges of keys.
use Rattle.std.specs.Prelude.{Bool, true, false, not, ◌&&◌, ◌||◌, [], ◌∷◌}
use Rattle.std.specs.Ordering.{is_lt, is_gt}
use Rattle.mx_key.specs.declared.iterator.IterKind.{IterKind}
use Rattle.mx_key.specs.declared.iterator.IterKind.TheVariants.{Eq, Req, All, Lt, Le, Ge, Gt}
use Rattle.mx_key.specs.Keys.{Key, AreFit, key_cmp, is_key_prefix}

-- an end at a key: an inclusive one includes all keys with this prefix, an exclusive one none of them
pub data End : Type 0 where
  Inclusive : Key → End
  Exclusive : Key → End
  Open : End

pub record Range : Type 0 where
  pub low : End
  pub high : End

-- the key isn't below the end
abbrev pub is_from : End → Key → Bool
is_from (Inclusive end) key = not (is_lt (key_cmp key end))
is_from (Exclusive end) key = is_gt (key_cmp key end) && not (is_key_prefix end key)
is_from Open key = true

-- the key isn't above the end
abbrev pub is_up_to : End → Key → Bool
is_up_to (Inclusive end) key = not (is_gt (key_cmp key end)) || is_key_prefix end key
is_up_to (Exclusive end) key = is_lt (key_cmp key end)
is_up_to Open key = true

abbrev pub lies_in : Range → Key → Bool
lies_in range key = is_from range.low key && is_up_to range.high key

-- all keys
abbrev pub whole_range : Range
whole_range = record { low = Open; high = Open }

-- all keys with this prefix
abbrev pub prefix_range : Key → Range
prefix_range key = record { low = Inclusive key; high = Inclusive key }

abbrev pub range_by : IterKind → Key → Range
range_by Eq key = prefix_range key
range_by Req key = prefix_range key
range_by All key = record { low = Inclusive key; high = Open }
range_by Ge key = record { low = Inclusive key; high = Open }
range_by Gt key = record { low = Exclusive key; high = Open }
range_by Le key = record { low = Open; high = Inclusive key }
range_by Lt key = record { low = Open; high = Exclusive key }

-- what an iterator scans from a key; an empty key sets no end
abbrev pub range_of : IterKind → Key → Range
range_of iterator [] = whole_range
range_of iterator (part ∷ parts) = range_by iterator (part ∷ parts)

-- the iterator goes down
abbrev pub descends : IterKind → Bool
descends Req = true
descends Le = true
descends Lt = true
descends _ = false

-- the same range up to this key, in the direction of an iterator, which goes down or up
abbrev pub range_until : (down : Bool) → Key → Range → Range
range_until true last range = record range { low = Inclusive last }
range_until false last range = record range { high = Inclusive last }

abbrev pub IsFitEnd : End → Type 0
IsFitEnd (Inclusive key) = AreFit key
IsFitEnd (Exclusive key) = AreFit key
IsFitEnd Open = Unit {0}

-- the numbers in both ends have 64 bits
abbrev pub AreFitEnds : Range → Type 0
AreFitEnds range = IsFitEnd range.low × IsFitEnd range.high
