use Rattle.std.proofs.Common.{◌≡◌, ℕ, ◌%◌, ◌<◌, length}
use Rattle.mx_fake.specs.FileMaps.{by_bytes}
use Rattle.mx_fake.specs.MemoryCrashes.{put_back}
use Rattle.mx_fake.proofs.files.Files.put_back.Given as goal

abbrev pub invariant-loop-name : goal.invariant-loop-name
invariant-loop-name l = record {
  small : l.bit < 8;
  left : (number : ℕ) × (number % 8 ≡ l.bit) × (put_back l.choice number (by_bytes l.left.entries) l.self ≡ put_back l.choice 0 (by_bytes l.fn.before.entries) l.fn.self);
}

abbrev pub decreases-loop-name : goal.decreases-loop-name
decreases-loop-name l = length l.left.entries
