-- Only private functions and proofs need these: how a journal counts its transactions.
use Rattle.std.specs.Prelude.{◌≡◌}
use Rattle.mx_journal.specs.declared.journal.Journal.{Journal}

-- the journal differs at most in how many transactions were pushed, and in their vclock
pub record SameButPushed (before after : Journal) : Type 0 where
  pub head : after.head ≡ before.head
  pub name : after.name ≡ before.name
  pub clock : after.clock ≡ before.clock
  pub length : after.length ≡ before.length
  pub synced : after.synced ≡ before.synced
  pub waiting : after.waiting ≡ before.waiting

-- the journal once all that was pushed is durable
abbrev pub caught_up : Journal → Journal
caught_up journal = record journal { clock = journal.next; synced = journal.pushed }
