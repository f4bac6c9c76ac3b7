use Rattle.mx_serial.proofs.CommitLaws.{commits_follow, stays_sound_after}
use Rattle.mx_serial.proofs.laws.commits_are_sound.Goals as goal

pub returns : goal.returns
returns c = λ base history legal. (commits_follow base history legal, stays_sound_after base history legal)
