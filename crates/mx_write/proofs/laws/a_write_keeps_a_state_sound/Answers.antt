use Rattle.mx_write.specs.declared.writable.Writer.TheVariants.{Client}
use Rattle.mx_write.proofs.SoundLaws.{stays_sound}
use Rattle.mx_write.proofs.laws.a_write_keeps_a_state_sound.Goals as goal

pub returns : goal.returns
returns c = stays_sound Client
