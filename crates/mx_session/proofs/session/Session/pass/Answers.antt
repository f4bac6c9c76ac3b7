use Rattle.std.proofs.Common.{◌≡◌, ℕ, List, subst, sym}
use Rattle.mx_frame.specs.Packets.{Packet, first_frame}
use Rattle.mx_session.specs.Sessions.{SessionState}
use Rattle.mx_session.proofs.NextLaws.{packet_next}
use Rattle.mx_session.proofs.session.Session.pass.Goals as goal

pub pass-requires : goal.pass-requires
pass-requires c =
    subst (λ (session : SessionState). (content after : List ℕ) × (first_frame session.rest ≡ Packet content after)) (sym c.self.view_is)
    (packet_next c.args.self.now c.args.ends c.requires c.if-ends.false)
