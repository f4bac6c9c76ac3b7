use Rattle.std.proofs.Common.{◌≡◌, ◌∙◌, ap, drop, max, min}
use Rattle.mx_fake.proofs.Prefixes.{piece_copied}
use Rattle.mx_fake.proofs.link.MemoryLinkLink.read.Goals as goal

pub returns-clause-left : goal.returns-clause-left
returns-clause-left c =
    let most = c.args.self.now.most in
    let size = c.piece-count.ensures ∙ ap (λ n. min n (max most 1)) c.min.ensures in
    let copied = piece_copied c.args.self.now.sends.items c.rest_of-rest.result.now c.args.into.now c.copy_from_slice.new.self c.args.self.now.at c.piece-count.result most (cc (c.rest_of-rest.ensures)) size c.copy_from_slice.ensures.after in
    (copied.0, copied.1)

pub returns-clause-came : goal.returns-clause-came
returns-clause-came c =
    let most = c.args.self.now.most in
    let size = c.piece-count.ensures ∙ ap (λ n. min n (max most 1)) c.min.ensures in
    let copied = piece_copied c.args.self.now.sends.items c.rest_of-rest.result.now c.args.into.now c.copy_from_slice.new.self c.args.self.now.at c.piece-count.result most (cc (c.rest_of-rest.ensures)) size c.copy_from_slice.ensures.after in
    copied.2
