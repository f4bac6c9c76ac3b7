use Rattle.mx_instance.specs.Passes.{seen_by}
use Rattle.mx_instance.proofs.RoundLaws.{round_answered, stops_serve}
use Rattle.mx_instance.proofs.instance.Instance.round.Goals as goal

pub returns-in-Err-clause-serves : goal.returns-in-Err-clause-serves
returns-in-Err-clause-serves g c = λ outset begun none.
    stops_serve outset (seen_by c.args.pass.now) c.read_piece.new.session (g.L.Link.came c.read_piece.new.link) (g.L.Link.gone c.read_piece.new.link) c.in-Err.turn
    c.in-Err.ensures.reading (c.in-Err.ensures.reads outset (seen_by c.args.pass.now) begun none)

pub returns-in_default-clause-serves : goal.returns-in_default-clause-serves
returns-in_default-clause-serves g c = λ outset begun none.
    c.in_default.ensures.answers outset (g.L.Link.came c.read_piece.new.link) (g.L.Link.gone c.read_piece.new.link)
    (c.in-Ok.ensures.reads outset (seen_by c.args.pass.now) begun none)

pub returns-in_default-send_all-clause-serves : goal.returns-in_default-send_all-clause-serves
returns-in_default-send_all-clause-serves g c = λ outset begun none.
    let came = g.L.Link.came c.read_piece.new.link in
    let gone = g.L.Link.gone c.read_piece.new.link in
    let read = c.in-Ok.ensures.reads outset (seen_by c.args.pass.now) begun none in
    let (released, looked) = c.release.ensures.releases outset came gone (c.in-Ok-answer_jobs.ensures.answers outset came gone read) in
    c.send_all.ensures.sends outset (seen_by c.release.new.pass) released

pub returns-clause-serves : goal.returns-clause-serves
returns-clause-serves g c = λ outset begun none.
    let came = g.L.Link.came c.read_piece.new.link in
    let gone = g.L.Link.gone c.read_piece.new.link in
    let read = c.in-Ok.ensures.reads outset (seen_by c.args.pass.now) begun none in
    let (released, looked) = c.release.ensures.releases outset came gone (c.in-Ok-answer_jobs.ensures.answers outset came gone read) in
    c.send_all.ensures.sends outset (seen_by c.release.new.pass) released

pub returns-then-not-sent-clause-serves : goal.returns-then-not-sent-clause-serves
returns-then-not-sent-clause-serves g c = λ outset begun none.
    let came = g.L.Link.came c.read_piece.new.link in
    let gone = g.L.Link.gone c.read_piece.new.link in
    let read = c.in-Ok.ensures.reads outset (seen_by c.args.pass.now) begun none in
    let (released, looked) = c.release.ensures.releases outset came gone (c.in-Ok-answer_jobs.ensures.answers outset came gone read) in
    round_answered outset (seen_by c.release.new.pass) c.answer_jobs.new.session c.release.new.session c.send_all.new.session (g.L.Link.came c.send_all.new.link)
    (g.L.Link.gone c.send_all.new.link) (c.send_all.ensures.sends outset (seen_by c.release.new.pass) released) c.in-Ok-answer_jobs.ensures.all c.release.ensures.same
    c.send_all.ensures.same looked

pub returns-then-has_ended-clause-serves : goal.returns-then-has_ended-clause-serves
returns-then-has_ended-clause-serves g c = λ outset begun none.
    let came = g.L.Link.came c.read_piece.new.link in
    let gone = g.L.Link.gone c.read_piece.new.link in
    let read = c.in-Ok.ensures.reads outset (seen_by c.args.pass.now) begun none in
    let (released, looked) = c.release.ensures.releases outset came gone (c.in-Ok-answer_jobs.ensures.answers outset came gone read) in
    round_answered outset (seen_by c.release.new.pass) c.answer_jobs.new.session c.release.new.session c.send_all.new.session (g.L.Link.came c.send_all.new.link)
    (g.L.Link.gone c.send_all.new.link) (c.send_all.ensures.sends outset (seen_by c.release.new.pass) released) c.in-Ok-answer_jobs.ensures.all c.release.ensures.same
    c.send_all.ensures.same looked

pub returns-then-eq-2-clause-serves : goal.returns-then-eq-2-clause-serves
returns-then-eq-2-clause-serves g c = λ outset begun none.
    let came = g.L.Link.came c.read_piece.new.link in
    let gone = g.L.Link.gone c.read_piece.new.link in
    let read = c.in-Ok.ensures.reads outset (seen_by c.args.pass.now) begun none in
    let (released, looked) = c.release.ensures.releases outset came gone (c.in-Ok-answer_jobs.ensures.answers outset came gone read) in
    round_answered outset (seen_by c.release.new.pass) c.answer_jobs.new.session c.release.new.session c.send_all.new.session (g.L.Link.came c.send_all.new.link)
    (g.L.Link.gone c.send_all.new.link) (c.send_all.ensures.sends outset (seen_by c.release.new.pass) released) c.in-Ok-answer_jobs.ensures.all c.release.ensures.same
    c.send_all.ensures.same looked
