use Rattle.mx_session.proofs.JobLaws.{goes_on, ends_there, needs_more, next_stays, nothing_after_the_end, in_pieces}
use Rattle.mx_session.proofs.laws.jobs_are_those_of_the_stream.Goals as goal

pub returns : goal.returns
returns c = record {
  goes_on = goes_on;
  ends = ends_there;
  needs_more = needs_more;
  stays = next_stays;
  ended = nothing_after_the_end;
  in_pieces = in_pieces;
}
