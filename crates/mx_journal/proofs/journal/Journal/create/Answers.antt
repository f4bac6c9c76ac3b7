use Rattle.std.proofs.Common.{◌≡◌, ◌++◌, length, string_bytes, refl, ap, ◌∙◌}
use Rattle.mx_xlog.specs.Headers.{header_of}
use Rattle.mx_files.specs.Names.{journal_name, counts, draft_ending, is_ours}
use Rattle.mx_journal.specs.declared.journal.Journal.{Journal}
use Rattle.mx_journal.specs.Written.{name_of}
use Rattle.mx_journal.proofs.MakeLaws.{begins_moments, begun_there, draft_name_ours, name_counts, name_ours}
use Rattle.mx_journal.proofs.WrittenLaws.{begun_now}
use Rattle.mx_journal.proofs.journal.Journal.create.Goals as goal

pub returns-clause-created : goal.returns-clause-created
returns-clause-created g c =
    let named : string_bytes c.in_ok-name.name ≡ name_of c.args.head = c.in_ok-name.ensures ∙ ap journal_name c.signature.ensures in
    let header : c.write_header.new.out ≡ header_of c.args.head =
    c.in_ok-write_header.ensures ∙ ap (λ front. front ++ header_of c.args.head) c.new-header.ensures in
    let journal : Journal = record {
      head = c.args.head;
      name = c.in_ok-name.name;
      clock = c.args.head.clock;
      length = c.len.result;
      synced = 0;
      waiting = c.new.result;
      next = c.args.head.clock;
      pushed = 0;
    } in
    begun_now journal c.as_str.result.now c.as_slice.result.now (g.D.Dir.states c.args.dir.now) (g.D.Dir.states c.make_file.new.dir)
    c.requires.fits c.requires.kind named refl (c.len.ensures ∙ ap length header) refl (c.as_str.ensures.value ∙ named) (c.as_slice.ensures ∙ header)
    c.in_ok-make_file.ensures.made c.requires.newest

pub returns-in_err-make_file-clause-moments : goal.returns-in_err-make_file-clause-moments
returns-in_err-make_file-clause-moments g c =
    begins_moments c.args.head c.as_str.result.now c.as_slice.result.now (g.D.Dir.states c.args.dir.now) (g.D.Dir.states c.make_file.new.dir) c.requires.fits
    (c.as_str.ensures.value ∙ c.in_ok-name.ensures ∙ ap journal_name c.signature.ensures)
    (c.as_slice.ensures ∙ c.in_ok-write_header.ensures ∙ ap (λ front. front ++ header_of c.args.head) c.new-header.ensures) c.in_err-make_file.ensures.moments

pub returns-clause-moments : goal.returns-clause-moments
returns-clause-moments g c =
    begins_moments c.args.head c.as_str.result.now c.as_slice.result.now (g.D.Dir.states c.args.dir.now) (g.D.Dir.states c.make_file.new.dir) c.requires.fits
    (c.as_str.ensures.value ∙ c.in_ok-name.ensures ∙ ap journal_name c.signature.ensures)
    (c.as_slice.ensures ∙ c.in_ok-write_header.ensures ∙ ap (λ front. front ++ header_of c.args.head) c.new-header.ensures) c.in_ok-make_file.ensures.moments

pub returns-clause-there : goal.returns-clause-there
returns-clause-there g c =
    begun_there c.args.head c.as_str.result.now c.as_slice.result.now (g.D.Dir.states c.args.dir.now) (g.D.Dir.states c.make_file.new.dir) c.requires.fits
    (c.as_str.ensures.value ∙ c.in_ok-name.ensures ∙ ap journal_name c.signature.ensures)
    (c.as_slice.ensures ∙ c.in_ok-write_header.ensures ∙ ap (λ front. front ++ header_of c.args.head) c.new-header.ensures)
    (c.in_ok-make_file.ensures.there
    (ap counts (c.as_str.ensures.value ∙ c.in_ok-name.ensures ∙ ap journal_name c.signature.ensures) ∙ name_counts c.args.head))

pub returns-in_err-make_file-clause-others : goal.returns-in_err-make_file-clause-others
returns-in_err-make_file-clause-others g c =
    let named = c.as_str.ensures.value ∙ c.in_ok-name.ensures ∙ ap journal_name c.signature.ensures in
    c.make_file.ensures.others c.args.head
    (c.as_slice.ensures ∙ c.in_ok-write_header.ensures ∙ ap (λ front. front ++ header_of c.args.head) c.new-header.ensures) (ap is_ours named ∙ name_ours c.args.head) (ap (λ name. is_ours (name ++ draft_ending)) named ∙ draft_name_ours c.args.head)

pub returns-clause-others : goal.returns-clause-others
returns-clause-others g c =
    let named = c.as_str.ensures.value ∙ c.in_ok-name.ensures ∙ ap journal_name c.signature.ensures in
    c.make_file.ensures.others c.args.head
    (c.as_slice.ensures ∙ c.in_ok-write_header.ensures ∙ ap (λ front. front ++ header_of c.args.head) c.new-header.ensures) (ap is_ours named ∙ name_ours c.args.head) (ap (λ name. is_ours (name ++ draft_ending)) named ∙ draft_name_ours c.args.head)
