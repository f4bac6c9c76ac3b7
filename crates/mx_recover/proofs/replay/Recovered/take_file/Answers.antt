use Rattle.std.proofs.Common.{◌≡◌, drop, refl, sym, ap, ◌∙◌}
use Rattle.std.specs.Prelude.{Some, None, Err, unwrap_or}
use Rattle.std.proofs.lemmas.Result.{on_ok_weaker}
use Rattle.mx_xlog.specs.Reading.{blocks_of}
use Rattle.mx_directory.specs.declared.damage.DamageKind.TheVariants.{Gap}
use Rattle.mx_directory.specs.Directories as files
use Rattle.mx_directory.specs.Directories.{after_head, after_blocks}
use Rattle.mx_xlog.specs.Files.{FileRead}
use Rattle.mx_recover.specs.Recovered.{StandsFor}
use Rattle.mx_recover.proofs.ReplayLaws.{head_refused, gap_told, head_taken, known_by, begun, same_here, same_damage}
use Rattle.mx_recover.proofs.replay.Recovered.take_file.Goals as goal

pub returns-in_default-clause-damaged : goal.returns-in_default-clause-damaged
returns-in_default-clause-damaged c = λ before damage stands is.
    (None, (c.in_default.field-0.line, c.in_default.ensures), ap (λ d. Err d) (same_damage _ _ damage c.in_ok-damage.ensures is))

pub returns-then-not-branch-clause-damaged : goal.returns-then-not-branch-clause-damaged
returns-then-not-branch-clause-damaged c = λ before damage stands is.
    let read : FileRead = record { head = c.in-Ok.head; size = c.in-Ok.size; blocks = blocks_of (drop c.in-Ok.size c.args.bytes.now) } in
    let unfit = sym (c.in_ok-is_followed_by.ensures before stands.ids) ∙ c.if-not-branch.true in
    let told = ap (λ d. Err d) (same_damage _ _ damage c.in_ok-damage-2.ensures is) in
    (Some read, (c.in-Ok.ensures, refl), head_refused c.args.name.now read before unfit ∙ told)

pub returns-then-not-is_same-clause-damaged : goal.returns-then-not-is_same-clause-damaged
returns-then-not-is_same-clause-damaged c = λ before damage stands is.
    let read : FileRead = record { head = c.in-Ok.head; size = c.in-Ok.size; blocks = blocks_of (drop c.in-Ok.size c.args.bytes.now) } in
    let fits = sym (c.in_ok-is_followed_by.ensures before stands.ids) ∙ c.if-not-branch.false in
    let apart = same_here c.args.self.now before c.in-Ok.head c.is_same.result _ stands c.in-Ok.ensures.fits c.is_same.ensures c.if-not-is_same.true in (
      Some read,
      (c.in-Ok.ensures, refl),
      gap_told c.args.name.now read before fits apart
          ∙ ap (λ reached. Err (record { file = c.args.name.now; at = 0; kind = Gap reached c.in-Ok.head.clock })) (sym stands.clock)
          ∙ ap (λ d. Err d) (same_damage _ _ damage c.in_ok-damage-3.ensures is),
    )

-- the file as it reads
abbrev read_as : goal.After-take_blocks → FileRead
read_as c = record { head = c.in-Ok.head; size = c.in-Ok.size; blocks = blocks_of (drop c.in-Ok.size c.args.bytes.now) }

-- what the file makes of what was there is what its blocks make of what memory has before them
goes_on : (c : goal.After-take_blocks) (before : files.Reached) → StandsFor c.args.self.now before
    → (after_head c.args.name.now (read_as c) before
    ≡ after_blocks c.args.name.now c.in-Ok.size (blocks_of (drop c.in-Ok.size c.args.bytes.now)) (known_by c.in-Ok.head before))
    × StandsFor (record c.args.self.now { ids = Some c.unwrap_or.result }) (known_by c.in-Ok.head before)
goes_on c before stands =
    let head = c.in-Ok.head in
    let fits = sym (c.in_ok-is_followed_by.ensures before stands.ids) ∙ c.if-not-branch.false in
    let same = same_here c.args.self.now before head c.is_same.result _ stands c.in-Ok.ensures.fits c.is_same.ensures c.if-not-is_same.false in
    let known = c.unwrap_or.ensures ∙ ap (unwrap_or c.args.self.now.ids) c.ids_in.ensures in (
      head_taken c.args.name.now (read_as c) before fits same,
      begun c.args.self.now (record c.args.self.now { ids = Some c.unwrap_or.result }) before head stands
          c.in-Ok.ensures.fits.replica (ap (λ ids. Some ids) known) refl refl,
    )

pub returns-clause-taken : goal.returns-clause-taken
returns-clause-taken c = λ before stands.
    let on = goes_on c before stands in
    on_ok_weaker c.take_blocks.result (λ p. (read_as c, (c.in-Ok.ensures, refl), (p.0, on.0 ∙ p.1, p.2)))
    (c.take_blocks.ensures.taken (known_by c.in-Ok.head before) on.1)

pub returns-clause-damaged : goal.returns-clause-damaged
returns-clause-damaged c = λ before damage stands is.
    let on = goes_on c before stands in
    (Some (read_as c), (c.in-Ok.ensures, refl), on.0 ∙ c.take_blocks.ensures.damaged (known_by c.in-Ok.head before) damage on.1 is)
