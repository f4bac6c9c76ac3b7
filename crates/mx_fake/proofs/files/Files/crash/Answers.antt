use Rattle.std.proofs.Common.{ap, sym, ◌∙◌, string_bytes}
use Rattle.std.specs.FinMap as map
use Rattle.std.specs.Option.{option_map}
use Rattle.mx_fake.specs.MemoryCrashes.{crash_file}
use Rattle.mx_fake.proofs.FileLaws.{either, none_over, one_over, all_over, same_files, get_changed, nothing_left}
use Rattle.mx_fake.proofs.files.Files.crash.Goals as goal

pub loop-name-init : goal.loop-name-init
loop-name-init c q =
    let keep = crash_file c.args.more in
    ap (λ over. either keep c.self.inside.stored over q) c.new-kept.ensures
    ∙ none_over keep c.self.inside.stored q ∙ ap (λ files. option_map keep (map.get files q)) c.self.view_is

pub loop-name-preserved : goal.loop-name-preserved
loop-name-preserved c q =
    let keep = crash_file c.args.more in
    let name = c.in-Some.name in
    let before = c.loop-name.stored in
    let after = c.pop_first.new.self in
    ap (λ over. either keep after over q) (c.in_ok-insert.ensures ∙ ap (map.insert c.loop-name.kept (string_bytes name)) c.crash.ensures)
    ∙ one_over keep before after c.loop-name.kept name c.in-Some.file c.in-Some.ensures.value c.in-Some.ensures.updates q
    ∙ c.loop-name.invariant q

pub returns : goal.returns
returns c =
    let keep = crash_file c.args.more in
    same_files _ _ (λ q. sym (all_over keep c.loop-name.stored c.loop-name.kept q (nothing_left c.loop-name.stored.entries c.in_default.ensures.variant.1)) ∙ c.loop-name.invariant q ∙ sym (get_changed keep c.args.self q))
