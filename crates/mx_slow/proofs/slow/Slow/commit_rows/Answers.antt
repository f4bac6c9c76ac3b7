use Rattle.std.proofs.Common.{◌+◌, ◌++◌, ◌∷◌, List, length, not, refl, sym, ap, ◌∙◌}
use Rattle.std.specs.Prelude.{nat_lt, slice_index, ◌==◌}
use Rattle.std.proofs.lemmas.Bool.{ne_eqb}
use Rattle.std.proofs.lemmas.Result.{err_from_is_err_and}
use Rattle.mx_base.specs.declared.refusal.Refusal.TheVariants.{LsnsUsedUp, ReadOnly}
use Rattle.mx_row.specs.declared.row.Row.{Row}
use Rattle.mx_vclock.specs.Vclocks.{max_lsn}
use Rattle.mx_model.specs.declared.ids.Ids.{Ids}
use Rattle.mx_model.specs.declared.reply.Reply.TheVariants.{Empty, Refused}
use Rattle.mx_model.specs.Bases.{writable_node}
use Rattle.mx_model.specs.Streams.{Ends, Streams, commit_with, commits_rows}
use Rattle.mx_model.proofs.StreamOutcomes.{commits_all, commits_read_only, commits_used_up, no_row_where, some_row_where}
use Rattle.mx_slow.proofs.SlowStreamLaws.{ends_committed, ends_with, lsn_is}
use Rattle.mx_slow.proofs.slow.Slow.commit_rows.Goals as goal

pub returns-then-count-eq0 : goal.returns-then-count-eq0
returns-then-count-eq0 c = λ streams plain is stands.
    let counts = ap length (sym stands.rows) ∙ sym (ap length c.as_slice-count.ensures) in
    let none = no_row_where plain.rows (counts ∙ c.if-count-eq0.true) in
    ends_with c.end.new.self streams c.args.name (commits_rows streams plain.rows) Empty Empty (c.end.ensures streams is) (ap (commits_rows streams) none) refl

pub returns-then-self-ne-WRITABLE_NODE : goal.returns-then-self-ne-WRITABLE_NODE
returns-then-self-ne-WRITABLE_NODE c = λ streams plain is stands.
    let counts = ap length (sym stands.rows) ∙ sym (ap length c.as_slice-count.ensures) in
    let (row, rest, rows_are) = some_row_where plain.rows (λ none. c.if-count-eq0.false (sym counts ∙ none)) in
    let refuses = ap not (ap (λ (i : Ids). i.me == writable_node) (sym is.ids) ∙ ne_eqb c.args.self.now.ids.me writable_node c.if-self-ne-WRITABLE_NODE.true) in
    ends_with c.end-then-self-ne-WRITABLE_NODE.new.self streams c.args.name (commits_rows streams plain.rows) (Refused (ReadOnly (record { 0 = writable_node }))) (Refused (ReadOnly (record { 0 = writable_node })))
    (c.end-then-self-ne-WRITABLE_NODE.ensures streams is) (ap (commits_rows streams) rows_are ∙ commits_read_only streams row rest refuses) refl

pub returns-in_default : goal.returns-in_default
returns-in_default c = λ streams plain is stands.
    let counts = ap length (sym stands.rows) ∙ sym (ap length c.as_slice-count.ensures) in
    let (row, rest, rows_are) = some_row_where plain.rows (λ none. c.if-count-eq0.false (sym counts ∙ none)) in
    let me = ap (λ (i : Ids). i.me) (sym is.ids) ∙ c.if-self-ne-WRITABLE_NODE.false in
    let takes = ap (λ n. not (n == writable_node)) me in
    let above = ap (nat_lt max_lsn) (lsn_is c.args.self.now streams (length (row ∷ rest)) is me ∙ ap (λ n. slice_index c.args.self.now.clock writable_node + n) (ap length (sym rows_are) ∙ counts)) ∙ c.in_default.ensures in
    ends_with c.end-in_default.new.self streams c.args.name (commits_rows streams plain.rows) (Refused LsnsUsedUp) (Refused LsnsUsedUp) (c.end-in_default.ensures streams is)
    (ap (commits_rows streams) rows_are ∙ commits_used_up streams row rest takes above) refl

pub returns : goal.returns
returns c = λ streams plain is stands.
    let counts = ap length (sym stands.rows) ∙ sym (ap length c.as_slice-count.ensures) in
    let (row, rest, rows_are) = some_row_where plain.rows (λ none. c.if-count-eq0.false (sym counts ∙ none)) in
    let me = ap (λ (i : Ids). i.me) (sym is.ids) ∙ c.if-self-ne-WRITABLE_NODE.false in
    let takes = ap (λ n. not (n == writable_node)) me in
    let (last_is, low, within) = c.in-Some.ensures in
    let below = ap (nat_lt max_lsn) (lsn_is c.args.self.now streams (length (row ∷ rest)) is me ∙ ap (λ n. slice_index c.args.self.now.clock writable_node + n) (ap length (sym rows_are) ∙ counts) ∙ sym last_is) ∙ low in
    let installed = c.in_ok-install.ensures streams plain row rest is stands rows_are me (last_is ∙ ap (λ n. slice_index c.args.self.now.clock writable_node + n) (sym counts)) in
    let after : Streams = record { base = streams.base; journal = streams.journal ++ commit_with streams plain.rows; transactions = streams.transactions } in
    ends_committed c.end-2.new.self streams c.args.name (commits_rows streams plain.rows) plain.rows Empty (c.end-2.ensures after installed)
    (ap (commits_rows streams) rows_are ∙ commits_all streams row rest takes below ∙ ap (λ (l : List Row). record { reply = Empty; rows = l; becomes = Ends }) (sym rows_are)) refl

pub returns-in_err-install : goal.returns-in_err-install
returns-in_err-install c = λ streams plain is stands.
    let counts = ap length (sym stands.rows) ∙ sym (ap length c.as_slice-count.ensures) in
    let (row, rest, rows_are) = some_row_where plain.rows (λ none. c.if-count-eq0.false (sym counts ∙ none)) in
    let me = ap (λ (i : Ids). i.me) (sym is.ids) ∙ c.if-self-ne-WRITABLE_NODE.false in
    let (last_is, low, within) = c.in-Some.ensures in
    let p = err_from_is_err_and c.from_residual.result c.from_residual.ensures.1 in
    rw p.1 (c.in_err-install.ensures streams plain row rest is stands rows_are me (last_is ∙ ap (λ n. slice_index c.args.self.now.clock writable_node + n) (sym counts)))
