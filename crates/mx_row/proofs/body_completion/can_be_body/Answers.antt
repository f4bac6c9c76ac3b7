use Rattle.mx_row.proofs.CompletionLaws.{delete_decided, insert_decided, no_body, no_kind, replace_decided, update_decided, upsert_decided}
use Rattle.mx_row.proofs.body_completion.can_be_body.Goals as goal

pub returns-then-kind-eq-INSERT : goal.returns-then-kind-eq-INSERT
returns-then-kind-eq-INSERT c = insert_decided c.args.most c.args.bytes.now c.requires.part c.requires.most c.tuple_can_fit.result c.args.kind c.if-kind-eq-INSERT.true c.tuple_can_fit.ensures

pub returns-then-kind-eq-REPLACE : goal.returns-then-kind-eq-REPLACE
returns-then-kind-eq-REPLACE c = replace_decided c.args.most c.args.bytes.now c.requires.part c.requires.most c.tuple_can_fit-then-kind-eq-REPLACE.result c.args.kind c.if-kind-eq-REPLACE.true c.tuple_can_fit-then-kind-eq-REPLACE.ensures

pub returns-then-kind-eq-UPDATE : goal.returns-then-kind-eq-UPDATE
returns-then-kind-eq-UPDATE c = update_decided c.args.most c.args.bytes.now c.requires.part c.requires.most c.update_can_fit.result c.args.kind c.if-kind-eq-UPDATE.true c.update_can_fit.ensures

pub returns-then-kind-eq-DELETE : goal.returns-then-kind-eq-DELETE
returns-then-kind-eq-DELETE c = delete_decided c.args.most c.args.bytes.now c.requires.part c.requires.most c.delete_can_fit.result c.args.kind c.if-kind-eq-DELETE.true c.delete_can_fit.ensures

pub returns-then-kind-eq-UPSERT : goal.returns-then-kind-eq-UPSERT
returns-then-kind-eq-UPSERT c = upsert_decided c.args.most c.args.bytes.now c.requires.part c.requires.most c.upsert_can_fit.result c.args.kind c.if-kind-eq-UPSERT.true c.upsert_can_fit.ensures

pub returns : goal.returns
returns c =
    no_body c.args.most c.args.bytes.now c.requires.part c.args.kind
    (no_kind c.args.kind c.if-kind-eq-INSERT.false c.if-kind-eq-REPLACE.false c.if-kind-eq-UPDATE.false c.if-kind-eq-DELETE.false c.if-kind-eq-UPSERT.false)
