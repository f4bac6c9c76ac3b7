use Rattle.mx_row.specs.Views.{row_value}
use Rattle.mx_row.proofs.SizeLaws.{update_size, delete_size, upsert_size, tuple_size}
use Rattle.mx_row.proofs.size.row_size.Goals as goal

pub returns-then-kind-eq-UPDATE-clause-exact : goal.returns-then-kind-eq-UPDATE-clause-exact
returns-then-kind-eq-UPDATE-clause-exact c = rw (update_size (row_value c.args.row.now) c.spelled_len-space.result c.spelled_len-space.ensures.exact c.base_size.result c.base_size.ensures.exact c.if-kind-eq-UPDATE.true) c.sum.ensures.exact

pub returns-then-kind-eq-UPDATE-clause-most : goal.returns-then-kind-eq-UPDATE-clause-most
returns-then-kind-eq-UPDATE-clause-most c = rw (update_size (row_value c.args.row.now) c.spelled_len-space.result c.spelled_len-space.ensures.exact c.base_size.result c.base_size.ensures.exact c.if-kind-eq-UPDATE.true) c.sum.ensures.most

pub returns-then-kind-eq-DELETE-clause-exact : goal.returns-then-kind-eq-DELETE-clause-exact
returns-then-kind-eq-DELETE-clause-exact c = rw (delete_size (row_value c.args.row.now) c.spelled_len-space.result c.spelled_len-space.ensures.exact c.if-kind-eq-UPDATE.false c.if-kind-eq-DELETE.true) c.sum-then-kind-eq-DELETE.ensures.exact

pub returns-then-kind-eq-DELETE-clause-most : goal.returns-then-kind-eq-DELETE-clause-most
returns-then-kind-eq-DELETE-clause-most c = rw (delete_size (row_value c.args.row.now) c.spelled_len-space.result c.spelled_len-space.ensures.exact c.if-kind-eq-UPDATE.false c.if-kind-eq-DELETE.true) c.sum-then-kind-eq-DELETE.ensures.most

pub returns-then-kind-eq-UPSERT-clause-exact : goal.returns-then-kind-eq-UPSERT-clause-exact
returns-then-kind-eq-UPSERT-clause-exact c = rw (upsert_size (row_value c.args.row.now) c.spelled_len-space.result c.spelled_len-space.ensures.exact c.base_size-then-kind-eq-UPSERT.result c.base_size-then-kind-eq-UPSERT.ensures.exact c.if-kind-eq-UPDATE.false c.if-kind-eq-DELETE.false c.if-kind-eq-UPSERT.true) c.sum-then-kind-eq-UPSERT.ensures.exact

pub returns-then-kind-eq-UPSERT-clause-most : goal.returns-then-kind-eq-UPSERT-clause-most
returns-then-kind-eq-UPSERT-clause-most c = rw (upsert_size (row_value c.args.row.now) c.spelled_len-space.result c.spelled_len-space.ensures.exact c.base_size-then-kind-eq-UPSERT.result c.base_size-then-kind-eq-UPSERT.ensures.exact c.if-kind-eq-UPDATE.false c.if-kind-eq-DELETE.false c.if-kind-eq-UPSERT.true) c.sum-then-kind-eq-UPSERT.ensures.most

pub returns-else-kind-eq-UPSERT-clause-exact : goal.returns-else-kind-eq-UPSERT-clause-exact
returns-else-kind-eq-UPSERT-clause-exact c = rw (tuple_size (row_value c.args.row.now) c.spelled_len-space.result c.spelled_len-space.ensures.exact c.if-kind-eq-UPDATE.false c.if-kind-eq-DELETE.false c.if-kind-eq-UPSERT.false) c.sum-else-kind-eq-UPSERT.ensures.exact

pub returns-else-kind-eq-UPSERT-clause-most : goal.returns-else-kind-eq-UPSERT-clause-most
returns-else-kind-eq-UPSERT-clause-most c = rw (tuple_size (row_value c.args.row.now) c.spelled_len-space.result c.spelled_len-space.ensures.exact c.if-kind-eq-UPDATE.false c.if-kind-eq-DELETE.false c.if-kind-eq-UPSERT.false) c.sum-else-kind-eq-UPSERT.ensures.most
