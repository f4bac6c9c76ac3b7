use Rattle.std.proofs.Common.{arith}
use Rattle.mx_msgpack.proofs.StepLaws.{fixed_plain, text_plain, small_plain, below_plain, nil_plain, false_plain, true_plain}
use Rattle.mx_msgpack.proofs.size.plain_size.Goals as goal

pub returns-then-leading-lt128 : goal.returns-then-leading-lt128
returns-then-leading-lt128 c = λ few. small_plain c.args.leading (omega arith)

pub returns-in-160-to-191 : goal.returns-in-160-to-191
returns-in-160-to-191 c = λ few. text_plain c.args.leading c.from.result (omega arith) (omega arith) c.from.ensures

pub returns-in-192 : goal.returns-in-192
returns-in-192 c = λ few. nil_plain c.args.leading c.in-192.is

pub returns-in-194 : goal.returns-in-194
returns-in-194 c = λ few. false_plain c.args.leading c.in-194.is

pub returns-in-195 : goal.returns-in-195
returns-in-195 c = λ few. true_plain c.args.leading c.in-195.is

pub returns-in-202-to-216 : goal.returns-in-202-to-216
returns-in-202-to-216 c = λ few. fixed_plain c.args.leading c.fixed_size.result (omega arith) (omega arith) c.fixed_size.ensures

pub returns-in-224-to-255 : goal.returns-in-224-to-255
returns-in-224-to-255 c = λ few. below_plain c.args.leading (omega arith) (omega arith)
