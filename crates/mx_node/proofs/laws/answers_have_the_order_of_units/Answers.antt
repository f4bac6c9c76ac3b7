use Rattle.mx_serial.specs.Order.{order_in}
use Rattle.mx_node.proofs.AnsweringLaws.{answered_order, answers_of_order}
use Rattle.mx_node.proofs.OrderLaws.{are_order, order_are}
use Rattle.mx_node.proofs.laws.answers_have_the_order_of_units.Goals as goal

pub returns-clause-order : goal.returns-clause-order
returns-clause-order c = λ start units history sent answers. order_are units (order_in history) (answered_order start units history sent answers)

pub returns-clause-answers : goal.returns-clause-answers
returns-clause-answers c = λ start units history order. answers_of_order start units history (are_order units (order_in history) order)
