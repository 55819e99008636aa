use Rattle.trail.proofs.Laws.{tells_number, tells_operation}
use Rattle.trail.proofs.worth_of.Goals as goal

pub returns-in-Number : goal.returns-in-Number
returns-in-Number c = rw c.in-Number.is (tells_number _)

pub returns-in-Operation : goal.returns-in-Operation
returns-in-Operation c = rw (c.in-Operation.is, c.operation_shape.ensures) (tells_operation _)
