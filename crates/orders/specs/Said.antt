-- What a field that is read says: names for the contracts of the code's inner functions. That they are the values of Orders is proved.
use Rattle.std.specs.Prelude.{ℕ, Result, Ok, Err}
use Rattle.calendar.specs.declared.Date.{Date}
use Rattle.codes.specs.declared.Operation.{Operation as Operazione}
use Rattle.codes.specs.declared.Operation.TheVariants.{Sostituzione}
use Rattle.fields.specs.declared.Value.{Value}
use Rattle.fields.specs.declared.Value.TheVariants.{Text, Number, Day, Operation, Accepted, Refused}

abbrev no_date : Date
no_date = record { year = 0; month = 0; day = 0 }

abbrev pub number_said : Value → ℕ
number_said Text = 0
number_said (Number n) = n
number_said (Day d) = 0
number_said (Operation o) = 0
number_said (Accepted o) = 0
number_said (Refused o) = 0

abbrev pub number_of : Result (Value × ℕ) ℕ → ℕ
number_of (Ok (v, i)) = number_said v
number_of (Err p) = 0

abbrev pub day_said : Value → Date
day_said Text = no_date
day_said (Number n) = no_date
day_said (Day d) = d
day_said (Operation o) = no_date
day_said (Accepted o) = no_date
day_said (Refused o) = no_date

abbrev pub date_read : Result (Value × ℕ) ℕ → Date
date_read (Ok (v, i)) = day_said v
date_read (Err p) = no_date

abbrev pub operation_said : Value → Operazione
operation_said Text = Sostituzione
operation_said (Number n) = Sostituzione
operation_said (Day d) = Sostituzione
operation_said (Operation o) = o
operation_said (Accepted o) = o
operation_said (Refused o) = o

abbrev pub said_operation : Result (Value × ℕ) ℕ → Operazione
said_operation (Ok (v, i)) = operation_said v
said_operation (Err p) = Sostituzione
