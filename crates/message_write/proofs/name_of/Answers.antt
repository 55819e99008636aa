use mathlib.Core.Path.{subst}
use Rattle.editions.specs.declared.Edition.{Edition}
use Rattle.orders.specs.Shape.{Filled}
use Rattle.header.specs.Header.{root_of}
use Rattle.header.specs.Heading.{root_rows}
use Rattle.message_write.proofs.name_of.Goals as goal

pub second_from-requires : goal.second_from-requires
second_from-requires c = (record { depth = 3; others = _; filled = subst (λ (e : Edition). Filled (root_rows e) 3 (root_of e) c.args.f.now 0 c.args.from) c.in-Oil.is c.requires.0 }, c.requires.1)

pub nested_name-requires : goal.nested_name-requires
nested_name-requires c = (subst (λ (e : Edition). Filled (root_rows e) 3 (root_of e) c.args.f.now 0 c.args.from) c.in-Opi.is c.requires.0, c.requires.1)

pub returns-in-Oil : goal.returns-in-Oil
returns-in-Oil c = rw c.in-Oil.is c.second_from.ensures

pub returns-in-Opi : goal.returns-in-Opi
returns-in-Opi c = rw c.in-Opi.is c.nested_name.ensures
