use mathlib.Core.Path.{subst}
use Rattle.editions.specs.declared.Edition.{Edition}
use Rattle.orders.specs.Shape.{Filled}
use Rattle.header.specs.Header.{root_of}
use Rattle.header.specs.Heading.{root_rows}
use Rattle.header.proofs.header_from.Goals as goal

pub flat_from-requires : goal.flat_from-requires
flat_from-requires c = (subst (λ (e : Edition). Filled (root_rows e) 3 (root_of e) c.args.s.now 0 c.args.from) c.in-Oil.is c.requires.0, c.requires.1)

pub nested_from-requires : goal.nested_from-requires
nested_from-requires c = (subst (λ (e : Edition). Filled (root_rows e) 3 (root_of e) c.args.s.now 0 c.args.from) c.in-Opi.is c.requires.0, c.requires.1)

pub returns-in-Oil : goal.returns-in-Oil
returns-in-Oil c = rw c.in-Oil.is c.flat_from.ensures

pub returns-in-Opi : goal.returns-in-Opi
returns-in-Opi c = rw c.in-Opi.is c.nested_from.ensures
