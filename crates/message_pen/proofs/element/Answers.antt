use native.Mathlib.Omega.{arith}
use Rattle.message_pen.proofs.Laws.{element_operation, element_line, element_total, element_number}
use Rattle.message_pen.proofs.element.Goals as goal

pub leaf-requires : goal.leaf-requires
leaf-requires c = rw (element_operation c.args.kind c.args.code c.in-11.is) at c.requires

pub returns-in-11 : goal.returns-in-11
returns-in-11 c = rw (element_operation c.args.kind c.args.code c.in-11.is) c.leaf.ensures

pub kind_element-requires : goal.kind_element-requires
kind_element-requires c = rw (element_line c.args.kind c.args.code c.in-12.is) at c.requires

pub returns-in-12 : goal.returns-in-12
returns-in-12 c = rw (element_line c.args.kind c.args.code c.in-12.is) c.kind_element.ensures

pub kind_element-requires-in-13 : goal.kind_element-requires-in-13
kind_element-requires-in-13 c = rw (element_total c.args.kind c.args.code c.in-13.is) at c.requires

pub returns-in-13 : goal.returns-in-13
returns-in-13 c = rw (element_total c.args.kind c.args.code c.in-13.is) c.kind_element-in-13.ensures

pub kind_element-requires-in_default : goal.kind_element-requires-in_default
kind_element-requires-in_default c = rw (element_number c.args.kind c.args.code (λ e. omega arith) (λ e. omega arith) (λ e. grind arith) (λ e. grind arith)) at c.requires

pub returns-in_default : goal.returns-in_default
returns-in_default c = rw (element_number c.args.kind c.args.code (λ e. omega arith) (λ e. omega arith) (λ e. grind arith) (λ e. grind arith)) c.kind_element-in_default.ensures
