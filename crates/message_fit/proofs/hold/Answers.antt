use mathlib.Core.Path.{refl, ◌∙◌}
use native.Mathlib.Omega.{arith}
use Rattle.message_fit.proofs.Holding.{held_so}
use Rattle.message_fit.proofs.hold.Goals as goal

pub text-g-requires : goal.text-g-requires
text-g-requires c = omega (arith, c.time-a.ensures.short, c.text-b.ensures.short, c.text-c.ensures.short, c.istat_code-d.ensures.short, c.text-e.ensures.short, c.text-f.ensures.short)

pub text-h-requires : goal.text-h-requires
text-h-requires c = omega (arith, c.time-a.ensures.short, c.text-b.ensures.short, c.text-c.ensures.short, c.istat_code-d.ensures.short, c.text-e.ensures.short, c.text-f.ensures.short, c.text-g.ensures.short)

pub time-i-requires : goal.time-i-requires
time-i-requires c = omega (arith, c.time-a.ensures.short, c.text-b.ensures.short, c.text-c.ensures.short, c.istat_code-d.ensures.short, c.text-e.ensures.short, c.text-f.ensures.short, c.text-g.ensures.short, c.text-h.ensures.short)

pub shape_of-texts : goal.shape_of-texts
shape_of-texts c = c.time-i.ensures.size ∙ c.text-h.ensures.size ∙ c.text-g.ensures.size ∙ c.text-f.ensures.size ∙ c.text-e.ensures.size ∙ c.istat_code-d.ensures.size ∙ c.text-c.ensures.size ∙ c.text-b.ensures.size ∙ c.time-a.ensures.size

pub returns : goal.returns
returns c = held_so c.requires c.time-a.ensures c.text-b.ensures c.text-c.ensures c.istat_code-d.ensures c.text-e.ensures c.text-f.ensures c.text-g.ensures c.text-h.ensures c.time-i.ensures c.span-9.ensures c.span.ensures c.span-2.ensures c.span-3.ensures c.span-4.ensures c.span-5.ensures c.span-6.ensures c.span-7.ensures c.span-8.ensures refl
