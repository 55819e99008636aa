use native.Mathlib.Omega.{arith}
use Rattle.markup.proofs.Noted.{noted_none}
use Rattle.markup.proofs.content_alone.Goals as goal

pub content-requires : goal.content-requires
content-requires c = (c.requires, omega arith, noted_none c.args.s.now 1)
