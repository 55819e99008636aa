use Prim.Native.Nat.{◌+◌, ◌-◌, ◌*◌, ◌≤◌}
use mathlib.Core.Path.{◌≡◌}
use Rattle.entries.specs.Entry.{request_size, slots_from}
use Rattle.request.specs.Request.{first_body}
use Rattle.request.proofs.slots_asked.Given as goal

abbrev pub invariant-loop-i : goal.invariant-loop-i
invariant-loop-i l = (l.sum ≤ 65535 * l.i) × (l.sum + slots_from request_size l.q (first_body + request_size * l.i) (l.n - l.i) ≡ slots_from request_size l.q first_body l.n)
