use mathlib.Core.Path.{sym}
use Rattle.markup.proofs.Noted.{note_fits, note_large, note_out}
use Rattle.markup.proofs.note.Goals.{else-i-past-via-then-i-past+else-q-le65535, else-i-past-via-else-i-past}
use Rattle.markup.proofs.note.Goals as goal

pub returns-then-q-le65535 : goal.returns-then-q-le65535
returns-then-q-le65535 c = sym (note_fits _ _ _ _ c.if-q-le65535.true)

pub returns-else-i-past : goal.returns-else-i-past
returns-else-i-past c = elim c.else-i-past.branch [
  | else-i-past-via-then-i-past+else-q-le65535 w ↦ sym (note_large _ _ _ _ w.if-q-le65535.false)
  | else-i-past-via-else-i-past w ↦ sym (note_out _ _ _ _ w.if-i-past.false)
]
