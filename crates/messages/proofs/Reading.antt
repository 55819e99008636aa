-- The call that reads.
use mathlib.Core.Path.{refl}
use Rattle.message_read.specs.Promise.{refuses, no_room, reads, no_edition, by_edition_lem}
use Rattle.message_read.proofs.NoSecond.{read_one}
use Rattle.messages.specs.Reading.{ReadKept, NoSecondRead}

pub read_kept : ReadKept
read_kept ed s values v r (no_edition x) h = (refl, refl)
read_kept ed s values v r (by_edition_lem x (refuses y)) h = (refl, refl)
read_kept ed s values v r (by_edition_lem x (no_room f l)) h = (refl, refl)
read_kept ed s values v r (by_edition_lem x (reads f l)) h = absurd (h refl)

pub no_second_read : NoSecondRead
no_second_read = read_one
