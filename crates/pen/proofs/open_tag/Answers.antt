use Rattle.scan.specs.Bytes.{bytes}
use Rattle.pen.proofs.Laws.{wrote_then, room_first, room_then}
use Rattle.pen.proofs.open_tag.Goals as goal

pub ink-b-requires : goal.ink-b-requires
ink-b-requires c = room_then c.ink-a.ensures (room_first (bytes ">") c.requires)

pub ink-requires : goal.ink-requires
ink-requires c = room_then (wrote_then c.ink-a.ensures c.ink-b.ensures) c.requires

pub returns : goal.returns
returns c = wrote_then (wrote_then c.ink-a.ensures c.ink-b.ensures) c.ink.ensures
