use Rattle.scan.specs.Bytes.{bytes}
use Rattle.pen.proofs.Laws.{room_open, room_close, wrote_tagged}
use Rattle.message.specs.Message.{refused_as}
use Rattle.message_pen.proofs.Laws.{non_room, word_room, refused_wrote}
use Rattle.message_pen.proofs.refused_word.Goals as goal

pub open_tag-a-requires : goal.open_tag-a-requires
open_tag-a-requires c = room_open (bytes "esito_operazione") (bytes (refused_as c.args.o)) c.requires

pub ink-b-requires : goal.ink-b-requires
ink-b-requires c = non_room c.args.o (bytes "esito_operazione") c.requires c.open_tag-a.ensures

pub word-c-requires : goal.word-c-requires
word-c-requires c = word_room c.args.o (bytes "esito_operazione") c.requires c.open_tag-a.ensures c.ink-b.ensures

pub close_tag-requires : goal.close_tag-requires
close_tag-requires c = room_close (bytes "esito_operazione") (bytes (refused_as c.args.o)) c.requires c.open_tag-a.ensures (refused_wrote c.args.o (bytes "esito_operazione") c.requires c.open_tag-a.ensures c.ink-b.ensures c.word-c.ensures)

pub returns : goal.returns
returns c = wrote_tagged (bytes "esito_operazione") (bytes (refused_as c.args.o)) c.open_tag-a.ensures (refused_wrote c.args.o (bytes "esito_operazione") c.requires c.open_tag-a.ensures c.ink-b.ensures c.word-c.ensures) c.close_tag.ensures
