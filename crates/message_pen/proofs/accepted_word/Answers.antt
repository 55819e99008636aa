use Rattle.scan.specs.Bytes.{bytes}
use Rattle.pen.proofs.Laws.{room_open, room_in, room_close, wrote_tagged}
use Rattle.message.specs.Message.{accepted_as}
use Rattle.message_pen.proofs.accepted_word.Goals as goal

pub open_tag-a-requires : goal.open_tag-a-requires
open_tag-a-requires c = room_open (bytes "esito_operazione") (bytes (accepted_as c.args.o)) c.requires

pub word-b-requires : goal.word-b-requires
word-b-requires c = room_in (bytes "esito_operazione") (bytes (accepted_as c.args.o)) c.requires c.open_tag-a.ensures

pub close_tag-requires : goal.close_tag-requires
close_tag-requires c = room_close (bytes "esito_operazione") (bytes (accepted_as c.args.o)) c.requires c.open_tag-a.ensures c.word-b.ensures

pub returns : goal.returns
returns c = wrote_tagged (bytes "esito_operazione") (bytes (accepted_as c.args.o)) c.open_tag-a.ensures c.word-b.ensures c.close_tag.ensures
