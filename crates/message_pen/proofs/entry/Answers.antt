use Rattle.message_pen.proofs.Laws.{name_reversali, name_mandati, room_renamed, wrote_renamed}
use Rattle.message_pen.proofs.entry.Goals as goal

pub entry_named-requires : goal.entry_named-requires
entry_named-requires c = room_renamed (name_reversali c.args.v.kind c.if-v-eq2.true) c.requires

pub returns-then-v-eq2 : goal.returns-then-v-eq2
returns-then-v-eq2 c = wrote_renamed (name_reversali c.args.v.kind c.if-v-eq2.true) c.entry_named.ensures

pub entry_named-requires-else-v-eq2 : goal.entry_named-requires-else-v-eq2
entry_named-requires-else-v-eq2 c = room_renamed (name_mandati c.args.v.kind c.if-v-eq2.false) c.requires

pub returns-else-v-eq2 : goal.returns-else-v-eq2
returns-else-v-eq2 c = wrote_renamed (name_mandati c.args.v.kind c.if-v-eq2.false) c.entry_named-else-v-eq2.ensures
