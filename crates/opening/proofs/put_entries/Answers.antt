use Prim.Native.Nat.{◌-◌, ◌+◌, ◌*◌}
use mathlib.Core.Path.{◌≡◌, sym, ◌∙◌}
use native.Mathlib.Omega.{arith}
use Rattle.words.specs.Numbers.{put}
use Rattle.record.specs.Slot.{slot_size}
use Rattle.entries.specs.Entry.{entry_size, request_size}
use Rattle.contents.specs.Contents.{entries_bytes}
use Rattle.contents.proofs.Laws.{length_part, entries_more, entries_done}
use Rattle.opening.specs.Opening.{no_cents}
use Rattle.table.specs.Table.{head_size}
use Rattle.request.specs.Request.{first_body}
use Rattle.opening.proofs.put_entries.Goals as goal

pub put_entry-requires : goal.put_entry-requires
put_entry-requires c = (omega arith, length_part c.args.q.now (first_body + request_size * c.loop-i.i) request_size (omega arith))

pub loop-i-preserved : goal.loop-i-preserved
loop-i-preserved c = let l = c.loop-i in
    let q = c.args.q.now in
    let t = c.put_entry.new.t in
    let at = first_body + request_size * l.i in
    let to = head_size + entry_size * l.i in
    let m = c.args.n - (l.i + 1) in
    let s = c.slots_of.ensures.0 in
    let more = entries_more request_size no_cents q (omega arith) l.t t to at (c.args.n - l.i) m l.p (omega arith) (omega arith) (omega arith) c.put_entry.ensures in
    let x : to + entry_size ≡ head_size + entry_size * (l.i + 1) = omega arith in
    let y : at + request_size ≡ first_body + request_size * (l.i + 1) = omega arith in
    (omega arith, l.invariant.1 ∙ more ∙ (λ j. put t (x j) (entries_bytes request_size no_cents q (y j) m (l.p + slot_size * sym s j))))

pub returns : goal.returns
returns c = let l = c.loop-i in
    sym (l.invariant.1 ∙ entries_done request_size no_cents c.args.q.now (omega arith) l.t (head_size + entry_size * l.i) (first_body + request_size * l.i) (c.args.n - l.i) l.p (omega arith))
