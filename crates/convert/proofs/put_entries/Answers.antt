use Prim.Native.Nat.{◌-◌, ◌+◌, ◌*◌}
use mathlib.Core.Path.{◌≡◌, sym, ◌∙◌}
use native.Mathlib.Omega.{arith}
use Rattle.words.specs.Numbers.{put}
use Rattle.record.specs.Slot.{slot_size}
use Rattle.entries.specs.Entry.{entry_size, request_size}
use Rattle.table.specs.Table.{table1, head_size}
use Rattle.contents.specs.Contents.{entries_bytes}
use Rattle.contents.proofs.Laws.{length_part, entries_more, entries_done}
use Rattle.convert.specs.Convert.{cents_at}
use Rattle.convert.proofs.Laws.{room, few, turn, put_same}
use Rattle.convert.proofs.put_entries.Goals as goal

pub overflow_mul-p : goal.overflow_mul-p
overflow_mul-p c = let e = c.requires.1 in
    let w = room c.args.o.now c.requires.0 in
    let f = few c.args.o.now c.requires.0 in
    omega arith

pub overflow_add-p : goal.overflow_add-p
overflow_add-p c = let e = c.requires.1 in
    let w = room c.args.o.now c.requires.0 in
    let f = few c.args.o.now c.requires.0 in
    omega arith

pub slice_bounds-form-count : goal.slice_bounds-form-count
slice_bounds-form-count c = let u = turn c.args.o.now c.requires.0 {at = head_size + table1.entry * c.loop-i.i} {left = c.args.n - c.loop-i.i} c.requires.1 (omega arith) (omega arith) in
    let x = u.fixed in
    omega arith

pub slice_bounds-form-start : goal.slice_bounds-form-start
slice_bounds-form-start c = let u = turn c.args.o.now c.requires.0 {at = head_size + table1.entry * c.loop-i.i} {left = c.args.n - c.loop-i.i} c.requires.1 (omega arith) (omega arith) in
    let x = u.fixed in
    omega arith

pub slice_bounds-form-end : goal.slice_bounds-form-end
slice_bounds-form-end c = let u = turn c.args.o.now c.requires.0 {at = head_size + table1.entry * c.loop-i.i} {left = c.args.n - c.loop-i.i} c.requires.1 (omega arith) (omega arith) in
    let x = u.fixed in
    omega arith

pub totals_at-sums-requires : goal.totals_at-sums-requires
totals_at-sums-requires c = let u = turn c.args.o.now c.requires.0 {at = head_size + table1.entry * c.loop-i.i} {left = c.args.n - c.loop-i.i} c.requires.1 (omega arith) (omega arith) in
    let x = u.fixed in
    (u.fixed, u.inside, u.few, u.valid)

pub put_entry-requires : goal.put_entry-requires
put_entry-requires c = let u = turn c.args.o.now c.requires.0 {at = head_size + table1.entry * c.loop-i.i} {left = c.args.n - c.loop-i.i} c.requires.1 (omega arith) (omega arith) in
    let x = u.fixed in
    (omega arith, length_part c.args.o.now (head_size + table1.entry * c.loop-i.i) request_size (omega arith))

pub slots_of-requires : goal.slots_of-requires
slots_of-requires c = let u = turn c.args.o.now c.requires.0 {at = head_size + table1.entry * c.loop-i.i} {left = c.args.n - c.loop-i.i} c.requires.1 (omega arith) (omega arith) in
    let x = u.fixed in
    omega arith

pub overflow_add-p-in-loop-i : goal.overflow_add-p-in-loop-i
overflow_add-p-in-loop-i c = let e = c.requires.1 in
    let w = room c.args.o.now c.requires.0 in
    let f = few c.args.o.now c.requires.0 in
    omega arith

pub loop-i-preserved : goal.loop-i-preserved
loop-i-preserved c = let e = c.requires.1 in
    let w = room c.args.o.now c.requires.0 in
    let f = few c.args.o.now c.requires.0 in
    let u = turn c.args.o.now c.requires.0 {at = head_size + table1.entry * c.loop-i.i} {left = c.args.n - c.loop-i.i} c.requires.1 (omega arith) (omega arith) in
    let x = u.fixed in
    let l = c.loop-i in
    let o = c.args.o.now in
    let t = c.put_entry.new.t in
    let at = head_size + table1.entry * l.i in
    let to = head_size + entry_size * l.i in
    let m = c.args.n - (l.i + 1) in
    let s = c.slots_of.ensures.0 in
    let more = entries_more table1.entry (cents_at o) o (omega arith) l.t t to at (c.args.n - l.i) m l.p (omega arith) (omega arith) (omega arith) (c.put_entry.ensures ∙ put_same l.t to o at l.p c.totals_at-sums.ensures.0 c.totals_at-sums.ensures.1) in
    let v : to + entry_size ≡ head_size + entry_size * (l.i + 1) = omega arith in
    let y : at + table1.entry ≡ head_size + table1.entry * (l.i + 1) = omega arith in
    (omega arith, l.invariant.1 ∙ more ∙ (λ j. put t (v j) (entries_bytes table1.entry (cents_at o) o (y j) m (l.p + slot_size * sym s j))))

pub returns : goal.returns
returns c = let l = c.loop-i in
    sym (l.invariant.1 ∙ entries_done table1.entry (cents_at c.args.o.now) c.args.o.now (omega arith) l.t (head_size + entry_size * l.i) (head_size + table1.entry * l.i) (c.args.n - l.i) l.p (omega arith))
