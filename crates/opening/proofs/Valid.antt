-- An opened table is valid, its bodies are those asked for, every body is empty, and none has closed a year.
use mathlib.Core.Path.{◌≡◌, ap, ◌∙◌}
use mathlib.Core.List.{List, [], ◌++◌}
use mathlib.Core.Bool.{true}
use Prim.Native.Nat.{ℕ, ◌+◌, ◌-◌, ◌*◌, ◌≤◌, ◌<◌}
use native.Mathlib.Omega.{arith}
use lib.ListN.{length, get_or, replicate, length-append, length-replicate, get_or-append}
use Rattle.scan.specs.Bytes.{part}
use Rattle.words.proofs.Laws.{Agree}
use Rattle.bounds.specs.Bounds.{abi_length}
use Rattle.record.specs.Slot.{slot_size}
use Rattle.slots.specs.Slots.{used_at, slots_at, records_at, distinct}
use Rattle.body.specs.Body.{slots_ok, body_ok, cents_of, all_later}
use Rattle.slots.proofs.Laws.{used_end}
use Rattle.ranges.proofs.Laws.{get_zeros}
use Rattle.entries.specs.Entry.{entry_size, request_size, closed_of, slots_of, place_of, codes_from}
use Rattle.entries.proofs.Same.{Rows, codes_rows, slots_rows}
use Rattle.table.specs.Table.{table2, head_size, bodies, abi_of, head_ok, layout_ok, agrees, records_of, body_holds, valid_as, table_ok, codes_of, entry_of}
use Rattle.table.proofs.Laws.{known_2}
use Rattle.table.proofs.Bodies.{lay_past, bodies_each, body_at_lem}
use Rattle.contents.specs.Contents.{head_bytes, entries_bytes}
use Rattle.contents.proofs.Laws.{length_part, length_head, length_entries}
use Rattle.contents.proofs.Written.{get_d_second, get_d_zeros, agree_left, agree_right, head_bodies, head_abi, head_valid, Written, written_rows, written_layout, written_kept, written_open}
use Rattle.request.specs.Request.{first_body, asked, slots_asked, needed, request_ok}
use Rattle.opening.specs.Opening.{no_cents, opened}
use Rattle.request.proofs.Laws.{request, needed_long}

-- EMPTY BODIES

module _ (t : List ℕ) (at n : ℕ) (z : (i : ℕ) → at ≤ i → get_or t i 0 ≡ 0) where
  empty_records : records_at t at n ≡ []
  unfolding slots_at
  empty_records = ap (slots_at t at) (used_end t at n (z at (omega arith)))

  pub empty_used : used_at t at n ≡ 0
  empty_used = used_end t at n (z at (omega arith))

  pub empty_body : body_ok t at n ≡ true
  unfolding body_ok slots_ok slots_at distinct
  empty_body = rw (empty_used, get_zeros t (at + slot_size * 0) (at + slot_size * n) (λ i l u. z i (omega arith)))

-- THE OPENED TABLE

module _ (q : List ℕ) (ok : request_ok q ≡ true) where
  abbrev head : List ℕ
  head = head_bytes (asked q) (needed q) (part q 0 first_body)

  abbrev entries : List ℕ
  entries = entries_bytes request_size no_cents q first_body (asked q) (head_size + entry_size * asked q)

  abbrev slots : List ℕ
  slots = replicate (slot_size * slots_asked q) 0

  five : length (part q 0 first_body) ≡ abi_length
  five = length_part q 0 first_body (omega (arith, (request q ok).whole))

  long : length head ≡ head_size
  long = length_head (asked q) (needed q) (part q 0 first_body) five

  length_contents : length (head ++ entries) ≡ head_size + entry_size * asked q
  length_contents =
      length-append head entries
      ∙ omega (arith, long, length_entries request_size no_cents q (omega arith) first_body (asked q) (head_size + entry_size * asked q) (omega (arith, (request q ok).whole)))

  pub opened_long : length (opened q) ≡ needed q
  unfolding opened needed
  opened_long = length-append (head ++ entries) slots ∙ omega (arith, length_contents, length-replicate {A = ℕ} (slot_size * slots_asked q) 0)

  contents : Agree (opened q) 0 (head ++ entries) 0 (head_size + entry_size * asked q)
  unfolding opened
  contents = record { same = λ i b. get_or-append (head ++ entries) slots 0 (0 + i) (omega (arith, length_contents)) }

  -- every slot is empty
  pub past : (i : ℕ) → head_size + entry_size * asked q ≤ i → get_or (opened q) i 0 ≡ 0
  unfolding opened
  past i l =
      let m : ℕ = head_size + entry_size * asked q in
      let e : i ≡ m + (i - m) = omega arith in
      ap (λ (k : ℕ). get_or (head ++ entries ++ slots) k 0) e ∙ get_d_second (head ++ entries) slots m (i - m) length_contents ∙ get_d_zeros (slot_size * slots_asked q) (i - m)

  first_16 : Agree (opened q) 0 head 0 head_size
  first_16 = agree_left head entries contents head_size (omega (arith, long)) (omega arith)

  written : Written request_size no_cents (opened q) q head_size first_body (asked q) (head_size + entry_size * asked q)
  unfolding needed
  written =
      let w = (request q ok).whole in
      let l = opened_long in
      record {
        bytes = agree_right head entries contents head_size (entry_size * asked q) long (omega arith);
        from = omega arith;
        fits = omega arith;
      }

  pub opened_bodies : bodies (opened q) ≡ asked q
  opened_bodies = head_bodies (opened q) (asked q) (needed q) (part q 0 first_body) five first_16 (request q ok).few

  pub opened_abi : abi_of (opened q) ≡ part q 0 first_body
  opened_abi = head_abi (opened q) (asked q) (needed q) (part q 0 first_body) five first_16 (omega (arith, opened_long, needed_long q))

  opened_head : head_ok table2 (opened q) ≡ true
  opened_head =
      let r = request q ok in
      head_valid (opened q) (asked q) (needed q) (part q 0 first_body) five first_16 r.some r.few opened_long r.fits r.digits (needed_long q)

  -- the codes and slots asked for
  rows : Rows (opened q) q entry_size request_size head_size first_body (asked q)
  rows = written_rows (omega arith) head_size first_body (asked q) (head_size + entry_size * asked q) written

  pub opened_codes : codes_of (opened q) ≡ codes_from request_size q first_body (asked q)
  opened_codes = ap (codes_from entry_size (opened q) head_size) opened_bodies ∙ codes_rows rows (request q ok).forms

  pub opened_slots : (b : ℕ) → b < asked q → slots_of (opened q) (entry_of b) ≡ slots_of q (first_body + request_size * b)
  opened_slots b h = slots_rows rows b h

  opened_layout : layout_ok table2 (opened q) head_size (asked q) (head_size + entry_size * asked q) ≡ true
  unfolding needed
  opened_layout =
      let r = request q ok in
      let l = opened_long in
      written_layout (omega arith) head_size first_body (asked q) (head_size + entry_size * asked q) written r.forms (omega arith) (omega (arith, r.fits))

  -- every body is valid, and nothing is kept
  opened_body : (b : ℕ) → b < asked q → body_holds table2 (opened q) (entry_of b) ≡ true
  unfolding body_holds agrees cents_of all_later
  opened_body b h =
      let e = entry_of b in
      let n = head_size + entry_size * asked q in
      let z : (i : ℕ) → place_of (opened q) e ≤ i → get_or (opened q) i 0 ≡ 0 = λ i l. past i (omega (arith, lay_past known_2 (opened q) head_size (asked q) n b opened_layout h)) in
      let k = written_kept (omega arith) head_size first_body (asked q) n b written h in
      let u = empty_used (opened q) (place_of (opened q) e) (slots_of (opened q) e) z in
      let rs : records_of (opened q) e ≡ [] = empty_records (opened q) (place_of (opened q) e) (slots_of (opened q) e) z in
      rw (empty_body (opened q) (place_of (opened q) e) (slots_of (opened q) e) z, k.0 (omega arith), k.1 (omega arith), rs)

  pub opened_valid : table_ok (opened q) ≡ true
  unfolding valid_as
  opened_valid =
      let r = request q ok in
      rw (opened_head, opened_codes, r.distinct, opened_bodies, opened_layout) (bodies_each known_2 (opened q) head_size (asked q) opened_body)

  -- every body is empty
  pub opened_empty : (b : ℕ) → b < asked q → used_at (opened q) (place_of (opened q) (entry_of b)) (slots_of (opened q) (entry_of b)) ≡ 0
  opened_empty b h =
      let e = opened_bodies in
      let w = body_at_lem (opened q) opened_valid b (omega arith) in
      empty_used (opened q) (place_of (opened q) (entry_of b)) (slots_of (opened q) (entry_of b)) (λ i l. past i (omega (arith, w.past)))

  -- and has closed no year
  pub opened_open : (b : ℕ) → b < asked q → closed_of (opened q) (entry_of b) ≡ 0
  opened_open b h = written_open (omega arith) head_size first_body (asked q) (head_size + entry_size * asked q) b written h
