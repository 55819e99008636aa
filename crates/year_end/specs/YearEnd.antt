-- Closing a year (document 02, Req 14): "A body's call closes an esercizio: its records are removed, the rest move up, and the freed slots are used by later
-- orders. Entry bytes 40-41 hold the year".
use Rattle.std.specs.Prelude.{ℕ, ◌+◌, ◌≡◌, cond, List, leb, Result, Ok, Err}
use Rattle.bounds.specs.Bounds.{is_year}
use Rattle.words.specs.Numbers.{put, bytes2}
use Rattle.record.specs.declared.Record.{Record}
use Rattle.slots.specs.Slots.{records_at}
use Rattle.entries.specs.Entry.{closed_place, closed_of}
use Rattle.closing.specs.Closing.{earlier_remains, line_waits, staying, removed, year_removed}
use Rattle.service.specs.Service.{settled}
use Rattle.address.specs.declared.NoBody.{NoBody}
use Rattle.address.specs.declared.NoBody.TheVariants.{Invalid, Unknown}
use Rattle.address.specs.Address.{addressed}
use Rattle.year_end.specs.declared.CloseReply.{CloseReply}
use Rattle.year_end.specs.declared.CloseRefusal.{CloseRefusal}
use Rattle.year_end.specs.declared.CloseRefusal.TheVariants.{InvalidTable, UnknownBody, NotAYear, AlreadyClosed, EarlierRemains, LineWaits}

-- THE ANSWER for a body whose last closed year is `last`, with these records: "37 not a year of 2000 to 2099, 36 not later than the last one closed, 38 a
-- record of an earlier year remains, 39 an acquired order of that year has a waiting line"; else the number of records removed
unfoldable pub close_of : ℕ → ℕ → List Record → Result ℕ CloseRefusal
close_of last year rs =
    cond (is_year year)
    (cond (leb year last) (Err AlreadyClosed) (cond (earlier_remains year rs) (Err EarlierRemains) (cond (line_waits year rs) (Err LineWaits) (Ok (removed year rs)))))
    (Err NotAYear)

-- THE BODY CLOSED, of n slots from base on, whose entry is at e: what stays moved up and the freed slots empty, the totals of what stays, and the year
unfoldable pub body_closed : List ℕ → ℕ → ℕ → ℕ → ℕ → List ℕ
body_closed t e base n year =
    put (settled (year_removed t base n year) e (staying year (records_at t base n))) (e + closed_place) (bytes2 year)

-- the table afterwards: the body closed; else "a refusal removes 0 and changes nothing"
abbrev pub close_stored : List ℕ → ℕ → ℕ → ℕ → ℕ → Result ℕ CloseRefusal → List ℕ
close_stored t e base n year (Ok k) = body_closed t e base n year
close_stored t e base n year (Err InvalidTable) = t
close_stored t e base n year (Err UnknownBody) = t
close_stored t e base n year (Err NotAYear) = t
close_stored t e base n year (Err AlreadyClosed) = t
close_stored t e base n year (Err EarlierRemains) = t
close_stored t e base n year (Err LineWaits) = t

-- of any table: "for a close, after 1 and 7"
unfoldable pub close_by : List ℕ → ℕ → Result (ℕ × ℕ × ℕ) NoBody → Result ℕ CloseRefusal
close_by t year (Err Invalid) = Err InvalidTable
close_by t year (Err Unknown) = Err UnknownBody
close_by t year (Ok (e, base, n)) = close_of (closed_of t e) year (records_at t base n)

unfoldable pub close_table_by : List ℕ → ℕ → Result (ℕ × ℕ × ℕ) NoBody → List ℕ
close_table_by t year (Err Invalid) = t
close_table_by t year (Err Unknown) = t
close_table_by t year (Ok (e, base, n)) = close_stored t e base n year (close_of (closed_of t e) year (records_at t base n))

abbrev pub close_answer : List ℕ → List ℕ → ℕ → Result ℕ CloseRefusal
close_answer t code year = close_by t year (addressed t code)

abbrev pub close_table : List ℕ → List ℕ → ℕ → List ℕ
close_table t code year = close_table_by t year (addressed t code)

-- THE PROMISE of a close, of the body with this code and this year
abbrev pub ClosePromise : List ℕ → List ℕ → ℕ → Result ℕ CloseRefusal → List ℕ → Type 0
ClosePromise t code year a t' = (a ≡ close_answer t code year) × (t' ≡ close_table t code year)

-- DOCUMENT 02'S NUMBERS: "The answer has the code and the number of records removed; a refusal removes 0"
abbrev refusal : ℕ → CloseReply
refusal c = record { code = c; removed = 0 }

abbrev pub close_reply : Result ℕ CloseRefusal → CloseReply
close_reply (Err InvalidTable) = refusal 1
close_reply (Err UnknownBody) = refusal 7
close_reply (Err NotAYear) = refusal 37
close_reply (Err AlreadyClosed) = refusal 36
close_reply (Err EarlierRemains) = refusal 38
close_reply (Err LineWaits) = refusal 39
close_reply (Ok k) = record { code = 0; removed = k }

abbrev pub close_code : Result ℕ CloseRefusal → ℕ
close_code a = (close_reply a).code

-- the promise in these numbers
abbrev pub CloseReplies : List ℕ → List ℕ → ℕ → ℕ → ℕ → List ℕ → Type 0
CloseReplies t code year n k t' =
    (a : Result ℕ CloseRefusal) × ClosePromise t code year a t' × (n ≡ (close_reply a).code) × (k ≡ (close_reply a).removed)
