-- A caller's nine texts, held one after another in bytes that the call lends: names for the contracts of the code. The promise speaks of none of it.
use Rattle.std.specs.Prelude.{ℕ, ◌+◌, ◌≤◌, ◌≡◌, List, Bool, true, false, ◌&&◌, length}
use Rattle.pen.specs.Pen.{Wrote}
use Rattle.message.specs.From.{Caller}
use Rattle.message_pen.specs.Parts.{text_at, Lies, GivenIn}
use Rattle.message_fit.specs.declared.Held.{Held}
use Rattle.message_fit.specs.declared.Laid.{Laid}
use Rattle.message_fit.specs.Fit.{caller_by, caller_ok}

-- room for nine texts
abbrev pub texts_room : ℕ
texts_room = 1260

-- the values that are held
abbrev pub caller_in : Held → List ℕ → Caller
caller_in h t =
    caller_by (text_at t h.given.created) (text_at t h.outcome) (text_at t h.given.ente) (text_at t h.given.described) (text_at t h.given.istat)
    (text_at t h.given.fiscal) (text_at t h.given.tramite) (text_at t h.given.bank) (text_at t h.given.flow)

-- they lie within the bytes, and are judged
pub record HeldIn (h : Held) (t : List ℕ) : Type 0 where
  pub right : h.right ≡ caller_ok (caller_in h t)
  pub outcome : Lies t h.outcome
  pub given : GivenIn t h.given

-- they are the caller's, or both are wrong
pub record Holds (h : Held) (t : List ℕ) (c : Caller) : Type 0 where
  pub held : HeldIn h t
  pub right : h.right ≡ caller_ok c
  pub same : h.right ≡ true → caller_in h t ≡ c

-- one of them after the others, where it and they have their forms
pub record Lays (before after : List ℕ) (a : Laid) (t : List ℕ) (ok : Bool) (r : Laid) : Type 0 where
  pub right : r.right ≡ (a.right && ok)
  pub wrote : r.right ≡ true → Wrote before after a.to t r.to
  pub none : r.right ≡ false → r.to ≡ a.to
  pub after_it : a.to ≤ r.to
  pub short : r.to ≤ a.to + 140
  pub size : length after ≡ length before
