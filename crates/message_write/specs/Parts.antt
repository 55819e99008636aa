-- A message of a flow as its writer takes it up: names for the contracts of its functions.
use Rattle.std.specs.Prelude.{◌≡◌, ℕ, ◌+◌, ◌≤◌, List, [], ◌∷◌, true, cond, length, eqb}
use Rattle.scan.specs.Bytes.{byte_at, part}
use Rattle.schema.specs.declared.Parent.{Parent}
use Rattle.rows.specs.declared.Kept.{Kept}
use Rattle.rows.specs.Kept.{kept_from}
use Rattle.order.specs.Ordinativo.{Ordinativo, ordinativo}
use Rattle.orders.specs.Orders.{text_in, order_of}
use Rattle.editions.specs.declared.Edition.{Edition}
use Rattle.header.specs.Header.{Header, root_of, testata_of, header_in}
use Rattle.header.specs.declared.Span.{Span}
use Rattle.header.specs.declared.Heading.{Heading}
use Rattle.header.specs.Heading.{header_by, Within}
use Rattle.tree.specs.Tree.{Trees, none}
use Rattle.message.specs.Message.{Entry, Message}
use Rattle.message.specs.Written.{entries_out, message_tree}
use Rattle.message.specs.From.{Caller, outcomes_fit, entry_from, entries_from, message_from}
use Rattle.message_pen.specs.Parts.{RoomOf, words_for, entry_name}
use Rattle.message_fit.specs.declared.Held.{Held}
use Rattle.message_fit.specs.Walk.{orders_from, Rooted}
use Rattle.message_fit.specs.Holding.{caller_in, HeldIn}

-- the entry of an order of this kind, and none of another's
abbrev pub entry_if : ℕ → List ℕ → ℕ → List ℕ → Ordinativo → ℕ → List Entry
entry_if kind flow year time q code = cond (eqb q.kind kind) (entry_from flow year time q code ∷ []) []

-- entries of a kind as elements
abbrev pub kind_out : ℕ → List Entry → Trees
kind_out kind es = entries_out (entry_name kind) (words_for kind) es none

-- the entry, as an element, of the order that a named child is, with its outcome bytes at a place
abbrev pub entry_here : ℕ → List ℕ → ℕ → List ℕ → List ℕ → Kept → List ℕ → ℕ → Trees
entry_here kind flow year time f n o k = kind_out kind (entry_if kind flow year time (ordinativo (order_of f n)) (byte_at o (k + 2)))

-- the entries of a kind, of the orders from a place on with their outcome bytes
abbrev pub kind_from : ℕ → List ℕ → ℕ → List ℕ → Parent → List ℕ → ℕ → List ℕ → Trees
kind_from kind flow year time root f from o = kind_out kind (entries_from kind flow year time (orders_from root f from) o)

-- the header of a flow by its three values
abbrev pub header_with : List ℕ → List ℕ → ℕ → Header
header_with abi body year = record { abi = abi; ente = body; esercizio = year }

-- identificativo_flusso of the root's children from a place on, and the message of these
abbrev pub flow_name : Edition → List ℕ → ℕ → List ℕ
flow_name e f from = text_in 1 f (testata_of e f (kept_from (root_of e) f from))

abbrev pub message_at : Edition → List ℕ → ℕ → List ℕ → Caller → Message
message_at e f from o c = message_from (header_in e f (kept_from (root_of e) f from)) (flow_name e f from) (orders_from (root_of e) f from) o c

-- a message whose header's values and identificativo_flusso stand at these places of the flow
abbrev pub message_by : List ℕ → ℕ → Parent → Heading → Span → List ℕ → Caller → Message
message_by f from root h w o c = message_from (header_by f h) (part f w.from w.to) (orders_from root f from) o c

-- WHAT THE WRITER IS GIVEN: the orders from a place on with outcome bytes that fit, where the header's values and identificativo_flusso stand, the caller's
-- texts as they are held, and room for the whole
pub record Written (f past : List ℕ) (from : ℕ) (root : Parent) (h : Heading) (w : Span) (o : List ℕ) (c : Held) (t : List ℕ) : Type 0 where
  pub rooted : Rooted root f past from
  pub fits : outcomes_fit (orders_from root f from) o ≡ true
  pub heading : Within f h
  pub name : (w.from ≤ w.to) × (w.to ≤ length f)
  pub held : HeldIn c t
  pub room : RoomOf 0 (message_tree (message_by f from root h w o (caller_in c t)))
