-- Document 02, Req 01: the message "from a flow and its outcome bytes, the caller giving the time of outcome and the header values that the profile
-- doesn't read".
use Rattle.std.specs.Prelude.{◌≡◌, ◌⊎◌, List, [], ◌∷◌, Bool, true, cond, ◌&&◌, ℕ, length, drop, eqb, leb}
use Rattle.scan.specs.Bytes.{byte_at}
use Rattle.words.specs.Numbers.{be4, be8}
use Rattle.codes.specs.Codes.{operation_number}
use Rattle.fields.specs.declared.Form.TheVariants.{DataOraZona, Testo}
use Rattle.record.specs.Slot.{mandato_kind, reversale_kind}
use Rattle.order.specs.Ordinativo.{Ordinativo}
use Rattle.orders.specs.Orders.{text_in}
use Rattle.editions.specs.declared.Edition.{Edition}
use Rattle.header.specs.Header.{Header, testata_of}
use Rattle.flow.specs.Flow.{root_named, header_of, flow_orders}
use Rattle.message.specs.Message.{Entry, Message, TextOk, is_outcome}

-- WHAT THE CALLER GIVES: the message's time and the time of outcome, and seven texts
pub record Caller : Type 0 where
  pub created : List ℕ
  pub outcome : List ℕ
  pub ente : List ℕ
  pub described : List ℕ
  pub istat : List ℕ
  pub fiscal : List ℕ
  pub tramite_ente : List ℕ
  pub tramite_bt : List ℕ
  pub flow_bt : List ℕ

-- "Caller's texts have 1 to 140 bytes of document 01's text .. an empty ISTAT code left out; times are as there with Z or a sign and hh:mm to 23:59"
pub record CallerOk (c : Caller) : Type 0 where
  pub created : TextOk DataOraZona c.created
  pub outcome : TextOk DataOraZona c.outcome
  pub ente : TextOk Testo c.ente
  pub described : TextOk Testo c.described
  pub istat : (c.istat ≡ []) ⊎ TextOk Testo c.istat
  pub fiscal : TextOk Testo c.fiscal
  pub tramite_ente : TextOk Testo c.tramite_ente
  pub tramite_bt : TextOk Testo c.tramite_bt
  pub flow_bt : TextOk Testo c.flow_bt

-- OUTCOME BYTES, 16 per order: "their kinds, operations, numbers, line counts or totals" are this flow's, and no "code no order can get"
abbrev pub outcome_fits : Ordinativo → List ℕ → Bool
outcome_fits q o =
    eqb (byte_at o 0) q.kind
    && (eqb (byte_at o 1) (operation_number q.operation)
    && (is_outcome (byte_at o 2)
    && (eqb (byte_at o 3) (length q.lines)
    && (eqb (be4 o 4) q.number
    && eqb (be8 o 8) q.total))))

unfoldable pub outcomes_fit : List Ordinativo → List ℕ → Bool
outcomes_fit [] o = true
outcomes_fit (q ∷ qs) o = (leb 16 (length o) && outcome_fits q o) && outcomes_fit qs (drop 16 o)

-- "ONE ENTRY PER ORDER", those of a kind in flow order
abbrev pub entry_from : List ℕ → ℕ → List ℕ → Ordinativo → ℕ → Entry
entry_from flow year time q code = record {
  operation = q.operation;
  code = code;
  flow = flow;
  esercizio = year;
  number = q.number;
  date = q.date;
  total = q.total;
  time = time;
}

unfoldable pub entries_from : ℕ → List ℕ → ℕ → List ℕ → List Ordinativo → List ℕ → List Entry
entries_from kind flow year time [] o = []
entries_from kind flow year time (q ∷ qs) o =
    cond (eqb q.kind kind) (entry_from flow year time q (byte_at o 2) ∷ entries_from kind flow year time qs (drop 16 o)) (entries_from kind flow year time qs (drop 16 o))

-- THE MESSAGE of a flow's header, its identificativo_flusso and its orders, their outcome bytes, and the caller's values
abbrev pub message_from : Header → List ℕ → List Ordinativo → List ℕ → Caller → Message
message_from h flow qs o c = record {
  abi = h.abi;
  created = c.created;
  ente = c.ente;
  described = c.described;
  istat = c.istat;
  fiscal = c.fiscal;
  tramite_ente = c.tramite_ente;
  tramite_bt = c.tramite_bt;
  body = h.ente;
  flow_bt = c.flow_bt;
  reversali = entries_from reversale_kind flow h.esercizio c.outcome qs o;
  mandati = entries_from mandato_kind flow h.esercizio c.outcome qs o;
}

-- of a flow of an edition that stands, its root's content beginning at `at`: identificativo_flusso is row 1 of the table that has codice_ABI_BT
abbrev pub identificativo_of : Edition → List ℕ → ℕ → List ℕ
identificativo_of e s at = text_in 1 s (testata_of e s (root_named e s at))

abbrev pub flow_message : Edition → List ℕ → ℕ → List ℕ → Caller → Message
flow_message e s at o c = message_from (header_of e s at) (identificativo_of e s at) (flow_orders e s at) o c
