-- Document 02, Req 01, code 41: "a caller's value of wrong form". (That the outcome bytes are the flow's is outcomes_fit of crates/message.)
use Rattle.std.specs.Prelude.{List, Bool, ◌&&◌, ℕ}
use Rattle.texts.specs.Texts.{caller_text, istat_text, caller_time, Tells}
use Rattle.message.specs.From.{Caller, CallerOk}

unfoldable pub caller_ok : Caller → Bool
caller_ok c =
    caller_time c.created
    && (caller_time c.outcome
    && (caller_text c.ente
    && (caller_text c.described
    && (istat_text c.istat
    && (caller_text c.fiscal
    && (caller_text c.tramite_ente
    && (caller_text c.tramite_bt
    && caller_text c.flow_bt)))))))

-- it tells whether each has its form and is document 01's text
abbrev pub CallerTold : Type 0
CallerTold = (c : Caller) → Tells (caller_ok c) (CallerOk c)

-- the nine in the order of the call
abbrev pub caller_by : List ℕ → List ℕ → List ℕ → List ℕ → List ℕ → List ℕ → List ℕ → List ℕ → List ℕ → Caller
caller_by created outcome ente described istat fiscal tramite bank flow = record {
  created = created;
  outcome = outcome;
  ente = ente;
  described = described;
  istat = istat;
  fiscal = fiscal;
  tramite_ente = tramite;
  tramite_bt = bank;
  flow_bt = flow;
}
