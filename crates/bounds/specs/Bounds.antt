-- The bounds that fields and table share (document 01, "The fields" and "The table": "fields lie in the ranges above").
use Rattle.std.specs.Prelude.{ℕ, Bool, ◌&&◌, List}
use Rattle.scan.specs.Bytes.{between, is_alnum, all}

-- esercizio and a date's year: "2000 to 2099"
abbrev pub is_year : ℕ → Bool
is_year y = between 2000 2099 y

-- numero: "value 1 to 9,999,999"
abbrev pub is_numero : ℕ → Bool
is_numero n = between 1 9999999 n

-- the greatest amount in cents: "1 to 9 digits, a point, two digits"
abbrev pub max_cents : ℕ
max_cents = 99999999999

-- codice_ABI_BT, and the bank's in a table and a request: "five digits"
abbrev pub abi_length : ℕ
abi_length = 5

-- codice_ente_BT, and a body's code in an entry, of n bytes: "1 to 16 letters and digits"
abbrev pub max_code : ℕ
max_code = 16

abbrev pub is_code : ℕ → List ℕ → Bool
is_code n c = between 1 max_code n && all is_alnum c

-- a table: "number of bodies, 1 to 16", "number of slots, 1 to 512"
abbrev pub max_bodies : ℕ
max_bodies = 16

abbrev pub max_slots : ℕ
max_slots = 512

-- document 02, Req 04: "The greatest table length becomes 65,792"
abbrev pub max_length : ℕ
max_length = 65792

-- a flow has "At most 32,768 bytes"
abbrev pub max_flow : ℕ
max_flow = 32768
