-- Cases of named lines, computed from the written rules: a mandato 12 of 2021 with lines of 100.00 (executed), 50.00 (waiting) and 100.00 (executed).
use Prim.Native.Nat.{ℕ}
use mathlib.Core.List.{List, [], ◌∷◌}
use mathlib.Core.Path.{◌≡◌, refl}
use Rattle.record.specs.declared.Record.{Record}
use Rattle.record.specs.Slot.{key_is}
use Rattle.slots.specs.Slots.{find_in}
use Rattle.replacing.specs.declared.Naming.{Naming}
use Rattle.replacing.specs.Replacing.{line_named_in, named_at, named_code, with_replaced_at, with_replaced, replace_code, replaced_by}

abbrev held : List Record
held =
    record {
      kind = 1;
      state = 1;
      lines = 3;
      esercizio = 2021;
      number = 12;
      date = record { year = 2021; month = 3; day = 1 };
      total = 25000;
      states = 2 ∷ 1 ∷ 2 ∷ 0 ∷ 0 ∷ 0 ∷ 0 ∷ 0 ∷ [];
      amounts = 10000 ∷ 5000 ∷ 10000 ∷ 0 ∷ 0 ∷ 0 ∷ 0 ∷ 0 ∷ [];
    }
    ∷ []

abbrev named : ℕ → ℕ → ℕ → ℕ → Naming
named year number line amount = record { key = record { kind = 1; esercizio = year; number = number }; line = line; amount = amount }

abbrev codes : List ℕ
codes =
    replace_code held (named 2021 12 1 10000 ∷ [])
    -- two lines of it; in another order of the lines
    ∷ replace_code held (named 2021 12 3 10000 ∷ named 2021 12 1 10000 ∷ [])
    -- 24: line 0, line 4, line 257, another number, another year
    ∷ replace_code held (named 2021 12 0 10000 ∷ [])
    ∷ replace_code held (named 2021 12 4 0 ∷ [])
    ∷ replace_code held (named 2021 12 257 10000 ∷ [])
    ∷ replace_code held (named 2021 13 1 10000 ∷ [])
    ∷ replace_code held (named 2020 12 1 10000 ∷ [])
    -- 25: waiting, named twice (with another amount too); 26 comes after it
    ∷ replace_code held (named 2021 12 2 5000 ∷ [])
    ∷ replace_code held (named 2021 12 1 10000 ∷ named 2021 12 1 10000 ∷ [])
    ∷ replace_code held (named 2021 12 1 10000 ∷ named 2021 12 1 1 ∷ [])
    ∷ replace_code held (named 2021 12 2 1 ∷ [])
    -- 26; the first line that fails decides
    ∷ replace_code held (named 2021 12 1 9999 ∷ [])
    ∷ replace_code held (named 2021 12 1 10000 ∷ named 2021 12 3 1 ∷ named 2021 12 9 1 ∷ [])
    -- once replaced, in a later order
    ∷ replace_code (replaced_by held (named 2021 12 1 10000 ∷ [])) (named 2021 12 1 10000 ∷ [])
    ∷ []

pub codes_are : codes ≡ 0 ∷ 0 ∷ 24 ∷ 24 ∷ 24 ∷ 24 ∷ 24 ∷ 25 ∷ 25 ∷ 25 ∷ 25 ∷ 26 ∷ 26 ∷ 25 ∷ []
unfolding find_in key_is line_named_in named_at named_code with_replaced_at with_replaced replace_code replaced_by
codes_are = refl
