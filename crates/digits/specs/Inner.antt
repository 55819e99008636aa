-- An amount as the code takes it apart, from its end: the point is the last byte but two. The promises speak of none of it.
use Rattle.std.specs.Prelude.{ℕ, ◌-◌, List, Bool, cond, not, ◌&&◌, length, eqb, Option, None}
use Rattle.scan.specs.Bytes.{byte, byte_at, part, between}
use Rattle.digits.specs.Digits.{digits, in_cents}

-- a zero in front that isn't the only digit before the point
unfoldable pub zero_first : List ℕ → Bool
zero_first t = eqb (byte_at t 0) (byte "0") && not (eqb (length t) 4)

abbrev pub importo_back : List ℕ → Option ℕ
importo_back t =
    cond (between 4 12 (length t) && (eqb (byte_at t (length t - 3)) (byte ".") && not (zero_first t)))
    (in_cents (digits 1 9 (part t 0 (length t - 3))) (digits 2 2 (part t (length t - 2) (length t))))
    None
