-- Laws of a request.
use mathlib.Core.Path.{◌≡◌}
use mathlib.Core.List.{List}
use mathlib.Core.Bool.{true, ◌&&◌}
use Prim.Native.Nat.{ℕ, ◌+◌, ◌-◌, ◌*◌, ◌%◌, ◌≤◌}
use native.Mathlib.Omega.{arith}
use lib.ListN.{length}
use lib.Dec.{leb, eqb}
use borrow.Author.Tests.{leb-true, eqb-true}
use Rattle.scan.specs.Bytes.{between, part, all, is_digit}
use Rattle.scan.proofs.Laws.{both}
use Rattle.entries.specs.Entry.{entry_size, request_size, forms_ok, codes_from, distinct_codes}
use Rattle.bounds.specs.Bounds.{max_length}
use Rattle.table.specs.Table.{head_size}
use Rattle.request.specs.Request.{first_body, asked, needed, bodies_asked_ok, request_ok}

-- request_ok, a way out of the code at a time
-- what a right request tells
pub record Request (q : List ℕ) : Type 0 where
  pub digits : all is_digit (part q 0 first_body) ≡ true
  pub whole : first_body + request_size * asked q ≡ length q
  pub some : 1 ≤ asked q
  pub few : asked q ≤ 16
  pub forms : forms_ok request_size q first_body (asked q) ≡ true
  pub distinct : distinct_codes (codes_from request_size q first_body (asked q)) ≡ true
  pub fits : needed q ≤ max_length

asked_whole : (q : List ℕ) → first_body ≤ length q → (length q - first_body) % request_size ≡ 0 → first_body + request_size * asked q ≡ length q
unfolding asked
asked_whole q l w = omega arith

pub request : (q : List ℕ) → request_ok q ≡ true → Request q
unfolding request_ok bodies_asked_ok
request q e =
    let fs = forms_ok request_size q first_body (asked q) in
    let ds = distinct_codes (codes_from request_size q first_body (asked q)) in
    let r₄ = fs && (ds && leb (needed q) max_length) in
    let r₃ = between 1 16 (asked q) && r₄ in
    let r₂ = eqb ((length q - first_body) % request_size) 0 && r₃ in
    let a = both (leb first_body (length q)) (all is_digit (part q 0 first_body) && r₂) e in
    let b = both (all is_digit (part q 0 first_body)) r₂ a.1 in
    let c = both (eqb ((length q - first_body) % request_size) 0) r₃ b.1 in
    let d = both (between 1 16 (asked q)) r₄ c.1 in
    let f = both fs (ds && leb (needed q) max_length) d.1 in
    let g = both ds (leb (needed q) max_length) f.1 in
    let n = both (leb 1 (asked q)) (leb (asked q) 16) d.0 in
    record {
      digits = b.0;
      whole = asked_whole q (leb-true first_body (length q) a.0) (eqb-true ((length q - first_body) % request_size) 0 c.0);
      some = leb-true 1 (asked q) n.0;
      few = leb-true (asked q) 16 n.1;
      forms = f.0;
      distinct = g.0;
      fits = leb-true (needed q) max_length g.1;
    }

-- the table has room for head and entries
pub needed_long : (q : List ℕ) → head_size + entry_size * asked q ≤ needed q
unfolding needed
needed_long q = omega arith
