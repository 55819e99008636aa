-- What a close answers and leaves, by the table and the body that its code names.
use Rattle.std.specs.Prelude.{Result, Some, None, Ok, Err}
use Prim.Native.Nat.{ℕ}
use mathlib.Core.Path.{◌≡◌, refl, sym, ap, ◌∙◌}
use mathlib.Core.Bool.{true, false}
use mathlib.Core.List.{List}
use Rattle.entries.specs.Entry.{closed_of, slots_of, place_of}
use Rattle.table.specs.Table.{table_ok, records_of, body_of, entry_of}
use Rattle.address.specs.Address.{body_at, addressed}
use Rattle.address.proofs.Laws.{to_invalid, to_body, to_named}
use Rattle.year_end.specs.declared.CloseRefusal.{CloseRefusal}
use Rattle.year_end.specs.declared.CloseRefusal.TheVariants.{InvalidTable, UnknownBody}
use Rattle.year_end.specs.YearEnd.{close_of, close_stored, close_by, close_table_by, ClosePromise}

module _ (t code : List ℕ) where
  pub addressed_at : table_ok t ≡ true → (b : ℕ) → body_of t code ≡ Some b → addressed t code ≡ Ok ((entry_of b), (place_of t (entry_of b)), (slots_of t (entry_of b)))
  addressed_at ok b f = sym (to_named t code ok (to_body t code f refl refl refl))

  module _ (year : ℕ) {a : Result ℕ CloseRefusal} {t' : List ℕ} (p : ClosePromise t code year a t') where
    pub on_invalid : table_ok t ≡ false → (a ≡ Err InvalidTable) × (t' ≡ t)
    unfolding close_by close_table_by
    on_invalid e = let q = sym (to_invalid t code e) in (p.0 ∙ ap (close_by t year) q, p.1 ∙ ap (close_table_by t year) q)

    module _ (ok : table_ok t ≡ true) where
      pub on_unknown : body_of t code ≡ None → (a ≡ Err UnknownBody) × (t' ≡ t)
      unfolding close_by close_table_by
      on_unknown e = let q = sym (to_named t code ok (sym (ap (body_at t) e))) in (p.0 ∙ ap (close_by t year) q, p.1 ∙ ap (close_table_by t year) q)

      pub on_body : (b : ℕ) → body_of t code ≡ Some b
          → (a ≡ close_of (closed_of t (entry_of b)) year (records_of t (entry_of b)))
          × (t' ≡ close_stored t (entry_of b) (place_of t (entry_of b)) (slots_of t (entry_of b)) year (close_of (closed_of t (entry_of b)) year (records_of t (entry_of b))))
      unfolding close_by close_table_by
      on_body b f = let q = addressed_at ok b f in (p.0 ∙ ap (close_by t year) q, p.1 ∙ ap (close_table_by t year) q)
