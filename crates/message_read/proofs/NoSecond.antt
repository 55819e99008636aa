-- No second answer keeps the promise of reading, and 3,152 bytes always suffice for the values.
use Rattle.std.specs.Prelude.{Option, Some, None}
use mathlib.Core.Path.{◌≡◌, refl, sym, ap, subst, ◌∙◌}
use mathlib.Core.List.{List}
use Prim.Native.Nat.{ℕ, ◌≤◌}
use native.Mathlib.Omega.{arith}
use Rattle.scan.proofs.Laws.{in_range}
use Rattle.words.specs.Numbers.{put}
use Rattle.editions.specs.declared.Edition.{Edition}
use Rattle.tree.specs.Tree.{Tree, held_of, kids_in}
use Rattle.tree.proofs.Read.{reads_one}
use Rattle.message.specs.Message.{Message, entry_count}
use Rattle.message.specs.Read.{read, refused, MessageOf, on_tree}
use Rattle.message.proofs.Theorem.{reading_one, read_ok}
use Rattle.message_read.specs.declared.Reply.{Reply}
use Rattle.message_read.specs.Values.{values_in, values_size}
use Rattle.message_read.specs.Promise.{ReadFrom, ReadIn, refuses, no_room, reads, ReadPromise, no_edition, by_edition_lem}

from_of : {y : Edition} {s : List ℕ} {t : Tree} {m : Message} → ReadFrom y s t m → MessageOf y s (read m)
from_of f = on_tree f.short f.derived f.reading

mixed : {A : Type 0} {y : Edition} {s : List ℕ} {t : Tree} {m : Message} {c p x : ℕ} → MessageOf y s (refused c p x) → ReadFrom y s t m → A
mixed {A} {y} {s} {t} {m} {c} {p} {x} a f = let e = reading_one s (refused c p x) (read m) a (from_of f) in let z : ◌≡◌ {A = ℕ} 0 1 = cc in absurd (omega arith)

same_tree : {y : Edition} {s : List ℕ} {t u : Tree} {m n : Message} → ReadFrom y s t m → ReadFrom y s u n → (t ≡ u) × (m ≡ n)
same_tree {y} {s} {t} {u} {m} {n} f g = let e = reading_one s (read m) (read n) (from_of f) (from_of g) in (reads_one s t u f.derived g.derived, (cc))

in_one : {y : Edition} (s values : List ℕ) (r q : Reply) (v w : List ℕ) → ReadIn y s values r v → ReadIn y s values q w → (r ≡ q) × (v ≡ w)
in_one s values r q v w (refuses {code = a} {place = b} {cause = h} x) (refuses {code = c} {place = d} {cause = k} y) =
    let e = reading_one s (refused a b h) (refused c d k) x y in
    let f : a ≡ c = cc in
    let g : b ≡ d = cc in
    let l : h ≡ k = cc in
    (λ i. record { code = f i; place = g i; cause = l i; entries = 0 }, refl)
in_one s values r q v w (refuses x) (no_room f l) = mixed x f
in_one s values r q v w (refuses x) (reads f l) = mixed x f
in_one s values r q v w (no_room f l) (refuses y) = mixed y f
in_one s values r q v w (no_room f l) (no_room g k) = (refl, refl)
in_one s values r q v w (no_room f l) (reads g k) = let e = (same_tree f g).1 in let z = ap values_size e in absurd (omega arith)
in_one s values r q v w (reads f l) (refuses y) = mixed y f
in_one s values r q v w (reads f l) (no_room g k) = let e = (same_tree f g).1 in let z = ap values_size e in absurd (omega arith)
in_one s values r q v w (reads f l) (reads g k) =
    let e = same_tree f g in
    (λ i. record { code = 0; place = 0; cause = 0; entries = entry_count (e.1 i) }, ap (λ (t : Tree). put values 0 (values_in (kids_in (held_of t)))) e.0)

pub read_one : (ed : ℕ) (s values : List ℕ) (r q : Reply) (v w : List ℕ) → ReadPromise ed s values r v → ReadPromise ed s values q w → (r ≡ q) × (v ≡ w)
read_one ed s values r q v w (no_edition x) (no_edition y) = (refl, refl)
read_one ed s values r q v w (no_edition x) (by_edition_lem {e = e} y k) = let h : ◌≡◌ {A = Option Edition} (None) (Some e) = sym x ∙ y in let z : ◌≡◌ {A = ℕ} 0 1 = cc in absurd (omega arith)
read_one ed s values r q v w (by_edition_lem {e = e} x k) (no_edition y) = let h : ◌≡◌ {A = Option Edition} (None) (Some e) = sym y ∙ x in let z : ◌≡◌ {A = ℕ} 0 1 = cc in absurd (omega arith)
read_one ed s values r q v w (by_edition_lem {e = d} x k) (by_edition_lem {e = e} y j) =
    let h : ◌≡◌ {A = Option Edition} (Some e) (Some d) = sym y ∙ x in
    let z : e ≡ d = cc in
    in_one s values r q v w k (subst (λ (i : Edition). ReadIn i s values q w) z j)

pub values_suffice : {y : Edition} (s : List ℕ) (t : Tree) (m : Message) → ReadFrom y s t m → values_size m ≤ 3152
values_suffice s t m f = let l = (in_range 1 64 (entry_count m) (read_ok s m (from_of f)).count).1 in omega arith
