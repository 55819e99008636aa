-- The parts of `element_tree` (specs/Tree.antt): what content holds, and the trees of elements. (No function over derivations can call another, so the
-- cases stand in each of the three)
use Prim.Native.Nat.{ℕ, ◌+◌}
use mathlib.Core.List.{List, ◌++◌}
use lib.ListN.{length}
use Rattle.grammar.specs.Grammar.{start_tag, element, Content, elements, only, Elements, last, next}
use Rattle.tree.specs.Tree.{Tree, tree, Held, says, holds, Trees, none, more}

unfoldable pub content_tree : {d : ℕ} {c : List ℕ} → Content d c → ℕ → Held
content_tree x = elim x as (λ d e y. ℕ → Tree) (λ d c y. ℕ → Held) (λ d k y. ℕ → Trees) [
  | element {n = n} na (co → held) ↦ λ p. tree p n (held (p + length (start_tag n)))
  | elements {w = w} wh (ks → trees) ↦ λ p. holds (trees (p + length w))
  | only {t = t} te ↦ λ p. says t
  | last (el → it) wh ↦ λ p. more (it p) none
  | next {e = e} {w = w} (el → it) wh (ks → others) ↦ λ p. more (it p) (others (p + length (e ++ w)))
]

unfoldable pub elements_tree : {d : ℕ} {k : List ℕ} → Elements d k → ℕ → Trees
elements_tree x = elim x as (λ d e y. ℕ → Tree) (λ d c y. ℕ → Held) (λ d k y. ℕ → Trees) [
  | element {n = n} na (co → held) ↦ λ p. tree p n (held (p + length (start_tag n)))
  | elements {w = w} wh (ks → trees) ↦ λ p. holds (trees (p + length w))
  | only {t = t} te ↦ λ p. says t
  | last (el → it) wh ↦ λ p. more (it p) none
  | next {e = e} {w = w} (el → it) wh (ks → others) ↦ λ p. more (it p) (others (p + length (e ++ w)))
]
