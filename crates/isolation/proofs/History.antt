-- What a body holds is told by its own lines of the log (for request 11: cash by history). Assumes nothing.
use mathlib.Core.Path.{◌≡◌, refl}
use mathlib.Core.Bool.{Bool, true, false, cond}
use mathlib.Core.Option.{some}
use mathlib.Core.List.{List, [], ◌∷◌}
use Prim.Native.Nat.{ℕ, ◌+◌, ◌≤◌, ◌<◌}
use native.Mathlib.Omega.{arith}
use Rattle.isolation.specs.Order.{is, mine}
use Rattle.isolation.specs.Tally.{tally}
use Rattle.isolation.proofs.OrderLaws.{is_some}
use Rattle.isolation.specs.Machine.{Machine, Laws, whose, state_after, log}
use Rattle.isolation.proofs.Runs.{not_mine}

-- what holds of each line of a log
abbrev pub EachLine : {C A : Type 0} → (C → A → Type 0) → List (C × A) → Type 0
EachLine P [] = Unit
EachLine P (l ∷ ls) = P l.0 l.1 × EachLine P ls

-- A number that a body's part tells, and that each of its calls moves by what its line tells, where the line is a fair one: gains and losses of the body's lines
-- balance it.
module _ (M : Machine) (Good : M.State → Type 0) (laws : Laws M Good) (b : ℕ) (l : b < M.count) (held : M.State → ℕ)
    (same : (s t : M.State) → Good s → Good t → M.part b s ≡ M.part b t → held s ≡ held t) where
  module _ (gain loss : M.Call → M.Answer → ℕ) (Fair : M.Call → M.Answer → Type 0)
      (moves : (c : M.Call) (s : M.State) → Good s → M.who c ≡ some b → Fair c (M.answer c s) → held (M.next c s) + loss c (M.answer c s) ≡ held s + gain c (M.answer c s)) where
    pub balance : (cs : List M.Call) (s : M.State) → Good s → EachLine Fair (mine (whose M) b (log M cs s))
        → held (state_after M cs s) + tally loss (mine (whose M) b (log M cs s)) ≡ held s + tally gain (mine (whose M) b (log M cs s))
    balance [] s g f = refl
    balance (c ∷ cs) s g f = go (balance cs (M.next c s) (laws.stays c s g)) (is b (M.who c)) refl f
      where
        go : (EachLine Fair (mine (whose M) b (log M cs (M.next c s)))
            → held (state_after M cs (M.next c s)) + tally loss (mine (whose M) b (log M cs (M.next c s))) ≡ held (M.next c s) + tally gain (mine (whose M) b (log M cs (M.next c s))))
            → (u : Bool) → is b (M.who c) ≡ u → EachLine Fair (cond u ((c, M.answer c s) ∷ mine (whose M) b (log M cs (M.next c s))) (mine (whose M) b (log M cs (M.next c s))))
            → held (state_after M (c ∷ cs) s) + tally loss (mine (whose M) b (log M (c ∷ cs) s)) ≡ held s + tally gain (mine (whose M) b (log M (c ∷ cs) s))
        go ih true e f = rw e (let m = moves c s g (is_some b (M.who c) e) f.0 in let x = ih f.1 in omega arith)
        go ih false e f = rw e (let m = same (M.next c s) s (laws.stays c s g) g (not_mine M Good laws c b s l g e) in let x = ih f in omega arith)

  -- A number that none of the body's calls lowers: what each line shows of it then holds in the end
  module _ (Shows : ℕ → M.Call → M.Answer → Type 0) (more : (m n : ℕ) (c : M.Call) (a : M.Answer) → m ≤ n → Shows m c a → Shows n c a)
      (grows : (c : M.Call) (s : M.State) → Good s → M.who c ≡ some b → (held s ≤ held (M.next c s)) × Shows (held (M.next c s)) c (M.answer c s)) where
    pub rises : (cs : List M.Call) (s : M.State) → Good s → held s ≤ held (state_after M cs s)
    rises [] s g = omega arith
    rises (c ∷ cs) s g = go (rises cs (M.next c s) (laws.stays c s g)) (is b (M.who c)) refl
      where
        go : held (M.next c s) ≤ held (state_after M cs (M.next c s)) → (u : Bool) → is b (M.who c) ≡ u → held s ≤ held (state_after M cs (M.next c s))
        go ih true e = let m = (grows c s g (is_some b (M.who c) e)).0 in omega arith
        go ih false e = let m = same (M.next c s) s (laws.stays c s g) g (not_mine M Good laws c b s l g e) in omega arith

    pub shown : (cs : List M.Call) (s : M.State) → Good s → EachLine (Shows (held (state_after M cs s))) (mine (whose M) b (log M cs s))
    shown [] s g = tt
    shown (c ∷ cs) s g = go (shown cs (M.next c s) (laws.stays c s g)) (is b (M.who c)) refl
      where
        go : EachLine (Shows (held (state_after M cs (M.next c s)))) (mine (whose M) b (log M cs (M.next c s))) → (u : Bool) → is b (M.who c) ≡ u
            → EachLine (Shows (held (state_after M cs (M.next c s)))) (cond u ((c, M.answer c s) ∷ mine (whose M) b (log M cs (M.next c s))) (mine (whose M) b (log M cs (M.next c s))))
        go ih true e =
            let m = (grows c s g (is_some b (M.who c) e)).1 in
            (more (held (M.next c s)) (held (state_after M cs (M.next c s))) c (M.answer c s) (rises cs (M.next c s) (laws.stays c s g)) m, ih)
        go ih false e = ih
