-- A CAVEAT, as a theorem: where `who` names one body for every call, ANY engine is isolated. So `who`, `count` and `part` of an instance are part of
-- what its reader has to believe. Assumes nothing.
use mathlib.Core.Path.{◌≡◌, refl, ap}
use mathlib.Core.Option.{Option, none, some}
use Prim.Native.Nat.{ℕ}
use native.Mathlib.Omega.{arith}
use Rattle.isolation.specs.Machine.{Machine, Laws, Isolated}
use Rattle.isolation.proofs.Isolated.{isolated}

module _ (State Call Answer : Type 0) (answer : Call → State → Answer) (next : Call → State → State) (fresh : State) where
  abbrev pub lump : Machine
  lump = record {
    State = State;
    Call = Call;
    Answer = Answer;
    Part = State;
    Rest = Unit {0};
    count = 1;
    who = λ c. some 0;
    answer = answer;
    next = next;
    part = λ b s. s;
    rest = λ s. tt;
  }

  pub lump_isolated : Isolated lump fresh
  lump_isolated = isolated lump (λ s. Unit {0}) laws fresh tt
    where
      zeroth : (b : ℕ) → ◌≡◌ {A = Option ℕ} (some 0) (some b) → 0 ≡ b
      zeroth b e = cc

      never : {A : Type 0} → ◌≡◌ {A = Option ℕ} (some 0) none → A
      never e = absurd (let z : ◌≡◌ {A = ℕ} 0 1 = cc in omega arith)

      laws : Laws lump (λ s. Unit {0})
      laws = record {
        named = λ c b e. omega (arith, zeroth b e);
        stays = λ c s g. tt;
        stray_state = λ c s g e. never e;
        stray_answer = λ c s t g h e. never e;
        other = λ c s a b l g e n. absurd (n (let z = zeroth b e in omega arith));
        frame = λ c s g. refl;
        own = λ c s t b g h e p. (ap (answer c) p, ap (next c) p);
        whole = λ s t g h r e. e 0 (omega arith);
      }
