-- No second answer, proved: each promise is equations for the answer and for every byte.
use Rattle.std.specs.Prelude.{Result}
use Prim.Native.Nat.{ℕ}
use mathlib.Core.Path.{◌≡◌, sym, ap, ◌∙◌}
use mathlib.Core.List.{List}
use Rattle.opening.specs.declared.OpenRefusal.{OpenRefusal}
use Rattle.opening.specs.Opening.{open_code, open_table, OpenPromise}
use Rattle.convert.specs.declared.ConvertRefusal.{ConvertRefusal}
use Rattle.convert.specs.Convert.{convert_code, convert_table, ConvertPromise}
use Rattle.salvage.specs.declared.SalvageRefusal.{SalvageRefusal}
use Rattle.salvage.specs.Salvage.{salvage_table, salvage_report, salvage_reply, SalvagePromise}
use Rattle.notices.specs.declared.NoticeRefusal.{NoticeRefusal}
use Rattle.notices.specs.Notices.{notice_reply, notice_code_of}
use Rattle.year_end.specs.declared.CloseRefusal.{CloseRefusal}
use Rattle.year_end.specs.YearEnd.{close_reply, close_code}
use Rattle.desk.specs.declared.FlowReply.{FlowReply}
use Rattle.desk.specs.Desk.{flow_reply}
use Rattle.theorems.specs.NoSecond.{NoSecond}

-- what equals one thing is one thing
one : {A : Type 0} {x y z : A} → x ≡ z → y ≡ z → x ≡ y
one e d = e ∙ sym d

-- numbers of answers that are one
same : {A : Type 0} (f : A → ℕ) {x y : A} {m n : ℕ} → x ≡ y → m ≡ f x → n ≡ f y → m ≡ n
same f e p q = p ∙ ap f e ∙ sym q

one_open : (q t : List ℕ) (a b : Result Unit OpenRefusal) (u v : List ℕ) → OpenPromise q t a u → OpenPromise q t b v → (a ≡ b) × (u ≡ v)
one_open q t a b u v m n = (one m.0 n.0, one (m.1 ∙ (λ i. open_table (m.0 i) q t)) (n.1 ∙ (λ i. open_table (n.0 i) q t)))

one_convert : (o t : List ℕ) (a b : Result Unit ConvertRefusal) (u v : List ℕ) → ConvertPromise o t a u → ConvertPromise o t b v → (a ≡ b) × (u ≡ v)
one_convert o t a b u v m n = (one m.0 n.0, one (m.1 ∙ (λ i. convert_table (m.0 i) o t)) (n.1 ∙ (λ i. convert_table (n.0 i) o t)))

one_salvage : (t r : List ℕ) (a b : Result ℕ SalvageRefusal) (u v x y : List ℕ) → SalvagePromise t r a u x → SalvagePromise t r b v y → (a ≡ b) × (u ≡ v) × (x ≡ y)
one_salvage t r a b u v x y m n = (
  one m.0 n.0,
  one (m.1 ∙ (λ i. salvage_table (m.0 i) t)) (n.1 ∙ (λ i. salvage_table (n.0 i) t)),
  one (m.2 ∙ (λ i. salvage_report (m.0 i) t r)) (n.2 ∙ (λ i. salvage_report (n.0 i) t r)),
)

pub no_second : NoSecond
no_second = record {
  opening = one_open;
  conversion = one_convert;
  flow = λ t ed f out a b u v x y m n. (one m.0 n.0, one m.1 n.1, one m.2 n.2);
  notice = λ t executing code k line d a b u v m n. (one m.0 n.0, one m.1 n.1);
  totals = λ t code a b m n. one m n;
  journal = λ t code s a b m n. one m n;
  close = λ t code year a b u v m n. (one m.0 n.0, one m.1 n.1);
  salvage = one_salvage;
  field = λ s place a b m n. one m n;
  name = λ s place a b m n. one m n;
  text = λ s place a b m n. one m n;
  days = λ a b x y m n. one m n;
  first_day = λ d x y m n. one m n;
  open_replies = λ q t m n u v x y. let e = one_open q t x.0 y.0 u v x.1 y.1 in (same open_code e.0 x.2 y.2, e.1);
  convert_replies = λ o t m n u v x y. let e = one_convert o t x.0 y.0 u v x.1 y.1 in (same convert_code e.0 x.2 y.2, e.1);
  flow_replies = λ t ed f out m n u v x y p q.
      let e = ap flow_reply (one p.1.0 q.1.0) in
      let code = same (λ (r : FlowReply). r.code) e p.2.0 q.2.0 in
      let place = same (λ (r : FlowReply). r.place) e p.2.1 q.2.1 in
      let orders = same (λ (r : FlowReply). r.orders) e p.2.2 q.2.2 in
      let accepted = same (λ (r : FlowReply). r.accepted) e p.2.3 q.2.3 in
      let cause = same (λ (r : FlowReply). r.cause) e p.2.4 q.2.4 in
      let steps = same (λ (r : FlowReply). r.steps) e p.2.5 q.2.5 in
      (λ i. record { code = code i; place = place i; orders = orders i; accepted = accepted i; cause = cause i; steps = steps i }, one p.1.1 q.1.1, one p.1.2 q.1.2);
  notice_replies = λ t executing code k line d m n cents dents u v x y.
      let e = one x.1.0 y.1.0 in
      (same notice_code_of e x.2 y.2, same (λ (a : Result ℕ NoticeRefusal). (notice_reply a).cents) e x.3 y.3, one x.1.1 y.1.1);
  salvage_replies = λ t r m n k l u v x y p q.
      let e = one_salvage t r p.0 q.0 u v x y p.1 q.1 in
      (same (λ (a : Result ℕ SalvageRefusal). (salvage_reply a).code) e.0 p.2 q.2, same (λ (a : Result ℕ SalvageRefusal). (salvage_reply a).blanked) e.0 p.3 q.3, e.1, e.2);
  close_replies = λ t code year m n k l u v x y.
      let e = one x.1.0 y.1.0 in
      (same close_code e x.2 y.2, same (λ (a : Result ℕ CloseRefusal). (close_reply a).removed) e x.3 y.3, one x.1.1 y.1.1);
}
