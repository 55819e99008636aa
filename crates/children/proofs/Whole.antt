-- Where the markup stands, the children are all there: the root is a child, and a content's children reach to its end tag.
use Rattle.std.specs.Prelude.{Some, None, Ok}
use mathlib.Core.Path.{◌≡◌, refl, ◌∙◌}
use mathlib.Core.List.{List, [], ◌∷◌}
use mathlib.Core.Bool.{Bool, true, false, cond, not, ◌&&◌}
use Prim.Native.Nat.{ℕ, zero, suc, ◌+◌, ◌-◌, ◌≤◌, ◌<◌}
use native.Mathlib.Numerals.{add-one}
use native.Mathlib.Omega.{arith}
use lib.ListN.{length, get_or, drop}
use lib.Seq.{drop-cons}
use lib.Dec.{eqb}
use borrow.Author.Tests.{eqb-true, eqb-false}
use Rattle.scan.specs.Bytes.{bytes, byte_at, part, is_letter, starts_with, has_at}
use Rattle.scan.proofs.Laws.{never, both, cond_past, has_past}
use Rattle.tokens.specs.Tokens.{and_then, repeat, until, white_at, name_at, end_tag_at}
use Rattle.tokens.proofs.Laws.{then_past, name_past, end_past}
use Rattle.markup.specs.Markup.{child_by, children_by, content_by, element_at, content_at}
use Rattle.markup.proofs.Laws.{Parts, parts}
use Rattle.markup.specs.Noted.{Noted, note_of}
use Rattle.markup.proofs.Noted.{element_more, noted_read}
use Rattle.children.specs.declared.Child.{Child}
use Rattle.children.specs.Child.{child_at, child_to, children_from}
use Rattle.children.proofs.Laws.{child_none, child_no_name, child_one, children_end, children_one}

-- an element of the markup, one level more or less
element_parts : (s : List ℕ) (at q : ℕ) → element_at 12 s at ≡ Ok q → (e p : ℕ) × Parts (content_at 12 s) s at e p q
unfolding element_at content_at
element_parts s at q e = parts (content_at 12 s) s at q (element_more 12 s at q e)

-- it is a child, and the next one begins after it and its white space
pub child_of : (s : List ℕ) (i q : ℕ) → byte_at s i ≡ 60 → element_at 12 s (i + 1) ≡ Ok q → (c : Child) × (child_at s i ≡ Some c) × (c.after ≡ white_at s q)
child_of s i q l e =
    let k = element_parts s (i + 1) q e in
    (record { lt = i; gt = k.0; to = k.1; after = white_at s q }, child_one s i l k.0 k.2.name (eqb-true _ _ k.2.opens) k.1 k.2.holds q k.2.end, refl)

-- past an end tag: its content ended before its name and three bytes
end_at : (s : List ℕ) (a e p q : ℕ) → end_tag_at s a e p ≡ Ok q → p + 2 + (e - a) + 1 ≡ q
unfolding end_tag_at
end_at s a e p q h =
    let c = cond_past (has_at (bytes "</") s p && (has_at (part s a e) s (p + 2) && eqb (byte_at s (p + 2 + (e - a))) 62)) (Ok (p + 2 + (e - a) + 1)) p h in
    let f = c.1 in
    cc

to_at : (i e p q : ℕ) → i + 1 < e → p + 2 + (e - (i + 1)) + 1 ≡ q → p ≡ q - (e - i) - 2
to_at i e p q h k = omega arith

pub record NotedAt (s : List ℕ) (i e q : ℕ) : Type 0 where
  pub name : i + 1 < e
  pub room : e - i + 2 ≤ q
  pub within : q ≤ length s
  pub child : child_at s i ≡ Some (child_to s i e q)

-- an element whose name and end are known is a child: its name tells where its content ends
known : (s : List ℕ) (i e q : ℕ) → byte_at s i ≡ 60 → element_at 12 s (i + 1) ≡ Ok q → name_at s (i + 1) ≡ Ok e → NotedAt s i e q
known s i e q l h b = let k = element_parts s (i + 1) q h in let u = k.2.name in let v : k.0 ≡ e = cc in by k.0 k.1 v k.2
  where
    by : (t p : ℕ) → t ≡ e → Parts (content_at 12 s) s (i + 1) t p q → NotedAt s i e q
    by t p v k =
        let a = name_past s (i + 1) t k.name in
        let f = end_at s (i + 1) t p q k.end in
        let o = end_past s (i + 1) t p q k.end in
        let x = to_at i t p q a.on f in
        rw (← v) (record { name = a.on; room = omega arith; within = o.within; child = rw (← x) (child_one s i l t k.name (eqb-true _ _ k.opens) p k.holds q k.end) })

-- and so is one that is noted
pub child_noted : (s past : List ℕ) (i k q : ℕ) → byte_at s i ≡ 60 → Noted s past → Some (k, q) ≡ note_of past (i + 1) → NotedAt s i (i + 1 + k) q
child_noted s past i k q l h w = let t = noted_read s past (i + 1) k q h w in known s i (i + 1 + k) q l t.0 t.1

-- CHILDREN
-- where a list of children that begins at i ends
unfoldable pub end_of : ℕ → List Child → ℕ
end_of i [] = i
end_of i (c ∷ cs) = end_of c.after cs

-- at an end tag no child begins
closing : (s : List ℕ) (i : ℕ) → has_at (bytes "</") s i ≡ true → (byte_at s i ≡ 60) × (byte_at s (i + 1) ≡ 47)
unfolding has_at starts_with
closing s i e =
    let w = has_past (bytes "</") s i 1 refl e in
    let h : i < length s = omega arith in
    let k : suc i < length s = omega arith in
    let a = both (eqb (get_or s i 0) 60) (starts_with (bytes "/") (drop (suc i) s)) (rw (drop-cons s i 0 h) at e) in
    let b = both (eqb (get_or s (suc i) 0) 47) true (rw (drop-cons s (suc i) 0 k) at a.1) in
    (eqb-true _ _ a.0, rw add-one (eqb-true _ _ b.0))

at_end : (s : List ℕ) (i : ℕ) → byte_at s i ≡ 60 → byte_at s (i + 1) ≡ 47 → child_at s i ≡ None
unfolding name_at is_letter
at_end s i l e = child_no_name s i l (i + 1) (rw e)

walk_one : (s : List ℕ) (w v q : ℕ) (c : Child) → child_at s w ≡ Some c → c.after ≡ v → end_of v (children_from s v) ≡ q → end_of w (children_from s w) ≡ q
unfolding end_of
walk_one s w v q c e z h = rw (children_one s w c e, z) h

walk_end : (s : List ℕ) (w : ℕ) → child_at s w ≡ None → end_of w (children_from s w) ≡ w
unfolding end_of
walk_end s w e = rw (children_end s w e)

walks : (s : List ℕ) (n w q : ℕ) → repeat n (has_at (bytes "</") s) (child_by (element_at 12 s) s) w ≡ Ok q → end_of w (children_from s w) ≡ q
unfolding repeat child_by
walks s zero w q e = never e
walks s (suc n) w q e = go (has_at (bytes "</") s w) refl (walks s n) e
  where
    go : (b : Bool) → has_at (bytes "</") s w ≡ b → ((v q : ℕ) → repeat n (has_at (bytes "</") s) (child_by (element_at 12 s) s) v ≡ Ok q → end_of v (children_from s v) ≡ q) → cond b (Ok w) (and_then (child_by (element_at 12 s) s w) (repeat n (has_at (bytes "</") s) (child_by (element_at 12 s) s))) ≡ Ok q → end_of w (children_from s w) ≡ q
    go true eb ih h = let z : w ≡ q = cc in let a = closing s w eb in walk_end s w (at_end s w a.0 a.1) ∙ z
    go false eb ih h =
        let t = then_past (child_by (element_at 12 s) s w) (repeat n (has_at (bytes "</") s) (child_by (element_at 12 s) s)) h in
        let c = cond_past (eqb (byte_at s w) 60) (and_then (element_at 12 s (w + 1)) (λ r. Ok (white_at s r))) w t.1 in
        let d = then_past (element_at 12 s (w + 1)) (λ r. Ok (white_at s r)) c.1 in
        let k = child_of s w d.0 (eqb-true _ _ c.0) d.1 in
        let f = d.2 in
        let z : white_at s d.0 ≡ t.0 = cc in
        walk_one s w t.0 q k.0 k.1 (k.2 ∙ z) (ih t.0 q t.2)

-- content that holds elements, as its reader decides it
abbrev pub holds_elements : List ℕ → ℕ → Bool
holds_elements s at = eqb (byte_at s (white_at s at)) 60 && not (eqb (byte_at s (white_at s at + 1)) 47)

-- its children reach from its first < to its end tag
pub children_reach : (s : List ℕ) (at q : ℕ) → content_at 12 s at ≡ Ok q → holds_elements s at ≡ true → end_of (white_at s at) (children_from s (white_at s at)) ≡ q
unfolding content_at content_by children_by until
children_reach s at q e h = walks s (suc (length s)) (white_at s at) q (rw h at e)

-- other content has no children
pub children_text : (s : List ℕ) (at : ℕ) → holds_elements s at ≡ false → children_from s (white_at s at) ≡ []
children_text s at e = go (white_at s at) (eqb (byte_at s (white_at s at)) 60) refl (eqb (byte_at s (white_at s at + 1)) 47) refl e
  where
    go : (w : ℕ) (a : Bool) → eqb (byte_at s w) 60 ≡ a → (b : Bool) → eqb (byte_at s (w + 1)) 47 ≡ b → (a && not b) ≡ false → children_from s w ≡ []
    go w true ea true eb h = children_end s w (at_end s w (eqb-true _ _ ea) (eqb-true _ _ eb))
    go w true ea false eb h = let z : ◌≡◌ {A = ℕ} 0 1 = cc in absurd (omega arith)
    go w false ea b eb h = children_end s w (child_none s w (eqb-false _ _ ea))
