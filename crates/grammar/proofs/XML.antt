-- Every flow of the grammar is well-formed XML 1.0.
use mathlib.Core.Path.{◌≡◌, refl, sym, ap, subst, ◌∙◌}
use mathlib.Core.Logic.{◌⊎◌, inl, inr, ⊎_elim}
use mathlib.Core.List.{List, [], ◌∷◌, ◌++◌, append_assoc, append-nil}
use mathlib.Core.Bool.{Bool, true, false, ◌||◌}
use Prim.Native.Nat.{ℕ, zero, suc, ◌≤◌, ◌<◌}
use native.Mathlib.Omega.{arith}
use lib.Dec.{leb, eqb}
use borrow.Author.Tests.{eqb-true, leb-true, le-leb, ne_eqb}
use Rattle.scan.specs.Bytes.{bytes, between, is_letter, is_digit, is_name_byte, is_white, all}
use Rattle.scan.specs.Characters.{is_char}
use Rattle.scan.proofs.Laws.{both, in_range}
use Rattle.grammar.specs.Grammar.{Name, name, White, white, Character, one, two, three, four, char, amp, lt, gt, quot, apos, Pieces, none, more, Without, text, start_tag, end_tag, Element, element, Content, elements, only, Elements, last, next, absent, present, Declaration, Id, id, RootTag, plain, with_id, Root, root, Document, document}
use Rattle.grammar.specs.XML as xml
use Rattle.grammar.specs.XML.{Utf8, Encoded, nothing, character, WellFormedXML, well_formed_xml}
use Rattle.grammar.proofs.Parts.{no}
use Rattle.grammar.proofs.Complete.{no_level, id_assoc}
use Rattle.grammar.proofs.Pieces.{all_append}

-- LISTS OF ONE KIND
all_kind : (f g : ℕ → Bool) → ((b : ℕ) → f b ≡ true → g b ≡ true) → (t : List ℕ) → all f t ≡ true → all g t ≡ true
unfolding all
all_kind f g h [] a = refl
all_kind f g h (b ∷ t) a = let c = both (f b) (all f t) a in rw (h b c.0, all_kind f g h t c.1)

all_behind : (f : ℕ → Bool) (x t : List ℕ) → all f (x ++ t) ≡ true → all f t ≡ true
unfolding all
all_behind f [] t a = a
all_behind f (b ∷ x) t a = all_behind f x t (both (f b) (all f (x ++ t)) a).1

either : (a b : Bool) → (a || b) ≡ true → (a ≡ true) ⊎ (b ≡ true)
either true b e = inl refl
either false b e = inr e

second : (a b r : Bool) → b ≡ true → (a || (b || r)) ≡ true
second true b r e = refl
second false b r e = rw e

fourth : (a b c d r : Bool) → d ≡ true → (a || (b || (c || (d || r)))) ≡ true
fourth true b c d r e = refl
fourth false true c d r e = refl
fourth false false c d r e = second c d r e

-- x stands not in a part of t, where it stands not in t
module _ {x : List ℕ} where
  without_back : (a b : List ℕ) → Without x (a ++ b) → Without x a
  without_back a b w c d z = w c (d ++ b) (rw z (simp append_assoc))

  without_front : (a b : List ℕ) → Without x (a ++ b) → Without x b
  without_front a b w c d z = w (a ++ c) d (rw z (simp append_assoc))

-- ASCII: bytes that are characters as they stand
abbrev ascii : ℕ → Bool
ascii b = leb b 0x7f

encoded_ascii : (t : List ℕ) → all ascii t ≡ true → Encoded t t
unfolding all
encoded_ascii [] a = nothing
encoded_ascii (b ∷ t) a = let c = both (ascii b) (all ascii t) a in let l = leb-true b 0x7f c.0 in let h : b < 0x80 = omega arith in character (xml.one h) (encoded_ascii t c.1)

encoded_join : {t u b c : List ℕ} → Encoded t b → Encoded u c → Encoded (t ++ u) (b ++ c)
encoded_join nothing f = f
encoded_join {c = c} (character {b = x} {c = y} u e) f = rw (append_assoc x y c) (character u (encoded_join e f))

-- the characters t and u have their bytes one behind the other
record Split (t u b : List ℕ) : Type 0 where
  front : List ℕ
  back : List ℕ
  both_are : b ≡ front ++ back
  first : Encoded t front
  second : Encoded u back

encoded_split : (t u : List ℕ) {b : List ℕ} → Encoded (t ++ u) b → Split t u b
encoded_split [] u {b} e = record { front = []; back = b; both_are = refl; first = nothing; second = e }
encoded_split (v ∷ t) u (character {b = x} x-is e) =
    let r = encoded_split t u e in
    record { front = x ++ r.front; back = r.back; both_are = ap (λ (y : List ℕ). x ++ y) r.both_are ∙ sym (append_assoc x r.front r.back); first = character x-is r.first; second = r.second }

-- an ASCII character is its byte
alone : (v : ℕ) (b : List ℕ) → v < 0x80 → Utf8 v b → b ≡ v ∷ []
alone v b l (xml.one h) = refl
alone v b l (xml.two h k z i) = absurd (omega arith)
alone v b l (xml.three h k m z i) = absurd (omega arith)
alone v b l (xml.four h k m n z i) = absurd (omega arith)

encoded_same : {t b : List ℕ} → all ascii t ≡ true → Encoded t b → b ≡ t
unfolding all
encoded_same a nothing = refl
encoded_same a (character {v = v} {t = t} {b = x} {c = y} u e) =
    let c = both (ascii v) (all ascii t) a in
    let l = leb-true v 0x7f c.0 in
    let z = alone v x (omega arith) u in
    let r = encoded_same c.1 e in
    rw (z, r)

-- ]]> stands not among characters, where it stands not among their bytes
without_chars : {t b : List ℕ} → Encoded t b → Without (bytes "]]>") b → Without (bytes "]]>") t
unfolding all
without_chars {t} {b} e w x y z =
    let p = encoded_split (x ++ bytes "]]>") y (rw z at e) in
    let q = encoded_split x (bytes "]]>") p.first in
    let r = encoded_same refl q.second in
    w q.front p.back (p.both_are ∙ ap (λ (f : List ℕ). f ++ p.back) (q.both_are ∙ ap (λ (k : List ℕ). q.front ++ k) r))

-- characters that P says, with these bytes
record Reads (P : List ℕ → Type 0) (b : List ℕ) : Type 0 where
  it : List ℕ
  encoded : Encoded it b
  is : P it

-- CHARACTERS
utf8 : {c : List ℕ} → Character c → (v : ℕ) × Utf8 v c × (is_char v ≡ true)
utf8 (one {x = x} h a) = (x, xml.one h, a.xml)
utf8 (two {x = x} {y = y} h k a) = (_, xml.two h k refl a.short, a.xml)
utf8 (three {x = x} {y = y} {z = z} h k l a) = (_, xml.three h k l refl a.short, a.xml)
utf8 (four {x = x} {y = y} {z = z} {w = w} h k l m a) = (_, xml.four h k l m refl a.short, a.xml)

-- other than an ASCII character
not_char : (v k : ℕ) (c : List ℕ) → k < 0x80 → Utf8 v c → (c ≡ k ∷ [] → ⊥) → v ≡ k → ⊥
not_char v k c l u f z = f (rw z at (alone v c (omega arith) u))

data_is : (v : ℕ) → is_char v ≡ true → (v ≡ 60 → ⊥) → (v ≡ 38 → ⊥) → xml.is_data v ≡ true
unfolding xml.is_data
data_is v c f g = rw (c, ne_eqb v 60 f, ne_eqb v 38 g)

-- TEXT: what stands before the first reference, and from it on
record TextIs (b : List ℕ) : Type 0 where
  said : List ℕ
  items : List ℕ
  front : List ℕ
  back : List ℕ
  both_are : b ≡ front ++ back
  said_there : Encoded said front
  items_there : Encoded items back
  all_data : all xml.is_data said ≡ true
  are_items : xml.Items items

text_said : {b : List ℕ} → Without (bytes "]]>") b → (r : TextIs b) → xml.CharData r.said
text_said w r = xml.data_of_lem r.all_data (without_chars r.said_there (without_back r.front r.back (subst (Without (bytes "]]>")) r.both_are w)))

reference_is : (x : List ℕ) {b : List ℕ} → all ascii x ≡ true → xml.Reference x → Without (bytes "]]>") b → TextIs b → TextIs (x ++ b)
unfolding all
reference_is x {b} a f w r = record {
  said = [];
  items = x ++ r.said ++ r.items;
  front = [];
  back = x ++ b;
  both_are = refl;
  said_there = nothing;
  items_there = rw (append_assoc x r.said r.items) (encoded_join (encoded_ascii x a) (rw r.both_are (encoded_join r.said_there r.items_there)));
  all_data = refl;
  are_items = xml.a_reference f (text_said w r) r.are_items;
}

text_is_lem : {b : List ℕ} → Pieces b → Without (bytes "]]>") b → TextIs b
unfolding all xml.is_name_start xml.is_name_char
text_is_lem none w = record { said = []; items = []; front = []; back = []; both_are = refl; said_there = nothing; items_there = nothing; all_data = refl; are_items = xml.no_item }
text_is_lem (more {t = t} (char {c = c} k f g) ps) w =
    let r = text_is_lem ps (without_front c t w) in
    let u = utf8 k in
    let d = data_is u.0 u.2 (not_char u.0 60 c (omega arith) u.1 f) (not_char u.0 38 c (omega arith) u.1 g) in
    record {
      said = u.0 ∷ r.said;
      items = r.items;
      front = c ++ r.front;
      back = r.back;
      both_are = ap (λ (y : List ℕ). c ++ y) r.both_are ∙ sym (append_assoc c r.front r.back);
      said_there = character u.1 r.said_there;
      items_there = r.items_there;
      all_data = rw (d, r.all_data);
      are_items = r.are_items;
    }
text_is_lem (more {t = t} amp ps) w = reference_is (bytes "&amp;") refl (xml.entity (xml.name refl refl) xml.amp) (without_front (bytes "&amp;") t w) (text_is_lem ps (without_front (bytes "&amp;") t w))
text_is_lem (more {t = t} lt ps) w = reference_is (bytes "&lt;") refl (xml.entity (xml.name refl refl) xml.lt) (without_front (bytes "&lt;") t w) (text_is_lem ps (without_front (bytes "&lt;") t w))
text_is_lem (more {t = t} gt ps) w = reference_is (bytes "&gt;") refl (xml.entity (xml.name refl refl) xml.gt) (without_front (bytes "&gt;") t w) (text_is_lem ps (without_front (bytes "&gt;") t w))
text_is_lem (more {t = t} quot ps) w = reference_is (bytes "&quot;") refl (xml.entity (xml.name refl refl) xml.quot) (without_front (bytes "&quot;") t w) (text_is_lem ps (without_front (bytes "&quot;") t w))
text_is_lem (more {t = t} apos ps) w = reference_is (bytes "&apos;") refl (xml.entity (xml.name refl refl) xml.apos) (without_front (bytes "&apos;") t w) (text_is_lem ps (without_front (bytes "&apos;") t w))

-- NAMES
name_start : (b : ℕ) → is_letter b ≡ true → xml.is_name_start b ≡ true
unfolding is_letter xml.is_name_start
name_start b e =
    ⊎_elim (second (eqb b 58) (between 65 90 b) (eqb b 95 || (between 97 122 b || xml.is_start_beyond b)))
    (fourth (eqb b 58) (between 65 90 b) (eqb b 95) (between 97 122 b) (xml.is_start_beyond b))
    (either (between 65 90 b) (between 97 122 b) e)

name_char : (b : ℕ) → is_name_byte b ≡ true → xml.is_name_char b ≡ true
unfolding is_name_byte xml.is_name_char xml.is_name_start
name_char b e =
    ⊎_elim (λ u. rw (name_start b u))
    (λ u. ⊎_elim (fourth (xml.is_name_start b) (eqb b 45) (eqb b 46) (is_digit b) (xml.is_part_beyond b)) (λ v. let z = eqb-true b 95 v in rw z) (either (is_digit b) (eqb b 95) u))
    (either (is_letter b) (is_digit b || eqb b 95) e)

-- such a byte is 30 to 7a, and no <
name_range : (b : ℕ) → is_name_byte b ≡ true → (0x30 ≤ b) × (b ≤ 0x7a) × (b ≡ 60 → ⊥)
unfolding is_name_byte is_letter is_digit
name_range b e =
    ⊎_elim (λ u. ⊎_elim (λ h. let r = in_range 65 90 b h in (omega arith, omega arith, λ y. omega arith)) (λ h. let r = in_range 97 122 b h in (omega arith, omega arith, λ y. omega arith)) (either (between 65 90 b) (between 97 122 b) u))
    (λ u. ⊎_elim (λ h. let r = in_range 48 57 b h in (omega arith, omega arith, λ y. omega arith)) (λ v. let z = eqb-true b 95 v in (omega arith, omega arith, λ y. omega arith)) (either (is_digit b) (eqb b 95) u))
    (either (is_letter b) (is_digit b || eqb b 95) e)

name_ascii : (b : ℕ) → is_name_byte b ≡ true → ascii b ≡ true
name_ascii b e = let r = name_range b e in let h = r.1 in le-leb b 0x7f (omega arith)

name_bytes : {n : List ℕ} → Name n → all is_name_byte n ≡ true
unfolding all is_name_byte
name_bytes (name {b = b} l a k) = rw (l, a)

name_is_lem : {n : List ℕ} → Name n → xml.Name n
name_is_lem (name {b = b} {t = t} l a k) = xml.name (name_start b l) (all_kind is_name_byte xml.is_name_char name_char t a)

-- TAGS
module _ {n : List ℕ} (na : Name n) where
  tag_ascii : (x : List ℕ) → all ascii x ≡ true → all ascii (x ++ n ++ bytes ">") ≡ true
  unfolding all
  tag_ascii x a = all_append ascii (x ++ n) (bytes ">") (all_append ascii x n a (all_kind is_name_byte ascii name_ascii n (name_bytes na))) refl

  start_is : xml.STag n (start_tag n)
  start_is = subst (λ (x : List ℕ). xml.STag n (x ++ bytes ">")) (append-nil (bytes "<" ++ n)) (xml.start xml.absent)

  end_is : xml.ETag n (end_tag n)
  end_is = subst (λ (x : List ℕ). xml.ETag n (x ++ bytes ">")) (append-nil (bytes "</" ++ n)) (xml.end xml.absent)

-- WHITE SPACE
white_one : (b : ℕ) → is_white b ≡ true → (ascii b ≡ true) × (xml.is_data b ≡ true)
unfolding is_white is_char xml.is_data
white_one b e =
    ⊎_elim (is 32 refl refl) (λ u. ⊎_elim (is 9 refl refl) (λ v. ⊎_elim (is 10 refl refl) (is 13 refl refl) (either (eqb b 10) (eqb b 13) v)) (either (eqb b 9) (eqb b 10 || eqb b 13) u))
    (either (eqb b 32) (eqb b 9 || (eqb b 10 || eqb b 13)) e)
  where
    is : (v : ℕ) → ascii v ≡ true → xml.is_data v ≡ true → eqb b v ≡ true → (ascii b ≡ true) × (xml.is_data b ≡ true)
    is v a d h = let z = eqb-true b v h in (rw z a, rw z d)

white_encoded : {w : List ℕ} → White w → Encoded w w
white_encoded (white {t = w} a) = encoded_ascii w (all_kind is_white ascii (λ b e. (white_one b e).0) w a)

white_data : {w : List ℕ} → White w → xml.CharData w
unfolding all is_white
white_data (white {t = w} a) = xml.data_of_lem {t = w} (all_kind is_white xml.is_data (λ b e. (white_one b e).1) w a) (λ x y z.
    no (sym (both (is_white 93) (all is_white (bytes "]>" ++ y)) (all_behind is_white x (bytes "]]>" ++ y) (rw (z, append_assoc x (bytes "]]>") y) at a))).0))

white_misc : {w : List ℕ} → White w → xml.Any xml.S w
white_misc (white {t = []} a) = xml.none
white_misc (white {t = c ∷ t} a) = subst (xml.Any xml.S) (append-nil (c ∷ t)) (xml.more (xml.white a) xml.none)

-- ELEMENTS
abbrev Below : ℕ → Type 0
Below d = (e : List ℕ) → Element d e → Reads xml.Element e

module _ (d : ℕ) (ih : Below d) where
  elements_are : {k : List ℕ} → Elements d k → Reads xml.Items k
  elements_are (last {e = e} {w = w} el wh) =
      let r = ih e el in
      record { it = r.it ++ w; encoded = encoded_join r.encoded (white_encoded wh); is = subst xml.Items (append-nil (r.it ++ w)) (xml.an_element r.is (white_data wh) xml.no_item) }
  elements_are (next {e = e} {w = w} {k = k} el wh ks) =
      let r = ih e el in
      let q = elements_are ks in
      record { it = r.it ++ w ++ q.it; encoded = encoded_join (encoded_join r.encoded (white_encoded wh)) q.encoded; is = xml.an_element r.is (white_data wh) q.is }

  content_is : {c : List ℕ} → Content d c → Reads xml.Content c
  content_is (only (text ps wo)) =
      let r = text_is_lem ps wo in
      record { it = r.said ++ r.items; encoded = subst (Encoded (r.said ++ r.items)) (sym r.both_are) (encoded_join r.said_there r.items_there); is = xml.content (text_said wo r) r.are_items }
  content_is (elements {w = w} wh ks) =
      let q = elements_are ks in
      record { it = w ++ q.it; encoded = encoded_join (white_encoded wh) q.encoded; is = xml.content (white_data wh) q.is }

  element_is : {n c : List ℕ} → Name n → Content d c → Reads xml.Element (start_tag n ++ c ++ end_tag n)
  unfolding all
  element_is {n} na co =
      let q = content_is co in
      record {
        it = start_tag n ++ q.it ++ end_tag n;
        encoded = encoded_join (encoded_join (encoded_ascii (start_tag n) (tag_ascii na (bytes "<") refl)) q.encoded) (encoded_ascii (end_tag n) (tag_ascii na (bytes "</") refl));
        is = xml.element (name_is_lem na) (start_is na) q.is (end_is na);
      }

one_more : (d : ℕ) → Below d → Below (suc d)
one_more d ih e (element na co) = element_is d ih na co

each : (d : ℕ) → Below d
each zero e x = no_level x
each (suc d) e x = one_more d (each d) e x

-- THE ROOT
space : xml.S (bytes " ")
unfolding all is_white
space = xml.white {c = 32} {t = []} refl

name_is_char : (b : ℕ) → 0x20 ≤ b → b ≤ 0x7f → is_char b ≡ true
unfolding is_char
name_is_char b l h = fourth (eqb b 0x09) (eqb b 0x0a) (eqb b 0x0d) (between 0x20 0xd7ff b) _ (rw (le-leb 0x20 b l, le-leb b 0xd7ff (omega arith)))

-- a letter, a digit or _ may stand in an attribute's value
value_char : (b : ℕ) → is_name_byte b ≡ true → xml.is_attribute_char b ≡ true
unfolding xml.is_attribute_char
value_char b e =
    let r = name_range b e in
    let l = r.0 in
    let h = r.1 in
    let d = data_is b (name_is_char b (omega arith) (omega arith)) r.2 (λ z. omega arith) in
    rw (d, ne_eqb b 34 (λ z. omega arith))

attribute_assoc : (a n w i e o v c d : List ℕ) → a ++ n ++ w ++ (i ++ e ++ (o ++ v ++ c)) ++ [] ++ d ≡ a ++ (n ++ ((w ++ (i ++ (e ++ o))) ++ (v ++ (c ++ d))))
attribute_assoc a n w i e o v c d = simp append_assoc

id_value : {i : List ℕ} {n : List ℕ} → Id i → xml.STag n (bytes "<" ++ n ++ i ++ bytes ">") × (all ascii i ≡ true)
unfolding all xml.is_name_start xml.is_name_char
id_value {n = n} (id v a k l) =
    let z = attribute_assoc (bytes "<") n (bytes " ") (bytes "Id") (bytes "=") (bytes "\"") v (bytes "\"") (bytes ">") ∙ sym (id_assoc (bytes "<") n (bytes " Id=\"") v (bytes "\"") (bytes ">")) in
    (subst (xml.STag n) z (xml.start_with space (xml.attribute (xml.name {c = 73} {t = bytes "d"} refl refl) (xml.equals xml.absent xml.absent) (xml.quoted v (all_kind is_name_byte xml.is_attribute_char value_char v a))) xml.absent), all_append ascii (bytes " Id=\"" ++ v) (bytes "\"") (all_append ascii (bytes " Id=\"") v refl (all_kind is_name_byte ascii name_ascii v a)) refl)

tag_is : {ids : Bool} {n a : List ℕ} → Name n → RootTag n ids a → xml.STag n a × (all ascii a ≡ true)
unfolding all
tag_is na plain = (start_is na, tag_ascii na (bytes "<") refl)
tag_is {n = n} na (with_id {i = i} d) =
    let x = id_value {n = n} d in
    (x.0, all_append ascii (bytes "<" ++ n ++ i) (bytes ">") (all_append ascii (bytes "<" ++ n) i (all_append ascii (bytes "<") n refl (all_kind is_name_byte ascii name_ascii n (name_bytes na))) x.1) refl)

root_is : {ids : Bool} {r : List ℕ} → Root ids r → Reads xml.Element r
unfolding all
root_is (root {n = n} {a = a} na ta co) =
    let q = content_is 11 (each 11) co in
    let x = tag_is na ta in
    record {
      it = a ++ q.it ++ end_tag n;
      encoded = encoded_join (encoded_join (encoded_ascii a x.1) q.encoded) (encoded_ascii (end_tag n) (tag_ascii na (bytes "</") refl));
      is = xml.element (name_is_lem na) x.0 q.is (end_is na);
    }

-- THE WHOLE
declaration_is : {d : List ℕ} → Declaration d → xml.Maybe xml.XMLDecl d × Encoded d d
unfolding all is_digit
declaration_is absent = (xml.absent, nothing)
declaration_is present = (xml.present (xml.declaration (xml.version_info space (xml.equals xml.absent xml.absent) (xml.version {c = 48} {t = []} refl)) (xml.present (xml.encoding space (xml.equals xml.absent xml.absent))) xml.absent), encoded_ascii _ refl)

pub flow_well_formed : {ids : Bool} (s : List ℕ) → Document ids s → WellFormedXML s
flow_well_formed s (document {m = m} {d = d} {w = w} {r = r} {v = v} ma de wh ro wt) =
    let x = declaration_is de in
    let e = root_is ro in
    rw (append_assoc (m ++ d ++ w) r v, append_assoc (m ++ d) w (r ++ v), append_assoc m d (w ++ (r ++ v)), ← append_assoc d w (r ++ v), ← append_assoc (d ++ w) r v)
    (well_formed_xml ma (encoded_join (encoded_join (encoded_join x.1 (white_encoded wh)) e.encoded) (white_encoded wt)) (xml.document (xml.prolog x.0 (white_misc wh)) e.is (white_misc wt)))
