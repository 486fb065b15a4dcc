-- The inside of a text is read in one way.
use Rattle.std.proofs.Common.{◌≡◌, ◌≢◌, ℕ, ◌+◌, ◌*◌, ◌<◌, List, [], ◌∷◌, ◌++◌, Some, None, refl, sym, ap, subst, ◌∙◌, append_assoc, arith}
use Rattle.std.proofs.lemmas.List.{append-nil}
use Rattle.std.specs.Char.{digit_value}
use Rattle.kl_lex.specs.Spelling.{SpellsText}
use Rattle.kl_value.specs.Quoted.{quote, backslash, escape_of, Part, plain, escaped, hex, Parts}
use Rattle.kl_value.proofs.QuotedLemmas.{hex_below, hex_from_below}
use Rattle.kl_lex.specs.Reading.{PartFirst, NoPart}

-- a part begins with a byte that is no quote
part_head : (b : ℕ) (part : List ℕ) → Part b part → (x : ℕ) × (xs : List ℕ) × (part ≡ x ∷ xs) × (x ≢ quote)
part_head b part (plain nq nb) = (b, [], refl, nq)
part_head b part (escaped {c = c} h) = (backslash, c ∷ [], refl, omega arith)
part_head b part (hex {high = high} {low = low} h l) = (backslash, 120 ∷ high ∷ low ∷ [], refl, omega arith)

pub part_no_quote : (b : ℕ) (part r s : List ℕ) → Part b part → part ++ r ≡ quote ∷ s → ⊥
part_no_quote b part r s p e =
    let (x, xs, k, n) = part_head b part p in
    let z : (x ∷ xs) ++ r ≡ quote ∷ s = subst (λ (w : List ℕ). w ++ r ≡ quote ∷ s) k e in
    n cc

escape_x : (c b : ℕ) → escape_of c ≡ Some b → c ≡ 120 → ⊥
escape_x c b h e = let k : None ≡ Some b = subst (λ (z : ℕ). escape_of z ≡ Some b) e h in cc

-- one part is at a front
pub one_part : (b c : ℕ) (p q r s : List ℕ) → Part b p → Part c q → p ++ r ≡ q ++ s → (b ≡ c) × (p ≡ q) × (r ≡ s)
one_part b c p q r s (plain nq nb) (plain mq mb) e = (cc, cc, cc)
one_part b c p q r s (plain nq nb) (escaped {c = d} h) e = absurd (nb cc)
one_part b c p q r s (plain nq nb) (hex {high = h} {low = l} x y) e = absurd (nb cc)
one_part b c p q r s (escaped {c = d} h) (plain mq mb) e = absurd (mb cc)
one_part b c p q r s (escaped {c = d} h) (escaped {c = f} k) e =
    let same : d ≡ f = cc in
    let z : escape_of d ≡ escape_of f = ap escape_of same in
    (cc, cc, cc)
one_part b c p q r s (escaped {c = d} h) (hex {high = x} {low = y} l m) e = absurd (escape_x d b h cc)
one_part b c p q r s (hex {high = h} {low = l} x y) (plain mq mb) e = absurd (mb cc)
one_part b c p q r s (hex {high = h} {low = l} x y) (escaped {c = f} k) e = absurd (escape_x f c k cc)
one_part b c p q r s (hex {high = h} {low = l} x y) (hex {high = j} {low = m} z w) e =
    let a : h ≡ j = cc in
    let i : l ≡ m = cc in
    (cc, cc, cc)

-- the parts before a front that two readings share
shared : (p u r q v s t w : List ℕ) → t ≡ p ++ u → w ≡ q ++ v → t ++ r ≡ w ++ s → p ++ (u ++ r) ≡ q ++ (v ++ s)
shared p u r q v s t w e f g = sym (append_assoc p u r) ∙ ap (λ (z : List ℕ). z ++ r) (sym e) ∙ g ∙ ap (λ (z : List ℕ). z ++ s) f ∙ append_assoc q v s

pub one_inside : (m n u v r s : List ℕ) → Parts m u → Parts n v → u ++ quote ∷ r ≡ v ++ quote ∷ s → (m ≡ n) × (u ≡ v) × (r ≡ s)
one_inside [] [] u v r s h k e =
    let z : quote ∷ r ≡ quote ∷ s = subst (λ (w : List ℕ). w ++ quote ∷ r ≡ quote ∷ s) h (subst (λ (w : List ℕ). u ++ quote ∷ r ≡ w ++ quote ∷ s) k e) in
    (refl, h ∙ sym k, cc)
one_inside [] (c ∷ n) u v r s h (q, w, f, y, k) e =
    absurd (part_no_quote c q (w ++ quote ∷ s) r y (sym (shared [] [] (quote ∷ r) q w (quote ∷ s) u v h f e)))
one_inside (b ∷ m) [] u v r s (p, w, f, x, h) k e =
    absurd (part_no_quote b p (w ++ quote ∷ r) s x (shared p w (quote ∷ r) [] [] (quote ∷ s) u v f k e))
one_inside (b ∷ m) (c ∷ n) u v r s (p, w, f, x, h) (q, z, g, y, k) e =
    let (same, at, on) = one_part b c p q (w ++ quote ∷ r) (z ++ quote ∷ s) x y (shared p w (quote ∷ r) q z (quote ∷ s) u v f g e) in
    let (i, j, l) = one_inside m n w z r s h k on in
    (cc, cc, l)

-- where the parts so far are followed by no part and no quote, no text closes
pub none_closes : (m n u v left s : List ℕ) → Parts m u → NoPart left → ((r : List ℕ) → left ≡ quote ∷ r → ⊥) → Parts n v → u ++ left ≡ v ++ quote ∷ s → ⊥
none_closes [] [] u v left s h never unclosed k e = unclosed s (shared [] [] left [] [] (quote ∷ s) u v h k e)
none_closes [] (c ∷ n) u v left s h never unclosed (q, w, f, y, k) e =
    never c (w ++ quote ∷ s) (q, shared [] [] left q w (quote ∷ s) u v h f e, y)
none_closes (b ∷ m) [] u v left s (p, w, f, x, h) never unclosed k e =
    part_no_quote b p (w ++ left) s x (shared p w left [] [] (quote ∷ s) u v f k e)
none_closes (b ∷ m) (c ∷ n) u v left s (p, w, f, x, h) never unclosed (q, z, g, y, k) e =
    let (same, at, on) = one_part b c p q (w ++ left) (z ++ quote ∷ s) x y (shared p w left q z (quote ∷ s) u v f g e) in
    none_closes m n w z left s h never unclosed k on

-- a part more
pub parts_more : (m u p : List ℕ) (b : ℕ) → Parts m u → Part b p → Parts (m ++ b ∷ []) (u ++ p)
parts_more [] u p b h x = (p, [], ap (λ (z : List ℕ). z ++ p) h ∙ sym (append-nil p), x, refl)
parts_more (c ∷ m) u p b (q, w, f, y, k) x = (q, w ++ p, ap (λ (z : List ℕ). z ++ p) f ∙ append_assoc q w p, y, parts_more m w p b k x)

-- one text has one meaning
pub one_text : (m n u : List ℕ) → SpellsText m u → SpellsText n u → m ≡ n
one_text m n u (v, e, h) (w, f, k) = (one_inside m n v w [] [] h k (let z : quote ∷ (v ++ quote ∷ []) ≡ quote ∷ (w ++ quote ∷ []) = sym e ∙ f in cc)).0

-- ---- the part at a front, by its first bytes

pub plain_first : (s : List ℕ) (b : ℕ) (bs : List ℕ) → s ≡ b ∷ bs → b ≢ quote → b ≢ backslash → PartFirst s b bs
plain_first s b bs e n m = (b ∷ [], e, plain n m)

pub escape_first : (s : List ℕ) (c b : ℕ) (bs : List ℕ) → s ≡ c ∷ bs → escape_of c ≡ Some b → PartFirst (backslash ∷ s) b bs
escape_first s c b bs e h = (backslash ∷ c ∷ [], ap (λ (z : List ℕ). backslash ∷ z) e, escaped h)

pub hex_first : (s : List ℕ) (h l b : ℕ) (bs : List ℕ) → s ≡ h ∷ l ∷ bs → ((digit_value h < 16) × (digit_value l < 16)) × (b ≡ digit_value h * 16 + digit_value l) → PartFirst (backslash ∷ 120 ∷ s) b bs
hex_first s h l b bs e k =
    (backslash ∷ 120 ∷ h ∷ l ∷ [], ap (λ (z : List ℕ). backslash ∷ 120 ∷ z) e, subst (λ (z : ℕ). Part z (backslash ∷ 120 ∷ h ∷ l ∷ [])) (sym k.1) (hex (hex_from_below h k.0.0) (hex_from_below l k.0.1)))

pub no_hex : (s : List ℕ) (h l : ℕ) (bs : List ℕ) → s ≡ h ∷ l ∷ bs → ((digit_value h < 16) × (digit_value l < 16) → ⊥) → NoPart (backslash ∷ 120 ∷ s)
no_hex s h l bs f never b rest (part, e, plain nq nb) = nb cc
no_hex s h l bs f never b rest (part, e, escaped {c = c} k) = escape_x c b k cc
no_hex s h l bs f never b rest (part, e, hex {high = x} {low = y} i j) =
    let k : h ∷ l ∷ bs ≡ x ∷ y ∷ rest = cc in
    let a : x ≡ h = cc in
    let d : y ≡ l = cc in
    never (subst (λ (z : ℕ). digit_value z < 16) a (hex_below x i), subst (λ (z : ℕ). digit_value z < 16) d (hex_below y j))
