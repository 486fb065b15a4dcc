-- What is written on a page, piece by piece.
use Rattle.std.specs.Prelude.{OnOk}
use Rattle.std.proofs.Common.{◌≡◌, Result, Ok, Err, decimal, ℕ, suc, ◌+◌, ◌<◌, ◌≤◌, ◌==◌, Bool, true, false, cond, List, [], ◌∷◌, ◌++◌, length, drop, refl, sym, ap, ◌∙◌, subst, arith, append_assoc, append-nil, length-append}
use mathlib.Core.Path.{ap₂}
use Rattle.std.proofs.lemmas.Bool.Decides.{nat_tests}
use Rattle.kl_infer.specs.declared.page.Page.{Page}
use Rattle.kl_infer.specs.Numbers.{limit, has, add, add_all, number, Writes}

bool_cases : (C : Type 0) (b : Bool) → (b ≡ true → C) → (b ≡ false → C) → C
bool_cases C true f g = f refl
bool_cases C false f g = g refl

pub clash : (C : Type 0) (b : Bool) → b ≡ true → b ≡ false → C
clash C b x y = let e : true ≡ false = sym x ∙ y in let z : ⊥ = cc in absurd z

pub add_all_append : (seen v w : List ℕ) → add_all seen (v ++ w) ≡ add_all (add_all seen v) w
add_all_append seen [] w = refl
add_all_append seen (p ∷ v) w = add_all_append (add p seen) v w

-- a list that holds another's items first keeps their numbers
number_more : (p : ℕ) (b : Bool) (q : ℕ) (qs more : List ℕ) → (has p qs ≡ true → number p (qs ++ more) ≡ number p qs) → cond b true (has p qs) ≡ true → cond b 1 (suc (number p (qs ++ more))) ≡ cond b 1 (suc (number p qs))
number_more p true q qs more ih h = refl
number_more p false q qs more ih h = ap suc (ih h)

number_append : (p : ℕ) (seen more : List ℕ) → has p seen ≡ true → number p (seen ++ more) ≡ number p seen
number_append p [] more h = clash _ false h refl
number_append p (q ∷ qs) more h = number_more p (p == q) q qs more (number_append p qs more) h

has_more : (p : ℕ) (b : Bool) (qs more : List ℕ) → (has p qs ≡ true → has p (qs ++ more) ≡ true) → cond b true (has p qs) ≡ true → cond b true (has p (qs ++ more)) ≡ true
has_more p true qs more ih h = refl
has_more p false qs more ih h = ih h

has_append : (p : ℕ) (seen more : List ℕ) → has p seen ≡ true → has p (seen ++ more) ≡ true
has_append p [] more h = clash _ false h refl
has_append p (q ∷ qs) more h = has_more p (p == q) qs more (has_append p qs more) h

has_last_in : (p : ℕ) (b : Bool) (qs : List ℕ) → has p (qs ++ p ∷ []) ≡ true → cond b true (has p (qs ++ p ∷ [])) ≡ true
has_last_in p true qs h = refl
has_last_in p false qs h = h

same_here : (p : ℕ) → cond (p == p) true false ≡ true
same_here p = let e : (p == p) ≡ true = grind (arith, nat_tests) in ap (λ b. cond b true false) e

has_last : (p : ℕ) (seen : List ℕ) → has p (seen ++ p ∷ []) ≡ true
has_last p [] = same_here p
has_last p (q ∷ qs) = has_last_in p (p == q) qs (has_last p qs)

has_add_in : (p : ℕ) (b : Bool) (seen : List ℕ) → has p seen ≡ b → has p (cond b seen (seen ++ p ∷ [])) ≡ true
has_add_in p true seen e = e
has_add_in p false seen e = has_last p seen

has_add : (p : ℕ) (seen : List ℕ) → has p (add p seen) ≡ true
has_add p seen = has_add_in p (has p seen) seen refl

add_keeps_in : (p q : ℕ) (b : Bool) (seen : List ℕ) → has p seen ≡ true → (has p (cond b seen (seen ++ q ∷ [])) ≡ true) × (number p (cond b seen (seen ++ q ∷ [])) ≡ number p seen)
add_keeps_in p q true seen h = (h, refl)
add_keeps_in p q false seen h = (has_append p seen (q ∷ []) h, number_append p seen (q ∷ []) h)

-- variables behind keep the numbers of those before
pub keeps_number : (p : ℕ) (seen more : List ℕ) → has p seen ≡ true → number p (add_all seen more) ≡ number p seen
keeps_number p seen [] h = refl
keeps_number p seen (q ∷ more) h = let k = add_keeps_in p q (has q seen) seen h in keeps_number p (add q seen) more k.0 ∙ k.1

pub number_added : (p : ℕ) (seen more : List ℕ) → number p (add_all (add_all seen (p ∷ [])) more) ≡ number p (add p seen)
number_added p seen more = keeps_number p (add p seen) more (has_add p seen)

-- nothing is written
pub nothing : (page : Page) → Writes page page [] (λ all. [])
nothing page = record {
  was = λ e. e;
  seen = λ e. refl;
  written = λ e more. sym (append-nil page.out.items);
  fits = λ h. h;
  longer = λ e f more. clash _ page.full f e;
}

longer_append : (a b c : List ℕ) → limit < length (a ++ b) → limit < length (a ++ (b ++ c))
longer_append a b c h = omega (arith, h, length-append a b, length-append a (b ++ c), length-append b c)

-- one piece after another
pub next : (a b c : Page) (v w : List ℕ) (t u : List ℕ → List ℕ) → Writes a b v t → Writes b c w u → Writes a c (v ++ w) (λ all. t all ++ u all)
next a b c v w t u f g =
    let full = λ (more : List ℕ). ap (λ xs. add_all xs more) (add_all_append a.seen.items v w) ∙ sym (add_all_append (add_all a.seen.items v) w more) in
    let seen_on = λ (e : b.full ≡ false) (more : List ℕ). ap (λ xs. add_all (add_all xs w) more) (f.seen e) ∙ sym (ap (λ xs. add_all xs more) (add_all_append a.seen.items v w)) in
    let out_on = λ (e : b.full ≡ false) (more : List ℕ). f.written e (w ++ more) ∙ ap (λ xs. a.out.items ++ t xs) (sym (full more)) in
    record {
      was = λ e. f.was (g.was e);
      seen = λ e. g.seen e ∙ ap (λ xs. add_all xs w) (f.seen (g.was e)) ∙ sym (add_all_append a.seen.items v w);
      written = λ e more. g.written e more
          ∙ ap₂ (λ xs ys. xs ++ u ys) (out_on (g.was e) more) (seen_on (g.was e) more)
          ∙ append_assoc a.out.items (t (add_all (add_all a.seen.items (v ++ w)) more)) (u (add_all (add_all a.seen.items (v ++ w)) more));
      fits = λ h. g.fits (f.fits h);
      longer = λ e h more. bool_cases _ b.full
          (λ k. longer_append a.out.items _ _ (subst (λ xs. limit < length (a.out.items ++ t xs)) (sym (full more)) (f.longer e k (w ++ more))))
          (λ k. subst (λ xs. limit < length xs)
          (ap₂ (λ xs ys. xs ++ u ys) (out_on k more) (seen_on k more)
          ∙ append_assoc a.out.items (t (add_all (add_all a.seen.items (v ++ w)) more)) (u (add_all (add_all a.seen.items (v ++ w)) more)))
          (g.longer k h more));
    }

-- the same in other words
pub other_words : (a b : Page) (v w : List ℕ) (t u : List ℕ → List ℕ) → v ≡ w → ((all : List ℕ) → t all ≡ u all) → Writes a b v t → Writes a b w u
other_words a b v w t u e same f =
    let seen : add_all a.seen.items v ≡ add_all a.seen.items w = ap (add_all a.seen.items) e in
    let texts = λ (more : List ℕ). ap (λ xs. a.out.items ++ t (add_all xs more)) seen ∙ ap (λ xs. a.out.items ++ xs) (same (add_all (add_all a.seen.items w) more)) in
    record {
      was = f.was;
      seen = λ h. f.seen h ∙ seen;
      written = λ h more. f.written h more ∙ texts more;
      fits = f.fits;
      longer = λ h k more. subst (λ xs. limit < length xs) (texts more) (f.longer h k more);
    }

-- a variable is looked for from a place on
pub record Looked (seen : List ℕ) (p i : ℕ) : Type 0 where
  pub number : number p seen ≡ i + number p (drop i seen)
  pub has : has p seen ≡ has p (drop i seen)

absent_in : (p : ℕ) (b : Bool) (q : ℕ) (qs : List ℕ) → (has p qs ≡ false → number p (qs ++ p ∷ []) ≡ number p qs) → cond b true (has p qs) ≡ false → cond b 1 (suc (number p (qs ++ p ∷ []))) ≡ cond b 1 (suc (number p qs))
absent_in p true q qs ih h = refl
absent_in p false q qs ih h = ap suc (ih h)

same_first : (p n : ℕ) → cond (p == p) 1 (suc n) ≡ 1
same_first p n = let e : (p == p) ≡ true = grind (arith, nat_tests) in ap (λ (b : Bool). cond b 1 (suc n)) e

number_absent : (p : ℕ) (seen : List ℕ) → has p seen ≡ false → number p (seen ++ p ∷ []) ≡ number p seen
number_absent p [] h = same_first p 1
number_absent p (q ∷ qs) h = absent_in p (p == q) q qs (number_absent p qs) h

number_add_in : (p : ℕ) (b : Bool) (seen : List ℕ) → has p seen ≡ b → number p (cond b seen (seen ++ p ∷ [])) ≡ number p seen
number_add_in p true seen e = refl
number_add_in p false seen e = number_absent p seen e

-- a new variable has the number behind those that are there
pub number_add : (p : ℕ) (seen : List ℕ) → number p (add p seen) ≡ number p seen
number_add p seen = number_add_in p (has p seen) seen refl

unless_full : (b : Bool) (xs ys : List ℕ) → b ≡ false → cond b xs ys ≡ ys
unless_full true xs ys e = clash _ true refl e
unless_full false xs ys e = refl

-- a variable behind its mark
pub named : (a b c d : Page) (p n : ℕ) (mark digits : List ℕ) → b.seen.items ≡ cond a.full a.seen.items (add p a.seen.items) → b.out.items ≡ a.out.items → b.full ≡ a.full
    → (a.full ≡ false → n ≡ number p (add p a.seen.items)) → Writes b c [] (λ all. mark) → digits ≡ decimal n → Writes c d [] (λ all. digits) → Writes a d (p ∷ []) (λ all. mark ++ decimal (number p all))
named a b c d p n mark digits seen out full is f same g =
    let w = next b c d [] [] (λ all. mark) (λ all. digits) f g in
    let seen_on = λ (e : a.full ≡ false). seen ∙ unless_full a.full a.seen.items (add p a.seen.items) e in
    let text = λ (e : a.full ≡ false) (more : List ℕ). ap (λ t. t ++ (mark ++ digits)) out
    ∙ ap (λ t. a.out.items ++ (mark ++ t)) (same ∙ ap decimal (is e ∙ sym (number_added p a.seen.items more))) in
    record {
      was = λ e. sym full ∙ w.was e;
      seen = λ e. w.seen e ∙ seen_on (sym full ∙ w.was e);
      written = λ e more. w.written e more ∙ text (sym full ∙ w.was e) more;
      fits = λ h. w.fits (subst (λ xs. length xs ≤ limit) (sym out) h);
      longer = λ e h more. subst (λ xs. limit < length xs) (text e more) (w.longer (full ∙ e) h more);
    }

pub on_ok : {T E : Type 0} (P Q : Type 0) (r : Result T E) → (P → Q) → OnOk r P → OnOk r Q
on_ok P Q (Ok x) go h = go h
on_ok P Q (Err e) go h = tt
