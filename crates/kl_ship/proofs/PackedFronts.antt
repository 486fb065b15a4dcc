-- What is left of the front of a body, by what its condition is.
use Rattle.std.proofs.Common.{◌≡◌, ℕ, Bool, true, false, cond, Option, Some, None, is_some, refl, sym, ap, ◌∙◌}
use Rattle.kl_value.specs.declared.Kind.{Kind}
use Rattle.kl_core.specs.declared.term.Term.{Term}
use Rattle.kl_core.specs.declared.term.Term.TheVariants as term
use Rattle.kl_core.specs.Trees.{Tree, If, view}
use Rattle.kl_core.proofs.Views.{view_If}
use Rattle.kl_sqltext.specs.declared.ast.SqlTest.{SqlTest}
use Rattle.kl_ship.specs.Delegation.{test_of, is_front, left, left_before, body_left}

pub untested : (o : Option SqlTest) (x y z : Tree) → is_some o ≡ false → left_before o x y z ≡ If x y z
untested (Some q) x y z h = absurd (let f : true ≡ false = h in cc)
untested None x y z h = refl

module _ (k : Kind) (n : ℕ) where
  left_front : (t a b c : Term) → t ≡ term.If a b c → is_front k (view a) (view c) ≡ true → left k n (view t) ≡ left_before (test_of n (view a)) (view a) (left k n (view b)) (view c)
  left_front t a b c e f =
      ap (left k n) (ap view e ∙ view_If a b c)
      ∙ ap (λ q. cond q (left_before (test_of n (view a)) (view a) (left k n (view b)) (view c)) (If (view a) (view b) (view c))) f

  tested : (o : Option SqlTest) (x y z : Tree) → is_some o ≡ true → left_before o x y z ≡ y
  tested (Some q) x y z h = refl
  tested None x y z h = absurd (let f : false ≡ true = h in cc)

  pub left_tested : (t a b c : Term) → t ≡ term.If a b c → is_front k (view a) (view c) ≡ true → is_some (test_of n (view a)) ≡ true → left k n (view t) ≡ left k n (view b)
  left_tested t a b c e f h = left_front t a b c e f ∙ tested (test_of n (view a)) (view a) (left k n (view b)) (view c) h

  pub left_kept : (t a b c : Term) → t ≡ term.If a b c → is_front k (view a) (view c) ≡ true → is_some (test_of n (view a)) ≡ false → left k n (view t) ≡ If (view a) (left k n (view b)) (view c)
  left_kept t a b c e f h = left_front t a b c e f ∙ untested (test_of n (view a)) (view a) (left k n (view b)) (view c) h

  -- the same, as the code finds it: of a driver that selects
  module _ (select : Bool) (t a b c x y z : Term) (f g : Bool) (on : select ≡ true) (e : t ≡ term.If a b c) (at : x ≡ a) (other : y ≡ c) (again : z ≡ a) (front : f ≡ is_front k (view x) (view y)) (is : f ≡ true) (test : g ≡ is_some (test_of n (view z))) where
    in_front : is_front k (view a) (view c) ≡ true
    in_front = ap (λ q. is_front k (view q) (view c)) (sym at) ∙ ap (λ q. is_front k (view x) (view q)) (sym other) ∙ sym front ∙ is

    found : is_some (test_of n (view a)) ≡ g
    found = ap (λ q. is_some (test_of n (view q))) (sym again) ∙ sym test

    selected : body_left select k n (view t) ≡ left k n (view t)
    selected = ap (λ q. body_left q k n (view t)) on

    pub body_tested : g ≡ true → body_left select k n (view t) ≡ body_left select k n (view b)
    body_tested h = selected ∙ left_tested t a b c e in_front (found ∙ h) ∙ sym (ap (λ q. body_left q k n (view b)) on)

    pub body_kept : g ≡ false → body_left select k n (view t) ≡ If (view a) (left k n (view b)) (view c)
    body_kept h = selected ∙ left_kept t a b c e in_front (found ∙ h)
