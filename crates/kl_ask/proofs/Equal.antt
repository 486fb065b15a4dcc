-- `==` on asks is equality.
use Rattle.std.proofs.Common.{◌≡◌, ◌&&◌, List, Decides, nat_eq, refl, sym, ap, ◌∙◌, rules}
use Rattle.std.specs.Cmp.{Equal-is, tied_itself}
use Rattle.std.specs.Cmp.Lexicographic.{pointwise}
use Rattle.std.specs.Ordering.{eq_by_cmp}
use Rattle.std.proofs.lemmas.Bool.Decides.{Decides-at, Decides-and, Decides-like}
use Rattle.std.proofs.lemmas.Slice.Eq.{bytes_eq-Decides, slice_eq-Decides}
use denote.Enum.Bare.{same_true, true_same}
use Rattle.kl_value.proofs.CanonLemmas.{eq_is}
use Rattle.kl_value.proofs.OrderLemmas.{compare_exact, compare_total}
use Rattle.kl_value.specs.Order.{compare}
use Rattle.kl_value.specs.contracts.value.ValuePartialEq.TheImpl as values
use Rattle.kl_value.specs.declared.Value.{Value}
use Rattle.kl_outcome.specs.Outcome.{Name}
use Rattle.kl_ask.specs.Asked.{same_ask}
use Rattle.kl_ask.specs.contracts.ask.Cmp.{the_type}
use Rattle.kl_ask.specs.contracts.ask.CmpPartialEq.TheImpl as comparisons
use Rattle.kl_ask.specs.contracts.ask.ColTestPartialEq.TheImpl as tests
use Rattle.kl_ask.specs.contracts.ask.RightPartialEq.TheImpl as rights
use Rattle.kl_ask.specs.declared.ask.Ask.{Ask}
use Rattle.kl_ask.specs.declared.ask.Ask.TheVariants as ask
use Rattle.kl_ask.specs.declared.ask.Cmp.{Cmp}
use Rattle.kl_ask.specs.declared.ask.ColTest.{ColTest}
use Rattle.kl_ask.specs.declared.ask.Right.{Right}
use Rattle.kl_ask.specs.declared.ask.Right.TheVariants as right

same_value : (v w : Value) → Decides (values.ghosts.eq v w) (v ≡ w)
same_value v w =
    Decides-at (values.ghosts.eq v w) (eq_by_cmp compare v w) (eq_is v w)
    (Decides-like (eq_by_cmp compare v w) (compare_exact v w) (λ e. ap (compare v) (sym e) ∙ tied_itself compare_total v) (Equal-is (compare v w)))

same_comparison : (a b : Cmp) → Decides (comparisons.ghosts.eq a b) (a ≡ b)
same_comparison a b = (same_true the_type (search rules) a b, true_same the_type a b)

same_right : (a b : Right) → Decides (rights.ghosts.eq a b) (a ≡ b)
same_right (right.Col l) (right.Col m) = Decides-like (pointwise nat_eq l m) (ap right.Col) (λ e. cc) (bytes_eq-Decides l m)
same_right (right.Col l) (right.Const w) = (λ e. cc, λ e. cc)
same_right (right.Const v) (right.Col m) = (λ e. cc, λ e. cc)
same_right (right.Const v) (right.Const w) = Decides-like (values.ghosts.eq v w) (ap right.Const) (λ e. cc) (same_value v w)

same_test : (a b : ColTest) → Decides (tests.ghosts.eq a b) (a ≡ b)
same_test a b =
    let later = Decides-and (comparisons.ghosts.eq a.op b.op) (rights.ghosts.eq a.right b.right) (same_comparison a.op b.op) (same_right a.right b.right) in
    let all = Decides-and (pointwise nat_eq a.left b.left) (comparisons.ghosts.eq a.op b.op && rights.ghosts.eq a.right b.right) (bytes_eq-Decides a.left b.left) later in
    Decides-like (tests.ghosts.eq a b) (λ h i. record { left = h.0 i; op = h.1.0 i; right = h.1.1 i }) (λ e. (ap (λ (t : ColTest). t.left) e, (ap (λ (t : ColTest). t.op) e, ap (λ (t : ColTest). t.right) e))) all

pub same_names : (ls ms : List Name) → Decides (pointwise (pointwise nat_eq) ls ms) (ls ≡ ms)
same_names ls ms = slice_eq-Decides bytes_eq-Decides ls ms (pointwise (pointwise nat_eq) ls ms) refl

same_tests : (ts us : List ColTest) → Decides (pointwise tests.ghosts.eq ts us) (ts ≡ us)
same_tests ts us = slice_eq-Decides same_test ts us (pointwise tests.ghosts.eq ts us) refl

pub same_exactly : (a b : Ask) → Decides (same_ask a b) (a ≡ b)
same_exactly (ask.Rows s ls ts) (ask.Rows u ms us) =
    let later = Decides-and (pointwise (pointwise nat_eq) ls ms) (pointwise tests.ghosts.eq ts us) (same_names ls ms) (same_tests ts us) in
    let all = Decides-and (pointwise nat_eq s u) (pointwise (pointwise nat_eq) ls ms && pointwise tests.ghosts.eq ts us) (bytes_eq-Decides s u) later in
    Decides-like (same_ask (ask.Rows s ls ts) (ask.Rows u ms us)) (λ h i. ask.Rows (h.0 i) (h.1.0 i) (h.1.1 i)) (λ e. (cc, (cc, cc))) all
same_exactly (ask.Rows s ls ts) (ask.Sql y) = (λ e. cc, λ e. cc)
same_exactly (ask.Sql x) (ask.Rows u ms us) = (λ e. cc, λ e. cc)
same_exactly (ask.Sql x) (ask.Sql y) = Decides-like (pointwise nat_eq x y) (ap ask.Sql) (λ e. cc) (bytes_eq-Decides x y)
