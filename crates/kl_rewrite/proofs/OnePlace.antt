-- Rules tried one after the other at one place.
use Rattle.std.proofs.Common.{◌≡◌, ℕ, ◌+◌, ◌-◌, ◌≤◌, ◌<◌, Bool, true, false, [], Result, Ok, Err, IfOk, refl, sym, subst, ◌∙◌, arith, ⊎_elim}
use Rattle.std.proofs.lemmas.Bool.{cases_lt}
use Rattle.std.proofs.lemmas.Option.{same_Some}
use Rattle.kl_base.specs.declared.memory.NoMemory.{NoMemory}
use Rattle.kl_core.specs.declared.term.Term.{Term}
use Rattle.kl_core.specs.Trees.{Tree, view}
use Rattle.kl_core.specs.Counts.{nodes_of, depth_of}
use Rattle.kl_rules.specs.Rules.{RewriteRule, FilterPromotion, ConditionOrder}
use Rattle.kl_rules.specs.Moving.{MovesWithin}
use Rattle.kl_rules.proofs.Moves.{promote_nodes, exchange_nodes}
use Rattle.kl_rewrite.specs.declared.place.Allowance.{Allowance}
use Rattle.kl_rewrite.specs.Search.{Made, IsStill, IsStillBelow, Leads}
use Rattle.kl_rewrite.specs.Searched.{IsSearchable, Tried, Found}
use Rattle.kl_rewrite.specs.RuleForms.{first_rule, behind_rules}
use Rattle.kl_rewrite.proofs.RuleForms.{rule_among}
use Rattle.kl_rewrite.proofs.Searching.{leads_here}

-- at the first rule of the form, and behind the last
pub still_below : (room level : ℕ) (t : Tree) (n : ℕ) → n ≡ first_rule t → IsStillBelow room level t n
still_below room level t n e i u h m = let at : t ≡ m.before = same_Some t m.before m.stands in let l : first_rule t ≤ i = (rule_among i t m.after (subst (λ b. RewriteRule i b m.after) (sym at) m.rewrites)).0 in omega (arith, e, h, l)

pub still_all : (room level : ℕ) (t : Tree) (n : ℕ) → behind_rules t ≤ n → IsStillBelow room level t n → IsStill room level t
still_all room level t n h none i u m = let at : t ≡ m.before = same_Some t m.before m.stands in let l : i < behind_rules t = (rule_among i t m.after (subst (λ b. RewriteRule i b m.after) (sym at) m.rewrites)).1 in none i u (omega (arith, h, l)) m

-- with less room
still_less : (room less level : ℕ) (t : Tree) (n : ℕ) → less ≤ room → IsStillBelow room level t n → IsStillBelow less level t n
still_less room less level t n h none j v l m =
    none j v l (record { before = m.before; after = m.after; stands = m.stands; rewrites = m.rewrites; whole = m.whole; small = omega (arith, h, m.small); shallow = m.shallow })

still_more : (room level : ℕ) (t : Tree) (n : ℕ) → IsStillBelow room level t n → ((v : Tree) → Made room level t [] n v → ⊥) → IsStillBelow room level t (n + 1)
still_more room level t n none last j v l m = ⊎_elim (λ k. none j v k m) (λ k. here k) (cases_lt j n)
  where
    here : n ≤ j → ⊥
    here k = let e : j ≡ n = omega (arith, k, l) in last v (subst (λ i. Made room level t [] i v) e m)

-- ---- one rule

-- what a call made that moves parts where they stand
pub moved : (level n : ℕ) (t u : Term) (b : Bool) (w : Allowance) → ((v : Tree) → RewriteRule n (view t) v → nodes_of v ≡ nodes_of (view t)) → IsSearchable w.room level (view t) → w.room ≤ w.calm
    → MovesWithin (RewriteRule n) (512 - level) t u b → Tried level n t u b w w
moved level n t u true w keeps small least m =
    let many : nodes_of (view u) ≡ nodes_of (view t) = keeps (view u) m.0 in
    let deep : depth_of (view u) ≤ 512 - level = m.2 in
    let shallow : level + depth_of (view t) ≤ 512 = small.shallow in (
      record { before = view t; after = view u; stands = refl; rewrites = m.0; whole = refl; small = omega (arith, many); shallow = omega (arith, deep, shallow) },
      record { room = omega (arith, many); least = least; lower = omega arith },
      refl,
    )
moved level n t u false w keeps small least m = (m.0, record { room = refl; least = least; lower = omega arith }, none)
  where
    none : (x : Tree) → Made w.calm level (view t) [] n x → ⊥
    none x k =
        let at : view t ≡ k.before = same_Some (view t) k.before k.stands in
        m.1 k.after (subst (λ b. RewriteRule n b k.after) (sym at) k.rewrites) (omega (arith, k.shallow))

pub promoted : (level n : ℕ) (t u : Term) (r : Result Bool NoMemory) (w : Allowance) → n ≡ 3 → IsSearchable w.room level (view t) → w.room ≤ w.calm → IfOk r (λ b. MovesWithin FilterPromotion (512 - level) t u b)
    → IfOk r (λ b. Tried level n t u b w w)
promoted level n t u (Ok b) w is small least m =
    subst (λ i. Tried level i t u b w w) (sym is) (moved level 3 t u b w (promote_nodes (view t)) small least m)
promoted level n t u (Err e) w is small least m = tt

pub exchanged : (level n : ℕ) (t u : Term) (b : Bool) (w : Allowance) → n ≡ 17 → IsSearchable w.room level (view t) → w.room ≤ w.calm → MovesWithin ConditionOrder (512 - level) t u b → Tried level n t u b w w
exchanged level n t u b w is small least m =
    subst (λ i. Tried level i t u b w w) (sym is) (moved level 17 t u b w (exchange_nodes (view t)) small least m)

-- ---- all rules

pub found_some : (level n : ℕ) (t s u : Term) (b : Bool) (w v x : Allowance) → s ≡ t → v.room ≡ w.room → v.room ≤ v.calm → v.calm ≤ w.calm → IsStillBelow v.calm level (view s) n
    → Tried level n s u b v x → b ≡ true → Found level t u true w x
found_some level n t s u b w v x at same least lower none h e =
    let g = subst (λ c. Tried level n s u c v x) e h in
    let first = leads_here v.room level (view s) n (view u) g.0 (still_less v.calm v.room level (view s) n least none) in
    let room : x.room + nodes_of (view u) ≡ v.room + nodes_of (view s) = g.1.room in
    let calm : x.calm ≡ v.calm = g.2 in
    let found : Found level s u true w x = (
      subst (λ r. Leads r level (view s) (view u)) same first,
      record { room = omega (arith, room, same); least = omega (arith, calm, least, same); lower = omega (arith, calm, lower) },
    ) in
    subst (λ y. Found level y u true w x) at found

pub found_none : (level n : ℕ) (t s : Term) (w v : Allowance) → s ≡ t → v.room ≡ w.room → v.room ≤ v.calm → v.calm ≤ w.calm → behind_rules (view t) ≤ n → IsStillBelow v.calm level (view s) n → Found level t s false w v
found_none level n t s w v at same least lower past none =
    (at, record { room = same; least = omega (arith, same, least); lower = lower }, still_all v.calm level (view t) n past (subst (λ y. IsStillBelow v.calm level (view y) n) at none))

-- the facts behind a rule that makes nothing
pub record Goes (level n : ℕ) (t s : Term) (w v : Allowance) : Type 0 where
  pub same : s ≡ t
  pub room : v.room ≡ w.room
  pub least : v.room ≤ v.calm
  pub lower : v.calm ≤ w.calm
  pub none : IsStillBelow v.calm level (view s) (n + 1)

pub goes_on : (level n : ℕ) (t s u : Term) (b : Bool) (w v x : Allowance) → s ≡ t → v.room ≡ w.room → v.calm ≤ w.calm → IsStillBelow v.calm level (view s) n → Tried level n s u b v x → b ≡ false → Goes level n t u w x
goes_on level n t s u b w v x at same lower none h e =
    let g = subst (λ c. Tried level n s u c v x) e h in
    let room : x.room ≡ v.room = g.1.room in
    let least : v.room ≤ x.calm = g.1.least in
    let less : x.calm ≤ v.calm = g.1.lower in
    record {
      same = g.0 ∙ at;
      room = room ∙ same;
      least = omega (arith, room, least);
      lower = omega (arith, less, lower);
      none = subst (λ y. IsStillBelow x.calm level (view y) (n + 1)) (sym g.0) (still_more x.calm level (view s) n (still_less v.calm x.calm level (view s) n less none) g.2);
    }
