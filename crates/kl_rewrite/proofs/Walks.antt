-- From one step to the next, in the whole term.
use Rattle.std.specs.Prelude.{IsTrue, not}
use Rattle.std.proofs.Common.{◌≡◌, ◌+◌, ◌-◌, ◌≤◌, Bool, true, false, [], reverse, refl, sym, subst, arith}
use Rattle.kl_core.specs.declared.term.Term.{Term}
use Rattle.kl_core.specs.Trees.{Tree, view}
use Rattle.kl_core.specs.Counts.{nodes_of, depth_of}
use Rattle.kl_rewrite.specs.declared.search.Search.{Search}
use Rattle.kl_rewrite.specs.declared.walk.Walk.{Walk}
use Rattle.kl_rewrite.specs.Steps.{Step, IsNormal}
use Rattle.kl_rewrite.specs.Search.{Leads, IsSettled, IsQuiet}
use Rattle.kl_rewrite.specs.Searched.{StepsIn, Searched, IsTraced}
use Rattle.kl_rewrite.specs.Walking.{IsAt, Advances}
use Rattle.kl_rewrite.proofs.Searching.{step_of, within_after, normal_of, quieter}
use Rattle.kl_rewrite.proofs.Closing.{closed_low, closed_after}

pub traced_whole : (t : Tree) (w : Walk) → IsAt t w → IsTraced 0 t w.trail.items w.search
traced_whole t w h =
    let deep : depth_of t ≤ 512 = h.within.1 in
    record {
      searchable = record { low = closed_low t h.closed deep; few = omega (arith, h.room); shallow = omega (arith, deep) };
      least = h.least;
      path = h.path;
      settled = h.settled;
    }

room_is : (t : Tree) (w : Walk) → IsAt t w → w.search.allowance.room ≡ 16384 - nodes_of t
room_is t w h = let many : nodes_of t ≤ 16384 = h.within.0 in omega (arith, h.room, many)

pub ends_here : (t u : Tree) (b : Bool) (w : Walk) (s : Search) → IsAt t w → b ≡ false → Searched 0 t u b w.search s → (u ≡ t) × IsNormal t
ends_here t u b w s h e f =
    let p = subst (λ c. Searched 0 t u c w.search s) e f in
    (p.same, normal_of t h.within (subst (λ r. IsQuiet r 0 t) (room_is t w h) (quieter s.allowance.calm w.search.allowance.room 0 t p.keeps.least p.quiet)))

pub stepped : (t u : Tree) (b : Bool) (s v : Search) → b ≡ true → Searched 0 t u b s v → StepsIn 0 t u s v
stepped t u b s v e f = subst (λ c. Searched 0 t u c s v) e f

pub room_left : (t u : Tree) (w : Walk) (s : Search) → IsAt t w → StepsIn 0 t u w.search s → s.allowance.room ≤ 16384
room_left t u w s h p =
    let left : s.allowance.room + nodes_of u ≡ w.search.allowance.room + nodes_of t = p.leaves.room in
    let room : w.search.allowance.room + nodes_of t ≡ 16384 = h.room in
    omega (arith, left, room)

-- what the search says of the term, as a truth value
pub tells_normal : (t copy : Term) (u : Tree) (b : Bool) (w : Walk) → copy ≡ t → Advances (view copy) u b w → (IsTrue (not b) → IsNormal (view t)) × (IsNormal (view t) → IsTrue (not b))
tells_normal t copy u true w e h =
    let s = subst (λ (x : Term). Step (view x) u) e h.0 in
    (λ f. absurd cc, λ f. absurd (f s.place s.number u s.makes))
tells_normal t copy u false w e h = (λ f. subst (λ (x : Term). IsNormal (view x)) e h.1, λ f. refl)

pub ended : (t u : Tree) (b : Bool) (w : Walk) → b ≡ false → Advances t u b w → IsNormal u
ended t u b w e h = let g = subst (λ c. Advances t u c w) e h in subst IsNormal (sym g.0) g.1

pub goes_further : (t u : Tree) (w v : Walk) (s : Search) → IsAt t w → StepsIn 0 t u w.search s → v.search.allowance.room ≡ s.allowance.room → v.search.allowance.room ≤ v.search.allowance.calm → v.search.path.items ≡ []
    → IsSettled v.search.allowance.calm 0 u (reverse v.trail.items) → Step t u × IsAt u v
goes_further t u w v s h p same least path settled =
    let step : Step t u = step_of t u h.within (subst (λ r. Leads r 0 t u) (room_is t w h) p.leads) in
    let left : s.allowance.room + nodes_of u ≡ w.search.allowance.room + nodes_of t = p.leaves.room in
    let room : w.search.allowance.room + nodes_of t ≡ 16384 = h.room in (
      step,
      record {
        closed = closed_after t u step h.closed;
        within = within_after t u step;
        room = omega (arith, same, left, room);
        least = least;
        path = path;
        settled = settled;
      },
    )
