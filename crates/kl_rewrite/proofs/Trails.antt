-- The trail, with its last number first, and the path that becomes it.
use Rattle.std.specs.Prelude.{◌==◌}
use Rattle.std.proofs.lemmas.Bool.{eqb-false}
use Rattle.std.proofs.Common.{false, ◌≡◌, ℕ, suc, ◌+◌, ◌-◌, ◌<◌, List, [], ◌∷◌, reverse, length, get_or, take, Option, None, refl, sym, ap, subst, ◌∙◌, arith}
use Rattle.std.proofs.Math.Seq.{take-suc}
use Rattle.std.proofs.lemmas.List.{take_all, reverse-append}
use Rattle.kl_core.specs.Trees.{Tree}
use Rattle.kl_rewrite.specs.declared.search.Search.{Search}
use Rattle.kl_rewrite.specs.Searched.{Passes, IsReady, IsOpen, IsTrailIn}

-- ---- the trail in a part

last_first : (xs : List ℕ) (i d : ℕ) → i + 1 ≡ length xs → reverse xs ≡ get_or xs i d ∷ reverse (take i xs)
last_first xs i d e =
    let whole : take (suc i) xs ≡ xs = take_all (suc i) xs (omega (arith, e)) in
    ap reverse (sym whole ∙ take-suc xs i d (omega (arith, e))) ∙ reverse-append (take i xs) (get_or xs i d ∷ [])

pub trail_past : (n : ℕ) (trail : List ℕ) → false ≡ (length trail == 0) → n < get_or trail (length trail - 1) 0 → IsTrailIn n trail None
trail_past n trail some l =
    (get_or trail (length trail - 1) 0, reverse (take (length trail - 1) trail), last_first trail (length trail - 1) 0 (let none = eqb-false (length trail) 0 (sym some) in omega (arith, none)), l)

-- ---- into a part

pub passed_over : (level n : ℕ) (t : Tree) (trail : List ℕ) (o : Option (List ℕ)) (s : Search) → IsOpen level n t trail s → IsTrailIn n trail o → o ≡ None → Passes level t t s s
passed_over level n t trail o s given h e =
    let g = subst (IsTrailIn n trail) e h in
    record {
      same = refl;
      path = given.path;
      keeps = record { room = refl; least = given.least; lower = omega arith };
      quiet = (subst (IsReady s.allowance.calm level n t) g.2 given.ready).0 g.3;
    }
