-- The walk, part by part.
use Rattle.std.proofs.Common.{◌≡◌, ℕ, suc, ◌+◌, ◌-◌, ◌<◌, ◌≤◌, ◌≢◌, List, [], ◌∷◌, ◌++◌, length, take, drop, get_or, refl, sym, ap, subst, ◌∙◌, arith, add-one, append_assoc}
use Rattle.std.proofs.Math.ListN.{set}
use Rattle.std.proofs.Math.Seq.{take-suc, take-suc-set, drop-append_seam}
use Rattle.std.proofs.lemmas.List.{length-append, length-set, get_or-set_other, get_or_default, take_all, drop_all, append-nil}
use Rattle.kl_syntax.specs.declared.tree.Op.{Op}
use Rattle.kl_syntax.specs.declared.tree.Word.{Word}
use Rattle.kl_syntax.specs.Syntax.{Pat, pats, Exp, exps, flds, Quals, no_quals, draw, test, step}
use Rattle.kl_scope.specs.declared.walk.Walk.{Walk}
use Rattle.kl_scope.specs.Senses.{Name, Scope, bound, all_bound}
use Rattle.kl_scope.specs.Patterns.{variables, within}
use Rattle.kl_scope.specs.Findings.{Finding, pattern_findings, patterns_findings, drawn_findings, behind, findings, findings_all, findings_fields, findings_quals, findings_steps}
use Rattle.kl_scope.specs.Gathering.{gathered}
use Rattle.kl_scope.specs.Resolved.{resolved_pat, resolved_pats, resolved, resolved_all, resolved_fields, resolved_quals, resolved_steps}
use Rattle.kl_scope.specs.Walks.{Walked, Fronted, onto, same_scope}
use Rattle.kl_scope.proofs.FindingLemmas.{gathered_append}

-- ---- fronts of lists

module _ {T : Type 0} (res : T → Scope → T) (found_in : T → Scope → List Finding) (scope_behind : T → Scope → Scope) where
  pub none_walked : (w : Walk) → Fronted res found_in scope_behind (λ rest. rest) (λ rest. rest) w w
  none_walked w = record { tree = λ rest. refl; found = λ rest. refl; scope = λ rest. refl }

  then_walked : (f g f2 g2 : T → T) (w v u : Walk) → Fronted res found_in scope_behind f g w v → Fronted res found_in scope_behind f2 g2 v u → Fronted res found_in scope_behind (λ rest. f (f2 rest)) (λ rest. g (g2 rest)) w u
  then_walked f g f2 g2 w v u h k = record {
    tree = λ rest. ap g (k.tree rest) ∙ h.tree (f2 rest);
    found = λ rest. h.found (f2 rest) ∙ k.found rest;
    scope = λ rest. h.scope (f2 rest) ∙ k.scope rest;
  }

  -- a front, and what follows it
  pub closed : (f g : T → T) (r q : T) (w v u : Walk) → Fronted res found_in scope_behind f g w v → Walked res found_in scope_behind r q v u → Walked res found_in scope_behind (f r) (g q) w u
  closed f g r q w v u h k = record { tree = ap g k.tree ∙ h.tree r; found = k.found ∙ sym (h.found r); scope = k.scope ∙ sym (h.scope r) }

  onto_more : {A : Type 0} (front : A → T → T) (xs : List A) (x : A) (rest : T) → onto front (xs ++ x ∷ []) rest ≡ onto front xs (front x rest)
  onto_more front [] x rest = refl
  onto_more front (y ∷ xs) x rest = ap (front y) (onto_more front xs x rest)

  more_walked : {A : Type 0} (front : A → T → T) (xs ys : List A) (x y : A) (w v u : Walk) → Fronted res found_in scope_behind (onto front xs) (onto front ys) w v → Fronted res found_in scope_behind (front x) (front y) v u
      → Fronted res found_in scope_behind (onto front (xs ++ x ∷ [])) (onto front (ys ++ y ∷ [])) w u
  more_walked front xs ys x y w v u h k =
      let both = then_walked (onto front xs) (onto front ys) (front x) (front y) w v u h k in record {
        tree = λ rest. onto_more front ys y (res rest u.names) ∙ both.tree rest ∙ ap (λ (t : T). res t w.names) (sym (onto_more front xs x rest));
        found = λ rest. ap (λ (t : T). gathered w.findings (found_in t w.names)) (onto_more front xs x rest) ∙ both.found rest;
        scope = λ rest. ap (λ (t : T). scope_behind t w.names) (onto_more front xs x rest) ∙ both.scope rest;
      }

  -- one element more of a list that is changed in place
  pub item_walked : {A : Type 0} (front : A → T → T) (xs ys : List A) (i : ℕ) (x y : A) (w v u : Walk) → i < length xs → length ys ≡ length xs → x ≡ get_or xs i x
      → Fronted res found_in scope_behind (onto front (take i xs)) (onto front (take i ys)) w v → Fronted res found_in scope_behind (front x) (front y) v u
      → Fronted res found_in scope_behind (onto front (take (i + 1) xs)) (onto front (take (i + 1) (set ys i y))) w u
  item_walked front xs ys i x y w v u lt long at h k =
      let less : i < length ys = omega arith in
      let before : take (suc i) xs ≡ take i xs ++ x ∷ [] = take-suc xs i x lt ∙ ap (λ z. take i xs ++ z ∷ []) (sym at) in
      let after : take (suc i) (set ys i y) ≡ take i ys ++ y ∷ [] = take-suc-set ys i y less in
      rw (add-one, before, after) (more_walked front (take i xs) (take i ys) x y w v u h k)

pub unvisited_more : {A : Type 0} (xs ys : List A) (i : ℕ) (y : A) → (length ys ≡ length xs) × ((k : ℕ) (d : A) → i ≤ k → get_or ys k d ≡ get_or xs k d)
    → (length (set ys i y) ≡ length xs) × ((k : ℕ) (d : A) → i + 1 ≤ k → get_or (set ys i y) k d ≡ get_or xs k d)
unvisited_more xs ys i y h = (length-set ys i y ∙ h.0, λ k d le. let ne : k ≢ i = omega arith in let at : i ≤ k = omega arith in get_or-set_other ys i k y d ne ∙ h.1 k d at)

pub unvisited_item : {A : Type 0} (xs ys : List A) (i : ℕ) (d : A) → i < length xs → (length ys ≡ length xs) × ((k : ℕ) (d : A) → i ≤ k → get_or ys k d ≡ get_or xs k d) → get_or ys i d ≡ get_or xs i (get_or ys i d)
unvisited_item xs ys i d lt h =
    let le : i ≤ i = omega arith in
    h.1 i d le ∙ get_or_default xs i d (get_or ys i d) lt

pub put_back : {A : Type 0} (xs ys : List A) → length ys ≡ length xs → take (length xs) (ys ++ drop (length ys) xs) ≡ ys
put_back xs ys long =
    let none : drop (length ys) xs ≡ [] = ap (λ n. drop n xs) long ∙ drop_all (length xs) xs (omega arith) in
    rw (none, append-nil) (take_all (length xs) ys (omega arith))

-- a list that was walked to its end
pub all_walked : {A T : Type 0} (res : T → Scope → T) (found_in : T → Scope → List Finding) (scope_behind : T → Scope → Scope) (front : A → T → T) (xs ys : List A) (i : ℕ) (w v : Walk) → length xs ≤ i → length ys ≡ length xs
    → Fronted res found_in scope_behind (onto front (take i xs)) (onto front (take i ys)) w v → Fronted res found_in scope_behind (onto front xs) (onto front ys) w v
all_walked {A} {T} res found_in scope_behind front xs ys i w v le long h =
    let less : length ys ≤ i = omega arith in
    subst (λ (zs : List A). Fronted res found_in scope_behind (onto front xs) (onto front zs) w v) (take_all i ys less)
    (subst (λ (zs : List A). Fronted res found_in scope_behind (onto front zs) (onto front (take i ys)) w v) (take_all i xs le) h)

-- a list that is lent, changed in place and put back
pub list_walked : {A T : Type 0} (res : T → Scope → T) (found_in : T → Scope → List Finding) (scope_behind : T → Scope → Scope) (front : A → T → T) (all xs ys : List A) (i : ℕ) (w v : Walk) → xs ≡ all → length xs ≤ i → length ys ≡ length xs
    → Fronted res found_in scope_behind (onto front (take i xs)) (onto front (take i ys)) w v → Fronted res found_in scope_behind (onto front all) (onto front (take (length all) (ys ++ drop (length ys) all))) w v
list_walked {A} {T} res found_in scope_behind front all xs ys i w v same le long h =
    rw (put_back all ys (long ∙ ap length same), ← same) (all_walked res found_in scope_behind front xs ys i w v le long h)

-- ---- a part in front of a list

module _ {X T : Type 0} (part : X → Scope → X) (found_part : X → Scope → List Finding) (res : T → Scope → T) (found_in : T → Scope → List Finding) (scope_behind : T → Scope → Scope) (front : X → T → T)
    (res_is : (a : X) (rest : T) (s : Scope) → res (front a rest) s ≡ front (part a s) (res rest s)) (found_is : (a : X) (rest : T) (s : Scope) → found_in (front a rest) s ≡ found_part a s ++ found_in rest s)
    (scope_is : (a : X) (rest : T) (s : Scope) → scope_behind (front a rest) s ≡ scope_behind rest s) where
  pub in_front : (a b : X) (w v : Walk) → Walked part found_part same_scope a b w v → Fronted res found_in scope_behind (front a) (front b) w v
  in_front a b w v h =
      let same : v.names ≡ w.names = h.scope in record {
        tree = λ rest. rw (res_is a rest w.names, h.tree, same) refl;
        found = λ rest. ap (gathered w.findings) (found_is a rest w.names) ∙ gathered_append w.findings (found_part a w.names) (found_in rest w.names) ∙ rw (h.found, same) refl;
        scope = λ rest. scope_is a rest w.names ∙ ap (scope_behind rest) (sym same);
      }

pub expr_in_front : (a b : Exp) (w v : Walk) → Walked resolved findings same_scope a b w v → Fronted resolved_all findings_all same_scope (exps a) (exps b) w v
expr_in_front = in_front resolved findings resolved_all findings_all same_scope exps (λ a rest s. refl) (λ a rest s. refl) (λ a rest s. refl)

pub field_in_front : (l : Word) (a b : Exp) (w v : Walk) → Walked resolved findings same_scope a b w v → Fronted resolved_fields findings_fields same_scope (flds l a) (flds l b) w v
field_in_front l = in_front resolved findings resolved_fields findings_fields same_scope (flds l) (λ a rest s. refl) (λ a rest s. refl) (λ a rest s. refl)

pub step_in_front : (o : Op) (a b : Exp) (w v : Walk) → Walked resolved findings same_scope a b w v → Fronted resolved_steps findings_steps same_scope (step o a) (step o b) w v
step_in_front o = in_front resolved findings resolved_steps findings_steps same_scope (step o) (λ a rest s. refl) (λ a rest s. refl) (λ a rest s. refl)

pub test_in_front : (a b : Exp) (w v : Walk) → Walked resolved findings same_scope a b w v → Fronted resolved_quals findings_quals behind (test a) (test b) w v
test_in_front = in_front resolved findings resolved_quals findings_quals behind test (λ a rest s. refl) (λ a rest s. refl) (λ a rest s. refl)

pub pattern_in_front : (l : Word) (a b : Pat) (w v : Walk) → Walked resolved_pat pattern_findings same_scope a b w v → Fronted resolved_pats patterns_findings same_scope (pats l a) (pats l b) w v
pattern_in_front l = in_front resolved_pat pattern_findings resolved_pats patterns_findings same_scope (pats l) (λ a rest s. refl) (λ a rest s. refl) (λ a rest s. refl)

-- a generator: its source, then its pattern
pub draw_in_front : (p q : Pat) (a b : Exp) (w v u : Walk) → Walked resolved findings same_scope a b w v → Walked resolved_pat drawn_findings within p q v u → Fronted resolved_quals findings_quals behind (draw p a) (draw q b) w u
draw_in_front p q a b w v u h k =
    let same : v.names ≡ w.names = h.scope in
    let next : u.names ≡ within p w.names = k.scope ∙ ap (within p) same in record {
      tree = λ rest. rw (k.tree, h.tree, same, next) refl;
      found = λ rest. gathered_append w.findings (findings a w.names) (drawn_findings p w.names ++ findings_quals rest (within p w.names))
          ∙ gathered_append (gathered w.findings (findings a w.names)) (drawn_findings p w.names) (findings_quals rest (within p w.names)) ∙ rw (next, k.found, h.found, same) refl;
      scope = λ rest. ap (behind rest) (sym next);
    }

-- ---- variables that are left

-- t is s with more variables
pub Extends : Scope → Scope → Type 0
Extends s t = (xs : List Name) × (t ≡ record s { variables = xs ++ s.variables })

binds_more : (s : Scope) (ws : List Word) → Extends s (all_bound s ws)
unfolding Extends
binds_more s [] = ([], refl)
binds_more s (w ∷ ws) =
    let h = binds_more (bound s w.text) ws in
    (h.0 ++ w.text ∷ [], h.1 ∙ ap (λ (vs : List Name). record { variables = vs; definitions = s.definitions; sources = s.sources }) (sym (append_assoc h.0 (w.text ∷ []) s.variables)))

extends_again : (s t u : Scope) → Extends s t → Extends t u → Extends s u
unfolding Extends
extends_again s t u h k =
    (k.0 ++ h.0, k.1 ∙ rw h.1 (ap (λ (vs : List Name). record { variables = vs; definitions = s.definitions; sources = s.sources }) (sym (append_assoc k.0 h.0 s.variables))))

pub behind_more : (qs : Quals) (s : Scope) → Extends s (behind qs s)
unfolding Extends
behind_more no_quals s = ([], refl)
behind_more (draw p e qs) s = extends_again s (within p s) (behind qs (within p s)) (binds_more s (variables p)) (behind_more qs (within p s))
behind_more (test e qs) s = behind_more qs s

pub within_more : (p : Pat) (s : Scope) → Extends s (within p s)
within_more p s = binds_more s (variables p)

pub left_is : (s t u : Scope) (depth : ℕ) → Extends s t → depth ≡ length s.variables → u ≡ record t { variables = drop (length t.variables - depth) t.variables } → u ≡ s
unfolding Extends
left_is s t u depth h long e =
    let count : length (h.0 ++ s.variables) - length s.variables ≡ length h.0 = omega (arith, length-append h.0 s.variables) in
    e ∙ rw (h.1, long, count) (ap (λ (vs : List Name). record { variables = vs; definitions = s.definitions; sources = s.sources }) (drop-append_seam h.0 s.variables))
