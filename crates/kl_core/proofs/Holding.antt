-- What stands in a case, as it is looked for.
use Rattle.std.proofs.Common.{◌≡◌, ℕ, ◌+◌, Bool, true, false, ◌&&◌, ◌||◌, List, [], ◌∷◌, map, Option, Some, None, Bor, refl, sym, ap, ◌∙◌}
use Rattle.std.specs.Option.{option_map, option_copied}
use Rattle.kl_prim.specs.Table.{Entry, Row, entry_of, row_at}
use Rattle.kl_prim.specs.declared.rows.PrimRow.{PrimRow}
use Rattle.kl_outcome.specs.Outcome.{Name}
use Rattle.kl_core.specs.declared.term.Term.{Term}
use Rattle.kl_core.specs.declared.term.Term.TheVariants as term
use Rattle.kl_core.specs.Trees.{Arms, arms_of, rest_of, view, view_part, parts_view}
use Rattle.kl_core.specs.Positions.{occurs_in, occurs_parts, occurs_arms}
use Rattle.kl_core.specs.Counts.{total_in, total_parts, total_arms, total_row, total_code}
use Rattle.kl_core.proofs.Views.{view_Case, view_option}

and_assoc : (x y z : Bool) → ((x && y) && z) ≡ (x && (y && z))
and_assoc true y z = refl
and_assoc false y z = refl

or_assoc : (x y z : Bool) → ((x || y) || z) ≡ (x || (y || z))
or_assoc true y z = refl
or_assoc false y z = refl

-- ---- totality

total_branches : (ps : List (Name × Term)) (last : Arms) → total_arms (arms_of (map view_part ps) last) ≡ (total_parts (parts_view ps) && total_arms last)
total_branches [] last = refl
total_branches (p ∷ ps) last = ap (λ b. total_in (view p.1) && b) (total_branches ps last) ∙ sym (and_assoc (total_in (view p.1)) (total_parts (parts_view ps)) (total_arms last))

-- of the subject and the branches, and of the rest
abbrev pub FrontTotal : Term → List (Name × Term) → Bool
FrontTotal a ps = total_in (view a) && total_parts (parts_view ps)

total_case : (t a : Term) (ps : List (Name × Term)) (c : Option Term) → t ≡ term.Case a ps c → total_in (view t) ≡ (FrontTotal a ps && total_arms (rest_of (view_option c)))
total_case t a ps c e =
    ap total_in (ap view e ∙ view_Case a ps c) ∙ ap (λ b. total_in (view a) && b) (total_branches ps (rest_of (view_option c)))
    ∙ sym (and_assoc (total_in (view a)) (total_parts (parts_view ps)) (total_arms (rest_of (view_option c))))

pub front_yes : (a b : Term) (ps qs : List (Name × Term)) (r s v : Bool) → b ≡ a → r ≡ total_in (view b) → r ≡ true → qs ≡ ps → s ≡ total_parts (parts_view qs) → v ≡ s → v ≡ FrontTotal a ps
front_yes a b ps qs r s v e g h f i j = let one : total_in (view a) ≡ true = ap (λ x. total_in (view x)) (sym e) ∙ sym g ∙ h in rw one (j ∙ i ∙ ap (λ x. total_parts (parts_view x)) f)

pub front_no : (a b : Term) (ps : List (Name × Term)) (r v : Bool) → b ≡ a → r ≡ total_in (view b) → r ≡ false → v ≡ false → v ≡ FrontTotal a ps
front_no a b ps r v e g h j = let one : total_in (view a) ≡ false = ap (λ x. total_in (view x)) (sym e) ∙ sym g ∙ h in rw one j

pub case_not : (t a : Term) (ps : List (Name × Term)) (c : Option Term) (v : Bool) → t ≡ term.Case a ps c → v ≡ FrontTotal a ps → v ≡ false → v ≡ total_in (view t)
case_not t a ps c v e f g = let front : FrontTotal a ps ≡ false = sym f ∙ g in let whole : total_in (view t) ≡ false = total_case t a ps c e ∙ ap (λ b. b && total_arms (rest_of (view_option c))) front in g ∙ sym whole

pub case_other : (t a o d : Term) (ps : List (Name × Term)) (c : Option Term) (v r : Bool) → t ≡ term.Case a ps c → c ≡ Some o → v ≡ FrontTotal a ps → v ≡ true → d ≡ o → r ≡ total_in (view d) → r ≡ total_in (view t)
case_other t a o d ps c v r e h f g i j =
    let front : FrontTotal a ps ≡ true = sym f ∙ g in
    let whole : total_in (view t) ≡ total_arms (rest_of (view_option c)) = total_case t a ps c e ∙ ap (λ b. b && total_arms (rest_of (view_option c))) front in
    j ∙ ap (λ x. total_in (view x)) i ∙ sym (whole ∙ ap (λ x. total_arms (rest_of (view_option x))) h)

pub case_nothing : (t a : Term) (ps : List (Name × Term)) (c : Option Term) (v : Bool) → t ≡ term.Case a ps c → c ≡ None → v ≡ FrontTotal a ps → v ≡ true → true ≡ total_in (view t)
case_nothing t a ps c v e h f g =
    let front : FrontTotal a ps ≡ true = sym f ∙ g in
    let whole : total_in (view t) ≡ total_arms (rest_of (view_option c)) = total_case t a ps c e ∙ ap (λ b. b && total_arms (rest_of (view_option c))) front in
    sym (whole ∙ ap (λ x. total_arms (rest_of (view_option x))) h)

-- ---- occurrence

occurs_branches : (n : ℕ) (ps : List (Name × Term)) (last : Arms) → occurs_arms n (arms_of (map view_part ps) last) ≡ (occurs_parts (n + 1) (parts_view ps) || occurs_arms n last)
occurs_branches n [] last = refl
occurs_branches n (p ∷ ps) last =
    ap (λ b. occurs_in (n + 1) (view p.1) || b) (occurs_branches n ps last) ∙ sym (or_assoc (occurs_in (n + 1) (view p.1)) (occurs_parts (n + 1) (parts_view ps)) (occurs_arms n last))

abbrev pub FrontHolds : ℕ → Term → List (Name × Term) → Bool
FrontHolds n a ps = occurs_in n (view a) || occurs_parts (n + 1) (parts_view ps)

occurs_case : (n : ℕ) (t a : Term) (ps : List (Name × Term)) (c : Option Term) → t ≡ term.Case a ps c → occurs_in n (view t) ≡ (FrontHolds n a ps || occurs_arms n (rest_of (view_option c)))
occurs_case n t a ps c e =
    ap (occurs_in n) (ap view e ∙ view_Case a ps c) ∙ ap (λ b. occurs_in n (view a) || b) (occurs_branches n ps (rest_of (view_option c)))
    ∙ sym (or_assoc (occurs_in n (view a)) (occurs_parts (n + 1) (parts_view ps)) (occurs_arms n (rest_of (view_option c))))

pub holds_later : (n : ℕ) (a b : Term) (ps qs : List (Name × Term)) (r s v : Bool) → b ≡ a → r ≡ occurs_in n (view b) → r ≡ false → qs ≡ ps → s ≡ occurs_parts (n + 1) (parts_view qs) → v ≡ s → v ≡ FrontHolds n a ps
holds_later n a b ps qs r s v e g h f i j = let one : occurs_in n (view a) ≡ false = ap (λ x. occurs_in n (view x)) (sym e) ∙ sym g ∙ h in rw one (j ∙ i ∙ ap (λ x. occurs_parts (n + 1) (parts_view x)) f)

pub holds_first : (n : ℕ) (a b : Term) (ps : List (Name × Term)) (r v : Bool) → b ≡ a → r ≡ occurs_in n (view b) → r ≡ true → v ≡ true → v ≡ FrontHolds n a ps
holds_first n a b ps r v e g h j = let one : occurs_in n (view a) ≡ true = ap (λ x. occurs_in n (view x)) (sym e) ∙ sym g ∙ h in rw one j

pub case_holds : (n : ℕ) (t a : Term) (ps : List (Name × Term)) (c : Option Term) (v : Bool) → t ≡ term.Case a ps c → v ≡ FrontHolds n a ps → v ≡ true → v ≡ occurs_in n (view t)
case_holds n t a ps c v e f g =
    let front : FrontHolds n a ps ≡ true = sym f ∙ g in
    let whole : occurs_in n (view t) ≡ true = occurs_case n t a ps c e ∙ ap (λ b. b || occurs_arms n (rest_of (view_option c))) front in g ∙ sym whole

pub other_holds : (n : ℕ) (t a o d : Term) (ps : List (Name × Term)) (c : Option Term) (v r : Bool) → t ≡ term.Case a ps c → c ≡ Some o → v ≡ FrontHolds n a ps → v ≡ false → d ≡ o → r ≡ occurs_in n (view d) → r ≡ occurs_in n (view t)
other_holds n t a o d ps c v r e h f g i j =
    let front : FrontHolds n a ps ≡ false = sym f ∙ g in
    let whole : occurs_in n (view t) ≡ occurs_arms n (rest_of (view_option c)) = occurs_case n t a ps c e ∙ ap (λ b. b || occurs_arms n (rest_of (view_option c))) front in
    j ∙ ap (λ x. occurs_in n (view x)) i ∙ sym (whole ∙ ap (λ x. occurs_arms n (rest_of (view_option x))) h)

pub nothing_holds : (n : ℕ) (t a : Term) (ps : List (Name × Term)) (c : Option Term) (v : Bool) → t ≡ term.Case a ps c → c ≡ None → v ≡ FrontHolds n a ps → v ≡ false → false ≡ occurs_in n (view t)
nothing_holds n t a ps c v e h f g =
    let front : FrontHolds n a ps ≡ false = sym f ∙ g in
    let whole : occurs_in n (view t) ≡ occurs_arms n (rest_of (view_option c)) = occurs_case n t a ps c e ∙ ap (λ b. b || occurs_arms n (rest_of (view_option c))) front in
    sym (whole ∙ ap (λ x. occurs_arms n (rest_of (view_option x))) h)

-- ---- a code

abbrev total_entry : Option Entry → Bool
total_entry (Some e) = e.total
total_entry None = true

entry_total : (o : Option Row) → total_row o ≡ total_entry (option_map (λ r. r.entry) o)
entry_total (Some r) = refl
entry_total None = refl

found_total : (o : Option (Bor PrimRow)) (code : ℕ) → option_map entry_of (option_copied o) ≡ option_map (λ r. r.entry) (row_at code) → total_code code ≡ total_entry (option_map entry_of (option_copied o))
unfolding total_code
found_total o code e = entry_total (row_at code) ∙ ap total_entry (sym e)

pub code_found : (o : Option (Bor PrimRow)) (r : Bor PrimRow) (code : ℕ) → o ≡ Some r → option_map entry_of (option_copied o) ≡ option_map (λ r. r.entry) (row_at code) → r.now.total ≡ total_code code
code_found o r code i e = sym (found_total o code e ∙ ap (λ q. total_entry (option_map entry_of (option_copied q))) i)

pub code_absent : (o : Option (Bor PrimRow)) (code : ℕ) → o ≡ None → option_map entry_of (option_copied o) ≡ option_map (λ r. r.entry) (row_at code) → true ≡ total_code code
code_absent o code i e = sym (found_total o code e ∙ ap (λ q. total_entry (option_map entry_of (option_copied q))) i)
