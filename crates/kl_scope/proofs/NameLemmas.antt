-- What names stand for, and the tables that say so.
use Rattle.std.proofs.Common.{◌≡◌, ℕ, suc, ◌+◌, ◌-◌, ◌<◌, Bool, true, false, List, [], ◌∷◌, ◌++◌, length, reverse, take, drop, get_or, Option, Some, None, Result, Ok, Err, cond, if◌then◌else◌, refl, sym, ap, subst, ◌∙◌, arith, add-one, bytes_eq, Bor}
use Rattle.std.proofs.Math.Seq.{take-suc}
use Rattle.std.proofs.lemmas.List.{length-map, length-reverse, reverse-append, drop-drop, length-take}
use Rattle.std.proofs.lemmas.Map.Text.{is_eq-slice_cmp}
use Rattle.std.proofs.lemmas.Slice.Eq.{bytes_eq-Decides}
use Rattle.std.specs.BTreeMap.{BTreeMap, get, Updates}
use Rattle.std.specs.Option.{option_map, option_or, option_copied, is_some}
use Rattle.std.specs.Result.{is_err, OnOk}
use Rattle.kl_base.specs.Fields.{bytes_cmp}
use Rattle.kl_syntax.specs.declared.tree.Meaning.TheVariants.{Variable, Definition, Source}
use Rattle.kl_scope.specs.declared.names.Bound.{Bound}
use Rattle.kl_scope.specs.declared.names.Sense.{Sense}
use Rattle.kl_scope.specs.Senses.{Name, Scope, sense, place_in, definition_in, source_in, named}
use Rattle.kl_scope.specs.Tables.{names_of, level_in, HidingIs, Kept}

-- ---- levels

below_step : (b : Bool) (n l : ℕ) (o : Option ℕ) → (o ≡ Some l → l < n) → (if b then Some n else o) ≡ Some l → l < suc n
below_step true n l o ih h = let j : n ≡ l = cc in omega arith
below_step false n l o ih h = let j : l < n = ih h in omega arith

pub level_below : (ys : List Name) (x : Name) (l : ℕ) → level_in ys x ≡ Some l → l < length ys
level_below [] x l h = absurd cc
level_below (y ∷ ys) x l h = below_step (bytes_eq y x) (length ys) l (level_in ys x) (level_below ys x l) h

place_step : (b : Bool) (n l : ℕ) (o p : Option ℕ) → (o ≡ Some l → p ≡ Some (n - 1 - l)) → (o ≡ Some l → l < n) → (if b then Some n else o) ≡ Some l → (if b then Some 0 else option_map suc p) ≡ Some (suc n - 1 - l)
place_step true n l o p ih below h = let j : n ≡ l = cc in ap Some (omega arith)
place_step false n l o p ih below h = let j : l < n = below h in ap (option_map suc) (ih h) ∙ ap Some (omega arith)

place_of_level : (ys : List Name) (x : Name) (l : ℕ) → level_in ys x ≡ Some l → place_in ys x ≡ Some (length ys - 1 - l)
place_of_level [] x l h = absurd cc
place_of_level (y ∷ ys) x l h = place_step (bytes_eq y x) (length ys) l (level_in ys x) (place_in ys x) (place_of_level ys x l) (level_below ys x l) h

none_step : (b : Bool) (n : ℕ) (o p : Option ℕ) → (o ≡ None → p ≡ None) → (if b then Some n else o) ≡ None → (if b then Some 0 else option_map suc p) ≡ None
none_step true n o p ih h = absurd cc
none_step false n o p ih h = ap (option_map suc) (ih h)

no_place : (ys : List Name) (x : Name) → level_in ys x ≡ None → place_in ys x ≡ None
no_place [] x h = refl
no_place (y ∷ ys) x h = none_step (bytes_eq y x) (length ys) (level_in ys x) (place_in ys x) (no_place ys x) h

names_long : (vs : List Bound) → length (names_of (reverse vs)) ≡ length vs
names_long vs = length-map (reverse vs) (λ b. b.name) ∙ length-reverse vs

-- ---- what a name stands for

pub level_fits : (vs : List Bound) (x : Name) (l : ℕ) → Some l ≡ level_in (names_of (reverse vs)) x → l < length vs
level_fits vs x l h = let k : l < length (names_of (reverse vs)) = level_below (names_of (reverse vs)) x l (sym h) in omega (arith, names_long vs)

abbrev seen : List Bound → List (Name × Bool) → List Name → Scope
seen vs ds ss = record { variables = names_of (reverse vs); definitions = reverse ds; sources = ss }

pub named_variable : (vs : List Bound) (ds : List (Name × Bool)) (ss : List Name) (s : Scope) (x : Name) (n l : ℕ) → seen vs ds ss ≡ s → n ≡ length vs → Some l ≡ level_in (names_of (reverse vs)) x → Some (sense (Variable (n - 1 - l)) 0) ≡ named s x
named_variable vs ds ss s x n l e long h =
    subst (λ (z : Scope). Some (sense (Variable (n - 1 - l)) 0) ≡ named z x) e
    (sym (ap (λ (o : Option ℕ). option_or (option_map (λ i. sense (Variable i) 0) o) (option_or (definition_in (reverse ds) x) (source_in ss x))) (place_of_level (names_of (reverse vs)) x l (sym h))
    ∙ ap (λ k. Some (sense (Variable (k - 1 - l)) 0)) (names_long vs ∙ sym long)))

pub named_other : (vs : List Bound) (ds : List (Name × Bool)) (ss : List Name) (s : Scope) (x : Name) (o : Option Sense) → seen vs ds ss ≡ s → None ≡ level_in (names_of (reverse vs)) x → o ≡ option_or (definition_in (reverse ds) x) (source_in ss x) → o ≡ named s x
named_other vs ds ss s x o e h k =
    subst (λ (z : Scope). o ≡ named z x) e
    (k ∙ sym (ap (λ (p : Option ℕ). option_or (option_map (λ i. sense (Variable i) 0) p) (option_or (definition_in (reverse ds) x) (source_in ss x))) (no_place (names_of (reverse vs)) x (sym h))))

pub ok_of : {A E P : Type 0} (r : Result A E) → is_err r ≡ false → OnOk r P → P
ok_of (Ok x) h p = p
ok_of (Err e) h p = absurd cc

-- ---- fewer variables

pub left_more : (s t u : Scope) (k : ℕ) → t ≡ record s { variables = drop k s.variables } → u ≡ record t { variables = drop 1 t.variables } → u ≡ record s { variables = drop (k + 1) s.variables }
left_more s t u k e f =
    f ∙ rw e (ap (λ (vs : List Name). record { variables = vs; definitions = s.definitions; sources = s.sources }) (drop-drop 1 k s.variables))

-- ---- a variable more, and one less

turned : {A : Type 0} (xs : List A) (x : A) → reverse (xs ++ x ∷ []) ≡ x ∷ reverse xs
turned xs x = reverse-append xs (x ∷ [])

module _ (vs : List Bound) (inner next : BTreeMap Name ℕ) (ds : List (Name × Bool)) (ss : List Name) (fixed : BTreeMap Name Sense) where
  levels_more : (b : Bound) (level : ℕ) → Kept vs inner ds ss fixed → level ≡ length vs → Updates bytes_cmp inner next b.name (Some level) → (x : Name) → get bytes_cmp next x ≡ level_in (b.name ∷ names_of (reverse vs)) x
  levels_more b level kept long up x = up.0 x ∙ rw (is_eq-slice_cmp b.name x, kept.levels x, names_long vs, long) refl

  pub kept_bound : (us : List Bound) (b : Bound) (level : ℕ) → Kept vs inner ds ss fixed → us ≡ vs ++ b ∷ [] → level ≡ length vs → b.hidden ≡ get bytes_cmp inner b.name → Updates bytes_cmp inner next b.name (Some level) → Kept us next ds ss fixed
  kept_bound us b level kept e long hides up = record {
    levels = λ x. rw (e, turned vs b) (levels_more b level kept long up x);
    hiding = rw (e, turned vs b) (hides ∙ kept.levels b.name, kept.hiding);
    others = kept.others;
  }

hidden_step : (t : Bool) (n : ℕ) (w o : Option ℕ) → (t ≡ true → o ≡ w) → cond t w (if t then Some n else o) ≡ o
hidden_step true n w o same = sym (same refl)
hidden_step false n w o same = refl

module _ (vs us : List Bound) (inner next : BTreeMap Name ℕ) (ds : List (Name × Bool)) (ss : List Name) (fixed : BTreeMap Name Sense) (b : Bound) (kept : Kept vs inner ds ss fixed) (e : vs ≡ us ++ b ∷ []) where
  turned_is : reverse vs ≡ b ∷ reverse us
  turned_is = rw e (turned us b)

  hides : b.hidden ≡ level_in (names_of (reverse us)) b.name
  hides = let h : HidingIs (b ∷ reverse us) = subst HidingIs turned_is kept.hiding in h.0

  pub kept_unbound : Updates bytes_cmp inner next b.name b.hidden → Kept us next ds ss fixed
  kept_unbound up = record {
    levels = λ x. up.0 x ∙ rw (is_eq-slice_cmp b.name x, kept.levels x, turned_is)
        (hidden_step (bytes_eq b.name x) (length (names_of (reverse us))) b.hidden (level_in (names_of (reverse us)) x)
        (λ t. sym (hides ∙ ap (level_in (names_of (reverse us))) ((bytes_eq-Decides b.name x).0 t))));
    hiding = let h : HidingIs (b ∷ reverse us) = subst HidingIs turned_is kept.hiding in h.1;
    others = kept.others;
  }

  pub is_kept : get bytes_cmp inner b.name ≡ None → ⊥
  is_kept none =
      let found : level_in (b.name ∷ names_of (reverse us)) b.name ≡ None = subst (λ (z : List Bound). level_in (names_of z) b.name ≡ None) turned_is (sym (kept.levels b.name) ∙ none) in
      let same : bytes_eq b.name b.name ≡ true = (bytes_eq-Decides b.name b.name).1 refl in
      let some : Some (length (names_of (reverse us))) ≡ None = rw same at found in cc

-- ---- a definition more

choice_step : (t : Bool) (d : Sense) (o p : Option Sense) → cond t (Some d) (option_or o p) ≡ option_or (if t then Some d else o) p
choice_step true d o p = refl
choice_step false d o p = refl

pub kept_defined : (vs : List Bound) (inner : BTreeMap Name ℕ) (ds es : List (Name × Bool)) (ss : List Name) (fixed next : BTreeMap Name Sense) (k : Name) (f : Bool) (n m : ℕ) → Kept vs inner ds ss fixed → es ≡ ds ++ (k, f) ∷ []
    → n ≡ length ds → m ≡ (if f then 1 else 0) → Updates bytes_cmp fixed next k (Some (sense (Definition n) m)) → Kept vs inner es ss next
kept_defined vs inner ds es ss fixed next k f n m kept e long takes up = record {
  levels = kept.levels;
  hiding = kept.hiding;
  others = λ x. up.0 x ∙ rw (is_eq-slice_cmp k x, kept.others x, e, turned ds (k, f), long, takes, length-reverse ds)
      (choice_step (bytes_eq k x) (sense (Definition (length ds)) (if f then 1 else 0)) (definition_in (reverse ds) x) (source_in ss x));
}

-- ---- sources

place_more : (ys : List Name) (y x : Name) → place_in (ys ++ y ∷ []) x ≡ option_or (place_in ys x) (if bytes_eq y x then Some (length ys) else None)
place_more [] y x = refl
place_more (z ∷ ys) y x = more_step (bytes_eq z x) (bytes_eq y x) (length ys) (place_in ys x) (place_in (ys ++ y ∷ []) x) (place_more ys y x)
  where
    more_step : (a b : Bool) (n : ℕ) (o p : Option ℕ) → p ≡ option_or o (if b then Some n else None) → (if a then Some 0 else option_map suc p) ≡ option_or (if a then Some 0 else option_map suc o) (if b then Some (suc n) else None)
    more_step true b n o p h = refl
    more_step false true n None p h = ap (option_map suc) h
    more_step false false n None p h = ap (option_map suc) h
    more_step false b n (Some i) p h = ap (option_map suc) h

source_step : (b : Bool) (n : ℕ) (o : Option ℕ) → option_map (λ i. sense (Source i) 0) (option_or o (if b then Some n else None)) ≡ option_or (option_map (λ i. sense (Source i) 0) o) (if b then Some (sense (Source n) 0) else None)
source_step true n None = refl
source_step false n None = refl
source_step b n (Some i) = refl

pub source_more : (ys : List Name) (y x : Name) → source_in (ys ++ y ∷ []) x ≡ option_or (source_in ys x) (if bytes_eq y x then Some (sense (Source (length ys)) 0) else None)
source_more ys y x = ap (option_map (λ i. sense (Source i) 0)) (place_more ys y x) ∙ source_step (bytes_eq y x) (length ys) (place_in ys x)

added_step : (t : Bool) (d : Sense) (o : Option Sense) → (t ≡ true → o ≡ None) → cond t (Some d) o ≡ option_or o (if t then Some d else None)
added_step true d o none = rw (none refl) refl
added_step false d None none = refl
added_step false d (Some e) none = refl

pub source_added : (old next : BTreeMap Name Sense) (k x : Name) (d : Sense) → Updates bytes_cmp old next k (Some d) → get bytes_cmp old k ≡ None → get bytes_cmp next x ≡ option_or (get bytes_cmp old x) (if bytes_eq k x then Some d else None)
source_added old next k x d up none =
    up.0 x ∙ rw (is_eq-slice_cmp k x) (added_step (bytes_eq k x) d (get bytes_cmp old x) (λ t. subst (λ (z : Name). get bytes_cmp old z ≡ None) ((bytes_eq-Decides k x).0 t) none))

pub sources_more : (ss : List Name) (i : ℕ) (y : Name) (old next : BTreeMap Name Sense) → i < length ss → y ≡ get_or ss i y → ((x : Name) → get bytes_cmp old x ≡ source_in (take i ss) x)
    → ((x : Name) → get bytes_cmp next x ≡ option_or (get bytes_cmp old x) (if bytes_eq y x then Some (sense (Source i) 0) else None)) → (x : Name) → get bytes_cmp next x ≡ source_in (take (i + 1) ss) x
sources_more ss i y old next lt at now more x =
    let long : length (take i ss) ≡ i = omega (arith, length-take {A = Name}) in
    more x ∙ rw (now x, add-one, take-suc ss i y lt, ← at) (sym (source_more (take i ss) y x ∙ rw long refl))

pub none_copied : {A : Type 0} (o : Option (Bor A)) → is_some o ≡ false → option_copied o ≡ None
none_copied None h = refl
none_copied (Some x) h = absurd cc

pub kept_more : (ss : List Name) (i : ℕ) (y z : Name) (old next : List Name) → i < length ss → y ≡ get_or ss i y → z ≡ y → old ≡ take i ss → next ≡ old ++ z ∷ [] → next ≡ take (i + 1) ss
kept_more ss i y z old next lt at same is e = e ∙ rw (is, same, add-one, take-suc ss i y lt, ← at) refl
