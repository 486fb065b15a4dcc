-- The calls of a body are among the places where names stand.
use Rattle.std.proofs.Common.{◌≡◌, Bool, true, false, cond, List, [], ◌∷◌, ◌++◌, refl, sym, ap, ◌∙◌, append_assoc}
use Rattle.std.specs.List.{AllByRecursion}
use mathlib.Core.Path.{ap₂}
use Rattle.kl_base.proofs.Each.{all_append}
use Rattle.kl_outcome.specs.Outcome.{Name}
use Rattle.kl_syntax.specs.Syntax.{Pat, catch, any, same, is, shape, variant, Pats, no_pats, pats, Exp, Const, name, Call, Rec}
use Rattle.kl_syntax.specs.Syntax.{More, Inj, Coll, Comp, If, Let, Case, Path, Not, Neg, Chain, Exps, no_exps, exps, Flds}
use Rattle.kl_syntax.specs.Syntax.{no_flds, flds, Quals, no_quals, draw, test, Branches, no_branches, otherwise, branch, Steps}
use Rattle.kl_syntax.specs.Syntax.{no_steps, step}
use Rattle.kl_functions.specs.declared.occurrences.Referent.TheVariants.{Field, Global, Local}
use Rattle.kl_functions.specs.declared.occurrences.Occurrence.{Occurrence}
use Rattle.kl_ho.specs.Highers.{literal}
use Rattle.kl_ho.specs.Functions.{Ref, parameter, global, variable, Site, behind_pattern, behind_quals, ref_of, bare_refs, sites, sites_all, sites_fields, sites_quals, sites_branches, sites_steps}
use Rattle.kl_ho.specs.HoPrograms.{is_among}
use Rattle.kl_functions.specs.Occurrences.{Roles, is_one, unless_told, referent, referents, argument_at, pattern_occurrences, patterns_occurrences, occurrences, occurrences_all, occurrences_fields, occurrences_quals, occurrences_branches, occurrences_steps}
use Rattle.kl_functions.specs.Rounds.{ref_view, handed_refs, literal_refs, site_at, sites_in, IsOf, IsSiteOf, AreSitesOf}

sites_both : (xs ys : List Occurrence) → sites_in (xs ++ ys) ≡ sites_in xs ++ sites_in ys
sites_both [] ys = refl
sites_both (x ∷ xs) ys = ap (λ z. site_at x ++ z) (sites_both xs ys) ∙ sym (append_assoc (site_at x) (sites_in xs) (sites_in ys))

and_sites : (xs ys : List Occurrence) (a b : List Site) → sites_in xs ≡ a → sites_in ys ≡ b → sites_in (xs ++ ys) ≡ a ++ b
and_sites xs ys a b p q = sites_both xs ys ∙ ap₂ (λ u v. u ++ v) p q

same_site : (h k : Ref) (xs ys : List (Name × Ref)) → h ≡ k → xs ≡ ys → ◌≡◌ {A = Site} (record { head = h; handed = xs }) (record { head = k; handed = ys })
same_site h k xs ys p q = ap₂ (λ u v. record { head = u; handed = v }) p q

module _ (g : Roles) where
  abbrev ws : List Name
  ws = g.variables

  abbrev cs : List Name
  cs = g.candidates

  ref_same : (H : List Name) (x : Name) → ref_view (referent g H x) ≡ ref_of ws cs H x
  ref_same H x = by_name (is_among x H) (is_among x cs) (is_among x ws)
    where
      by_name : (a b c : Bool) → ref_view (cond a Local (cond b (Field x) (cond c Local (Global x)))) ≡ cond a variable (cond b (parameter x) (cond c variable (global x)))
      by_name true b c = refl
      by_name false true c = refl
      by_name false false true = refl
      by_name false false false = refl

  refs_same : (fs : Flds) (H : List Name) → handed_refs (referents g fs H) ≡ bare_refs ws cs fs H
  refs_same no_flds H = refl
  refs_same (flds l (name x) fs) H = ap₂ (λ r rs. (l.text, r) ∷ rs) (ref_same H x.text) (refs_same fs H)
  refs_same (flds l e fs) H = refs_same fs H

  literal_same : (es : Exps) (H : List Name) → literal_refs (argument_at g es H) ≡ bare_refs ws cs (literal es) H
  literal_same no_exps H = refl
  literal_same (exps (Rec fs) no_exps) H = refs_same fs H
  literal_same (exps e no_exps) H = refl
  literal_same (exps e (exps x es)) H = refl

  mutual
    pattern_none : (p : Pat) (H : List Name) → sites_in (pattern_occurrences g p H) ≡ []
    pattern_none (catch x) H = refl
    pattern_none any H = refl
    pattern_none (same x) H = refl
    pattern_none (is v n) H = refl
    pattern_none (shape ps end) H = patterns_none ps H
    pattern_none (variant l p) H = pattern_none p H

    patterns_none : (ps : Pats) (H : List Name) → sites_in (patterns_occurrences g ps H) ≡ []
    patterns_none no_pats H = refl
    patterns_none (pats l p ps) H = and_sites (pattern_occurrences g p H) (patterns_occurrences g ps H) [] [] (pattern_none p H) (patterns_none ps H)

  behind_none : (p : Pat) (H : List Name) (xs : List Occurrence) (a : List Site) → sites_in xs ≡ a → sites_in (pattern_occurrences g p H ++ xs) ≡ a
  behind_none p H xs a q = and_sites (pattern_occurrences g p H) xs [] a (pattern_none p H) q

  told : (e : Exp) (given : Bool) (H : List Name) → sites_in (occurrences g e false H) ≡ sites ws cs e H → sites_in (unless_told given e (occurrences g e false H)) ≡ sites ws cs e H
  told (name x) true H k = refl
  told e true H k = k
  told e false H k = k

  mutual
    pub same_sites : (e : Exp) (given : Bool) (H : List Name) → sites_in (occurrences g e given H) ≡ sites ws cs e H
    same_sites (Const v) given H = refl
    same_sites (name x) given H = refl
    same_sites (Call f es) given H =
        ap₂ (λ s ss. s ∷ ss) (same_site (ref_view (referent g H f.text)) (ref_of ws cs H f.text) (literal_refs (argument_at g es H)) (bare_refs ws cs (literal es) H) (ref_same H f.text) (literal_same es H))
        (same_all es (is_one es) H)
    same_sites (Rec fs) given H = same_fields fs given H
    same_sites (More fs a) given H = and_sites (occurrences_fields g fs false H) (occurrences g a false H) (sites_fields ws cs fs H) (sites ws cs a H) (same_fields fs false H) (same_sites a false H)
    same_sites (Inj l a) given H = same_sites a false H
    same_sites (Coll k es) given H = same_all es false H
    same_sites (Comp k e qs) given H = and_sites (occurrences_quals g qs H) (occurrences g e false (behind_quals qs H)) (sites_quals ws cs qs H) (sites ws cs e (behind_quals qs H)) (same_quals qs H) (same_sites e false (behind_quals qs H))
    same_sites (If a b c) given H =
        and_sites (occurrences g a false H) (occurrences g b false H ++ occurrences g c false H) (sites ws cs a H) (sites ws cs b H ++ sites ws cs c H) (same_sites a false H)
        (and_sites (occurrences g b false H) (occurrences g c false H) (sites ws cs b H) (sites ws cs c H) (same_sites b false H) (same_sites c false H)) ∙ sym (append_assoc (sites ws cs a H) (sites ws cs b H) (sites ws cs c H))
    same_sites (Let p a b) given H =
        and_sites (occurrences g a false H) (pattern_occurrences g p H ++ occurrences g b false (behind_pattern p H)) (sites ws cs a H) (sites ws cs b (behind_pattern p H)) (same_sites a false H)
        (behind_none p H (occurrences g b false (behind_pattern p H)) (sites ws cs b (behind_pattern p H)) (same_sites b false (behind_pattern p H)))
    same_sites (Case a bs) given H = and_sites (occurrences g a false H) (occurrences_branches g bs H) (sites ws cs a H) (sites_branches ws cs bs H) (same_sites a false H) (same_branches bs H)
    same_sites (Path a ls) given H = same_sites a false H
    same_sites (Not a) given H = same_sites a false H
    same_sites (Neg a) given H = same_sites a false H
    same_sites (Chain a ss) given H = and_sites (occurrences g a false H) (occurrences_steps g ss H) (sites ws cs a H) (sites_steps ws cs ss H) (same_sites a false H) (same_steps ss H)

    same_all : (es : Exps) (given : Bool) (H : List Name) → sites_in (occurrences_all g es given H) ≡ sites_all ws cs es H
    same_all no_exps given H = refl
    same_all (exps e es) given H = and_sites (occurrences g e given H) (occurrences_all g es given H) (sites ws cs e H) (sites_all ws cs es H) (same_sites e given H) (same_all es given H)

    same_fields : (fs : Flds) (given : Bool) (H : List Name) → sites_in (occurrences_fields g fs given H) ≡ sites_fields ws cs fs H
    same_fields no_flds given H = refl
    same_fields (flds l e fs) given H = and_sites (unless_told given e (occurrences g e false H)) (occurrences_fields g fs given H) (sites ws cs e H) (sites_fields ws cs fs H) (told e given H (same_sites e false H)) (same_fields fs given H)

    same_quals : (qs : Quals) (H : List Name) → sites_in (occurrences_quals g qs H) ≡ sites_quals ws cs qs H
    same_quals no_quals H = refl
    same_quals (draw p e qs) H =
        and_sites (occurrences g e false H) (pattern_occurrences g p H ++ occurrences_quals g qs (behind_pattern p H)) (sites ws cs e H) (sites_quals ws cs qs (behind_pattern p H)) (same_sites e false H)
        (behind_none p H (occurrences_quals g qs (behind_pattern p H)) (sites_quals ws cs qs (behind_pattern p H)) (same_quals qs (behind_pattern p H)))
    same_quals (test e qs) H = and_sites (occurrences g e false H) (occurrences_quals g qs H) (sites ws cs e H) (sites_quals ws cs qs H) (same_sites e false H) (same_quals qs H)

    same_branches : (bs : Branches) (H : List Name) → sites_in (occurrences_branches g bs H) ≡ sites_branches ws cs bs H
    same_branches no_branches H = refl
    same_branches (otherwise e) H = same_sites e false H
    same_branches (branch l p e bs) H =
        behind_none p H (occurrences g e false (behind_pattern p H) ++ occurrences_branches g bs H) (sites ws cs e (behind_pattern p H) ++ sites_branches ws cs bs H)
        (and_sites (occurrences g e false (behind_pattern p H)) (occurrences_branches g bs H) (sites ws cs e (behind_pattern p H)) (sites_branches ws cs bs H) (same_sites e false (behind_pattern p H)) (same_branches bs H))

    same_steps : (ss : Steps) (H : List Name) → sites_in (occurrences_steps g ss H) ≡ sites_steps ws cs ss H
    same_steps no_steps H = refl
    same_steps (step c e ss) H = and_sites (occurrences g e false H) (occurrences_steps g ss H) (sites ws cs e H) (sites_steps ws cs ss H) (same_sites e false H) (same_steps ss H)

-- ---- only these variables are told as fields

module _ (ws cs : List Name) where
  ref_is_of : (H : List Name) (x : Name) → IsOf cs (ref_of ws cs H x)
  ref_is_of H x = by_name (is_among x H) (is_among x cs) (is_among x ws) refl
    where
      by_name : (a b c : Bool) → is_among x cs ≡ b → IsOf cs (cond a variable (cond b (parameter x) (cond c variable (global x))))
      by_name true b c e = tt
      by_name false true c e = e
      by_name false false true e = tt
      by_name false false false e = tt

  refs_are_of : (fs : Flds) (H : List Name) → AllByRecursion (λ f. IsOf cs f.1) (bare_refs ws cs fs H)
  refs_are_of no_flds H = tt
  refs_are_of (flds l (name x) fs) H = (ref_is_of H x.text, refs_are_of fs H)
  refs_are_of (flds l e fs) H = refs_are_of fs H

  of_both : (xs ys : List Site) → AreSitesOf cs xs → AreSitesOf cs ys → AreSitesOf cs (xs ++ ys)
  of_both xs ys h k = all_append (IsSiteOf cs) xs ys h k

  mutual
    pub sites_are_of : (e : Exp) (H : List Name) → AreSitesOf cs (sites ws cs e H)
    sites_are_of (Const v) H = tt
    sites_are_of (name x) H = tt
    sites_are_of (Call f es) H = ((ref_is_of H f.text, refs_are_of (literal es) H), all_are_of es H)
    sites_are_of (Rec fs) H = fields_are_of fs H
    sites_are_of (More fs a) H = of_both (sites_fields ws cs fs H) (sites ws cs a H) (fields_are_of fs H) (sites_are_of a H)
    sites_are_of (Inj l a) H = sites_are_of a H
    sites_are_of (Coll k es) H = all_are_of es H
    sites_are_of (Comp k e qs) H = of_both (sites_quals ws cs qs H) (sites ws cs e (behind_quals qs H)) (quals_are_of qs H) (sites_are_of e (behind_quals qs H))
    sites_are_of (If a b c) H =
        of_both (sites ws cs a H ++ sites ws cs b H) (sites ws cs c H) (of_both (sites ws cs a H) (sites ws cs b H) (sites_are_of a H) (sites_are_of b H)) (sites_are_of c H)
    sites_are_of (Let p a b) H = of_both (sites ws cs a H) (sites ws cs b (behind_pattern p H)) (sites_are_of a H) (sites_are_of b (behind_pattern p H))
    sites_are_of (Case a bs) H = of_both (sites ws cs a H) (sites_branches ws cs bs H) (sites_are_of a H) (branches_are_of bs H)
    sites_are_of (Path a ls) H = sites_are_of a H
    sites_are_of (Not a) H = sites_are_of a H
    sites_are_of (Neg a) H = sites_are_of a H
    sites_are_of (Chain a ss) H = of_both (sites ws cs a H) (sites_steps ws cs ss H) (sites_are_of a H) (steps_are_of ss H)

    all_are_of : (es : Exps) (H : List Name) → AreSitesOf cs (sites_all ws cs es H)
    all_are_of no_exps H = tt
    all_are_of (exps e es) H = of_both (sites ws cs e H) (sites_all ws cs es H) (sites_are_of e H) (all_are_of es H)

    fields_are_of : (fs : Flds) (H : List Name) → AreSitesOf cs (sites_fields ws cs fs H)
    fields_are_of no_flds H = tt
    fields_are_of (flds l e fs) H = of_both (sites ws cs e H) (sites_fields ws cs fs H) (sites_are_of e H) (fields_are_of fs H)

    quals_are_of : (qs : Quals) (H : List Name) → AreSitesOf cs (sites_quals ws cs qs H)
    quals_are_of no_quals H = tt
    quals_are_of (draw p e qs) H = of_both (sites ws cs e H) (sites_quals ws cs qs (behind_pattern p H)) (sites_are_of e H) (quals_are_of qs (behind_pattern p H))
    quals_are_of (test e qs) H = of_both (sites ws cs e H) (sites_quals ws cs qs H) (sites_are_of e H) (quals_are_of qs H)

    branches_are_of : (bs : Branches) (H : List Name) → AreSitesOf cs (sites_branches ws cs bs H)
    branches_are_of no_branches H = tt
    branches_are_of (otherwise e) H = sites_are_of e H
    branches_are_of (branch l p e bs) H = of_both (sites ws cs e (behind_pattern p H)) (sites_branches ws cs bs H) (sites_are_of e (behind_pattern p H)) (branches_are_of bs H)

    steps_are_of : (ss : Steps) (H : List Name) → AreSitesOf cs (sites_steps ws cs ss H)
    steps_are_of no_steps H = tt
    steps_are_of (step c e ss) H = of_both (sites ws cs e H) (sites_steps ws cs ss H) (sites_are_of e H) (steps_are_of ss H)
