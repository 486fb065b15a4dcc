-- What the walk through a whole program shows.
use Rattle.std.proofs.Common.{◌≡◌, ◌↔◌, Bool, true, false, List, ◌++◌, length, get_or, replicate, Some, None, refl, sym, ap, subst, ◌∙◌}
use Rattle.std.specs.List.{Contains}
use Rattle.kl_syntax.specs.declared.tree.Program.{Program}
use Rattle.kl_syntax.specs.Syntax.{Decls, no_decls, constant, function}
use Rattle.kl_syntax.specs.View.{view, decls_of}
use Rattle.kl_scope.specs.declared.refusal.ScopeError.{ScopeError}
use Rattle.kl_scope.specs.declared.refusal.ScopeError.TheVariants.{Unknown, Twice, Misapplied, Refutable, NoMemory}
use Rattle.kl_scope.specs.declared.scoped.Scoped.{Scoped}
use Rattle.kl_scope.specs.declared.walk.Walk.{Walk}
use Rattle.kl_scope.specs.Breaches.{program_findings, IsFirstBreach, IsRefusal, Resolves}
use Rattle.kl_scope.specs.Findings.{mention, behind_decls, decls_findings, findings}
use Rattle.kl_scope.specs.Gathering.{Gathered, gathered}
use Rattle.kl_scope.specs.Resolved.{resolved, resolved_decls}
use Rattle.kl_scope.specs.Senses.{Name, Scope, at_first, defined}
use Rattle.kl_scope.specs.Walks.{ProgramWalk, Whole}
use Rattle.kl_scope.proofs.FirstLemmas.{best_is, none_is, some_is, marked_is, unmarked_is}

sources_stay : (ds : Decls) (s : Scope) → (behind_decls ds s).sources ≡ s.sources
sources_stay no_decls s = refl
sources_stay (constant w e ds) s = sources_stay ds (defined s w.text false)
sources_stay (function w p e ds) s = sources_stay ds (defined s w.text true)

module _ (p q : Program) (ss : List Name) (u : Walk) (whole : Whole p q ss u) where
  abbrev w : Walk
  w = whole.start

  abbrev k : ProgramWalk p q w u
  k = whole.walk

  abbrev names : w.names ≡ at_first ss
  names = whole.names

  abbrev fresh : w.findings ≡ record { first = None; marks = replicate (length ss) false }
  fresh = whole.findings

  told : u.findings ≡ gathered w.findings (program_findings p ss)
  told = k.found ∙ ap (λ (s : Scope). gathered w.findings (decls_findings (decls_of p.defs) s ++ findings (view p.last) (behind_decls (decls_of p.defs) s))) names

  pub resolves_is : (s : Scoped) → s.program ≡ q → s.sources ≡ u.names.sources → s.mentioned.items ≡ u.findings.marks → u.findings.first ≡ None → Resolves p ss s
  resolves_is s program kept marks none = record {
    in_scope = none_is (gathered w.findings (program_findings p ss)).first (program_findings p ss) (best_is w.findings (program_findings p ss) (ap (λ (g : Gathered). g.first) fresh)) (ap (λ (g : Gathered). g.first) (sym told) ∙ none);
    defs = ap (λ (r : Program). decls_of r.defs) program ∙ k.defs ∙ ap (resolved_decls (decls_of p.defs)) names;
    last = ap (λ (r : Program). view r.last) program ∙ k.last ∙ ap (λ (z : Scope). resolved (view p.last) (behind_decls (decls_of p.defs) z)) names;
    sources_kept = kept ∙ ap (λ (z : Scope). z.sources) k.scope ∙ sources_stay (decls_of p.defs) w.names ∙ ap (λ (z : Scope). z.sources) names;
    marks = λ i lt.
        subst (λ (bs : List Bool). (get_or bs i false ≡ true) ↔ Contains (program_findings p ss) (mention i)) (ap (λ (g : Gathered). g.marks) (sym told) ∙ sym marks)
        (marked_is (length ss) w.findings (program_findings p ss) (ap (λ (g : Gathered). g.marks) fresh) i lt);
    no_more = λ i le. rw (marks, ap (λ (g : Gathered). g.marks) told) (unmarked_is (length ss) w.findings (program_findings p ss) (ap (λ (g : Gathered). g.marks) fresh) i le);
  }

  refusal : (e : ScopeError) → IsFirstBreach p ss e → IsRefusal p ss e
  refusal (Unknown name token) h = h
  refusal (Twice name token) h = h
  refusal (Misapplied name token) h = h
  refusal (Refutable token) h = h
  refusal NoMemory h = tt

  pub refusal_is : (e : ScopeError) → u.findings.first ≡ Some e → IsRefusal p ss e
  refusal_is e some =
      let h = some_is (gathered w.findings (program_findings p ss)).first (program_findings p ss) e (best_is w.findings (program_findings p ss) (ap (λ (g : Gathered). g.first) fresh)) (ap (λ (g : Gathered). g.first) (sym told) ∙ some) in
      refusal e (record { breaks = h.0; first = h.1 })
