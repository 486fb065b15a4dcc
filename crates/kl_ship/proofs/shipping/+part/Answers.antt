use Rattle.std.proofs.Common.{◌≡◌, Some, ap, subst, refl, arith, rules, sym, ◌∙◌}
use Rattle.std.proofs.lemmas.Option.{slice_get_read}
use Rattle.kl_core.specs.Trees.{If, Inj, Proj, rest, view, parts_view}
use Rattle.kl_core.specs.declared.term.Term.{the_lemmas}
use Rattle.kl_core.specs.Counts.{nodes_of, nodes_parts, nodes_arms}
use Rattle.kl_core.proofs.Views.{view_Proj, view_Inj, view_If}
use Rattle.std.specs.Option.{option_map}
use Rattle.kl_type.specs.Ground.{IsGround}
use Rattle.kl_ship.specs.Delegation.{body_left}
use Rattle.kl_ship.specs.Sources.{ground}
use Rattle.kl_ship.specs.Shipping.{ArmsSound, IsBehind, IsSound, behind_statement, other_view}
use Rattle.kl_ship.specs.Sizes.{sources_in, sources_parts, sources_arms, loops_in, loops_parts, loops_arms}
use Rattle.kl_ship.proofs.Shipped.{nodes_case, amount_case, sound_case, no_smaller}
use Rattle.kl_ship.proofs.Shipped.{same_weight, first_of_two, second_of_two, first_of_three, second_of_three, third_of_three, body_of_loop, source_of_loop, body_of_generator, subject_of_case, branches_of_case, other_of_case, one_of_all}
use Rattle.kl_ship.proofs.Shipped.{term_nodes, term_loops, term_sources, term_sound, terms_next, terms_last, part_nodes, part_loops, part_sources, part_sound, parts_next, parts_last}
use Rattle.kl_ship.proofs.Shipped.{union_made, let_made, if_made, case_made, record_made, case_becomes, over_plan, asked_made, stated_made, drawn_by, chosen_by}
use Rattle.kl_ship.proofs.PackedFronts.{body_tested, body_kept}
use Rattle.kl_ship.proofs.Behind.{one_of, sources_behind, loops_behind, weight_behind, sound_behind}
use Rattle.kl_ship.proofs.ColumnSteps.{there}
use Rattle.kl_ship.proofs.shipping.+part.Goals as goal

-- ---- two parts

pub united-boxed-first-requires : goal.united-boxed-first-requires
united-boxed-first-requires t c =
    let w = first_of_two c.args.sources.now (view c.args.a.now) (view c.args.b.now) in
    (omega (arith, w, c.decreases), (c.requires.first, (c.requires.sources, (c.requires.proper, (omega (arith, c.requires.room), omega (arith, c.requires.few))))))

pub united-boxed-second-requires : goal.united-boxed-second-requires
united-boxed-second-requires t c =
    let w = second_of_two c.args.sources.now (view c.args.a.now) (view c.args.b.now) in
    (omega (arith, w, c.decreases), (c.requires.second, (c.requires.sources, (c.requires.proper, (omega (arith, c.boxed-first.ensures.counts, c.requires.room), omega (arith, c.requires.few))))))

pub united-returns-clause-becomes : goal.united-returns-clause-becomes
united-returns-clause-becomes t c = union_made _ _ _ _ _ _ _ _ _ _ _ c.union.ensures c.boxed-first.ensures.becomes c.boxed-second.ensures.becomes

pub bound-boxed-first-requires : goal.bound-boxed-first-requires
bound-boxed-first-requires t c =
    let w = first_of_two c.args.sources.now (view c.args.a.now) (view c.args.b.now) in
    (omega (arith, w, c.decreases), (c.requires.first, (c.requires.sources, (c.requires.proper, (omega (arith, c.requires.room), omega (arith, c.requires.few))))))

pub bound-boxed-second-requires : goal.bound-boxed-second-requires
bound-boxed-second-requires t c =
    let w = second_of_two c.args.sources.now (view c.args.a.now) (view c.args.b.now) in
    (omega (arith, w, c.decreases), (c.requires.second, (c.requires.sources, (c.requires.proper, (omega (arith, c.boxed-first.ensures.counts, c.requires.room), omega (arith, c.requires.few))))))

pub bound-returns-clause-becomes : goal.bound-returns-clause-becomes
bound-returns-clause-becomes t c = let_made _ _ _ _ _ _ _ _ _ _ _ c.binding.ensures c.boxed-first.ensures.becomes c.boxed-second.ensures.becomes

-- ---- three parts

pub tested-boxed-condition-requires : goal.tested-boxed-condition-requires
tested-boxed-condition-requires t c =
    let w = first_of_three c.args.sources.now (view c.args.a.now) (view c.args.b.now) (view c.args.c.now) in
    (omega (arith, w, c.decreases), (c.requires.condition, (c.requires.sources, (c.requires.proper, (omega (arith, c.requires.room), omega (arith, c.requires.few))))))

pub tested-boxed-yes-requires : goal.tested-boxed-yes-requires
tested-boxed-yes-requires t c =
    let w = second_of_three c.args.sources.now (view c.args.a.now) (view c.args.b.now) (view c.args.c.now) in
    (omega (arith, w, c.decreases), (c.requires.yes, (c.requires.sources, (c.requires.proper, (omega (arith, c.boxed-condition.ensures.counts, c.requires.room), omega (arith, c.requires.few))))))

pub tested-boxed-no-requires : goal.tested-boxed-no-requires
tested-boxed-no-requires t c =
    let w = third_of_three c.args.sources.now (view c.args.a.now) (view c.args.b.now) (view c.args.c.now) in
    (omega (arith, w, c.decreases), (c.requires.no, (c.requires.sources, (c.requires.proper, (omega (arith, c.boxed-condition.ensures.counts, c.boxed-yes.ensures.counts, c.requires.room), omega (arith, c.requires.few))))))

pub tested-returns-clause-becomes : goal.tested-returns-clause-becomes
tested-returns-clause-becomes t c = if_made _ _ _ _ _ _ _ _ _ _ _ _ _ _ c.test.ensures c.boxed-condition.ensures.becomes c.boxed-yes.ensures.becomes c.boxed-no.ensures.becomes

-- ---- a case

pub cased-boxed-subject-requires : goal.cased-boxed-subject-requires
cased-boxed-subject-requires t c =
    let w =
    subject_of_case c.args.sources.now (view c.args.a.now) (nodes_parts (parts_view c.args.branches.now)) (nodes_arms (other_view c.args.other.now)) (loops_parts (parts_view c.args.branches.now)) (loops_arms (other_view c.args.other.now))
    in (omega (arith, w, c.decreases), (c.requires.subject, (c.requires.sources, (c.requires.proper, (omega (arith, c.requires.room), omega (arith, c.requires.few))))))

pub cased-labelled-made-requires : goal.cased-labelled-made-requires
cased-labelled-made-requires t c =
    let w =
    branches_of_case c.args.sources.now (view c.args.a.now) (nodes_parts (parts_view c.args.branches.now)) (nodes_arms (other_view c.args.other.now)) (loops_parts (parts_view c.args.branches.now)) (loops_arms (other_view c.args.other.now))
    in (
      rw c.slice.ensures (omega (arith, w, c.decreases)),
      (rw c.slice.ensures c.requires.branches, (c.requires.sources, (c.requires.proper, (rw c.slice.ensures (omega (arith, c.boxed-subject.ensures.counts, c.requires.room)), rw c.slice.ensures (omega (arith, c.requires.few)))))),
    )

pub cased-otherwise-last-requires : goal.cased-otherwise-last-requires
cased-otherwise-last-requires t c =
    let w =
    other_of_case c.args.sources.now (view c.args.a.now) (nodes_parts (parts_view c.args.branches.now)) (nodes_arms (other_view c.args.other.now)) (loops_parts (parts_view c.args.branches.now)) (loops_arms (other_view c.args.other.now))
    in
    let n : sources_parts (parts_view c.slice.result.now) ≡ sources_parts (parts_view c.args.branches.now) = ap (λ ps. sources_parts (parts_view ps)) c.slice.ensures in (
      omega (arith, w, c.decreases),
      (c.requires.other, (c.requires.sources, (c.requires.proper, (omega (arith, n, c.boxed-subject.ensures.counts, c.labelled-made.ensures.counts, c.requires.room), omega (arith, c.requires.few))))),
    )

pub cased-returns-clause-becomes : goal.cased-returns-clause-becomes
cased-returns-clause-becomes t c =
    case_made _ _ _ _ _ _ _ _ _ _ _ _ _ _ _ c.case.ensures c.slice.ensures c.boxed-subject.ensures.becomes c.labelled-made.ensures.becomes c.otherwise-last.ensures.becomes

pub otherwise-boxed-requires : goal.otherwise-boxed-requires
otherwise-boxed-requires t c =
    let e : other_view c.args.other.now ≡ rest (view c.in-Some.other) = ap other_view c.in-Some.is in
    let n : nodes_arms (other_view c.args.other.now) ≡ nodes_of (view c.in-Some.other) = ap nodes_arms e in
    let l : loops_arms (other_view c.args.other.now) ≡ loops_in (view c.in-Some.other) = ap loops_arms e in
    let m : sources_arms (other_view c.args.other.now) ≡ sources_in (view c.in-Some.other) = ap sources_arms e in
    let w = one_of_all c.args.sources.now (view c.in-Some.other) (nodes_arms (other_view c.args.other.now)) (loops_arms (other_view c.args.other.now)) (omega (arith, n)) (omega (arith, l)) in (
      omega (arith, w, c.decreases),
      (subst (ArmsSound c.args.sources.now) e c.requires.sound, (c.requires.sources, (c.requires.proper, (omega (arith, m, c.requires.room), omega (arith, l, c.requires.few))))),
    )

-- ---- lists of parts

pub all-part-requires : goal.all-part-requires
all-part-requires t c =
    let n = term_nodes _ _ _ _ _ _ _ _ c.loop-term-test.true c.term-item.is c.loop-term.invariant in
    let l = term_loops _ _ _ _ _ _ _ _ c.loop-term-test.true c.term-item.is c.loop-term.invariant in
    let m = term_sources _ _ _ _ _ _ _ _ c.loop-term-test.true c.term-item.is c.loop-term.invariant in
    let w = one_of_all c.args.sources.now _ _ _ n l in (
      omega (arith, w, c.decreases),
      (term_sound _ _ _ _ _ _ _ _ c.loop-term-test.true c.term-item.is c.loop-term.invariant, (c.requires.sources, (c.requires.proper, (omega (arith, m, c.requires.room), omega (arith, l, c.requires.few))))),
    )

pub all-loop-term-preserved : goal.all-loop-term-preserved
all-loop-term-preserved t c = terms_next _ _ _ _ _ _ _ _ c.loop-term-test.true c.term-item.is c.loop-term.invariant _ _ _ c.part.ensures.counts c.in_ok-part.ensures.becomes c.in_ok-push.ensures.items

pub all-returns-clause-becomes : goal.all-returns-clause-becomes
all-returns-clause-becomes t c = terms_last _ _ _ _ _ _ _ _ c.loop-term-test.false c.loop-term.invariant c.of.ensures

pub labelled-part-requires : goal.labelled-part-requires
labelled-part-requires t c =
    let n = part_nodes _ _ _ _ _ _ _ _ _ c.loop-item-test.true c.item-item.is c.loop-item.invariant in
    let l = part_loops _ _ _ _ _ _ _ _ _ c.loop-item-test.true c.item-item.is c.loop-item.invariant in
    let m = part_sources _ _ _ _ _ _ _ _ _ c.loop-item-test.true c.item-item.is c.loop-item.invariant in
    let w = one_of_all c.args.sources.now _ _ _ n l in (
      omega (arith, w, c.decreases),
      (part_sound _ _ _ _ _ _ _ _ _ c.loop-item-test.true c.item-item.is c.loop-item.invariant, (c.requires.sources, (c.requires.proper, (omega (arith, m, c.requires.room), omega (arith, l, c.requires.few))))),
    )

pub labelled-loop-item-preserved : goal.labelled-loop-item-preserved
labelled-loop-item-preserved t c =
    parts_next _ _ _ _ _ _ _ _ _ c.loop-item-test.true c.item-item.is c.loop-item.invariant _ _ _ _ c.part.ensures.counts c.in_ok-label.ensures c.in_ok-part.ensures.becomes c.in_ok-push.ensures.items

pub labelled-returns-clause-becomes : goal.labelled-returns-clause-becomes
labelled-returns-clause-becomes t c = parts_last _ _ _ _ _ _ _ _ _ c.loop-item-test.false c.loop-item.invariant c.of.ensures

-- ---- loops

pub looped-boxed-source-requires : goal.looped-boxed-source-requires
looped-boxed-source-requires t c =
    let w = source_of_loop c.args.sources.now (view c.args.body.now) (view c.args.over.now) in
    (omega (arith, w, c.decreases), (c.requires.over, (c.requires.sources, (c.requires.proper, (omega (arith, c.requires.room), omega (arith, c.requires.few))))))

pub looped-boxed-inside-requires : goal.looped-boxed-inside-requires
looped-boxed-inside-requires t c =
    let w = body_of_loop c.args.sources.now (view c.args.body.now) (view c.args.over.now) in
    (omega (arith, w, c.decreases), (c.requires.body, (c.requires.sources, (c.requires.proper, (omega (arith, c.boxed-source.ensures.counts, c.requires.room), omega (arith, c.requires.few))))))

pub looped-returns-clause-becomes : goal.looped-returns-clause-becomes
looped-returns-clause-becomes t c = over_plan _ _ _ _ _ _ _ _ _ _ _ (search (rules, the_lemmas)) c.extension.ensures c.boxed-source.ensures.becomes c.boxed-inside.ensures.becomes

pub asked-drawn-inside-requires : goal.asked-drawn-inside-requires
asked-drawn-inside-requires t c =
    let w = body_of_generator c.args.sources.now (view c.args.body.now) in
    (omega (arith, w, c.decreases), (c.requires.body, (c.requires.sources, (c.requires.proper, (omega (arith, c.next-here.ensures.after, c.requires.room), omega (arith, c.requires.few))))))

pub asked-returns-clause-becomes : goal.asked-returns-clause-becomes
asked-returns-clause-becomes t c =
    let at = slice_get_read c.args.sources.now _ c.args.place c.index-sources-place.result refl c.requires.listed c.index-sources-place.is in
    asked_made c.args.sources.now _ _ _ _ _ _ _ _ _ _ _ _ at (c.requires.rows _ at) c.next-here.ensures.before c.next-here.ensures.after
    c.rows_scan.ensures.scan (rw c.get.ensures at c.rows_scan.ensures.rows) c.boxed_scan-scan.ensures c.drawn-inside.ensures.becomes c.extension.ensures

-- ---- what is left of a body

pub drawn-drawn-requires : goal.drawn-drawn-requires
drawn-drawn-requires t c =
    let v : view c.args.body.now ≡ If (view c.in-If.condition) (view c.in-If.yes) (view c.in-If.no) = ap view (sym c.get.ensures ∙ c.in-If.is) ∙ view_If _ _ _ in
    let s = subst (IsSound c.args.sources.now) v c.requires.sound in
    let w = second_of_three c.args.sources.now (view c.in-If.condition) (view c.in-If.yes) (view c.in-If.no) in
    let e = same_weight c.args.sources.now _ _ v in
    (omega (arith, w, e, c.decreases), (s.1, (c.requires.sources, (c.requires.proper, (omega (arith, ap sources_in v, c.requires.room), omega (arith, ap loops_in v, c.requires.few))))))

pub chosen-boxed-made-requires : goal.chosen-boxed-made-requires
chosen-boxed-made-requires t c =
    let w = first_of_three c.args.sources.now (view c.args.condition.now) (view c.args.yes.now) (view c.args.no.now) in
    (omega (arith, w, c.decreases), (c.requires.condition, (c.requires.sources, (c.requires.proper, (omega (arith, c.requires.room), omega (arith, c.requires.few))))))

pub chosen-drawn-drawn-requires : goal.chosen-drawn-drawn-requires
chosen-drawn-drawn-requires t c =
    let w = second_of_three c.args.sources.now (view c.args.condition.now) (view c.args.yes.now) (view c.args.no.now) in
    (omega (arith, w, c.decreases), (c.requires.yes, (c.requires.sources, (c.requires.proper, (omega (arith, c.boxed-made.ensures.counts, c.requires.room), omega (arith, c.requires.few))))))

pub chosen-boxed-other-requires : goal.chosen-boxed-other-requires
chosen-boxed-other-requires t c =
    let w = third_of_three c.args.sources.now (view c.args.condition.now) (view c.args.yes.now) (view c.args.no.now) in
    (omega (arith, w, c.decreases), (c.requires.no, (c.requires.sources, (c.requires.proper, (omega (arith, c.boxed-made.ensures.counts, c.drawn-drawn.ensures.counts, c.requires.room), omega (arith, c.requires.few))))))

pub chosen-returns-clause-becomes : goal.chosen-returns-clause-becomes
chosen-returns-clause-becomes t c = if_made _ _ _ _ _ _ _ _ _ _ _ _ _ _ c.test.ensures c.boxed-made.ensures.becomes c.drawn-drawn.ensures.becomes c.boxed-other.ensures.becomes

-- ---- a part, by its form

pub part-boxed-requires : goal.part-boxed-requires
part-boxed-requires t c =
    let v : view c.args.term.now ≡ Proj c.in-Proj.label (view c.in-Proj.a) = ap view c.in-Proj.is ∙ view_Proj _ _ in
    let s = subst (IsSound c.args.sources.now) v c.requires.sound in
    let w = one_of_all c.args.sources.now (view c.in-Proj.a) (nodes_of (view c.in-Proj.a)) (loops_in (view c.in-Proj.a)) (omega arith) (omega arith) in
    let e = same_weight c.args.sources.now _ _ v in
    (omega (arith, w, e, c.decreases), (s, (c.requires.sources, (c.requires.proper, (omega (arith, ap sources_in v, c.requires.room), omega (arith, ap loops_in v, c.requires.few))))))

pub part-boxed-requires-in-Inj : goal.part-boxed-requires-in-Inj
part-boxed-requires-in-Inj t c =
    let v : view c.args.term.now ≡ Inj c.in-Inj.label (view c.in-Inj.a) = ap view c.in-Inj.is ∙ view_Inj _ _ in
    let s = subst (IsSound c.args.sources.now) v c.requires.sound in
    let w = one_of_all c.args.sources.now (view c.in-Inj.a) (nodes_of (view c.in-Inj.a)) (loops_in (view c.in-Inj.a)) (omega arith) (omega arith) in
    let e = same_weight c.args.sources.now _ _ v in
    (omega (arith, w, e, c.decreases), (s, (c.requires.sources, (c.requires.proper, (omega (arith, ap sources_in v, c.requires.room), omega (arith, ap loops_in v, c.requires.few))))))

pub part-cased-requires : goal.part-cased-requires
part-cased-requires t c =
    let n = nodes_case _ _ _ _ c.in-Case.is in
    let l = amount_case 1 0 _ _ _ _ c.in-Case.is in
    let m = amount_case 0 1 _ _ _ _ c.in-Case.is in
    let s = sound_case c.args.sources.now _ _ _ _ c.in-Case.is c.requires.sound in
    let w = no_smaller c.args.sources.now _ _ _ _ n l in
    (omega (arith, w, c.decreases), (s.0, (s.1, (s.2, (c.requires.sources, (c.requires.proper, (omega (arith, m, c.requires.room), omega (arith, l, c.requires.few))))))))

pub part-returns-in-Rec-clause-becomes : goal.part-returns-in-Rec-clause-becomes
part-returns-in-Rec-clause-becomes t c = record_made _ _ _ _ _ _ _ _ _ _ c.in-Rec.is c.slice.ensures c.record.ensures c.labelled.ensures.becomes

pub part-returns-in-Case-clause-becomes : goal.part-returns-in-Case-clause-becomes
part-returns-in-Case-clause-becomes t c = case_becomes _ _ _ _ _ _ _ _ _ _ _ c.in-Case.is c.passes_on.ensures c.cased.ensures.becomes

pub part-returns-in-Case-clause-counts : goal.part-returns-in-Case-clause-counts
part-returns-in-Case-clause-counts t c = omega (arith, amount_case 0 1 _ _ _ _ c.in-Case.is, c.cased.ensures.counts)

-- ---- what is left of a front

pub drawn-returns-then-is_test-clause-becomes : goal.drawn-returns-then-is_test-clause-becomes
drawn-returns-then-is_test-clause-becomes t c =
    drawn_by _ _ _ _ _ _
    (body_tested c.args.kind 1 c.args.select _ _ _ _ _ _ _ _ _ c.if-select.true (sym c.get.ensures ∙ c.in-If.is) c.get-in-If.ensures c.get-in-If-2.ensures c.get-then-is_front.ensures c.is_front.ensures c.if-is_front.true c.is_test.ensures c.if-is_test.true)
    c.drawn.ensures.becomes

pub drawn-returns-then-is_front-clause-becomes : goal.drawn-returns-then-is_front-clause-becomes
drawn-returns-then-is_front-clause-becomes t c =
    chosen_by _ _ _ _ _ _ _ _ _
    (body_kept c.args.kind 1 c.args.select _ _ _ _ _ _ _ _ _ c.if-select.true (sym c.get.ensures ∙ c.in-If.is) c.get-in-If.ensures c.get-in-If-2.ensures c.get-then-is_front.ensures c.is_front.ensures c.if-is_front.true c.is_test.ensures c.if-is_test.false)
    c.new.ensures c.in_ok-chosen.ensures.becomes

-- ---- statements

pub stated-returns-clause-becomes : goal.stated-returns-clause-becomes
stated-returns-clause-becomes t c =
    let x = there c.args.sources.now c.args.place c.requires.listed in
    stated_made c.args.sources.now _ _ _ x.0 _ _ _ _ _ _ _ _ x.1 (c.requires.joins x.0 x.1) c.next-here.ensures.before c.next-here.ensures.after
    (rw c.get.ensures at (c.in_ok-scan.ensures x.0 x.1)) (c.behind-inside.ensures.becomes x.0 x.1) c.extension.ensures

pub behind-boxed-requires : goal.behind-boxed-requires
behind-boxed-requires t c =
    let x = there c.args.sources.now c.args.place c.requires.listed in
    let g = subst (λ o. IsBehind c.args.sources.now x.0 c.args.kind (view c.args.body.now) (option_map view o)) c.in-Some.is (c.requires.stated x.0 x.1) in
    let w = weight_behind c.args.sources.now c.args.place x.0 c.args.kind (view c.args.body.now) g.1 (view c.in-Some.packed) x.1 g.2.sql in
    let l = loops_behind c.args.sources.now c.args.place x.0 c.args.kind (view c.args.body.now) g.1 (view c.in-Some.packed) x.1 g.2.sql in
    let m = sources_behind c.args.sources.now c.args.place x.0 c.args.kind (view c.args.body.now) g.1 (view c.in-Some.packed) x.1 g.2.sql in
    let s =
    sound_behind c.args.sources.now c.args.place x.0 c.args.kind (view c.args.body.now) g.1 (view c.in-Some.packed) x.1 g.2.sql c.requires.sources (one_of (λ y. IsGround (ground y)) c.args.sources.now c.args.place x.0 c.requires.proper x.1)
    g.0 g.2.scan (c.requires.joins x.0 x.1) c.requires.sense
    in (omega (arith, w, c.decreases), (s, (c.requires.sources, (c.requires.proper, (omega (arith, m, c.requires.room), omega (arith, l, c.requires.few))))))

pub behind-drawn-requires : goal.behind-drawn-requires
behind-drawn-requires t c =
    let w = body_of_generator c.args.sources.now (view c.args.body.now) in
    (omega (arith, w, c.decreases), (c.requires.body, (c.requires.sources, (c.requires.proper, (omega (arith, c.requires.room), omega (arith, c.requires.few))))))

pub behind-returns-in-Some-clause-counts : goal.behind-returns-in-Some-clause-counts
behind-returns-in-Some-clause-counts t c =
    let x = there c.args.sources.now c.args.place c.requires.listed in
    let g = subst (λ o. IsBehind c.args.sources.now x.0 c.args.kind (view c.args.body.now) (option_map view o)) c.in-Some.is (c.requires.stated x.0 x.1) in
    let m = sources_behind c.args.sources.now c.args.place x.0 c.args.kind (view c.args.body.now) g.1 (view c.in-Some.packed) x.1 g.2.sql in
    omega (arith, m, c.boxed.ensures.counts)

pub behind-returns-in-None-clause-becomes : goal.behind-returns-in-None-clause-becomes
behind-returns-in-None-clause-becomes t c = λ s at.
    let r = slice_get_read c.args.sources.now _ c.args.place c.index-sources-place.result refl c.requires.listed c.index-sources-place.is in
    let q : Some s ≡ Some c.index-sources-place.result = sym at ∙ r in
    let same : s ≡ c.index-sources-place.result = cc in
    drawn_by c.args.sources.now _ _ c.args.number.now c.drawn.new.number c.drawn.result
    (ap (λ o. behind_statement s c.args.kind (view c.args.body.now) (option_map view o)) c.in-None.is ∙ ap (λ y. body_left y.abilities.select c.args.kind 1 (view c.args.body.now)) (same ∙ c.index-sources-place.is))
    c.drawn.ensures.becomes
