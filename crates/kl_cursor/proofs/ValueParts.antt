-- The fields of records, and the arguments of primitives.
use Rattle.std.proofs.Common.{◌≡◌, ◌⊎◌, ⊎_elim, ℕ, ◌+◌, ◌<◌, ◌≤◌, suc, List, [], ◌∷◌, ◌++◌, map, length, drop, get_or, All, Option, Some, None, Result, Vec, Ok, Err, refl, sym, ap, subst, ◌∙◌, arith, append_assoc, append-nil}
use Rattle.std.specs.Prelude.{⊤}
use Rattle.std.specs.List.Sorted.{IsStrictlySortedBy}
use Rattle.std.specs.declared.alloc.Global.{Global}
use Rattle.std.proofs.Math.Path.{fun_ext}
use Rattle.std.proofs.lemmas.List.{at_drop_more}
use Rattle.std.proofs.lemmas.Grind.{common_steps}
use Rattle.std.proofs.lemmas.List.Elements.{All-from_recursion}
use Rattle.kl_base.specs.Fields.{bytes_cmp, labels_of}
use Rattle.kl_value.specs.Canon.{canonical}
use Rattle.kl_value.specs.IsCanonical.{IsCanonical}
use Rattle.kl_value.specs.declared.Value.{Value}
use Rattle.kl_value.specs.declared.Value.TheVariants as value
use Rattle.kl_type.specs.Ground.{Ground, Row, rec as rec_type, row, labels_in}
use Rattle.kl_prim.specs.Meaning.{Answer}
use Rattle.kl_prim.specs.Table.{Fits, meaning, row_at, Row as Primitive}
use Rattle.kl_outcome.specs.Outcome.{Name, Outcome, done, over, after, answered, parts_then}
use Rattle.kl_outcome.specs.Typed.{Inhabits, HaveTypes, OfType, RowTypes, PrimTypes}
use Rattle.kl_outcome.proofs.OutcomeTypes.{PartsOf, recorded_typed, over_nil}
use Rattle.kl_outcome.proofs.PrimLemmas.{prim_fits, prim_typed, all_canonical, one_or_two}
use Rattle.kl_scans.specs.Running.{Running}
use Rattle.kl_eval.specs.Steps.{AddsField, AnswersPrim, Outside}
use Rattle.kl_eval.specs.declared.stop.EvalStop.{EvalStop}
use Rattle.kl_eval.specs.declared.stop.EvalStop.TheVariants as why
use Rattle.kl_eval.specs.declared.stop.Halt.{Halt}
use Rattle.kl_eval.specs.declared.stop.Halt.TheVariants as halt
use Rattle.kl_plan.specs.declared.plan.Plan.{Plan}
use Rattle.kl_plan.specs.declared.plan.Scan.{Scan}
use Rattle.kl_plan.specs.Holding.{PartsIn, PartsInNodes, PartsInFields, Listing}
use Rattle.kl_plan.specs.Kinds.{kind_of_items}
use Rattle.kl_plan.specs.Meaning.{worth, plan, plan_fields}
use Rattle.kl_plan.specs.Nodes as node
use Rattle.kl_plan.specs.Nodes.{Node, Nodes, no_nodes, nodes, Fields, fields, view, nodes_view, fields_view}
use Rattle.kl_plan.specs.Typing.{PlansOf, FieldTypes}
use Rattle.kl_plan.specs.Prices.{Prices}
use Rattle.kl_scans.specs.Held.{nothing}
use Rattle.kl_scans.specs.Log.{paid}
use Rattle.kl_scans.specs.Moves.{Moves}
use Rattle.kl_scans.specs.Stage.{stage, ScanOf, MemoOf}
use Rattle.kl_scans.proofs.Moving.{moves_none, moves_then, stage_stays, ready_stays, paid_then}
use Rattle.kl_cursor.specs.Gathering.{Gathered, IsTally, TellsItems}
use Rattle.kl_cursor.specs.Left.{fresh, reading, cost_fields}
use Rattle.kl_cursor.specs.Sense.{IsToldAt, HasWorth, HasFields, HasCall, Stands}
use Rattle.kl_cursor.specs.Steps.{AreOf, ComesTo, Fails, StoppedAt, Wholly, Partly, Tallies, FieldsHave, FieldsGive, CallTypes, CallComes, CallGives}
use Rattle.kl_cursor.proofs.Events.{of_then}
use Rattle.kl_cursor.proofs.Forms.{told_on}
use Rattle.kl_cursor.proofs.Tallied.{tells_kind, worth_stands, tallied}
use Rattle.kl_cursor.proofs.Comings.{fails_then, at_stage, worth_back, cost_back}
use Rattle.kl_cursor.proofs.Refusals.{refused_then}

-- ---- the fields of a record

fields_stage : (a b : Running) (G : List Ground) (ps : Fields) (r : Row) → Moves nothing nothing a b → FieldTypes (ScanOf (stage a)) (MemoOf (stage a)) G ps r → FieldTypes (ScanOf (stage b)) (MemoOf (stage b)) G ps r
fields_stage a b G ps r m h = subst (λ t. FieldTypes (ScanOf t) (MemoOf t) G ps r) (sym (stage_stays nothing nothing a b m)) h

-- what is left of the fields, where some have their values
pub record OnFields (whole rest : Fields) (env : List Value) (now : List (Name × Value)) (a b : Running) : Type 0 where
  pub moves : Moves nothing nothing a b
  pub known : (all : Listing) → PartsInFields all whole → AreOf all moves.events × PartsInFields all rest
  pub sense : HasFields b rest env
  pub typing : (G : List Ground) (r : Row) → HaveTypes G env → FieldTypes (ScanOf (stage a)) (MemoOf (stage a)) G whole r
      → (q : Row) × FieldTypes (ScanOf (stage a)) (MemoOf (stage a)) G rest q × ((fs : List (Name × Value)) → FieldsHave fs q → FieldsHave (now ++ fs) r)
  pub comes : (G : List Ground) (r : Row) → HaveTypes G env → FieldTypes (ScanOf (stage a)) (MemoOf (stage a)) G whole r → IsToldAt a
      → (go : List (Name × Value) → Outcome) → parts_then (plan_fields (reading a) whole env) go ≡ parts_then (plan_fields (reading a) rest env) (λ fs. go (now ++ fs))
  pub counts : (G : List Ground) (r : Row) → HaveTypes G env → FieldTypes (ScanOf (stage a)) (MemoOf (stage a)) G whole r → IsToldAt a
      → (P : Prices) → paid (stage a) P moves.events + cost_fields (stage a) P rest env ≡ cost_fields (stage a) P whole env

-- there was no room for them
pub fields_full : (env : List Value) (ps : Fields) (a : Running) → FieldsGive env ps (Err why.NoMemory) a a
fields_full env ps a = record { moves = moves_none nothing a; known = λ all i. tt; reason = tt }

pub fields_starts : (ps : Fields) (env : List Value) (none : List (Name × Value)) (a : Running) → none ≡ [] → HasFields a ps env → OnFields ps ps env none a a
fields_starts ps env none a e s = subst (λ q. OnFields ps ps env q a a) (sym e) (record {
  moves = moves_none nothing a;
  known = λ all h. (tt, h);
  sense = s;
  typing = λ G r h t. (r, t, λ fs f. f);
  comes = λ G r h t told go. refl;
  counts = λ G r h t told P. omega arith;
})

have_more : (l : Name) (v : Value) (u : Ground) (fs : List (Name × Value)) (q : Row) → Inhabits u v → FieldsHave fs q → FieldsHave ((l, v) ∷ fs) (row l u q)
have_more l v u fs q i h = (u, q, refl, i, h)

pub drop_all : {X : Type 0} (xs : List X) (i : ℕ) → length xs ≤ i → drop i xs ≡ []
drop_all xs i le = grind (arith, common_steps)

module _ (ps : List (Name × Plan)) (i : ℕ) (p : Name × Plan) (whole : Fields) (env : List Value) (now : List (Name × Value)) (a b : Running) (lt : i < length ps) (is : p ≡ get_or ps i p) (inv : OnFields whole (fields_view (drop i ps)) env now a b) where
  abbrev Rest : Fields
  Rest = fields_view (drop (i + 1) ps)

  at_field : OnFields whole (fields p.0 (view p.1) Rest) env now a b
  at_field = subst (λ q. OnFields whole q env now a b) (at_drop_more fields_view ps i p lt ∙ ap (λ q. fields q.0 (view q.1) Rest) (sym is)) inv

  pub fields_sense : HasWorth b (view p.1) env
  fields_sense = let s = at_field.sense in (s.0, s.3.0, s.2, s.3.3, s.4)

  pub fields_goes : (v : Value) (now' : List (Name × Value)) (c : Running) → ComesTo env (view p.1) (done v) b c → AddsField p.0 v (Ok tt) now now' → OnFields whole Rest env now' a c
  fields_goes v now' c h e =
      let k = at_field in
      record {
        moves = moves_then nothing nothing nothing a b c k.moves h.moves;
        known = λ all i. let x = k.known all i in (of_then all k.moves.events h.moves.events x.0 (h.known all x.1.0), x.1.1);
        sense = (k.sense.0, k.sense.3.1, k.sense.2, fields_stage b c k.sense.0 Rest k.sense.3.1 h.moves k.sense.3.4, ready_stays nothing nothing b c h.moves k.sense.4);
        typing = λ G r t y.
            let x = k.typing G r t y in
            let z = x.1 in
            let i = h.typed G z.0 t (at_stage a b G (view p.1) z.0 k.moves z.3) in (
              z.1,
              z.4,
              λ fs f. subst (λ q. FieldsHave q r) (sym (ap (λ q. q ++ fs) e ∙ append_assoc now ((p.0, v) ∷ []) fs))
                  (x.2 ((p.0, v) ∷ fs) (subst (FieldsHave ((p.0, v) ∷ fs)) (sym z.2) (have_more p.0 v z.0 fs z.1 i f))),
            );
        comes = λ G r t y told go.
            let x = k.typing G r t y in
            let z = x.1 in
            let f = worth_back a b (view p.1) env (done v) k.moves (h.comes G z.0 t (at_stage a b G (view p.1) z.0 k.moves z.3) (told_on nothing nothing a b k.moves told)) in
            k.comes G r t y told go
            ∙ ap (λ o. after o (λ u. parts_then (plan_fields (reading a) Rest env) (λ fs. go (now ++ (p.0, u) ∷ fs)))) f
            ∙ ap (parts_then (plan_fields (reading a) Rest env)) (fun_ext (λ fs. ap go (sym (ap (λ q. q ++ fs) e ∙ append_assoc now ((p.0, v) ∷ []) fs))));
        counts = λ G r t y told P.
            let x = k.typing G r t y in
            let z = x.1 in
            let c' = h.counts G z.0 t (at_stage a b G (view p.1) z.0 k.moves z.3) (told_on nothing nothing a b k.moves told) tt P ∙ cost_back a b P (view p.1) env k.moves in
            let paid_there : paid (stage b) P h.moves.events ≡ paid (stage a) P h.moves.events = ap (λ t. paid t P h.moves.events) (stage_stays nothing nothing a b k.moves) in
            let d = k.counts G r t y told P in
            omega (arith, paid_then (stage a) P k.moves.events h.moves.events, paid_there, c', d);
      }

  pub fields_lost : (v : Value) (now' : List (Name × Value)) (e : EvalStop) (c : Running) → ComesTo env (view p.1) (done v) b c → AddsField p.0 v (Err e) now now' → FieldsGive env whole (Err e) a c
  fields_lost v now' why.Overflow c h add = absurd add
  fields_lost v now' (why.Driver l e) c h add = absurd add
  fields_lost v now' why.NoMemory c h add =
      let k = at_field in
      record {
        moves = moves_then nothing nothing nothing a b c k.moves h.moves;
        known = λ all i. let x = k.known all i in of_then all k.moves.events h.moves.events x.0 (h.known all x.1.0);
        reason = tt;
      }

  field_fails : (reason back : Type 0) (c : Running) → Fails (λ all. PartsIn all (view p.1)) reason b c → (reason → back) → Fails (λ all. PartsInFields all whole) back a c
  field_fails reason back c h f =
      let k = at_field in
      record {
        moves = moves_then nothing nothing nothing a b c k.moves h.moves;
        known = λ all i. let x = k.known all i in of_then all k.moves.events h.moves.events x.0 (h.known all x.1.0);
        reason = f h.reason;
      }

  pub fields_stops : (e : EvalStop) (c : Running) → Partly env (view p.1) (Err e) b c → FieldsGive env whole (Err e) a c
  fields_stops why.Overflow c g =
      let k = at_field in
      let h = g.1 in
      record {
        moves = moves_then nothing nothing nothing a b c k.moves h.moves;
        known = λ all i. let x = k.known all i in of_then all k.moves.events h.moves.events x.0 (h.known all x.1.0);
        comes = λ G r t y told go.
            let x = k.typing G r t y in
            let z = x.1 in
            let f = worth_back a b (view p.1) env (over g.0) k.moves (h.comes G z.0 t (at_stage a b G (view p.1) z.0 k.moves z.3) (told_on nothing nothing a b k.moves told)) in
            k.comes G r t y told go ∙ ap (λ o. after o (λ u. parts_then (plan_fields (reading a) Rest env) (λ fs. go (now ++ (p.0, u) ∷ fs)))) f;
        counts = λ G r t y told well P. absurd well;
        typed = λ G r t y. tt;
      }
  fields_stops (why.Driver l e) c h = field_fails (StoppedAt (λ all. PartsIn all (view p.1)) l e b c) (StoppedAt (λ all. PartsInFields all whole) l e a c) c h
      (refused_then (λ all. PartsInFields all whole) (λ all. PartsIn all (view p.1)) l e nothing nothing a b c (λ all i. ((at_field).known all i).1.0) (at_field).moves)
  fields_stops why.NoMemory c h = field_fails ⊤ ⊤ c h (λ i. i)

pub fields_ends : (ps : List (Name × Plan)) (i : ℕ) (whole : Fields) (env : List Value) (fs : Vec (Name × Value) Global) (a b : Running) → length ps ≤ i → OnFields whole (fields_view (drop i ps)) env fs.items a b → FieldsGive env whole (Ok fs) a b
fields_ends ps i whole env fs a b le inv =
    let k = subst (λ q. OnFields whole (fields_view q) env fs.items a b) (drop_all ps i le) inv in
    record {
      moves = k.moves;
      known = λ all i. (k.known all i).0;
      comes = λ G r t y told go. k.comes G r t y told go ∙ ap go (append-nil fs.items);
      counts = λ G r t y told well P. let c = k.counts G r t y told P in omega (arith, c);
      typed = λ G r t y. let x = k.typing G r t y in subst (λ q. FieldsHave q r) (append-nil fs.items) (x.2 [] x.1);
    }

-- ---- a record of its fields

pub rec_sense : (env : List Value) (ps : Fields) (w : Running) → HasWorth w (node.Rec ps) env → HasFields w ps env
rec_sense env ps w h = (h.0, h.3.0, h.2, h.3.3, h.4)

abbrev all_done : List (Name × Value) → List (Name × Outcome)
all_done fs = map (λ f. (f.0, done f.1)) fs

then_done : (fs : List (Name × Value)) (go : List (Name × Value) → Outcome) → parts_then (all_done fs) go ≡ go fs
then_done [] go = refl
then_done (f ∷ fs) go = then_done fs (λ gs. go (f ∷ gs))

parts_have : (fs : List (Name × Value)) (r : Row) → FieldsHave fs r → PartsOf (all_done fs) r
parts_have [] r h = h
parts_have (f ∷ fs) r h = (h.0, h.1, h.2, h.3, parts_have fs h.1 h.4)

have_labels : (fs : List (Name × Value)) (r : Row) → FieldsHave fs r → labels_of (all_done fs) ≡ labels_in r
have_labels [] r h = ap labels_in (sym h)
have_labels (f ∷ fs) r h = ap (λ ls. f.0 ∷ ls) (have_labels fs h.1 h.4) ∙ ap labels_in (sym h.2)

rec_have : (fs : List (Name × Value)) (r : Row) → FieldsHave fs r → IsStrictlySortedBy bytes_cmp (labels_in r) → OfType (rec_type r) (done (value.Rec fs))
rec_have fs r h up =
    subst (OfType (rec_type r)) (then_done fs (λ gs. done (value.Rec gs))) (recorded_typed (all_done fs) r (parts_have fs r h) (subst (IsStrictlySortedBy bytes_cmp) (sym (have_labels fs r h)) up))

pub rec_whole : (env : List Value) (ps : Fields) (fs : Vec (Name × Value) Global) (gs : List (Name × Value)) (w x : Running) → gs ≡ fs.items → FieldsGive env ps (Ok fs) w x → Wholly env (node.Rec ps) (Ok (value.Rec gs)) w x
rec_whole env ps fs gs w x e h = subst (λ q. ComesTo env (node.Rec ps) (done (value.Rec q)) w x) (sym e) made
  where
    made : ComesTo env (node.Rec ps) (done (value.Rec fs.items)) w x
    made = record {
      moves = h.moves;
      known = h.known;
      comes = λ G s t y told. h.comes G y.0 t y.3 told (λ ks. done (value.Rec ks));
      counts = λ G s t y told well P. h.counts G y.0 t y.3 told tt P;
      typed = λ G s t y. subst (λ q. OfType q (done (value.Rec fs.items))) (sym y.1) (rec_have fs.items y.0 (h.typed G y.0 t y.3) y.2);
    }

pub rec_stop : (env : List Value) (ps : Fields) (e : EvalStop) (h : Halt) (w x : Running) → FieldsGive env ps (Err e) w x → Outside e h → Wholly env (node.Rec ps) (Err h) w x
rec_stop env ps why.Overflow (halt.Over ws) w x k o = subst (λ q. ComesTo env (node.Rec ps) (over q) w x) (sym o) (record {
  moves = k.moves;
  known = k.known;
  comes = λ G s t y told. k.comes G y.0 t y.3 told (λ ks. done (value.Rec ks));
  counts = λ G s t y told well P. absurd well;
  typed = λ G s t y. over_nil s;
})
rec_stop env ps why.Overflow (halt.Driver l f) w x k o = absurd o
rec_stop env ps why.Overflow halt.NoMemory w x k o = absurd o
rec_stop env ps (why.Driver l f) h w x k o = subst (λ q. Wholly env (node.Rec ps) (Err q) w x) (sym o) k
rec_stop env ps why.NoMemory (halt.Over ws) w x k o = absurd o
rec_stop env ps why.NoMemory (halt.Driver l f) w x k o = absurd o
rec_stop env ps why.NoMemory halt.NoMemory w x k o = k

-- ---- a primitive

pub prim_sense : (env : List Value) (c : ℕ) (ps : Nodes) (w : Running) → HasWorth w (node.Prim c ps) env → HasCall w c ps env
prim_sense env c ps w h = (h.0, h.3.0, h.1, h.2, h.3.1, h.3.2, h.4)

pub prim_whole : (env : List Value) (c : ℕ) (ps : Nodes) (v : Value) (w x : Running) → CallGives env c ps (Ok v) w x → Wholly env (node.Prim c ps) (Ok v) w x
prim_whole env c ps v w x h = record { moves = h.moves; known = h.known; comes = h.comes; counts = h.counts; typed = h.typed }

pub prim_stop : (env : List Value) (c : ℕ) (ps : Nodes) (e : EvalStop) (h : Halt) (w x : Running) → CallGives env c ps (Err e) w x → Outside e h → Wholly env (node.Prim c ps) (Err h) w x
prim_stop env c ps why.Overflow (halt.Over ws) w x k o = subst (λ q. ComesTo env (node.Prim c ps) (over q) w x) (sym o) (record { moves = k.moves; known = k.known; comes = k.comes; counts = k.counts; typed = k.typed })
prim_stop env c ps why.Overflow (halt.Driver l f) w x k o = absurd o
prim_stop env c ps why.Overflow halt.NoMemory w x k o = absurd o
prim_stop env c ps (why.Driver l f) h w x k o = subst (λ q. Wholly env (node.Prim c ps) (Err q) w x) (sym o) k
prim_stop env c ps why.NoMemory (halt.Over ws) w x k o = absurd o
prim_stop env c ps why.NoMemory (halt.Driver l f) w x k o = absurd o
prim_stop env c ps why.NoMemory halt.NoMemory w x k o = k

by_row : (r : Option Primitive) (ss : List Ground) (s : Ground) → RowTypes r ss s → (length ss ≡ 1) ⊎ (length ss ≡ 2)
by_row (Some p) ss s h = one_or_two p.entry.shape ss s h
by_row None ss s h = absurd h

prim_arity : (c : ℕ) (ss : List Ground) (s : Ground) → PrimTypes c ss s → (length ss ≡ 1) ⊎ (length ss ≡ 2)
unfolding PrimTypes
prim_arity c ss s h = by_row (row_at c) ss s h

as_many : (Of : Scan → Ground → Type 0) (Listed : ℕ → List ℕ → Node → Type 0) (G : List Ground) (ps : List Plan) (ss : List Ground) → PlansOf Of Listed G (nodes_view ps) ss → length ss ≡ length ps
as_many Of Listed G [] ss h = ap length h
as_many Of Listed G (p ∷ ps) ss h = ap length h.2 ∙ ap suc (as_many Of Listed G ps h.1 h.4)

pub call_arity : (c : ℕ) (ps : List Plan) (env : List Value) (a : Running) → HasCall a c (nodes_view ps) env → (length ps ≡ 1 → ⊥) → (length ps ≡ 2 → ⊥) → ⊥
call_arity c ps env a s no_one no_two =
    let same = as_many (ScanOf (stage a)) (MemoOf (stage a)) s.0 ps s.1 s.4 in
    ⊎_elim (λ e. no_one (sym same ∙ e)) (λ e. no_two (sym same ∙ e)) (prim_arity c s.1 s.2 s.5)

alone : (ps : List Plan) (p : Plan) → length ps ≡ 1 → p ≡ get_or ps 0 p → ps ≡ p ∷ []
alone [] p e g = cc
alone (q ∷ []) p e g = let same : q ≡ p = sym g in ap (λ z. z ∷ []) same
alone (q ∷ r ∷ ps) p e g = absurd (omega (arith, e))

pair : (ps : List Plan) (p q : Plan) → length ps ≡ 2 → p ≡ get_or ps 0 p → q ≡ get_or ps 1 q → ps ≡ p ∷ q ∷ []
pair [] p q e g h = cc
pair (u ∷ []) p q e g h = absurd (omega (arith, e))
pair (u ∷ v ∷ []) p q e g h = let first : u ≡ p = sym g in let second : v ≡ q = sym h in cc
pair (u ∷ v ∷ w ∷ ps) p q e g h = absurd (omega (arith, e))

types_canonical : (ss : List Ground) (vs : List Value) → HaveTypes ss vs → All IsCanonical vs
types_canonical ss vs h = All-from_recursion IsCanonical vs (all_canonical ss vs h)

-- what a primitive answers is what a call gives
call_answers : (env : List Value) (c : ℕ) (ps : Nodes) (m : Answer) (r : Result Value EvalStop) (w x : Running) → ((o : Outcome) → answered m ≡ o → CallComes env c ps o w x) → AnswersPrim m r
    → ((m : Moves nothing nothing w x) × ((all : Listing) → PartsInNodes all ps → AreOf all m.events)) → CallGives env c ps r w x
call_answers env c ps m (Ok v) w x f k n = f (done v) (ap answered k)
call_answers env c ps m (Err why.Overflow) w x f k n = f (over []) (ap answered k)
call_answers env c ps m (Err (why.Driver l e)) w x f k n = absurd k
call_answers env c ps m (Err why.NoMemory) w x f k n = record { moves = n.0; known = n.1; reason = tt }

call_fails : (env : List Value) (c : ℕ) (ps : Nodes) (e : EvalStop) (w x y : Running) (Has Hold : Listing → Type 0) → (m : Moves nothing nothing w x) → ((all : Listing) → Has all → AreOf all m.events)
    → (p : Node) → Partly env p (Err e) x y → ((all : Listing) → PartsInNodes all ps → Has all × PartsIn all p)
    → ((vs : List Value) → ComesTo env p (over vs) x y → CallComes env c ps (over []) w y) → CallGives env c ps (Err e) w y
call_fails env c ps why.Overflow w x y Has Hold m known p h scans f = f h.0 h.1
call_fails env c ps (why.Driver l e) w x y Has Hold m known p h scans f =
    fails_then (λ all. PartsInNodes all ps) Has (λ all. PartsIn all p) (StoppedAt (λ all. PartsIn all p) l e x y) (StoppedAt (λ all. PartsInNodes all ps) l e w y) w x y m known h scans
    (refused_then (λ all. PartsInNodes all ps) (λ all. PartsIn all p) l e nothing nothing w x y (λ all i. (scans all i).1) m)
call_fails env c ps why.NoMemory w x y Has Hold m known p h scans f = fails_then (λ all. PartsInNodes all ps) Has (λ all. PartsIn all p) ⊤ ⊤ w x y m known h scans (λ i. i)

-- the plans of the arguments, by their places
pub one_plan : (ps : List Plan) (p : Plan) → length ps ≡ 1 → p ≡ get_or ps 0 p → nodes_view ps ≡ nodes (view p) no_nodes
one_plan ps p n is = ap nodes_view (alone ps p n is)

pub two_plans : (ps : List Plan) (p q : Plan) → length ps ≡ 2 → p ≡ get_or ps 0 p → q ≡ get_or ps 1 q → nodes_view ps ≡ nodes (view p) (nodes (view q) no_nodes)
two_plans ps p q n is js = ap nodes_view (pair ps p q n is js)

pub call_sense : (c : ℕ) (ps qs : Nodes) (env : List Value) (a : Running) → ps ≡ qs → HasCall a c ps env → HasCall a c qs env
call_sense c ps qs env a e h = subst (λ z. HasCall a c z env) e h

pub call_as : (c : ℕ) (ps qs : Nodes) (env : List Value) (r : Result Value EvalStop) (a b : Running) → ps ≡ qs → CallGives env c qs r a b → CallGives env c ps r a b
call_as c ps qs env r a b e h = subst (λ z. CallGives env c z r a b) (sym e) h

-- one argument
module _ (c : ℕ) (p : Node) (env : List Value) (a : Running) where
  abbrev Only : Nodes
  Only = nodes p no_nodes

  pub sense_only : HasCall a c Only env → HasWorth a p env
  sense_only s = (s.0, s.4.0, s.3, s.4.3, s.6)

  only_types : (G : List Ground) (s : Ground) (v : Value) → (t : CallTypes a G c Only s) → Inhabits t.1.0 v → HaveTypes t.0 (v ∷ [])
  only_types G s v t i = subst (λ q. HaveTypes q (v ∷ [])) (sym (t.1.2 ∙ ap (λ q. t.1.0 ∷ q) t.1.4)) (i, tt)

  pub fits_only : (v : Value) (b : Running) → HasCall a c Only env → ComesTo env p (done v) a b → Fits c (v ∷ []) × All IsCanonical (v ∷ [])
  fits_only v b s h =
      let t : CallTypes a s.0 c Only s.2 = (s.1, s.4, s.5) in
      let have = only_types s.0 s.2 v t (h.typed s.0 t.1.0 s.3 t.1.3) in
      (prim_fits c t.0 s.2 (v ∷ []) t.2 have, types_canonical t.0 (v ∷ []) have)

  pub call_only : (v : Value) (r : Result Value EvalStop) (b : Running) → ComesTo env p (done v) a b → AnswersPrim (meaning c (v ∷ [])) r → CallGives env c Only r a b
  call_only v r b h m = call_answers env c Only (meaning c (v ∷ [])) r a b gives m (h.moves, λ all i. h.known all i.0)
    where
      gives : (o : Outcome) → answered (meaning c (v ∷ [])) ≡ o → CallComes env c Only o a b
      gives o e = record {
        moves = h.moves;
        known = λ all i. h.known all i.0;
        comes = λ G s t y told. ap (λ z. after z (λ u. answered (meaning c (u ∷ [])))) (h.comes G y.1.0 t y.1.3 told) ∙ e;
        counts = λ G s t y told well P. let k = h.counts G y.1.0 t y.1.3 told tt P in omega (arith, k);
        typed = λ G s t y. subst (OfType s) e (prim_typed c y.0 s (v ∷ []) y.2 (only_types G s v y (h.typed G y.1.0 t y.1.3)));
      }

  pub call_only_stop : (e : EvalStop) (b : Running) → Partly env p (Err e) a b → CallGives env c Only (Err e) a b
  call_only_stop e b h =
      call_fails env c Only e a a b (λ all. ⊤) (λ all. PartsIn all p) (moves_none nothing a) (λ all i. tt) p h (λ all i. (tt, i.0)) gives
    where
      gives : (vs : List Value) → ComesTo env p (over vs) a b → CallComes env c Only (over []) a b
      gives vs k = record {
        moves = k.moves;
        known = λ all i. k.known all i.0;
        comes = λ G s t y told. ap (λ z. after z (λ u. answered (meaning c (u ∷ [])))) (k.comes G y.1.0 t y.1.3 told);
        counts = λ G s t y told well P. absurd well;
        typed = λ G s t y. over_nil s;
      }

  -- of which the items are tallied
  module _ (g : Gathered) (tells : TellsItems c [] (kind_of_items p) g) where
    pub tally_ready : HasCall a c Only env → IsTally g × Stands a (fresh p) env
    tally_ready s = let k = tells_kind c [] (kind_of_items p) g tells in (k.2.0, worth_stands env p k.0 a k.1 (sense_only s))

    pub call_tally : (r : Result Value EvalStop) (b : Running) → HasCall a c Only env → Tallies env (fresh p) g r a b → CallGives env c Only r a b
    call_tally r b s h =
        let k = tells_kind c [] (kind_of_items p) g tells in
        tallied env p k.0 a k.1 b (CallGives env c Only r a b) g r h
        (λ vs t m. call_only (canonical k.0 vs) r b t (subst (λ z. AnswersPrim z r) (sym (k.2.1 vs (fits_only (canonical k.0 vs) b s t).0)) m))
        (λ e is t. subst (λ z. CallGives env c Only z a b) (sym is) (call_only_stop e b t))

-- two arguments
module _ (c : ℕ) (p q : Node) (env : List Value) (a : Running) where
  abbrev Two : Nodes
  Two = nodes p (nodes q no_nodes)

  pub sense_former : HasCall a c Two env → HasWorth a p env
  sense_former s = (s.0, s.4.0, s.3, s.4.3, s.6)

  pub sense_latter : (v : Value) (b : Running) → HasCall a c Two env → ComesTo env p (done v) a b → HasWorth b q env
  sense_latter v b s h =
      (s.0, s.4.4.0, s.3, at_stage a b s.0 q s.4.4.0 h.moves s.4.4.3, ready_stays nothing nothing a b h.moves s.6)

  two_types : (G : List Ground) (s : Ground) (v u : Value) → (t : CallTypes a G c Two s) → Inhabits t.1.0 v → Inhabits t.1.4.0 u → HaveTypes t.0 (v ∷ u ∷ [])
  two_types G s v u t i j = subst (λ y. HaveTypes y (v ∷ u ∷ [])) (sym (t.1.2 ∙ ap (λ y. t.1.0 ∷ y) (t.1.4.2 ∙ ap (λ y. t.1.4.0 ∷ y) t.1.4.4))) (i, (j, tt))

  pub fits_both : (v u : Value) (b d : Running) → HasCall a c Two env → ComesTo env p (done v) a b → ComesTo env q (done u) b d → Fits c (v ∷ u ∷ []) × All IsCanonical (v ∷ u ∷ [])
  fits_both v u b d s h k =
      let t : CallTypes a s.0 c Two s.2 = (s.1, s.4, s.5) in
      let have = two_types s.0 s.2 v u t (h.typed s.0 t.1.0 s.3 t.1.3) (k.typed s.0 t.1.4.0 s.3 (at_stage a b s.0 q t.1.4.0 h.moves t.1.4.3)) in
      (prim_fits c t.0 s.2 (v ∷ u ∷ []) t.2 have, types_canonical t.0 (v ∷ u ∷ []) have)

  pub call_both : (v u : Value) (r : Result Value EvalStop) (b d : Running) → ComesTo env p (done v) a b → ComesTo env q (done u) b d → AnswersPrim (meaning c (v ∷ u ∷ [])) r → CallGives env c Two r a d
  call_both v u r b d h k m =
      call_answers env c Two (meaning c (v ∷ u ∷ [])) r a d gives m (moves_then nothing nothing nothing a b d h.moves k.moves, λ all i. of_then all h.moves.events k.moves.events (h.known all i.0) (k.known all i.1.0))
    where
      gives : (o : Outcome) → answered (meaning c (v ∷ u ∷ [])) ≡ o → CallComes env c Two o a d
      gives o e = record {
        moves = moves_then nothing nothing nothing a b d h.moves k.moves;
        known = λ all i. of_then all h.moves.events k.moves.events (h.known all i.0) (k.known all i.1.0);
        comes = λ G s t y told.
            let z = y.1.4 in
            let f = h.comes G y.1.0 t y.1.3 told in
            let g = worth_back a b q env (done u) h.moves (k.comes G z.0 t (at_stage a b G q z.0 h.moves z.3) (told_on nothing nothing a b h.moves told)) in
            ap (λ o. after o (λ x. after (worth (plan (reading a) q env)) (λ y. answered (meaning c (x ∷ y ∷ []))))) f
            ∙ ap (λ o. after o (λ y. answered (meaning c (v ∷ y ∷ [])))) g ∙ e;
        counts = λ G s t y told well P.
            let z = y.1.4 in
            let f = h.counts G y.1.0 t y.1.3 told tt P in
            let g = k.counts G z.0 t (at_stage a b G q z.0 h.moves z.3) (told_on nothing nothing a b h.moves told) tt P ∙ cost_back a b P q env h.moves in
            let paid_there : paid (stage b) P k.moves.events ≡ paid (stage a) P k.moves.events = ap (λ t. paid t P k.moves.events) (stage_stays nothing nothing a b h.moves) in
            omega (arith, paid_then (stage a) P h.moves.events k.moves.events, paid_there, f, g);
        typed = λ G s t y.
            let z = y.1.4 in
            subst (OfType s) e (prim_typed c y.0 s (v ∷ u ∷ []) y.2 (two_types G s v u y (h.typed G y.1.0 t y.1.3) (k.typed G z.0 t (at_stage a b G q z.0 h.moves z.3))));
      }

  pub call_former_stop : (e : EvalStop) (b : Running) → Partly env p (Err e) a b → CallGives env c Two (Err e) a b
  call_former_stop e b h =
      call_fails env c Two e a a b (λ all. ⊤) (λ all. PartsIn all p) (moves_none nothing a) (λ all i. tt) p h (λ all i. (tt, i.0)) gives
    where
      gives : (vs : List Value) → ComesTo env p (over vs) a b → CallComes env c Two (over []) a b
      gives vs k = record {
        moves = k.moves;
        known = λ all i. k.known all i.0;
        comes = λ G s t y told. ap (λ o. after o (λ x. after (worth (plan (reading a) q env)) (λ y. answered (meaning c (x ∷ y ∷ []))))) (k.comes G y.1.0 t y.1.3 told);
        counts = λ G s t y told well P. absurd well;
        typed = λ G s t y. over_nil s;
      }

  pub call_latter_stop : (v : Value) (e : EvalStop) (b d : Running) → ComesTo env p (done v) a b → Partly env q (Err e) b d → CallGives env c Two (Err e) a d
  call_latter_stop v e b d h k =
      call_fails env c Two e a b d (λ all. PartsIn all p) (λ all. PartsIn all q) h.moves h.known q k (λ all i. (i.0, i.1.0)) gives
    where
      gives : (vs : List Value) → ComesTo env q (over vs) b d → CallComes env c Two (over []) a d
      gives vs g = record {
        moves = moves_then nothing nothing nothing a b d h.moves g.moves;
        known = λ all i. of_then all h.moves.events g.moves.events (h.known all i.0) (g.known all i.1.0);
        comes = λ G s t y told.
            let z = y.1.4 in
            let f = h.comes G y.1.0 t y.1.3 told in
            let w = worth_back a b q env (over vs) h.moves (g.comes G z.0 t (at_stage a b G q z.0 h.moves z.3) (told_on nothing nothing a b h.moves told)) in
            ap (λ o. after o (λ x. after (worth (plan (reading a) q env)) (λ y. answered (meaning c (x ∷ y ∷ []))))) f
            ∙ ap (λ o. after o (λ y. answered (meaning c (v ∷ y ∷ [])))) w;
        counts = λ G s t y told well P. absurd well;
        typed = λ G s t y. over_nil s;
      }

  -- of which the second one's items are tallied
  module _ (v v' : Value) (b : Running) (first : ComesTo env p (done v) a b) (is : v' ≡ v) (g : Gathered) (tells : TellsItems c (v' ∷ []) (kind_of_items q) g) where
    there : TellsItems c (v ∷ []) (kind_of_items q) g
    there = subst (λ z. TellsItems c (z ∷ []) (kind_of_items q) g) is tells

    pub second_ready : HasCall a c Two env → IsTally g × Stands b (fresh q) env
    second_ready s = let k = tells_kind c (v ∷ []) (kind_of_items q) g there in (k.2.0, worth_stands env q k.0 b k.1 (sense_latter v b s first))

    pub call_second : (r : Result Value EvalStop) (d : Running) → HasCall a c Two env → Tallies env (fresh q) g r b d → CallGives env c Two r a d
    call_second r d s h =
        let k = tells_kind c (v ∷ []) (kind_of_items q) g there in
        tallied env q k.0 b k.1 d (CallGives env c Two r a d) g r h
        (λ vs t m. call_both v (canonical k.0 vs) r b d first t (subst (λ z. AnswersPrim z r) (sym (k.2.1 vs (fits_both v (canonical k.0 vs) b d s first t).0)) m))
        (λ e e_is t. subst (λ z. CallGives env c Two z a d) (sym e_is) (call_latter_stop v e b d first t))
