-- What a program with function parameters means: as without them, under a list of what stands for each of them.
use Rattle.std.specs.Prelude.{ℕ, suc, zero, List, [], ◌∷◌, cond, Option, Some, None, is_some}
use Rattle.kl_base.specs.Fields.{field}
use Rattle.kl_value.specs.declared.Value.{Value}
use Rattle.kl_outcome.specs.Outcome.{Outcome, done, stuck, Flow, stop, fine, Name, after, if_then, applied, recorded, tagged}
use Rattle.kl_outcome.specs.Outcome.{cases, items_of, item_then, drawn, collected}
use Rattle.kl_syntax.specs.declared.tree.Tail.TheVariants as tail
use Rattle.kl_syntax.specs.Syntax.{shape, Exp, Const, name, Call, Rec, More, Inj, Coll, Comp, If, Let, Case, Path, Not, Neg}
use Rattle.kl_syntax.specs.Syntax.{Chain, Exps, no_exps, exps, Flds, no_flds, flds, Quals, no_quals, draw, test, Branches}
use Rattle.kl_syntax.specs.Syntax.{no_branches, otherwise, branch, Steps, no_steps, step}
use Rattle.kl_meaning.specs.Match.{Env, fits, if_fits, must_fit, same_name}
use Rattle.kl_meaning.specs.Run.{KnownOutcomes, look_up, called, operated, in_order, parts_of, draw_if}
use Rattle.kl_ho.specs.Highers.{Higher, Highers, Funs, head, given_by, literal}

-- what the body of a definition with function fields comes to, under what stands for them and what its other fields bind
abbrev pub Deeper : Type 0
Deeper = Higher → Funs → Env → Outcome

abbrev pub call_of : Option Higher → Outcome → (Higher → Outcome) → Outcome
call_of None o go = o
call_of (Some h) o go = go h

abbrev pub given_then : Option Funs → (Funs → Outcome) → Outcome
given_then (Some given) go = go given
given_then None go = stuck

-- an expression, where calls with function fields come to what `deeper` says
module _ (deeper : Deeper) (highers : Highers) (funs : Funs) (known : KnownOutcomes) where
  abbrev mutual
    pub over_run : Exp → Env → Outcome
    over_run (Const v) env = done v
    over_run (name x) env = look_up known env x.text
    -- the value fields, and then the body
    over_run (Call f es) env =
        call_of (highers (head funs f.text)) (called (known (head funs f.text)) (over_all es env))
        (λ h. given_then (given_by h.handed (literal es) funs)
        (λ given. after (over_argument es h.handed env)
        (λ v. must_fit (fits (shape h.rest tail.Exact) (look_up known []) v []) (λ inner. deeper h given inner))))
    over_run (Rec fs) env = recorded (in_order (over_fields fs [] env))
    over_run (More fs a) env = applied 27 (recorded (in_order (over_fields fs [] env)) ∷ over_run a env ∷ [])
    over_run (Inj l a) env = tagged l.text (over_run a env)
    over_run (Coll k es) env = collected k (over_items es env)
    over_run (Comp k e qs) env = collected k (over_quals qs (λ inner. item_then (over_run e inner) (stop fine)) env)
    over_run (If a b c) env = if_then (over_run a env) (over_run b env) (over_run c env)
    over_run (Let p a b) env = after (over_run a env) (λ v. must_fit (fits p (look_up known env) v env) (λ inner. over_run b inner))
    over_run (Case a bs) env = cases (over_run a env) (λ l v. over_branches bs l v env)
    over_run (Path a ls) env = parts_of ls (over_run a env)
    over_run (Not a) env = applied 11 (over_run a env ∷ [])
    over_run (Neg a) env = applied 10 (over_run a env ∷ [])
    over_run (Chain a ss) env = over_steps ss (over_run a env) env

    -- the record of the value fields of the one argument
    pub over_argument : Exps → List (Name × Name) → Env → Outcome
    over_argument (exps e no_exps) skips env = over_record e skips env
    over_argument _ skips env = stuck

    pub over_record : Exp → List (Name × Name) → Env → Outcome
    over_record (Rec fs) skips env = recorded (in_order (over_fields fs skips env))
    over_record _ skips env = stuck

    pub over_all : Exps → Env → List Outcome
    over_all no_exps env = []
    over_all (exps e es) env = over_run e env ∷ over_all es env

    pub over_items : Exps → Env → Flow
    over_items no_exps env = stop fine
    over_items (exps e es) env = item_then (over_run e env) (over_items es env)

    -- the fields but those at these labels
    pub over_fields : Flds → List (Name × Name) → Env → List (Name × Outcome)
    over_fields no_flds skips env = []
    over_fields (flds l e fs) skips env =
        cond (is_some (field l.text skips)) (over_fields fs skips env) ((l.text, over_run e env) ∷ over_fields fs skips env)

    pub over_quals : Quals → (Env → Flow) → Env → Flow
    over_quals no_quals go env = go env
    over_quals (draw p s qs) go env =
        drawn (items_of (over_run s env)) (λ v. if_fits (fits p (look_up known env) v env) (λ inner. over_quals qs go inner))
    over_quals (test c qs) go env = draw_if (over_run c env) (over_quals qs go env)

    pub over_branches : Branches → Name → Value → Env → Outcome
    over_branches no_branches l v env = stuck
    over_branches (otherwise c) l v env = over_run c env
    over_branches (branch m p b bs) l v env =
        cond (same_name l m.text) (must_fit (fits p (look_up known env) v env) (λ inner. over_run b inner)) (over_branches bs l v env)

    pub over_steps : Steps → Outcome → Env → Outcome
    over_steps no_steps o env = o
    over_steps (step c e ss) o env = over_steps ss (operated c o (over_run e env)) env

-- calls with function fields that nest at most n deep are run; what deeper ones come to is left open
abbrev pub within : ℕ → Deeper → Highers → KnownOutcomes → Deeper
within zero deeper highers known = deeper
within (suc n) deeper highers known = λ h given inner. over_run (within n deeper highers known) highers given known h.body inner

abbrev pub hrun : ℕ → Deeper → Highers → Funs → KnownOutcomes → Exp → Env → Outcome
hrun n deeper highers funs known e env = over_run (within n deeper highers known) highers funs known e env
