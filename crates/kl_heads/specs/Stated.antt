-- What a head states, beside the type that is wanted of the items; and what the bytes that came so far state.
use Rattle.std.specs.Prelude.{ℕ, Bool, true, not, ◌==◌, cond, List, [], ◌∷◌, Option, Some, None}
use Rattle.kl_type.specs.contracts.ground.TyPartialEq.TheImpl as types
use Rattle.kl_type.specs.declared.ground.Ty.{Ty}
use Rattle.kl_exchange.specs.Grammar.{is_blank}
use Rattle.kl_heads.specs.Found.{file_text}

-- no other type than this is stated
abbrev pub states_no_other : Ty → Option Ty → Bool
states_no_other wanted None = true
states_no_other wanted (Some t) = types.ghosts.eq t wanted

-- behind a `t` comes no `y`, where the bytes end or more may come
abbrev pub no_more_of_head : Bool → List ℕ → Bool
no_more_of_head ended [] = ended
no_more_of_head ended (b ∷ bytes) = not (b == 121)

-- behind white space comes no `ty`, so that no head is begun, whatever follows
abbrev pub begins_no_head : Bool → List ℕ → Bool
begins_no_head ended [] = ended
begins_no_head ended (b ∷ bytes) =
    cond (is_blank b) (begins_no_head ended bytes)
    (cond (b == 116) (no_more_of_head ended bytes) true)

abbrev pub stated_or : Option Ty → Bool → Option (Option Ty)
stated_or (Some t) none = Some (Some t)
stated_or None none = cond none (Some None) None

-- What bytes state, where they end or more may come: the type of a head that stands whole in front of them, of which at most `limit`
-- bytes are looked at, or none, where none is begun. Else it is not known yet, or they begin a head and have none.
abbrev pub stated_in : ℕ → Bool → List ℕ → Option (Option Ty)
stated_in limit ended bytes = stated_or (file_text limit bytes).head (begins_no_head ended bytes)
