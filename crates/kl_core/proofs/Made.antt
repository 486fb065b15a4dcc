-- What holds of what was made of parts that may be wanting.
use Rattle.std.proofs.Common.{Result, Ok, Err, IfOk, sym, subst}
use Rattle.kl_base.specs.declared.NoMemory.{NoMemory}
use Rattle.kl_core.specs.Building.{Makes, MakesOfTwo, MakesOfThree}

pub made : {A B : Type 0} (f : A → B) (part : Result A NoMemory) (whole : Result B NoMemory) (P : A → Type 0) (Q : B → Type 0)
    → Makes f part whole → IfOk part P → ((x : A) → P x → Q (f x)) → IfOk whole Q
made f (Ok x) (Ok y) P Q m h go = subst Q (sym m) (go x h)
made f (Ok x) (Err e) P Q m h go = tt
made f (Err e) (Ok y) P Q m h go = absurd m
made f (Err e) (Err d) P Q m h go = tt

pub made_of_two : {A B C : Type 0} (f : A → B → C) (first : Result A NoMemory) (second : Result B NoMemory) (whole : Result C NoMemory) (P : A → Type 0) (Q : B → Type 0) (R : C → Type 0)
    → MakesOfTwo f first second whole → IfOk first P → IfOk second Q → ((x : A) (y : B) → P x → Q y → R (f x y)) → IfOk whole R
made_of_two f (Ok x) second whole P Q R m h k go = made (f x) second whole Q R m k (λ y i. go x y h i)
made_of_two f (Err e) second (Ok z) P Q R m h k go = absurd m
made_of_two f (Err e) second (Err d) P Q R m h k go = tt

pub made_of_three : {A B C D : Type 0} (f : A → B → C → D) (first : Result A NoMemory) (second : Result B NoMemory) (third : Result C NoMemory) (whole : Result D NoMemory)
    (P : A → Type 0) (Q : B → Type 0) (R : C → Type 0) (S : D → Type 0)
    → MakesOfThree f first second third whole → IfOk first P → IfOk second Q → IfOk third R → ((x : A) (y : B) (z : C) → P x → Q y → R z → S (f x y z)) → IfOk whole S
made_of_three f (Ok x) second third whole P Q R S m h k l go = made_of_two (f x) second third whole Q R S m k l (λ y z i j. go x y z h i j)
made_of_three f (Err e) second third (Ok w) P Q R S m h k l go = absurd m
made_of_three f (Err e) second third (Err d) P Q R S m h k l go = tt
