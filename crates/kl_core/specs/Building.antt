-- What is made of parts that may be wanting.
use Rattle.std.specs.Prelude.{◌≡◌, Result, Ok, Err, IfOk}
use Rattle.kl_base.specs.declared.NoMemory.{NoMemory}

-- of the part, if it is there, what f makes of it; else nothing
abbrev pub Makes : {A B : Type 0} → (A → B) → Result A NoMemory → Result B NoMemory → Type 0
Makes f (Ok a) r = IfOk r (λ b. b ≡ f a)
Makes f (Err e) r = IfOk r (λ b. ⊥)

-- the same of two and of three parts
abbrev pub MakesOfTwo : {A B C : Type 0} → (A → B → C) → Result A NoMemory → Result B NoMemory → Result C NoMemory → Type 0
MakesOfTwo f (Ok a) b r = Makes (f a) b r
MakesOfTwo f (Err e) b r = IfOk r (λ c. ⊥)

abbrev pub MakesOfThree : {A B C D : Type 0} → (A → B → C → D) → Result A NoMemory → Result B NoMemory → Result C NoMemory
    → Result D NoMemory → Type 0
MakesOfThree f (Ok a) b c r = MakesOfTwo (f a) b c r
MakesOfThree f (Err e) b c r = IfOk r (λ d. ⊥)
