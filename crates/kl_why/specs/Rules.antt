-- The status of each thing that can be wrong, and the rule that tells of it.
use Rattle.std.specs.Prelude.{ℕ, List, [], ◌++◌, codes}
use Rattle.kl_why.specs.declared.wrong.Wrong.{Wrong}
use Rattle.kl_why.specs.declared.wrong.Wrong.TheVariants as wrong

-- that of `kleisli`
abbrev pub wrong_status : Wrong → ℕ
wrong_status wrong.NoToken = 2
wrong_status wrong.Syntax = 2
wrong_status wrong.Nesting = 10
wrong_status (wrong.Unknown name) = 2
wrong_status (wrong.Twice name) = 2
wrong_status (wrong.Misapplied name) = 2
wrong_status wrong.Refutable = 2
wrong_status wrong.TermNodes = 10
wrong_status wrong.TermDepth = 10
wrong_status wrong.NoTyping = 3
wrong_status wrong.NoCatalogue = 4
wrong_status (wrong.NameTwice name) = 4
wrong_status (wrong.NoDriver name) = 4
wrong_status (wrong.Unsuited name) = 4

-- what stands before the name
abbrev pub front_of : Wrong → List ℕ
front_of wrong.NoToken = codes "no token starts here: tokens are words, digits up to 9223372036854775808, texts in double quotes, and symbols"
front_of wrong.Syntax = codes "no program goes on so: up to here it is the front of one"
front_of wrong.Nesting = codes "this nests too deep: it stands inside 256 others"
front_of (wrong.Unknown name) = codes "nothing has the name "
front_of (wrong.Twice name) = codes "the name "
front_of (wrong.Misapplied name) = codes "the name "
front_of wrong.Refutable = codes "this pattern may not fit, and has to: a constant, a bare name or a variant stands in generators alone"
front_of wrong.TermNodes = codes "this declaration is too large: with each name written out it has more than 4,096 parts"
front_of wrong.TermDepth = codes "this declaration is too deep: with each name written out it nests deeper than 512"
front_of wrong.NoTyping = codes "this declaration has no type: whatever type each part of it is given, two of them do not go together"
front_of wrong.NoCatalogue = codes "no catalogue goes on so: an entry is source NAME : TYPE = DRIVER \"LOCATOR\";"
front_of (wrong.NameTwice name) = codes "the name "
front_of (wrong.NoDriver name) = codes "there is no driver "
front_of (wrong.Unsuited name) = codes "the type of "

-- the name that is told, if one is
abbrev pub name_in : Wrong → List ℕ
name_in (wrong.Unknown name) = name
name_in (wrong.Twice name) = name
name_in (wrong.Misapplied name) = name
name_in (wrong.NameTwice name) = name
name_in (wrong.NoDriver name) = name
name_in (wrong.Unsuited name) = name
name_in w = []

-- what stands behind the name
abbrev pub back_of : Wrong → List ℕ
back_of (wrong.Unknown name) = codes " here: it is no variable, no definition before, no source and, in a call, no primitive"
back_of (wrong.Twice name) = codes " stands here a second time: a pattern binds it once, a record or a case has the label once, and no definition has the name of another, of a source or of a primitive"
back_of (wrong.Misapplied name) = codes " is not used so: a function takes one argument, a primitive as many as it has, and no other name takes any"
back_of (wrong.NameTwice name) = codes " is taken: an entry before it has it, or a primitive"
back_of (wrong.NoDriver name) = codes ": the drivers are flat, nested, sql and made"
back_of (wrong.Unsuited name) = codes " does not suit its driver: that of a table is a collection of records of bool, int and string, and that of nested a collection"
back_of w = []

-- the rule in a sentence
abbrev pub rule_of : Wrong → List ℕ
rule_of w = front_of w ++ name_in w ++ back_of w
