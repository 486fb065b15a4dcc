-- The program over made rows, and its catalogue.
use Rattle.std.specs.Prelude.{ℕ, List, ◌++◌, codes, decimal}

-- the entry of a made source
abbrev pub source_text : List ℕ → ℕ → ℕ → List ℕ
source_text name seed size =
    codes "source " ++ name ++ codes " : {|[grp: int, id: int, name: string]|} = made \"" ++ decimal seed
    ++ codes " " ++ decimal size ++ codes "\";\n"

abbrev pub catalogue_text : ℕ → ℕ → List ℕ
catalogue_text seed size = source_text (codes "g") seed size ++ source_text (codes "h") seed 100

abbrev pub program_text : List ℕ
program_text =
    codes "define big == {|[id=x.id, name=y.name] | \\x <- g, \\y <- h, x.grp = y.id|};\n"
    ++ codes "[groups=count({x.grp | \\x <- g}), join=count(big), rows=count(g), total=sum({|x.grp | \\x <- g|})];\n"
