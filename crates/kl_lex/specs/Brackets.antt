-- The symbols around a collection.
use Rattle.kl_lex.specs.declared.token.Sym.{Sym}
use Rattle.kl_lex.specs.declared.token.Sym.TheVariants as sym
use Rattle.kl_value.specs.declared.value.Kind.{Kind}
use Rattle.kl_value.specs.declared.value.Kind.TheVariants as kind

abbrev pub opener : Kind → Sym
opener kind.Set = sym.OpenSet
opener kind.Bag = sym.OpenBag
opener kind.List = sym.OpenList

abbrev pub closer : Kind → Sym
closer kind.Set = sym.CloseSet
closer kind.Bag = sym.CloseBag
closer kind.List = sym.CloseList
