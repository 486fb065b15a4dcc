-- Which rules may fit a term of a form: those from one number up to another, which is left out. No public contract cites this.
use Rattle.std.specs.Prelude.{ℕ}
use Rattle.kl_core.specs.Trees.{Tree, Var, Const, Source, Rec, Proj, Inj, Case, Make, Union, Ext, If, Let, Prim}

abbrev pub first_rule : Tree → ℕ
first_rule (Var x) = 0
first_rule (Const v) = 0
first_rule (Source i) = 0
first_rule (Rec ps) = 0
first_rule (Proj l a) = 13
first_rule (Inj l a) = 0
first_rule (Case a bs) = 14
first_rule (Make k ts) = 0
first_rule (Union a b) = 2
first_rule (Ext k b s) = 1
first_rule (If a b c) = 15
first_rule (Let a b) = 8
first_rule (Prim c ts) = 0

abbrev pub behind_rules : Tree → ℕ
behind_rules (Var x) = 0
behind_rules (Const v) = 0
behind_rules (Source i) = 0
behind_rules (Rec ps) = 0
behind_rules (Proj l a) = 14
behind_rules (Inj l a) = 0
behind_rules (Case a bs) = 15
behind_rules (Make k ts) = 0
behind_rules (Union a b) = 3
behind_rules (Ext k b s) = 8
behind_rules (If a b c) = 18
behind_rules (Let a b) = 13
behind_rules (Prim c ts) = 0
