use Rattle.df_grammar.proofs.terms.+expr.Given as goal

abbrev pub decreases-expr : goal.decreases-expr
decreases-expr l = l.depth
