use Rattle.std.proofs.Common.{sym, subst, ◌-◌, arith}
use Rattle.df_forms.specs.Reading.{Outcome}
use Rattle.df_syntax.specs.declared.token.Token.{Token}
use Rattle.df_syntax.specs.declared.tree.Expr.{Expr}
use Rattle.df_cursor.specs.Reads.{Reads}
use Rattle.df_grammar.proofs.Deeper.{deeper_is}
use Rattle.df_grammar.proofs.descent.Descent.again.Goals as goal

pub returns : goal.returns
returns g c =
    let h = c.requires.nests.reads _ _ _ (c.args.self.now.depth - c.args.level) _ (omega arith) c.expr.ensures in
    subst (λ (o : Outcome Token Expr). Reads o c.args.tokens.now.rest.now c.expr.result c.expr.new.arg3.rest.now) (sym (deeper_is c.args.self.now.depth c.args.level c.requires.inside c.requires.room c.args.tokens.now.rest.now)) h
