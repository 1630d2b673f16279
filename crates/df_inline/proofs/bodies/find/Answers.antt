use Rattle.std.proofs.Common.{sym, ◌∙◌, subst}
use Rattle.df_inline.specs.Tables.{IsKnown}
use Rattle.df_inline.proofs.Known.{finds_none, finds_last}
use Rattle.df_inline.proofs.bodies.find.Goals as goal

pub returns-in-None : goal.returns-in-None
returns-in-None c =
    finds_none c.args.functions.now c.args.name.now (subst (IsKnown c.args.functions.now c.args.name.now) (sym c.place.ensures ∙ c.in-None.is) (c.requires c.args.name.now))

pub returns-then-place-functions : goal.returns-then-place-functions
returns-then-place-functions c =
    finds_last c.args.functions.now c.args.name.now c.in-Some.place c.if-place-functions.true
    (subst (IsKnown c.args.functions.now c.args.name.now) (sym c.place.ensures ∙ c.in-Some.is) (c.requires c.args.name.now) c.if-place-functions.true)
