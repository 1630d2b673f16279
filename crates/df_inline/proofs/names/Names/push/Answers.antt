use Rattle.std.proofs.Common.{List, sym, ap, subst}
use Rattle.df_names.specs.Found.{names_of}
use Rattle.df_names.specs.Maps.{bind}
use Rattle.df_inline.specs.declared.names.Remembered.{Remembered}
use Rattle.df_inline.specs.Bindings.{AreStandings, AreRemembered, bindings_of}
use Rattle.df_inline.proofs.Shadowing.{one_more}
use Rattle.df_inline.proofs.names.Names.push.Goals as goal

pub invariant_of-self-in_default : goal.invariant_of-self-in_default
unfolding bind
invariant_of-self-in_default c =
    subst (λ (l : List Remembered). AreStandings (bindings_of l) (names_of c.bind.new.self) × AreRemembered l) (sym c.in_ok-push.ensures.items)
    (one_more c.self.inside.bindings.items (record { binding = c.args.binding; before = c.get-before.result }) (names_of c.self.inside.standings) (names_of c.bind.new.self)
    c.self.invariant.0 c.self.invariant.1 c.get-before.ensures (λ name. ap (λ m. m name) c.in_default.ensures.ok))
