use Rattle.std.proofs.Common.{◌≡◌, ◌++◌, ℕ, take, sym, subst}
use Rattle.std.specs.Result.{OnErr}
use Rattle.df_commands.specs.Plans.{said}
use Rattle.df_commands.specs.declared.ending.Ending.{Ending}
use Rattle.df_commands.proofs.ending.say.Goals as goal

pub returns-in-Trace-clause-front : goal.returns-in-Trace-clause-front
returns-in-Trace-clause-front g c = λ tells.
    subst (λ (e : Ending). OnErr c.write.result ((n : ℕ) × (g.K.Sink.written c.write.new.out ≡ g.K.Sink.written c.args.out.now ++ take n (said e)))) (sym c.in-Trace.is)
    (c.write.ensures.front tells)
