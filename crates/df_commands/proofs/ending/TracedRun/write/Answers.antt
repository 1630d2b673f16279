use Rattle.std.proofs.Common.{◌≡◌, ◌++◌, ℕ, take, subst}
use Rattle.std.specs.Result.{OnErr}
use Rattle.df_machine.specs.States.{start}
use Rattle.df_trace.specs.Traces.{trace_text}
use Rattle.df_commands.specs.TracedRuns.{Traced}
use Rattle.df_commands.proofs.ending.TracedRun.write.Goals as goal

pub returns-clause-front : goal.returns-clause-front
returns-clause-front g c = λ tells.
    let written = g.K.Sink.written c.trace.new.out in let before = g.K.Sink.written c.args.out.now in let t = c.self.inside.machine in
    subst (λ (r : Traced). OnErr c.trace.result ((n : ℕ) × (written ≡ before ++ take n (trace_text r.cells r.inputs (start r.cells) r.choices)))) c.self.view_is
    (subst (λ choices. OnErr c.trace.result ((n : ℕ) × (written ≡ before ++ take n (trace_text t.cells t.inputs (start t.cells) choices)))) c.new-chooser.ensures (c.trace.ensures.front tells))
