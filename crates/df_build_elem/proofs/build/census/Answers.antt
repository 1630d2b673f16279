use Rattle.std.proofs.Common.{◌∙◌, ap, length, [], replicate}
use Rattle.std.proofs.lemmas.List.{length-map}
use Rattle.df_labels.specs.Graphs.{Graph, no_node}
use Rattle.df_build_elem.specs.Program.{program_on, program_graph}
use Rattle.df_build_elem.proofs.build.census.Goals as goal

pub returns : goal.returns
returns c =
    c.count.ensures
    ∙ (ap (λ (g : Graph). length g)
    (c.in_ok-counted.ensures {u = tt}
    ∙ (ap (λ l. program_on (λ _. no_node) c.args.flat.now (replicate (length l) no_node)) c.new.ensures
    ∙ c.programs_count_the_same.ensures c.args.flat.now []))
    ∙ length-map (program_graph c.args.flat.now) (λ _. no_node))
