-- What is demanded of a source.
use Rattle.std.specs.Prelude.{Bool}
use Rattle.df_syntax.specs.Demands as general
use Rattle.df_types.specs.declared.answers.CheckAnswer.{CheckAnswer}

-- what is demanded: whether it holds, and how a source is refused where it does not
abbrev pub Demand : Type 0
Demand = general.Demand CheckAnswer

abbrev pub demand : Bool → CheckAnswer → Demand
demand holds refusal = record { holds = holds; refusal = refusal }
