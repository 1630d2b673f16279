-- What lists of terms give where loops may make so many turns, by what each term gives.
use Rattle.std.specs.Prelude.{ℕ, List, [], ◌∷◌, ◌++◌, map, fold}
use Rattle.df_partial.specs.Members.{Member, paired, decided}
use Rattle.df_core.specs.declared.terms.Term.{Term}
use Rattle.df_core.specs.declared.terms.Step.{Step}
use Rattle.df_core.specs.declared.terms.Branch.{Branch}
use Rattle.df_core.specs.declared.terms.Assignment.{Assignment}
use Rattle.df_core.specs.Turning.{Place, term_member, moved, turned}

-- one step more of a chain
abbrev pub step_joined : Place → List Member → Member → Step → Member
step_joined place locals left step = paired step.with left (term_member step.operand place locals)

-- a chain from its first member on
abbrev pub joined_with : Place → List Member → Member → List Step → Member
joined_with place locals first rest = fold (step_joined place locals) first rest

-- what the first branch whose test holds gives, before the last one
abbrev pub branches_with : Place → List Member → Member → List Branch → Member
branches_with place locals last [] = last
branches_with place locals last (branch ∷ branches) =
    decided (term_member branch.test place locals) (term_member branch.value place locals) (branches_with place locals last branches)

-- one definition more
abbrev pub bind : Place → List Member → Term → List Member
bind place locals definition = locals ++ term_member definition place locals ∷ []

-- the locals behind definitions
abbrev pub bound_with : Place → List Member → List Term → List Member
bound_with place locals definitions = fold (bind place) locals definitions

-- what one assignment gives
abbrev pub given_by : Place → List Member → Assignment → ℕ × Member
given_by place locals assignment = (assignment.name, term_member assignment.value place locals)

-- what the assignments of a turn give, all under the locals before it
abbrev pub given_with : Place → List Assignment → List Member → List (ℕ × Member)
given_with place next locals = map (given_by place locals) next

-- what a loop gives from some locals on, in so many turns at most
abbrev pub turned_with : Place → ℕ → Term → List Assignment → Term → ℕ → List Member → Member
turned_with place outer test next last = turned (term_member test place) (moved outer (given_with place next)) (term_member last place)
