-- Lines of text, and the two that say why nothing was done.
use Rattle.std.specs.Prelude.{ℕ, List, [], ◌∷◌, ◌++◌, codes}

-- a text with the line feed at its end
abbrev pub line : List ℕ → List ℕ
line text = text ++ 10 ∷ []

-- the answer to words that are no command
abbrev pub usage : List ℕ
usage = line (codes "usage: valflow COMMAND ARGUMENTS")

-- the answer to a text that is refused
abbrev pub refusal : List ℕ → List ℕ
refusal reason = line (codes "refused " ++ reason)
