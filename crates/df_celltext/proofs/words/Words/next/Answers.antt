-- A line is its first word and the words behind the first space.
use Rattle.std.proofs.Common.{[], ◌∷◌, cond, sym, ◌∙◌, ap}
use Rattle.df_celltext.specs.Cuts.{words_of}
use Rattle.df_celltext.proofs.CutLemmas.{words_cut, words_whole}
use Rattle.df_celltext.proofs.words.Words.next.Goals as goal

pub returns-in-Some : goal.returns-in-Some
returns-in-Some c =
    sym c.self.view_is ∙ ap (λ t. cond t [] (words_of c.self.inside.rest.now)) c.if-self.false ∙ words_cut c.self.inside.rest.now c.in-Some.word.now c.in-Some.rest.now c.in-Some.ensures
    ∙ sym (ap (λ t. c.in-Some.word.now ∷ cond t [] (words_of c.in-Some.rest.now)) c.if-self.false)

pub returns-in-None : goal.returns-in-None
returns-in-None c =
    sym c.self.view_is ∙ ap (λ t. cond t [] (words_of c.self.inside.rest.now)) c.if-self.false ∙ words_whole c.self.inside.rest.now c.in-None.ensures
