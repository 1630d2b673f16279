-- What the outcome of the reading of a source answers.
use Rattle.std.proofs.Common.{◌≡◌, ◌≢◌, List, [], ◌∷◌, Result, Ok, Err, length, ◌==◌, true, false, refl, sym, ◌∙◌, ap, subst, arith}
use Rattle.std.proofs.lemmas.Bool.{eqb-true}
use Rattle.df_forms.specs.Reading.{Found, Failed, Wrong, Deep}
use Rattle.df_syntax.specs.declared.token.Token.{Token}
use Rattle.df_syntax.specs.declared.token.TokenKind.{TokenKind}
use Rattle.df_syntax.specs.declared.token.TokenKind.TheVariants as kind
use Rattle.df_syntax.specs.declared.program.Program.{Program}
use Rattle.df_syntax.specs.TokenList.{TokenList}
use Rattle.df_syntax.specs.Grammar as g
use Rattle.df_syntax.specs.Reading.{reads}
use Rattle.df_syntax.specs.Refusals as at
use Rattle.df_syntax.specs.Refusals.{FirstWrong, TooDeepAt, IsSource, IsWrongAt, IsTooDeepAt, Answer, IsAnswer, source_of, wrong_at, unsupported_at, too_deep_at}
use Rattle.df_syntax.proofs.Refused.{one_answer}
use Rattle.df_syntax.proofs.SourceReading as source
use Rattle.df_cursor.specs.declared.error.ParseError.{ParseError}
use Rattle.df_cursor.specs.declared.error.ParseError.TheVariants as e
use Rattle.df_grammar.specs.declared.parser.ParseAnswer.{ParseAnswer}
use Rattle.df_grammar.specs.declared.parser.ParseAnswer.TheVariants as a
use Rattle.df_cursor.specs.Reads.{fault}
use Rattle.df_grammar.specs.Answers.{IsAnswered, IsThis, of_kind, refusal}

-- the first wrong token
token_answered : (list : TokenList) (t : Token) → FirstWrong list.tokens t → (k : TokenKind) → t.kind ≡ k → IsAnswered list (Err (of_kind k t.place))
token_answered list t w (kind.Number x) i = at.token t w (λ name j. let both : kind.Number x ≡ kind.Unsupported name = sym i ∙ j in cc) refl
token_answered list t w (kind.Name x) i = at.token t w (λ name j. let both : kind.Name x ≡ kind.Unsupported name = sym i ∙ j in cc) refl
token_answered list t w (kind.Reserved x) i = at.token t w (λ name j. let both : kind.Reserved x ≡ kind.Unsupported name = sym i ∙ j in cc) refl
token_answered list t w (kind.Unsupported x) i = record { wrong = t; first = w; kind_is = i; place_is = refl }
token_answered list t w (kind.Symbol x) i = at.token t w (λ name j. let both : kind.Symbol x ≡ kind.Unsupported name = sym i ∙ j in cc) refl

pub found : (list : TokenList) (tree : Program) → reads 65 1 g.source list.tokens ≡ Found tree [] → IsAnswered list (Ok tree)
found list tree h = (let both = source.found_all list.tokens tree h in record { parses = both.0; shallow = both.1 })

pub found_more : (list : TokenList) (tree : Program) (rest : List Token) → (rest ≡ [] → ⊥) → reads 65 1 g.source list.tokens ≡ Found tree rest → IsAnswered list (Err (refusal e.Wrong rest list.end))
found_more list tree [] some h = absurd (some refl)
found_more list tree (t ∷ rest) some h = token_answered list t (source.found_more list.tokens tree t rest h) t.kind refl

wrong : (list : TokenList) (rest : List Token) → reads 65 1 g.source list.tokens ≡ Failed Wrong rest → IsAnswered list (Err (refusal e.Wrong rest list.end))
wrong list [] h = at.end (source.wrong_end list.tokens h) refl
wrong list (t ∷ rest) h = token_answered list t (source.wrong_at list.tokens t rest h) t.kind refl

deep : (list : TokenList) (rest : List Token) → reads 65 1 g.source list.tokens ≡ Failed Deep rest → IsAnswered list (Err (refusal e.Deep rest list.end))
deep list [] h = (let d = source.deep_at list.tokens [] h in let i = d.2 in cc)
deep list (t ∷ rest) h =
    let d = source.deep_at list.tokens (t ∷ rest) h in
    let head : t ≡ d.0 = (let i = d.2 in cc) in
    record { opener = d.0; first = d.3; place_is = ap (λ (x : Token). x.place) head }

pub failed : (list : TokenList) (why : ParseError) (rest : List Token) → (why ≢ e.Memory → reads 65 1 g.source list.tokens ≡ Failed (fault why) rest) → IsAnswered list (Err (refusal why rest list.end))
failed list e.Memory rest h = tt
failed list e.Deep rest h = deep list rest (h (λ same. cc))
failed list e.Wrong rest h = wrong list rest (h (λ same. cc))

-- what is answered is the one answer
pub exact : (list : TokenList) (result : Result Program ParseAnswer) → IsAnswered list result → (answer : Answer) → IsAnswer list answer → IsThis result answer
exact list (Ok tree) h answer k = one_answer list answer (source_of tree) k h
exact list (Err (a.Syntax place)) h answer k = one_answer list answer (wrong_at place) k h
exact list (Err (a.TooDeep place)) h answer k = one_answer list answer (too_deep_at place) k h
exact list (Err (a.Unsupported name place)) h answer k = one_answer list answer (unsupported_at name place) k h
exact list (Err a.Memory) h answer k = tt

-- ---- the tokens as they were read

-- nothing is left
pub nothing_left : (ts : List Token) (tree : Program) (slice rest : List Token) → slice ≡ ts → reads 65 1 g.source slice ≡ Found tree rest → (length rest == 0) ≡ true → reads 65 1 g.source ts ≡ Found tree []
nothing_left ts tree slice [] e h n = subst (λ (z : List Token). reads 65 1 g.source z ≡ Found tree []) e h
nothing_left ts tree slice (t ∷ rest) e h n = (let z = eqb-true (length (t ∷ rest)) 0 n in absurd (omega arith))

-- something is left
pub something_left : (rest : List Token) → (length rest == 0) ≡ false → rest ≡ [] → ⊥
something_left [] n e = cc
something_left (t ∷ rest) n e = cc
