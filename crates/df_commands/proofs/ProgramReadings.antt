-- The text of a source has one reading: a tree, or one refusal.
use Rattle.std.proofs.Common.{◌≡◌, ◌≢◌, ◌∙◌, ℕ, List, ◌++◌, Option, Some, None, Result, Ok, Err, inl, inr, refl, sym, ap, subst, arith, codes}
use Rattle.std.proofs.lemmas.Bool.{cases_lt}
use Rattle.df_io.specs.declared.place.Place.{Place}
use Rattle.df_grammar.specs.Answers.{IsAnswered}
use Rattle.df_grammar.specs.declared.parser.ParseAnswer.{ParseAnswer}
use Rattle.df_grammar.specs.declared.parser.ParseAnswer.TheVariants as parse
use Rattle.df_syntax.specs.declared.token.Token.{Token}
use Rattle.df_syntax.specs.declared.program.Program.{Program}
use Rattle.df_syntax.specs.TokenList.{TokenList}
use Rattle.df_syntax.specs.Tokens.{Splits, FirstBad, LexFault}
use Rattle.df_syntax.specs.Refusals.{IsSource, Answer, source_of, wrong_at, unsupported_at, too_deep_at, IsAnswer}
use Rattle.df_syntax.specs.Demands.{first_refusal}
use Rattle.df_syntax.specs.declared.piped.Piped.{Piped}
use Rattle.df_core.specs.declared.flat.Flat.{Flat}
use Rattle.df_types.specs.Sources.{demands}
use Rattle.df_types.specs.declared.answers.CheckAnswer.{CheckAnswer}
use Rattle.df_shape.specs.Answers.{IsShaped}
use Rattle.df_shape.specs.Shaped.{shaped}
use Rattle.df_shape.specs.Sources.{demands as form_demands}
use Rattle.df_shape.specs.declared.answers.ShapeAnswer.{ShapeAnswer}
use Rattle.df_inline.specs.Sizes.{piped_size}
use Rattle.df_inline.specs.declared.size.Size.{Size}
use Rattle.df_commands.specs.Judged.{GivesMeaning}
use Rattle.df_commands.specs.Laws.{ProgramsHaveOneReading, ProgramsHaveReadings}
use Rattle.std.specs.Fmt.{decimal}
use Rattle.df_build_elem.specs.Program.{census}
use Rattle.df_compile.specs.Compiled.{most_skeleton_cells}
use Rattle.df_commands.specs.Lines.{refusal}
use Rattle.df_commands.specs.Texts.{and_word}
use Rattle.df_commands.specs.ProgramTexts.{and_place, fault_word, check_reason, parse_reason, shape_reason, most_nodes, most_brackets, HasNoTokens, IsNoSource, FailsDemand, FailsForm, IsSmall, IsOver, flat_of, IsOverbuilt, IsSized, IsAccepted, IsNotAccepted, HasTokens, IsTextOfTree, IsRefusedSource, ReadsTokens, ReadsTree, MeetsDemands, ReadsBlocks, ReadsFlat, ReadsFew, ReadsProgram}
use Rattle.df_commands.specs.ProgramTexts.IsNoSource.{syntax, unsupported, too_deep}
use Rattle.df_commands.specs.ProgramTexts.IsOver.{too_large, too_tall}
use Rattle.df_commands.specs.ProgramTexts.IsNotAccepted.{misnamed, misshapen, oversized, overbuilt}
use Rattle.df_commands.specs.ProgramTexts.IsRefusedSource.{no_tokens, no_source, not_accepted}
use Rattle.df_commands.specs.declared.programs.Source.{Source}
use Rattle.df_commands.specs.declared.stop.Stop.{Stop}
use Rattle.df_commands.specs.declared.stop.Stop.TheVariants as stop

-- ---- the laws that it stands on

abbrev pub SplitsOnce : Type 0
SplitsOnce = (text : List ℕ) (s t : List Token) (a b : Place) → Splits text s a → Splits text t b → (s ≡ t) × (a ≡ b)

abbrev pub IsBadOnce : Type 0
IsBadOnce = (text : List ℕ) (e f : LexFault) (a b : Place) → FirstBad text a e → FirstBad text b f → (e ≡ f) × (a ≡ b)

abbrev pub SplitIsNotBad : Type 0
SplitIsNotBad = (text : List ℕ) (tokens : List Token) (end place : Place) (fault : LexFault) → Splits text tokens end → ¬ FirstBad text place fault

abbrev pub AnswersOnce : Type 0
AnswersOnce = (list : TokenList) (a b : Answer) → IsAnswer list a → IsAnswer list b → a ≡ b

abbrev pub SplitsOrIsBad : Type 0
SplitsOrIsBad = (text : List ℕ) → ¬ (((tokens : List Token) (end : Place) → ¬ Splits text tokens end) × ((at : Place) (fault : LexFault) → ¬ FirstBad text at fault))

abbrev pub AnswersAlways : Type 0
AnswersAlways = (list : TokenList) → ¬ ((answer : Answer) → ¬ IsAnswer list answer)

-- ---- tokens

same_tokens : SplitsOnce → (text : List ℕ) (a b : TokenList) → HasTokens text a → HasTokens text b → a ≡ b
same_tokens once text a b s t =
    let same = once text a.tokens b.tokens a.end b.end s t in
    ap (λ tokens. record { tokens = tokens; end = a.end }) same.0 ∙ ap (λ end. record { tokens = b.tokens; end = end }) same.1

one_bad_line : IsBadOnce → (text line other : List ℕ) → HasNoTokens text line → HasNoTokens text other → line ≡ other
one_bad_line once text line other a b =
    let same = once text a.fault b.fault a.place b.place a.first b.first in
    a.says ∙ ap (λ fault. refusal (fault_word fault ++ and_place a.place)) same.0 ∙ ap (λ place. refusal (fault_word b.fault ++ and_place place)) same.1 ∙ sym b.says

-- ---- trees

-- the line for an answer that is no tree
abbrev answer_line : Answer → List ℕ
answer_line (source_of tree) = refusal (codes "")
answer_line (wrong_at place) = refusal (codes "Syntax" ++ and_place place)
answer_line (unsupported_at name place) = refusal (codes "Unsupported" ++ (and_word name ++ and_place place))
answer_line (too_deep_at place) = refusal (codes "TooDeep" ++ and_place place)

abbrev IsNoTree : Answer → Type 0
IsNoTree (source_of tree) = ⊥
IsNoTree _ = Unit {0}

answered : (list : TokenList) (line : List ℕ) → IsNoSource list line → (a : Answer) × (IsAnswer list a × (IsNoTree a × (line ≡ answer_line a)))
answered list line (syntax place wrong says) = (wrong_at place, (wrong, (tt, says)))
answered list line (unsupported name place wrong says) = (unsupported_at name place, (wrong, (tt, says)))
answered list line (too_deep place wrong says) = (too_deep_at place, (wrong, (tt, says)))

one_refusal : AnswersOnce → (list : TokenList) (line other : List ℕ) → IsNoSource list line → IsNoSource list other → line ≡ other
one_refusal once list line other p q =
    let a = answered list line p in
    let b = answered list other q in
    a.1.1.1 ∙ ap answer_line (once list a.0 b.0 a.1.0 b.1.0) ∙ sym b.1.1.1

no_tree : AnswersOnce → (list : TokenList) (tree : Program) (line : List ℕ) → IsSource list tree → IsNoSource list line → ⊥
no_tree once list tree line source refused =
    let a = answered list line refused in
    subst IsNoTree (once list a.0 (source_of tree) a.1.0 source) a.1.1.0

the_tree : (a b : Program) → source_of a ≡ source_of b → a ≡ b
the_tree a b e = cc

one_tree : SplitsOnce → AnswersOnce → (text : List ℕ) (a b : Program) → IsTextOfTree text a → IsTextOfTree text b → a ≡ b
one_tree once answers text a b p q =
    let same = same_tokens once text q.list p.list q.tokens p.tokens in
    the_tree a b (answers p.list (source_of a) (source_of b) p.source (subst (λ list. IsSource list b) same q.source))

-- ---- demands and sizes

module _ {A : Type 0} where
  the_answer : (a b : A) → ◌≡◌ {A = Option A} (Some a) (Some b) → a ≡ b
  the_answer a b e = cc

  no_answer : (a : A) → ◌≡◌ {A = Option A} None (Some a) → ⊥
  no_answer a e = cc

one_failure : (tree : Program) (line other : List ℕ) → FailsDemand tree line → FailsDemand tree other → line ≡ other
one_failure tree line other a b =
    a.says ∙ ap (λ answer. refusal (check_reason answer)) (the_answer a.answer b.answer (sym a.first ∙ b.first)) ∙ sym b.says

one_bad_form : (tree : Program) (line other : List ℕ) → FailsForm tree line → FailsForm tree other → line ≡ other
one_bad_form tree line other a b =
    a.says ∙ ap (λ answer. refusal (shape_reason answer)) (the_answer a.answer b.answer (sym a.first ∙ b.first)) ∙ sym b.says

one_excess : (size : Size) (line other : List ℕ) → IsOver size line → IsOver size other → line ≡ other
one_excess size line other (too_large over says) (too_large more tells) = says ∙ sym tells
one_excess size line other (too_large over says) (too_tall few tall tells) = absurd (omega arith)
one_excess size line other (too_tall few tall says) (too_large over tells) = absurd (omega arith)
one_excess size line other (too_tall few tall says) (too_tall fits more tells) = says ∙ sym tells

no_excess : (size : Size) (line : List ℕ) → IsSmall size → IsOver size line → ⊥
no_excess size line within (too_large over says) = let nodes = within.nodes in omega arith
no_excess size line within (too_tall few tall says) = let brackets = within.brackets in omega arith

is_named : (tree : Program) (line : List ℕ) → first_refusal (demands tree) ≡ None → FailsDemand tree line → ⊥
is_named tree line named failure = no_answer failure.answer (sym named ∙ failure.first)

is_formed : (tree : Program) (line : List ℕ) → first_refusal (form_demands tree) ≡ None → FailsForm tree line → ⊥
is_formed tree line formed failure = no_answer failure.answer (sym formed ∙ failure.first)

one_cause : (tree : Program) (line other : List ℕ) → IsNotAccepted tree line → IsNotAccepted tree other → line ≡ other
one_cause tree line other (misnamed a) (misnamed b) = one_failure tree line other a b
one_cause tree line other (misnamed a) (misshapen named b) = absurd (is_named tree line named a)
one_cause tree line other (misnamed a) (oversized named formed b) = absurd (is_named tree line named a)
one_cause tree line other (misshapen named a) (misnamed b) = absurd (is_named tree other named b)
one_cause tree line other (misshapen named a) (misshapen again b) = one_bad_form tree line other a b
one_cause tree line other (misshapen named a) (oversized again formed b) = absurd (is_formed tree line formed a)
one_cause tree line other (oversized named formed a) (misnamed b) = absurd (is_named tree other named b)
one_cause tree line other (oversized named formed a) (misshapen again b) = absurd (is_formed tree other formed b)
one_cause tree line other (oversized named formed a) (oversized again too b) = one_excess (piped_size (shaped tree)) line other a b
one_cause tree line other (misnamed a) (overbuilt sized b) = absurd (is_named tree line sized.named a)
one_cause tree line other (misshapen named a) (overbuilt sized b) = absurd (is_formed tree line sized.formed a)
one_cause tree line other (oversized named formed a) (overbuilt sized b) = absurd (no_excess (piped_size (shaped tree)) line sized.within a)
one_cause tree line other (overbuilt sized a) (misnamed b) = absurd (is_named tree other sized.named b)
one_cause tree line other (overbuilt sized a) (misshapen named b) = absurd (is_formed tree other sized.formed b)
one_cause tree line other (overbuilt sized a) (oversized named formed b) = absurd (no_excess (piped_size (shaped tree)) other sized.within b)
one_cause tree line other (overbuilt sized a) (overbuilt again b) = a.says ∙ sym b.says

is_accepted : (tree : Program) (line : List ℕ) → IsAccepted tree → IsNotAccepted tree line → ⊥
is_accepted tree line accepted (misnamed a) = is_named tree line accepted.sized.named a
is_accepted tree line accepted (misshapen named a) = is_formed tree line accepted.sized.formed a
is_accepted tree line accepted (oversized named formed a) = no_excess (piped_size (shaped tree)) line accepted.sized.within a
is_accepted tree line accepted (overbuilt sized a) = let few = accepted.few in let more = a.more in omega arith

-- ---- one reading

not_refused : SplitsOnce → SplitIsNotBad → AnswersOnce → (text : List ℕ) (tree : Program) (line : List ℕ) → ReadsProgram text (Ok tree) → IsRefusedSource text line → ⊥
not_refused once good answers text tree line right (no_tokens bad) = good text right.0.list.tokens right.0.list.end bad.place bad.fault right.0.tokens bad.first
not_refused once good answers text tree line right (no_source list tokens refused) =
    no_tree answers list tree line (subst (λ l. IsSource l tree) (same_tokens once text right.0.list list right.0.tokens tokens) right.0.source) refused
not_refused once good answers text tree line right (not_accepted other is cause) =
    is_accepted tree line right.1 (subst (λ t. IsNotAccepted t line) (one_tree once answers text other tree is right.0) cause)

one_line : SplitsOnce → IsBadOnce → SplitIsNotBad → AnswersOnce → (text line other : List ℕ) → IsRefusedSource text line → IsRefusedSource text other → line ≡ other
one_line once bad good answers text line other (no_tokens a) (no_tokens b) = one_bad_line bad text line other a b
one_line once bad good answers text line other (no_tokens a) (no_source list tokens q) = absurd (good text list.tokens list.end a.place a.fault tokens a.first)
one_line once bad good answers text line other (no_tokens a) (not_accepted tree is q) = absurd (good text is.list.tokens is.list.end a.place a.fault is.tokens a.first)
one_line once bad good answers text line other (no_source list tokens p) (no_tokens b) = absurd (good text list.tokens list.end b.place b.fault tokens b.first)
one_line once bad good answers text line other (no_source list tokens p) (no_source more these q) =
    one_refusal answers list line other p (subst (λ l. IsNoSource l other) (same_tokens once text more list these tokens) q)
one_line once bad good answers text line other (no_source list tokens p) (not_accepted tree is q) =
    absurd (no_tree answers list tree line (subst (λ l. IsSource l tree) (same_tokens once text is.list list is.tokens tokens) is.source) p)
one_line once bad good answers text line other (not_accepted tree is p) (no_tokens b) = absurd (good text is.list.tokens is.list.end b.place b.fault is.tokens b.first)
one_line once bad good answers text line other (not_accepted tree is p) (no_source list tokens q) =
    absurd (no_tree answers list tree other (subst (λ l. IsSource l tree) (same_tokens once text is.list list is.tokens tokens) is.source) q)
one_line once bad good answers text line other (not_accepted tree is p) (not_accepted that it q) =
    one_cause tree line other p (subst (λ t. IsNotAccepted t other) (one_tree once answers text that tree it is) q)

pub one_program_reading : SplitsOnce → IsBadOnce → SplitIsNotBad → AnswersOnce → ProgramsHaveOneReading
one_program_reading once bad good answers text (Ok a) (Ok b) p q = ap Ok (one_tree once answers text a b p.0 q.0)
one_program_reading once bad good answers text (Ok a) (Err line) p q = absurd (not_refused once good answers text a line p q)
one_program_reading once bad good answers text (Err line) (Ok b) p q = absurd (not_refused once good answers text b line q p)
one_program_reading once bad good answers text (Err line) (Err other) p q = ap Err (one_line once bad good answers text line other p q)

-- ---- there is a reading

-- a tree that is neither accepted nor refused is none
module _ (tree : Program) (refused : ¬ IsAccepted tree) (passed : (line : List ℕ) → ¬ IsNotAccepted tree line) where
  sized : (size : Size) → ¬ IsSmall size → ¬ ((line : List ℕ) → ¬ IsOver size line)
  sized size large within =
      elim (cases_lt most_nodes size.nodes) [
        | inl over ↦ within (refusal (codes "TooLarge")) (too_large over refl)
        | inr few ↦ elim (cases_lt most_brackets size.brackets) [
          | inl tall ↦ within (refusal (codes "TooTall")) (too_tall few tall refl)
          | inr low ↦ large (record { nodes = few; brackets = low })
        ]
      ]

  counted : IsSized tree → ⊥
  counted is = elim (cases_lt most_skeleton_cells (census (flat_of tree))) [
    | inl more ↦ passed (refusal (codes "TooManySkeletonCells" ++ and_word (decimal (census (flat_of tree))))) (overbuilt is (record { more = more; says = refl }))
    | inr few ↦ refused (record { sized = is; few = few })
  ]

  formed_so : first_refusal (demands tree) ≡ None → (found : Option ShapeAnswer) → first_refusal (form_demands tree) ≡ found → ⊥
  formed_so named (Some answer) first =
      passed (refusal (shape_reason answer)) (misshapen named (record { answer = answer; says = refl; first = first }))
  formed_so named None formed =
      sized (piped_size (shaped tree)) (λ small. counted (record { named = named; formed = formed; within = small }))
      (λ line over. passed line (oversized named formed over))

  named_so : (found : Option CheckAnswer) → first_refusal (demands tree) ≡ found → ⊥
  named_so (Some answer) first = passed (refusal (check_reason answer)) (misnamed (record { answer = answer; says = refl; first = first }))
  named_so None named = formed_so named (first_refusal (form_demands tree)) refl

abbrev IsUnread : List ℕ → Type 0
IsUnread text = (reading : Result Program (List ℕ)) → ¬ ReadsProgram text reading

tree_unread : (text : List ℕ) (tree : Program) → IsTextOfTree text tree → ¬ IsUnread text
tree_unread text tree is none =
    named_so tree (λ accepted. none (Ok tree) (is, accepted)) (λ line cause. none (Err line) (not_accepted tree is cause)) (first_refusal (demands tree)) refl

answer_unread : (text : List ℕ) (list : TokenList) → HasTokens text list → IsUnread text → (answer : Answer) → ¬ IsAnswer list answer
answer_unread text list tokens none (source_of tree) source = tree_unread text tree (record { list = list; tokens = tokens; source = source }) none
answer_unread text list tokens none (wrong_at place) wrong = none (Err (answer_line (wrong_at place))) (no_source list tokens (syntax place wrong refl))
answer_unread text list tokens none (unsupported_at name place) wrong =
    none (Err (answer_line (unsupported_at name place))) (no_source list tokens (unsupported name place wrong refl))
answer_unread text list tokens none (too_deep_at place) wrong = none (Err (answer_line (too_deep_at place))) (no_source list tokens (too_deep place wrong refl))

pub some_program_reading : SplitsOrIsBad → AnswersAlways → ProgramsHaveReadings
some_program_reading splits answers text none =
    splits text (
      (λ tokens end split. let list : TokenList = record { tokens = tokens; end = end } in answers list (answer_unread text list split none)),
      (λ place fault bad. none (Err (refusal (fault_word fault ++ and_place place))) (no_tokens (record { fault = fault; place = place; says = refl; first = bad }))),
    )

-- ---- what stops the reading

-- what a parser answers says why tokens are no source
pub refused_tokens : (list : TokenList) (answer : ParseAnswer) (line : List ℕ) → IsAnswered list (Err answer) → answer ≢ parse.Memory → line ≡ refusal (parse_reason answer) → IsNoSource list line
refused_tokens list (parse.Syntax place) line is told says = syntax place is says
refused_tokens list (parse.TooDeep place) line is told says = too_deep place is says
refused_tokens list (parse.Unsupported name place) line is told says = unsupported name place is says
refused_tokens list parse.Memory line is told says = absurd (told refl)

pub no_tokens_read : (text : List ℕ) (why : Stop) → GivesMeaning (λ (list : TokenList). list) (Err why) (ReadsTokens text) → GivesMeaning (λ (s : Source). s.tree) (Err why) (ReadsProgram text)
no_tokens_read text (stop.Refused line) bad = no_tokens bad
no_tokens_read text stop.ReadFault bad = bad
no_tokens_read text stop.Memory bad = tt

pub no_tree_read : (text : List ℕ) (list : TokenList) (why : Stop) → HasTokens text list → GivesMeaning (λ (tree : Program). tree) (Err why) (ReadsTree list) → GivesMeaning (λ (s : Source). s.tree) (Err why) (ReadsProgram text)
no_tree_read text list (stop.Refused line) tokens refused = no_source list tokens refused
no_tree_read text list stop.ReadFault tokens refused = refused
no_tree_read text list stop.Memory tokens refused = tt

pub demand_fails : (text : List ℕ) (tree : Program) (why : Stop) → IsTextOfTree text tree → GivesMeaning (λ (done : Unit {0}). done) (Err why) (MeetsDemands tree)
    → GivesMeaning (λ (s : Source). s.tree) (Err why) (ReadsProgram text)
demand_fails text tree (stop.Refused line) is failure = not_accepted tree is (misnamed failure)
demand_fails text tree stop.ReadFault is failure = failure
demand_fails text tree stop.Memory is failure = tt

pub form_fails : (text : List ℕ) (tree : Program) (why : Stop) → IsTextOfTree text tree → first_refusal (demands tree) ≡ None
    → GivesMeaning (λ (piped : Piped). piped) (Err why) (ReadsBlocks tree) → GivesMeaning (λ (s : Source). s.tree) (Err why) (ReadsProgram text)
form_fails text tree (stop.Refused line) is named failure = not_accepted tree is (misshapen named failure)
form_fails text tree stop.ReadFault is named failure = failure
form_fails text tree stop.Memory is named failure = tt

pub size_fails : (text : List ℕ) (tree : Program) (piped : Piped) (why : Stop) → IsTextOfTree text tree → first_refusal (demands tree) ≡ None → IsShaped tree piped
    → GivesMeaning (λ (flat : Flat). flat) (Err why) (ReadsFlat piped) → GivesMeaning (λ (s : Source). s.tree) (Err why) (ReadsProgram text)
size_fails text tree piped (stop.Refused line) is named shape over =
    not_accepted tree is (oversized named shape.holds (subst (λ p. IsOver (piped_size p) line) shape.is over))
size_fails text tree piped stop.ReadFault is named shape over = over
size_fails text tree piped stop.Memory is named shape over = tt

pub cells_fail : (text : List ℕ) (tree : Program) (flat : Flat) (why : Stop) → IsTextOfTree text tree → IsSized tree → flat ≡ flat_of tree
    → GivesMeaning (λ (done : Unit {0}). done) (Err why) (ReadsFew flat) → GivesMeaning (λ (s : Source). s.tree) (Err why) (ReadsProgram text)
cells_fail text tree flat (stop.Refused line) is sized same over = not_accepted tree is (overbuilt sized (subst (λ f. IsOverbuilt f line) same over))
cells_fail text tree flat stop.ReadFault is sized same over = over
cells_fail text tree flat stop.Memory is sized same over = tt

pub sized_tree : (tree : Program) (piped : Piped) → first_refusal (demands tree) ≡ None → IsShaped tree piped → IsSmall (piped_size piped) → IsSized tree
sized_tree tree piped named shape within =
    record { named = named; formed = shape.holds; within = subst (λ p. IsSmall (piped_size p)) shape.is within }
