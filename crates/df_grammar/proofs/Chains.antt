-- A first part and the parts behind it, read turn by turn.
use Rattle.std.proofs.Common.{◌≡◌, ℕ, ◌+◌, ◌≤◌, true, false, List, [], ◌∷◌, ◌++◌, length, refl, ap, ◌∙◌, arith}
use Rattle.df_forms.specs.Form.{made, row, several, again}
use Rattle.df_forms.specs.OneToken.{empty, first}
use Rattle.df_forms.specs.Reading.{Outcome, Found, Failed, Fault, and_then, sees, collect, read, level_after}
use Rattle.df_forms.proofs.Turns.{collect_turn, collect_failed, collect_done, cons_collect, reading_shrinks}
use Rattle.df_syntax.specs.declared.word.Reserved.TheVariants as r
use Rattle.df_syntax.specs.declared.symbol.Symbol.TheVariants as s
use Rattle.df_syntax.specs.declared.token.Token.{Token}
use Rattle.df_syntax.specs.declared.tree.Expr.{Expr}
use Rattle.df_syntax.specs.declared.tree.Link.{Link}
use Rattle.df_syntax.specs.declared.tree.Arm.{Arm}
use Rattle.df_syntax.specs.declared.tree.Named.{Named}
use Rattle.df_syntax.specs.declared.tree.Sort.{Sort}
use Rattle.df_syntax.specs.declared.tree.Definition.{Definition}
use Rattle.df_syntax.specs.declared.tree.Assign.{Assign}
use Rattle.df_syntax.specs.declared.tree.Parameter.{Parameter}
use Rattle.df_syntax.specs.declared.program.Function.{Function}
use Rattle.df_syntax.specs.TokenClasses.{class, word_code, symbol_code}
use Rattle.df_syntax.specs.Refusals.{openers, closers}
use Rattle.df_syntax.specs.Grammar as g
use Rattle.df_syntax.specs.Grammar.{Line, chain}
use Rattle.df_syntax.specs.Lines as l
use Rattle.df_syntax.specs.Lines.{start, expr}
use Rattle.df_syntax.specs.Reading.{reads, deeper}
use Rattle.df_grammar.specs.Parts as p
use Rattle.df_cursor.proofs.Firsts.{first_factor_link, first_term_link}
use Rattle.df_grammar.proofs.Firsts.{first_inversion_link, first_conjunction_link, first_constant, first_range, first_function}
use Rattle.df_grammar.proofs.Levels.{level_factor, level_term, level_inversion, level_conjunction, level_definition_1, level_arm_1, level_assign_2, level_bound_2, level_sort_2, level_group_2, level_function_1}

solid_expr : empty expr ≡ false
unfolding l.expr l.conjunction l.inversion l.relation l.sum l.term l.factor l.primary l.named l.others g.for_loop g.all_indices g.choice g.block g.one_element g.test_of g.two_place g.parens g.integer_error g.typed_error g.literal g.two_place_op
solid_expr = refl

pub line_shrinks : {A : Type 0} (depth level : ℕ) (f : Line A) → empty f ≡ false → (ts : List Token) (a : A) (rest : List Token) → reads depth level f ts ≡ Found a rest → length rest + 1 ≤ length ts
unfolding deeper
line_shrinks depth level f solid ts a rest h = (let k = reading_shrinks class openers closers start expr solid_expr depth level f solid ts a rest h in omega arith)

-- the parts of any list, where K makes the outcome of the whole from theirs
module _ {X Y : Type 0} (depth level : ℕ) (part : Line X) (solid : empty part ≡ false) (begin : List ℕ) (whole : Outcome Token Y) (K : Outcome Token (List X) → Outcome Token Y) where
  pub turn : (found : List X) (ts : List Token) (a : X) (rest : List Token)
      → whole ≡ K (collect class (reads depth level part) begin found ts) → sees class begin ts ≡ true → reads depth level part ts ≡ Found a rest
      → whole ≡ K (collect class (reads depth level part) begin (found ++ a ∷ []) rest)
  turn found ts a rest w s h = w ∙ ap K (collect_turn class (reads depth level part) begin (line_shrinks depth level part solid) found ts a rest s h)

  pub failed : (found : List X) (ts : List Token) (x : Fault) (rest : List Token)
      → whole ≡ K (collect class (reads depth level part) begin found ts) → sees class begin ts ≡ true → reads depth level part ts ≡ Failed x rest → whole ≡ K (Failed x rest)
  failed found ts x rest w s h = w ∙ ap K (collect_failed class (reads depth level part) begin found ts x rest s h)

  pub done : (found : List X) (ts : List Token)
      → whole ≡ K (collect class (reads depth level part) begin found ts) → sees class begin ts ≡ false → whole ≡ K (Found found ts)
  done found ts w s = w ∙ ap K (collect_done class (reads depth level part) begin found ts s)

-- the outcome of a chain, from its first operand and the outcome of its links
abbrev pub joined : Expr → Outcome Token (List Link) → Outcome Token Expr
joined e o = and_then o (λ all rest. Found (chain e all) rest)

-- the outcome of a list is that of its members
abbrev pub all : {X : Type 0} → Outcome Token (List X) → Outcome Token (List X)
all o = o

chain_joined : (e : Expr) (o : Outcome Token (List Link))
    → and_then {B = Expr} (and_then {B = Expr × List Link} o (λ b last. Found (e, b) last)) (λ p rest. Found (chain p.0 p.1) rest) ≡ joined e o
chain_joined e (Found ls rest) = refl
chain_joined e (Failed x rest) = refl

list_joined : {X : Type 0} (a : X) (o : Outcome Token (List X))
    → and_then {B = List X} (and_then {B = X × List X} o (λ b last. Found (a, b) last)) (λ p rest. Found (p.0 ∷ p.1) rest) ≡ and_then o (λ all rest. Found (a ∷ all) rest)
list_joined a (Found ls rest) = refl
list_joined a (Failed x rest) = refl

module _ {X : Type 0} (depth level : ℕ) (f : Line X) (flat : level_after openers closers level f ≡ level) where
  list_starts : (part : Line X) (begin : List ℕ) → first start part ≡ begin → (ts : List Token) (a : X) (rest : List Token) → reads depth level f ts ≡ Found a rest
      → reads depth level (made (λ p. p.0 ∷ p.1) (row f (several part))) ts ≡ collect class (reads depth level part) begin (a ∷ []) rest
  unfolding read
  list_starts part begin begins ts a rest h = rw (h, flat, begins) (list_joined a (collect class (reads depth level part) begin [] rest) ∙ cons_collect class (reads depth level part) begin a [] rest)

module _ (depth level : ℕ) (f : Line Expr) (flat : level_after openers closers level f ≡ level) where
  chain_starts : (part : Line Link) (begin : List ℕ) → first start part ≡ begin → (ts : List Token) (e : Expr) (rest : List Token) → reads depth level f ts ≡ Found e rest
      → reads depth level (made (λ p. chain p.0 p.1) (row f (several part))) ts ≡ joined e (collect class (reads depth level part) begin [] rest)
  unfolding read
  chain_starts part begin begins ts e rest h = rw (h, flat, begins) (chain_joined e (collect class (reads depth level part) begin [] rest))

-- ---- the lines

pub term_starts : (depth : ℕ) (ts : List Token) (e : Expr) (rest : List Token) → reads depth 0 l.factor ts ≡ Found e rest
    → reads depth 0 l.term ts ≡ joined e (collect class (reads depth 0 l.factor_link) (symbol_code s.Star ∷ symbol_code s.Slash ∷ []) [] rest)
unfolding l.term
term_starts depth ts e rest h = chain_starts depth 0 l.factor level_factor l.factor_link (symbol_code s.Star ∷ symbol_code s.Slash ∷ []) first_factor_link ts e rest h

pub solid_factor_link : empty l.factor_link ≡ false
unfolding l.factor_link g.factor_op
solid_factor_link = refl

pub sum_starts : (depth : ℕ) (ts : List Token) (e : Expr) (rest : List Token) → reads depth 0 l.term ts ≡ Found e rest
    → reads depth 0 l.sum ts ≡ joined e (collect class (reads depth 0 l.term_link) (symbol_code s.Plus ∷ symbol_code s.Minus ∷ []) [] rest)
unfolding l.sum
sum_starts depth ts e rest h = chain_starts depth 0 l.term level_term l.term_link (symbol_code s.Plus ∷ symbol_code s.Minus ∷ []) first_term_link ts e rest h

pub solid_term_link : empty l.term_link ≡ false
unfolding l.term_link g.term_op
solid_term_link = refl

pub conjunction_starts : (depth : ℕ) (ts : List Token) (e : Expr) (rest : List Token) → reads depth 0 l.inversion ts ≡ Found e rest
    → reads depth 0 l.conjunction ts ≡ joined e (collect class (reads depth 0 l.inversion_link) (symbol_code s.Ampersand ∷ []) [] rest)
unfolding l.conjunction
conjunction_starts depth ts e rest h = chain_starts depth 0 l.inversion level_inversion l.inversion_link (symbol_code s.Ampersand ∷ []) first_inversion_link ts e rest h

pub solid_inversion_link : empty l.inversion_link ≡ false
unfolding l.inversion_link
solid_inversion_link = refl

pub whole_starts : (depth : ℕ) (ts : List Token) (e : Expr) (rest : List Token) → reads depth 0 l.conjunction ts ≡ Found e rest
    → reads depth 0 l.expr ts ≡ joined e (collect class (reads depth 0 l.conjunction_link) (symbol_code s.Bar ∷ []) [] rest)
unfolding l.expr
whole_starts depth ts e rest h = chain_starts depth 0 l.conjunction level_conjunction l.conjunction_link (symbol_code s.Bar ∷ []) first_conjunction_link ts e rest h

pub solid_conjunction_link : empty l.conjunction_link ≡ false
unfolding l.conjunction_link
solid_conjunction_link = refl

pub exprs_starts : (depth : ℕ) (ts : List Token) (a : Expr) (rest : List Token) → deeper depth 1 ts ≡ Found a rest
    → reads depth 1 g.exprs ts ≡ collect class (reads depth 1 p.next_expr) (symbol_code s.Comma ∷ []) (a ∷ []) rest
unfolding g.exprs p.next_expr read
exprs_starts depth ts a rest h = list_starts depth 1 again refl p.next_expr (symbol_code s.Comma ∷ []) refl ts a rest h

pub solid_next_expr : empty p.next_expr ≡ false
unfolding p.next_expr
solid_next_expr = refl

pub definitions_starts : (depth : ℕ) (ts : List Token) (a : Definition) (rest : List Token) → reads depth 1 g.definition ts ≡ Found a rest
    → reads depth 1 g.definitions ts ≡ collect class (reads depth 1 p.next_definition) (symbol_code s.Semicolon ∷ []) (a ∷ []) rest
unfolding g.definitions p.next_definition
definitions_starts depth ts a rest h = list_starts depth 1 g.definition level_definition_1 p.next_definition (symbol_code s.Semicolon ∷ []) refl ts a rest h

pub solid_next_definition : empty p.next_definition ≡ false
unfolding p.next_definition
solid_next_definition = refl

pub arms_starts : (depth : ℕ) (ts : List Token) (a : Arm) (rest : List Token) → reads depth 1 g.arm ts ≡ Found a rest
    → reads depth 1 g.arms ts ≡ collect class (reads depth 1 p.next_arm) (word_code r.ElseIf ∷ []) (a ∷ []) rest
unfolding g.arms p.next_arm
arms_starts depth ts a rest h = list_starts depth 1 g.arm level_arm_1 p.next_arm (word_code r.ElseIf ∷ []) refl ts a rest h

pub solid_next_arm : empty p.next_arm ≡ false
unfolding p.next_arm
solid_next_arm = refl

pub assigns_starts : (depth : ℕ) (ts : List Token) (a : Assign) (rest : List Token) → reads depth 2 g.assign ts ≡ Found a rest
    → reads depth 2 g.assigns ts ≡ collect class (reads depth 2 p.next_assign) (symbol_code s.Semicolon ∷ []) (a ∷ []) rest
unfolding g.assigns p.next_assign
assigns_starts depth ts a rest h = list_starts depth 2 g.assign level_assign_2 p.next_assign (symbol_code s.Semicolon ∷ []) refl ts a rest h

pub solid_next_assign : empty p.next_assign ≡ false
unfolding p.next_assign
solid_next_assign = refl

pub names_starts : (depth : ℕ) (ts : List Token) (a : Named) (rest : List Token) → reads depth 2 g.bound ts ≡ Found a rest
    → reads depth 2 g.names ts ≡ collect class (reads depth 2 p.next_name) (symbol_code s.Comma ∷ []) (a ∷ []) rest
unfolding g.names p.next_name
names_starts depth ts a rest h = list_starts depth 2 g.bound level_bound_2 p.next_name (symbol_code s.Comma ∷ []) refl ts a rest h

pub solid_next_name : empty p.next_name ≡ false
unfolding p.next_name
solid_next_name = refl

pub results_starts : (depth : ℕ) (ts : List Token) (a : Sort) (rest : List Token) → reads depth 2 g.sort ts ≡ Found a rest
    → reads depth 2 g.results ts ≡ collect class (reads depth 2 p.next_type) (symbol_code s.Comma ∷ []) (a ∷ []) rest
unfolding g.results p.next_type
results_starts depth ts a rest h = list_starts depth 2 g.sort level_sort_2 p.next_type (symbol_code s.Comma ∷ []) refl ts a rest h

pub solid_next_type : empty p.next_type ≡ false
unfolding p.next_type
solid_next_type = refl

pub groups_starts : (depth : ℕ) (ts : List Token) (a : List Parameter) (rest : List Token) → reads depth 2 g.group ts ≡ Found a rest
    → reads depth 2 g.groups ts ≡ collect class (reads depth 2 p.next_group) (symbol_code s.Semicolon ∷ []) (a ∷ []) rest
unfolding g.groups p.next_group
groups_starts depth ts a rest h = list_starts depth 2 g.group level_group_2 p.next_group (symbol_code s.Semicolon ∷ []) refl ts a rest h

pub solid_next_group : empty p.next_group ≡ false
unfolding p.next_group
solid_next_group = refl

pub functions_starts : (depth : ℕ) (ts : List Token) (a : Function) (rest : List Token) → reads depth 1 g.function ts ≡ Found a rest
    → reads depth 1 g.functions ts ≡ collect class (reads depth 1 g.function) (word_code r.Function ∷ []) (a ∷ []) rest
unfolding g.functions
functions_starts depth ts a rest h = list_starts depth 1 g.function level_function_1 g.function (word_code r.Function ∷ []) first_function ts a rest h

pub solid_function : empty g.function ≡ false
unfolding g.function
solid_function = refl

pub constants_starts : (depth : ℕ) (ts : List Token) → reads depth 1 g.constants ts ≡ collect class (reads depth 1 g.constant) (word_code r.Constant ∷ []) [] ts
unfolding g.constants read
constants_starts depth ts = rw first_constant refl

pub solid_constant : empty g.constant ≡ false
unfolding g.constant
solid_constant = refl

pub ranges_starts : (depth : ℕ) (ts : List Token) → reads depth 1 g.ranges ts ≡ collect class (reads depth 1 g.range) (word_code r.Range ∷ []) [] ts
unfolding g.ranges read
ranges_starts depth ts = rw first_range refl

pub solid_range : empty g.range ≡ false
unfolding g.range
solid_range = refl
