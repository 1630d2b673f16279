-- The body of a main function, as it is put into blocks.
use Rattle.std.proofs.Common.{◌≡◌, Result, Ok, Err, OnOk, subst, true, false, if◌then◌else◌, List, [], ◌∷◌, ◌++◌, map, length, refl, sym, ◌∙◌, ap, append-nil}
use Rattle.std.proofs.lemmas.List.Elements.{All-push}
use Rattle.df_syntax.specs.declared.tree.Sort.{Sort}
use Rattle.df_syntax.specs.declared.tree.Expr.{Expr}
use Rattle.df_syntax.specs.declared.tree.Definition.{Definition}
use Rattle.df_syntax.specs.declared.tree.Node.{roll-Node, out-Node}
use Rattle.df_syntax.specs.declared.tree.Node.TheVariants as n
use Rattle.df_syntax.specs.declared.tree.Node.TheOpen.{Node-F}
use Rattle.df_syntax.specs.declared.piped.Block.{Block}
use Rattle.df_syntax.specs.declared.piped.Outcome.{Outcome}
use Rattle.df_syntax.specs.Trees.{Opened, layer_of}
use Rattle.df_syntax.specs.Besides.{beside_rolled}
use Rattle.df_syntax.specs.SourceForms.{Numbers, form, is_let}
use Rattle.df_shape.specs.declared.blocks.Building.{Building}
use Rattle.df_shape.specs.Shaped.{Made, Blocks, define, all_defined, each_result, blocks_node, blocks_of, main_blocks}
use Rattle.df_shape.specs.Bounded.{HasBounds, HaveBounds}
use Rattle.df_shape.specs.Building.{made_of, parts_of, with_parts, definitions_made}
use Rattle.df_shape.proofs.Opened.{rolled_from, is_parens}
use Rattle.df_shape.proofs.Opened as opened

-- ---- bounds

-- one block more
pub bounds_more : (blocks new : List Block) (b : Block) → new ≡ blocks ++ b ∷ [] → HasBounds b.body → HaveBounds blocks → HaveBounds new
bounds_more blocks new b is h all = rw is (All-push (λ (b : Block). HasBounds b.body) blocks b all h)

-- ---- results

-- no further results
pub no_sorts : (numbers : Numbers) (vs : List Expr) (at : Building) → with_parts at (each_result numbers vs (made_of at) []) ≡ parts_of at
no_sorts numbers [] at = ap (λ (l : List Outcome). (at.blocks, l)) (append-nil at.results)
no_sorts numbers (v ∷ vs) at = ap (λ (l : List Outcome). (at.blocks, l)) (append-nil at.results)

-- ---- forms

-- what an expression gives in blocks, by its node
pub blocks_at : (numbers : Numbers) (e : Expr) (x : Opened) → e.node ≡ roll-Node x
    → blocks_of numbers e ≡ blocks_node numbers e (layer_of (Expr × Blocks numbers) (λ c. (c, blocks_of numbers c)) x)
unfolding blocks_of
blocks_at numbers e x is = beside_rolled (Blocks numbers) (blocks_node numbers) e x is

all_made : (numbers : Numbers) (ds : List Definition) (m : Made)
    → all_defined numbers m (map (λ (d : Definition). (d.name, d.sort, (d.value, blocks_of numbers d.value))) ds) ≡ definitions_made numbers m ds
all_made numbers [] m = refl
all_made numbers (d ∷ ds) m = all_made numbers ds (define numbers m d.name d.sort d.value)

-- a `let`
pub let_blocks : (numbers : Numbers) (e : Expr) (ds : List Definition) (values : List Expr) (m : Made) (sorts : List Sort) → e.node ≡ n.Let ds values
    → blocks_of numbers e m sorts ≡ main_blocks numbers values (definitions_made numbers m ds) sorts
let_blocks numbers e ds values m sorts is =
    ap (λ (b : Blocks numbers). b m sorts) (blocks_at numbers e (Node-F.Let ds values) (is ∙ sym (n.rolls-Let ds values)))
    ∙ ap (λ (m : Made). main_blocks numbers values m sorts) (all_made numbers ds m)

-- a `let` in parentheses, and what else stands in them
pub parens_let : (numbers : Numbers) (e : Expr) (of : Expr) → e.node ≡ n.Parens of → is_let (form e) ≡ true → blocks_of numbers e ≡ blocks_of numbers of
parens_let numbers e of is h =
    blocks_at numbers e (Node-F.Parens of) (is ∙ sym (n.rolls-Parens of)) ∙ ap (λ b. if b then blocks_of numbers of else each_result numbers (e ∷ [])) h

pub parens_plain : (numbers : Numbers) (e : Expr) (of : Expr) → e.node ≡ n.Parens of → is_let (form e) ≡ false
    → blocks_of numbers e ≡ each_result numbers (e ∷ [])
parens_plain numbers e of is h =
    blocks_at numbers e (Node-F.Parens of) (is ∙ sym (n.rolls-Parens of)) ∙ ap (λ b. if b then blocks_of numbers of else each_result numbers (e ∷ [])) h

plain_at : (numbers : Numbers) (e : Expr) (f : Expr → Blocks numbers) (x : Opened) → ((of : Expr) → x ≡ Node-F.Parens of → ⊥)
    → ((ds : List Definition) (values : List Expr) → x ≡ Node-F.Let ds values → ⊥)
    → blocks_node numbers e (layer_of (Expr × Blocks numbers) (λ c. (c, f c)) x) ≡ each_result numbers (e ∷ [])
plain_at numbers e f (Node-F.Parens of) p q = absurd (p of refl)
plain_at numbers e f (Node-F.Let ds values) p q = absurd (q ds values refl)
plain_at numbers e f x p q = refl

-- any other expression is a result
pub plain_blocks : (numbers : Numbers) (e : Expr) → ((of : Expr) → e.node ≡ n.Parens of → ⊥)
    → ((ds : List Definition) (values : List Expr) → e.node ≡ n.Let ds values → ⊥)
    → blocks_of numbers e ≡ each_result numbers (e ∷ [])
plain_blocks numbers e p q =
    blocks_at numbers e (out-Node e.node) (rolled_from e.node)
    ∙ plain_at numbers e (blocks_of numbers) (out-Node e.node) (λ of is. p of (is_parens e.node of is))
    (λ ds values is. q ds values (opened.is_let e.node ds values is))

pub firsts : {X : Type 0} {A : X → Type 0} (f : (x : X) → A x) (xs : List X) → map (λ (p : (x : X) × A x). p.0) (map (λ (x : X). (x, f x)) xs) ≡ xs
firsts f [] = refl
firsts f (x ∷ xs) = ap (λ l. x ∷ l) (firsts f xs)

-- none or several values are results
pub several : (numbers : Numbers) (vs : List Expr) → (length vs ≡ 1 → ⊥) → main_blocks numbers vs ≡ each_result numbers vs
several numbers [] p = refl
several numbers (v ∷ []) p = absurd (p refl)
several numbers (v ∷ w ∷ vs) p = ap (λ l. each_result numbers (v ∷ w ∷ l)) (firsts (blocks_of numbers) vs)

-- ---- steps of the code

pub after_ok : {T F : Type 0} {P Q : Type 0} (r : Result T F) → (P → Q) → OnOk r P → OnOk r Q
after_ok (Ok x) f h = f h
after_ok (Err e) f h = h

pub carried : {T F : Type 0} (r : Result T F) (at : Building) (x y : List Block × List Outcome) → x ≡ y → OnOk r (parts_of at ≡ x) → OnOk r (parts_of at ≡ y)
carried r at x y is = subst (λ (z : List Block × List Outcome). OnOk r (parts_of at ≡ z)) is

-- the definitions of a `let`, and then its body
pub let_step : (numbers : Numbers) (e : Expr) (ds ds' : List Definition) (values values' : List Expr) (sorts : List Sort) (before at : Building)
    → e.node ≡ n.Let ds values
    → ds' ≡ ds → values' ≡ values → made_of at ≡ definitions_made numbers (made_of before) ds' → at.results ≡ before.results
    → with_parts at (main_blocks numbers values' (made_of at) sorts) ≡ with_parts before (blocks_of numbers e (made_of before) sorts)
let_step numbers e ds ds' values values' sorts before at is p q made results =
    ap (λ (m : Made). with_parts at (main_blocks numbers values' m sorts)) (made ∙ ap (definitions_made numbers (made_of before)) p)
    ∙ (ap (λ (vs : List Expr). with_parts at (main_blocks numbers vs (definitions_made numbers (made_of before) ds) sorts)) q
    ∙ (ap (λ (l : List Outcome). (
      (main_blocks numbers values (definitions_made numbers (made_of before) ds) sorts).0,
      l ++
          (main_blocks numbers values (definitions_made numbers (made_of before) ds) sorts).1,
    )) results
    ∙ ap (with_parts before) (sym (let_blocks numbers e ds values (made_of before) sorts is))))

pub ended : (numbers : Numbers) (vs : List Expr) (ss : List Sort) (at : Building) → ss ≡ []
    → parts_of at ≡ with_parts at (each_result numbers vs (made_of at) ss)
ended numbers vs ss at is = sym (ap (λ (l : List Sort). with_parts at (each_result numbers vs (made_of at) l)) is ∙ no_sorts numbers vs at)
