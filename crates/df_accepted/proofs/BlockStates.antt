-- What is kept while the definitions and results of an accepted source are put into blocks.
use Rattle.std.proofs.Common.{arith, ◌≡◌, ℕ, suc, ◌≤◌, Bool, true, false, List, [], ◌∷◌, ◌++◌, length, refl, sym, ◌∙◌, ap, Option, Some, None}
use Rattle.std.proofs.lemmas.List.{length-append}
use Rattle.df_values.specs.declared.values.Basic as basic
use Rattle.df_syntax.specs.declared.tree.Sort.{Sort}
use Rattle.df_syntax.specs.declared.tree.Sort.TheVariants as of
use Rattle.df_syntax.specs.declared.tree.Expr.{Expr}
use Rattle.df_syntax.specs.declared.tree.Node.TheOpen.{Node-F}
use Rattle.df_syntax.specs.declared.program.Function.{Function}
use Rattle.df_syntax.specs.declared.piped.Block.{Block}
use Rattle.df_syntax.specs.declared.piped.Outcome.{Outcome}
use Rattle.df_syntax.specs.declared.piped.Outcome.TheVariants as outcome
use Rattle.df_syntax.specs.Demands.{first_refusal}
use Rattle.df_syntax.specs.Meaning.{Name}
use Rattle.df_syntax.specs.SourceForms.{Numbers, form}
use Rattle.df_syntax.specs.Trees.{Opened}
use Rattle.df_syntax.specs.WellBuilt.{is_bounded}
use Rattle.df_syntax.specs.WellShaped.{Around, Known, IsPlace, body_sort, with_some, blocks_fit}
use Rattle.df_types.specs.declared.entry.Entry.TheVariants as entry
use Rattle.df_types.specs.Scopes as scopes
use Rattle.df_types.specs.Types.{Look, look_of}
use Rattle.df_shape.specs.declared.part.Part.TheVariants.{Whole}
use Rattle.df_shape.specs.declared.standing.Standing.{Standing}
use Rattle.df_shape.specs.declared.standing.Standing.TheVariants as standing
use Rattle.df_shape.specs.Demands.{demands_of}
use Rattle.df_shape.specs.Renamed.{Names}
use Rattle.df_shape.specs.Shaped.{Made, body_of, name_standing, result_by, result}
use Rattle.df_accepted.proofs.Agreed.{Agrees, Sorts}
use Rattle.df_accepted.proofs.Forms.{around}
use Rattle.df_accepted.proofs.GivenArrays.{ArraysKnown}
use Rattle.df_accepted.proofs.ManifestParts.{NumbersStand}
use Rattle.df_accepted.proofs.TypedBodies.{body_typed}
use Rattle.df_accepted.proofs.TypedParts.{here}

-- ---- blocks one after the other

-- each block has a sort with the names before it, and these names stand behind them all
abbrev pub BlocksGive : Around → List Block → Around → Type 0
BlocksGive start [] end = start ≡ end
BlocksGive start (b ∷ blocks) end = (s : Sort) × (body_sort start b.body ≡ Some s) × BlocksGive (with_some start b.name s) blocks end

pub block_more : (start end : Around) (blocks : List Block) (b : Block) (s : Sort) → BlocksGive start blocks end → body_sort end b.body ≡ Some s
    → BlocksGive start (blocks ++ b ∷ []) (with_some end b.name s)
block_more start end [] b s h is = (s, ap (λ (a : Around). body_sort a b.body) h ∙ is, ap (λ (a : Around). with_some a b.name s) h)
block_more start end (c ∷ blocks) b s h is = (h.0, h.1, block_more (with_some start c.name h.0) end blocks b s h.2 is)

pub blocks_give : (start end : Around) (blocks : List Block) → BlocksGive start blocks end → blocks_fit start blocks ≡ true
blocks_give start end [] h = refl
blocks_give start end (b ∷ blocks) h =
    ap (λ (o : Option Sort). elim o as (λ o. Bool) [ None ↦ false | Some sort ↦ blocks_fit (with_some start b.name sort) blocks ]) h.1 ∙ blocks_give (with_some start b.name h.0) end blocks h.2

-- ---- places

-- what a name stands for has its place
abbrev pub IsPlaced : ℕ → ℕ → Standing → Type 0
IsPlaced parameters blocks (standing.Constant k) = Unit {0}
IsPlaced parameters blocks (standing.Scalar o) = IsPlace parameters blocks o
IsPlaced parameters blocks (standing.Array o other) = IsPlace parameters blocks o

pub place_more : (parameters m n : ℕ) (o : Outcome) → m ≤ n → IsPlace parameters m o → IsPlace parameters n o
place_more parameters m n (outcome.Parameter k) more h = h
place_more parameters m n (outcome.Block k) more h = omega (arith, more, h)

pub placed_more : (parameters m n : ℕ) (s : Standing) → m ≤ n → IsPlaced parameters m s → IsPlaced parameters n s
placed_more parameters m n (standing.Constant k) more h = h
placed_more parameters m n (standing.Scalar o) more h = place_more parameters m n o more h
placed_more parameters m n (standing.Array o other) more h = place_more parameters m n o more h

pub length_more : (blocks : List Block) (b : Block) → length (blocks ++ b ∷ []) ≡ suc (length blocks)
length_more blocks b = let l = length-append blocks (b ∷ []) in omega (arith, l)

-- a plain name stands for what that name does
pub named_form : (numbers : Numbers) (names : Names) (x : Opened) (s : Standing) → name_standing numbers names x ≡ Some s → (m : Name) × (x ≡ Node-F.Name m) × (names m ≡ Some s)
named_form numbers names (Node-F.Name m) s is = (m, refl, is)
named_form numbers names x s is = absurd (cc)

module _ (all functions : List Function) (numbers : Numbers) (callable gives : Name → Bool) (start : Around) (parameters : ℕ) where
  -- What has been made so far.
  pub record Going (scope : scopes.Names) (sorts : Sorts) (made : Made) : Type 0 where
    pub agrees : Agrees all functions callable made.names scope sorts
    pub stand : NumbersStand numbers made.names
    pub arrays : (m : Name) (b : basic.Basic) → scope m ≡ Some (entry.Local (of.Array b)) → (o : Outcome) × (other : Name) × (made.names m ≡ Some (standing.Array o other))
    pub places : (m : Name) (s : Standing) → made.names m ≡ Some s → IsPlaced parameters (length made.blocks) s
    pub blocks : BlocksGive start made.blocks (around sorts functions Known)

  abbrev l : Expr → Look
  l = look_of all

  -- what is demanded of a definition or a result
  pub record Demanded (scope : scopes.Names) (arrays : Name → Bool) (names : Names) (stand : NumbersStand numbers names) (s : Sort) (e : Expr) : Type 0 where
    pub bounded : is_bounded e ≡ true
    pub typed : first_refusal ((look_of all e).demands scope) ≡ None
    pub sort : (look_of all e).sort scope ≡ s
    pub form : first_refusal (demands_of e (here all functions numbers names stand arrays callable gives Whole)) ≡ None

  module _ (scope : scopes.Names) (sorts : Sorts) (made : Made) (going : Going scope sorts made) (arrays : Name → Bool) (known : ArraysKnown scope arrays) where
    -- the block that makes it has its sort
    pub block_typed : (s : Sort) (e : Expr) → Demanded scope arrays made.names going.stand s e
        → ((b : basic.Basic) (o : Outcome) (other : Name) → s ≡ of.Array b → name_standing numbers made.names (form e) ≡ Some (standing.Array o other) → ⊥)
        → body_sort (around sorts functions Known) (body_of numbers made.names s e) ≡ Some s
    block_typed s e demanded apart =
        body_typed all functions numbers made.names going.stand arrays callable gives scope sorts going.agrees known going.arrays s e demanded.bounded demanded.typed demanded.sort demanded.form apart

    -- ---- results

    abbrev Resulting : Outcome × List Block → Type 0
    Resulting r = Going scope sorts (record made { blocks = r.1 }) × IsPlace parameters (length r.1) r.0 × (length made.blocks ≤ length r.1)

    result_block : (s : Sort) (e : Expr) → body_sort (around sorts functions Known) (body_of numbers made.names s e) ≡ Some s
        → Resulting (outcome.Block (length made.blocks), made.blocks ++ record { name = None; body = body_of numbers made.names s e } ∷ [])
    result_block s e typed =
        let b : Block = record { name = None; body = body_of numbers made.names s e } in
        let more = length_more made.blocks b in (
          record {
            agrees = going.agrees;
            stand = going.stand;
            arrays = going.arrays;
            places = λ m x is. placed_more parameters (length made.blocks) (length (made.blocks ++ b ∷ [])) x (omega (arith, more)) (going.places m x is);
            blocks = block_more start (around sorts functions Known) made.blocks b s going.blocks typed;
          },
          omega (arith, more),
          omega (arith, more),
        )

    result_plain : (o : Outcome) → IsPlace parameters (length made.blocks) o → Resulting (o, made.blocks)
    result_plain o place = (going, place, omega arith)

    pub result_going : (s : Sort) (e : Expr) → Demanded scope arrays made.names going.stand s e → Resulting (result numbers made s e)
    result_going s e demanded = by s (name_standing numbers made.names (form e)) demanded refl
      where
        by : (t : Sort) (x : Option Standing) → Demanded scope arrays made.names going.stand t e → name_standing numbers made.names (form e) ≡ x → Resulting (result_by numbers made t e x)
        by (of.Basic b) x demand_t is = result_block (of.Basic b) e (block_typed (of.Basic b) e demand_t (λ c o other at at2. cc))
        by (of.Array b) (Some (standing.Array o other)) demand_t is = let found = named_form numbers made.names (form e) (standing.Array o other) is in result_plain o (going.places found.0 (standing.Array o other) found.2)
        by (of.Array b) None demand_t is = result_block (of.Array b) e (block_typed (of.Array b) e demand_t (λ c o other at at2. let bad = sym is ∙ at2 in cc))
        by (of.Array b) (Some (standing.Constant k)) demand_t is = result_block (of.Array b) e (block_typed (of.Array b) e demand_t (λ c o other at at2. let bad = sym is ∙ at2 in cc))
        by (of.Array b) (Some (standing.Scalar o)) demand_t is = result_block (of.Array b) e (block_typed (of.Array b) e demand_t (λ c o2 other at at2. let bad = sym is ∙ at2 in cc))
