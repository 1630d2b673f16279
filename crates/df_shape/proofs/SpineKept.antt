-- The body of the main function gives the same in a source and in its blocks.
use Rattle.std.proofs.Common.{◌≡◌, Bool, true, false, if◌then◌else◌, ◌&&◌, List, [], ◌∷◌, ◌++◌, append_assoc, append-nil, map, refl, sym, ◌∙◌, ap, ap₂, subst, Option, None}
use Rattle.std.specs.List.{list_all}
use Rattle.std.specs.Prelude.{flat_map, not}
use Rattle.df_values.specs.declared.values.Value.{Value}
use Rattle.df_syntax.specs.declared.bound.Bound.{Bound}
use Rattle.df_syntax.specs.declared.tree.Named.{Named}
use Rattle.df_syntax.specs.declared.tree.Sort.{Sort}
use Rattle.df_syntax.specs.declared.tree.Expr.{Expr}
use Rattle.df_syntax.specs.declared.tree.Definition.{Definition}
use Rattle.df_syntax.specs.declared.tree.Node.{roll-Node}
use Rattle.df_syntax.specs.declared.tree.Node.TheOpen.{Node-F}
use Rattle.df_syntax.specs.declared.piped.Block.{Block}
use Rattle.df_syntax.specs.declared.piped.Outcome.{Outcome}
use Rattle.df_syntax.specs.Trees.{Opened, layer_of}
use Rattle.df_syntax.specs.TreeInduction.{Proved, without, tree_induction}
use Rattle.df_syntax.specs.Besides.{beside_rolled}
use Rattle.df_syntax.specs.Demands.{first_refusal}
use Rattle.df_syntax.proofs.FirstRefusals.{begin_holds, rest_holds}
use Rattle.df_syntax.specs.Meaning.{Name, Env}
use Rattle.df_syntax.specs.BlockMeaning.{blocks_made, result_of, values_of}
use Rattle.df_syntax.specs.FreshNames.{Taken, Fresh, also, with_defined, definitions_fresh, all_fresh, is_fresh}
use Rattle.df_syntax.specs.SourceForms.{Numbers, form, is_let}
use Rattle.df_syntax.specs.SourceMeaning.{Stands, each_bound, body_stands, bounds_defined, stands_node, stands}
use Rattle.df_shape.specs.Renamed.{Names}
use Rattle.df_shape.specs.Shaped.{Blocks, name_standing, define, result, each_result, body_blocks, all_defined, blocks_node, blocks_of}
use Rattle.df_shape.specs.Demands.{Around, Look, or_array, demands_of}
use Rattle.df_shape.specs.Sources.{whole, body_definitions, with_arrays, body_demands, body_node, body_of}
use Rattle.std.proofs.lemmas.Bool.{not-true}
use Rattle.df_syntax.proofs.Tests.{and_left, and_right}
use Rattle.df_shape.proofs.Agreement.{Bounds}
use Rattle.df_shape.proofs.Kept.{Calls, with_calls, fresh_rolled}
use Rattle.df_shape.proofs.BoundsKnown.{bounds_known}
use Rattle.df_shape.proofs.Spine.{firsts, blocks_at}
use Rattle.df_shape.proofs.DefinedKept.{After, Given, defined_after, result_after}

-- a list of expressions, each beside what it gives
abbrev beside : {A : Type 0} → (Expr → A) → List Expr → List (Expr × A)
beside f es = map (λ (e : Expr). (e, f e)) es

-- definitions, each beside what its value gives
abbrev defined_beside : {A : Type 0} → (Expr → A) → List Definition → List (Named × Sort × (Expr × A))
defined_beside f ds = map (λ (d : Definition). (d.name, d.sort, (d.value, f d.value))) ds

abbrev freshness : List Definition → List (Named × Sort × Fresh)
freshness ds = map (λ (d : Definition). (d.name, d.sort, is_fresh d.value)) ds

module _ (numbers : Numbers) (of_source of_blocks : Calls) (same_calls : (name : Name) (vs : List (Option Value)) → of_blocks name vs ≡ of_source name vs)
    (inputs : List (List Value)) (start : Bounds) where
  abbrev Afters : Names → Taken → Bounds → List Block → Type 0
  Afters = After numbers of_source of_blocks same_calls inputs start

  abbrev Gives : (names : Names) (taken : Taken) (source : Bounds) (list : List Block) → Afters names taken source list → List Block → List Outcome → List Bound → Type 0
  Gives = Given numbers of_source of_blocks same_calls inputs start

  -- ---- results

  -- all are fresh, and the demands on each hold
  results_after : (names : Names) (taken : Taken) (source : Bounds) (around : Around) → around.numbers ≡ numbers → (es : List Expr) (sorts : List Sort) (list : List Block)
      → (after : Afters names taken source list) → list_all (λ (e : Expr). is_fresh e taken) es ≡ true → first_refusal (flat_map (λ (e : Expr). demands_of e (whole around)) es) ≡ None
      → Gives names taken source list after (each_result numbers es (record { names = names; blocks = list }) sorts).0 (each_result numbers es (record { names = names; blocks = list }) sorts).1
      (each_bound es (with_calls of_source source) sorts)
  results_after names taken source around same [] sorts list after fresh holds = record { final = after; more = []; grown = sym (append-nil after.made); gives = λ later. refl }
  results_after names taken source around same (e ∷ es) [] list after fresh holds = record { final = after; more = []; grown = sym (append-nil after.made); gives = λ later. refl }
  results_after names taken source around same (e ∷ es) (s ∷ sorts) list after fresh holds =
      let known = bounds_known numbers (whole around) same e (begin_holds (demands_of e (whole around)) (flat_map (λ (e : Expr). demands_of e (whole around)) es) holds) in
      let first = result_after numbers of_source of_blocks same_calls inputs start names taken source list after s e (and_left (is_fresh e taken) _ fresh) known (name_standing numbers names (form e)) refl in
      let rest = results_after names taken source around same es sorts (result numbers (record { names = names; blocks = list }) s e).1 first.final (and_right (is_fresh e taken) _ fresh)
      (rest_holds (demands_of e (whole around)) (flat_map (λ (e : Expr). demands_of e (whole around)) es) holds) in
      record {
        final = rest.final;
        more = first.more ++ rest.more;
        grown = rest.grown ∙ (ap (λ l. l ++ rest.more) first.grown ∙ append_assoc after.made first.more rest.more);
        gives = λ later.
            ap₂ (λ (x : List (List Value)) (xs : List (List Value)). x ++ xs)
            (ap (λ l. map (result_of inputs l) ((result numbers (record { names = names; blocks = list }) s e).0 ∷ []))
            (ap (λ l. l ++ later) rest.grown ∙ append_assoc first.final.made rest.more later)
            ∙ first.gives (rest.more ++ later))
            (rest.gives later);
      }

  -- ---- whole bodies

  -- what blocks make, and what the outcomes give then
  pub record Outcomes (list : List Block) (outcomes : List Outcome) (bounds : List Bound) : Type 0 where
    pub made : List Bound
    pub makes : blocks_made (with_calls of_blocks start) list ≡ made
    pub gives : map (result_of inputs made) outcomes ≡ map values_of bounds

  given_outcomes : (names : Names) (taken : Taken) (source : Bounds) (list : List Block) (after : Afters names taken source list) (list_after : List Block) (outcomes : List Outcome) (bounds : List Bound)
      → Gives names taken source list after list_after outcomes bounds → Outcomes list_after outcomes bounds
  given_outcomes names taken source list after list_after outcomes bounds given = record {
    made = given.final.made ++ [];
    makes = ap (blocks_made (with_calls of_blocks start)) (sym (append-nil list_after)) ∙ given.final.have.split [];
    gives = given.gives [];
  }

  abbrev pub Kept : Expr → Type 0
  Kept e =
      (names : Names) (taken : Taken) (source : Bounds) (list : List Block) (around : Around) → around.numbers ≡ numbers → Afters names taken source list → is_fresh e taken ≡ true
      → first_refusal (body_of e around) ≡ None → (sorts : List Sort)
      → Outcomes (blocks_of numbers e (record { names = names; blocks = list }) sorts).0 (blocks_of numbers e (record { names = names; blocks = list }) sorts).1
      (stands e (with_calls of_source source) sorts)

  -- a body of results
  alone : (names : Names) (taken : Taken) (source : Bounds) (list : List Block) (around : Around) → around.numbers ≡ numbers → Afters names taken source list → (es : List Expr)
      → list_all (λ (e : Expr). is_fresh e taken) es ≡ true → first_refusal (flat_map (λ (e : Expr). demands_of e (whole around)) es) ≡ None → (sorts : List Sort)
      → Outcomes (each_result numbers es (record { names = names; blocks = list }) sorts).0 (each_result numbers es (record { names = names; blocks = list }) sorts).1
      (each_bound es (with_calls of_source source) sorts)
  alone names taken source list around same after es fresh holds sorts =
      given_outcomes names taken source list after _ _ _ (results_after names taken source around same es sorts list after fresh holds)

  -- ---- definitions

  record DefinedAfter (ds : List Definition) (names : Names) (taken : Taken) (source : Bounds) (list : List Block) : Type 0 where
    pub source_after : Bounds
    pub after : Afters (all_defined numbers (record { names = names; blocks = list }) (defined_beside (blocks_of numbers) ds)).names (with_defined (freshness ds) taken) source_after
        (all_defined numbers (record { names = names; blocks = list }) (defined_beside (blocks_of numbers) ds)).blocks
    pub source_is : bounds_defined (with_calls of_source source) (defined_beside stands ds) ≡ with_calls of_source source_after

  definitions_after : (ds : List Definition) (names : Names) (taken : Taken) (source : Bounds) (list : List Block) (around : Around) → around.numbers ≡ numbers → Afters names taken source list
      → definitions_fresh (freshness ds) taken ≡ true → first_refusal (body_definitions around (defined_beside body_of ds)) ≡ None → DefinedAfter ds names taken source list
  definitions_after [] names taken source list around same after fresh holds = record { source_after = source; after = after; source_is = refl }
  definitions_after (d ∷ ds) names taken source list around same after fresh holds =
      let others : Around = record around { arrays = or_array around.arrays d.name.name d.sort } in
      let known = bounds_known numbers (whole around) same d.value (begin_holds (demands_of d.value (whole around)) (body_definitions others (defined_beside body_of ds)) holds) in
      let tail = and_right (not (taken d.name.name)) (is_fresh d.value taken && definitions_fresh (freshness ds) (also taken d.name.name)) fresh in
      let next = defined_after numbers of_source of_blocks same_calls inputs start names taken source list after d.name d.sort d.value
      (not-true (taken d.name.name) (and_left _ _ fresh)) (and_left (is_fresh d.value taken) _ tail) known (name_standing numbers names (form d.value)) refl in
      let made = define numbers (record { names = names; blocks = list }) d.name d.sort d.value in
      let rest = definitions_after ds made.names (also taken d.name.name) _ made.blocks others same next (and_right (is_fresh d.value taken) _ tail)
      (rest_holds (demands_of d.value (whole around)) (body_definitions others (defined_beside body_of ds)) holds) in
      record { source_after = rest.source_after; after = rest.after; source_is = rest.source_is }

  -- ---- the equations of the three recursions

  stands_is : (e : Expr) (x : Opened) → e.node ≡ roll-Node x → stands e ≡ stands_node e (layer_of (Expr × Stands) (λ c. (c, stands c)) x)
  unfolding stands
  stands_is e x is = beside_rolled Stands stands_node e x is

  body_is : (e : Expr) (x : Opened) → e.node ≡ roll-Node x → body_of e ≡ body_node e (layer_of (Expr × Look) (λ c. (c, body_of c)) x)
  unfolding body_of
  body_is e x is = beside_rolled Look body_node e x is

  abbrev KeptBy : Expr → Blocks numbers → Stands → Look → Type 0
  KeptBy e to_blocks to_bounds look =
      (names : Names) (taken : Taken) (source : Bounds) (list : List Block) (around : Around) → around.numbers ≡ numbers → Afters names taken source list → is_fresh e taken ≡ true
      → first_refusal (look around) ≡ None → (sorts : List Sort)
      → Outcomes (to_blocks (record { names = names; blocks = list }) sorts).0 (to_blocks (record { names = names; blocks = list }) sorts).1 (to_bounds (with_calls of_source source) sorts)

  kept_by : (e : Expr) (x : Opened) → e.node ≡ roll-Node x
      → KeptBy e (blocks_node numbers e (layer_of (Expr × Blocks numbers) (λ c. (c, blocks_of numbers c)) x)) (stands_node e (layer_of (Expr × Stands) (λ c. (c, stands c)) x))
      (body_node e (layer_of (Expr × Look) (λ c. (c, body_of c)) x))
      → Kept e
  kept_by e x is h =
      subst (λ (b : Blocks numbers). KeptBy e b (stands e) (body_of e)) (sym (blocks_at numbers e x is))
      (subst (λ (s : Stands). KeptBy e (blocks_node numbers e (layer_of (Expr × Blocks numbers) (λ c. (c, blocks_of numbers c)) x)) s (body_of e)) (sym (stands_is e x is))
      (subst (λ (l : Look). KeptBy e (blocks_node numbers e (layer_of (Expr × Blocks numbers) (λ c. (c, blocks_of numbers c)) x)) (stands_node e (layer_of (Expr × Stands) (λ c. (c, stands c)) x)) l) (sym (body_is e x is)) h))

  -- an expression that is a result by itself
  alone_kept : (e : Expr) → KeptBy e (each_result numbers (e ∷ [])) (each_bound (e ∷ [])) (λ around. demands_of e (whole around))
  alone_kept e names taken source list around same after fresh holds sorts =
      alone names taken source list around same after (e ∷ []) (ap (λ b. b && true) fresh) (ap first_refusal (append-nil (demands_of e (whole around))) ∙ holds) sorts

  where_let : (test : Bool) (e : Expr) (b c : Blocks numbers) (s t : Stands) (l k : Look) → KeptBy e b s l → KeptBy e c t k
      → KeptBy e (if test then b else c) (if test then s else t) (if test then l else k)
  where_let true e b c s t l k p q = p
  where_let false e b c s t l k p q = q

  of_parens : (e of : Expr) → e.node ≡ roll-Node (Node-F.Parens of) → Kept of → KeptBy e (blocks_of numbers of) (stands of) (body_of of)
  of_parens e of is kept names taken source list around same after fresh holds sorts =
      kept names taken source list around same after (sym (ap (λ (f : Fresh). f taken) (fresh_rolled e (Node-F.Parens of) is)) ∙ fresh) holds sorts

  -- the values of a body
  pub values_kept : (es : List ((e : Expr) × Kept e)) (names : Names) (taken : Taken) (source : Bounds) (list : List Block) (around : Around) → around.numbers ≡ numbers → Afters names taken source list
      → all_fresh (map is_fresh (map (λ e. e.0) es)) taken ≡ true → first_refusal (body_demands (beside body_of (map (λ e. e.0) es)) around) ≡ None → (sorts : List Sort)
      → Outcomes (body_blocks numbers (beside (blocks_of numbers) (map (λ e. e.0) es)) (record { names = names; blocks = list }) sorts).0
      (body_blocks numbers (beside (blocks_of numbers) (map (λ e. e.0) es)) (record { names = names; blocks = list }) sorts).1
      (body_stands (beside stands (map (λ e. e.0) es)) (with_calls of_source source) sorts)
  values_kept [] names taken source list around same after fresh holds sorts = alone names taken source list around same after [] refl refl sorts
  values_kept (e ∷ []) names taken source list around same after fresh holds sorts = e.1 names taken source list around same after (and_left (is_fresh e.0 taken) true fresh) holds sorts
  values_kept (e ∷ d ∷ es) names taken source list around same after fresh holds sorts =
      let all = map (λ (c : (e : Expr) × Kept e). c.0) (e ∷ d ∷ es) in
      subst (λ (l : List Expr). Outcomes (each_result numbers l (record { names = names; blocks = list }) sorts).0 (each_result numbers l (record { names = names; blocks = list }) sorts).1
      (each_bound (map (λ (c : Expr × Stands). c.0) (beside stands all)) (with_calls of_source source) sorts))
      (sym (firsts (blocks_of numbers) all))
      (subst (λ (l : List Expr). Outcomes (each_result numbers all (record { names = names; blocks = list }) sorts).0 (each_result numbers all (record { names = names; blocks = list }) sorts).1
      (each_bound l (with_calls of_source source) sorts))
      (sym (firsts stands all))
      (alone names taken source list around same after all (each_fresh all taken fresh) (each_holds all around holds) sorts))
    where
      each_fresh : (l : List Expr) (t : Taken) → all_fresh (map is_fresh l) t ≡ true → list_all (λ (c : Expr). is_fresh c t) l ≡ true
      each_fresh [] t h = refl
      each_fresh (c ∷ l) t h = ap (λ b. b && list_all (λ (c : Expr). is_fresh c t) l) (and_left (is_fresh c t) _ h) ∙ each_fresh l t (and_right (is_fresh c t) _ h)

      each_holds : (l : List Expr) (around : Around) → first_refusal (flat_map (λ (c : Expr × Look). demands_of c.0 (whole around)) (beside body_of l)) ≡ None
          → first_refusal (flat_map (λ (c : Expr). demands_of c (whole around)) l) ≡ None
      each_holds l around h = ap first_refusal (same_demands l around) ∙ h
        where
          same_demands : (l : List Expr) (around : Around) → flat_map (λ (c : Expr). demands_of c (whole around)) l ≡ flat_map (λ (c : Expr × Look). demands_of c.0 (whole around)) (beside body_of l)
          same_demands [] around = refl
          same_demands (c ∷ l) around = ap (λ ds. demands_of c (whole around) ++ ds) (same_demands l around)

  let_kept : (e : Expr) (ds : List Definition) (es : List ((e : Expr) × Kept e)) → e.node ≡ roll-Node (Node-F.Let ds (map (λ e. e.0) es)) → Kept e
  let_kept e ds es is =
      kept_by e (Node-F.Let ds (map (λ e. e.0) es)) is
      (λ names taken source list around same after fresh holds sorts.
      let parts = sym (ap (λ (f : Fresh). f taken) (fresh_rolled e (Node-F.Let ds (map (λ e. e.0) es)) is)) ∙ fresh in
      let defined = definitions_after ds names taken source list around same after (and_left (definitions_fresh (freshness ds) taken) _ parts)
      (begin_holds (body_definitions around (defined_beside body_of ds)) (body_demands (beside body_of (map (λ e. e.0) es)) (with_arrays around (defined_beside body_of ds))) holds) in
      let made = all_defined numbers (record { names = names; blocks = list }) (defined_beside (blocks_of numbers) ds) in
      subst (λ (env : Env). Outcomes (body_blocks numbers (beside (blocks_of numbers) (map (λ e. e.0) es)) made sorts).0 (body_blocks numbers (beside (blocks_of numbers) (map (λ e. e.0) es)) made sorts).1
      (body_stands (beside stands (map (λ e. e.0) es)) env sorts)) (sym defined.source_is)
      (values_kept es made.names (with_defined (freshness ds) taken) defined.source_after made.blocks (with_arrays around (defined_beside body_of ds)) same defined.after
      (and_right (definitions_fresh (freshness ds) taken) _ parts)
      (rest_holds (body_definitions around (defined_beside body_of ds)) (body_demands (beside body_of (map (λ e. e.0) es)) (with_arrays around (defined_beside body_of ds))) holds) sorts))

  step : (e : Expr) (y : Proved Kept) → e.node ≡ roll-Node (without Kept y) → Kept e
  step e (Node-F.Let ds es) is = let_kept e (map (λ d. d.0) ds) es is
  step e (Node-F.Parens of) is =
      kept_by e (Node-F.Parens of.0) is
      (where_let (is_let (form e)) e (blocks_of numbers of.0) (each_result numbers (e ∷ [])) (stands of.0) (each_bound (e ∷ [])) (body_of of.0) (λ around. demands_of e (whole around))
      (of_parens e of.0 is of.1) (alone_kept e))
  step e y is = kept_by e (without Kept y) is (alone_kept e)

  pub expression_kept : (e : Expr) → Kept e
  expression_kept = tree_induction Kept step
