-- A definition and a result stand for the same in a source and in its blocks.
use Rattle.std.proofs.Common.{◌≡◌, ℤ, ◌+◌, true, false, List, [], ◌∷◌, ◌++◌, append_assoc, append-nil, length, map, refl, sym, ◌∙◌, ap, subst, Option, Some, None, bytes_eq}
use Rattle.std.specs.Prelude.{slice_index_or}
use Rattle.std.proofs.lemmas.List.{length-append}
use Rattle.std.proofs.lemmas.Slice.Eq.{bytes_eq-Decides}
use Rattle.df_values.specs.declared.values.Value.{Value}
use Rattle.df_values.specs.declared.values.Basic.{Basic}
use Rattle.df_syntax.specs.declared.bound.Bound.{Bound}
use Rattle.df_syntax.specs.declared.tree.Named.{Named}
use Rattle.df_syntax.specs.declared.tree.Sort.{Sort}
use Rattle.df_syntax.specs.declared.tree.Sort.TheVariants as of
use Rattle.df_syntax.specs.declared.tree.Expr.{Expr}
use Rattle.df_syntax.specs.declared.tree.Node.TheOpen.{Node-F}
use Rattle.df_syntax.specs.declared.piped.Body.{Body}
use Rattle.df_syntax.specs.declared.piped.Block.{Block}
use Rattle.df_syntax.specs.declared.piped.Outcome.{Outcome}
use Rattle.df_syntax.specs.declared.piped.Outcome.TheVariants as outcome
use Rattle.df_syntax.specs.Trees.{Opened}
use Rattle.df_syntax.specs.Meaning.{Name}
use Rattle.df_syntax.specs.BlockMeaning.{blocks_made, result_of, values_of, cut}
use Rattle.df_syntax.specs.BlockMeaning as blocks_of
use Rattle.df_syntax.specs.FreshNames.{Taken, also, is_fresh}
use Rattle.df_syntax.specs.SourceForms.{Numbers, form}
use Rattle.df_syntax.specs.SourceMeaning.{name_bound, scalar_bound, array_bound, bound_of}
use Rattle.df_names.specs.Maps.{bind}
use Rattle.df_shape.specs.declared.standing.Standing.{Standing}
use Rattle.df_shape.specs.declared.standing.Standing.TheVariants as standing
use Rattle.df_shape.specs.Renamed.{Names}
use Rattle.df_shape.specs.Shaped.{Made, standing_by, body_of, name_standing, define_by, result_by}
use Rattle.df_shape.proofs.Agreement.{Bounds, itself_after, also_taken}
use Rattle.df_shape.proofs.Kept.{Calls, with_calls}
use Rattle.df_shape.proofs.MainNames.{AreKnown, HaveMade, Known, known_after, known_alias, also_itself}
use Rattle.df_shape.proofs.BoundsKnown.{BoundsKnown}
use Rattle.df_shape.proofs.BodyKept.{side_kept}

-- ---- lists

at_end : (made : List Bound) (b : Bound) (later : List Bound) → slice_index_or (map values_of ((made ++ b ∷ []) ++ later)) (length made) [] ≡ values_of b
at_end [] b later = refl
at_end (m ∷ made) b later = at_end made b later

one_longer : {A B : Type 0} (l : List A) (m : List B) (a : A) (b : B) → length l ≡ length m → length (l ++ a ∷ []) ≡ length (m ++ b ∷ [])
one_longer l m a b same = length-append l (a ∷ []) ∙ (ap (λ n. n + 1) same ∙ sym (length-append m (b ∷ [])))

pub is_itself : (x : Name) → bytes_eq x x ≡ true
is_itself x = (bytes_eq-Decides x x).1 refl

-- what an expression is, whose name has a standing
pub standing_name : (numbers : Numbers) (names : Names) (x : Opened) (s : Standing) → name_standing numbers names x ≡ Some s → (name : Name) × (x ≡ Node-F.Name name) × (names name ≡ Some s)
standing_name numbers names (Node-F.Name name) s is = (name, refl, is)
standing_name numbers names x s is = cc

scalar_apart : (k o : Outcome) (other : Name) → Some (standing.Scalar k) ≡ Some (standing.Array o other) → ⊥
scalar_apart k o other q = cc

constant_apart : (k : ℤ) (o : Outcome) (other : Name) → Some (standing.Constant k) ≡ Some (standing.Array o other) → ⊥
constant_apart k o other q = cc

none_apart : (o : Outcome) (other : Name) → None ≡ Some (standing.Array o other) → ⊥
none_apart o other q = cc

basic_apart : (a b : Basic) → of.Basic a ≡ of.Array b → ⊥
basic_apart a b q = cc

module _ (numbers : Numbers) (of_source of_blocks : Calls) (same_calls : (name : Name) (vs : List (Option Value)) → of_blocks name vs ≡ of_source name vs)
    (inputs : List (List Value)) (start : Bounds) where
  -- what is known after some blocks
  pub record After (names : Names) (taken : Taken) (source : Bounds) (list : List Block) : Type 0 where
    pub blocks : Bounds
    pub made : List Bound
    pub are : AreKnown numbers of_blocks inputs start names taken source blocks made
    pub have : HaveMade numbers of_blocks inputs start blocks list made

  pub own_target : (taken : Taken) (x : Name) (sort : Sort) (k : Outcome) (o : Outcome) (other : Name) → standing_by sort k x ≡ standing.Array o other → also taken x other ≡ true
  own_target taken x (of.Basic basic) k o other is = absurd (apart is)
    where
      apart : standing.Scalar k ≡ standing.Array o other → ⊥
      apart q = cc
  own_target taken x (of.Array basic) k o other is = also_itself numbers of_blocks inputs start taken x other (ap (bytes_eq x) (target is) ∙ is_itself x)
    where
      target : standing.Array k x ≡ standing.Array o other → other ≡ x
      target q = cc

  module _ (names : Names) (taken : Taken) (source : Bounds) (list : List Block) (after : After names taken source list) where
    -- ---- one block more

    more_made : (name : Option Name) (body : Body) (b : Bound) → blocks_of.made (with_calls of_blocks after.blocks) body ≡ b → (blocks : Bounds)
        → blocks_of.bind_some (with_calls of_blocks after.blocks) name b ≡ with_calls of_blocks blocks
        → HaveMade numbers of_blocks inputs start blocks (list ++ record { name = name; body = body } ∷ []) (after.made ++ b ∷ [])
    more_made name body b is blocks bound = record {
      long = one_longer after.made list b (record { name = name; body = body }) after.have.long;
      split = λ more.
          ap (blocks_made (with_calls of_blocks start)) (append_assoc list (record { name = name; body = body } ∷ []) more)
          ∙ (after.have.split (record { name = name; body = body } ∷ more)
          ∙ (ap (λ c. after.made ++ c ∷ blocks_made (blocks_of.bind_some (with_calls of_blocks after.blocks) name c) more) is
          ∙ (ap (λ env. after.made ++ b ∷ blocks_made env more) bound ∙ sym (append_assoc after.made (b ∷ []) (blocks_made (with_calls of_blocks blocks) more)))));
    }

    last_result : (b : Bound) (later : List Bound) → result_of inputs ((after.made ++ b ∷ []) ++ later) (outcome.Block (length list)) ≡ values_of b
    last_result b later = ap (λ k. slice_index_or (map values_of ((after.made ++ b ∷ []) ++ later)) k []) (sym after.have.long) ∙ at_end after.made b later

    -- ---- a definition

    block_known : (x : Name) (sort : Sort) (e : Expr) (name : Name) → bytes_eq x name ≡ true
        → Known numbers of_blocks inputs start (source ++ (x, bound_of (with_calls of_source source) sort e) ∷ []) (after.blocks ++ (x, bound_of (with_calls of_source source) sort e) ∷ [])
        (after.made ++ bound_of (with_calls of_source source) sort e ∷ []) name (Some (standing_by sort (outcome.Block (length list)) x))
    block_known x (of.Basic basic) e name is =
        let b = bound_of (with_calls of_source source) (of.Basic basic) e in
        record {
          value = scalar_bound (with_calls of_source source) e (form e);
          in_source = itself_after source x b name is;
          in_blocks = itself_after after.blocks x b name is;
          results = last_result b;
        }
    block_known x (of.Array basic) e name is =
        let b = bound_of (with_calls of_source source) (of.Array basic) e in
        record { array = b; in_source = itself_after source x b name is; in_blocks = itself_after after.blocks x b x (is_itself x); results = last_result b }

    block_after : (x : Named) (sort : Sort) (e : Expr) → taken x.name ≡ false → is_fresh e taken ≡ true → BoundsKnown numbers (form e)
        → ((basic : Basic) → sort ≡ of.Array basic → (o : Outcome) (other : Name) → name_standing numbers names (form e) ≡ Some (standing.Array o other) → ⊥)
        → After (bind names x.name (standing_by sort (outcome.Block (length list)) x.name)) (also taken x.name) (source ++ (x.name, bound_of (with_calls of_source source) sort e) ∷ [])
        (list ++ record { name = Some x.name; body = body_of numbers names sort e } ∷ [])
    block_after x sort e new fresh known plain =
        let b = bound_of (with_calls of_source source) sort e in
        record {
          blocks = after.blocks ++ (x.name, b) ∷ [];
          made = after.made ++ b ∷ [];
          are =
              known_after numbers of_blocks inputs start names taken source after.blocks after.made after.are x.name (standing_by sort (outcome.Block (length list)) x.name) new b (b ∷ [])
              (own_target taken x.name sort (outcome.Block (length list))) (block_known x.name sort e);
          have = more_made (Some x.name) (body_of numbers names sort e) b
              (side_kept numbers of_source of_blocks same_calls inputs start names taken source after.blocks after.made after.are sort e fresh known plain) (after.blocks ++ (x.name, b) ∷ []) refl;
        }

    alias_after : (x : Named) (basic : Basic) (e : Expr) (o : Outcome) (other : Name) → taken x.name ≡ false → name_standing numbers names (form e) ≡ Some (standing.Array o other)
        → After (bind names x.name (standing.Array o other)) (also taken x.name) (source ++ (x.name, bound_of (with_calls of_source source) (of.Array basic) e) ∷ []) list
    alias_after x basic e o other new is =
        let named = standing_name numbers names (form e) (standing.Array o other) is in
        let b = bound_of (with_calls of_source source) (of.Array basic) e in
        let known = subst (Known numbers of_blocks inputs start source after.blocks after.made named.0) named.2 (after.are.known named.0) in
        let same : b ≡ known.array = ap (array_bound (with_calls of_source source) e) named.1 ∙ ap name_bound known.in_source in
        record {
          blocks = after.blocks;
          made = after.made;
          are =
              known_alias numbers of_blocks inputs start names taken source after.blocks after.made after.are x.name (standing.Array o other) new b
              (λ p q at. also_taken taken x.name q (after.are.array_taken named.0 p q (named.2 ∙ ap Some at)))
              (λ name at. record { array = known.array; in_source = itself_after source x.name b name at ∙ ap Some same; in_blocks = known.in_blocks; results = known.results });
          have = after.have;
        }

    abbrev so_far : Made
    so_far = record { names = names; blocks = list }

    -- the names and the blocks after a definition
    pub defined_after : (x : Named) (sort : Sort) (e : Expr) → taken x.name ≡ false → is_fresh e taken ≡ true → BoundsKnown numbers (form e) → (s : Option Standing) → name_standing numbers names (form e) ≡ s
        → After (define_by numbers so_far x sort e s).names (also taken x.name) (source ++ (x.name, bound_of (with_calls of_source source) sort e) ∷ []) (define_by numbers so_far x sort e s).blocks
    defined_after x (of.Array basic) e new fresh known (Some (standing.Array o other)) is = alias_after x basic e o other new is
    defined_after x (of.Array basic) e new fresh known (Some (standing.Scalar k)) is = block_after x (of.Array basic) e new fresh known (λ b q o other at. scalar_apart k o other (sym is ∙ at))
    defined_after x (of.Array basic) e new fresh known (Some (standing.Constant k)) is = block_after x (of.Array basic) e new fresh known (λ b q o other at. constant_apart k o other (sym is ∙ at))
    defined_after x (of.Array basic) e new fresh known None is = block_after x (of.Array basic) e new fresh known (λ b q o other at. none_apart o other (sym is ∙ at))
    defined_after x (of.Basic basic) e new fresh known s is = block_after x (of.Basic basic) e new fresh known (λ b q o other at. basic_apart basic b q)

    -- ---- a result

    -- the same names, and no fewer bounds
    pub record Given (list_after : List Block) (outcomes : List Outcome) (bounds : List Bound) : Type 0 where
      pub final : After names taken source list_after
      pub more : List Bound
      pub grown : final.made ≡ after.made ++ more
      pub gives : (later : List Bound) → map (result_of inputs (final.made ++ later)) outcomes ≡ map values_of bounds

    known_more : (more : List Bound) (name : Name) (s : Option Standing) → Known numbers of_blocks inputs start source after.blocks after.made name s
        → Known numbers of_blocks inputs start source after.blocks (after.made ++ more) name s
    known_more more name None known = known
    known_more more name (Some (standing.Constant k)) known = known
    known_more more name (Some (standing.Scalar o)) known =
        record { value = known.value; in_source = known.in_source; in_blocks = known.in_blocks; results = λ later. ap (λ l. result_of inputs l o) (append_assoc after.made more later) ∙ known.results (more ++ later) }
    known_more more name (Some (standing.Array o other)) known =
        record { array = known.array; in_source = known.in_source; in_blocks = known.in_blocks; results = λ later. ap (λ l. result_of inputs l o) (append_assoc after.made more later) ∙ known.results (more ++ later) }

    -- a result that has a block of its own
    own_block : (sort : Sort) (e : Expr) → is_fresh e taken ≡ true → BoundsKnown numbers (form e)
        → ((basic : Basic) → sort ≡ of.Array basic → (o : Outcome) (other : Name) → name_standing numbers names (form e) ≡ Some (standing.Array o other) → ⊥)
        → Given (list ++ record { name = None; body = body_of numbers names sort e } ∷ []) (outcome.Block (length list) ∷ []) (bound_of (with_calls of_source source) sort e ∷ [])
    own_block sort e fresh known plain =
        let b = bound_of (with_calls of_source source) sort e in
        record {
          final = record {
            blocks = after.blocks;
            made = after.made ++ b ∷ [];
            are = record {
              standing_taken = after.are.standing_taken;
              array_taken = after.are.array_taken;
              constants_are = after.are.constants_are;
              known = λ name. known_more (b ∷ []) name (names name) (after.are.known name);
            };
            have = more_made None (body_of numbers names sort e) b
                (side_kept numbers of_source of_blocks same_calls inputs start names taken source after.blocks after.made after.are sort e fresh known plain) after.blocks refl;
          };
          more = b ∷ [];
          grown = refl;
          gives = λ later. ap (λ l. l ∷ []) (last_result b later);
        }

    -- a result that is an array by its name
    named_result : (o : Outcome) (b : Bound) → ((later : List Bound) → result_of inputs (after.made ++ later) o ≡ values_of b) → Given list (o ∷ []) (b ∷ [])
    named_result o b results = record { final = after; more = []; grown = sym (append-nil after.made); gives = λ later. ap (λ l. l ∷ []) (results later) }

    pub result_after : (sort : Sort) (e : Expr) → is_fresh e taken ≡ true → BoundsKnown numbers (form e) → (s : Option Standing) → name_standing numbers names (form e) ≡ s
        → Given (result_by numbers so_far sort e s).1 ((result_by numbers so_far sort e s).0 ∷ []) (bound_of (with_calls of_source source) sort e ∷ [])
    result_after (of.Array basic) e fresh known (Some (standing.Array o other)) is =
        let named = standing_name numbers names (form e) (standing.Array o other) is in
        let k = subst (Known numbers of_blocks inputs start source after.blocks after.made named.0) named.2 (after.are.known named.0) in
        let same : bound_of (with_calls of_source source) (of.Array basic) e ≡ k.array = ap (array_bound (with_calls of_source source) e) named.1 ∙ ap name_bound k.in_source in
        named_result o (bound_of (with_calls of_source source) (of.Array basic) e) (λ later. k.results later ∙ sym (ap values_of same))
    result_after (of.Array basic) e fresh known None is = own_block (of.Array basic) e fresh known (λ b q o other at. none_apart o other (sym is ∙ at))
    result_after (of.Array basic) e fresh known (Some (standing.Constant k)) is = own_block (of.Array basic) e fresh known (λ b q o other at. constant_apart k o other (sym is ∙ at))
    result_after (of.Array basic) e fresh known (Some (standing.Scalar k)) is = own_block (of.Array basic) e fresh known (λ b q o other at. scalar_apart k o other (sym is ∙ at))
    result_after (of.Basic basic) e fresh known s is = own_block (of.Basic basic) e fresh known (λ b q o other at. basic_apart basic b q)
