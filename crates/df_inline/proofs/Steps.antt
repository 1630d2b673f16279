-- One turn more of the lowering's loops.
use Rattle.std.proofs.Common.{◌≡◌, ◌∙◌, ap, ap₂, sym, refl, arith, ℕ, suc, ◌+◌, ◌<◌, List, [], ◌∷◌, ◌++◌, fold, take, length, get_or, Option, Some, None}
use Rattle.std.proofs.Math.Path.{fun_ext}
use Rattle.std.proofs.lemmas.List.{map-append, length-take-le}
use Rattle.std.proofs.lemmas.List.Sums.{fold-append}
use Rattle.df_names.specs.Maps.{bind}
use Rattle.df_syntax.specs.declared.tree.Expr.{Expr}
use Rattle.df_syntax.specs.declared.tree.Definition.{Definition}
use Rattle.df_syntax.specs.Meaning.{Name}
use Rattle.df_core.specs.declared.terms.Term.{Term}
use Rattle.df_flattened.specs.declared.standing.Standing.{Standing}
use Rattle.df_flattened.specs.declared.standing.Standing.TheVariants.{Local}
use Rattle.df_flattened.specs.Flattened.{Scope, Bodies, Beside, bound, deeper, define, let_of, arguments_of, called, flatten}
use Rattle.df_inline.specs.declared.names.Binding.{Binding}
use Rattle.df_inline.specs.Bindings.{later_standing, scope_of}
use Rattle.df_inline.specs.Lowered.{besides, listed, at_depth, behind, only_of}
use Rattle.df_syntax.proofs.Pushed.{taken}

-- ---- arguments

arguments_last : (scope : Scope) (xs : List Beside) (a : Beside) (d : ℕ) → d ≡ scope.depth + length xs → arguments_of scope (xs ++ a ∷ []) ≡ arguments_of scope xs ++ a.1 (record scope { depth = d }) ∷ []
arguments_last scope [] a d is = ap (λ k. a.1 (record scope { depth = k }) ∷ []) (let z : scope.depth ≡ d = omega (arith, is) in z)
arguments_last scope (x ∷ xs) a d is = ap (λ l. x.1 scope ∷ l) (arguments_last (deeper scope) xs a d (omega (arith, is)))

pub argument_more : (of : Bodies) (scope : Scope) (es : List Expr) (i : ℕ) (e : Expr) (before after : List Term) (y : Term) (d : ℕ) → after ≡ before ++ y ∷ []
    → before ≡ arguments_of scope (besides of (take i es)) → y ≡ flatten of e (record scope { depth = d }) → d ≡ scope.depth + i → i < length es → e ≡ get_or es i e
    → after ≡ arguments_of scope (besides of (take (i + 1) es))
argument_more of scope es i e before after y d more was one deep below is =
    let count : length (besides of (take i es)) ≡ i = length_map (take i es) ∙ taken_count es i below in
    more
    ∙ (ap₂ (λ (l : List Term) (z : Term). l ++ z ∷ []) was one
    ∙ (sym (arguments_last scope (besides of (take i es)) (e, flatten of e) d (rw count deep))
    ∙ ap (arguments_of scope) (sym (map-append (λ (a : Expr). (a, flatten of a)) (take i es) (e ∷ [])) ∙ ap (besides of) (sym (taken es i e below is)))))
  where
    length_map : (l : List Expr) → length (besides of l) ≡ length l
    length_map [] = refl
    length_map (x ∷ l) = ap suc (length_map l)

    taken_count : (l : List Expr) (i : ℕ) → i < length l → length (take i l) ≡ i
    taken_count l i h = length-take-le i l (omega (arith, h))

-- ---- definitions

pub one_bound : (bindings : List Binding) (name : Name) (depth d : ℕ) (index : Option Name) → d ≡ depth + 1
    → bound (scope_of bindings depth index) name ≡ scope_of (bindings ++ (record { name = name; standing = Local depth }) ∷ []) d index
unfolding bind
one_bound bindings name depth d index is =
    ap₂ (λ (f : Name → Option Standing) (k : ℕ). record { names = f; depth = k; index = index })
    (fun_ext (λ other. sym (fold-append (later_standing other) None bindings ((record { name = name; standing = Local depth }) ∷ []))))
    (sym is)

pub definition_more : (of : Bodies) (ds : List Definition) (i : ℕ) (d : Definition) (start : Scope) (index : Option Name) (old new : List Binding) (before after : List Term) (y : Term) (depth inner : ℕ)
    → after ≡ before ++ y ∷ [] → new ≡ old ++ (record { name = d.name.name; standing = Local depth }) ∷ [] → inner ≡ depth + 1
    → (before, scope_of old depth index) ≡ fold define ([], start) (listed of (take i ds)) → y ≡ flatten of d.value (scope_of old depth index) → i < length ds → d ≡ get_or ds i d
    → (after, scope_of new inner index) ≡ fold define ([], start) (listed of (take (i + 1) ds))
definition_more of ds i d start index old new before after y depth inner more pushed deep was one below is =
    ap₂ (λ (l : List Term) (s : Scope). (l, s)) (more ∙ ap (λ (z : Term). before ++ z ∷ []) one)
    (ap (λ l. scope_of l inner index) pushed ∙ sym (one_bound old d.name.name depth inner index deep))
    ∙ (ap (λ (p : List Term × Scope). define p (d.name, d.sort, (d.value, flatten of d.value))) was
    ∙ (sym (fold-append define ([], start) (listed of (take i ds)) ((d.name, d.sort, (d.value, flatten of d.value)) ∷ []))
    ∙ ap (fold define ([], start)) (sym (map-append (λ (x : Definition). (x.name, x.sort, (x.value, flatten of x.value))) (take i ds) (d ∷ [])) ∙ ap (listed of) (sym (taken ds i d below is)))))

-- ---- an only value, and calls

pub let_behind : (of : Bodies) (made : List Term × Scope) (values : List Expr) → let_of made (besides of values) ≡ behind made.0 (only_of made.1 (besides of values))
let_behind of made [] = refl
let_behind of made (value ∷ []) = refl
let_behind of made (value ∷ second ∷ values) = refl

pub called_behind : (scope : Scope) (arguments : List Beside) (body : Option (ℕ → Term)) → called scope arguments body ≡ behind (arguments_of scope arguments) (at_depth body scope.depth)
called_behind scope arguments None = refl
called_behind scope arguments (Some body) = refl

-- one binding more keeps those that were there
pub take_grown : (start old : List Binding) (b : Binding) → take (length start) old ≡ start → take (length start) (old ++ b ∷ []) ≡ start
take_grown [] old b is = refl
take_grown (s ∷ start) [] b is = absurd (cc)
take_grown (s ∷ start) (o ∷ old) b is =
    let same : o ≡ s = cc in
    let rest : take (length start) old ≡ start = cc in
    ap₂ (λ (x : Binding) (l : List Binding). x ∷ l) same (take_grown start old b rest)
