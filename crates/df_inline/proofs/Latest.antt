-- The last function of a name.
use Rattle.std.proofs.Common.{◌≡◌, ℕ, ◌+◌, ◌<◌, Bool, true, false, if◌then◌else◌, List, [], ◌∷◌, take, length, get_or, reverse, refl, sym, ◌∙◌, ap, arith, Option, Some, None, bytes_eq}
use Rattle.std.proofs.Math.Seq.{take-length}
use Rattle.std.proofs.lemmas.List.{reverse-append}
use Rattle.std.proofs.lemmas.Option.{slice_get_read}
use Rattle.df_syntax.specs.declared.program.Function.{Function}
use Rattle.df_syntax.specs.Meaning.{Name}
use Rattle.df_flattened.specs.Flattened.{flatten, only_body, bodies}
use Rattle.df_inline.specs.Lowered.{IsBodyAt, Finds}
use Rattle.df_syntax.proofs.Pushed.{taken}

-- among the first n functions
abbrev pub Among : List Function → ℕ → Name → Option ℕ → Type 0
Among functions n name None = bodies (reverse (take n functions)) name ≡ None
Among functions n name (Some place) = (place < n) × IsBodyAt functions place (bodies (reverse (take n functions)) name)

pub grown : (fs : List Function) (n : ℕ) (f : Function) → n < length fs → f ≡ get_or fs n f → reverse (take (n + 1) fs) ≡ f ∷ reverse (take n fs)
grown fs n f h is = ap reverse (taken fs n f h is) ∙ reverse-append (take n fs) (f ∷ [])

step : (fs : List Function) (n : ℕ) (f : Function) (name : Name) (b : Bool) → n < length fs → f ≡ get_or fs n f → bytes_eq f.name.name name ≡ b
    → bodies (reverse (take (n + 1) fs)) name ≡ (if b then only_body (flatten (bodies (reverse (take n fs)))) f.parameters f.values else bodies (reverse (take n fs)) name)
step fs n f name b h is same =
    ap (λ l. bodies l name) (grown fs n f h is)
    ∙ ap (λ b. if b then only_body (flatten (bodies (reverse (take n fs)))) f.parameters f.values else bodies (reverse (take n fs)) name) same

pub hit : (fs : List Function) (n : ℕ) (f : Function) (name : Name) → n < length fs → f ≡ get_or fs n f → bytes_eq f.name.name name ≡ true → Among fs (n + 1) name (Some n)
hit fs n f name h is same = (omega arith, record { function = f; at = slice_get_read fs (length fs) n f refl h is; gives = step fs n f name true h is same })

pub missed : (fs : List Function) (n : ℕ) (f : Function) (name : Name) (found : Option ℕ) → n < length fs → f ≡ get_or fs n f → bytes_eq f.name.name name ≡ false
    → Among fs n name found → Among fs (n + 1) name found
missed fs n f name None h is same p = step fs n f name false h is same ∙ p
missed fs n f name (Some place) h is same p =
    let less : place < n = p.0 in
    (omega (arith, less), record { function = p.1.function; at = p.1.at; gives = step fs n f name false h is same ∙ p.1.gives })

pub among_all : (fs : List Function) (name : Name) (found : Option ℕ) → Among fs (length fs) name found → Finds fs name found
among_all fs name None p = ap (λ l. bodies (reverse l) name) (sym (take-length fs)) ∙ p
among_all fs name (Some place) p =
    (p.0, record { function = p.1.function; at = p.1.at; gives = ap (λ l. bodies (reverse l) name) (sym (take-length fs)) ∙ p.1.gives })
