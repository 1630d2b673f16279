-- What a table knows of functions, from one more to the next.
use Rattle.std.proofs.Common.{◌≡◌, ℕ, zero, suc, ◌+◌, ◌<◌, ◌≤◌, Bool, true, false, if◌then◌else◌, List, [], ◌∷◌, take, length, get_or, reverse, ◌-◌, subst, refl, sym, ◌∙◌, ap, arith, Option, Some, None, bytes_eq}
use borrow.Author.Count.{below_more}
use Rattle.std.proofs.lemmas.List.{get_or-take, get_or_default, length-take-le}
use Rattle.df_syntax.specs.declared.program.Function.{Function}
use Rattle.df_syntax.specs.Meaning.{Name}
use Rattle.df_inline.specs.Lowered.{Finds}
use Rattle.df_inline.specs.Tables.{entry_size, entry_place, NoneFrom, IsLastAt, IsLast}
use Rattle.df_inline.specs.declared.size.Size.{Size}
use Rattle.df_inline.specs.declared.table.Entry.{Entry}
use Rattle.df_inline.specs.Counts.{saturated}
use Rattle.df_inline.specs.Sizes.{expr_size, only_size, call_size}
use Rattle.df_inline.proofs.Latest.{Among, hit, missed, among_all, grown}

-- ---- the last function of a name

element : (fs : List Function) (i : ℕ) → i < length fs → (f : Function) × (f ≡ get_or fs i f)
element [] i h = absurd (omega (arith, h))
element (f ∷ fs) zero h = (f, refl)
element (f ∷ fs) (suc i) h = element fs i (omega (arith, h))

climb : (fs : List Function) (name : Name) (start k n : ℕ) (found : Option ℕ) → n ≡ start + k → n ≤ length fs → NoneFrom fs start name → Among fs start name found → Among fs n name found
climb fs name start zero n found same le none p =
    let e : start ≡ n = omega (arith, same) in
    subst (λ m. Among fs m name found) e p
climb fs name start (suc k) n found same le none p =
    let less : start + k < length fs = omega (arith, same, le) in
    let within : start ≤ start + k = omega arith in
    let e : start + k + 1 ≡ n = omega (arith, same) in
    let f = element fs (start + k) less in
    subst (λ m. Among fs m name found) e
    (missed fs (start + k) f.0 name found less f.1 (none (start + k) f.0 within less f.1) (climb fs name start k (start + k) found refl (omega (arith, less)) none p))

pub finds_none : (fs : List Function) (name : Name) → NoneFrom fs 0 name → Finds fs name None
finds_none fs name none = among_all fs name None (climb fs name 0 (length fs) (length fs) None (omega arith) (omega arith) none refl)

pub finds_last : (fs : List Function) (name : Name) (place : ℕ) → place < length fs → IsLastAt fs name place → Finds fs name (Some place)
finds_last fs name place below l =
    among_all fs name (Some place)
    (climb fs name (place + 1) (length fs - (place + 1)) (length fs) (Some place) (omega (arith, below)) (omega arith) l.last (hit fs place l.function name below l.at l.named))

-- ---- one function more

none_of_more : (fs : List Function) (n start : ℕ) (f : Function) (name : Name) → n < length fs → f ≡ get_or fs n f → bytes_eq f.name.name name ≡ false
    → NoneFrom (take n fs) start name → NoneFrom (take (n + 1) fs) start name
none_of_more fs n start f name h is other none i g above below at =
    let longer : length (take (n + 1) fs) ≡ n + 1 = length-take-le (n + 1) fs (omega (arith, h)) in
    let shorter : length (take n fs) ≡ n = length-take-le n fs (omega (arith, h)) in
    below_more (λ k. (g : Function) → start ≤ k → g ≡ get_or (take (n + 1) fs) k g → bytes_eq g.name.name name ≡ false) n
    (λ k less g above at. none k g above (omega (arith, shorter, less)) (at ∙ (get_or-take (n + 1) fs k g (omega (arith, less)) ∙ sym (get_or-take n fs k g less))))
    (λ g above at. ap (λ (e : Function). bytes_eq e.name.name name) (at ∙ (get_or-take (n + 1) fs n g (omega arith) ∙ (get_or_default fs n g f h ∙ sym is))) ∙ other)
    i (omega (arith, longer, below)) g above at

last_of_more : (fs : List Function) (n : ℕ) (f : Function) (name : Name) (o : Option ℕ) → n < length fs → f ≡ get_or fs n f → bytes_eq f.name.name name ≡ false
    → IsLast (take n fs) name o → IsLast (take (n + 1) fs) name o
last_of_more fs n f name None h is other l = none_of_more fs n 0 f name h is other l
last_of_more fs n f name (Some place) h is other l =
    let longer : length (take (n + 1) fs) ≡ n + 1 = length-take-le (n + 1) fs (omega (arith, h)) in
    let shorter : length (take n fs) ≡ n = length-take-le n fs (omega (arith, h)) in
    let below : place < length (take n fs) = l.0 in
    let less : place < n = omega (arith, below, shorter) in (
      omega (arith, less, longer),
      record {
        function = l.1.function;
        at = l.1.at ∙ (get_or-take n fs place l.1.function less ∙ sym (get_or-take (n + 1) fs place l.1.function (omega (arith, less))));
        named = l.1.named;
        last = none_of_more fs n (place + 1) f name h is other l.1.last;
      },
    )

next_last : (fs : List Function) (n : ℕ) (f : Function) (name : Name) (size : Size) (o : Option Entry) (b : Bool) → n < length fs → f ≡ get_or fs n f → bytes_eq f.name.name name ≡ b
    → IsLast (take n fs) name (entry_place o) → IsLast (take (n + 1) fs) name (entry_place (if b then Some (record { size = size; place = n }) else o))
next_last fs n f name size o true h is same l =
    let longer : length (take (n + 1) fs) ≡ n + 1 = length-take-le (n + 1) fs (omega (arith, h)) in (
      omega (arith, longer),
      record {
        function = f;
        at = is ∙ sym (get_or-take (n + 1) fs n f (omega arith));
        named = same;
        last = λ i g above below at. absurd (omega (arith, longer, above, below));
      },
    )
next_last fs n f name size o false h is same l = last_of_more fs n f name (entry_place o) h is same l

pub last_next : (fs : List Function) (n : ℕ) (f : Function) (name : Name) (size : Size) (o new : Option Entry) → n < length fs → f ≡ get_or fs n f
    → new ≡ (if bytes_eq f.name.name name then Some (record { size = size; place = n }) else o)
    → IsLast (take n fs) name (entry_place o) → IsLast (take (n + 1) fs) name (entry_place new)
last_next fs n f name size o new h is set l =
    subst (λ e. IsLast (take (n + 1) fs) name (entry_place e)) (sym set) (next_last fs n f name size o (bytes_eq f.name.name name) h is refl l)

next_size : (size s t : Size) (place : ℕ) (o : Option Entry) (b : Bool) → size ≡ saturated s → entry_size o ≡ saturated t
    → entry_size (if b then Some (record { size = size; place = place }) else o) ≡ saturated (if b then s else t)
next_size size s t place o true p q = p
next_size size s t place o false p q = q

pub size_next : (fs : List Function) (n : ℕ) (f : Function) (name : Name) (size : Size) (o new : Option Entry) → n < length fs → f ≡ get_or fs n f
    → new ≡ (if bytes_eq f.name.name name then Some (record { size = size; place = n }) else o)
    → size ≡ saturated (only_size (expr_size (call_size (reverse (take n fs)))) f.values) → entry_size o ≡ saturated (call_size (reverse (take n fs)) name)
    → entry_size new ≡ saturated (call_size (reverse (take (n + 1) fs)) name)
size_next fs n f name size o new h is set p q =
    ap entry_size set
    ∙ (next_size size _ _ n o (bytes_eq f.name.name name) p q
    ∙ ap (λ l. saturated (call_size l name)) (sym (grown fs n f h is)))
