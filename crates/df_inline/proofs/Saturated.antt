-- Sizes that stand still at the end of their type.
use Rattle.std.proofs.Common.{◌≡◌, ℕ, ◌+◌, ◌^◌, ◌-◌, min, max, List, [], ◌∷◌, ◌++◌, map, take, length, get_or, ◌<◌, refl, sym, ◌∙◌, ap, arith}
use Rattle.df_inline.specs.declared.size.Size.{Size}
use Rattle.df_inline.specs.Sizes.{nothing, both, one_more, inside, beside}
use Rattle.df_inline.specs.Counts.{saturated}
use Rattle.std.proofs.lemmas.List.{map-append}
use Rattle.df_syntax.proofs.Pushed.{taken}

same : (a b c d : ℕ) → a ≡ c → b ≡ d → Path Size (record { nodes = a; brackets = b }) (record { nodes = c; brackets = d })
same a b c d p q = ap (λ x. record { nodes = x; brackets = b }) p ∙ ap (λ y. record { nodes = c; brackets = y }) q

size_is : (s : Size) → s ≡ record { nodes = s.nodes; brackets = s.brackets }
size_is s = refl

-- ---- side by side

both_joined : (s t u : Size) → both (both s t) u ≡ both s (both t u)
unfolding both
both_joined s t u = same _ _ _ _ (omega arith) (omega arith)

both_nothing : (s : Size) → both s nothing ≡ s
unfolding both nothing
both_nothing s = same _ _ s.nodes s.brackets (omega arith) (omega arith)

nothing_both : (s : Size) → both nothing s ≡ s
unfolding both nothing
nothing_both s = same _ _ s.nodes s.brackets (omega arith) (omega arith)

beside_last : (sizes : List Size) (s : Size) → beside (sizes ++ s ∷ []) ≡ both (beside sizes) s
beside_last [] s = both_nothing s ∙ sym (nothing_both s)
beside_last (t ∷ sizes) s = ap (both t) (beside_last sizes s) ∙ sym (both_joined t (beside sizes) s)

-- ---- counts

pub more_saturated : (s a : Size) (n : ℕ) → a ≡ saturated s → n ≡ min (a.nodes + 1) (2 ^ 32 - 1) → Path Size (record { nodes = n; brackets = a.brackets }) (saturated (one_more s))
unfolding saturated one_more
more_saturated s a n p q =
    let nodes = ap (λ (x : Size). x.nodes) p in
    let brackets = ap (λ (x : Size). x.brackets) p in
    same _ _ _ _ (omega (arith, nodes, q)) brackets

pub inside_saturated : (s a : Size) (n : ℕ) → a ≡ saturated s → n ≡ min (a.brackets + 1) (2 ^ 32 - 1) → Path Size (record { nodes = a.nodes; brackets = n }) (saturated (inside s))
unfolding saturated inside
inside_saturated s a n p q =
    let nodes = ap (λ (x : Size). x.nodes) p in
    let brackets = ap (λ (x : Size). x.brackets) p in
    same _ _ _ _ nodes (omega (arith, brackets, q))

pub both_saturated : (s t a b : Size) (n m : ℕ) → a ≡ saturated s → b ≡ saturated t → n ≡ min (a.nodes + b.nodes) (2 ^ 32 - 1) → m ≡ max a.brackets b.brackets
    → Path Size (record { nodes = n; brackets = m }) (saturated (both s t))
unfolding saturated both
both_saturated s t a b n m p q h k =
    let an = ap (λ (x : Size). x.nodes) p in
    let ab = ap (λ (x : Size). x.brackets) p in
    let bn = ap (λ (x : Size). x.nodes) q in
    let bb = ap (λ (x : Size). x.brackets) q in
    same _ _ _ _ (omega (arith, an, bn, h)) (omega (arith, ab, bb, k))

-- ---- loops over lists

pub counted : {A : Type 0} (size : A → Size) (xs : List A) (i : ℕ) (x : A) (before after s : Size) → before ≡ saturated (beside (map size (take i xs)))
    → ((a b : Size) → before ≡ saturated a → s ≡ saturated b → after ≡ saturated (both a b)) → s ≡ saturated (size x)
    → i < length xs → x ≡ get_or xs i x → after ≡ saturated (beside (map size (take (i + 1) xs)))
counted size xs i x before after s p h q less is =
    h _ _ p q
    ∙ ap saturated (sym (ap (λ l. beside (map size l)) (taken xs i x less is) ∙ (ap beside (map-append size (take i xs) (x ∷ [])) ∙ beside_last (map size (take i xs)) (size x))))

pub nothing_saturated : saturated nothing ≡ nothing
unfolding saturated nothing
nothing_saturated = refl
