-- Names that are found by the order of their bytes.
use Rattle.std.proofs.Common.{◌≡◌, ℕ, cond, List, [], ◌∷◌, map, Option, Some, refl, ap, ◌∙◌, sym}
use Rattle.std.specs.Prelude.{bytes_eq}
use Rattle.std.specs.Map.{lookup}
use Rattle.std.specs.BTreeMap.{is_at}
use Rattle.std.specs.Cmp.Lexicographic.{slice_cmp}
use Rattle.std.specs.Ordering.{nat_cmp}
use Rattle.std.proofs.lemmas.Map.Text.{is_eq-slice_cmp}
use Rattle.df_iotext.specs.Readers.{place_of_name}

-- what is found under keys in that order is what is found under their names
pub found_under : {K : Type 0} (name_at : K → List ℕ) (entries : List (K × ℕ)) (name : List ℕ)
    → lookup (is_at (λ key. slice_cmp nat_cmp name (name_at key))) entries ≡ place_of_name (map (λ entry. (name_at entry.0, entry.1)) entries) name
found_under name_at [] name = refl
found_under name_at (entry ∷ entries) name =
    ap (λ b. cond b (Some entry.1) (lookup (is_at (λ key. slice_cmp nat_cmp name (name_at key))) entries)) (is_eq-slice_cmp name (name_at entry.0))
    ∙ ap (λ o. cond (bytes_eq name (name_at entry.0)) (Some entry.1) o) (found_under name_at entries name)

-- a change of what is found under one key is that change of what is found under its name
pub changed_under : {K : Type 0} (name_at : K → List ℕ) (old new : List (K × ℕ)) (key other : K) (o : Option ℕ)
    → lookup (is_at (λ k. slice_cmp nat_cmp (name_at other) (name_at k))) new
    ≡ cond (is_at (λ k. slice_cmp nat_cmp (name_at key) (name_at k)) other) o (lookup (is_at (λ k. slice_cmp nat_cmp (name_at other) (name_at k))) old)
    → place_of_name (map (λ entry. (name_at entry.0, entry.1)) new) (name_at other)
    ≡ cond (bytes_eq (name_at key) (name_at other)) o (place_of_name (map (λ entry. (name_at entry.0, entry.1)) old) (name_at other))
changed_under name_at old new key other o changed =
    sym (found_under name_at new (name_at other)) ∙ changed
    ∙ ap (λ b. cond b o (lookup (is_at (λ k. slice_cmp nat_cmp (name_at other) (name_at k))) old)) (is_eq-slice_cmp (name_at key) (name_at other))
    ∙ ap (λ p. cond (bytes_eq (name_at key) (name_at other)) o p) (found_under name_at old (name_at other))
