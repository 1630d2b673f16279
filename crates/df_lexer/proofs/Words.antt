-- Whether a word is unsupported, from the look-up.
use Rattle.std.proofs.Common.{◌≡◌, ℕ, true, false, List, sym, ◌∙◌}
use Rattle.std.specs.Prelude.{bytes_eq, Contains}
use Rattle.std.specs.List.{list_any}
use Rattle.std.proofs.lemmas.Cmp.{nat_list_eq_equiv}
use Rattle.std.proofs.lemmas.Map.Views.{Contains-from_any, list_any-from_Contains}
use Rattle.std.proofs.lemmas.Slice.Eq.{bytes_eq-Decides}
use Rattle.df_syntax.specs.Words.{unsupported_words}

pub unsupported_found : (w : List ℕ) → list_any (bytes_eq w) unsupported_words ≡ true → Contains unsupported_words w
unsupported_found w h = Contains-from_any (λ x y. (bytes_eq-Decides x y).0) w unsupported_words h

pub unsupported_missing : (w : List ℕ) → list_any (bytes_eq w) unsupported_words ≡ false → Contains unsupported_words w → ⊥
unsupported_missing w h inside =
    let clash : true ≡ false = sym (list_any-from_Contains nat_list_eq_equiv w unsupported_words inside) ∙ h in
    cc
