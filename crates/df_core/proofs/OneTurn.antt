-- One turn more of a block, one parameter more, and one turn more or less of a loop.
use Rattle.std.proofs.Common.{◌≡◌, ◌≢◌, ℕ, ℤ, zero, suc, ◌+◌, ◌-◌, ◌<◌, List, [], ◌∷◌, ◌++◌, length, take, refl, ap, ◌∙◌, sym, arith, get_or, add-one, Some, None, true}
use Rattle.std.proofs.lemmas.List.FromFn.{map-range_with_len_more}
use Rattle.df_values.specs.declared.inputs.Input.{Input}
use Rattle.df_values.specs.declared.values.Value.{Value}
use Rattle.df_values.specs.declared.values.Value.TheVariants.{Error, Truth}
use Rattle.df_values.specs.declared.values.ErrorValue.TheVariants.{Undef}
use Rattle.df_partial.specs.Members.{Member, decided}
use Rattle.df_core.specs.declared.made.Made.{Made}
use Rattle.df_core.specs.declared.terms.Term.{Term}
use Rattle.df_core.specs.Turning.{member_at, members_over, last_member, grown_over, given_made, givens_made, turned}

pub members_more : (turns : ℕ) (made : List Made) (lo : ℤ) (t : Term) (n : ℕ)
    → members_over turns made lo t (n + 1) ≡ members_over turns made lo t n ++ member_at turns made lo (Some (Error Undef)) t n ∷ []
members_more turns made lo t n = map-range_with_len_more (member_at turns made lo (Some (Error Undef)) t) 0 n n (omega arith)

grown_suc : (turns : ℕ) (made : List Made) (lo : ℤ) (first t : Term) (n : ℕ)
    → grown_over turns made lo first t (suc n) ≡ grown_over turns made lo first t n ++ last_member turns made lo first t (suc n) ∷ []
grown_suc turns made lo first t n = rw add-one at (map-range_with_len_more (last_member turns made lo first t) 0 (suc n) (suc n) (omega arith))

-- a member more of a recurrence, which is the last one from then on
pub grown_more : (turns : ℕ) (made : List Made) (lo : ℤ) (first t : Term) (n : ℕ) (before after : List Member) (last one : Member)
    → before ≡ grown_over turns made lo first t n → last ≡ last_member turns made lo first t n → one ≡ member_at turns made lo last t n → after ≡ before ++ one ∷ []
    → (after ≡ grown_over turns made lo first t (n + 1)) × (one ≡ last_member turns made lo first t (n + 1))
grown_more turns made lo first t n before after last one was is gives more =
    let new : one ≡ last_member turns made lo first t (suc n) = gives ∙ ap (λ m. member_at turns made lo m t n) is in
    rw add-one (more ∙ (ap (λ l. l ++ one ∷ []) was ∙ (ap (λ m. grown_over turns made lo first t n ++ m ∷ []) new ∙ sym (grown_suc turns made lo first t n))), new)

one_given : (parameters : List Input) (inputs : List (List Value)) (i : ℕ) (d : Input) → i < length parameters
    → givens_made (take (suc i) parameters) inputs ≡ givens_made (take i parameters) inputs ++ given_made (get_or parameters i d).extent (get_or inputs i []) ∷ []
one_given [] inputs i d h = absurd (omega (arith, h))
one_given (p ∷ parameters) [] zero d h = refl
one_given (p ∷ parameters) (values ∷ inputs) zero d h = refl
one_given (p ∷ parameters) [] (suc i) d h = ap (λ made. given_made p.extent [] ∷ made) (one_given parameters [] i d (omega (arith, h)))
one_given (p ∷ parameters) (values ∷ inputs) (suc i) d h = ap (λ made. given_made p.extent values ∷ made) (one_given parameters inputs i d (omega (arith, h)))

pub givens_more : (parameters : List Input) (inputs : List (List Value)) (i : ℕ) (d : Input) → i < length parameters
    → givens_made (take (i + 1) parameters) inputs ≡ givens_made (take i parameters) inputs ++ given_made (get_or parameters i d).extent (get_or inputs i []) ∷ []
givens_more parameters inputs i d h = rw add-one (one_given parameters inputs i d h)

-- ---- loops

-- a turn of a loop whose test holds
pub turned_more : (test last : List Member → Member) (move : List Member → List Member) (n : ℕ) (ls : List Member) → 0 < n → test ls ≡ Some (Truth true)
    → turned test move last n ls ≡ turned test move last (n - 1) (move ls)
turned_more test last move zero ls h goes = absurd (omega (arith, h))
turned_more test last move (suc n) ls h goes =
    let less : suc n - 1 ≡ n = omega arith in
    rw less (ap (λ m. decided m (turned test move last n (move ls)) (last ls)) goes)

-- the end of a loop, where no turn is left or its test doesn't hold
pub turned_off : (test last : List Member → Member) (move : List Member → List Member) (n : ℕ) (ls : List Member) (tested : Member) → tested ≡ test ls
    → (n ≢ 0 → (more end : Member) → decided tested more end ≡ decided tested None end) → turned test move last n ls ≡ decided tested None (last ls)
turned_off test last move zero ls tested is off = ap (λ m. decided m None (last ls)) (sym is)
turned_off test last move (suc n) ls tested is off =
    ap (λ m. decided m (turned test move last n (move ls)) (last ls)) (sym is) ∙ off (λ h. absurd (omega (arith, h))) (turned test move last n (move ls)) (last ls)
