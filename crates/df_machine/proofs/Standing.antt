-- Each key in use has the place noted at which it stands: one more, one less, and one moved.
use Rattle.std.proofs.Common.{◌≡◌, ◌≢◌, ℕ, zero, suc, ◌<◌, Bool, true, false, List, [], ◌∷◌, replicate, get_or, set, length, Some, refl, sym, ◌∙◌, ap, subst, inl, inr, arith}
use Rattle.std.specs.Prelude.{slice_get}
use Rattle.std.proofs.lemmas.List.{length-set, get_or-set_same, get_or-set_other, get_or_past}
use Rattle.std.proofs.lemmas.Bool.{cases_eq, cases_lt}
use Rattle.df_pick.specs.Sums.{up_before}
use Rattle.df_machine.specs.InOrder.{picked, Stand}
use Rattle.df_machine.proofs.Places.{picked_at, all_down, key_read, before_cons}

up_within : (flags : List Bool) (p : ℕ) → get_or flags p false ≡ true → p < length flags
up_within flags p up = elim (cases_lt p (length flags)) [
  | inl h ↦ h
  | inr h ↦ absurd (let z = get_or_past flags p false h in cc)
]

pub stand_none : (flags : List Bool) (keys places : List ℕ) (n : ℕ) → flags ≡ replicate n false → Stand flags keys places
stand_none flags keys places n is p up = absurd (let z : get_or flags p false ≡ false = ap (λ l. get_or l p false) is ∙ all_down n p in cc)

pub stand_less : (flags after : List Bool) (keys places : List ℕ) (i : ℕ) → Stand flags keys places → i < length flags → after ≡ set flags i false → Stand after keys places
stand_less flags after keys places i stand within is p up = elim (cases_eq p i) [
  | inl e ↦ absurd (let z : get_or after p false ≡ false = ap (λ l. get_or l p false) is ∙ ap (λ j. get_or (set flags i false) j false) e ∙ get_or-set_same flags i false false within in cc)
  | inr n ↦ stand p (sym (ap (λ l. get_or l p false) is ∙ get_or-set_other flags i p false false n) ∙ up)
]

-- one key moved from place `from` to place i
pub stand_moved : (flags down after : List Bool) (keys places : List ℕ) (i from key : ℕ) → Stand flags keys places → length keys ≡ length flags → get_or flags from false ≡ true → from < length flags
    → i < length flags → down ≡ set flags from false → after ≡ set down i true → key ≡ get_or keys from key → Stand after (set keys i key) (set places key i)
stand_moved flags down after keys places i from key stand as_many up within inside lowered raised read p raised_up =
    let source = stand from up in
    let is_key : get_or keys from 0 ≡ key = key_read keys from key read (omega arith) in
    let key_within : key < length places = subst (λ k. k < length places) is_key source.0 in
    let noted : get_or places key 0 ≡ from = subst (λ k. get_or places k 0 ≡ from) is_key source.1 in
    let long = length-set places key i in
    elim (cases_eq p i) [
      | inl e ↦ (
          let k : get_or (set keys i key) p 0 ≡ key = ap (λ j. get_or (set keys i key) j 0) e ∙ get_or-set_same keys i key 0 (omega arith) in (
            omega arith,
            ap (λ j. get_or (set places key i) j 0) k ∙ get_or-set_same places key i 0 key_within ∙ sym e,
          ))
      | inr n ↦ (
          let was : get_or down p false ≡ true = sym (ap (λ l. get_or l p false) raised ∙ get_or-set_other down i p true false n) ∙ raised_up in
          let moved : p ≢ from = (λ e. let z : get_or down p false ≡ false = ap (λ l. get_or l p false) lowered ∙ ap (λ j. get_or (set flags from false) j false) e ∙ get_or-set_same flags from false false within in absurd cc) in
          let at = stand p (sym (ap (λ l. get_or l p false) lowered ∙ get_or-set_other flags from p false false moved) ∙ was) in
          let k : get_or (set keys i key) p 0 ≡ get_or keys p 0 = get_or-set_other keys i p key 0 n in
          let other : get_or keys p 0 ≢ key = (λ e. moved (sym at.1 ∙ ap (λ j. get_or places j 0) e ∙ noted)) in (
            let inside' = at.0 in omega arith,
            ap (λ j. get_or (set places key i) j 0) k ∙ get_or-set_other places key (get_or keys p 0) i 0 other ∙ at.1,
          ))
    ]

-- a key that isn't there stands at no place
fresh_at : (flags : List Bool) (keys seen : List ℕ) (key p : ℕ) → picked flags keys ≡ seen → ((i : ℕ) → slice_get seen i ≢ Some key) → length keys ≡ length flags → get_or flags p false ≡ true
    → get_or keys p 0 ≢ key
fresh_at flags keys seen key p are fresh as_many up e =
    let within = up_within flags p up in
    fresh (up_before flags p) (sym (ap (λ l. slice_get l (up_before flags p)) are) ∙ picked_at flags keys p (up_before flags p) up (omega arith) refl ∙ ap (λ x. Some x) e)

-- one key more
pub stand_more : (mid after : List Bool) (keys places seen : List ℕ) (place key : ℕ) → Stand mid keys places → length keys ≡ length mid → place < length mid → key < length places → after ≡ set mid place true
    → picked mid keys ≡ seen → ((i : ℕ) → slice_get seen i ≢ Some key) → Stand after (set keys place key) (set places key place)
stand_more mid after keys places seen place key stand as_many inside within raised are fresh p up =
    let long = length-set places key place in
    elim (cases_eq p place) [
      | inl e ↦ (
          let k : get_or (set keys place key) p 0 ≡ key = ap (λ j. get_or (set keys place key) j 0) e ∙ get_or-set_same keys place key 0 (omega arith) in (
            omega arith,
            ap (λ j. get_or (set places key place) j 0) k ∙ get_or-set_same places key place 0 within ∙ sym e,
          ))
      | inr n ↦ (
          let was : get_or mid p false ≡ true = sym (ap (λ l. get_or l p false) raised ∙ get_or-set_other mid place p true false n) ∙ up in
          let at = stand p was in
          let k : get_or (set keys place key) p 0 ≡ get_or keys p 0 = get_or-set_other keys place p key 0 n in
          let other = fresh_at mid keys seen key p are fresh as_many was in (
            let inside' = at.0 in omega arith,
            ap (λ j. get_or (set places key place) j 0) k ∙ get_or-set_other places key (get_or keys p 0) place 0 other ∙ at.1,
          ))
    ]

-- where a key that is there stands
pub picked_from : (flags : List Bool) (keys : List ℕ) (i key : ℕ) → slice_get (picked flags keys) i ≡ Some key
    → (p : ℕ) × (get_or flags p false ≡ true) × (p < length flags) × (get_or keys p 0 ≡ key) × (up_before flags p ≡ i)
picked_from [] keys i key at = cc
picked_from (f ∷ flags) [] i key at = cc
picked_from (true ∷ flags) (k ∷ keys) zero key at = (0, refl, omega arith, cc, refl)
picked_from (true ∷ flags) (k ∷ keys) (suc i) key at =
    let r = picked_from flags keys i key at in (suc r.0, r.1, let w = r.2 in omega arith, r.3, let b = before_cons true flags r.0 in let e = r.4 in omega arith)
picked_from (false ∷ flags) (k ∷ keys) i key at =
    let r = picked_from flags keys i key at in (suc r.0, r.1, let w = r.2 in omega arith, r.3, let b = before_cons false flags r.0 in let e = r.4 in omega arith)

-- the place noted for a key that is there
pub noted_at : (flags : List Bool) (keys places seen : List ℕ) (i key : ℕ) → Stand flags keys places → picked flags keys ≡ seen → slice_get seen i ≡ Some key
    → (key < length places) × (get_or places key 0 < length flags) × (up_before flags (get_or places key 0) ≡ i)
noted_at flags keys places seen i key stand are at =
    let r = picked_from flags keys i key (ap (λ l. slice_get l i) are ∙ at) in
    let p = r.0 in let s = stand p r.1 in
    let noted : get_or places key 0 ≡ p = sym (ap (λ k. get_or places k 0) r.3) ∙ s.1 in (
      subst (λ k. k < length places) r.3 s.0,
      subst (λ q. q < length flags) (sym noted) r.2,
      ap (λ q. up_before flags q) noted ∙ r.4,
    )
