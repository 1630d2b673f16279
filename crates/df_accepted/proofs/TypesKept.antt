-- What a part tells is kept where the parts of it are.
use Rattle.std.proofs.Common.{◌≡◌, Bool, true, false, if◌then◌else◌, refl, sym, ◌∙◌, ap, subst, Option, Some, None}

-- where the first is there, the second is the same
abbrev pub Keeps : {A : Type 0} → Option A → Option A → Type 0
Keeps {A} a b = (t : A) → a ≡ Some t → b ≡ Some t

-- a function that gives None for None
pub image_kept : {A B : Type 0} (f : Option A → Option B) → f None ≡ None → (a b : Option A) → Keeps a b → Keeps (f a) (f b)
image_kept f none None b k t is = absurd (cc)
image_kept f none (Some s) b k t is = subst (λ o. f o ≡ Some t) (sym (k s refl)) is

pub guarded_parts : {A : Type 0} (p : Bool) (a : Option A) (t : A) → (if p then a else None) ≡ Some t → (p ≡ true) × (a ≡ Some t)
guarded_parts true a t is = (refl, is)
guarded_parts false a t is = absurd (cc)

pub guarded : {A : Type 0} (p : Bool) (a : Option A) (t : A) → p ≡ true → a ≡ Some t → (if p then a else None) ≡ Some t
guarded p a t holds is = ap (λ b. if b then a else None) holds ∙ is
