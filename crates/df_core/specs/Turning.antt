-- What terms, blocks and flat programs mean where each loop may make so many turns: values, and nothing where what counts is a loop
-- that didn't end within them. As over values every flat program has a meaning: a number that names nothing stands for `undef`, and
-- an array that isn't there has no elements.
use Rattle.std.specs.Prelude.{ℕ, ℤ, zero, suc, pos, negsuc, ◌+◌, ◌+ℤ◌, ◌-ℤ◌, List, [], ◌∷◌, ◌++◌, map, fold, length, Option, Some, None, slice_index_or, slice_set}
use Rattle.std.specs.List.{range_with_len}
use Rattle.df_values.specs.declared.kinds.Op.{Op}
use Rattle.df_values.specs.declared.kinds.Binary.{Binary}
use Rattle.df_values.specs.declared.inputs.Extent.{Extent}
use Rattle.df_values.specs.declared.inputs.Input.{Input}
use Rattle.df_values.specs.declared.values.Value.{Value}
use Rattle.df_values.specs.declared.values.Value.TheVariants.{Int, Error}
use Rattle.df_values.specs.declared.values.ErrorValue.TheVariants.{Undef, MissElt}
use Rattle.df_partial.specs.Members.{Member, known, paired, changed, decided}
use Rattle.df_core.specs.declared.terms.Term.{Term}
use Rattle.df_core.specs.declared.terms.Term.TheOpen.{Term-F}
use Rattle.df_core.specs.declared.flat.Body.{Body}
use Rattle.df_core.specs.declared.flat.Body.TheVariants as body
use Rattle.df_core.specs.declared.flat.Block.{Block}
use Rattle.df_core.specs.declared.flat.Flat.{Flat}
use Rattle.df_core.specs.declared.made.Made.{Made}
use Rattle.df_core.specs.declared.made.Made.TheVariants.{Single, Many}
use Rattle.df_core.specs.Terms.{Layer, fold_term}
use Rattle.df_core.specs.Meaning.{begun, folded_more, or_undef, before}

-- ---- what stands around a term

-- where a term stands: what the parameters and the blocks before its own are, by their numbers, the index, in the element of a
-- recurrence the element before, and how many turns a loop may make
pub record Place : Type 0 where
  pub made : List Made
  pub at : ℤ
  pub previous : Member
  pub turns : ℕ

-- the member of a scalar
abbrev pub scalar_in : Made → Member
scalar_in (Single m) = m
scalar_in (Many lo members) = Some (Error Undef)

-- the member at a place, counted from 0
abbrev pub member_at_place : List Member → ℤ → Member
member_at_place members (pos place) = slice_index_or members place (Some (Error MissElt))
member_at_place members (negsuc _) = Some (Error MissElt)

-- the member of an array at an index
abbrev pub member_in : Made → ℤ → Member
member_in (Many lo members) k = member_at_place members (k -ℤ lo)
member_in (Single m) k = Some (Error MissElt)

-- what stands for a number of nothing
abbrev pub no_array : Made
no_array = Many (pos 0) []

abbrev pub made_in : List Made → ℕ → Made
made_in made number = slice_index_or made number no_array

-- ---- terms

-- what a term gives where it stands, under the members of the locals bound so far
abbrev pub Gives : Type 0
Gives = Place → List Member → Member

-- one step more of a chain
abbrev pub joined_member : Place → List Member → Member → Binary × Gives → Member
joined_member place locals left step = paired step.0 left (step.1 place locals)

-- the member of the first branch whose test holds
abbrev pub branches_member : Place → List Member → Member → List (Gives × Gives) → Member
branches_member place locals last [] = last
branches_member place locals last (branch ∷ branches) = decided (branch.0 place locals) (branch.1 place locals) (branches_member place locals last branches)

-- the locals with one definition more
abbrev pub bound_member : Place → List Member → Gives → List Member
bound_member place locals definition = locals ++ definition place locals ∷ []

-- one name of a loop set, where the names stand behind so many locals; a name past the last is none
abbrev pub assigned : ℕ → List Member → ℕ × Member → List Member
assigned outer locals a = slice_set locals (outer + a.0) a.1

-- what the assignments of a turn give, all under the locals before it
abbrev pub all_given : Place → List (ℕ × Gives) → List Member → List (ℕ × Member)
all_given place next locals = map (λ (a : ℕ × Gives). (a.0, a.1 place locals)) next

-- the locals after a turn; of two assignments to one name the later one counts
abbrev pub moved : ℕ → (List Member → List (ℕ × Member)) → List Member → List Member
moved outer next locals = fold (assigned outer) locals (next locals)

-- what a loop gives from some locals on, in so many turns at most: nothing where there would be one turn more
abbrev pub turned : (List Member → Member) → (List Member → List Member) → (List Member → Member) → ℕ → List Member → Member
turned test move last zero locals = decided (test locals) None (last locals)
turned test move last (suc n) locals = decided (test locals) (turned test move last n (move locals)) (last locals)

abbrev pub layer_member : Layer Gives → Gives
layer_member (Term-F.Constant value) place locals = known value
layer_member (Term-F.Local number) place locals = slice_index_or locals number (Some (Error Undef))
layer_member Term-F.Index place locals = Some (Int place.at)
layer_member (Term-F.Outer number) place locals = scalar_in (made_in place.made number)
layer_member (Term-F.Element array offset) place locals = member_in (made_in place.made array) (place.at +ℤ offset)
layer_member Term-F.Previous place locals = place.previous
layer_member (Term-F.Chain first rest) place locals = fold (joined_member place locals) (first place locals) rest
layer_member (Term-F.Change how of) place locals = changed how (of place locals)
layer_member (Term-F.If branches last) place locals = branches_member place locals (last place locals) branches
layer_member (Term-F.Let definitions value) place locals = value place (fold (bound_member place) locals definitions)
layer_member (Term-F.Loop first more test next last) place locals =
    turned (test place) (moved (length locals) (all_given place next)) (last place) place.turns (fold (bound_member place) (bound_member place locals first) more)

unfoldable pub term_member : Term → Gives
term_member = fold_term Gives layer_member

-- ---- blocks, where each loop may make so many turns

-- the member of a term in a turn of its block, from 0
abbrev pub member_at : ℕ → List Made → ℤ → Member → Term → ℕ → Member
member_at turns made lo previous t turn = term_member t (record { made = made; at = lo +ℤ pos turn; previous = previous; turns = turns }) []

-- the member of a term outside any range
abbrev pub member_alone : ℕ → List Made → Term → Member
member_alone turns made t = member_at turns made (pos 0) (Some (Error Undef)) t 0

-- its members in the first turns
abbrev pub members_over : ℕ → List Made → ℤ → Term → ℕ → List Member
members_over turns made lo t n = map (member_at turns made lo (Some (Error Undef)) t) (range_with_len 0 n)

-- the last member of a recurrence after some turns
abbrev pub last_member : ℕ → List Made → ℤ → Term → Term → ℕ → Member
last_member turns made lo first t zero = member_alone turns made first
last_member turns made lo first t (suc n) = member_at turns made lo (last_member turns made lo first t n) t n

-- its members after some turns
abbrev pub grown_over : ℕ → List Made → ℤ → Term → Term → ℕ → List Member
grown_over turns made lo first t n = map (last_member turns made lo first t) (range_with_len 0 (suc n))

-- a fold with a member more; nothing once there was nothing
abbrev pub joined_more : Op → Option (Option Value) → Member → Option (Option Value)
joined_more o (Some so_far) (Some v) = Some (folded_more o so_far v)
joined_more o (Some so_far) None = None
joined_more o None m = None

-- what the members join to
abbrev pub joined_last : Option (Option Value) → Member
joined_last (Some so_far) = Some (or_undef so_far)
joined_last None = None

abbrev pub folded_members : Op → List Member → Member
folded_members o members = joined_last (fold (joined_more o) (Some (begun o)) members)

-- what a block makes
abbrev pub block_made : ℕ → List Made → Body → Made
block_made turns made (body.Construct lo n t) = Many lo (members_over turns made lo t n)
block_made turns made (body.Fold o lo n t) = Single (folded_members o (members_over turns made lo t n))
block_made turns made (body.Recurrence lo n first t) = Many (before lo) (grown_over turns made lo first t n)
block_made turns made (body.Scalar t) = Single (member_alone turns made t)

-- ---- programs

abbrev pub with_made : ℕ → List Made → Block → List Made
with_made turns made block = made ++ block_made turns made block.body ∷ []

-- what a parameter is: a scalar is the first value of its list
abbrev pub given_made : Option Extent → List Value → Made
given_made None values = Single (Some (slice_index_or values 0 (Error Undef)))
given_made (Some extent) values = Many extent.lo (map known values)

-- as many as there are parameters; one without a list has none
abbrev pub givens_made : List Input → List (List Value) → List Made
givens_made [] inputs = []
givens_made (p ∷ parameters) [] = given_made p.extent [] ∷ givens_made parameters []
givens_made (p ∷ parameters) (values ∷ inputs) = given_made p.extent values ∷ givens_made parameters inputs

-- a scalar's members are a list of one
abbrev pub members_of : Made → List Member
members_of (Single m) = m ∷ []
members_of (Many lo members) = members

-- what all parameters and blocks are
abbrev pub all_in : ℕ → Flat → List (List Value) → List Made
all_in turns p inputs = fold (with_made turns) (givens_made p.parameters inputs) p.blocks

abbrev pub result_in : List Made → ℕ → List Member
result_in made number = members_of (made_in made number)

-- the results of a program under some inputs
unfoldable pub flat_members : ℕ → Flat → List (List Value) → List (List Member)
flat_members turns p inputs = map (result_in (all_in turns p inputs)) p.results
