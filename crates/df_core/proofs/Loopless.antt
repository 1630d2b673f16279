-- Of a program without loops each member is known, and it is the value that the program means.
use Rattle.std.proofs.Common.{◌≡◌, ℕ, ℤ, zero, suc, pos, negsuc, ◌+ℤ◌, ◌-ℤ◌, List, [], ◌∷◌, ◌++◌, map, fold, refl, ap, sym, ◌∙◌, Bool, true, false, ◌&&◌, Option, Some, None, arith}
use Rattle.std.proofs.Math.ListN.{get_or-map}
use Rattle.std.proofs.lemmas.Simd.{map-map}
use Rattle.std.specs.List.{list_all, range_with_len}
use Rattle.df_values.specs.declared.kinds.Binary.{Binary}
use Rattle.df_values.specs.declared.kinds.Op.{Op}
use Rattle.df_values.specs.declared.inputs.Input.{Input}
use Rattle.df_values.specs.declared.inputs.Extent.{Extent}
use Rattle.df_values.specs.declared.values.Value.{Value}
use Rattle.df_values.specs.declared.values.Value.TheVariants.{Int, Truth, Error}
use Rattle.df_values.specs.declared.values.ErrorValue.TheVariants.{Undef, MissElt}
use Rattle.df_values.specs.Operators.{chosen, value_at_place}
use Rattle.df_values.specs.Tables.{binary_answer}
use Rattle.df_partial.specs.Members.{Member, known, paired, changed, decided, cut}
use Rattle.df_core.specs.declared.terms.Term.{Term, roll-Term}
use Rattle.df_core.specs.declared.terms.Term.TheVariants as n
use Rattle.df_core.specs.declared.terms.Term.TheOpen.{Term-F}
use Rattle.df_core.specs.declared.terms.Step.{Step}
use Rattle.df_core.specs.declared.terms.Branch.{Branch}
use Rattle.df_core.specs.declared.flat.Body.{Body}
use Rattle.df_core.specs.declared.flat.Body.TheVariants as body
use Rattle.df_core.specs.declared.flat.Block.{Block}
use Rattle.df_core.specs.declared.flat.Flat.{Flat}
use Rattle.df_core.specs.declared.made.Made.{Made}
use Rattle.df_core.specs.declared.made.Made.TheVariants.{Single, Many}
use Rattle.df_core.specs.Terms.{map_same}
use Rattle.df_core.specs.TermInduction.{Proved, without, term_induction}
use Rattle.df_core.specs.Meaning as v
use Rattle.df_core.specs.Meaning.{Here, term_value, value_at, members, last_grown, grown, begun, folded_more, or_undef, folded, before, made_by, with_block, given, givens, values_of, all_made, result_of, flat_mean}
use Rattle.df_core.specs.Parts.{joined_by, branches_by, defined_by}
use Rattle.df_core.specs.Turning.{Place, term_member, scalar_in, member_at_place, member_in, made_in, member_at, members_over, last_member, grown_over, joined_more, joined_last, folded_members, block_made, with_made, given_made, givens_made, members_of, result_in, flat_members}
use Rattle.df_core.specs.MemberParts.{joined_with, branches_with, bound_with}
use Rattle.df_core.specs.Within.{has_no_loop, IsLoopless, AreLoopless}
use Rattle.df_core.proofs.NoLoops.{both, loopless_rolled}
use Rattle.df_core.proofs.Senses as s
use Rattle.df_core.proofs.Given as g

-- ---- what stands around a term

-- what a parameter or a block is, with each value known
abbrev known_made : v.Made → Made
known_made (v.Single x) = Single (Some x)
known_made (v.Many lo xs) = Many lo (map known xs)

abbrev known_place : ℕ → Here → Place
known_place turns here = record { made = map known_made here.made; at = here.at; previous = Some here.previous; turns = turns }

known_at : (made : List v.Made) (k : ℕ) → made_in (map known_made made) k ≡ known_made (v.made_at made k)
known_at made k = get_or-map known_made made k v.no_made

known_scalar : (m : v.Made) → scalar_in (known_made m) ≡ Some (v.scalar_of m)
known_scalar (v.Single x) = refl
known_scalar (v.Many lo xs) = refl

known_at_place : (xs : List Value) (z : ℤ) → member_at_place (map known xs) z ≡ Some (value_at_place xs z)
known_at_place xs (pos place) = get_or-map known xs place (Error MissElt)
known_at_place xs (negsuc place) = refl

known_member : (m : v.Made) (k : ℤ) → member_in (known_made m) k ≡ Some (v.member_of m k)
known_member (v.Single x) k = refl
known_member (v.Many lo xs) k = known_at_place xs (k -ℤ lo)

-- ---- terms

-- what is shown of a term
abbrev IsKnown : Term → Type 0
IsKnown t = has_no_loop t ≡ true → (turns : ℕ) (here : Here) (locals : List Value) → term_member t (known_place turns here) (map known locals) ≡ Some (term_value t here locals)

rest_known : (rest : List ((s : Step) × IsKnown s.operand)) (turns : ℕ) (here : Here) (locals : List Value) (x : Value)
    → list_all (λ (s : Binary × Bool). s.1) (map (λ (s : Step). (s.with, has_no_loop s.operand)) (map (λ e. e.0) rest)) ≡ true
    → joined_with (known_place turns here) (map known locals) (Some x) (map (λ e. e.0) rest) ≡ Some (joined_by here locals x (map (λ e. e.0) rest))
rest_known [] turns here locals x h = refl
rest_known (e ∷ rest) turns here locals x h =
    let parts = both (has_no_loop e.0.operand) _ h in
    ap (λ m. joined_with (known_place turns here) (map known locals) (paired e.0.with (Some x) m) (map (λ e. e.0) rest)) (e.1 parts.0 turns here locals)
    ∙ rest_known rest turns here locals (binary_answer e.0.with x (term_value e.0.operand here locals)) parts.1

decided_known : (t x y : Value) → decided (Some t) (Some x) (Some y) ≡ Some (chosen t x y)
decided_known (Truth true) x y = refl
decided_known (Truth false) x y = refl
decided_known (Int i) x y = refl
decided_known (Error e) x y = refl

all_decided : (t x y : Member) (u a b : Value) → t ≡ Some u → x ≡ Some a → y ≡ Some b → decided t x y ≡ Some (chosen u a b)
all_decided t x y u a b ist isx isy = rw (ist, isx, isy) (decided_known u a b)

branches_known : (branches : List ((b : Branch) × (IsKnown b.test × IsKnown b.value))) (turns : ℕ) (here : Here) (locals : List Value) (last : Value)
    → list_all (λ (b : Bool × Bool). b.0 && b.1) (map (λ (b : Branch). (has_no_loop b.test, has_no_loop b.value)) (map (λ e. e.0) branches)) ≡ true
    → branches_with (known_place turns here) (map known locals) (Some last) (map (λ e. e.0) branches) ≡ Some (branches_by here locals last (map (λ e. e.0) branches))
branches_known [] turns here locals last h = refl
branches_known (e ∷ branches) turns here locals last h =
    let parts = both (has_no_loop e.0.test && has_no_loop e.0.value) _ h in
    let two = both (has_no_loop e.0.test) (has_no_loop e.0.value) parts.0 in
    all_decided _ _ _ _ _ _ (e.1.0 two.0 turns here locals) (e.1.1 two.1 turns here locals) (branches_known branches turns here locals last parts.1)

map_more : (locals : List Value) (x : Value) → map known locals ++ Some x ∷ [] ≡ map known (locals ++ x ∷ [])
map_more [] x = refl
map_more (y ∷ locals) x = ap (λ l. Some y ∷ l) (map_more locals x)

defined_known : (ds : List ((t : Term) × IsKnown t)) (turns : ℕ) (here : Here) (locals : List Value)
    → list_all (λ (d : Bool). d) (map has_no_loop (map (λ e. e.0) ds)) ≡ true
    → bound_with (known_place turns here) (map known locals) (map (λ e. e.0) ds) ≡ map known (defined_by here locals (map (λ e. e.0) ds))
defined_known [] turns here locals h = refl
defined_known (e ∷ ds) turns here locals h =
    let parts = both (has_no_loop e.0) _ h in
    ap (λ m. bound_with (known_place turns here) (map known locals ++ m ∷ []) (map (λ e. e.0) ds)) (e.1 parts.0 turns here locals)
    ∙ (ap (λ ls. bound_with (known_place turns here) ls (map (λ e. e.0) ds)) (map_more locals (term_value e.0 here locals))
    ∙ defined_known ds turns here (locals ++ term_value e.0 here locals ∷ []) parts.1)

form_known : (y : Proved IsKnown) → IsKnown (roll-Term (without IsKnown y))
form_known (Term-F.Constant x) h turns here locals =
    let is = n.rolls-Constant x in
    g.constant _ x _ _ is ∙ ap known (sym (s.constant _ x here locals is))
form_known (Term-F.Local k) h turns here locals =
    let is = n.rolls-Local k in
    g.local _ k _ _ is ∙ (get_or-map known locals k (Error Undef) ∙ ap known (sym (s.local _ k here locals is)))
form_known Term-F.Index h turns here locals =
    let is = n.rolls-Index in
    g.index _ _ _ is ∙ ap known (sym (s.index _ here locals is))
form_known (Term-F.Outer k) h turns here locals =
    let is = n.rolls-Outer k in
    g.outer _ k _ _ is ∙ (ap scalar_in (known_at here.made k) ∙ (known_scalar (v.made_at here.made k) ∙ ap known (sym (s.outer _ k here locals is))))
form_known (Term-F.Element k c) h turns here locals =
    let is = n.rolls-Element k c in
    g.element _ k c _ _ is ∙ (ap (λ m. member_in m (here.at +ℤ c)) (known_at here.made k) ∙ (known_member (v.made_at here.made k) (here.at +ℤ c) ∙ ap known (sym (s.element _ k c here locals is))))
form_known Term-F.Previous h turns here locals =
    let is = n.rolls-Previous in
    g.previous _ _ _ is ∙ ap known (sym (s.previous _ here locals is))
form_known (Term-F.Chain first rest) h turns here locals =
    let is = n.rolls-Chain first.0 (map (λ e. e.0) rest) in
    let parts = both (has_no_loop first.0) _ (sym (loopless_rolled (without IsKnown (Term-F.Chain first rest))) ∙ h) in
    g.chain _ first.0 (map (λ e. e.0) rest) _ _ is
    ∙ (ap (λ m. joined_with (known_place turns here) (map known locals) m (map (λ e. e.0) rest)) (first.1 parts.0 turns here locals)
    ∙ (rest_known rest turns here locals (term_value first.0 here locals) parts.1
    ∙ ap known (sym (s.chain _ first.0 (map (λ e. e.0) rest) here locals is))))
form_known (Term-F.Change how of) h turns here locals =
    let is = n.rolls-Change how of.0 in
    g.change _ how of.0 _ _ is
    ∙ (ap (changed how) (of.1 (sym (loopless_rolled (without IsKnown (Term-F.Change how of))) ∙ h) turns here locals)
    ∙ ap known (sym (s.change _ how of.0 here locals is)))
form_known (Term-F.If branches last) h turns here locals =
    let is = n.rolls-If (map (λ e. e.0) branches) last.0 in
    let parts = both (has_no_loop last.0) _ (sym (loopless_rolled (without IsKnown (Term-F.If branches last))) ∙ h) in
    g.choice _ (map (λ e. e.0) branches) last.0 _ _ is
    ∙ (ap (λ m. branches_with (known_place turns here) (map known locals) m (map (λ e. e.0) branches)) (last.1 parts.0 turns here locals)
    ∙ (branches_known branches turns here locals (term_value last.0 here locals) parts.1
    ∙ ap known (sym (s.choice _ (map (λ e. e.0) branches) last.0 here locals is))))
form_known (Term-F.Let ds value) h turns here locals =
    let is = n.rolls-Let (map (λ e. e.0) ds) value.0 in
    let parts = both (has_no_loop value.0) _ (sym (loopless_rolled (without IsKnown (Term-F.Let ds value))) ∙ h) in
    g.let_is _ (map (λ e. e.0) ds) value.0 _ _ is
    ∙ (ap (term_member value.0 (known_place turns here)) (defined_known ds turns here locals parts.1)
    ∙ (value.1 parts.0 turns here (defined_by here locals (map (λ e. e.0) ds))
    ∙ ap known (sym (s.let_is _ (map (λ e. e.0) ds) value.0 here locals is))))
form_known (Term-F.Loop first more test next last) h turns here locals =
    let clash : false ≡ true = sym (loopless_rolled (without IsKnown (Term-F.Loop first more test next last))) ∙ h in absurd (cc)

term_known : (t : Term) → IsKnown t
term_known = term_induction IsKnown form_known

-- ---- blocks

at_known : (turns : ℕ) (made : List v.Made) (lo : ℤ) (previous : Value) (t : Term) (turn : ℕ) → has_no_loop t ≡ true
    → member_at turns (map known_made made) lo (Some previous) t turn ≡ Some (value_at made lo previous t turn)
at_known turns made lo previous t turn h = term_known t h turns (record { made = made; at = lo +ℤ pos turn; previous = previous }) []

members_known : (turns : ℕ) (made : List v.Made) (lo : ℤ) (t : Term) (n : ℕ) → has_no_loop t ≡ true
    → members_over turns (map known_made made) lo t n ≡ map known (members made lo t n)
members_known turns made lo t n h =
    map_same ℕ Member (member_at turns (map known_made made) lo (Some (Error Undef)) t) (λ turn. known (value_at made lo (Error Undef) t turn)) (λ turn. at_known turns made lo (Error Undef) t turn h) (range_with_len 0 n)
    ∙ sym (map-map known (value_at made lo (Error Undef) t) (range_with_len 0 n))

last_known : (turns : ℕ) (made : List v.Made) (lo : ℤ) (first t : Term) → has_no_loop first ≡ true → has_no_loop t ≡ true → (n : ℕ)
    → last_member turns (map known_made made) lo first t n ≡ Some (last_grown made lo first t n)
last_known turns made lo first t hf h zero = at_known turns made (pos 0) (Error Undef) first 0 hf
last_known turns made lo first t hf h (suc n) =
    ap (λ m. member_at turns (map known_made made) lo m t n) (last_known turns made lo first t hf h n) ∙ at_known turns made lo (last_grown made lo first t n) t n h

grown_known : (turns : ℕ) (made : List v.Made) (lo : ℤ) (first t : Term) (n : ℕ) → has_no_loop first ≡ true → has_no_loop t ≡ true
    → grown_over turns (map known_made made) lo first t n ≡ map known (grown made lo first t n)
grown_known turns made lo first t n hf h =
    map_same ℕ Member (last_member turns (map known_made made) lo first t) (λ turn. known (last_grown made lo first t turn)) (last_known turns made lo first t hf h) (range_with_len 0 (suc n))
    ∙ sym (map-map known (last_grown made lo first t) (range_with_len 0 (suc n)))

joined_known : (o : Op) (xs : List Value) (so_far : Option Value) → joined_last (fold (joined_more o) (Some so_far) (map known xs)) ≡ Some (or_undef (fold (folded_more o) so_far xs))
joined_known o [] so_far = refl
joined_known o (x ∷ xs) so_far = joined_known o xs (folded_more o so_far x)

block_known : (turns : ℕ) (made : List v.Made) (b : Body) → IsLoopless b → block_made turns (map known_made made) b ≡ known_made (made_by made b)
block_known turns made (body.Construct lo n t) h = ap (Many lo) (members_known turns made lo t n h)
block_known turns made (body.Fold o lo n t) h =
    ap (λ ms. Single (folded_members o ms)) (members_known turns made lo t n h) ∙ ap (λ m. Single m) (joined_known o (members made lo t n) (begun o))
block_known turns made (body.Recurrence lo n first t) h = ap (Many (before lo)) (grown_known turns made lo first t n h.0 h.1)
block_known turns made (body.Scalar t) h = ap (λ m. Single m) (at_known turns made (pos 0) (Error Undef) t 0 h)

-- ---- programs

made_more : (made : List v.Made) (one : v.Made) → map known_made made ++ known_made one ∷ [] ≡ map known_made (made ++ one ∷ [])
made_more [] one = refl
made_more (m ∷ made) one = ap (λ l. known_made m ∷ l) (made_more made one)

blocks_known : (turns : ℕ) (made : List v.Made) (blocks : List Block) → AreLoopless blocks
    → fold (with_made turns) (map known_made made) blocks ≡ map known_made (fold with_block made blocks)
blocks_known turns made [] h = refl
blocks_known turns made (b ∷ blocks) h =
    ap (λ one. fold (with_made turns) (map known_made made ++ one ∷ []) blocks) (block_known turns made b.body (h 0 b (omega arith)))
    ∙ (ap (λ l. fold (with_made turns) l blocks) (made_more made (made_by made b.body)) ∙ blocks_known turns (made ++ made_by made b.body ∷ []) blocks (λ k d lt. h (suc k) d (omega (arith, lt))))

given_known : (extent : Option Extent) (values : List Value) → given_made extent values ≡ known_made (given extent values)
given_known None values = refl
given_known (Some extent) values = refl

givens_known : (parameters : List Input) (inputs : List (List Value)) → givens_made parameters inputs ≡ map known_made (givens parameters inputs)
givens_known [] inputs = refl
givens_known (p ∷ parameters) [] = ap (λ l. given_made p.extent [] ∷ l) (givens_known parameters []) ∙ ap (λ m. m ∷ map known_made (givens parameters [])) (given_known p.extent [])
givens_known (p ∷ parameters) (values ∷ inputs) =
    ap (λ l. given_made p.extent values ∷ l) (givens_known parameters inputs) ∙ ap (λ m. m ∷ map known_made (givens parameters inputs)) (given_known p.extent values)

list_known : (m : v.Made) → members_of (known_made m) ≡ map known (values_of m)
list_known (v.Single x) = refl
list_known (v.Many lo xs) = refl

result_known : (made : List v.Made) (k : ℕ) → result_in (map known_made made) k ≡ map known (result_of made k)
result_known made k = ap members_of (known_at made k) ∙ list_known (v.made_at made k)

results_known : (made : List v.Made) (results : List ℕ) → map (result_in (map known_made made)) results ≡ map (map known) (map (result_of made) results)
results_known made [] = refl
results_known made (k ∷ results) = ap (λ l. l ∷ map (result_in (map known_made made)) results) (result_known made k) ∙ ap (λ l. map known (result_of made k) ∷ l) (results_known made results)

pub program_known : (p : Flat) (inputs : List (List Value)) (turns : ℕ) → AreLoopless p.blocks → flat_members turns p inputs ≡ map (map known) (flat_mean p inputs)
unfolding flat_members flat_mean
program_known p inputs turns h =
    ap (λ made. map (result_in (fold (with_made turns) made p.blocks)) p.results) (givens_known p.parameters inputs)
    ∙ (ap (λ made. map (result_in made) p.results) (blocks_known turns (givens p.parameters inputs) p.blocks h)
    ∙ results_known (all_made p inputs) p.results)

cut_known : (xs : List Value) → cut (map known xs) ≡ xs
cut_known [] = refl
cut_known (x ∷ xs) = ap (λ l. x ∷ l) (cut_known xs)

cuts_known : (lists : List (List Value)) → map cut (map (map known) lists) ≡ lists
cuts_known [] = refl
cuts_known (xs ∷ lists) = ap (λ l. l ∷ map cut (map (map known) lists)) (cut_known xs) ∙ ap (λ l. xs ∷ l) (cuts_known lists)

-- up to their first nothing, too, the results are those values
pub values_known : (p : Flat) (inputs : List (List Value)) (turns : ℕ) → AreLoopless p.blocks → map cut (flat_members turns p inputs) ≡ flat_mean p inputs
values_known p inputs turns h = ap (map cut) (program_known p inputs turns h) ∙ cuts_known (flat_mean p inputs)
