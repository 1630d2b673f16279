-- More turns change no value.
use Rattle.std.proofs.Common.{◌≡◌, ◌≤◌, ℕ, ℤ, zero, suc, pos, negsuc, ◌+◌, ◌+ℤ◌, ◌-ℤ◌, List, [], ◌∷◌, ◌++◌, map, fold, length, set, refl, ap, sym, ◌∙◌, subst, get_or, true, false, Option, Some, None, arith}
use Rattle.std.specs.List.{range_with_len}
use Rattle.df_values.specs.declared.kinds.Binary.{Binary}
use Rattle.df_values.specs.declared.kinds.Unary.{Unary}
use Rattle.df_values.specs.declared.kinds.Op.{Op}
use Rattle.df_values.specs.declared.values.Value.{Value}
use Rattle.df_values.specs.declared.values.Value.TheVariants.{Int, Truth, Error}
use Rattle.df_values.specs.declared.values.ErrorValue.TheVariants.{Undef, MissElt}
use Rattle.df_partial.specs.Members.{Member, paired, changed, decided, Stays, AllStay, AllListsStay}
use Rattle.df_core.specs.declared.terms.Term.{Term, roll-Term}
use Rattle.df_core.specs.declared.terms.Term.TheVariants as n
use Rattle.df_core.specs.declared.terms.Term.TheOpen.{Term-F}
use Rattle.df_core.specs.declared.terms.Step.{Step}
use Rattle.df_core.specs.declared.terms.Branch.{Branch}
use Rattle.df_core.specs.declared.terms.Assignment.{Assignment}
use Rattle.df_core.specs.declared.flat.Body.{Body}
use Rattle.df_core.specs.declared.flat.Body.TheVariants as body
use Rattle.df_core.specs.declared.flat.Block.{Block}
use Rattle.df_core.specs.declared.flat.Flat.{Flat}
use Rattle.df_core.specs.declared.made.Made.{Made}
use Rattle.df_core.specs.declared.made.Made.TheVariants.{Single, Many}
use Rattle.df_core.specs.TermInduction.{Proved, without, term_induction}
use Rattle.df_core.specs.Meaning.{begun, folded_more}
use Rattle.df_core.specs.Turning.{Place, term_member, scalar_in, member_at_place, member_in, made_in, assigned, moved, turned, member_at, members_over, last_member, grown_over, joined_more, joined_last, block_made, with_made, givens_made, members_of, all_in, result_in, flat_members}
use Rattle.df_core.specs.MemberParts.{joined_with, branches_with, bind, bound_with, given_with, turned_with}
use Rattle.df_core.proofs.Given as g

-- ---- members

stays_same : (m : Member) → Stays m m
stays_same (Some x) = refl
stays_same None = tt

paired_stays : (with : Binary) (a b c d : Member) → Stays a c → Stays b d → Stays (paired with a b) (paired with c d)
paired_stays with (Some a) (Some b) c d isc isd = rw (isc, isd) refl
paired_stays with (Some a) None c d isc isd = tt
paired_stays with None b c d isc isd = tt

changed_stays : (how : Unary) (a c : Member) → Stays a c → Stays (changed how a) (changed how c)
changed_stays how (Some a) c isc = rw isc refl
changed_stays how None c isc = tt

decided_stays : (t x y u a b : Member) → Stays t u → Stays x a → Stays y b → Stays (decided t x y) (decided u a b)
decided_stays (Some (Truth true)) x y u a b ist isx isy = rw ist isx
decided_stays (Some (Truth false)) x y u a b ist isx isy = rw ist isy
decided_stays (Some (Int i)) x y u a b ist isx isy = rw ist refl
decided_stays (Some (Error e)) x y u a b ist isx isy = rw ist refl
decided_stays None x y u a b ist isx isy = tt

-- ---- lists of members

all_same : (ms : List Member) → AllStay ms ms
all_same [] = tt
all_same (m ∷ ms) = (stays_same m, all_same ms)

at_stays : (ms ns : List Member) (k : ℕ) (d : Member) → AllStay ms ns → Stays (get_or ms k d) (get_or ns k d)
at_stays [] [] k d h = stays_same d
at_stays [] (n ∷ ns) k d h = absurd h
at_stays (m ∷ ms) [] k d h = absurd h
at_stays (m ∷ ms) (n ∷ ns) zero d h = h.0
at_stays (m ∷ ms) (n ∷ ns) (suc k) d h = at_stays ms ns k d h.1

more_stays : (ms ns : List Member) (m n : Member) → AllStay ms ns → Stays m n → AllStay (ms ++ m ∷ []) (ns ++ n ∷ [])
more_stays [] [] m n h one = (one, tt)
more_stays [] (b ∷ ns) m n h one = absurd h
more_stays (a ∷ ms) [] m n h one = absurd h
more_stays (a ∷ ms) (b ∷ ns) m n h one = (h.0, more_stays ms ns m n h.1 one)

set_stays : (ms ns : List Member) (k : ℕ) (m n : Member) → AllStay ms ns → Stays m n → AllStay (set ms k m) (set ns k n)
set_stays [] [] k m n h one = tt
set_stays [] (b ∷ ns) k m n h one = absurd h
set_stays (a ∷ ms) [] k m n h one = absurd h
set_stays (a ∷ ms) (b ∷ ns) zero m n h one = (one, h.1)
set_stays (a ∷ ms) (b ∷ ns) (suc k) m n h one = (h.0, set_stays ms ns k m n h.1 one)

length_stays : (ms ns : List Member) → AllStay ms ns → length ms ≡ length ns
length_stays [] [] h = refl
length_stays [] (b ∷ ns) h = absurd h
length_stays (a ∷ ms) [] h = absurd h
length_stays (a ∷ ms) (b ∷ ns) h = ap suc (length_stays ms ns h.1)

map_stays : (f f' : ℕ → Member) → ((k : ℕ) → Stays (f k) (f' k)) → (ks : List ℕ) → AllStay (map f ks) (map f' ks)
map_stays f f' h [] = tt
map_stays f f' h (k ∷ ks) = (h k, map_stays f f' h ks)

-- ---- what stands around a term

MadeStays : Made → Made → Type 0
MadeStays (Single m) (Single n) = Stays m n
MadeStays (Single m) (Many lo ns) = ⊥
MadeStays (Many lo ms) (Single n) = ⊥
MadeStays (Many lo ms) (Many hi ns) = (lo ≡ hi) × AllStay ms ns

AllMadeStay : List Made → List Made → Type 0
AllMadeStay [] [] = Unit {0}
AllMadeStay [] (b ∷ ys) = ⊥
AllMadeStay (a ∷ xs) [] = ⊥
AllMadeStay (a ∷ xs) (b ∷ ys) = MadeStays a b × AllMadeStay xs ys

record PlaceStays (p q : Place) : Type 0 where
  made : AllMadeStay p.made q.made
  at : p.at ≡ q.at
  previous : Stays p.previous q.previous
  turns : p.turns ≤ q.turns

made_at_stays : (xs ys : List Made) (k : ℕ) → AllMadeStay xs ys → MadeStays (made_in xs k) (made_in ys k)
unfolding AllMadeStay MadeStays
made_at_stays [] [] k h = (refl, tt)
made_at_stays [] (b ∷ ys) k h = absurd h
made_at_stays (a ∷ xs) [] k h = absurd h
made_at_stays (a ∷ xs) (b ∷ ys) zero h = h.0
made_at_stays (a ∷ xs) (b ∷ ys) (suc k) h = made_at_stays xs ys k h.1

scalar_stays : (a b : Made) → MadeStays a b → Stays (scalar_in a) (scalar_in b)
unfolding MadeStays
scalar_stays (Single m) (Single n) h = h
scalar_stays (Single m) (Many lo ns) h = absurd h
scalar_stays (Many lo ms) (Single n) h = absurd h
scalar_stays (Many lo ms) (Many hi ns) h = refl

place_stays : (ms ns : List Member) (z : ℤ) → AllStay ms ns → Stays (member_at_place ms z) (member_at_place ns z)
place_stays ms ns (pos k) h = at_stays ms ns k (Some (Error MissElt)) h
place_stays ms ns (negsuc k) h = refl

member_stays : (a b : Made) (k : ℤ) → MadeStays a b → Stays (member_in a k) (member_in b k)
unfolding MadeStays
member_stays (Single m) (Single n) k h = refl
member_stays (Single m) (Many lo ns) k h = absurd h
member_stays (Many lo ms) (Single n) k h = absurd h
member_stays (Many lo ms) (Many hi ns) k h = subst (λ z. Stays (member_at_place ms (k -ℤ lo)) (member_at_place ns (k -ℤ z))) h.0 (place_stays ms ns (k -ℤ lo) h.1)

-- ---- terms

-- what is shown of a term
abbrev TermStays : Term → Type 0
TermStays t = (p q : Place) (ms ns : List Member) → PlaceStays p q → AllStay ms ns → Stays (term_member t p ms) (term_member t q ns)

rest_stays : (rest : List ((s : Step) × TermStays s.operand)) (p q : Place) (ms ns : List Member) (a b : Member) → PlaceStays p q → AllStay ms ns → Stays a b
    → Stays (joined_with p ms a (map (λ e. e.0) rest)) (joined_with q ns b (map (λ e. e.0) rest))
rest_stays [] p q ms ns a b hp h one = one
rest_stays (e ∷ rest) p q ms ns a b hp h one =
    rest_stays rest p q ms ns (paired e.0.with a (term_member e.0.operand p ms)) (paired e.0.with b (term_member e.0.operand q ns)) hp h
    (paired_stays e.0.with a (term_member e.0.operand p ms) b (term_member e.0.operand q ns) one (e.1 p q ms ns hp h))

branches_stay : (branches : List ((b : Branch) × (TermStays b.test × TermStays b.value))) (p q : Place) (ms ns : List Member) (a b : Member) → PlaceStays p q → AllStay ms ns → Stays a b
    → Stays (branches_with p ms a (map (λ e. e.0) branches)) (branches_with q ns b (map (λ e. e.0) branches))
branches_stay [] p q ms ns a b hp h one = one
branches_stay (e ∷ branches) p q ms ns a b hp h one =
    decided_stays _ _ _ _ _ _ (e.1.0 p q ms ns hp h) (e.1.1 p q ms ns hp h) (branches_stay branches p q ms ns a b hp h one)

bound_stays : (ds : List ((t : Term) × TermStays t)) (p q : Place) (ms ns : List Member) → PlaceStays p q → AllStay ms ns
    → AllStay (bound_with p ms (map (λ e. e.0) ds)) (bound_with q ns (map (λ e. e.0) ds))
bound_stays [] p q ms ns hp h = h
bound_stays (e ∷ ds) p q ms ns hp h =
    bound_stays ds p q (bind p ms e.0) (bind q ns e.0) hp (more_stays ms ns (term_member e.0 p ms) (term_member e.0 q ns) h (e.1 p q ms ns hp h))

-- assignments under some locals, done to others
put_stays : (next : List ((a : Assignment) × TermStays a.value)) (outer : ℕ) (p q : Place) (ms ns us vs : List Member) → PlaceStays p q → AllStay ms ns → AllStay us vs
    → AllStay (fold (assigned outer) us (given_with p (map (λ e. e.0) next) ms)) (fold (assigned outer) vs (given_with q (map (λ e. e.0) next) ns))
put_stays [] outer p q ms ns us vs hp h hu = hu
put_stays (e ∷ next) outer p q ms ns us vs hp h hu =
    put_stays next outer p q ms ns (set us (outer + e.0.name) (term_member e.0.value p ms)) (set vs (outer + e.0.name) (term_member e.0.value q ns)) hp h
    (set_stays us vs (outer + e.0.name) (term_member e.0.value p ms) (term_member e.0.value q ns) hu (e.1 p q ms ns hp h))

turned_stays : (test test' last last' : List Member → Member) (move move' : List Member → List Member)
    → ((ms ns : List Member) → AllStay ms ns → Stays (test ms) (test' ns)) → ((ms ns : List Member) → AllStay ms ns → Stays (last ms) (last' ns))
    → ((ms ns : List Member) → AllStay ms ns → AllStay (move ms) (move' ns))
    → (k l : ℕ) (ms ns : List Member) → k ≤ l → AllStay ms ns → Stays (turned test move last k ms) (turned test' move' last' l ns)
turned_stays test test' last last' move move' ht hl hm zero zero ms ns le h = decided_stays (test ms) None (last ms) (test' ns) None (last' ns) (ht ms ns h) tt (hl ms ns h)
turned_stays test test' last last' move move' ht hl hm zero (suc l) ms ns le h =
    decided_stays (test ms) None (last ms) (test' ns) (turned test' move' last' l (move' ns)) (last' ns) (ht ms ns h) tt (hl ms ns h)
turned_stays test test' last last' move move' ht hl hm (suc k) zero ms ns le h = absurd (omega (arith, le))
turned_stays test test' last last' move move' ht hl hm (suc k) (suc l) ms ns le h =
    decided_stays (test ms) (turned test move last k (move ms)) (last ms) (test' ns) (turned test' move' last' l (move' ns)) (last' ns) (ht ms ns h)
    (turned_stays test test' last last' move move' ht hl hm k l (move ms) (move' ns) (omega (arith, le)) (hm ms ns h)) (hl ms ns h)

-- as equals of the two sides do
as_equal : (a b c d : Member) → a ≡ c → b ≡ d → Stays c d → Stays a b
as_equal a b c d isa isb h = rw (isa, isb) h

form_stays : (y : Proved TermStays) → TermStays (roll-Term (without TermStays y))
form_stays (Term-F.Constant x) p q ms ns hp h =
    as_equal _ _ _ _ (g.constant _ x p ms (n.rolls-Constant x)) (g.constant _ x q ns (n.rolls-Constant x)) refl
form_stays (Term-F.Local k) p q ms ns hp h =
    as_equal _ _ _ _ (g.local _ k p ms (n.rolls-Local k)) (g.local _ k q ns (n.rolls-Local k)) (at_stays ms ns k (Some (Error Undef)) h)
form_stays Term-F.Index p q ms ns hp h =
    as_equal _ _ _ _ (g.index _ p ms n.rolls-Index) (g.index _ q ns n.rolls-Index) (ap (λ z. Some (Int z)) (sym hp.at))
form_stays (Term-F.Outer k) p q ms ns hp h =
    as_equal _ _ _ _ (g.outer _ k p ms (n.rolls-Outer k)) (g.outer _ k q ns (n.rolls-Outer k)) (scalar_stays (made_in p.made k) (made_in q.made k) (made_at_stays p.made q.made k hp.made))
form_stays (Term-F.Element k c) p q ms ns hp h =
    as_equal _ _ _ _ (g.element _ k c p ms (n.rolls-Element k c)) (g.element _ k c q ns (n.rolls-Element k c))
    (subst (λ z. Stays (member_in (made_in p.made k) (p.at +ℤ c)) (member_in (made_in q.made k) (z +ℤ c))) hp.at
    (member_stays (made_in p.made k) (made_in q.made k) (p.at +ℤ c) (made_at_stays p.made q.made k hp.made)))
form_stays Term-F.Previous p q ms ns hp h =
    as_equal _ _ _ _ (g.previous _ p ms n.rolls-Previous) (g.previous _ q ns n.rolls-Previous) hp.previous
form_stays (Term-F.Chain first rest) p q ms ns hp h =
    let is = n.rolls-Chain first.0 (map (λ e. e.0) rest) in
    as_equal _ _ _ _ (g.chain _ first.0 (map (λ e. e.0) rest) p ms is) (g.chain _ first.0 (map (λ e. e.0) rest) q ns is)
    (rest_stays rest p q ms ns (term_member first.0 p ms) (term_member first.0 q ns) hp h (first.1 p q ms ns hp h))
form_stays (Term-F.Change how of) p q ms ns hp h =
    as_equal _ _ _ _ (g.change _ how of.0 p ms (n.rolls-Change how of.0)) (g.change _ how of.0 q ns (n.rolls-Change how of.0))
    (changed_stays how (term_member of.0 p ms) (term_member of.0 q ns) (of.1 p q ms ns hp h))
form_stays (Term-F.If branches last) p q ms ns hp h =
    let is = n.rolls-If (map (λ e. e.0) branches) last.0 in
    as_equal _ _ _ _ (g.choice _ (map (λ e. e.0) branches) last.0 p ms is) (g.choice _ (map (λ e. e.0) branches) last.0 q ns is)
    (branches_stay branches p q ms ns (term_member last.0 p ms) (term_member last.0 q ns) hp h (last.1 p q ms ns hp h))
form_stays (Term-F.Let ds value) p q ms ns hp h =
    let is = n.rolls-Let (map (λ e. e.0) ds) value.0 in
    as_equal _ _ _ _ (g.let_is _ (map (λ e. e.0) ds) value.0 p ms is) (g.let_is _ (map (λ e. e.0) ds) value.0 q ns is)
    (value.1 p q (bound_with p ms (map (λ e. e.0) ds)) (bound_with q ns (map (λ e. e.0) ds)) hp (bound_stays ds p q ms ns hp h))
form_stays (Term-F.Loop first more test next last) p q ms ns hp h =
    let is = n.rolls-Loop first.0 (map (λ e. e.0) more) test.0 (map (λ e. e.0) next) last.0 in
    let begun = bound_stays more p q (bind p ms first.0) (bind q ns first.0) hp (more_stays ms ns (term_member first.0 p ms) (term_member first.0 q ns) h (first.1 p q ms ns hp h)) in
    as_equal _ _ _ _ (g.loop_is _ first.0 (map (λ e. e.0) more) test.0 (map (λ e. e.0) next) last.0 p ms is)
    (g.loop_is _ first.0 (map (λ e. e.0) more) test.0 (map (λ e. e.0) next) last.0 q ns is
    ∙ ap (λ k. turned_with q k test.0 (map (λ e. e.0) next) last.0 q.turns (bound_with q (bind q ns first.0) (map (λ e. e.0) more))) (sym (length_stays ms ns h)))
    (turned_stays (term_member test.0 p) (term_member test.0 q) (term_member last.0 p) (term_member last.0 q)
    (moved (length ms) (given_with p (map (λ e. e.0) next))) (moved (length ms) (given_with q (map (λ e. e.0) next)))
    (λ us vs hu. test.1 p q us vs hp hu) (λ us vs hu. last.1 p q us vs hp hu) (λ us vs hu. put_stays next (length ms) p q us vs us vs hp hu hu)
    p.turns q.turns (bound_with p (bind p ms first.0) (map (λ e. e.0) more)) (bound_with q (bind q ns first.0) (map (λ e. e.0) more)) hp.turns begun)

term_stays : (t : Term) → TermStays t
term_stays = term_induction TermStays form_stays

-- ---- blocks

in_turn_stays : (k l : ℕ) (xs ys : List Made) (lo : ℤ) (a b : Member) (t : Term) (turn : ℕ) → k ≤ l → AllMadeStay xs ys → Stays a b
    → Stays (member_at k xs lo a t turn) (member_at l ys lo b t turn)
in_turn_stays k l xs ys lo a b t turn le h one =
    term_stays t _ _ [] [] (record { made = h; at = refl; previous = one; turns = le }) tt

members_stay : (k l : ℕ) (xs ys : List Made) (lo : ℤ) (t : Term) (n : ℕ) → k ≤ l → AllMadeStay xs ys → AllStay (members_over k xs lo t n) (members_over l ys lo t n)
members_stay k l xs ys lo t n le h =
    map_stays (member_at k xs lo (Some (Error Undef)) t) (member_at l ys lo (Some (Error Undef)) t) (λ turn. in_turn_stays k l xs ys lo (Some (Error Undef)) (Some (Error Undef)) t turn le h refl) (range_with_len 0 n)

last_stays : (k l : ℕ) (xs ys : List Made) (lo : ℤ) (first t : Term) → k ≤ l → AllMadeStay xs ys → (n : ℕ) → Stays (last_member k xs lo first t n) (last_member l ys lo first t n)
last_stays k l xs ys lo first t le h zero = in_turn_stays k l xs ys (pos 0) (Some (Error Undef)) (Some (Error Undef)) first 0 le h refl
last_stays k l xs ys lo first t le h (suc n) =
    in_turn_stays k l xs ys lo (last_member k xs lo first t n) (last_member l ys lo first t n) t n le h (last_stays k l xs ys lo first t le h n)

grown_stays : (k l : ℕ) (xs ys : List Made) (lo : ℤ) (first t : Term) (n : ℕ) → k ≤ l → AllMadeStay xs ys → AllStay (grown_over k xs lo first t n) (grown_over l ys lo first t n)
grown_stays k l xs ys lo first t n le h = map_stays (last_member k xs lo first t) (last_member l ys lo first t) (last_stays k l xs ys lo first t le h) (range_with_len 0 (suc n))

-- a fold that met a nothing stays with it
joined_nothing : (o : Op) (ms : List Member) → fold (joined_more o) None ms ≡ None
joined_nothing o [] = refl
joined_nothing o (m ∷ ms) = joined_nothing o ms

joined_stays : (o : Op) (ms ns : List Member) (so_far : Option Value) → AllStay ms ns
    → Stays (joined_last (fold (joined_more o) (Some so_far) ms)) (joined_last (fold (joined_more o) (Some so_far) ns))
joined_stays o [] [] so_far h = refl
joined_stays o [] (b ∷ ns) so_far h = absurd h
joined_stays o (a ∷ ms) [] so_far h = absurd h
joined_stays o (Some x ∷ ms) (b ∷ ns) so_far h = rw h.0 (joined_stays o ms ns (folded_more o so_far x) h.1)
joined_stays o (None ∷ ms) (b ∷ ns) so_far h = rw (joined_nothing o ms) tt

block_stays : (k l : ℕ) (xs ys : List Made) (b : Body) → k ≤ l → AllMadeStay xs ys → MadeStays (block_made k xs b) (block_made l ys b)
unfolding MadeStays
block_stays k l xs ys (body.Construct lo n t) le h = (refl, members_stay k l xs ys lo t n le h)
block_stays k l xs ys (body.Fold o lo n t) le h = joined_stays o (members_over k xs lo t n) (members_over l ys lo t n) (begun o) (members_stay k l xs ys lo t n le h)
block_stays k l xs ys (body.Recurrence lo n first t) le h = (refl, grown_stays k l xs ys lo first t n le h)
block_stays k l xs ys (body.Scalar t) le h = in_turn_stays k l xs ys (pos 0) (Some (Error Undef)) (Some (Error Undef)) t 0 le h refl

-- ---- programs

made_more : (xs ys : List Made) (a b : Made) → AllMadeStay xs ys → MadeStays a b → AllMadeStay (xs ++ a ∷ []) (ys ++ b ∷ [])
unfolding AllMadeStay
made_more [] [] a b h one = (one, tt)
made_more [] (y ∷ ys) a b h one = absurd h
made_more (x ∷ xs) [] a b h one = absurd h
made_more (x ∷ xs) (y ∷ ys) a b h one = (h.0, made_more xs ys a b h.1 one)

blocks_stay : (k l : ℕ) (xs ys : List Made) (blocks : List Block) → k ≤ l → AllMadeStay xs ys → AllMadeStay (fold (with_made k) xs blocks) (fold (with_made l) ys blocks)
blocks_stay k l xs ys [] le h = h
blocks_stay k l xs ys (b ∷ blocks) le h =
    blocks_stay k l (with_made k xs b) (with_made l ys b) blocks le (made_more xs ys (block_made k xs b.body) (block_made l ys b.body) h (block_stays k l xs ys b.body le h))

one_same : (a : Made) → MadeStays a a
unfolding MadeStays
one_same (Single m) = stays_same m
one_same (Many lo ms) = (refl, all_same ms)

made_same : (xs : List Made) → AllMadeStay xs xs
unfolding AllMadeStay
made_same [] = tt
made_same (a ∷ xs) = (one_same a, made_same xs)

list_stays : (a b : Made) → MadeStays a b → AllStay (members_of a) (members_of b)
unfolding MadeStays
list_stays (Single m) (Single n) h = (h, tt)
list_stays (Single m) (Many lo ns) h = absurd h
list_stays (Many lo ms) (Single n) h = absurd h
list_stays (Many lo ms) (Many hi ns) h = h.1

results_stay : (xs ys : List Made) (results : List ℕ) → AllMadeStay xs ys → AllListsStay (map (result_in xs) results) (map (result_in ys) results)
results_stay xs ys [] h = tt
results_stay xs ys (k ∷ results) h = (list_stays (made_in xs k) (made_in ys k) (made_at_stays xs ys k h), results_stay xs ys results h)

pub program_stays : (p : Flat) (inputs : List (List Value)) (turns more : ℕ) → turns ≤ more → AllListsStay (flat_members turns p inputs) (flat_members more p inputs)
unfolding flat_members
program_stays p inputs turns more le =
    results_stay (all_in turns p inputs) (all_in more p inputs) p.results
    (blocks_stay turns more (givens_made p.parameters inputs) (givens_made p.parameters inputs) p.blocks le (made_same (givens_made p.parameters inputs)))
