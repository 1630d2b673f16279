-- What the equations of the law make together.
use Rattle.std.proofs.Common.{◌≡◌, ℕ, ◌*◌, ◌<◌, ◌≤◌, ◌^◌, ℤ, pos, ◌≤ℤ◌, List, length, get_or, zip, All, Contains, sym, subst, ap, ◌∙◌, arith}
use Rattle.std.proofs.Math.Nat.{mul-le-mul_left}
use Rattle.std.proofs.lemmas.Int.{ints}
use Rattle.std.proofs.lemmas.List.{get_or_default}
use Rattle.std.proofs.lemmas.Slice.Zip.{get_or-zip}
use Rattle.df_stages.specs.declared.skeleton.SkeletonArc.{SkeletonArc}
use Rattle.df_stages.specs.SkeletonLists.{SkeletonLists}
use Rattle.df_stages.specs.Skeletons.{no_arc, arc_at, WeightsWithin}
use Rattle.df_stages.specs.Flows.{difference, excess, EndsWithin, IsConservedAt, IsDualFlow}
use Rattle.df_stages.proofs.ZipSums.{length_pairs}
use Rattle.df_stages.proofs.Duality.{equal_value}
use Rattle.df_cancel.specs.Rows.{RowWithin}
use Rattle.df_cancel.specs.Balances.{numbered, IsBalance, IsTight}
use Rattle.df_paths.specs.Settled.{AreSettled}

module _ (s : SkeletonLists) (stages : List ℤ) (flow : List ℕ) (settled : AreSettled (numbered stages) s.arcs flow) (dual : IsDualFlow (length s.nodes) s.arcs flow) where
  respected : (k : ℕ) → k < length s.arcs → (arc_at s.arcs k).weight ≤ℤ difference (numbered stages) (arc_at s.arcs k)
  respected k h = (settled k h).0

  exact : (k : ℕ) → k < length s.arcs → 0 < get_or flow k 0 → excess (numbered stages) (arc_at s.arcs k) ≡ pos 0
  exact k h more = let e = (settled k h).1 more in omega (arith, ints)

  pub tight_of : EndsWithin (length s.nodes) s.arcs → IsTight s stages flow
  tight_of ends = record {
    equal = equal_value (numbered stages) (length s.nodes) s.arcs flow ends dual (λ k d h.
        let i : k < length s.arcs = omega (arith, length_pairs s.arcs flow dual.each) in
        subst (λ (p : SkeletonArc × ℕ). 0 < p.1 → excess (numbered stages) p.0 ≡ pos 0)
        (sym (get_or_default (zip s.arcs flow) k d (no_arc, 0) h ∙ get_or-zip s.arcs flow k (no_arc, 0) i (omega (arith, dual.each)))) (exact k i));
  }

  pub balance_of : (top greatest : ℕ) → length stages ≡ length s.nodes → top ≡ length s.nodes * greatest
      → ((m : ℕ) → WeightsWithin m s.arcs → greatest ≤ m) → RowWithin top stages → (0 < length stages → Contains stages (pos 0)) → IsBalance s stages flow
  balance_of top greatest long is least within low = record {
    each = long;
    respects = λ k d h. subst (λ (a : SkeletonArc). a.weight ≤ℤ difference (numbered stages) a) (get_or_default s.arcs k no_arc d h) (respected k h);
    lowest = (λ k d h. subst (λ z. pos 0 ≤ℤ z) (get_or_default stages k (pos 0) d h) ((within k).0), low);
    bound = λ m weights k d h. subst (λ z. z ≤ℤ pos (length s.nodes * m)) (get_or_default stages k (pos 0) d h)
        (let most = mul-le-mul_left (length s.nodes) (least m weights) in let w = (within k).1 in omega (arith, ints));
    dual = dual;
  }

-- the same of arcs and of a number of nodes that were read
pub lawful : (s : SkeletonLists) (stages : List ℤ) (flow : List ℕ) (arcs : List SkeletonArc) (nodes greatest : ℕ) → arcs ≡ s.arcs → nodes ≡ length s.nodes
    → EndsWithin (length s.nodes) s.arcs → length stages ≡ nodes → length flow ≡ length arcs → All (λ f. f < 2 ^ 32) flow
    → ((m : ℕ) → WeightsWithin m arcs → greatest ≤ m) → RowWithin (nodes * greatest) stages → (0 < length stages → Contains stages (pos 0))
    → AreSettled (numbered stages) arcs flow → ((node : ℕ) → node < length s.nodes → IsConservedAt s.arcs flow node) → IsBalance s stages flow × IsTight s stages flow
lawful s stages flow arcs nodes greatest same count ends long each small least within low settled conserved =
    let dual : IsDualFlow (length s.nodes) s.arcs flow = record { each = each ∙ ap (λ (l : List SkeletonArc). length l) same; small = small; conserved = conserved } in
    let found = subst (λ a. AreSettled (numbered stages) a flow) same settled in
    let first = subst (λ a. (m : ℕ) → WeightsWithin m a → greatest ≤ m) same least in
    (balance_of s stages flow found dual (nodes * greatest) greatest (long ∙ count) (ap (λ n. n * greatest) count) first within low, tight_of s stages flow found dual ends)
