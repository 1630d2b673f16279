-- Crossing arms one by one, from the outermost.
use Rattle.std.proofs.Common.{◌≡◌, ℕ, ◌+◌, ◌<◌, ◌≤◌, List, [], ◌∷◌, ◌++◌, map, reverse, length, take, drop, set, get_or, refl, sym, ◌∙◌, ap, arith, add-zero}
use Rattle.std.specs.Prelude.{if◌then◌else◌}
use Rattle.std.proofs.lemmas.Bool.{lt-ltb, le-ltb}
use Rattle.std.proofs.lemmas.List.{take_more_set, reverse-append, map-append, length-map, length-reverse, length-take, length-take-le, get_or-drop, set-get_or, take_all}
use Rattle.df_labels.specs.Graphs.{Graph, Node}
use Rattle.df_build_cond.specs.declared.arms.Arm as code
use Rattle.df_labels.specs.declared.graphs.Flow.{Flow}
use Rattle.df_build_cond.specs.Arms.{Arm, Crossed, Passed, cross, pass}
use Rattle.df_build_cond.specs.OpenArms.{arm_of, arms_of}

-- where no arm was opened since, nothing changes
pub cross_none : (keep : Node → Node) (level : ℕ) (graph : Graph) (arms : List Arm) (flow : Flow) → length arms ≤ level
    → cross keep level graph arms flow ≡ record { graph = graph; arms = arms; flow = flow }
cross_none keep level graph [] flow few = refl
cross_none keep level graph (arm ∷ arms) flow few =
    let less : length arms < level = omega (arith, few) in
    ap (λ b. if b then record { graph = graph; arms = arm ∷ arms; flow = flow }
    else let outer = cross keep level graph arms flow in let p = pass keep arm outer.graph outer.flow in record { graph = p.graph; arms = p.arm ∷ outer.arms; flow = p.flow })
    (lt-ltb (length arms) level less)

-- one arm more
pub cross_more : (keep : Node → Node) (level : ℕ) (graph : Graph) (arm : Arm) (arms : List Arm) (flow : Flow) → level ≤ length arms → (outer : Crossed) → cross keep level graph arms flow ≡ outer
    → (p : Passed) → p ≡ pass keep arm outer.graph outer.flow
    → cross keep level graph (arm ∷ arms) flow ≡ record { graph = p.graph; arms = p.arm ∷ outer.arms; flow = p.flow }
cross_more keep level graph arm arms flow many outer is p passes =
    ap (λ b. if b then record { graph = graph; arms = arm ∷ arms; flow = flow }
    else let outer = cross keep level graph arms flow in let p = pass keep arm outer.graph outer.flow in record { graph = p.graph; arms = p.arm ∷ outer.arms; flow = p.flow })
    (le-ltb (length arms) level many)
    ∙ (ap (λ (o : Crossed). let p = pass keep arm o.graph o.flow in record { graph = p.graph; arms = p.arm ∷ o.arms; flow = p.flow }) is
    ∙ ap (λ (q : Passed). record { graph = q.graph; arms = q.arm ∷ outer.arms; flow = q.flow }) (sym passes))

-- ---- the arms of the code, outermost first

pub arms_pushed : (arms : List code.Arm) (arm : code.Arm) → arms_of (arms ++ arm ∷ []) ≡ arm_of arm ∷ arms_of arms
arms_pushed arms arm = ap reverse (map-append arm_of arms (arm ∷ [])) ∙ reverse-append (map arm_of arms) (arm_of arm ∷ [])

pub arms_taken : (arms : List code.Arm) (k : ℕ) (arm : code.Arm) → k < length arms → arms_of (take (k + 1) (set arms k arm)) ≡ arm_of arm ∷ arms_of (take k arms)
arms_taken arms k arm within = ap arms_of (take_more_set arms k arm within) ∙ arms_pushed (take k arms) arm

pub length-arms : (arms : List code.Arm) → length (arms_of arms) ≡ length arms
length-arms arms = length-reverse (map arm_of arms) ∙ length-map arms arm_of

-- what stands behind the first k is what stood there
read_behind : (k : ℕ) (old now : List code.Arm) (arm : code.Arm) → drop k now ≡ drop k old → get_or now k arm ≡ get_or old k arm
read_behind k old now arm others =
    let zero_more : (l : List code.Arm) → get_or l k arm ≡ get_or (drop k l) 0 arm =
    λ l. ap (λ j. get_or l j arm) (sym (add-zero k)) ∙ sym (get_or-drop k l 0 arm) in
    zero_more now ∙ ap (λ l. get_or l 0 arm) others ∙ sym (zero_more old)

pub crossing_begun : (keep : Node → Node) (level : ℕ) (graph : Graph) (arms : List code.Arm) (flow : Flow)
    → cross keep level graph (arms_of (take level arms)) flow ≡ record { graph = graph; arms = arms_of (take level arms); flow = flow }
crossing_begun keep level graph arms flow =
    let few = length-arms (take level arms) ∙ length-take level arms in
    cross_none keep level graph (arms_of (take level arms)) flow (omega (arith, few))

pub crossing_next : (keep : Node → Node) (level k : ℕ) (graph g1 g2 : Graph) (old now : List code.Arm) (arm next : code.Arm) (flow inside after : Flow)
    → level ≤ k → k < length now → length now ≡ length old
    → cross keep level graph (arms_of (take k old)) flow ≡ record { graph = g1; arms = arms_of (take k now); flow = inside }
    → drop k now ≡ drop k old → arm ≡ get_or now k arm
    → record { arm = arm_of next; graph = g2; flow = after } ≡ pass keep (arm_of arm) g1 inside
    → cross keep level graph (arms_of (take (k + 1) old)) flow ≡ record { graph = g2; arms = arms_of (take (k + 1) (set now k next)); flow = after }
crossing_next keep level k graph g1 g2 old now arm next flow inside after deep within count done others at passes =
    let here : arm ≡ get_or old k arm = at ∙ read_behind k old now arm others in
    let same : set old k arm ≡ old = ap (λ (a : code.Arm). set old k a) here ∙ set-get_or old k arm in
    let inner : k < length old = omega (arith, count, within) in
    let taken : arms_of (take (k + 1) old) ≡ arm_of arm ∷ arms_of (take k old) =
    ap (λ (l : List code.Arm). arms_of (take (k + 1) l)) (sym same) ∙ arms_taken old k arm inner in
    let many : length (arms_of (take k old)) ≡ k = length-arms (take k old) ∙ length-take-le k old (omega (arith, inner)) in
    ap (λ (l : List Arm). cross keep level graph l flow) taken
    ∙ (cross_more keep level graph (arm_of arm) (arms_of (take k old)) flow (omega (arith, many, deep)) _ done _ passes
    ∙ ap (λ (l : List Arm). record { graph = g2; arms = l; flow = after }) (sym (arms_taken now k next within)))

pub crossing_ended : (keep : Node → Node) (level k : ℕ) (graph g1 : Graph) (old now : List code.Arm) (flow inside : Flow)
    → length old ≤ k → length now ≡ length old
    → cross keep level graph (arms_of (take k old)) flow ≡ record { graph = g1; arms = arms_of (take k now); flow = inside }
    → cross keep level graph (arms_of old) flow ≡ record { graph = g1; arms = arms_of now; flow = inside }
crossing_ended keep level k graph g1 old now flow inside past count done =
    ap (λ (l : List code.Arm). cross keep level graph (arms_of l) flow) (sym (take_all k old past))
    ∙ (done ∙ ap (λ (l : List code.Arm). record { graph = g1; arms = arms_of l; flow = inside }) (take_all k now (omega (arith, past, count))))
