-- Nodes in the order in which they were marked.
use Rattle.std.proofs.Common.{◌≡◌, ◌<◌, ◌≤◌, ◌+◌, ◌⊎◌, inl, inr, ℕ, Bool, true, false, List, [], ◌∷◌, ◌++◌}
use Rattle.std.proofs.Common.{length, get_or, refl, sym, ap, subst, ◌∙◌, arith}
use Rattle.std.proofs.Math.ListN.{set}
use Rattle.std.proofs.lemmas.Bool.{cases_eq}
use Rattle.std.proofs.lemmas.List.{get_or-set_other}
use Rattle.std.proofs.lemmas.Grind.{common_steps}
use Rattle.depend_graph.specs.Shape.{Shape, needs_of, is_done, Needs}
use Rattle.depend_graph.specs.Orders.{IsAmong, marked}
use Rattle.depend_graph.specs.Circles.{HasCome, InOrder}
use Rattle.depend_graph.proofs.Peeling.{empty_all_done}
use Rattle.depend_graph.proofs.Walking.{marked-set}

at_front : (xs : List ℕ) (x i : ℕ) → i < length xs → get_or (xs ++ x ∷ []) i 0 ≡ get_or xs i 0
at_front xs x i h = grind (arith, common_steps)

at_end : (xs : List ℕ) (x : ℕ) → get_or (xs ++ x ∷ []) (length xs) 0 ≡ x
at_end xs x = grind (arith, common_steps)

further : (xs : List ℕ) (x bound v : ℕ) → bound ≤ length xs → IsAmong xs bound v → IsAmong (xs ++ x ∷ []) bound v
further xs x bound v h s = let lt = s.1 in (s.0, s.1, at_front xs x s.0 (omega arith) ∙ s.2)

wider : (xs : List ℕ) (b c v : ℕ) → b ≤ c → IsAmong xs b v → IsAmong xs c v
wider xs b c v h s = let lt = s.1 in (s.0, (omega arith), s.2)

-- the node is done, or one of the first of these
abbrev IsBefore : Shape → List ℕ → ℕ → ℕ → Type 0
IsBefore g order count v = (is_done g v ≡ true) ⊎ IsAmong order count v

pub ordered_next : (g : Shape) (done : List Bool) (unmet ready order : List ℕ) (node : ℕ)
    → HasCome g done unmet ready → InOrder g done order → get_or unmet node 0 ≡ 0 → node < length g.needs
    → get_or done node false ≡ false → InOrder g (set done node true) (order ++ node ∷ [])
ordered_next g done unmet ready order node come o none within free =
    record { in_turn = sorted; among = all; counted = counts; nodes = all_nodes }
  where
    size : length (order ++ node ∷ []) ≡ length order + 1
    size = grind (arith, common_steps)

    later : (v : ℕ) → IsBefore g order (length order) v → IsBefore g (order ++ node ∷ []) (length order) v
    later v (inl e) = inl e
    later v (inr s) = inr (further order node (length order) v (omega arith) s)

    earlier : (i v : ℕ) → i < length order → IsBefore g order i v → IsBefore g (order ++ node ∷ []) i v
    earlier i v h (inl e) = inl e
    earlier i v h (inr s) = inr (further order node i v (omega arith) s)

    counts : length (order ++ node ∷ []) + marked g.done ≡ marked (set done node true)
    counts = omega (arith, size, o.counted, marked-set done node (omega (arith, come.done_size, within)) free)

    nodes_by : (i : ℕ) → (i ≡ length order) ⊎ (i ≡ length order → ⊥) → i < length (order ++ node ∷ [])
        → get_or (order ++ node ∷ []) i 0 < length g.needs
    nodes_by i (inl e) h =
        let here : get_or (order ++ node ∷ []) i 0 ≡ node =
        ap (λ (k : ℕ). get_or (order ++ node ∷ []) k 0) e ∙ at_end order node in omega (arith, here, within)
    nodes_by i (inr d) h =
        let lt : i < length order = omega (arith, size) in
        let before = o.nodes i lt in
        let same = at_front order node i lt in omega (arith, same, before)

    all_nodes : (i : ℕ) → i < length (order ++ node ∷ []) → get_or (order ++ node ∷ []) i 0 < length g.needs
    all_nodes i h = nodes_by i (cases_eq i (length order)) h

    sorted_by : (i v : ℕ) → (i ≡ length order) ⊎ (i ≡ length order → ⊥) → i < length (order ++ node ∷ [])
        → Needs g (get_or (order ++ node ∷ []) i 0) v → IsBefore g (order ++ node ∷ []) i v
    sorted_by i v (inl e) h n =
        let here : get_or (order ++ node ∷ []) i 0 ≡ node =
        ap (λ (k : ℕ). get_or (order ++ node ∷ []) k 0) e ∙ at_end order node in
        let done_all : get_or done v false ≡ true =
        empty_all_done done (needs_of g node) v (get_or done v false) refl (sym (come.counted node) ∙ none)
        (subst (λ (k : ℕ). Needs g k v) here n) in
        subst (λ (k : ℕ). IsBefore g (order ++ node ∷ []) k v) (sym e) (later v (o.among v done_all))
    sorted_by i v (inr d) h n =
        let lt : i < length order = omega (arith, size) in
        earlier i v lt (o.in_turn i v lt (subst (λ (k : ℕ). Needs g k v) (at_front order node i lt) n))

    sorted : (i v : ℕ) → i < length (order ++ node ∷ []) → Needs g (get_or (order ++ node ∷ []) i 0) v
        → IsBefore g (order ++ node ∷ []) i v
    sorted i v h n = sorted_by i v (cases_eq i (length order)) h n

    whole : (u : ℕ) → IsBefore g (order ++ node ∷ []) (length order) u
        → IsBefore g (order ++ node ∷ []) (length (order ++ node ∷ [])) u
    whole u (inl e) = inl e
    whole u (inr s) = inr (wider (order ++ node ∷ []) (length order) _ u (omega (arith, size)) s)

    all_by : (u : ℕ) → (u ≡ node) ⊎ (u ≡ node → ⊥) → get_or (set done node true) u false ≡ true
        → IsBefore g (order ++ node ∷ []) (length (order ++ node ∷ [])) u
    all_by u (inl e) h = inr (length order, (omega (arith, size)), at_end order node ∙ sym e)
    all_by u (inr d) h = whole u (later u (o.among u (sym (get_or-set_other done node u true false d) ∙ h)))

    all : (u : ℕ) → get_or (set done node true) u false ≡ true
        → IsBefore g (order ++ node ∷ []) (length (order ++ node ∷ [])) u
    all u h = all_by u (cases_eq u node) h

pub ordered_begun : (g : Shape) (done : List Bool) (order : List ℕ) → done ≡ g.done → order ≡ []
    → InOrder g done order
ordered_begun g done order e o = record {
  in_turn = λ i v h n. let size : length order ≡ 0 = ap length o in absurd (omega arith);
  counted =
      let size : length order ≡ 0 = ap length o in
      let same : marked done ≡ marked g.done = ap marked e in
      omega (arith, size, same);
  nodes = λ i h. let size : length order ≡ 0 = ap length o in absurd (omega arith);
  among = λ u h. inl (ap (λ (ds : List Bool). get_or ds u false) (sym e) ∙ h);
}
