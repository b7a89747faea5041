use Rattle.std.proofs.Common.{◌≡◌, ◌∙◌, ◌++◌, ◌+◌, ◌-◌, ◌<◌, ℕ, suc, Bool, true, false, List, [], ◌∷◌, refl, sym, ap}
use Rattle.std.proofs.Common.{cond, arith, append_assoc}
use Rattle.std.specs.Prelude.{filter}
use Rattle.std.specs.List.{range_with_len}
use Rattle.graph_tests.specs.Edges.{is_blocker}
use Rattle.graph_tests.proofs.plain_graph.blockers.Goals as goal

-- the numbers from one on that pass, and the next
one_more : (P : ℕ → Bool) (need count : ℕ) → need < count
    → filter P (range_with_len need (count - need)) ≡ cond (P need) (need ∷ []) []
    ++ filter P (range_with_len (need + 1) (count - (need + 1)))
one_more P need count h = let longer : count - need ≡ suc (count - (need + 1)) = omega arith in
    rw longer (by (P need) (filter P (range_with_len (need + 1) (count - (need + 1)))))
  where
    by : (b : Bool) (rest : List ℕ) → cond b (need ∷ rest) rest ≡ cond b (need ∷ []) [] ++ rest
    by true rest = refl
    by false rest = refl

pub loop-need-preserved : goal.loop-need-preserved
loop-need-preserved c =
    let P = is_blocker c.args.edges.now c.args.done.now c.args.node in
    let need = c.loop-need.need in
    let rest = filter P (range_with_len (need + 1) (c.args.count - (need + 1))) in
    c.loop-need.invariant
    ∙ ap (λ ns. c.loop-need.found.items ++ ns) (one_more P need c.args.count c.loop-need-test.true)
    ∙ sym (append_assoc c.loop-need.found.items (cond (P need) (need ∷ []) []) rest)
    ∙ ap (λ ns. ns ++ rest)
    (sym (c.in_ok-push_where.ensures
    ∙ ap (λ b. c.loop-need.found.items ++ cond b (need ∷ []) []) c.is_blocker.ensures))
