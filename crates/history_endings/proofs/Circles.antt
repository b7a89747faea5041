-- Circles that begin with their least number, and lists of marks.
use Rattle.std.proofs.Common.{◌≡◌, ◌⊎◌, inl, inr, ℕ, zero, suc, ◌+◌, ◌<◌, ◌≤◌, Bool, true, false, true≢false, List, []}
use Rattle.std.proofs.Common.{◌∷◌, ◌++◌, length, set, get_or, refl, sym, ap, subst, arith}
use Rattle.std.specs.Prelude.{nat_le}
use Rattle.foundation.proofs.Comparisons.{le_of_true, lt_of_false}
use Rattle.plan_cells.specs.Children.{Has}
use Rattle.deploy_histories.specs.Planned.{Planned}
use Rattle.deploy_histories.specs.Events.{Progress}
use Rattle.deploy_histories.specs.Endings.{NeedsUndone, NeedInTurn, AtLeast}

-- ---- marks

abbrev pub unmarked : List Bool → ℕ
unmarked [] = 0
unmarked (true ∷ bs) = unmarked bs
unmarked (false ∷ bs) = suc (unmarked bs)

pub marks_one : (bs : List Bool) (v : ℕ) → v < length bs → get_or bs v false ≡ false
    → unmarked bs ≡ suc (unmarked (set bs v true))
marks_one [] v l e = absurd (omega (arith, l))
marks_one (true ∷ bs) zero l e = absurd (true≢false e)
marks_one (false ∷ bs) zero l e = refl
marks_one (true ∷ bs) (suc v) l e = marks_one bs v (omega (arith, l)) e
marks_one (false ∷ bs) (suc v) l e = ap suc (marks_one bs v (omega (arith, l)) e)

pub all_marked : (bs : List Bool) (v : ℕ) → unmarked bs ≡ 0 → v < length bs → get_or bs v false ≡ true
all_marked [] v e l = absurd (omega (arith, l))
all_marked (true ∷ bs) zero e l = refl
all_marked (true ∷ bs) (suc v) e l = all_marked bs v e (omega (arith, l))
all_marked (false ∷ bs) v e l = absurd (omega (arith, e))

pub marked_now : (bs : List Bool) (v w : ℕ) → get_or (set bs v true) w false ≡ true
    → (w ≡ v) ⊎ (get_or bs w false ≡ true)
marked_now [] v w e = inr e
marked_now (b ∷ bs) zero zero e = inl refl
marked_now (b ∷ bs) zero (suc w) e = inr e
marked_now (b ∷ bs) (suc v) zero e = inr e
marked_now (b ∷ bs) (suc v) (suc w) e = elim (marked_now bs v w e) [ inl h ↦ inl (ap suc h) | inr h ↦ inr h ]

-- ---- the least number of a circle

abbrev Parts : List ℕ → ℕ → Type 0
Parts vs m = (front : List ℕ) × ((rest : List ℕ) × (vs ≡ front ++ m ∷ rest))

record Least (u : ℕ) (vs : List ℕ) : Type 0 where
  least : ℕ
  place : (least ≡ u) ⊎ Parts vs least
  below : (w : ℕ) → Has w (u ∷ vs) → least ≤ w

further : (v : ℕ) (vs : List ℕ) (m : ℕ) → (m ≡ v) ⊎ Parts vs m → Parts (v ∷ vs) m
further v vs m (inl e) = ([], (vs, ap (λ (n : ℕ). n ∷ vs) (sym e)))
further v vs m (inr h) = (v ∷ h.0, (h.1.0, ap (λ (r : List ℕ). v ∷ r) h.1.1))

by_order : (u v : ℕ) (vs : List ℕ) (r : Least v vs) (b : Bool) → nat_le u r.least ≡ b → Least u (v ∷ vs)
by_order u v vs r true e = record {
  least = u;
  place = inl refl;
  below = λ w h. elim h [
    | inl i ↦ (let j : u ≡ w = i in omega (arith, j))
    | inr i ↦ (let j : r.least ≤ w = r.below w i in let k : u ≤ r.least = le_of_true u r.least e in omega (arith, j, k))
  ];
}
by_order u v vs r false e = record {
  least = r.least;
  place = inr (further v vs r.least r.place);
  below = λ w h. elim h [
    | inl i ↦ (let j : u ≡ w = i in let k : r.least < u = lt_of_false u r.least e in omega (arith, j, k))
    | inr i ↦ r.below w i
  ];
}

the_least : (u : ℕ) (vs : List ℕ) → Least u vs
the_least u [] = record {
  least = u;
  place = inl refl;
  below = λ w h. elim h [ inl i ↦ (let j : u ≡ w = i in omega (arith, j)) | inr i ↦ absurd i ];
}
the_least u (v ∷ vs) = let r = the_least v vs in by_order u v vs r (nat_le u r.least) refl

has_front : (w : ℕ) (front rest : List ℕ) → Has w front → Has w (front ++ rest)
has_front w [] rest h = absurd h
has_front w (v ∷ front) rest h = elim h [ inl e ↦ inl e | inr i ↦ inr (has_front w front rest i) ]

has_rest : (w : ℕ) (front rest : List ℕ) → Has w rest → Has w (front ++ rest)
has_rest w [] rest h = h
has_rest w (v ∷ front) rest h = inr (has_rest w front rest h)

has_either : (w : ℕ) (front rest : List ℕ) → Has w (front ++ rest) → Has w front ⊎ Has w rest
has_either w [] rest h = inr h
has_either w (v ∷ front) rest h = elim h [
  | inl e ↦ inl (inl e)
  | inr i ↦ (elim (has_either w front rest i) [ inl j ↦ inl (inr j) | inr j ↦ inr j ])
]

module _ (x : Planned) (p : Progress) where
  at_least : (m : ℕ) (vs : List ℕ) → ((w : ℕ) → Has w vs → m ≤ w) → AtLeast x p m vs
  at_least m [] h = tt
  at_least m (v ∷ vs) h = (h v (inl refl), at_least m vs (λ w i. h w (inr i)))

  -- needs in turn, cut at a number
  cut : (u : ℕ) (front : List ℕ) (m : ℕ) (rest : List ℕ) (end : ℕ) → NeedInTurn x p u (front ++ m ∷ rest) end
      → NeedInTurn x p u front m × NeedInTurn x p m rest end
  cut u [] m rest end h = h
  cut u (v ∷ front) m rest end h = let r = cut v front m rest end h.1 in ((h.0, r.0), r.1)

  joined : (u : ℕ) (front : List ℕ) (m : ℕ) (rest : List ℕ) (end : ℕ) → NeedInTurn x p u front m
      → NeedInTurn x p m rest end → NeedInTurn x p u (front ++ m ∷ rest) end
  joined u [] m rest end g h = (g, h)
  joined u (v ∷ front) m rest end g h = (g.0, joined v front m rest end g.1 h)

  -- a circle, from its least number on
  pub record IsCircle : Type 0 where
    pub first : ℕ
    pub others : List ℕ
    pub in_turn : NeedInTurn x p first others first
    pub at_least : AtLeast x p first others

  turned : (u : ℕ) (vs : List ℕ) → NeedInTurn x p u vs u → (r : Least u vs) → (r.least ≡ u) ⊎ Parts vs r.least
      → IsCircle
  turned u vs h r (inl e) = record {
    first = u;
    others = vs;
    in_turn = h;
    at_least = at_least u vs (λ w i. let j : r.least ≤ w = r.below w (inr i) in omega (arith, j, e));
  }
  turned u vs h r (inr s) =
      let front = s.0 in
      let rest = s.1.0 in
      let c = cut u front r.least rest u (subst (λ (l : List ℕ). NeedInTurn x p u l u) s.1.1 h) in
      record {
        first = r.least;
        others = rest ++ u ∷ front;
        in_turn = joined r.least rest u front r.least c.1 c.0;
        at_least = at_least r.least (rest ++ u ∷ front) (λ w i. r.below w (elim (has_either w rest (u ∷ front) i) [
          | inl j ↦ inr (subst (λ (l : List ℕ). Has w l) (sym s.1.1) (has_rest w front (r.least ∷ rest) (inr j)))
          | inr j ↦ (elim j [
            | inl e ↦ inl e
            | inr k ↦ inr (subst (λ (l : List ℕ). Has w l) (sym s.1.1) (has_front w front (r.least ∷ rest) k))
          ])
        ]));
      }

  pub a_circle : (u : ℕ) (vs : List ℕ) → NeedInTurn x p u vs u → IsCircle
  a_circle u vs h = let r = the_least u vs in turned u vs h r r.place

  -- ---- a walk from need to need, most recent first

  abbrev pub Walked : List ℕ → ℕ → Type 0
  Walked [] u = Unit {0}
  Walked (w ∷ ws) u = NeedsUndone x p w u × Walked ws w

  -- the walk has come to a number again
  pub came_again : (ws : List ℕ) (u : ℕ) (after : List ℕ) (end : ℕ) → Walked ws u → NeedInTurn x p u after end
      → Has end (u ∷ ws) → (vs : List ℕ) × NeedInTurn x p end vs end
  came_again [] u after end k h i = elim i [
    | inl e ↦ (after, subst (λ (n : ℕ). NeedInTurn x p n after end) e h)
    | inr j ↦ absurd j
  ]
  came_again (w ∷ ws) u after end k h i = elim i [
    | inl e ↦ (after, subst (λ (n : ℕ). NeedInTurn x p n after end) e h)
    | inr j ↦ came_again ws w (u ∷ after) end k.1 (k.0, h) j
  ]
