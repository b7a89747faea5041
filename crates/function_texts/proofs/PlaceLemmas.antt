-- Where parts begin.
use Rattle.std.proofs.Common.{◌≡◌, ◌<◌, ◌≤◌, ◌+◌, ◌-◌, ℕ, Bool, true, false, List, [], ◌∷◌, length, get_or, take}
use Rattle.std.proofs.Common.{drop, refl, ap, ap₂, sym, ◌∙◌, arith}
use Rattle.std.specs.Prelude.{◌==◌, ◌&&◌}
use Rattle.std.proofs.lemmas.List.{drop_all, take_all, length-drop}
use Rattle.foundation.proofs.Comparisons.{eq_false, eq_true}
use Rattle.foundation.proofs.TruthValues.{and_false_is}
use Rattle.function_texts.specs.Places.{begins}
use Rattle.foundation.proofs.Lists.{next_item}

begins-cons : (c d : ℕ) (cs ds : List ℕ) → begins (c ∷ cs) (d ∷ ds) ≡ ((c == d) && begins cs ds)
unfolding begins
begins-cons c d cs ds = refl

begins-nil : (s : List ℕ) → begins [] s ≡ true
unfolding begins
begins-nil s = refl

begins_short : (part s : List ℕ) → length s < length part → begins part s ≡ false
unfolding begins
begins_short [] s h = absurd (omega arith)
begins_short (c ∷ cs) [] h = refl
begins_short (c ∷ cs) (d ∷ ds) h = ap (λ b. (c == d) && b) (begins_short cs ds (omega arith)) ∙ and_false_is (c == d)

pub no_room : (part s : List ℕ) → length s < length part → false ≡ begins part s
no_room part s h = sym (begins_short part s h)

pub begins_differs : (part s : List ℕ) (i c d : ℕ) (all : Bool) → i < length part → i < length s → c ≡ get_or part i c
    → d ≡ get_or s i d → (c ≡ d → ⊥) → begins (drop i part) (drop i s) ≡ all → false ≡ all
begins_differs part s i c d all h k e f t before =
    let step : begins (drop i part) (drop i s) ≡ false =
    ap₂ begins (next_item part i c h e) (next_item s i d k f)
    ∙ begins-cons c d (drop (i + 1) part) (drop (i + 1) s)
    ∙ ap (λ b. b && begins (drop (i + 1) part) (drop (i + 1) s)) (eq_false c d t) in
    sym step ∙ before

pub begins_more : (part s : List ℕ) (i c d : ℕ) (all : Bool) → i < length part → i < length s → c ≡ get_or part i c
    → d ≡ get_or s i d → c ≡ d → begins (drop i part) (drop i s) ≡ all
    → begins (drop (i + 1) part) (drop (i + 1) s) ≡ all
begins_more part s i c d all h k e f t before =
    let step : begins (drop i part) (drop i s) ≡ begins (drop (i + 1) part) (drop (i + 1) s) =
    ap₂ begins (next_item part i c h e) (next_item s i d k f)
    ∙ begins-cons c d (drop (i + 1) part) (drop (i + 1) s)
    ∙ ap (λ b. b && begins (drop (i + 1) part) (drop (i + 1) s)) (eq_true c d t) in
    sym step ∙ before

pub begins_ends : (part s : List ℕ) (i : ℕ) (all : Bool) → length part ≤ i → begins (drop i part) (drop i s) ≡ all
    → true ≡ all
begins_ends part s i all h before = sym (ap (λ p. begins p (drop i s)) (drop_all i part h) ∙ begins-nil (drop i s))
    ∙ before

pub whole_rest : (s : List ℕ) (i : ℕ) → take (length s - i) (drop i s) ≡ drop i s
whole_rest s i = take_all (length s - i) (drop i s) (omega (arith, length-drop i s))
