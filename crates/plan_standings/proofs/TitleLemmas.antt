-- The position of a scope in the name of a task.
use Rattle.std.proofs.Common.{◌≡◌, true, ℕ, List, [], ◌∷◌, Option, Some, None, Result, Ok, Err, refl, sym, ap, ◌∙◌}
use Rattle.std.specs.Prelude.{IfOk, option_map, codes}
use Rattle.std.specs.declared.alloc.AllocError.{AllocError}
use Rattle.arm_ids.specs.Segments.{is_empty}
use Rattle.plan_standings.specs.Titles.{or_root}

pub blank_root : (text : List ℕ) → is_empty text ≡ true → or_root text ≡ codes "/"
blank_root [] e = refl
blank_root (c ∷ cs) e = cc

titled : {P : Type 0} (f : P → List ℕ) (o : Option P)
    → option_map (λ q. or_root (f q)) o ≡ option_map or_root (option_map f o)
titled f None = refl
titled f (Some q) = refl

-- what is made of the text of a position is made of the position
pub titled_so : {P : Type 0} (f : P → List ℕ) (o : Option P) (place : List ℕ) (r : Result (List ℕ) AllocError)
    → option_map f o ≡ Some place → IfOk r (λ t. t ≡ or_root place)
    → IfOk r (λ t. option_map (λ q. or_root (f q)) o ≡ Some t)
titled_so f o place (Ok t) e s =
    titled f o ∙ ap (λ (y : Option (List ℕ)). option_map or_root y) e ∙ ap (λ (y : List ℕ). Some y) (sym s)
titled_so f o place (Err x) e s = tt
