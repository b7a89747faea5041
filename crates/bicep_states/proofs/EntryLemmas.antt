-- Which variables are misplaced, by what is known of their numbers.
use Rattle.std.proofs.Common.{◌≡◌, ℕ, ◌+◌, Bool, List, [], ◌∷◌, None, refl, ap, ◌∙◌, cond}
use Rattle.bicep_declared.specs.Declarations.{DeclaredTree}
use Rattle.bicep_mentions.specs.Entries.{variable_each, misplaced_one, misplaced_from}
use Rattle.foundation.specs.Options.{or_else}

pub misplaced-same : (f g : ℕ → Bool) (n : ℕ) (ds : List DeclaredTree) → ((k : ℕ) → f k ≡ g k)
    → misplaced_from f n ds ≡ misplaced_from g n ds
misplaced-same f g n [] h = refl
misplaced-same f g n (d ∷ ds) h =
    ap (λ b. or_else (cond b (variable_each d) None) (misplaced_from f (n + 1) ds)) (h n)
    ∙ ap (or_else (misplaced_one g n d)) (misplaced-same f g (n + 1) ds h)
