-- Texts that are folded character by character.
use Rattle.std.proofs.Common.{◌≡◌, ℕ, List, [], ◌∷◌, ◌++◌, map, sym, ap, ◌∙◌, append_assoc}
use Rattle.std.proofs.lemmas.List.{map-append}
use Rattle.std.specs.Char.{to_ascii_lowercase}
use Rattle.arm_value.specs.Look.{fold}
use Rattle.foundation.proofs.Lists.{same_map}

pub folded_more : (first old new yielded : List ℕ) (c low : ℕ) → old ≡ first ++ fold yielded
    → low ≡ to_ascii_lowercase c → new ≡ old ++ low ∷ [] → new ≡ first ++ fold (yielded ++ c ∷ [])
folded_more first old new yielded c low e f g =
    g ∙ ap (λ xs. xs ++ low ∷ []) e ∙ append_assoc first (fold yielded) (low ∷ [])
    ∙ ap (λ l. first ++ (fold yielded ++ l ∷ [])) f
    ∙ ap (λ xs. first ++ xs) (sym (map-append to_ascii_lowercase yielded (c ∷ [])))

pub folded_all : (first new yielded all : List ℕ) → map (λ x. x) yielded ≡ all → new ≡ first ++ fold yielded
    → new ≡ first ++ fold all
folded_all first new yielded all e f = f ∙ ap (λ xs. first ++ fold xs) (sym (same_map yielded) ∙ e)
