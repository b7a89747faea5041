-- The numbers of texts, as they are added.
use Rattle.std.proofs.Common.{◌≡◌, ℕ, ◌+◌, List, [], ◌∷◌, ◌++◌, map, sym, ap, ◌∙◌}
use Rattle.std.proofs.Common.{append_assoc}
use Rattle.std.proofs.lemmas.List.{map-append}
use Rattle.key_tags.specs.KeyCodes.{text_code, texts_code}
use Rattle.foundation.proofs.Lists.{same_map}

pub raised_more : (first old new yielded : List ℕ) (c n : ℕ) → old ≡ first ++ map (λ x. x + 1) yielded → n ≡ c + 1
    → new ≡ old ++ n ∷ [] → new ≡ first ++ map (λ x. x + 1) (yielded ++ c ∷ [])
raised_more first old new yielded c n e f g =
    g ∙ ap (λ xs. xs ++ n ∷ []) e ∙ append_assoc first (map (λ x. x + 1) yielded) (n ∷ [])
    ∙ ap (λ l. first ++ (map (λ x. x + 1) yielded ++ l ∷ [])) f
    ∙ ap (λ xs. first ++ xs) (sym (map-append (λ x. x + 1) yielded (c ∷ [])))

pub raised_all : (first new yielded all : List ℕ) → map (λ x. x) yielded ≡ all → new ≡ first ++ map (λ x. x + 1) yielded
    → new ≡ first ++ map (λ x. x + 1) all
raised_all first new yielded all e f = f ∙ ap (λ xs. first ++ map (λ x. x + 1) xs) (sym (same_map yielded) ∙ e)

pub text_pushed : (old mid new x y : List ℕ) → mid ≡ old ++ map (λ c. c + 1) y → y ≡ x → new ≡ mid ++ 0 ∷ []
    → (rest : List ℕ) → new ++ rest ≡ old ++ text_code x rest
text_pushed old mid new x y e g h rest =
    ap (λ xs. xs ++ rest) (h ∙ ap (λ xs. xs ++ 0 ∷ []) (e ∙ ap (λ z. old ++ map (λ c. c + 1) z) g))
    ∙ append_assoc (old ++ map (λ c. c + 1) x) (0 ∷ []) rest
    ∙ append_assoc old (map (λ c. c + 1) x) (0 ∷ rest)

abbrev pub TextsLeft : List ℕ → List ℕ → List (List ℕ) → List (List ℕ) → Type 0
TextsLeft now first left all =
    (rest : List ℕ) → now ++ texts_code left rest ≡ first ++ texts_code all rest
