-- The texts of all types.
use Rattle.std.proofs.Common.{◌≡◌, ℕ, List, [], ◌∷◌, ◌++◌, chars, refl, Result, Ok, Err, IfOk}
use Rattle.std.specs.Prelude.{codes}
use Rattle.foundation.proofs.AsciiWords.{word}
use Rattle.plan_listing.specs.Words.{first_texts, type_texts}

four_texts : (a b c d e : List (List ℕ)) → a ≡ [] → b ≡ a ++ chars (codes "string") ∷ []
    → c ≡ b ++ chars (codes "securestring") ∷ [] → d ≡ c ++ chars (codes "int") ∷ []
    → e ≡ d ++ chars (codes "bool") ∷ [] → e ≡ first_texts
four_texts a b c d e pa pb pc pd pe =
    rw (
      pe,
      pd,
      pc,
      pb,
      pa,
      word (codes "string") refl,
      word (codes "securestring") refl,
      word (codes "int") refl,
      word (codes "bool") refl,
    ) refl

pub four_texts_in : {V E : Type 0} (items : V → List (List ℕ)) (r : Result V E) (a b c d : List (List ℕ)) → a ≡ []
    → b ≡ a ++ chars (codes "string") ∷ [] → c ≡ b ++ chars (codes "securestring") ∷ []
    → d ≡ c ++ chars (codes "int") ∷ [] → IfOk r (λ t. items t ≡ d ++ chars (codes "bool") ∷ [])
    → IfOk r (λ t. items t ≡ first_texts)
four_texts_in items (Ok t) a b c d pa pb pc pd h = four_texts a b c d (items t) pa pb pc pd h
four_texts_in items (Err e) a b c d pa pb pc pd h = tt

pub all_texts : (e f g h : List (List ℕ)) → e ≡ first_texts → f ≡ e ++ chars (codes "object") ∷ []
    → g ≡ f ++ chars (codes "secureObject") ∷ [] → h ≡ g ++ chars (codes "array") ∷ [] → h ≡ type_texts
all_texts e f g h pe pf pg ph =
    rw
    (ph, pg, pf, pe, word (codes "object") refl, word (codes "secureObject") refl, word (codes "array") refl) refl
