-- Parts of which none is found by the name `copy`.
use Rattle.std.proofs.Common.{◌≡◌, ℕ, Bool, true, false, List, [], ◌∷◌, map, Option, Some, None, codes, chars}
use Rattle.std.proofs.Common.{refl, sym, ap, ◌∙◌, bytes_eq, true≢false}
use Rattle.std.proofs.lemmas.Slice.Eq.{bytes_eq-Decides}
use Rattle.std.specs.Prelude.{if◌then◌else◌}
use Rattle.foundation.proofs.AsciiWords.{word}
use Rattle.arm_value.specs.Look.{fold}
use Rattle.named_parts.specs.Found.{found}
use Rattle.template_meaning.specs.Parts.{is_copy}
use Rattle.template_written.specs.Keeps.{NoneLoops}

abbrev pub copy : List ℕ
copy = codes "copy"

-- a name that is not found by `copy` is not this word
no_copy_by : (x : List ℕ) (b : Bool) → is_copy x ≡ b → bytes_eq copy (fold x) ≡ false → b ≡ false
no_copy_by x true e h =
    let is = sym ((bytes_eq-Decides (chars copy) x).0 e) ∙ word copy refl in
    absurd (true≢false (sym ((bytes_eq-Decides copy (fold x)).1 (sym (ap fold is))) ∙ h))
no_copy_by x false e h = refl

no_copy : (x : List ℕ) → bytes_eq copy (fold x) ≡ false → is_copy x ≡ false
no_copy x h = no_copy_by x (is_copy x) refl h

module _ {A : Type 0} (name : A → List ℕ) where
  not_first : (b : Bool) (a : A) (o : Option A) → (if b then Some a else o) ≡ None → (b ≡ false) × (o ≡ None)
  not_first true a o h = absurd cc
  not_first false a o h = (refl, h)

  -- the first is not named so, and none of the others is found
  pub first_is_other : (a : A) (xs : List A) → found name copy (a ∷ xs) ≡ None
      → (is_copy (name a) ≡ false) × (found name copy xs ≡ None)
  first_is_other a xs h =
      let p = not_first (bytes_eq copy (fold (name a))) a (found name copy xs) h in
      (no_copy (name a) p.0, p.1)

  pub none_loops : (xs : List A) → found name copy xs ≡ None → NoneLoops (map name xs)
  none_loops [] h = tt
  none_loops (a ∷ xs) h =
      let p = first_is_other a xs h in
      (p.0, none_loops xs p.1)
