-- Tags are told apart by their numbers.
use Rattle.std.proofs.Common.{◌≡◌, ℕ, refl, ap₂}
use Rattle.std.proofs.Common.{◌∙◌, arith}
use Rattle.std.specs.Prelude.{nat_eq, ◌&&◌, bytes_eq}
use Rattle.foundation.proofs.Comparisons.{eq_turned}
use Rattle.deploy_cells.specs.Cells.{Position}
use Rattle.key_tags.proofs.CodeLemmas.{key_eq}
use Rattle.plan_tags.specs.Tags.{Tag, entry, inside, before, root_left, child_of, same_tag}
use Rattle.plan_codes.specs.Codes.{code, IsNumbering, IsTagOf}
use Rattle.foundation.proofs.TruthValues.{and_true_is}

-- ---- tags

module _ (number : Position → ℕ) (P : Position → Type 0) (apart : IsNumbering number P) where
  pub tag_eq : (a t : Tag) → IsTagOf P a → IsTagOf P t → bytes_eq (code number a) (code number t) ≡ same_tag a t
  tag_eq (entry p) (entry q) h k = and_true_is (nat_eq (number p) (number q)) ∙ eq_turned (number p) (number q)
      ∙ apart q p k h
  tag_eq (entry p) (inside q) h k = refl
  tag_eq (entry p) (before q s m) h k = refl
  tag_eq (entry p) root_left h k = refl
  tag_eq (entry p) (child_of l) h k = refl
  tag_eq (inside p) (entry q) h k = refl
  tag_eq (inside p) (inside q) h k = and_true_is (nat_eq (number p) (number q)) ∙ apart p q h k
  tag_eq (inside p) (before q s m) h k = refl
  tag_eq (inside p) root_left h k = refl
  tag_eq (inside p) (child_of l) h k = refl
  tag_eq (before p r n) (entry q) h k = refl
  tag_eq (before p r n) (inside q) h k = refl
  tag_eq (before p r n) (before q s m) h k =
      ap₂ (λ a b. a && (nat_eq r s && b)) (apart p q h k) (and_true_is (nat_eq n m))
  tag_eq (before p r n) root_left h k = refl
  tag_eq (before p r n) (child_of l) h k = refl
  tag_eq root_left (entry q) h k = refl
  tag_eq root_left (inside q) h k = refl
  tag_eq root_left (before q s m) h k = refl
  tag_eq root_left root_left h k = refl
  tag_eq root_left (child_of l) h k = refl
  tag_eq (child_of j) (entry q) h k = refl
  tag_eq (child_of j) (inside q) h k = refl
  tag_eq (child_of j) (before q s m) h k = refl
  tag_eq (child_of j) root_left h k = refl
  tag_eq (child_of j) (child_of l) h k = key_eq j l
