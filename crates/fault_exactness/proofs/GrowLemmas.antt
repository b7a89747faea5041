-- What some table has of the start, the table of all that is known then has too.
use Rattle.std.proofs.Common.{◌≡◌, ℕ, true, true≢false, Option, Some, None, refl, sym, ap, subst, ◌∙◌, arith}
use Rattle.foundation.proofs.Comparisons.{not_below_zero}
use Rattle.arm_value.specs.Json.{Json}
use Rattle.reading.specs.Knowledge.{Known, known, absent, missing, value, told, blanked, known_value}
use Rattle.reading.specs.Knowledge.{Stays}
use Rattle.reading.specs.Knowledge.{Grows, IsToldStill}
use Rattle.reading.proofs.Growth.{told_still}
use Rattle.deploy_cells.specs.Cells.{Cell, parameter, variable, offered, output, count, included, name, deployments}
use Rattle.deploy_cells.specs.Cells.{state, parent, admits, admitted, is_admitted}
use Rattle.deploy_cells.specs.Guarded.{Reads}
use Rattle.plan_cells.specs.Known.{Table}
use Rattle.plan_cells.specs.Meaning.{Deployment, meaning}
use Rattle.plan_cells.specs.Start.{IsStart, start}
use Rattle.plan_cells.proofs.KnownLemmas.{has_known}
use Rattle.plan_faults.specs.Known.{AreKnown}

pub never_admitted : (c : Cell) → admits c None ≡ true → ⊥
never_admitted (count p r) h = true≢false (sym h)
never_admitted (included p s) h = not_below_zero s.copy h
never_admitted (name p s) h = not_below_zero s.copy h
never_admitted (parameter p x) h = true≢false (sym h)
never_admitted (variable p x) h = true≢false (sym h)
never_admitted (offered p x) h = true≢false (sym h)
never_admitted (output p x) h = true≢false (sym h)
never_admitted (deployments p) h = true≢false (sym h)
never_admitted (state k) h = true≢false (sym h)

module _ (d : Deployment) (q s : Table) (are_known : AreKnown d q) (is_start : IsStart d s) where
  entry_grows : (c : Cell) (k : Known Json) → q c ≡ k → Stays k (s c)
  entry_grows c (known v) e = has_known (meaning d) start s is_start c (Some v) (are_known c (Some v) e)
  entry_grows c absent e = has_known (meaning d) start s is_start c None (are_known c None e)
  entry_grows c missing e = tt

  pub grows : Grows q s
  grows c = entry_grows c (q c) refl

  pub told_too : {A : Type 0} (r : Reads A) (v : A) → told q r ≡ value v → told s r ≡ value v
  told_too r v e = subst (λ u. IsToldStill s r u) e (told_still _ _ _ q s grows r)

  by_entry_of : (c b : Cell) (k : Known Json) → q b ≡ k → admits c (known_value k) ≡ true
      → admits c (blanked s b) ≡ true
  by_entry_of c b (known v) e h =
      ap (λ x. admits c (known_value x)) (subst (λ k. Stays k (s b)) e (grows b)) ∙ h
  by_entry_of c b absent e h = absurd (never_admitted c h)
  by_entry_of c b missing e h = absurd (never_admitted c h)

  by_parent : (c : Cell) (o : Option Cell) → admitted (blanked q) c o ≡ true → admitted (blanked s) c o ≡ true
  by_parent c None h = refl
  by_parent c (Some b) h = by_entry_of c b (q b) refl h

  pub admitted_too : (c : Cell) → is_admitted (blanked q) c ≡ true → is_admitted (blanked s) c ≡ true
  admitted_too c h = by_parent c (parent c) h
