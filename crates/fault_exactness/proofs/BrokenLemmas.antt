-- A value that breaks a rule by some of what is known leaves its cell without a value.
use Rattle.std.proofs.Common.{◌≡◌, ℕ, ◌<◌, pos, negsuc, Bool, true, false, true≢false, List, Option, Some, None}
use Rattle.std.proofs.Common.{refl, arith}
use Rattle.std.specs.Prelude.{codes, is_none, is_some, nat_le, option_map, option_and_then, if◌then◌else◌}
use Rattle.std.proofs.lemmas.Option.{none-some}
use Rattle.arm_value.specs.Json.{Json, null, bool, int, text, array, object}
use Rattle.reading.specs.Knowledge.{value, told}
use Rattle.arm_eval.specs.Trees.{count_of}
use Rattle.template_parts.specs.declared.fault.BindFault.{BindFault}
use Rattle.template_parts.specs.declared.limit.Which.{Which}
use Rattle.template_parts.specs.declared.parameter.Parameter.{Parameter}
use Rattle.template_parameters.specs.Rule.{breach, is_bool, is_text}
use Rattle.template_parameters.specs.declared.rule.Breach.{Breach}
use Rattle.deploy_cells.specs.Cells.{Cell, parameter, variable, offered, output, count, included, name, deployments}
use Rattle.deploy_cells.specs.Cells.{state}
use Rattle.deploy_cells.specs.Guarded.{Reads}
use Rattle.plan_cells.specs.Resources.{Listed}
use Rattle.plan_cells.specs.Scopes.{template_at, resource_of}
use Rattle.plan_cells.specs.Sites.{parameter_named}
use Rattle.plan_cells.specs.Known.{Table}
use Rattle.plan_cells.specs.Meaning.{Deployment, meets_rule, is_name, rule}
use Rattle.plan_cells.specs.Start.{IsStart}
use Rattle.plan_filling.specs.Rows.{Status, Row, status_of}
use Rattle.plan_filling.specs.Sound.{Good}
use Rattle.plan_filling.specs.Final.{final}
use Rattle.plan_refusals.specs.Refusals.{is_needed}
use Rattle.plan_settling.specs.Refused.{AreSettled}
use Rattle.plan_faults.specs.Rules.{fault_of, wrong_unless, count_fault, parameter_fault, broken}
use Rattle.plan_faults.specs.Known.{AreKnown, IsCellAt}
use Rattle.plan_faults.specs.Faults.{IsBroken, IsCountAbove}
use Rattle.fault_exactness.proofs.GrowLemmas.{told_too, admitted_too}
use Rattle.fault_exactness.proofs.EmptyLemmas.{needed_there, breaks_absent}

-- ---- rules

record Breaks (d : Deployment) (c : Cell) (v : Json) : Type 0 where
  pub is_needed : is_needed c ≡ true
  pub is_broken : rule d c v ≡ false

wrong_some : (b : Bool) (x : List ℕ) (f : BindFault) → wrong_unless b x ≡ Some f → b ≡ false
wrong_some true x f e = absurd (none-some f e)
wrong_some false x f e = refl

breach_some : (o : Option Breach) (x : List ℕ) (f : BindFault) → option_map (fault_of x) o ≡ Some f → is_none o ≡ false
breach_some None x f e = absurd (none-some f e)
breach_some (Some b) x f e = refl

count_broken : (v : Json) (f : BindFault) → count_fault v ≡ Some f → is_some (count_of v) ≡ false
count_broken (int (pos n)) f e = absurd (none-some f e)
count_broken (int (negsuc n)) f e = refl
count_broken null f e = refl
count_broken (bool b) f e = refl
count_broken (text x) f e = refl
count_broken (array js) f e = refl
count_broken (object ms) f e = refl

module _ (d : Deployment) where
  name_broken : (v : Json) (o : Option Listed) → is_text v ≡ false → is_name d v o ≡ false
  name_broken (text x) o e = absurd (true≢false e)
  name_broken null o e = refl
  name_broken (bool b) o e = refl
  name_broken (int z) o e = refl
  name_broken (array js) o e = refl
  name_broken (object ms) o e = refl

  parameter_broken : (v : Json) (o : Option Parameter) (f : BindFault) → parameter_fault v o ≡ Some f
      → meets_rule d v o ≡ false
  parameter_broken v None f e = refl
  parameter_broken v (Some p) f e = breach_some (breach p v) p.name f e

  breaks : (c : Cell) (v : Json) (f : BindFault) → broken d c v ≡ Some f → Breaks d c v
  breaks (parameter p x) v f e = record {
    is_needed = refl;
    is_broken = parameter_broken v (option_and_then (parameter_named x) (template_at d.template p)) f e;
  }
  breaks (included p s) v f e = record { is_needed = refl; is_broken = wrong_some (is_bool v) (codes "condition") f e }
  breaks (count p r) v f e = record { is_needed = refl; is_broken = count_broken v f e }
  breaks (name p s) v f e = record {
    is_needed = refl;
    is_broken = name_broken v (resource_of d.template p s.resource) (wrong_some (is_text v) (codes "name") f e);
  }
  breaks (variable p x) v f e = absurd (none-some f e)
  breaks (offered p x) v f e = absurd (none-some f e)
  breaks (output p x) v f e = absurd (none-some f e)
  breaks (deployments p) v f e = absurd (none-some f e)
  breaks (state k) v f e = absurd (none-some f e)

above : (n : ℕ) (b : Bool) → nat_le n 800 ≡ b → 800 < n → is_some (if b then Some n else None) ≡ false
above n false e h = refl
above n true e h = absurd (by_test n e h)
  where
    by_test : (n : ℕ) → nat_le n 800 ≡ true → 800 < n → ⊥
    by_test n e h = grind (arith, h)

count_above : (n : ℕ) → 800 < n → is_some (count_of (int (pos n))) ≡ false
count_above n h = above n (nat_le n 800) refl h

-- ---- sheets

module _ (d : Deployment) (σ : Cell → Option Status) (good : Good d σ) (is_start : IsStart d (final σ))
    (rows : List Row) (settled : AreSettled rows) (are : (c : Cell) → σ c ≡ status_of rows c)
    (q : Table) (are_known : AreKnown d q) where
  never : (c : Cell) (r : Reads Json) (path : List ℕ) (v : Json) → IsCellAt d q path c r → told q r ≡ value v
      → is_needed c ≡ true → rule d c v ≡ false → ⊥
  never c r path v at has n b =
      let there = admitted_too d q (final σ) are_known is_start c at.is_there in
      needed_there d σ good is_start rows settled are c r n at.is_raw there
      (breaks_absent d σ good is_start c r v n at.is_raw there
      (told_too d q (final σ) are_known is_start r v has) b)

  pub never_broken : (path : List ℕ) (f : BindFault) → IsBroken d q path f → ⊥
  never_broken path f x =
      let b = breaks d x.cell x.given f x.is_fault in
      never x.cell x.reading path x.given x.is_cell x.has b.is_needed b.is_broken

  pub never_above : (w : Which) (n : ℕ) → IsCountAbove d q w n → ⊥
  never_above w n x =
      never (count x.position x.resource) x.reading x.path (int (pos n)) x.is_count x.has refl
      (count_above n x.is_above)
