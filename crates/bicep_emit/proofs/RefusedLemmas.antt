-- What is refused has a fault and no value.
use Rattle.std.proofs.Common.{◌≡◌, ◌<◌, ◌≤◌, ℕ, Result, Ok, Err, refl, sym, ap, subst, arith}
use Rattle.std.specs.Prelude.{IfOk, IfErr}
use Rattle.std.specs.declared.alloc.AllocError.{AllocError}
use Rattle.template_nestings.specs.Laws.{NestsNoDeeper}
use Rattle.template_nestings.specs.Nestings.{template_nesting}
use Rattle.template_parts.specs.declared.limit.Which.TheVariants as which
use Rattle.template_tree.specs.View.{template_tree}
use Rattle.template_tree.specs.declared.resource.Template.{Template}
use Rattle.program_parts.specs.EmitFault.{EmitFault}
use Rattle.program_parts.specs.EmitFault.TheVariants as fault
use Rattle.bicep_emit.specs.Faults.{IsNestingFault, IsWithin}

pub refused : {A : Type 0} (P : EmitFault → Type 0) (res : Result A EmitFault) (x : EmitFault) → res ≡ Err x → P x
    → IfErr res P
refused P res x e h = subst (λ r. IfErr r P) (sym e) h

pub no_value : {A : Type 0} (P : A → Type 0) (res : Result A EmitFault) (x : EmitFault) → res ≡ Err x → IfOk res P
no_value P res x e = subst (λ r. IfOk r P) (sym e) tt

pub no_memory : {A : Type 0} (P : A → Type 0) (res : Result A AllocError) → IfOk res (λ a. ⊥) → IfOk res P
no_memory P (Ok a) h = absurd h
no_memory P (Err x) h = tt

pub other_fault : {A : Type 0} (P Q : EmitFault → Type 0) → ((x : EmitFault) → P x → Q x) → (res : Result A EmitFault)
    → IfErr res P → IfErr res Q
other_fault P Q more (Ok a) h = tt
other_fault P Q more (Err x) h = more x h

pub other_value : {A : Type 0} (P Q : A → Type 0) → ((a : A) → P a → Q a) → (res : Result A EmitFault)
    → IfOk res P → IfOk res Q
other_value P Q more (Ok a) h = more a h
other_value P Q more (Err x) h = tt

abbrev pub deep : ℕ → EmitFault
deep n = fault.Limit which.Nesting n

-- the template nests too deep
pub nesting_fault : (t : Template) (depth : ℕ) → depth ≡ template_nesting (template_tree t) → 120 < depth
    → IsNestingFault t (fault.Limit which.Nesting depth)
nesting_fault t depth e l = (ap (fault.Limit which.Nesting) e, subst (λ n. 120 < n) e l)

pub within_nesting : (law : NestsNoDeeper) (t : Template) (depth : ℕ) → depth ≡ template_nesting (template_tree t)
    → depth ≤ 120 → IsWithin t t
within_nesting law t depth e l =
    (refl, law (template_tree t) 120 (omega arith) (subst (λ n. n ≤ 120) e l))
