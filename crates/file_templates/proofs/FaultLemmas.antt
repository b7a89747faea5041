-- The faults of a file whose batches or lists are too large.
use Rattle.std.proofs.Common.{◌≡◌, inl, inr, List, Result, Ok, Err, refl, sym, subst}
use Rattle.std.specs.Prelude.{IfOk, IfErr}
use Rattle.bicep_tree.specs.Tree.{FileTree}
use Rattle.resolved_program.specs.declared.resolved.ResolvedFile.{ResolvedFile}
use Rattle.symbol_decorators.specs.Limits.{IsFault}
use Rattle.symbol_decorators.specs.declared.fault.BatchFault.{BatchFault}
use Rattle.symbol_decorators.specs.declared.fault.BatchFault.TheVariants as batch
use Rattle.source_templates.specs.Seen.{Shape}
use Rattle.file_templates.specs.Faults.{IsMemoryFault, IsFaultOf, IsBatchFault, IsCountOrMemory, IsFileFault}
use Rattle.file_templates.specs.Texts.{IsTabled}
use Rattle.file_templates.specs.declared.fault.EmitFault.{EmitFault}
use Rattle.file_templates.specs.declared.fault.EmitFault.TheVariants as fault

-- what is refused has the fault, and no value
pub refused : {A : Type 0} (P : EmitFault → Type 0) (res : Result A EmitFault) (x : EmitFault) → res ≡ Err x → P x
    → IfErr res P
refused P res x e h = subst (λ r. IfErr r P) (sym e) h

pub no_value : {A : Type 0} (P : A → Type 0) (res : Result A EmitFault) (x : EmitFault) → res ≡ Err x → IfOk res P
no_value P res x e = subst (λ r. IfOk r P) (sym e) tt

pub other_fault : {A : Type 0} (P Q : EmitFault → Type 0) → ((x : EmitFault) → P x → Q x) → (res : Result A EmitFault)
    → IfErr res P → IfErr res Q
other_fault P Q more (Ok a) h = tt
other_fault P Q more (Err x) h = more x h

pub of_memory : {A : Type 0} (Q : EmitFault → Type 0) → Q fault.OutOfMemory → (res : Result A EmitFault)
    → IfErr res IsMemoryFault → IfErr res Q
of_memory Q h res e = other_fault IsMemoryFault Q (λ x i. subst Q (sym i) h) res e

pub of_batch : (t : FileTree) (b : BatchFault) (x : EmitFault) → IsFaultOf b x → IsFault t b → IsBatchFault t x
of_batch t (batch.TooLarge n) x e h = subst (λ y. IsBatchFault t y) (sym e) (refl, h)
of_batch t batch.OutOfMemory x e h = subst (λ y. IsBatchFault t y) (sym e) tt

pub of_table : (t : FileTree) (r : ResolvedFile) (rs : List ResolvedFile) (s : Shape) → IsTabled t r rs s
    → (x : EmitFault) → IsCountOrMemory s x → IsFileFault t r rs x
of_table t r rs s h x (inl e) = inl e
of_table t r rs s h x (inr e) = inr (s, (h, e))
