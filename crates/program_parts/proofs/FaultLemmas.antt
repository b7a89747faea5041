-- What is refused has a fault and no value.
use Rattle.std.proofs.Common.{◌≡◌, inl, inr, ℕ, List, Result, Ok, Err, sym, subst}
use Rattle.std.specs.Prelude.{IfOk, IfErr}
use Rattle.bicep_program.specs.declared.file.SourceFile.{SourceFile as Text}
use Rattle.resolved_program.specs.declared.resolved.ResolvedFile.{ResolvedFile}
use Rattle.file_templates.specs.Faults.{IsBatchFault, IsFileFault}
use Rattle.file_templates.specs.Texts.{text_of}
use Rattle.file_templates.specs.declared.fault.EmitFault.{EmitFault}
use Rattle.program_parts.specs.Faults.{IsMemoryFault, IsProgramFault}
use Rattle.program_parts.specs.Programs.{IsPair}

pub refused : {A : Type 0} (P : EmitFault → Type 0) (res : Result A EmitFault) (x : EmitFault) → res ≡ Err x → P x
    → IfErr res P
refused P res x e h = subst (λ r. IfErr r P) (sym e) h

pub no_value : {A : Type 0} (P : A → Type 0) (res : Result A EmitFault) (x : EmitFault) → res ≡ Err x → IfOk res P
no_value P res x e = subst (λ r. IfOk r P) (sym e) tt

pub of_memory : {A : Type 0} (Q : EmitFault → Type 0) → ((x : EmitFault) → IsMemoryFault x → Q x)
    → (res : Result A EmitFault) → IfErr res IsMemoryFault → IfErr res Q
of_memory Q more (Ok a) h = tt
of_memory Q more (Err x) h = more x h

module _ (ss : List Text) (rs : List ResolvedFile) (k : ℕ) (x : Text) (r : ResolvedFile) (p : IsPair ss rs k x r) where
  pub of_batches : {A : Type 0} (res : Result A EmitFault) → IfErr res (IsBatchFault (text_of x))
      → IfErr res (IsProgramFault ss rs)
  of_batches (Ok a) h = tt
  of_batches (Err e) h = inr (record { number = k; text = x; file = r; pair = p; fault = inl h })

  pub of_file : {A : Type 0} (res : Result A EmitFault) → IfErr res (IsFileFault (text_of x) r rs)
      → IfErr res (IsProgramFault ss rs)
  of_file (Ok a) h = tt
  of_file (Err e) h = inr (record { number = k; text = x; file = r; pair = p; fault = inr h })
