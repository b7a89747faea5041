use Rattle.std.proofs.Common.{◌+◌, inl, List, drop, refl, sym, ◌∙◌, ap, subst, arith}
use Rattle.std.specs.Prelude.{None, IfOk}
use Rattle.foundation.proofs.Lists.{next_item}
use Rattle.bicep_symbols.specs.declared.entry.Entry.{Entry}
use Rattle.resolved_program.specs.declared.resolved.ResolvedFile.{ResolvedFile}
use Rattle.program_parts.specs.Measures.{by_file, whole}
use Rattle.bicep_emit.specs.Clauses.{IsBelow}
use Rattle.bicep_emit.specs.Inner.{HasModule, HasOneMore, IsModuleFault, IsModulesFault, IsOneTooMany}
use Rattle.bicep_emit.specs.Modules.{AreModules, CanBe, CanBeModules, IsGiven, IsGivenIn, IsWholeIn, IsWholeOf}
use Rattle.bicep_emit.proofs.FileLemmas.{can_fill, file_long, given_in, or_memory, or_value, whole_at}
use Rattle.bicep_emit.proofs.FitLemmas.{own_fits, modules_can, module_can, file_can, none_can}
use Rattle.bicep_emit.proofs.ModuleLemmas.{Goes, begins, goes_on, ends, module_fault, module_keeps, modules_fault}
use Rattle.bicep_emit.proofs.ModuleLemmas.{with_module}
use Rattle.bicep_emit.proofs.RefusedLemmas.{no_value, other_fault, other_value, refused}
use Rattle.bicep_emit.proofs.programs.+files.Goals as goal

pub whole_file-whole_of-requires : goal.whole_file-whole_of-requires
whole_file-whole_of-requires t c = (
  omega (arith, c.decreases),
  record { number = c.args.number; is = c.in-Some.ensures; can = c.requires },
)

pub whole_file-returns-in-Some-clause-whole : goal.whole_file-returns-in-Some-clause-whole
whole_file-returns-in-Some-clause-whole t c = c.whole_of.ensures.whole c.args.number c.in-Some.ensures

pub whole_file-returns-in-None-clause-fault : goal.whole_file-returns-in-None-clause-fault
whole_file-returns-in-None-clause-fault t c = inl refl

pub whole_of-modules-requires : goal.whole_of-modules-requires
whole_of-modules-requires t c = (
  omega (arith, c.decreases),
  subst (λ (es : List Entry). CanBeModules c.args.parts.now es c.args.depth)
      (sym (c.as_slice.ensures.value ∙ ap (λ (r : ResolvedFile). r.entries.items) c.file.ensures))
      (modules_can c.args.parts.now c.args.depth c.requires.number c.args.part.now c.requires.is c.requires.can),
)

pub whole_of-file_template-requires-clause-parts : goal.whole_of-file_template-requires-clause-parts
whole_of-file_template-requires-clause-parts t c =
    can_fill c.parts_within_the_limits_can_be_filled.ensures c.args.parts.now c.requires.number c.args.part.now
    c.requires.is c.requires.can.known
    (own_fits c.args.parts.now c.args.depth c.requires.number c.args.part.now c.requires.is c.requires.can)

pub whole_of-file_template-requires-clause-given : goal.whole_of-file_template-requires-clause-given
whole_of-file_template-requires-clause-given t c =
    let ps = c.args.parts.now in
    let p = c.args.part.now in
    given_in ps p
    (can_fill c.parts_within_the_limits_can_be_filled.ensures ps c.requires.number p c.requires.is
    c.requires.can.known (own_fits ps c.args.depth c.requires.number p c.requires.is c.requires.can))
    c.in-Ok.inner.templates.items c.requires.can.known
    (subst (λ (es : List Entry). AreModules ps es c.in-Ok.inner.templates.items)
    (c.as_slice.ensures.value ∙ ap (λ (r : ResolvedFile). r.entries.items) c.file.ensures) c.in-Ok.ensures.modules)

pub whole_of-returns-in-Ok-clause-whole : goal.whole_of-returns-in-Ok-clause-whole
whole_of-returns-in-Ok-clause-whole t c = λ k at.
    let ps = c.args.parts.now in
    or_value (IsWholeIn ps k) c.file_template.result c.or_fault.result c.or_fault.ensures
    (whole_at c.checked_files_have_kinds.ensures c.outputs_are_of_the_program.ensures ps k c.args.part.now at
    c.in-Ok.inner.templates.items
    (subst (λ (es : List Entry). AreModules ps es c.in-Ok.inner.templates.items)
    (c.as_slice.ensures.value ∙ ap (λ (r : ResolvedFile). r.entries.items) c.file.ensures) c.in-Ok.ensures.modules)
    c.file_template.result c.file_template.ensures.made c.file_template.ensures.keeps
    c.file_template.ensures.metadata c.file_template.ensures.few)

pub whole_of-returns-in-Ok-clause-fault : goal.whole_of-returns-in-Ok-clause-fault
whole_of-returns-in-Ok-clause-fault t c =
    or_memory c.args.parts.now c.file_template.result c.or_fault.result c.or_fault.ensures

pub whole_of-returns-in-Err-clause-whole : goal.whole_of-returns-in-Err-clause-whole
whole_of-returns-in-Err-clause-whole t c = λ k at. tt

pub whole_of-returns-in-Err-clause-fault : goal.whole_of-returns-in-Err-clause-fault
whole_of-returns-in-Err-clause-fault t c =
    file_long c.args.parts.now c.requires.number c.args.part.now c.requires.is c.in-Err.fault
    (subst (λ (es : List Entry). IsModulesFault c.args.parts.now es c.in-Err.fault)
    (c.as_slice.ensures.value ∙ ap (λ (r : ResolvedFile). r.entries.items) c.file.ensures) c.in-Err.ensures.fault)

pub modules-loop-entry-init : goal.modules-loop-entry-init
modules-loop-entry-init t c = (
  λ z ss rs read are.
      subst (Goes (IsWholeOf z ss rs) c.args.entries.now 0) (sym c.new.ensures.items)
      (begins (IsWholeOf z ss rs) c.args.entries.now),
  omega arith,
)

pub modules-with_module-requires : goal.modules-with_module-requires
modules-with_module-requires t c =
    let es = c.args.entries.now in
    let i = c.loop-entry.entry-index in
    let e = c.entry-item.result in (
      omega (arith, c.decreases),
      (
        module_can c.args.parts.now c.args.depth es i e (drop (i + 1) es)
            (next_item es i e c.loop-entry-test.true c.entry-item.is) c.requires,
        c.loop-entry.invariant.1,
      ),
    )

pub modules-loop-entry-preserved : goal.modules-loop-entry-preserved
modules-loop-entry-preserved t c =
    let h = c.in-Ok.ensures.module in (
      λ z ss rs read are.
          goes_on (IsWholeOf z ss rs) c.args.entries.now c.loop-entry.entry-index c.loop-entry.all.templates.items
          c.in-Ok.more.templates.items c.entry-item.result h.0 c.loop-entry-test.true c.entry-item.is
          (h.1.0 z ss rs read are) h.1.1.0 (c.loop-entry.invariant.0 z ss rs read are),
      h.1.1.1,
    )

pub modules-returns-in-Err-clause-fault : goal.modules-returns-in-Err-clause-fault
modules-returns-in-Err-clause-fault t c =
    modules_fault c.args.parts.now c.args.entries.now c.loop-entry.entry-index c.loop-entry.all c.entry-item.result
    c.loop-entry-test.true c.entry-item.is c.loop-entry.invariant.0 c.in-Err.fault c.in-Err.ensures.fault

pub modules-returns-clause-modules : goal.modules-returns-clause-modules
modules-returns-clause-modules t c = λ z ss rs read are.
    ends (IsWholeOf z ss rs) c.args.entries.now c.loop-entry.entry-index c.loop-entry.all.templates.items
    c.loop-entry-test.false (c.loop-entry.invariant.0 z ss rs read are)

pub with_module-module-requires : goal.with_module-module-requires
with_module-module-requires t c = (omega (arith, c.decreases), c.requires.0)

pub with_module-counted-requires-clause-keeps : goal.with_module-counted-requires-clause-keeps
with_module-counted-requires-clause-keeps t c =
    module_keeps c.args.parts.now c.args.kind c.in-Ok.template c.requires.0.known c.in-Ok.ensures.module

pub with_module-returns-in-Ok-clause-module : goal.with_module-returns-in-Ok-clause-module
with_module-returns-in-Ok-clause-module t c =
    other_value (HasOneMore c.args.inner c.in-Ok.template) (HasModule c.args.parts.now c.args.kind c.args.inner)
    (with_module c.args.parts.now c.args.kind c.args.inner c.in-Ok.template c.in-Ok.ensures.module) c.counted.result
    c.counted.ensures.last

pub with_module-returns-in-Ok-clause-fault : goal.with_module-returns-in-Ok-clause-fault
with_module-returns-in-Ok-clause-fault t c =
    other_fault (IsOneTooMany c.args.inner c.in-Ok.template) (IsModuleFault c.args.parts.now c.args.kind c.args.inner)
    (module_fault c.args.parts.now c.args.kind c.args.inner c.in-Ok.template c.in-Ok.ensures.module) c.counted.result
    c.counted.ensures.fault

pub with_module-returns-in-Err-clause-module : goal.with_module-returns-in-Err-clause-module
with_module-returns-in-Err-clause-module t c =
    no_value (HasModule c.args.parts.now c.args.kind c.args.inner) c.refuse.result c.in-Err.fault c.refuse.ensures

pub with_module-returns-in-Err-clause-fault : goal.with_module-returns-in-Err-clause-fault
with_module-returns-in-Err-clause-fault t c =
    refused (IsModuleFault c.args.parts.now c.args.kind c.args.inner) c.refuse.result c.in-Err.fault c.refuse.ensures
    (inl c.in-Err.ensures.fault)

pub module-deeper-requires : goal.module-deeper-requires
module-deeper-requires t c = (
  omega (arith, c.decreases),
  subst (λ o. CanBe c.args.parts.now (by_file (whole c.args.parts.now c.args.depth) o) c.args.depth)
      (sym c.module_number.ensures ∙ c.in-Some.is) c.requires,
)

pub module-returns-in-Some-clause-module : goal.module-returns-in-Some-clause-module
module-returns-in-Some-clause-module t c =
    subst (λ o. IfOk c.deeper.result (IsGivenIn c.args.parts.now o)) (sym c.in-Some.is ∙ c.module_number.ensures)
    c.deeper.ensures.inner

pub module-returns-in-None-clause-module : goal.module-returns-in-None-clause-module
module-returns-in-None-clause-module t c = λ z ss rs read are.
    subst (λ o. IsGiven (IsWholeOf z ss rs) o None) (sym c.in-None.is ∙ c.module_number.ensures) refl

pub deeper-whole_file-requires : goal.deeper-whole_file-requires
deeper-whole_file-requires t c =
    let e = subst (IsBelow c.args.depth) c.in-Some.is c.below.ensures in
    (omega (arith, c.decreases, e), file_can c.args.parts.now c.args.number c.args.depth c.in-Some.less e c.requires)

pub deeper-unreachable-requires : goal.deeper-unreachable-requires
deeper-unreachable-requires t c =
    none_can c.args.parts.now c.args.number c.args.depth (subst (IsBelow c.args.depth) c.in-None.is c.below.ensures)
    c.requires
