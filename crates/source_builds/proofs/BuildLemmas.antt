-- From what the steps of a build answer to what is built, and why nothing is.
use Rattle.std.proofs.Common.{◌≡◌, inl, inr, ℕ, List, Result, Ok, Err, refl, sym, subst, ap, arith}
use Rattle.std.proofs.Common.{◌≤◌, chars, encode_utf8_all}
use Rattle.std.specs.Prelude.{IfOk, IfErr}
use Rattle.std.specs.declared.alloc.AllocError.{AllocError}
use Rattle.arm_value.proofs.DataLemmas.{depth-data_of}
use Rattle.arm_value.specs.Json.{Json, nesting}
use Rattle.arm_value.specs.Reading.{data_of}
use Rattle.bicep_emit.specs.Bytes.{IsBytesOf, IsBytesFault, CanBeWritten}
use Rattle.bicep_emit.specs.Programs.{IsEmission, files_in_form}
use Rattle.bicep_emit.specs.EmitFault.{EmitFault}
use Rattle.bicep_program.specs.Program.{IsProgram, files_of}
use Rattle.bicep_program.specs.Refused.{HasFault, TreeCounts}
use Rattle.bicep_program.specs.Sources.{Folder}
use Rattle.bicep_program.specs.declared.fault.LoadFault.{LoadFault}
use Rattle.bicep_program.specs.declared.fault.LoadFault.TheVariants as load
use Rattle.bicep_program.specs.declared.file.Program.{Program}
use Rattle.bicep_program.specs.declared.file.SourceFile.{SourceFile}
use Rattle.bicep_types.specs.Faults.{IsAnswer}
use Rattle.bicep_types.specs.declared.checked.Checked.{Checked}
use Rattle.bicep_types.specs.declared.fault.CheckFault.{CheckFault}
use Rattle.command_refusals.specs.Sources.{load_report, check_report}
use Rattle.command_reports.specs.Faults.{fault_report}
use Rattle.command_reports.specs.declared.faults.Fault.TheVariants.{Tree}
use Rattle.command_reports.specs.declared.report.Report.{Report}
use Rattle.resolved_program.specs.View.{files_view}
use Rattle.serde_json.specs.Data.{depth}
use Rattle.source_builds.specs.Builds.{IsBuilt}
use Rattle.source_builds.specs.Refusals.{HasEmitFault, emit_report, IsNotBuilt}
use Rattle.source_builds.specs.Clauses.{BuiltOr, IsUnemittedAs, IsRefusedLoaded, HasBuiltChecked}
use Rattle.source_builds.specs.Clauses.{HasBuiltProgram, IsLoadedAndChecked, IsEmittedAs, IsRefusedBy, IsEmitReport}
use Rattle.source_builds.specs.Clauses.{TellsTree, IsUntroubled}
use Rattle.source_builds.proofs.StatusLemmas.{IsRuled, one, nine, not_tree, lexical, syntactic, of_loaded_refusal}
use Rattle.source_builds.specs.declared.building.NotBuilt.{NotBuilt}
use Rattle.source_builds.specs.declared.building.NotBuilt.TheVariants.{Refused, OutOfMemory}
use Rattle.template_parts.specs.declared.mode.Form.{Form}
use Rattle.template_tree.specs.View.{template_tree}
use Rattle.template_tree.specs.declared.resource.Template.{Template}

-- the template may be written
pub may_be_written : (form : Form) (p : Program) (c : Checked) (t : Template) → IsEmission form p c t
    → CanBeWritten (template_tree t)
may_be_written form p c t e = record { keeps = e.keeps; nests = e.nests }

-- the bytes of a template, or why there are none
pub bytes_emitted : (form : Form) (p : Program) (c : Checked) (t : Template) (r s : Result (List ℕ) EmitFault) → s ≡ r
    → IsEmission form p c t → IfOk r (IsBytesOf t) → IfErr r (IsBytesFault t) → IsEmittedAs form p c s
bytes_emitted form p c t r s same e ok err = subst (IsEmittedAs form p c) (sym same) (of r ok err)
  where
    of : (r : Result (List ℕ) EmitFault) → IfOk r (IsBytesOf t) → IfErr r (IsBytesFault t) → IsEmittedAs form p c r
    of (Ok bytes) ok err = (t, (e, ok))
    of (Err f) ok err = inr (t, (e, err))

-- what is reported of a reason for which nothing is built
pub or_refused : (Built : List ℕ → Type 0) (Not : Report → Type 0) (report : Result Report AllocError) (n : NotBuilt)
    → IfOk report Not → IsRefusedBy report n → BuiltOr Built Not (Err n)
or_refused Built Not (Ok r) n h e = subst (λ (m : NotBuilt). BuiltOr Built Not (Err m)) (sym e) h
or_refused Built Not (Err x) n h e = subst (λ (m : NotBuilt). BuiltOr Built Not (Err m)) (sym e) tt

pub report_as : (P : Report → Type 0) (q : Report) → P q → (report : Result Report AllocError)
    → IfOk report (λ r. r ≡ q) → IfOk report P
report_as P q h (Ok r) e = subst P (sym e) h
report_as P q h (Err x) e = tt

-- it holds of another report that is the same
pub report_same : (P : Report → Type 0) (report same : Result Report AllocError) → same ≡ report → IfOk report P
    → IfOk same P
report_same P report same e h = subst (λ (x : Result Report AllocError). IfOk x P) (sym e) h

pub emit_refused : (p : Program) (c : Checked) (main : List ℕ) (form : Form) (f : EmitFault)
    (report : Result Report AllocError) (n : NotBuilt) → HasEmitFault form p c f → IsEmitReport main f report
    → IsRefusedBy report n → HasBuiltChecked p c main form (Err n)
emit_refused p c main form f report n h e is =
    or_refused (λ bytes. IsEmittedAs form p c (Ok bytes)) (IsUnemittedAs form p c main) report n
    (report_as (IsUnemittedAs form p c main) (emit_report main f) (record { fault = f; holds = h; report = refl })
    report e) is

-- ---- the bytes of a program that is loaded and checked

is_built : (folder : Folder) (p : Program) (c : Checked) (main : List ℕ) (form : Form) (bytes : List ℕ)
    → IsLoadedAndChecked p c → IsProgram folder (chars main) (files_of p) → IsEmittedAs form p c (Ok bytes)
    → IsBuilt folder main form bytes
is_built folder p c main form bytes l is b =
    let e = b.1.0 in
    let w = b.1.1 in
    record {
      sources = files_in_form form (files_of p) (files_view c.resolved);
      program = record {
        files = files_of p;
        resolved = files_view c.resolved;
        is_program = is;
        is_resolved = l.checked.resolved;
        faultless = l.faultless;
        are_sources = refl;
      };
      template = template_tree b.0;
      emitted = e.emitted;
      are_bytes = record {
        value = w.value;
        reads = w.reads;
        characters = w.characters;
        described = w.described;
      };
      text = (w.value, (w.reads, within w.value (subst (λ (j : Json). nesting j ≤ 120) (sym w.is) e.nests), w.whole));
    }
  where
    within : (j : Json) → nesting j ≤ 120 → depth (data_of j) ≤ 120
    within j h = omega (arith, h, depth-data_of j)

is_refused : (folder : Folder) (p : Program) (c : Checked) (main : List ℕ) (form : Form) (r : Report)
    → IsLoadedAndChecked p c → IsProgram folder (chars main) (files_of p) → IsUnemittedAs form p c main r
    → IsRefusedLoaded folder main form r
is_refused folder p c main form r l is u = inr (record {
  program = p;
  checked = c;
  is_checked = record { is_program = is; checked = l.checked; faultless = l.faultless };
  fault = u.fault;
  holds = u.holds;
  report = u.report;
})

pub of_checked : (p : Program) (c : Checked) (main : List ℕ) (form : Form) (r s : Result (List ℕ) NotBuilt) → s ≡ r
    → IsLoadedAndChecked p c → HasBuiltChecked p c main form r → HasBuiltProgram p main form s
of_checked p c main form r s same l h = subst (HasBuiltProgram p main form) (sym same) (of r h)
  where
    of : (r : Result (List ℕ) NotBuilt) → HasBuiltChecked p c main form r → HasBuiltProgram p main form r
    of (Ok bytes) b = λ folder is. is_built folder p c main form bytes l is b
    of (Err (Refused r)) u = λ folder is. is_refused folder p c main form r l is u
    of (Err OutOfMemory) u = λ folder is. tt

pub check_refused : (p : Program) (files : List SourceFile) (main : List ℕ) (form : Form) (f : CheckFault)
    (report same : Result Report AllocError) (n : NotBuilt) → files ≡ p.files.items → IsAnswer (files_of p) f
    → IfOk report (λ r. r ≡ check_report files f) → same ≡ report → IsRefusedBy same n
    → HasBuiltProgram p main form (Err n)
check_refused p files main form f report same n items h e s is = λ folder loaded.
    or_refused (IsBuilt folder main form) (IsRefusedLoaded folder main form) same n
    (report_same (IsRefusedLoaded folder main form) report same s
    (report_as (IsRefusedLoaded folder main form) (check_report files f)
    (inl (record {
      program = p;
      is_program = loaded;
      fault = f;
      holds = h;
      report = ap (λ (x : List SourceFile). check_report x f) items;
    })) report e)) is

-- ---- the bytes of a program that is loaded

pub of_loaded : (folder : Folder) (p : Program) (main : List ℕ) (form : Form) (r s : Result (List ℕ) NotBuilt) → s ≡ r
    → IsProgram folder (chars main) (files_of p) → HasBuiltProgram p main form r
    → BuiltOr (IsBuilt folder main form) (IsNotBuilt folder main form) s
of_loaded folder p main form r s same is h =
    subst (BuiltOr (IsBuilt folder main form) (IsNotBuilt folder main form)) (sym same) (of r (h folder is))
  where
    of : (r : Result (List ℕ) NotBuilt) → BuiltOr (IsBuilt folder main form) (IsRefusedLoaded folder main form) r
        → BuiltOr (IsBuilt folder main form) (IsNotBuilt folder main form) r
    of (Ok bytes) b = b
    of (Err (Refused r)) u = inr u
    of (Err OutOfMemory) u = tt

pub load_refused : (folder : Folder) (main : List ℕ) (form : Form) (f : LoadFault)
    (report same : Result Report AllocError) (n : NotBuilt) → HasFault folder (chars main) f
    → IfOk report (λ r. r ≡ load_report main f) → same ≡ report → IsRefusedBy same n
    → BuiltOr (IsBuilt folder main form) (IsNotBuilt folder main form) (Err n)
load_refused folder main form f report same n h e s is =
    or_refused (IsBuilt folder main form) (IsNotBuilt folder main form) same n
    (report_same (IsNotBuilt folder main form) report same s
    (report_as (IsNotBuilt folder main form) (load_report main f)
    (inl (record { fault = f; holds = h; report = refl })) report e)) is

-- ---- the tree's count of faults

-- a fault of the tree is reported as one, and no other fault is
pub tells_tree : (before now : ℕ) (main : List ℕ) (f : LoadFault) (report same : Result Report AllocError)
    (n : NotBuilt) → TreeCounts before now f → IfOk report (λ r. r ≡ load_report main f) → same ≡ report
    → IsRefusedBy same n → TellsTree before now (Err n)
tells_tree before now main f report same n h e s is = of f h e
  where
    other : (q : Report) → ¬ (q.status ≡ 4) → now ≡ before → IfOk report (λ r. r ≡ q) → TellsTree before now (Err n)
    other q fine counts e =
        inl (
          counts,
          or_refused (λ bytes. Unit {0}) (λ r. ¬ (r.status ≡ 4)) same n
              (report_same (λ r. ¬ (r.status ≡ 4)) report same s (report_as (λ r. ¬ (r.status ≡ 4)) q fine report e))
              is,
        )

    ruled : (q : Report) → IsRuled q → now ≡ before → IfOk report (λ r. r ≡ q) → TellsTree before now (Err n)
    ruled q h = other q (not_tree q h)

    of : (f : LoadFault) → TreeCounts before now f → IfOk report (λ r. r ≡ load_report main f)
        → TellsTree before now (Err n)
    of load.ReadFault h e =
        inr (
          h,
          or_refused (λ bytes. ⊥) (λ r. r ≡ fault_report Tree) same n
              (report_same (λ r. r ≡ fault_report Tree) report same s e) is,
        )
    of (load.ModuleMissing x y) h e = other (load_report main (load.ModuleMissing x y)) (one refl) h e
    of (load.ModuleCycle x) h e = other (load_report main (load.ModuleCycle x)) (one refl) h e
    of load.TooManyFiles h e = other (load_report main load.TooManyFiles) (one refl) h e
    of (load.TooLarge x) h e = other (load_report main (load.TooLarge x)) (one refl) h e
    of (load.NotText x) h e = other (load_report main (load.NotText x)) (one refl) h e
    of (load.Lex x y) h e = ruled (load_report main (load.Lex x y)) (lexical (encode_utf8_all x) y) h e
    of (load.Parse x y) h e = ruled (load_report main (load.Parse x y)) (syntactic (encode_utf8_all x) y) h e
    of load.OutOfMemory h e = other (load_report main load.OutOfMemory) (nine refl) h e

-- what comes of a loaded program has nothing to do with the tree
pub untroubled : (folder : Folder) (p : Program) (main : List ℕ) (form : Form) (r s : Result (List ℕ) NotBuilt) → s ≡ r
    → IsProgram folder (chars main) (files_of p) → HasBuiltProgram p main form r → IsUntroubled s
untroubled folder p main form r s same is h = subst IsUntroubled (sym same) (of r (h folder is))
  where
    of : (r : Result (List ℕ) NotBuilt) → BuiltOr (IsBuilt folder main form) (IsRefusedLoaded folder main form) r
        → IsUntroubled r
    of (Ok bytes) b = tt
    of (Err (Refused r)) u = not_tree r (of_loaded_refusal folder main form r u)
    of (Err OutOfMemory) u = tt
