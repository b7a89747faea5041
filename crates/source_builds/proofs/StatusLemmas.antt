-- What the report of a refusal is: that of a rule, or that memory is out.
use Rattle.std.proofs.Common.{◌≡◌, ◌⊎◌, inl, inr, ℕ, List, encode_utf8_all, refl, ap, subst, sym, arith}
use Rattle.bicep_emit.specs.EmitFault.{EmitFault}
use Rattle.bicep_emit.specs.EmitFault.TheVariants as emit
use Rattle.bicep_lexer.specs.declared.fault.LexFault.{LexFault}
use Rattle.bicep_lexer.specs.declared.fault.LexFault.TheVariants as lexical_fault
use Rattle.bicep_parser.specs.declared.fault.ParseFault.{ParseFault}
use Rattle.bicep_parser.specs.declared.fault.ParseFault.TheVariants as syntax
use Rattle.bicep_program.specs.Sources.{Folder}
use Rattle.bicep_program.specs.declared.fault.LoadFault.{LoadFault}
use Rattle.bicep_program.specs.declared.fault.LoadFault.TheVariants as load
use Rattle.bicep_program.specs.declared.file.SourceFile.{SourceFile}
use Rattle.bicep_types.specs.declared.fault.CheckFault.{CheckFault}
use Rattle.bicep_types.specs.declared.fault.CheckFault.TheVariants as check
use Rattle.command_refusals.specs.Sources.{lex_report, parse_report, load_report, check_report}
use Rattle.command_reports.specs.Faults.{fault_report}
use Rattle.command_reports.specs.declared.faults.Fault.TheVariants.{Memory, Tree}
use Rattle.command_reports.specs.declared.report.Report.{Report}
use Rattle.source_builds.specs.Clauses.{IsRefusedLoaded}
use Rattle.source_builds.specs.Refusals.{emit_report, IsNotBuilt}
use Rattle.template_parts.specs.declared.mode.Form.{Form}

-- the status is 1, or memory is out
abbrev pub IsRuled : Report → Type 0
IsRuled r = (r.status ≡ 1) ⊎ (r ≡ fault_report Memory)

-- a status of 1 is not 4
pub one : {n : ℕ} → n ≡ 1 → ¬ (n ≡ 4)
one e = λ f. omega (arith, e, f)

-- nor is one of 9
pub nine : {n : ℕ} → n ≡ 9 → ¬ (n ≡ 4)
nine e = λ f. omega (arith, e, f)

-- so the report of a rule is not that of a fault of the tree
pub not_tree : (r : Report) → IsRuled r → ¬ (r.status ≡ 4)
not_tree r (inl e) = one e
not_tree r (inr e) = nine (ap (λ (q : Report). q.status) e)

pub lexical : (file : List ℕ) (f : LexFault) → IsRuled (lex_report file f)
lexical file (lexical_fault.BadCharacter at) = inl refl
lexical file (lexical_fault.OpenText at) = inl refl
lexical file (lexical_fault.BadEscape at) = inl refl
lexical file (lexical_fault.OpenComment at) = inl refl
lexical file (lexical_fault.BadNumber at) = inl refl
lexical file lexical_fault.OutOfMemory = inr refl

pub syntactic : (file : List ℕ) (f : ParseFault) → IsRuled (parse_report file f)
syntactic file (syntax.NotAFile at) = inl refl
syntactic file (syntax.TooDeep at) = inl refl
syntactic file syntax.OutOfMemory = inr refl

of_check : (files : List SourceFile) (f : CheckFault) → IsRuled (check_report files f)
of_check files (check.UnknownName n at) = inl refl
of_check files (check.NameTwice n at) = inl refl
of_check files (check.WrongType n at) = inl refl
of_check files (check.SymbolCycle n names) = inl refl
of_check files (check.BadDecorator n at) = inl refl
of_check files (check.BadForPlace n at) = inl refl
of_check files (check.MissingModuleParameter n at) = inl refl
of_check files (check.ExtraModuleParameter n at) = inl refl
of_check files check.OutOfMemory = inr refl

of_emit : (main : List ℕ) (f : EmitFault) → IsRuled (emit_report main f)
of_emit main (emit.Limit which number) = inl refl
of_emit main emit.TooDeep = inl refl
of_emit main emit.OutOfMemory = inr refl

pub of_load : (main : List ℕ) (f : LoadFault) → IsRuled (load_report main f) ⊎ (load_report main f ≡ fault_report Tree)
of_load main (load.ModuleMissing file path) = inl (inl refl)
of_load main (load.ModuleCycle files) = inl (inl refl)
of_load main load.TooManyFiles = inl (inl refl)
of_load main load.ReadFault = inr refl
of_load main (load.TooLarge file) = inl (inl refl)
of_load main (load.NotText file) = inl (inl refl)
of_load main (load.Lex file f) = inl (lexical (encode_utf8_all file) f)
of_load main (load.Parse file f) = inl (syntactic (encode_utf8_all file) f)
of_load main load.OutOfMemory = inl (inr refl)

same_ruled : (r q : Report) → r ≡ q → IsRuled q → IsRuled r
same_ruled r q e = subst IsRuled (sym e)

-- of the reasons for which a loaded program is not built
pub of_loaded_refusal : (folder : Folder) (main : List ℕ) (form : Form) (r : Report)
    → IsRefusedLoaded folder main form r → IsRuled r
of_loaded_refusal folder main form r (inl u) =
    same_ruled r (check_report u.program.files.items u.fault) u.report (of_check u.program.files.items u.fault)
of_loaded_refusal folder main form r (inr u) =
    same_ruled r (emit_report main u.fault) u.report (of_emit main u.fault)

-- of all reasons for which nothing is built; of the tree it is reported that it has failed
pub of_not_built : (folder : Folder) (main : List ℕ) (form : Form) (r : Report) → IsNotBuilt folder main form r
    → IsRuled r ⊎ (r ≡ fault_report Tree)
of_not_built folder main form r (inl u) =
    subst (λ (q : Report). IsRuled q ⊎ (q ≡ fault_report Tree)) (sym u.report) (of_load main u.fault)
of_not_built folder main form r (inr u) = inl (of_loaded_refusal folder main form r u)
