-- Why a source is refused: codes, and the file with the offset in it, or the file alone, or names.
use Rattle.std.specs.Prelude.{ℕ, List, [], ◌++◌, codes, decimal, encode_utf8_all, Option, Some, None, slice_get}
use Rattle.bicep_lexer.specs.declared.fault.LexFault.{LexFault}
use Rattle.bicep_lexer.specs.declared.fault.LexFault.TheVariants as lexical
use Rattle.bicep_parser.specs.declared.fault.ParseFault.{ParseFault}
use Rattle.bicep_parser.specs.declared.fault.ParseFault.TheVariants as syntax
use Rattle.bicep_program.specs.declared.fault.LoadFault.{LoadFault}
use Rattle.bicep_program.specs.declared.fault.LoadFault.TheVariants as load
use Rattle.bicep_program.specs.declared.file.SourceFile.{SourceFile}
use Rattle.bicep_types.specs.declared.fault.CheckFault.{CheckFault}
use Rattle.bicep_types.specs.declared.fault.CheckFault.TheVariants as check
use Rattle.lock_rules.specs.Spaced.{spaced}
use Rattle.command_reports.specs.declared.report.Report.{Report}
use Rattle.command_reports.specs.declared.faults.Fault.TheVariants.{Memory, Tree}
use Rattle.command_reports.specs.Faults.{fault_report, refusal_report}

-- a refusal with a file, in UTF-8
abbrev pub of_file : List ℕ → List ℕ → Report
of_file code file = refusal_report code file

-- a refusal with a file and an offset in it
abbrev pub at_place : List ℕ → List ℕ → ℕ → Report
at_place code file at = refusal_report code (file ++ (codes ":" ++ decimal at))

-- a refusal with names in a row
abbrev pub of_names : List ℕ → List (List ℕ) → Report
of_names code names = refusal_report code (encode_utf8_all (spaced names))

-- the lexer refuses a file
abbrev pub lex_report : List ℕ → LexFault → Report
lex_report file (lexical.BadCharacter at) = at_place (codes "BadCharacter") file at
lex_report file (lexical.OpenText at) = at_place (codes "OpenText") file at
lex_report file (lexical.BadEscape at) = at_place (codes "BadEscape") file at
lex_report file (lexical.OpenComment at) = at_place (codes "OpenComment") file at
lex_report file (lexical.BadNumber at) = at_place (codes "BadNumber") file at
lex_report file lexical.OutOfMemory = fault_report Memory

-- the parser refuses a file
abbrev pub parse_report : List ℕ → ParseFault → Report
parse_report file (syntax.NotAFile at) = at_place (codes "NotAFile") file at
parse_report file (syntax.TooDeep at) = at_place (codes "TooDeep") file at
parse_report file syntax.OutOfMemory = fault_report Memory

-- a program is not loaded whose main file has this name
abbrev pub load_report : List ℕ → LoadFault → Report
load_report main (load.ModuleMissing file path) = of_file (codes "ModuleMissing") (encode_utf8_all file)
load_report main (load.ModuleCycle files) = of_names (codes "ModuleCycle") files
load_report main load.TooManyFiles = of_file (codes "TooManyFiles") main
load_report main load.ReadFault = fault_report Tree
load_report main (load.TooLarge file) = of_file (codes "TooLarge") (encode_utf8_all file)
load_report main (load.NotText file) = of_file (codes "NotText") (encode_utf8_all file)
load_report main (load.Lex file fault) = lex_report (encode_utf8_all file) fault
load_report main (load.Parse file fault) = parse_report (encode_utf8_all file) fault
load_report main load.OutOfMemory = fault_report Memory

-- the name of a file
abbrev pub name_of : Option SourceFile → List ℕ
name_of (Some file) = encode_utf8_all file.name
name_of None = []

-- the name of the file of a number
abbrev pub file_name : List SourceFile → ℕ → List ℕ
file_name files n = name_of (slice_get files n)

-- something is wrong with a program of these files
abbrev pub check_report : List SourceFile → CheckFault → Report
check_report files (check.UnknownName n at) = at_place (codes "UnknownName") (file_name files n) at
check_report files (check.NameTwice n at) = at_place (codes "NameTwice") (file_name files n) at
check_report files (check.WrongType n at) = at_place (codes "WrongType") (file_name files n) at
check_report files (check.SymbolCycle n names) = of_names (codes "SymbolCycle") names
check_report files (check.BadDecorator n at) = at_place (codes "BadDecorator") (file_name files n) at
check_report files (check.BadForPlace n at) = at_place (codes "BadForPlace") (file_name files n) at
check_report files (check.MissingModuleParameter n at) =
    at_place (codes "MissingModuleParameter") (file_name files n) at
check_report files (check.ExtraModuleParameter n at) = at_place (codes "ExtraModuleParameter") (file_name files n) at
check_report files check.OutOfMemory = fault_report Memory
