-- Why a parameter file or a request is refused.
use Rattle.std.specs.Prelude.{ℕ, List, ◌++◌, codes, encode_utf8_all}
use Rattle.parameter_files.specs.declared.fault.ParameterFault.{ParameterFault}
use Rattle.parameter_files.specs.declared.fault.ParameterFault.TheVariants as file
use Rattle.http_replies.specs.declared.code.Code.{Code}
use Rattle.http_replies.specs.Codes as http
use Rattle.command_reports.specs.declared.report.Report.{Report}
use Rattle.command_reports.specs.declared.faults.Fault.TheVariants.{Memory, Tree}
use Rattle.command_reports.specs.Faults.{fault_report, refusal_report}

-- the parameter file of this name gives nothing
abbrev pub parameter_report : List ℕ → ParameterFault → Report
parameter_report name file.Missing = refusal_report (codes "FileMissing") name
parameter_report name file.TooLarge = refusal_report (codes "TooLarge") name
parameter_report name file.NotJson = refusal_report (codes "NotJson") name
parameter_report name file.TooDeep = refusal_report (codes "TooDeep") name
parameter_report name file.NotWhole = refusal_report (codes "NotWhole") name
parameter_report name file.WrongForm = refusal_report (codes "WrongForm") name
parameter_report name file.Fault = fault_report Tree
parameter_report name file.OutOfMemory = fault_report Memory

-- a name is outside its form
abbrev pub name_report : List ℕ → Report
name_report name = refusal_report (codes "InvalidParameter") (codes "BadName " ++ name)

-- a request is refused: the code as it is sent, and its message
abbrev pub code_report : Code → Report
code_report code = refusal_report (http.name_of code) (encode_utf8_all (http.message_of code))
