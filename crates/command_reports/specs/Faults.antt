-- The lines of faults and refusals, and the status with which the program ends.
use Rattle.std.specs.Prelude.{ℕ, List, ◌++◌, codes, decimal}
use Rattle.command_reports.specs.declared.faults.Fault.{Fault}
use Rattle.command_reports.specs.declared.faults.Fault.TheVariants.{Tree, Disk, Provider, Link, Memory, Full, Journal}
use Rattle.command_reports.specs.declared.report.Report.{Report}

-- the line of a fault
abbrev pub fault_text : Fault → List ℕ
fault_text Tree = codes "fault tree\n"
fault_text Disk = codes "fault disk\n"
fault_text (Provider seat) = codes "fault provider " ++ (decimal seat ++ codes "\n")
fault_text Link = codes "fault link\n"
fault_text Memory = codes "fault memory\n"
fault_text (Full length needed) =
    codes "fault full " ++ (decimal length ++ (codes " " ++ (decimal needed ++ codes "\n")))
fault_text Journal = codes "fault journal\n"

-- the status after a fault
abbrev pub fault_status : Fault → ℕ
fault_status Tree = 4
fault_status Disk = 6
fault_status (Provider seat) = 7
fault_status Link = 8
fault_status Memory = 9
fault_status (Full length needed) = 10
fault_status Journal = 11

abbrev pub fault_report : Fault → Report
fault_report f = record { text = fault_text f; status = fault_status f }

-- the line of a refusal
abbrev pub refusal_text : List ℕ → List ℕ → List ℕ
refusal_text code detail = codes "error " ++ (code ++ (codes ": " ++ (detail ++ codes "\n")))

abbrev pub refusal_report : List ℕ → List ℕ → Report
refusal_report code detail = record { text = refusal_text code detail; status = 1 }
