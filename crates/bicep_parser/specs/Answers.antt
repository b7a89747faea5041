-- What is answered of tokens.
use Rattle.std.specs.Prelude.{◌≡◌, ℕ, ◌≤◌, ◌<◌, List, Option, Some, None, Result, Ok, Err, MatchOption}
use Rattle.std.specs.declared.vec.Vec.{Vec}
use Rattle.std.specs.declared.alloc.Global.{Global}
use Rattle.bicep_tree.specs.declared.declaration.Statement.{Statement}
use Rattle.bicep_tree.specs.Tree.{StatementTree}
use Rattle.bicep_tree.specs.View.{file_of}
use Rattle.bicep_parser.specs.declared.fault.ParseFault.{ParseFault}
use Rattle.bicep_parser.specs.declared.fault.ParseFault.TheVariants as fault
use Rattle.bicep_machine.specs.declared.kept.Kept as code
use Rattle.foundation.specs.declared.stop.Stop.{Stop}
use Rattle.foundation.specs.declared.stop.Stop.TheVariants as stop
use Rattle.bicep_machine.specs.Kept.{Kept}
use Rattle.bicep_machine.specs.Views.{kept_statements}

-- what the machine keeps of the tokens
abbrev pub Outcome : Type 0
Outcome = Option (Kept (List StatementTree))

-- the fault where reading stops at that place
abbrev pub fault_at : Stop → ℕ → ParseFault
fault_at stop.Refused at = fault.NotAFile at
fault_at stop.OutOfMemory at = fault.OutOfMemory

-- why nothing is read
abbrev pub NotRead : ParseFault → Outcome → Type 0
NotRead (fault.NotAFile at) o = o ≡ None
NotRead (fault.TooDeep at) o = ⊥
NotRead fault.OutOfMemory o = Unit {0}

-- what is read is what the machine keeps
abbrev pub Reads : Result (code.Kept (Vec Statement Global) × ℕ) ParseFault → Outcome → Type 0
Reads (Ok r) o = o ≡ Some (kept_statements r.0)
Reads (Err e) o = NotRead e o

-- what is answered is what the machine keeps, or says why not
abbrev pub Answers : Result (Vec Statement Global) ParseFault → Outcome → Type 0
Answers (Ok f) o = MatchOption o ⊥ (λ k. (k.0 ≡ file_of f.items) × (k.1 ≤ 64))
Answers (Err (fault.NotAFile at)) o = o ≡ None
Answers (Err (fault.TooDeep at)) o = MatchOption o ⊥ (λ k. 64 < k.1)
Answers (Err fault.OutOfMemory) o = Unit {0}
