use Rattle.bicep_program.specs.Sources.{folder_of}
use Rattle.bicep_program.proofs.LoadLemmas.{entry_reached}
use Rattle.bicep_program.proofs.loading.read_entry.Goals as goal

pub returns-in-Err-clause-fault : goal.returns-in-Err-clause-fault
returns-in-Err-clause-fault g c = λ main noted.
    c.fault_of.ensures.fault (folder_of g.T.Tree.tells_files (g.T.Tree.file c.args.tree.now)) main
    (entry_reached (folder_of g.T.Tree.tells_files (g.T.Tree.file c.args.tree.now)) main c.args.entry.now noted)
    c.in-Err.ensures.not_read

pub returns-in-Err-clause-count : goal.returns-in-Err-clause-count
returns-in-Err-clause-count g c =
    c.fault_of.ensures.count (g.T.Tree.faults c.args.tree.now) (g.T.Tree.faults c.read.new.tree)
    c.in-Err.ensures.count
