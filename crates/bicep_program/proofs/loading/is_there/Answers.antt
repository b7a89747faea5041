use Rattle.bicep_program.specs.Sources.{folder_of}
use Rattle.bicep_program.proofs.LoadLemmas.{entry_reached}
use Rattle.bicep_program.proofs.loading.is_there.Goals as goal

pub returns-clause-fault : goal.returns-clause-fault
returns-clause-fault g c = λ main noted.
    c.fault_of.ensures.fault (folder_of g.T.Tree.tells_files (g.T.Tree.file c.args.tree.now)) main
    (entry_reached (folder_of g.T.Tree.tells_files (g.T.Tree.file c.args.tree.now)) main c.args.entry.now noted)
    c.in-Err.ensures.not_read

pub returns-clause-count : goal.returns-clause-count
returns-clause-count g c =
    c.fault_of.ensures.count (g.T.Tree.faults c.args.tree.now) (g.T.Tree.faults c.bytes_of.new.tree)
    c.in-Err.ensures.count
