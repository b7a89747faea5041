use Rattle.scope_entries.proofs.GoesLemmas.{goes_nowhere}
use Rattle.scope_entries.proofs.TurnLemmas.{own_is_entry}
use Rattle.scope_entries.proofs.keeping.tell_open.Goals as goal

pub entry_told-requires-clause-entry : goal.entry_told-requires-clause-entry
entry_told-requires-clause-entry c =
    own_is_entry c.args.register.now.table c.args.frame c.args.at c.requires.own

pub returns-in_err-answer-clause-goes : goal.returns-in_err-answer-clause-goes
returns-in_err-answer-clause-goes c = goes_nowhere c.args.register.now.table c.args.later.now

pub keep_answer-requires-clause-ready : goal.keep_answer-requires-clause-ready
keep_answer-requires-clause-ready c = c.requires.complete.ready
