use Rattle.std.proofs.Common.{refl, sym, ◌∙◌}
use Rattle.point_rows.specs.Rows.{entry_at}
use Rattle.scope_entries.proofs.GoesLemmas.{goes_nowhere}
use Rattle.scope_entries.proofs.TurnLemmas.{entry_within, kept_turns, is_vacant}
use Rattle.scope_entries.proofs.keeping.tell_line.Goals as goal

pub kept-requires : goal.kept-requires
kept-requires c =
    entry_within c.args.register.now.table c.args.later.now c.args.at c.requires.fit c.requires.own.listed

pub returns-in-Some-clause-goes : goal.returns-in-Some-clause-goes
returns-in-Some-clause-goes c = goes_nowhere c.args.register.now.table c.args.later.now

pub returns-in-Some-clause-turned : goal.returns-in-Some-clause-turned
returns-in-Some-clause-turned c =
    kept_turns c.args.register.now.table c.args.later.now c.args.frame c.args.at c.requires.complete.ready
    c.requires.there c.requires.own c.requires.told c.args.on
    (entry_at c.args.later.now.entries.items c.args.at) refl c.in-Some.turn
    (sym c.kept.ensures ∙ c.in-Some.is)

pub tell_open-requires-clause-vacant : goal.tell_open-requires-clause-vacant
tell_open-requires-clause-vacant c =
    is_vacant c.args.on (entry_at c.args.later.now.entries.items c.args.at) c.args.at
    (sym c.kept.ensures ∙ c.in-None.is)
