use Rattle.std.proofs.Common.{Some, refl, sym, subst}
use Rattle.arm_value.specs.View.{json}
use Rattle.point_rows.specs.declared.later.Entry.TheVariants as entry
use Rattle.scope_entries.specs.Entries.{line_cell, IsAnswerNow, IsTurn}
use Rattle.scope_entries.proofs.GoesLemmas.{goes_nowhere, kept_goes, kept_is_settled, kept_is_absent, absence_goes}
use Rattle.scope_entries.proofs.GoesLemmas.{settled_decided}
use Rattle.scope_entries.proofs.TurnLemmas.{own_is_entry, entry_within, line_within, state_turns}
use Rattle.scope_entries.proofs.TurnLemmas.{waiting_turns, absent_turns}
use Rattle.scope_entries.proofs.keeping.keep_answer.Goals as goal

pub keep-requires : goal.keep-requires
keep-requires c =
    entry_within c.args.table.now c.args.later.now c.args.at c.requires.fit c.requires.own.listed

pub returns-in-Value-clause-goes : goal.returns-in-Value-clause-goes
returns-in-Value-clause-goes c =
    let t = c.args.table.now in
    kept_goes t c.args.at c.requires.ready c.requires.own.listed
    (own_is_entry t c.args.frame c.args.at c.requires.own) c.args.later.now c.keep.new.later
    (entry.Value c.in-Value.value) (Some (json c.in-Value.value)) refl
    (subst (IsAnswerNow t c.args.later.now (line_cell t c.args.at)) c.in-Value.is c.requires.answer) c.requires.vacant
    c.keep.ensures.adds c.keep.ensures.places

pub returns-in-Value-clause-turned : goal.returns-in-Value-clause-turned
returns-in-Value-clause-turned c =
    let t = c.args.table.now in
    settled_decided c.args.on t c.keep.new.later (line_cell t c.args.at)
    (kept_is_settled t c.args.at c.requires.ready c.requires.own.listed
    (own_is_entry t c.args.frame c.args.at c.requires.own) c.args.later.now c.keep.new.later c.in-Value.value
    (subst (IsAnswerNow t c.args.later.now (line_cell t c.args.at)) c.in-Value.is c.requires.answer) c.requires.vacant
    c.keep.ensures.adds c.keep.ensures.places)

pub keep_absence-requires : goal.keep_absence-requires
keep_absence-requires c =
    entry_within c.args.table.now c.args.later.now c.args.at c.requires.fit c.requires.own.listed

pub returns-in-Empty-clause-goes : goal.returns-in-Empty-clause-goes
returns-in-Empty-clause-goes c =
    let t = c.args.table.now in
    absence_goes t c.args.at c.requires.ready c.requires.own.listed
    (own_is_entry t c.args.frame c.args.at c.requires.own) c.args.later.now c.keep_absence.new.later c.args.on
    (subst (IsAnswerNow t c.args.later.now (line_cell t c.args.at)) c.in-Empty.is c.requires.answer) c.requires.vacant
    c.keep_absence.ensures.adds c.keep_absence.ensures.unchanged c.keep_absence.ensures.places

pub returns-in-Empty-clause-turned : goal.returns-in-Empty-clause-turned
returns-in-Empty-clause-turned c =
    let t = c.args.table.now in
    let told = subst (IsAnswerNow t c.args.later.now (line_cell t c.args.at)) c.in-Empty.is c.requires.answer in
    subst (IsTurn c.args.on t c.args.later.now c.keep_absence.new.later c.args.frame c.args.at)
    (sym c.without_value.ensures)
    (absent_turns t c.args.later.now c.keep_absence.new.later c.args.frame c.args.at c.requires.ready c.requires.there
    c.requires.own c.args.on
    (λ on. kept_is_absent t c.args.at c.requires.ready c.requires.own.listed
    (own_is_entry t c.args.frame c.args.at c.requires.own) c.args.later.now c.keep_absence.new.later told
    c.requires.vacant (c.keep_absence.ensures.adds on) c.keep_absence.ensures.places)
    c.keep_absence.ensures.unchanged told)

pub returns-in-State-clause-goes : goal.returns-in-State-clause-goes
returns-in-State-clause-goes c = goes_nowhere c.args.table.now c.args.later.now

pub returns-in-State-clause-turned : goal.returns-in-State-clause-turned
returns-in-State-clause-turned c =
    let t = c.args.table.now in
    state_turns t c.args.later.now c.args.frame c.args.at c.requires.ready c.requires.there c.requires.own
    c.in-State.key
    (subst (IsAnswerNow t c.args.later.now (line_cell t c.args.at)) c.in-State.is c.requires.answer)

pub waiting-requires : goal.waiting-requires
waiting-requires c =
    let t = c.args.table.now in
    line_within t c.in-Waits.other
    (subst (IsAnswerNow t c.args.later.now (line_cell t c.args.at)) c.in-Waits.is c.requires.answer).0

pub returns-in-Waits-clause-goes : goal.returns-in-Waits-clause-goes
returns-in-Waits-clause-goes c = goes_nowhere c.args.table.now c.args.later.now

pub returns-in-Waits-clause-turned : goal.returns-in-Waits-clause-turned
returns-in-Waits-clause-turned c =
    let t = c.args.table.now in
    waiting_turns t c.args.later.now c.args.frame c.args.at c.requires.ready c.requires.there c.requires.own
    c.args.on c.in-Waits.other
    (subst (IsAnswerNow t c.args.later.now (line_cell t c.args.at)) c.in-Waits.is c.requires.answer)
    c.waiting.result c.waiting.ensures.own c.waiting.ensures.other
