use Rattle.std.proofs.Common.{refl}
use Rattle.plan_listing.specs.Hits.{is_wanted}
use Rattle.plan_nested.proofs.SeekLemmas.{ends_here, stops_here, ends_nowhere, goes_out, there_out, less_out, rest_of}
use Rattle.plan_nested.proofs.SeekLemmas.{there_is}
use Rattle.plan_nested.proofs.seeking.seek_wanted.Goals as goal

pub scopes-init : goal.scopes-init
scopes-init c = record { there = c.requires.there; told = refl }

pub returns-in-Ok-Some-clause-told : goal.returns-in-Ok-Some-clause-told
returns-in-Ok-Some-clause-told c =
    let t = c.args.table.now in let test = is_wanted c.args.wanted.now in
    ends_here t c.scopes.at test _ c.requires.ready c.scopes.invariant.there c.scopes.invariant.told
    c.in-Ok-Some.field-0 c.in-Ok-Some.sighting c.in-Ok-Some.field-0-is
    (c.in-Ok-Some.ensures.told (rest_of t c.scopes.at test _ c.requires.ready c.scopes.invariant.there
    c.scopes.invariant.told))

pub returns-in-Ok-Some-clause-there : goal.returns-in-Ok-Some-clause-there
returns-in-Ok-Some-clause-there c =
    there_is c.args.table.now c.in-Ok-Some.field-0 c.in-Ok-Some.sighting c.in-Ok-Some.field-0-is
    c.in-Ok-Some.ensures.there

pub returns-in-Err-clause-told : goal.returns-in-Err-clause-told
returns-in-Err-clause-told c =
    let t = c.args.table.now in let test = is_wanted c.args.wanted.now in
    stops_here t c.scopes.at test _ c.requires.ready c.scopes.invariant.there c.scopes.invariant.told c.in-Err.lack
    (c.in-Err.ensures.told (rest_of t c.scopes.at test _ c.requires.ready c.scopes.invariant.there
    c.scopes.invariant.told))

pub returns-then-index-clause-told : goal.returns-then-index-clause-told
returns-then-index-clause-told c =
    let t = c.args.table.now in let test = is_wanted c.args.wanted.now in
    ends_nowhere t c.scopes.at test _ c.requires.ready c.scopes.invariant.there c.scopes.invariant.told
    c.index.result.now c.index.ensures c.in-Ok-None.field-0 c.in-Ok-None.field-0-is
    (c.in-Ok-None.ensures.told (rest_of t c.scopes.at test _ c.requires.ready c.scopes.invariant.there
    c.scopes.invariant.told)) c.if-index.true

pub scopes-preserved : goal.scopes-preserved
scopes-preserved c =
    let t = c.args.table.now in let test = is_wanted c.args.wanted.now in
    let told = c.in-Ok-None.ensures.told (rest_of t c.scopes.at test _ c.requires.ready c.scopes.invariant.there
    c.scopes.invariant.told) in record {
      there = there_out t c.scopes.at test _ c.requires.ready c.scopes.invariant.there c.scopes.invariant.told
          c.index.result.now c.index.ensures c.in-Ok-None.field-0 c.in-Ok-None.field-0-is told c.if-index.false
          c.index-in-scopes.result.now c.index-in-scopes.ensures;
      told = goes_out t c.scopes.at test _ c.requires.ready c.scopes.invariant.there c.scopes.invariant.told
          c.index.result.now c.index.ensures c.in-Ok-None.field-0 c.in-Ok-None.field-0-is told c.if-index.false
          c.index-in-scopes.result.now c.index-in-scopes.ensures;
    }

pub scopes-smaller : goal.scopes-smaller
scopes-smaller c =
    let t = c.args.table.now in let test = is_wanted c.args.wanted.now in
    less_out t c.scopes.at test _ c.requires.ready c.scopes.invariant.there c.scopes.invariant.told
    c.index.result.now c.index.ensures c.in-Ok-None.field-0 c.in-Ok-None.field-0-is
    (c.in-Ok-None.ensures.told (rest_of t c.scopes.at test _ c.requires.ready c.scopes.invariant.there
    c.scopes.invariant.told)) c.if-index.false c.index-in-scopes.result.now c.index-in-scopes.ensures
