use Rattle.std.proofs.Common.{refl}
use Rattle.plan_names.proofs.AroundLemmas.{none_there, out_there, out_less, key_shown, key_passed, key_lacks}
use Rattle.plan_names.proofs.around.look_around.Goals as goal

pub scopes-init : goal.scopes-init
scopes-init c = record { there = c.requires.there; told = refl }

pub returns-then-index : goal.returns-then-index
returns-then-index c =
    none_there c.args.table.now _ c.args.place.now c.scopes.at _ c.requires.ready c.scopes.invariant.there
    c.scopes.invariant.told c.index.result.now c.index.ensures c.if-index.true

pub named_here-requires-clause-there : goal.named_here-requires-clause-there
named_here-requires-clause-there c =
    out_there c.args.table.now c.scopes.at c.requires.ready c.scopes.invariant.there c.index.result.now c.index.ensures
    c.if-index.false c.index-in-scopes.result.now c.index-in-scopes.ensures

pub returns-in-Ok-Some : goal.returns-in-Ok-Some
returns-in-Ok-Some c =
    key_shown c.args.table.now c.args.text.now c.args.place.now c.scopes.at _ c.requires.ready
    c.scopes.invariant.there c.scopes.invariant.told c.index.result.now c.index.ensures c.if-index.false
    c.index-in-scopes.result.now c.index-in-scopes.ensures c.in-Ok-Some.field-0 c.in-Ok-Some.key c.in-Ok-Some.field-0-is
    c.in-Ok-Some.ensures

pub returns-in-Err : goal.returns-in-Err
returns-in-Err c =
    key_lacks c.args.table.now c.args.text.now c.args.place.now c.scopes.at _ c.requires.ready
    c.scopes.invariant.there c.scopes.invariant.told c.index.result.now c.index.ensures c.if-index.false
    c.index-in-scopes.result.now c.index-in-scopes.ensures c.in-Err.lack c.in-Err.ensures

pub scopes-preserved : goal.scopes-preserved
scopes-preserved c = record {
  there = out_there c.args.table.now c.scopes.at c.requires.ready c.scopes.invariant.there c.index.result.now
      c.index.ensures c.if-index.false c.index-in-scopes.result.now c.index-in-scopes.ensures;
  told = key_passed c.args.table.now c.args.text.now c.args.place.now c.scopes.at _ c.requires.ready
      c.scopes.invariant.there c.scopes.invariant.told c.index.result.now c.index.ensures c.if-index.false
      c.index-in-scopes.result.now c.index-in-scopes.ensures c.in-Ok-None.field-0 c.in-Ok-None.field-0-is
      c.in-Ok-None.ensures;
}

pub scopes-smaller : goal.scopes-smaller
scopes-smaller c =
    out_less c.args.table.now c.scopes.at c.requires.ready c.scopes.invariant.there c.index.result.now c.index.ensures
    c.if-index.false c.index-in-scopes.result.now c.index-in-scopes.ensures
