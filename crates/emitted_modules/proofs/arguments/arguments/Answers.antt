use Rattle.std.proofs.Common.{◌+◌, ap, map, drop, subst}
use Rattle.std.proofs.lemmas.List.{drop_all}
use Rattle.foundation.proofs.Lists.{next_item}
use Rattle.bicep_resolved.specs.View.{property_of, properties}
use Rattle.emitted_expressions.specs.Sight.{frames_of}
use Rattle.emitted_resources.specs.Filled.{emission_sight}
use Rattle.emitted_modules.specs.Arguments.{ArgumentsFit}
use Rattle.emitted_modules.proofs.ArgumentLemmas.{AreBegun, none_begun, one_more, all_done}
use Rattle.emitted_modules.proofs.arguments.arguments.Goals as goal

pub loop-member-init : goal.loop-member-init
loop-member-init c =
    let members = properties (map property_of c.args.members.now) in
    let w = emission_sight c.args.table.now in
    (none_begun w (frames_of c.args.turns.now) members c.new-all.result c.new-all.ensures, c.requires.fits)

pub argument-requires-clause-fits : goal.argument-requires-clause-fits
argument-requires-clause-fits c =
    let w = emission_sight c.args.table.now in
    let fs = frames_of c.args.turns.now in
    let members = c.args.members.now in
    let i = c.loop-member.member-index in
    (subst (λ xs. ArgumentsFit w fs (properties (map property_of xs)))
    (next_item members i c.member-item.result c.loop-member-test.true c.member-item.is) c.loop-member.invariant.1).0

pub loop-member-preserved : goal.loop-member-preserved
loop-member-preserved c =
    let w = emission_sight c.args.table.now in
    let fs = frames_of c.args.turns.now in
    let members = c.args.members.now in
    let i = c.loop-member.member-index in
    let p = property_of c.member-item.result in
    let left = map property_of (drop (i + 1) members) in
    let whole = properties (map property_of members) in
    let next = next_item members i c.member-item.result c.loop-member-test.true c.member-item.is in (
      one_more w fs p left whole c.loop-member.all c.in-Ok.more c.argument.result c.argument.ensures c.in-Ok.ensures
          (subst (λ xs. AreBegun w fs (properties (map property_of xs)) whole c.loop-member.all) next
          c.loop-member.invariant.0),
      (subst (λ xs. ArgumentsFit w fs (properties (map property_of xs))) next c.loop-member.invariant.1).1,
    )

pub returns : goal.returns
returns c =
    let w = emission_sight c.args.table.now in
    let fs = frames_of c.args.turns.now in
    let members = c.args.members.now in
    let i = c.loop-member.member-index in
    all_done w fs (properties (map property_of (drop i members))) (properties (map property_of members))
    c.loop-member.all (ap (λ xs. properties (map property_of xs)) (drop_all i members c.loop-member-test.false))
    c.loop-member.invariant.0
