use Rattle.std.proofs.Common.{◌≡◌, ◌∙◌, length, ap, arith, rules}
use Rattle.foundation.proofs.Lists.{map-push}
use Rattle.tag_needs.specs.Tags.{tags_of, tags_in}
use Rattle.plan_table.specs.declared.line.Line.{Line}
use Rattle.dependency_faults.specs.Names.{spot_names}
use Rattle.dependency_faults.proofs.LineLemmas.{lines_more, lines_end}
use Rattle.dependency_faults.proofs.names.names_of_lines.Goals as goal

pub lines-preserved : goal.lines-preserved
lines-preserved c =
    let n : c.len-at-end.result ≡ length c.args.table.now.lines.items = search rules in
    let h = c.lines-test.true in
    lines_more (λ (x : Line). spot_names c.args.table.now x.spot) c.args.table.now.lines.items c.lines.at
    (tags_in c.lines.all.items) (tags_in c.push.new.self.items) (tags_of c.in_ok-tags.tags) (omega (arith, n, h))
    (ap tags_in c.in_ok-push.ensures.items ∙ map-push tags_of c.lines.all.items c.in_ok-tags.tags) c.in_ok-tags.ensures
    c.lines.invariant

pub returns : goal.returns
returns c =
    let n : c.len-at-end.result ≡ length c.args.table.now.lines.items = search rules in
    let h = c.lines-test.false in
    lines_end (λ (x : Line). spot_names c.args.table.now x.spot) c.args.table.now.lines.items c.lines.at
    (tags_in c.lines.all.items) (omega (arith, n, h)) c.lines.invariant
