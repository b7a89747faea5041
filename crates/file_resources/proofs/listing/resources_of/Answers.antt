use Rattle.std.proofs.Common.{◌<◌, None, length, refl, sym, ◌∙◌, subst, arith}
use Rattle.std.proofs.lemmas.List.{length-map}
use Rattle.std.specs.Prelude.{option_map, IfOk}
use Rattle.template_tree.specs.View.{template_tree}
use Rattle.emitted_modules.specs.Seen.{file_in}
use Rattle.file_resources.specs.Built.{templates_of, IsGrown, AreBuilt, HaveMetadata}
use Rattle.file_resources.specs.Fits.{MayBeBuilt}
use Rattle.file_resources.proofs.ListLemmas.{template_is, given_is, others_stay, size_stays, resource_at, is_below}
use Rattle.file_resources.proofs.ListLemmas.{differ, begin, grown, all_built, IsNoted, are_built, have_metadata}
use Rattle.file_resources.proofs.listing.resources_of.Goals as goal

pub loop-place-init : goal.loop-place-init
loop-place-init c = record {
  built = begin
      (IsNoted c.args.form c.args.table.now c.args.metadata.now (templates_of c.args.templates.items))
      c.args.numbers.now c.new-all.result c.new-all.ensures;
  left = λ k m l h. refl;
  size = refl;
}

pub number_at-number-requires : goal.number_at-number-requires
number_at-number-requires c = c.loop-place-test.true

pub template_at-template-requires : goal.template_at-template-requires
template_at-template-requires c =
    let f = file_in c.args.table.now in
    let ns = c.args.numbers.now in
    let ts = c.args.templates.items in
    let n = c.number_at-number.result in
    let at = c.number_at-number.ensures in
    let l = is_below f n (resource_at f c.args.form ns c.loop-place.place n c.requires.numbers at) in
    let b = length-map ts (option_map template_tree) in
    omega (arith, l, b, c.requires.built.all, c.loop-place.invariant.size)

pub with_part-requires-clause-resource : goal.with_part-requires-clause-resource
with_part-requires-clause-resource c =
    let ns = c.args.numbers.now in
    let n = c.number_at-number.result in
    resource_at (file_in c.args.table.now) c.args.form ns c.loop-place.place n c.requires.numbers
    c.number_at-number.ensures

pub with_part-requires-clause-built : goal.with_part-requires-clause-built
with_part-requires-clause-built c =
    let s = c.args.table.now in
    let f = file_in s in
    let ns = c.args.numbers.now in
    let ts = c.args.templates.items in
    let i = c.loop-place.place in
    let n = c.number_at-number.result in
    let at = c.number_at-number.ensures in
    let below = is_below f n (resource_at f c.args.form ns i n c.requires.numbers at) in
    let b = length-map ts (option_map template_tree) in
    let l : n < length ts = omega (arith, below, b, c.requires.built.all) in
    subst (MayBeBuilt s n)
    (given_is ts n l c.template_at-template.result
    (c.template_at-template.ensures.value ∙ c.loop-place.invariant.left i n (omega arith) at)) (c.requires.built.each n)

pub loop-place-preserved : goal.loop-place-preserved
loop-place-preserved c =
    let z = c.args.form in
    let s = c.args.table.now in
    let f = file_in s in
    let ns = c.args.numbers.now in
    let ts = c.args.templates.items in
    let i = c.loop-place.place in
    let n = c.number_at-number.result in
    let at = c.number_at-number.ensures in
    let below = is_below f n (resource_at f z ns i n c.requires.numbers at) in
    let b = length-map ts (option_map template_tree) in
    let l : n < length ts = omega (arith, below, b, c.requires.built.all) in
    let is = template_is ts n l c.template_at-template.result
    (c.template_at-template.ensures.value ∙ c.loop-place.invariant.left i n (omega arith) at) in
    let ms = c.args.metadata.now in
    let g = subst (λ o. IsGrown z s ms n o c.loop-place.all c.in-Ok.more) is c.in-Ok.ensures in
    record {
      built = grown (IsNoted z s ms (templates_of ts)) ns i n c.loop-place.all c.in-Ok.more g.0 at g.1.0 g.1.1
          c.loop-place.invariant.built;
      left = λ k m h g. others_stay c.loop-place.rest.items c.template_at-template.new.templates.items n m None
          c.template_at-template.ensures.after (differ z f ns i k n m c.requires.numbers (omega (arith, h)) at g)
          ∙ c.loop-place.invariant.left k m (omega (arith, h)) g;
      size = size_stays c.loop-place.rest.items c.template_at-template.new.templates.items n None
          c.template_at-template.ensures.after ∙ c.loop-place.invariant.size;
    }

pub returns-clause-built : goal.returns-clause-built
returns-clause-built c =
    let z = c.args.form in
    let s = c.args.table.now in
    let ns = c.args.numbers.now in
    let ms = c.args.metadata.now in
    let us = templates_of c.args.templates.items in
    subst (λ r. IfOk r (AreBuilt z s us ns)) (sym c.letting_go.ensures)
    (are_built z s ms us ns c.loop-place.all
    (all_built (IsNoted z s ms us) ns c.loop-place.place c.loop-place.all
    (omega (arith, c.loop-place-test.false)) c.loop-place.invariant.built))

pub returns-clause-metadata : goal.returns-clause-metadata
returns-clause-metadata c =
    let z = c.args.form in
    let s = c.args.table.now in
    let ns = c.args.numbers.now in
    let ms = c.args.metadata.now in
    let us = templates_of c.args.templates.items in
    subst (λ r. IfOk r (HaveMetadata ms ns)) (sym c.letting_go.ensures)
    (have_metadata z s ms us ns c.loop-place.all
    (all_built (IsNoted z s ms us) ns c.loop-place.place c.loop-place.all
    (omega (arith, c.loop-place-test.false)) c.loop-place.invariant.built))
