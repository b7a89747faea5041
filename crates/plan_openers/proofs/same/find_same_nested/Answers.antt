use Rattle.std.proofs.Common.{◌∙◌, ap}
use Rattle.tag_needs.specs.Tags.{tags_in}
use Rattle.plan_openers.proofs.SameLemmas.{same_found, none_found}
use Rattle.plan_openers.proofs.same.find_same_nested.Goals as goal

pub returns : goal.returns
returns c = record {
  same = same_found c.args.table.now c.requires.table (tags_in c.as_slice.result.now) c.in_ok-found.found
      (ap tags_in c.as_slice.ensures.value ∙ c.in_ok-tags.ensures) c.in_ok-found.ensures.shared;
  apart = none_found c.args.table.now c.requires.table (tags_in c.as_slice.result.now) c.in_ok-found.found
      (ap tags_in c.as_slice.ensures.value ∙ c.in_ok-tags.ensures) c.in_ok-found.ensures.apart;
}
