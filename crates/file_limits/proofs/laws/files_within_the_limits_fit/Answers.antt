use Rattle.std.proofs.Common.{length}
use Rattle.emitted_templates.specs.Seen.{file_in, files_in}
use Rattle.file_limits.proofs.FitLemmas.{all_fit}
use Rattle.file_limits.proofs.laws.files_within_the_limits_fit.Goals as goal

pub returns : goal.returns
returns c = λ z s rs ms os inner around a h.
    let f = file_in s in
    let fs = files_in s in
    let k = length f.symbols in
    all_fit z s rs ms os inner around a
    record {
      expressions = c.emissions_are_printable.ensures.expressions f fs a.file k;
      items = c.emissions_are_printable.ensures.items f fs a.file k;
      names = c.emissions_are_printable.ensures.names f fs a.file k;
      conditions = c.emissions_are_printable.ensures.conditions f fs a.file k;
      trees = c.values_are_printable.ensures.trees f fs a.file k;
      members = c.values_are_printable.ensures.members f fs a.file k;
      values = c.values_are_printable.ensures.values f fs a.file k;
    } h
