use Rattle.printable_files.proofs.laws.emissions_are_printable.Goals as goal

pub returns-clause-expressions : goal.returns-clause-expressions
returns-clause-expressions c = λ file files p k e fs h g. (
  c.names_are_of_the_grammar.ensures file files p.words p.outputs k e fs h.0 g.0,
  c.emitted_numbers_are_whole.ensures.expressions file files p.wholes p.parts k e fs h.1 g.1,
)

pub returns-clause-items : goal.returns-clause-items
returns-clause-items c = λ file files p k n. (
  c.names_of_heads_are_of_the_grammar.ensures.items file files p.words p.outputs k n,
  c.emitted_numbers_are_whole.ensures.items file files p.wholes p.parts k n,
)

pub returns-clause-names : goal.returns-clause-names
returns-clause-names c = λ file files p k n fs g. (
  c.names_of_heads_are_of_the_grammar.ensures.names file files p.words p.outputs k n fs g.0,
  c.emitted_numbers_are_whole.ensures.names file files p.wholes p.parts k n fs g.1,
)

pub returns-clause-conditions : goal.returns-clause-conditions
returns-clause-conditions c = λ file files p k n fs g. (
  c.names_of_heads_are_of_the_grammar.ensures.conditions file files p.words p.outputs k n fs g.0,
  c.emitted_numbers_are_whole.ensures.conditions file files p.wholes p.parts k n fs g.1,
)
