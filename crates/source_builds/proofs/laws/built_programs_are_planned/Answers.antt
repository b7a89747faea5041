use Rattle.source_builds.proofs.laws.built_programs_are_planned.Goals as goal

pub returns : goal.returns
returns c = λ folder main form bytes v q x b read plan. record {
  sources = b.sources;
  program = b.program;
  is_plan = record {
    template = b.template;
    emitted = b.emitted;
    are_bytes = b.are_bytes;
    is_plan = c.read_back.ensures b.template bytes v q x b.are_bytes read.characters read.gives plan;
  };
}
