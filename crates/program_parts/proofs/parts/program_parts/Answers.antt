use Rattle.program_parts.proofs.parts.program_parts.Goals as goal

pub parts_in-requires-clause-empty : goal.parts_in-requires-clause-empty
parts_in-requires-clause-empty c = c.new.ensures.items
