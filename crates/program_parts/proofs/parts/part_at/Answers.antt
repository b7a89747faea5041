use Rattle.program_parts.proofs.parts.part_at.Goals as goal

pub part_by-requires-clause-read : goal.part_by-requires-clause-read
part_by-requires-clause-read c = record { read = c.requires.read; text = c.in-Some.ensures }
