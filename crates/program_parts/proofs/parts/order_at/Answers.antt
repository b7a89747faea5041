use Rattle.program_parts.proofs.parts.order_at.Goals as goal

pub order_by-requires : goal.order_by-requires
order_by-requires c = record { read = c.requires; text = c.in-Some.ensures }
