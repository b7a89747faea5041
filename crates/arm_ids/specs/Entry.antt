-- The resource that an entry of the code is.
use Rattle.arm_value.specs.View.{json}
use Rattle.arm_ids.specs.Held.{HeldResource}
use Rattle.arm_ids.specs.declared.entry.Entry.{Entry}

-- the resource that an entry is
abbrev pub as_held : Entry → HeldResource
as_held e = record { id = e.id; api = e.api; body = json e.body; state = json e.state }
