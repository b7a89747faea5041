-- What a resource is a child of, as the code has it.
use Rattle.bicep_meaning.specs.Files.{Parent, no_parent, inside, below}
use Rattle.bicep_resolved.specs.View.{reach_of}
use Rattle.declared_entries.specs.declared.parents.Up.{Up}
use Rattle.declared_entries.specs.declared.parents.Up.TheVariants as up

abbrev pub parent_of : Up → Parent
parent_of up.Nothing = no_parent
parent_of (up.Inside n) = inside n
parent_of (up.Below r) = below (reach_of r.now)
