-- The calls that a catalogue has kept.
use Rattle.std.specs.Prelude.{List}
use Rattle.provider_trait.specs.declared.call.Call.{Call}
use Rattle.provider_trait.specs.declared.catalog.Catalog.{Catalog}

-- the calls that a catalogue has kept
abbrev pub catalog_calls : Catalog → List Call
catalog_calls c = c.calls.items
