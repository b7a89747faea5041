-- The kinds of symbols.
use Rattle.bicep_names.specs.declared.kind.Kind.{Kind}
use Rattle.bicep_symbols.specs.declared.entry.Entry.{Entry}

abbrev pub kind_of : Entry → Kind
kind_of e = e.kind
