use Rattle.std.proofs.Common.{◌∙◌, sym}
use Rattle.std.proofs.lemmas.Bool.{ltb-false}
use Rattle.std.proofs.lemmas.Str.{chars-nil}
use Rattle.bicep_placed.proofs.KindLemmas.{no_kind}
use Rattle.bicep_placed.proofs.kinds.known.Goals as goal

pub returns-in-None : goal.returns-in-None
returns-in-None c =
    chars-nil ∙ no_kind c.args.kinds.now c.args.number (ltb-false _ _ (sym c.in-None.ensures.lookup.0))
