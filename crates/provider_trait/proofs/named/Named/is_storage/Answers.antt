use Rattle.std.proofs.Common.{◌∙◌, codes, refl}
use Rattle.foundation.proofs.AsciiWords.{word}
use Rattle.provider_trait.proofs.PlainLemmas.{kind_is}
use Rattle.provider_trait.proofs.named.Named.is_storage.Goals as goal

pub returns : goal.returns
returns c =
    c.is_kind.ensures
    ∙ kind_is c.args.self.now.kind (codes "Microsoft.Storage/storageAccounts")
    (word (codes "Microsoft.Storage/storageAccounts") refl)
