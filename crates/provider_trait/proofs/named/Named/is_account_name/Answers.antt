use Rattle.std.proofs.Common.{◌∙◌, arith}
use Rattle.provider_trait.proofs.AccountLemmas.{too_short, too_long, fit_length}
use Rattle.provider_trait.proofs.named.Named.is_account_name.Goals as goal

pub returns-then-bytes-lt3 : goal.returns-then-bytes-lt3
returns-then-bytes-lt3 c = too_short c.args.self.now.name c.as_bytes-bytes.result.now (c.as_bytes-bytes.ensures.value
    ∙ c.as_str.ensures.bytes) (omega arith)

pub returns-then-bytes-gt24 : goal.returns-then-bytes-gt24
returns-then-bytes-gt24 c = too_long c.args.self.now.name c.as_bytes-bytes.result.now (c.as_bytes-bytes.ensures.value
    ∙ c.as_str.ensures.bytes) (omega arith) (omega arith)

pub returns : goal.returns
returns c = fit_length c.args.self.now.name c.as_bytes-bytes.result.now c.are_account_characters.result
    (c.as_bytes-bytes.ensures.value ∙ c.as_str.ensures.bytes) (omega arith)
    (omega arith) c.are_account_characters.ensures
