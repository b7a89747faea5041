use Rattle.std.proofs.Common.{◌≡◌, drop}
use Rattle.std.specs.List.{list_all}
use Rattle.provider_trait.specs.Catalog.{is_account_character}
use Rattle.provider_trait.proofs.named.are_account_characters.Given as goal

abbrev pub invariant-loop-byte : goal.invariant-loop-byte
invariant-loop-byte l =
    list_all is_account_character l.bytes ≡ list_all is_account_character (drop l.byte-index l.bytes)
