use Rattle.std.proofs.Common.{◌∙◌, sym, codes, refl, bytes_eq}
use Rattle.arm_value.specs.Look.{fold}
use Rattle.provider_trait.specs.Plain.{is_storage}
use Rattle.foundation.proofs.AsciiWords.{word}
use Rattle.provider_trait.proofs.PlainLemmas.{kind_is, first_or, second_or, third_or, last_or}
use Rattle.provider_trait.proofs.named.Named.needs_location.Goals as goal

pub returns-then-is_storage : goal.returns-then-is_storage
returns-then-is_storage c =
    let kind = c.args.self.now.kind in
    first_or (is_storage kind) (bytes_eq (fold kind) (codes "microsoft.network/virtualnetworks"))
    (bytes_eq (fold kind) (codes "microsoft.web/serverfarms"))
    (bytes_eq (fold kind) (codes "microsoft.web/sites")) (sym c.is_storage.ensures ∙ c.if-is_storage.true)

pub returns-then-is_kind : goal.returns-then-is_kind
returns-then-is_kind c =
    let kind = c.args.self.now.kind in
    second_or (is_storage kind) (bytes_eq (fold kind) (codes "microsoft.network/virtualnetworks"))
    (bytes_eq (fold kind) (codes "microsoft.web/serverfarms"))
    (bytes_eq (fold kind) (codes "microsoft.web/sites")) (sym c.is_storage.ensures ∙ c.if-is_storage.false)
    (sym
    (kind_is kind (codes "Microsoft.Network/virtualNetworks")
    (word (codes "Microsoft.Network/virtualNetworks") refl)) ∙ sym c.is_kind.ensures ∙ c.if-is_kind.true)

pub returns-then-is_kind-2 : goal.returns-then-is_kind-2
returns-then-is_kind-2 c =
    let kind = c.args.self.now.kind in
    third_or (is_storage kind) (bytes_eq (fold kind) (codes "microsoft.network/virtualnetworks"))
    (bytes_eq (fold kind) (codes "microsoft.web/serverfarms"))
    (bytes_eq (fold kind) (codes "microsoft.web/sites")) (sym c.is_storage.ensures ∙ c.if-is_storage.false)
    (sym
    (kind_is kind (codes "Microsoft.Network/virtualNetworks")
    (word (codes "Microsoft.Network/virtualNetworks") refl)) ∙ sym c.is_kind.ensures ∙ c.if-is_kind.false)
    (sym (kind_is kind (codes "Microsoft.Web/serverFarms") (word (codes "Microsoft.Web/serverFarms") refl))
    ∙ sym c.is_kind-2.ensures ∙ c.if-is_kind-2.true)

pub returns : goal.returns
returns c =
    let kind = c.args.self.now.kind in
    last_or (is_storage kind) (bytes_eq (fold kind) (codes "microsoft.network/virtualnetworks"))
    (bytes_eq (fold kind) (codes "microsoft.web/serverfarms"))
    (bytes_eq (fold kind) (codes "microsoft.web/sites")) c.is_kind-3.result (sym c.is_storage.ensures
    ∙ c.if-is_storage.false)
    (sym
    (kind_is kind (codes "Microsoft.Network/virtualNetworks")
    (word (codes "Microsoft.Network/virtualNetworks") refl)) ∙ sym c.is_kind.ensures ∙ c.if-is_kind.false)
    (sym (kind_is kind (codes "Microsoft.Web/serverFarms") (word (codes "Microsoft.Web/serverFarms") refl))
    ∙ sym c.is_kind-2.ensures ∙ c.if-is_kind-2.false) (c.is_kind-3.ensures
    ∙ kind_is kind (codes "Microsoft.Web/sites") (word (codes "Microsoft.Web/sites") refl))
