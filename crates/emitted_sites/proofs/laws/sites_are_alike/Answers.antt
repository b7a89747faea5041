use Rattle.emitted_sites.proofs.SiteLemmas.{site_alike}
use Rattle.emitted_sites.proofs.laws.sites_are_alike.Goals as goal

pub returns : goal.returns
returns c = λ z d u m w x p q f at e k g s h. site_alike z d u m w x p q f at e k g s h
