-- No value describes two templates.
use Rattle.std.proofs.Common.{◌≡◌, List, [], ◌∷◌, refl, sym, ◌∙◌}
use Rattle.template_tree.specs.Tree.{TemplateTree, template, ResourceTree, resource, BodyTree, body_members}
use Rattle.template_tree.specs.Tree.{deployment, Trees, no_resources, a_resource}
use Rattle.template_meaning.specs.Values.{Place}
use Rattle.template_meaning.specs.Resources.{Listed}
use Rattle.template_meaning.specs.Describes.{DescribesTemplate, DescribesResource, DescribesBody, DescribesResources}

mutual
  pub once_template : (o : Place) (t u : TemplateTree) → DescribesTemplate o t → DescribesTemplate o u → t ≡ u
  once_template o (template h rs) (template i qs) p q =
      λ x. template ((p.0 ∙ sym q.0) x) (once_resources _ rs qs p.1 q.1 x)

  once_resource : (l : Listed) (r q : ResourceTree) → DescribesResource l r → DescribesResource l q → r ≡ q
  once_resource l (resource d b rs) (resource e c qs) p q =
      λ x. resource ((p.0 ∙ sym q.0) x) (once_body l b c p.1 q.1 x) (once_resources _ rs qs p.2 q.2 x)

  once_body : (l : Listed) (b c : BodyTree) → DescribesBody l b → DescribesBody l c → b ≡ c
  once_body l (body_members ms) (body_members ns) p q = λ x. body_members ((p.1 ∙ sym q.1) x)
  once_body l (body_members ms) (deployment s ps t) p q = let e = sym p.0 ∙ q.0 in cc
  once_body l (deployment s ps t) (body_members ms) p q = let e = sym p.0 ∙ q.0 in cc
  once_body l (deployment s ps t) (deployment r qs u) p q =
      λ x. deployment ((p.1 ∙ sym q.1) x) ((p.2 ∙ sym q.2) x) (once_template _ t u p.3 q.3 x)

  once_resources : (ls : List Listed) (rs qs : Trees) → DescribesResources ls rs → DescribesResources ls qs → rs ≡ qs
  once_resources ls no_resources no_resources p q = refl
  once_resources [] no_resources (a_resource r rs) p q = absurd q
  once_resources (l ∷ ls) no_resources (a_resource r rs) p q = cc
  once_resources [] (a_resource r rs) qs p q = absurd p
  once_resources (l ∷ ls) (a_resource r rs) no_resources p q = cc
  once_resources (l ∷ ls) (a_resource r rs) (a_resource q qs) p s =
      λ x. a_resource (once_resource l r q p.0 s.0 x) (once_resources ls rs qs p.1 s.1 x)
