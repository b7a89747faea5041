-- What reads at a site reads through one reading for each cell that it looks at.
use Rattle.std.proofs.Common.{◌≡◌, Option, Some, None, refl, sym, ◌∙◌}
use Rattle.deploy_cells.specs.Place.{Place}
use Rattle.arm_eval.specs.Look.{Look, Fact, Looking, Surroundings}
use Rattle.arm_eval.specs.Titles.{titled}
use Rattle.reading.specs.Reading.{Reading, done, ask, onward, continued, through}
use Rattle.template_parameters.specs.Tree.{TemplateTree}
use Rattle.template_parameters.specs.Json.{Json}
use Rattle.deploy_cells.specs.Cells.{Cell}
use Rattle.deploy_cells.specs.Followed.{followed}
use Rattle.plan_cells.specs.Sites.{Texts, ids_alone, names, symbols, Site, looked_up, titles_at, by_texts, reading_in}
use Rattle.plan_cells.specs.Sites.{followed_text, seen_at, surroundings}

module _ (C J A B D : Type 0) where
  onward_twice : (o : Option A) (f : A → Reading C J B) (g : B → Reading C J D)
      → continued (onward o f) g ≡ onward o (λ x. continued (f x) g)
  unfolding continued
  onward_twice (Some x) f g = refl
  onward_twice None f g = refl

  continued_twice : (r : Reading C J A) (f : A → Reading C J B) (g : B → Reading C J D)
      → continued (continued r f) g ≡ continued r (λ x. continued (f x) g)
  unfolding continued
  continued_twice (done o) f g = onward_twice o f g
  continued_twice (ask c k) f g = λ i. ask c (λ v. continued_twice (k v) f g i)

module _ (C D J K : Type 0) (h : C → Reading D K (Option J)) where
  followed_onward : (A B : Type 0) (o : Option A) (f : A → Reading C J B)
      → followed h (onward o f) ≡ onward o (λ x. followed h (f x))
  unfolding followed
  followed_onward A B (Some x) f = refl
  followed_onward A B None f = refl

  followed_continued : (A B : Type 0) (r : Reading C J A) (f : A → Reading C J B)
      → followed h (continued r f) ≡ continued (followed h r) (λ x. followed h (f x))
  unfolding followed continued
  followed_continued A B (done o) f = followed_onward A B o f
  followed_continued A B (ask c k) f =
      (λ i. continued (h c) (λ v. followed_continued A B (k v) f i))
      ∙ sym (continued_twice D K (Option J) A B (h c) (λ v. followed h (k v)) (λ x. followed h (f x)))

  -- what follows readings that stand in the places of other cells
  followed_through : (E A : Type 0) (g : E → Reading C J (Option J)) (r : Reading E J A)
      → followed h (through g r) ≡ followed (λ c. followed h (g c)) r
  unfolding followed through
  followed_through E A g (done o) = refl
  followed_through E A g (ask c k) =
      followed_continued (Option J) A (g c) (λ v. through g (k v))
      ∙ (λ i. continued (followed h (g c)) (λ v. followed_through E A g (k v) i))

module _ (t : TemplateTree) (place : Place) (e : Site) (A : Type 0) where
  by_kind : (x : Texts) (r : Looking A)
      → followed (looked_up t place e) (by_texts x t place e.at r) ≡ followed (followed_text x t place e) r
  by_kind symbols r = followed_through Look Cell Fact Json (looked_up t place e) Look A
      (titled (titles_at t e.at) place) r
  by_kind ids_alone r = refl
  by_kind names r = refl

  pub by_one_reading : (f : Surroundings → Looking A)
      → reading_in t e f place ≡ followed (seen_at t place e) (f (surroundings e place))
  by_one_reading f = by_kind e.texts (f (surroundings e place))
