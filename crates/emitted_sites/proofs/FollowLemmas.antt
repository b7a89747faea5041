-- Readings of a template that follow what they look at, also through symbolic names, which they never look at.
use Rattle.std.proofs.Common.{◌≡◌, Bool, false, true≢false, List, [], ◌∷◌, Option, Some, refl, ap, ◌∙◌}
use Rattle.std.specs.Prelude.{◌||◌}
use Rattle.foundation.proofs.TruthValues.{or_left}
use Rattle.arm_ids.specs.declared.id.Place.{Place}
use Rattle.arm_env.specs.Look.{Look, Fact, Looking}
use Rattle.arm_env.specs.Look as look
use Rattle.arm_eval.specs.Titles.{Titles, titled, itself}
use Rattle.reading.specs.Reading.{done, ask, continued, through}
use Rattle.reading.specs.World.{reads_in, Each}
use Rattle.template_tree.specs.Tree.{TemplateTree}
use Rattle.deploy_cells.specs.Cells.{Position, Cell, World}
use Rattle.deploy_cells.specs.Followed.{followed}
use Rattle.deploy_cells.specs.Guarded.{Reads}
use Rattle.plan_cells.specs.Sites.{Texts, ids_alone, names, symbols, by_texts, titles_at}
use Rattle.bicep_emission.specs.Alike.{seen_in, after}
use Rattle.bicep_emission.proofs.SeenLemmas.{then_seen, seen-continued}
use Rattle.renamed_reads.proofs.FollowedLemmas.{reads-unmarked}
use Rattle.emitted_sites.specs.Marks.{no_mark}
use Rattle.emitted_sites.specs.Sites.{is_left}

-- ---- nothing is marked

module _ {A : Type 0} (w : World) where
  pub unmarked : (r : Reads A) → (seen_in w no_mark r).1 ≡ false
  unfolding seen_in
  unmarked (done o) = refl
  unmarked (ask c k) = ap (λ b. b || false) (unmarked (k (w c)))

-- ---- what is looked at

itself_titled : (ts : Titles) (place : Place) (c : Look) → is_left c ≡ false → titled ts place c ≡ itself c
itself_titled ts place (look.parameter x) e = refl
itself_titled ts place (look.variable x) e = refl
itself_titled ts place (look.output k x) e = refl
itself_titled ts place (look.state k) e = refl
itself_titled ts place (look.named t) e = absurd (true≢false e)
itself_titled ts place (look.deployment k) e = refl
itself_titled ts place (look.outputs k) e = refl

module _ {A : Type 0} (w : World) (n : Cell → Bool) (v : Look → Option Fact) (b : Look → Bool)
    (h : Look → Reads (Option Fact))
    (sees : (c : Look) → is_left c ≡ false → seen_in w n (h c) ≡ (Some (v c), b c)) where
  abbrev pub Plain : Looking A → Type 0
  Plain r = Each (λ c. is_left c ≡ false) (reads_in v r)

  goes_on : (c : Look) (f : Option Fact → Reads A) → is_left c ≡ false
      → seen_in w n (continued (h c) f) ≡ after (b c) (seen_in w n (f (v c)))
  goes_on c f e = seen-continued w n (h c) f ∙ ap (λ t. then_seen t (λ o. seen_in w n (f o))) (sees c e)

  plainly : (r : Looking A) → Plain r → seen_in w n (followed h r) ≡ seen_in v b r
  unfolding seen_in reads_in followed
  plainly (done o) e = refl
  plainly (ask c k) e = goes_on c (λ o. followed h (k o)) e.0 ∙ ap (after (b c)) (plainly (k (v c)) e.1)

  -- a cell in whose place is the cell itself
  by_itself : (g : Look → Looking (Option Fact)) (c : Look) (k : Option Fact → Looking A) → g c ≡ itself c
      → followed h (continued (g c) (λ o. through g (k o))) ≡ continued (h c) (λ o. followed h (through g (k o)))
  unfolding followed continued
  by_itself g c k e = ap (λ r. followed h (continued r (λ o. through g (k o)))) e

  through_plainly : (g : Look → Looking (Option Fact)) → ((c : Look) → is_left c ≡ false → g c ≡ itself c)
      → (r : Looking A) → Plain r → seen_in w n (followed h (through g r)) ≡ seen_in v b r
  unfolding seen_in reads_in followed through
  through_plainly g same (done o) e = refl
  through_plainly g same (ask c k) e =
      ap (seen_in w n) (by_itself g c k (same c e.0)) ∙ goes_on c (λ o. followed h (through g (k o))) e.0
      ∙ ap (after (b c)) (through_plainly g same (k (v c)) e.1)

  pub by_any_texts : (x : Texts) (u : TemplateTree) (place : Place) (q : Position) (r : Looking A) → Plain r
      → seen_in w n (followed h (by_texts x u place q r)) ≡ seen_in v b r
  by_any_texts ids_alone u place q r e = plainly r e
  by_any_texts names u place q r e = plainly r e
  by_any_texts symbols u place q r e =
      through_plainly (titled (titles_at u q) place) (λ c l. itself_titled (titles_at u q) place c l) r e

-- what is not marked is not left
each_plain : (a : Look → Bool) (cs : List Look) → Each (λ c. (is_left c || a c) ≡ false) cs
    → Each (λ c. is_left c ≡ false) cs
each_plain a [] e = tt
each_plain a (c ∷ cs) e = (or_left (is_left c) (a c) e.0, each_plain a cs e.1)

module _ {A : Type 0} (v : Look → Option Fact) (a : Look → Bool) where
  -- a reading of a program of which nothing is marked
  pub reads_plain : (m : World) (r : Looking A) (s : Reads A)
      → seen_in v (λ c. is_left c || a c) r ≡ seen_in m no_mark s → Each (λ c. is_left c ≡ false) (reads_in v r)
  reads_plain m r s e =
      each_plain a (reads_in v r)
      (reads-unmarked Look Fact A v (λ c. is_left c || a c) r (ap (λ t. t.1) e ∙ unmarked m s))
