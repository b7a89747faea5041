-- A history that is replayed from answers is the only one.
use Rattle.std.proofs.Common.{◌≡◌, inl, inr, ℕ, List, [], ◌∷◌, ◌++◌, Some, refl, sym, ap, subst, ◌∙◌}
use Rattle.std.specs.Prelude.{slice_get}
use Rattle.std.proofs.lemmas.Bool.{cases_order}
use Rattle.provider_trait.specs.declared.answer.Answer.{Answer}
use Rattle.provider_trait.specs.declared.answer.Answer.TheVariants.{Stored, Gone, Refused}
use Rattle.plan_cells.specs.Tasks as task
use Rattle.plan_cells.specs.Tasks.{Task}
use Rattle.deploy_histories.specs.Planned.{Planned}
use Rattle.deploy_histories.specs.Events as event
use Rattle.deploy_histories.specs.Events.{Event, Progress, after, after_all}
use Rattle.deploy_histories.specs.Legal.{May}
use Rattle.deploy_histories.specs.Answers.{Noted, begin_of, answer_of, IsScopeEvent, IsFirstScope, Settles, PlaysThen}
use Rattle.deploy_histories.specs.Answers.{last_play, where_refused, IsReplay}

tail_same : (e : Event) (gs hs : List Event) → ◌≡◌ {A = List Event} (e ∷ gs) (e ∷ hs) → gs ≡ hs
tail_same e gs hs i = cc

module _ (x : Planned) where
  -- a task enters a scope or leaves one
  not_both : (u v : ℕ) (q r : Task) → u ≡ v → slice_get x.tasks u ≡ Some q → slice_get x.tasks v ≡ Some r → q ≡ r
  not_both u v q r e i j = let k : slice_get x.tasks u ≡ slice_get x.tasks v = ap (λ n. slice_get x.tasks n) e in cc

  one_scope : (p : Progress) (n : ℕ) (e f : Event) → IsScopeEvent n e → IsScopeEvent n f → May x p e → May x p f
      → e ≡ f
  one_scope p n (event.enter v) (event.enter w) i j a b = ap event.enter (i ∙ sym j)
  one_scope p n (event.leave v) (event.leave w) i j a b = ap event.leave (i ∙ sym j)
  one_scope p n (event.enter v) (event.leave w) i j a b =
      let k : task.enter a.0 ≡ task.leave b.0 = not_both v w _ _ (i ∙ sym j) a.1.is_task b.1.is_task in absurd (cc)
  one_scope p n (event.leave v) (event.enter w) i j a b =
      let k : task.leave a.0 ≡ task.enter b.0 = not_both v w _ _ (i ∙ sym j) a.1.is_task b.1.is_task in absurd (cc)
  one_scope p n (event.enter v) (event.begin u w c) i j a b = absurd j
  one_scope p n (event.enter v) (event.answer u c) i j a b = absurd j
  one_scope p n (event.enter v) (event.back u) i j a b = absurd j
  one_scope p n (event.enter v) event.crash i j a b = absurd j
  one_scope p n (event.leave v) (event.begin u w c) i j a b = absurd j
  one_scope p n (event.leave v) (event.answer u c) i j a b = absurd j
  one_scope p n (event.leave v) (event.back u) i j a b = absurd j
  one_scope p n (event.leave v) event.crash i j a b = absurd j
  one_scope p n (event.begin u w c) f i j a b = absurd i
  one_scope p n (event.answer u c) f i j a b = absurd i
  one_scope p n (event.back u) f i j a b = absurd i
  one_scope p n event.crash f i j a b = absurd i

  first_same : (p : Progress) (e f : Event) → IsFirstScope x p e → IsFirstScope x p f → e ≡ f
  first_same p e f a b = elim (cases_order a.number b.number) [
    | inl s ↦ one_scope p a.number e f a.is_scope (subst (λ (n : ℕ). IsScopeEvent n f) (sym s) b.is_scope) a.may b.may
    | inr o ↦ elim o [
      | inl l ↦ absurd (b.is_first a.number e a.is_scope l a.may)
      | inr l ↦ absurd (a.is_first b.number f b.is_scope l b.may)
    ]
  ]

  pub settles_same : (p : Progress) (es fs : List Event) → Settles x p es → Settles x p fs → es ≡ fs
  settles_same p [] [] s t = refl
  settles_same p [] (f ∷ fs) s t = absurd (s t.0.number f t.0.is_scope t.0.may)
  settles_same p (e ∷ es) [] s t = absurd (t s.0.number e s.0.is_scope s.0.may)
  settles_same p (e ∷ es) (f ∷ fs) s t =
      let i = first_same p e f s.0 t.0 in
      ap (λ (k : Event). k ∷ es) i
      ∙ ap (λ (l : List Event). f ∷ l)
      (settles_same (after f p) es fs (subst (λ (k : Event). Settles x (after k p) es) i s.1) t.1)

  later_same : (ns : List Noted) (q : Progress) (n : Noted) (a : Answer) (os ps : List Event)
      → ((r : Progress) (g h : List Event) → IsReplay x r ns g → IsReplay x r ns h → g ≡ h)
      → where_refused a (os ≡ last_play n ns) (PlaysThen n q os (λ r more. IsReplay x r ns more))
      → where_refused a (ps ≡ last_play n ns) (PlaysThen n q ps (λ r more. IsReplay x r ns more)) → os ≡ ps
  later_same ns q n (Refused code) os ps rest a b = a ∙ sym b
  later_same ns q n (Stored j) os ps rest a b =
      a.is ∙ ap (λ (l : List Event). begin_of n ∷ answer_of n ∷ l) (rest _ a.others b.others a.goes_on b.goes_on)
      ∙ sym b.is
  later_same ns q n Gone os ps rest a b =
      a.is ∙ ap (λ (l : List Event). begin_of n ∷ answer_of n ∷ l) (rest _ a.others b.others a.goes_on b.goes_on)
      ∙ sym b.is

  pub replay_same : (ns : List Noted) (p : Progress) (g h : List Event) → IsReplay x p ns g → IsReplay x p ns h
      → g ≡ h
  replay_same [] p g h a b = a ∙ sym b
  replay_same (n ∷ ns) p g h a b =
      let s = settles_same p a.scopes b.scopes a.settles b.settles in
      a.is ∙ ap (λ (l : List Event). l ++ a.others) s
      ∙ ap (λ (l : List Event). b.scopes ++ l)
      (later_same ns (after_all b.scopes p) n n.answer a.others b.others (λ r k l i j. replay_same ns r k l i j)
      (subst (λ (l : List Event). where_refused n.answer (a.others ≡ last_play n ns)
      (PlaysThen n (after_all l p) a.others (λ r more. IsReplay x r ns more))) s a.goes_on) b.goes_on)
      ∙ sym b.is
