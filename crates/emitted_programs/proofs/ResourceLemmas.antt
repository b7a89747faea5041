-- What a resource of a template has is what that of its symbol has: count, condition, name and body.
use Rattle.std.proofs.Common.{◌≡◌, ◌<◌, ◌^◌, ℕ, pos, Bool, true, false, true≢false, List, [], ◌∷◌}
use Rattle.std.proofs.Common.{◌++◌, Option, Some, None, refl, sym, ap, ◌∙◌, subst}
use Rattle.std.specs.Prelude.{nat_lt, option_map, option_and_then}
use Rattle.foundation.proofs.Options.{same_some}
use Rattle.arm_value.specs.Json.{Json, Member, bool, int, object, pairs}
use Rattle.arm_value.specs.View.{json}
use Rattle.arm_value.specs.declared.value.Value.{Value}
use Rattle.arm_env.specs.declared.env.Looping.{Looping}
use Rattle.arm_eval.specs.Trees.{tree_value}
use Rattle.reading.specs.Reading.{done, continued}
use Rattle.function_lists.specs.Sizes.{size}
use Rattle.template_parameters.specs.Binding.{BoundMeaning}
use Rattle.template_parts.specs.declared.looping.ResourceCopy.{ResourceCopy}
use Rattle.template_parts.specs.declared.mode.Form.{Form}
use Rattle.template_tree.specs.Tree.{TemplateTree, BodyTree, body_members, deployment}
use Rattle.deploy_cells.specs.Cells.{step, Position, count, included, name, deployments, World, is_admitted}
use Rattle.deploy_cells.specs.Cells.{copies}
use Rattle.deploy_cells.specs.Guarded.{Reads}
use Rattle.deploy_cells.specs.Puts.{Kind}
use Rattle.plan_cells.specs.Meaning as template
use Rattle.plan_cells.specs.Resources.{Listed, resource_at, members_in}
use Rattle.plan_cells.specs.Scopes.{template_at, resource_of, loop_at, loop_of, loops_around, loops_inside}
use Rattle.plan_cells.specs.Sites.{reading_at, count_site, body_site, condition_site, name_site}
use Rattle.bicep_resolved.specs.Source.{LoopTree}
use Rattle.bicep_resolved.specs.Source as source
use Rattle.bicep_meaning.specs.Declared.{whole}
use Rattle.bicep_declared.specs.Declarations.{DeclaredTree}
use Rattle.bicep_declared.specs.Declarations as declarations
use Rattle.bicep_meaning.specs.Files.{SourceFile, declaration}
use Rattle.bicep_meaning.specs.Instances as program
use Rattle.bicep_meaning.specs.Instances.{SourceProgram, Put, put_of, put_by, file_at}
use Rattle.bicep_meaning.specs.Instances.{in_file}
use Rattle.bicep_meaning.specs.Instances.{frames_of, body_fields, count_by}
use Rattle.bicep_meaning.specs.Meaning.{value}
use Rattle.cell_renaming.specs.Renaming.{to_position}
use Rattle.cell_renaming.proofs.OptionLemmas.{of_then}
use Rattle.source_worlds.specs.Numbers.{number_of, numbering}
use Rattle.source_worlds.proofs.NumberLemmas as numbers
use Rattle.emitted_sites.specs.Values.{AreBoth, IsCondition}
use Rattle.emitted_sites.specs.Files.{IsResource, IsLoop, IsBody, AreMembers, IsEmitted, emission}
use Rattle.emitted_sites.specs.Files as files_of
use Rattle.emitted_sites.proofs.AbsentLemmas.{Match, resource_matches}
use Rattle.emitted_sites.proofs.InnerLemmas.{no_loops_around}
use Rattle.emitted_sites.specs.Marks.{IsMarked}
use Rattle.emitted_sites.specs.Sites.{IsInstance}
use Rattle.emitted_sites.proofs.SiteLemmas.{site_alike}
use Rattle.emitted_programs.specs.Sound.{IsSoundProgram}
use Rattle.emitted_programs.proofs.AboveLemmas.{small_index}
use Rattle.emitted_programs.proofs.InstanceLemmas as instances
use Rattle.emitted_programs.proofs.OptionLemmas.{Side, sees, Same, Other, other_of}
use Rattle.emitted_programs.proofs.ScopeLemmas.{r, v, t, in_some_place, constant, constant_seen, both_find}
use Rattle.emitted_programs.proofs.ScopeLemmas.{matches, instance_of}
use Rattle.emitted_programs.proofs.ScopeLemmas as scopes

one_list : (xs : List Looping) (o : Option ResourceCopy) (k : ℕ) → xs ≡ [] → (loop_at o k ++ xs) ≡ loop_at o k
one_list xs None k e = e
one_list xs (Some c) k e = ap (λ (ys : List Looping). record { name = Some c.name; index = k; main = true } ∷ ys) e

-- ---- the number of a resource

unless_number : (b : Bool) (y a : Put) → program.unless_existing b y ≡ Some a → a.number ≡ y.number
unless_number true y a e = absurd cc
unless_number false y a e = ap (λ (x : Put). x.number) (sym (same_some e))

put_number_by : (f : SourceFile) (n : ℕ) (o : Option DeclaredTree) (a : Put) → put_by f n o ≡ Some a → a.number ≡ n
put_number_by f n None a e = absurd cc
put_number_by f n (Some (declarations.parameter at k)) a e = absurd cc
put_number_by f n (Some (declarations.parameter_with at k v)) a e = absurd cc
put_number_by f n (Some (declarations.variable at k)) a e = absurd cc
put_number_by f n (Some (declarations.a_resource at k existing b)) a e = unless_number existing _ a e
put_number_by f n (Some (declarations.a_module at b)) a e = ap (λ (x : Put). x.number) (sym (same_some e))

pub put_number : (f : SourceFile) (n : ℕ) (a : Put) → put_of n f ≡ Some a → a.number ≡ n
put_number f n a e = put_number_by f n (declaration f n) a e

module _ (z : Form) (d : SourceProgram) (u : TemplateTree) (bound : List (List ℕ × BoundMeaning))
    (m : IsEmitted z d.files u) (sound : IsSoundProgram d) (w : World) (marked : IsMarked z d w) (p q : Position)
    (at : to_position (r z d u bound m sound w marked) p ≡ Some q) (is_open : is_admitted w (deployments p) ≡ true)
    (n k : ℕ) (number : (numbering z d.files).number p n ≡ Some k) where
  abbrev rw : Side
  rw = v z d u bound m sound w marked

  abbrev sw : Side
  sw = scopes.sw z d u bound m sound w marked

  abbrev dep : template.Deployment
  dep = t z d u bound m sound w marked

  numbered : (f : SourceFile) → file_at d.files p ≡ Some f → number_of z f n ≡ Some k
  numbered f e = sym (ap (option_and_then (λ f. number_of z f n)) e) ∙ number

  finds : (f : SourceFile) → file_at d.files p ≡ Some f → (y : TemplateTree) → Match z d.files f y
      → AreBoth (IsResource d.files f) (put_of n f) (resource_at y k)
  finds f e y h = resource_matches z d.files f y h k (Some n) (numbers.there z f n k (numbered f e))

  -- the loops around what an instance has
  pub loops_are : (x : Listed) (i : ℕ) → resource_of u q k ≡ Some x
      → loops_inside u q (step k i) ≡ loop_at x.declaration.copy i
  loops_are x i e =
      ap (λ o. loop_of o i ++ loops_around u q) e
      ∙ one_list (loops_around u q) x.declaration.copy i (no_loops_around z d.files u m q)

  -- ---- counts

  count_both : (f : SourceFile) → IsInstance z d w p q f → (j : ℕ) (o : Option LoopTree) (c : Option ResourceCopy)
      → AreBoth (IsLoop d.files f j) o c
      → sees rw (template.count_by dep q c)
      ≡ sees sw (in_file d p f (λ here. count_by o ((whole here).items j)))
  count_both f h j None None g = constant z d u bound m sound w marked p q at is_open f (int (pos 1))
  count_both f h j None (Some c) g = absurd g
  count_both f h j (Some o) None g = absurd g
  count_both f h j (Some o) (Some c) g =
      site_alike z d u m w marked p q f h (count_site u q) refl (tree_value (json c.count))
      (λ here. continued ((whole here).items j) (λ v. done (size (v ∷ []))))
      (instances.count_site z d u m sound w p q f h (count_site u q) refl j o c g)

  pub same_count : Same rw sw (template.raw dep (count q k)) (program.raw d (count p n))
  unfolding template.raw program.raw
  same_count =
      both_find z d u bound m sound w marked p q at is_open (λ f a b. IsResource d.files f a b) (put_of n)
      (λ y. resource_at y k) (λ x here. count_by x.body.each ((whole here).items n))
      (template.count_value dep q) finds
      (λ f h a b e g s. subst
      (λ j. sees rw (template.count_value dep q b)
      ≡ sees sw (in_file d p f (λ here. count_by a.body.each ((whole here).items j)))) (put_number f n a e)
      (count_both f h a.number a.body.each b.declaration.copy s.loop))

  -- ---- an instance

  module _ (i : ℕ) (counted : nat_lt i (copies (w (count p n))) ≡ true) where
    small : i < 2 ^ 63
    small = small_index z d w marked.facts p (step n i) counted

    module _ (f : SourceFile) (h : IsInstance z d w p q f) (a : Put) (b : Listed)
        (is_listed : resource_of u q k ≡ Some b) (s : IsResource d.files f a b) where
      condition_there : (o : Option Value)
          → IsCondition ((emission d.files f).condition a.number (files_of.frames_of d.files f a)) o
          → sees rw (template.condition_value dep (condition_site u q (step k i)) (option_map json o))
          ≡ sees sw (in_file d p f (λ here. (whole here).condition a.number (frames_of here a i)))
      condition_there (Some c) g =
          site_alike z d u m w marked p q f h (condition_site u q (step k i)) refl (tree_value (json c))
          (λ here. (whole here).condition a.number (frames_of here a i))
          (instances.condition_site z d u m sound w p q f h (condition_site u q (step k i)) refl a b s i small
          (loops_are b i is_listed) c g)
      condition_there None g =
          constant_seen rw (bool true)
          ∙ sym
          (in_some_place z d u bound m sound w marked p q at is_open f
          (λ here. (whole here).condition a.number (frames_of here a i)) (Some (bool true), false)
          (instances.always_site z d u m sound w p q f h (condition_site u q (step k i)) refl a b s i small
          (loops_are b i is_listed) g marked))

      name_there : sees rw (template.name_value dep q (step k i) b)
          ≡ sees sw (in_file d p f (λ here. (whole here).full_name a.number (frames_of here a i)))
      name_there =
          ap (λ o. sees rw (template.under_parent dep q o
          (reading_at u d.place (name_site u q (step k i)) (tree_value (json b.declaration.name))))) s.is_no_child
          ∙ site_alike z d u m w marked p q f h (name_site u q (step k i)) refl (tree_value (json b.declaration.name))
          (λ here. (whole here).full_name a.number (frames_of here a i))
          (instances.name_site z d u m sound w p q f h (name_site u q (step k i)) refl a b s i small
          (loops_are b i is_listed))

      body_there : (ms : List Member) → put_of n f ≡ Some a → a.kind.is_deployment ≡ false
          → AreMembers d.files f a ms
          → sees rw (reading_at u d.place (body_site u q (step k i)) (tree_value (object (pairs ms))))
          ≡ sees sw
          (in_file d p f (λ here. value here (whole here) (source.object a.body.at (body_fields a.body.fields))
          (frames_of here a i)))
      body_there ms e g c =
          site_alike z d u m w marked p q f h (body_site u q (step k i)) refl (tree_value (object (pairs ms)))
          (λ here. value here (whole here) (source.object a.body.at (body_fields a.body.fields)) (frames_of here a i))
          (instances.body_site z d u m sound w p q f h (body_site u q (step k i)) refl a b s i small
          (loops_are b i is_listed) ms ((sound.files p f h.file).no_copies n a e g)
          ((sound.files p f h.file).bodies n a e g) c)

      body_both : (o : BodyTree) → put_of n f ≡ Some a → a.kind.is_deployment ≡ false → IsBody d.files f a o
          → Same rw sw
          (option_map (λ ms. reading_at u d.place (body_site u q (step k i)) (tree_value (object (pairs ms))))
          (members_in o))
          (Some
          (in_file d p f (λ here. value here (whole here) (source.object a.body.at (body_fields a.body.fields))
          (frames_of here a i))))
      body_both (body_members ms) e g c = body_there ms e g c.1
      body_both (deployment x ps y) e g c = absurd (true≢false (sym c.is_deployment ∙ g))

    -- ---- bodies

    abbrev body_in_place : SourceFile → Put → Reads Json
    body_in_place f a =
        in_file d p f (λ here. value here (whole here) (source.object a.body.at (body_fields a.body.fields))
        (frames_of here a i))

    bodies_by : (f : SourceFile) → IsInstance z d w p q f → (o : Option Put) (b : Option Listed)
        → put_of n f ≡ o → resource_of u q k ≡ b → AreBoth (IsResource d.files f) o b
        → ((a : Put) → o ≡ Some a → a.kind.is_deployment ≡ false)
        → Same rw sw (option_and_then (template.body_value dep q (step k i)) b) (option_map (body_in_place f) o)
    bodies_by f h None None e g s own = tt
    bodies_by f h None (Some b) e g s own = absurd s
    bodies_by f h (Some a) None e g s own = absurd s
    bodies_by f h (Some a) (Some b) e g s own = body_both f h a b g s b.content e (own a refl) s.content

    own_kind : (kind : Kind) → program.kinds d p n ≡ Some kind → kind.is_deployment ≡ false → (f : SourceFile)
        → file_at d.files p ≡ Some f → (a : Put) → put_of n f ≡ Some a → a.kind.is_deployment ≡ false
    own_kind kind e g f h a c =
        ap (λ (x : Kind). x.is_deployment)
        (same_some
        (sym (ap (λ o. option_map (λ (x : Put). x.kind) (option_and_then (put_of n) o)) h
        ∙ ap (option_map (λ (x : Put). x.kind)) c) ∙ e)) ∙ g

    bodies_of : (f : SourceFile) → file_at d.files p ≡ Some f → (kind : Kind) → program.kinds d p n ≡ Some kind
        → kind.is_deployment ≡ false → Other (Match z d.files) f (template_at u q)
        → Same rw sw (template.bodies dep q (step k i)) (program.bodies d p (step n i))
    bodies_of f e kind g own y =
        subst (Same rw sw (template.bodies dep q (step k i)))
        (sym (ap (option_and_then (λ f. option_map (body_in_place f) (put_of n f))) e))
        (bodies_by f (instance_of z d u bound m sound w marked p q at is_open f e) (put_of n f) (resource_of u q k) refl
        refl
        (subst (λ o. AreBoth (IsResource d.files f) (put_of n f) (option_and_then (λ y. resource_at y k) o)) (sym y.is)
        (finds f e y.other y.both))
        (λ a c. own_kind kind g own f e a c))

    pub same_body : (kind : Kind) → program.kinds d p n ≡ Some kind → kind.is_deployment ≡ false
        → Same rw sw (template.bodies dep q (step k i)) (program.bodies d p (step n i))
    same_body kind g own =
        let f = of_then (file_at d.files p) (λ f. number_of z f n) k number in
        bodies_of f.left f.first kind g own
        (other_of (Match z d.files) f.left (template_at u q)
        (subst (λ o. AreBoth (Match z d.files) o (template_at u q)) f.first
        (matches z d u bound m sound w marked p q at is_open)))

    pub same_included : Same rw sw (template.raw dep (included q (step k i)))
        (program.raw d (included p (step n i)))
    unfolding template.raw program.raw
    same_included =
        both_find z d u bound m sound w marked p q at is_open (λ f a b. IsResource d.files f a b) (put_of n)
        (λ y. resource_at y k) (λ x here. (whole here).condition x.number (frames_of here x i))
        (template.included_value dep q (step k i)) finds
        (λ f h a b e g s. condition_there f h a b g s b.declaration.condition s.condition)

    pub same_name : Same rw sw (template.raw dep (name q (step k i))) (program.raw d (name p (step n i)))
    unfolding template.raw program.raw
    same_name =
        both_find z d u bound m sound w marked p q at is_open (λ f a b. IsResource d.files f a b) (put_of n)
        (λ y. resource_at y k) (λ x here. (whole here).full_name x.number (frames_of here x i))
        (template.name_value dep q (step k i)) finds (λ f h a b e g s. name_there f h a b g s)
