-- An instance of a resource or a module: its entry in the template, its name, and its key.
use Rattle.std.proofs.Common.{◌≡◌, ℕ, suc, Bool, true, false, true≢false, length, List, [], ◌∷◌, ◌++◌, map, Option}
use Rattle.std.proofs.Common.{Some, None, refl, sym, ap, ◌∙◌, subst}
use Rattle.std.specs.Prelude.{◌==◌, ◌&&◌, not, nat_lt, is_some, option_map, option_and_then, if◌then◌else◌}
use Rattle.std.specs.List.{list_any}
use Rattle.foundation.proofs.TruthValues.{both, nor, of_not}
use Rattle.arm_value.specs.Json.{Json, null, bool, int, text, array, object}
use Rattle.arm_value.specs.Look.{fold}
use Rattle.arm_ids.specs.Id.{is_whole, has_empty_segment}
use Rattle.arm_ids.specs.Segments.{segments, joined, is_empty, has_slash}
use Rattle.arm_ids.specs.declared.id.Place.{Place}
use Rattle.arm_ids.specs.declared.id.ResourceId.{ResourceId}
use Rattle.arm_ids.proofs.SegmentLemmas.{none_in_front, none_after, segments_cut, has_slash-fold, is_empty-fold}
use Rattle.deploy_cells.specs.Cells.{Step, Position, name, count, World, copies}
use Rattle.deploy_cells.specs.Guarded.{Reads, IsWorld}
use Rattle.deploy_cells.specs.Puts.{Kind, id_at, key_at}
use Rattle.plan_cells.specs.Resources.{Listed, resource_at}
use Rattle.plan_cells.specs.Tasks.{key_by}
use Rattle.template_parts.specs.declared.mode.Form.{Form}
use Rattle.template_tree.specs.Tree.{TemplateTree}
use Rattle.bicep_meaning.specs.Declared.{whole}
use Rattle.bicep_meaning.specs.Files.{SourceFile}
use Rattle.bicep_meaning.specs.Instances as program
use Rattle.bicep_meaning.specs.Instances.{SourceProgram, Put, put_of, file_at, in_file, frames_of}
use Rattle.source_needs.specs.Given.{key_of}
use Rattle.source_worlds.specs.Numbers.{is_put, number_of, symbol_of, place_in, in_template}
use Rattle.source_worlds.proofs.NumberLemmas as numbers
use Rattle.emitted_worlds.specs.Values.{AreBoth}
use Rattle.emitted_worlds.specs.Files.{IsResource, IsDependent}
use Rattle.emitted_worlds.proofs.AbsentLemmas.{Match, resource_matches}
use Rattle.emitted_worlds.proofs.SourceLemmas.{HasValue, valued}
use Rattle.emitted_needs.proofs.TitleLemmas.{BeginsPlain, filled_begins, joined_begins}

-- ---- its entry

-- the resource of a symbol, and its entry in the template of the file
pub record Target (z : Form) (files : List SourceFile) (f : SourceFile) (v : TemplateTree) (n k : ℕ) : Type 0 where
  pub put : Put
  pub is_of : put_of n f ≡ Some put
  pub listed : Listed
  pub is_listed : resource_at v k ≡ Some listed
  pub is_resource : IsResource files f put listed
  pub is_dependent : IsDependent files f z put listed

module _ (z : Form) (files : List SourceFile) (f : SourceFile) (v : TemplateTree) (match : Match z files f v) where
  dependents : (m : ℕ) (o : Option ℕ) → symbol_of z f m ≡ o
      → AreBoth (IsDependent files f z) (option_and_then (λ n. put_of n f) o) (resource_at v m)
  dependents m o e =
      subst (λ o. AreBoth (IsDependent files f z) (option_and_then (λ n. put_of n f) o) (resource_at v m)) e
      (match.dependents m)

  target_by : (n k : ℕ) (o : Option Put) (x : Option Listed) → put_of n f ≡ o → resource_at v k ≡ x
      → AreBoth (IsResource files f) o x → AreBoth (IsDependent files f z) o x → is_some o ≡ true
      → Target z files f v n k
  target_by n k None x e g h c p = absurd (true≢false (sym p))
  target_by n k (Some a) None e g h c p = absurd h
  target_by n k (Some a) (Some x) e g h c p =
      record { put = a; is_of = e; listed = x; is_listed = g; is_resource = h; is_dependent = c }

  put_by_number : (b : Bool) (n k : ℕ) → is_put f n ≡ b
      → option_and_then (λ m. place_in m (in_template z f)) (if b then Some n else None) ≡ Some k → is_put f n ≡ true
  put_by_number true n k e h = e
  put_by_number false n k e h = absurd cc

  pub numbered_put : (n k : ℕ) → number_of z f n ≡ Some k → is_put f n ≡ true
  numbered_put n k e = put_by_number (is_put f n) n k refl e

  pub target : (n k : ℕ) → number_of z f n ≡ Some k → Target z files f v n k
  target n k e =
      target_by n k (put_of n f) (resource_at v k) refl refl
      (resource_matches z files f v match k (Some n) (numbers.there z f n k e))
      (dependents k (Some n) (numbers.there z f n k e)) (numbered_put n k e)

-- ---- its name

-- a text of which a key can be formed with the type
pub record IsTitle (place : Place) (kind : Kind) (j : Json) : Type 0 where
  pub title : List ℕ
  pub is : j ≡ text title
  pub is_whole : is_whole (id_at place kind.type title) ≡ true

whole_by : (b : Bool) (key : ResourceId) → is_some (if b then Some key else None) ≡ true → b ≡ true
whole_by true key e = refl
whole_by false key e = absurd (true≢false (sym e))

title_by : (place : Place) (kind : Kind) (j : Json) → program.is_name place j (Some kind) ≡ true
    → IsTitle place kind j
title_by place kind (text n) e = record {
  title = n;
  is = refl;
  is_whole = whole_by (is_whole (id_at place kind.type n)) (key_at place kind.type n) e;
}
title_by place kind null e = absurd (true≢false (sym e))
title_by place kind (bool b) e = absurd (true≢false (sym e))
title_by place kind (int z) e = absurd (true≢false (sym e))
title_by place kind (array js) e = absurd (true≢false (sym e))
title_by place kind (object ms) e = absurd (true≢false (sym e))

front_filled : (xs ys : List (List ℕ)) → list_any is_empty (xs ++ ys) ≡ false → list_any is_empty xs ≡ false
front_filled [] ys e = refl
front_filled (x ∷ xs) ys e =
    nor (is_empty x) (list_any is_empty xs) (none_in_front is_empty x (xs ++ ys) e)
    (front_filled xs ys (none_after is_empty x (xs ++ ys) e))

rest_filled : (xs ys : List (List ℕ)) → list_any is_empty (xs ++ ys) ≡ false → list_any is_empty ys ≡ false
rest_filled [] ys e = e
rest_filled (x ∷ xs) ys e = rest_filled xs ys (none_after is_empty x (xs ++ ys) e)

module _ (place : Place) (kind title : List ℕ) (w : is_whole (id_at place kind title) ≡ true) where
  filled : list_any is_empty (segments kind ++ segments title) ≡ false
  filled =
      let a = of_not (has_empty_segment (id_at place kind title))
      (both (not (has_empty_segment (id_at place kind title)))
      ((length (segments kind) == suc (length (segments title))) && nat_lt 0 (length (segments title))) w).0 in
      none_after is_empty place.group (segments kind ++ segments title)
      (none_after is_empty place.subscription (place.group ∷ (segments kind ++ segments title)) a)

  pub type_begins : BeginsPlain kind
  type_begins = filled_begins kind (front_filled (segments kind) (segments title) filled)

  has_names : nat_lt 0 (length (segments title)) ≡ true
  has_names =
      (both (length (segments kind) == suc (length (segments title))) (nat_lt 0 (length (segments title)))
      (both (not (has_empty_segment (id_at place kind title)))
      ((length (segments kind) == suc (length (segments title))) && nat_lt 0 (length (segments title))) w).1).1

  names_begin : (ss : List (List ℕ)) → segments title ≡ ss → BeginsPlain (joined (map fold ss))
  names_begin [] e = absurd (true≢false (sym has_names ∙ ap (λ ss. nat_lt 0 (length ss)) e))
  names_begin (s ∷ ss) e =
      joined_begins (fold s) (map fold ss)
      (is_empty-fold s
      ∙ none_in_front is_empty s ss
      (subst (λ ss. list_any is_empty ss ≡ false) e (rest_filled (segments kind) (segments title) filled)))
      (has_slash-fold s
      ∙ none_in_front has_slash s ss (subst (λ ss. list_any has_slash ss ≡ false) e (segments_cut title)))

  pub key_begins : BeginsPlain (joined (key_at place kind title).names)
  key_begins = names_begin (segments title) refl

-- ---- the instance

module _ (d : SourceProgram) (w : World) (is_world : IsWorld (program.meaning d) w) (p : Position) (f : SourceFile)
    (file : file_at d.files p ≡ Some f) (o : Step) (a : Put) (is_of : put_of o.resource f ≡ Some a)
    (counted : nat_lt o.copy (copies (w (count p o.resource))) ≡ true) where
  abbrev name_reading : SourceFile → Put → Reads Json
  name_reading f x = in_file d p f (λ here. (whole here).full_name x.number (frames_of here x o.copy))

  raw_name : program.raw d (name p o) ≡ Some (name_reading f a)
  unfolding program.raw
  raw_name =
      ap (option_and_then (λ f. option_map (name_reading f) (put_of o.resource f))) file
      ∙ ap (option_map (name_reading f)) is_of

  pub kind_here : program.kinds d p o.resource ≡ Some a.kind
  kind_here =
      ap (λ x. option_map (λ (y : Put). y.kind) (option_and_then (put_of o.resource) x)) file
      ∙ ap (option_map (λ (y : Put). y.kind)) is_of

  pub named : HasValue w (program.rule d (name p o)) (name_reading f a) (w (name p o))
  named = valued d w is_world (name p o) refl (name_reading f a) raw_name counted

  pub title_here : IsTitle d.place a.kind named.value
  title_here =
      title_by d.place a.kind named.value (sym (ap (program.is_name d.place named.value) kind_here) ∙ named.meets)

  pub has_title : w (name p o) ≡ Some (text title_here.title)
  has_title = named.has ∙ ap (λ j. Some j) title_here.is

  pub key_here : key_of d w p o ≡ Some (key_at d.place a.kind.type title_here.title)
  key_here =
      ap (option_and_then (key_by d.place (program.kinds d p o.resource))) has_title
      ∙ ap (λ k. key_by d.place k (text title_here.title)) kind_here
