-- What steps of the code come to, together.
use Rattle.std.proofs.Common.{◌≡◌, ℕ, zero, suc, ◌<◌, Bool, true, false, List, [], ◌∷◌, ◌++◌}
use Rattle.std.proofs.Common.{map, length}
use Rattle.std.proofs.Common.{get_or, Some, None, Result, Ok, Err, refl, sym, ap, subst, ◌∙◌, arith}
use Rattle.std.proofs.lemmas.List.{length-map, map-append}
use Rattle.std.specs.Prelude.{IfOk, slice_get}
use Rattle.std.specs.declared.vec.Vec.{Vec}
use Rattle.std.specs.declared.alloc.Global.{Global}
use Rattle.std.specs.BTreeMap.{Updates}
use Rattle.std.proofs.lemmas.Option.{slice_get_within}
use Rattle.reading.specs.World.{Each}
use Rattle.arm_value.specs.Json.{Json}
use Rattle.template_tree.specs.View.{body_tree}
use Rattle.template_tree.specs.declared.resource.Body.{Body}
use Rattle.template_tree.specs.declared.resource.Body.TheVariants.{Members, Deployment}
use Rattle.template_tree.specs.declared.resource.Deployment as code
use Rattle.arm_value.specs.Json.{Member}
use Rattle.plan_filling.specs.Resources as cells
use Rattle.plan_filling.specs.Resources.{Nested, nested_at, nested_in}
use Rattle.plan_filling.specs.Meaning as meaning
use Rattle.plan_table.specs.declared.frame.Frame.{Frame}
use Rattle.plan_table.specs.declared.line.Line.{Line}
use Rattle.plan_table.specs.declared.line.Spot.{Spot}
use Rattle.plan_table.specs.declared.line.Spot.TheVariants.{Included}
use Rattle.plan_table.specs.declared.listed.Listed.{Listed}
use Rattle.plan_table.specs.Listed.{listed_of}
use Rattle.plan_table.specs.Opened.{Opened, opened_of, opened_at, inside_of, nested_view, IsKept}
use Rattle.plan_table.specs.Lines.{IsNumber, IsPlaced, new_line, line_at}
use Rattle.plan_table.specs.Keys.{key_of, key_cmp, Index, Indexes}
use Rattle.plan_table.specs.Spots.{scope_spots}
use Rattle.plan_table.specs.Laid.{Laid, IsAlone}
use Rattle.plan_table.proofs.KeyLemmas.{indexed_more}
use Rattle.plan_table.proofs.ScopeLemmas.{Extends, extends_more, key_still, opened_last, length_last, resource_here}
use Rattle.plan_table.proofs.ScopeLemmas.{nested_here}
use Rattle.plan_table.proofs.FrameLemmas.{frame_is, resource_read}
use Rattle.plan_table.proofs.FillLemmas.{scope_placed}

-- what holds of a result by two facts of it
pub ok_both : {X E : Type 0} (r : Result X E) (P Q R : X → Type 0) → IfOk r P → IfOk r Q → ((x : X) → P x → Q x → R x)
    → IfOk r R
ok_both (Ok x) P Q R p q h = h x p q
ok_both (Err e) P Q R p q h = tt

pub listed_more : (os : List Opened) (ix jx : Index) (ls ms : List Line) (s : Spot) (key : Vec ℕ Global) (n : ℕ)
    → Indexes os ix ls → key.items ≡ key_of os s → n ≡ length ls → Updates key_cmp ix jx key (Some n)
    → ms ≡ ls ++ new_line s ∷ [] → Indexes os jx ms
listed_more os ix jx ls ms s key n x is e u f =
    subst (λ (xs : List Line). Indexes os jx xs) (sym f)
    (indexed_more os ix jx ls s key x is (subst (λ (k : ℕ). Updates key_cmp ix jx key (Some k)) e u))

-- a line that was read
default_line : (ls : List Line) (j : ℕ) (d : Line) → j < length ls → line_at ls j ≡ get_or ls j d
default_line [] j d h = absurd (omega (arith, h))
default_line (l ∷ ls) zero d h = refl
default_line (l ∷ ls) (suc j) d h = default_line ls j d (omega (arith, h))

pub spot_read : (ls : List Line) (j : ℕ) (x : Line) (s : Spot) → j < length ls → x ≡ get_or ls j x → x.spot ≡ s
    → (line_at ls j).spot ≡ s
spot_read ls j x s h e f = ap (λ (l : Line). l.spot) (default_line ls j x h ∙ sym e) ∙ f

pub alone_read : (os : List Opened) (ls : List Line) (j : ℕ) (x : Line) (s : Spot) (v : Json) → j < length ls
    → x ≡ get_or ls j x → x.spot ≡ s → IsAlone os s v → IsAlone os (line_at ls j).spot v
alone_read os ls j x s v h e f a = subst (λ (y : Spot). IsAlone os y v) (sym (spot_read ls j x s h e f)) a

-- ---- frames

pub added_frame : (fs gs : List Frame) (f o : Frame) (around number r i : ℕ) (n : Nested) (x : cells.Listed)
    → gs ≡ fs ++ o ∷ [] → number ≡ length fs → around < length fs → f ≡ get_or fs around f
    → ((y : cells.Listed) → slice_get (opened_of f).resources r ≡ Some y
    → opened_of o ≡ inside_of around number (opened_of f) y r i n)
    → slice_get (opened_at (map opened_of fs) around).resources r ≡ Some x
    → map opened_of gs ≡ map opened_of fs
    ++ inside_of around (length fs) (opened_at (map opened_of fs) around) x r i n ∷ []
added_frame fs gs f o around number r i n x e m h is inside has =
    let same : opened_at (map opened_of fs) around ≡ opened_of f = frame_is fs around f h is in
    let here : slice_get (opened_of f).resources r ≡ Some x =
    subst (λ (y : Opened). slice_get y.resources r ≡ Some x) same has in
    ap (map opened_of) e ∙ map-append opened_of fs (o ∷ [])
    ∙ ap (λ (y : Opened). map opened_of fs ++ y ∷ []) (inside x here
    ∙ ap (λ k. inside_of around k (opened_of f) x r i n) m
    ∙ ap (λ (y : Opened). inside_of around (length fs) y x r i n) (sym same))

pub added_spots : (fs gs : List Frame) (o : Frame) (number : ℕ) (ss : List Spot) → gs ≡ fs ++ o ∷ []
    → number ≡ length fs → ss ≡ scope_spots number (opened_of o)
    → ss ≡ scope_spots (length fs) (opened_at (map opened_of gs) (length fs))
added_spots fs gs o number ss e m s =
    s ∙ ap (λ k. scope_spots k (opened_of o)) m
    ∙ ap (scope_spots (length fs)) (sym (opened_last (map opened_of fs) (opened_of o))
    ∙ ap (opened_at (map opened_of fs ++ opened_of o ∷ [])) (length-map fs opened_of)
    ∙ ap (λ (os : List Opened). opened_at os (length fs)) (sym (map-append opened_of fs (o ∷ [])))
    ∙ ap (λ (hs : List Frame). opened_at (map opened_of hs) (length fs)) (sym e))

pub indexed_still : (os us : List Opened) (ix : Index) (ls : List Line) → Extends os us
    → ((j : ℕ) → j < length ls → IsPlaced os (line_at ls j).spot) → Indexes os ix ls → Indexes us ix ls
indexed_still os us ix ls x placed i = record {
  sound = λ s j k. let r = i.sound s j k in
      (r.0, key_still os us x (line_at ls j).spot (placed j r.0) ∙ r.1);
  complete = λ s j h e. i.complete s j h (e ∙ key_still os us x (line_at ls j).spot (placed j h));
}

-- ---- instances

-- what the body of a resource of a frame says of its nested deployment
nested_of_body : (b : Body) (d : code.Deployment) → b ≡ Deployment d → nested_in (body_tree b) ≡ Some (nested_view d)
nested_of_body b d e = ap (λ x. nested_in (body_tree x)) e

none_of_body : (b : Body) (ms : List Member) → b ≡ Members ms → nested_in (body_tree b) ≡ None
none_of_body b ms e = ap (λ x. nested_in (body_tree x)) e

module _ (d : meaning.Deployment) (fs : List Frame) (ix : Index) (ls : List Line) (at f r i : ℕ)
    (laid : Laid d (map opened_of fs) ix ls) (h : at < length ls) (is : (line_at ls at).spot ≡ Included f r i) where
  abbrev os : List Opened
  os = map opened_of fs

  placed : IsPlaced os (Included f r i)
  placed = subst (λ s. IsPlaced os s) is (laid.placed at h)

  pub frame_there : f < length fs
  frame_there = let p = placed.there in let n = length-map fs opened_of in omega (arith, p, n)

  pub copy_within : i < 800
  copy_within = placed.declared.1

  number : IsNumber (opened_at os f) r
  number = placed.declared.0

  module _ (fr : Frame) (read : fr ≡ get_or fs f fr) where
    same : opened_at os f ≡ opened_of fr
    same = frame_is fs f fr frame_there read

    pub resource_there : r < length fr.resources.items
    resource_there =
        let l : r < length (opened_at os f).resources =
        slice_get_within (opened_at os f).resources r number.listed number.has in
        let m : (opened_at os f).resources ≡ map listed_of fr.resources.items = ap (λ (o : Opened). o.resources) same in
        let n = length-map fr.resources.items listed_of in
        omega (arith, subst (λ (xs : List cells.Listed). r < length xs) m l, n)

    module _ (x : Listed) (item : x ≡ get_or fr.resources.items r x) where
      pub has_listed : slice_get (opened_at os f).resources r ≡ Some (listed_of x)
      has_listed =
          ap (λ (o : Opened). slice_get o.resources r) same
          ∙ resource_read fr.resources.items r x resource_there item

      pub has_nested : (dep : code.Deployment) → x.body.now ≡ Deployment dep
          → (y : cells.Listed) × ((slice_get (opened_at os f).resources r ≡ Some y)
          × (nested_in y.content ≡ Some (nested_view dep)))
      has_nested dep e = (listed_of x, (has_listed, nested_of_body x.body.now dep e))

      one_listed : (y : cells.Listed) → slice_get (opened_at os f).resources r ≡ Some y → y ≡ listed_of x
      one_listed y e = let two : Some y ≡ Some (listed_of x) = sym e ∙ has_listed in cc

      pub has_no_nested : (ms : List Member) → x.body.now ≡ Members ms → nested_at (opened_at os f).template r ≡ None
      has_no_nested ms e =
          let kept : IsKept d os f (opened_at os f) = laid.kept f placed.there in
          nested_here (opened_at os f).template r (listed_of x)
          (resource_here (opened_at os f).template (opened_at os f) r (listed_of x) kept.resources has_listed
          (ap (λ (y : cells.Listed). y.declaration.existing) (sym (one_listed number.listed number.has))
          ∙ number.is_put))
          ∙ none_of_body x.body.now ms e

-- the spots of a scope that was added
pub added_placed : (os us : List Opened) (o : Opened) (n : ℕ) (ss : List Spot) → us ≡ os ++ o ∷ [] → n ≡ length os
    → ss ≡ scope_spots n (opened_at us n) → Each (IsPlaced us) ss
added_placed os us o n ss e m f =
    subst (λ xs. Each (IsPlaced us) xs) (sym f)
    (scope_placed us n (let l = length_last os o in omega (arith, m, ap length e, l)))

pub extended : (os us : List Opened) (o : Opened) → us ≡ os ++ o ∷ [] → Extends os us
extended os us o e =
    subst (λ (xs : List Opened). Extends os xs) (sym e) (extends_more os o)

-- a resource that a frame has
pub resource_in_frame : (fs : List Frame) (f r : ℕ) (fr : Frame) (x : cells.Listed) → f < length fs
    → fr ≡ get_or fs f fr → slice_get (opened_at (map opened_of fs) f).resources r ≡ Some x
    → r < length fr.resources.items
resource_in_frame fs f r fr x h e s =
    let same : opened_at (map opened_of fs) f ≡ opened_of fr = frame_is fs f fr h e in
    let l : r < length (opened_at (map opened_of fs) f).resources =
    slice_get_within (opened_at (map opened_of fs) f).resources r x s in
    let n = length-map fr.resources.items listed_of in
    omega (arith, subst (λ (o : Opened). r < length o.resources) same l, n)
